use Rattle.std.proofs.Common.{◌≡◌, ℕ, ◌≤◌, false, length, List, [], refl, sym, subst, arith}
use Rattle.std.specs.Prelude.{None}
use Rattle.std.proofs.lemmas.Result.{err_from_is_err_and}
use Rattle.zst_space.specs.FreeSectors.{FreeSectors}
use Rattle.zst_block.specs.Blocks.{Has}
use Rattle.zst_block.proofs.IoCallLemmas.{Looks-none, Looks-then}
use Rattle.zst_model.specs.fields.Lists.{HasNoneFrom, IsRunList, Runs, has_pair}
use Rattle.zst_model.specs.fields.RunsOf.{IsListBefore}
use Rattle.zst_model.specs.pools.Limits.{most_runs}
use Rattle.zst_objset.proofs.LeafLaws.{look_on}
use Rattle.zst_redact.specs.Passes.{HoldStates, IsRunFrom, RunFits}
use Rattle.zst_redact.specs.Wanted.{sets_beside, wanted_pairs}
use Rattle.zst_redact.proofs.GrowingLists.{found_run, later_number, list_begins, list_ends, list_grows, measure_falls, none_after, none_behind, put_refused}
use Rattle.zst_redact.proofs.WantedPairs.{wanted_bounded}
use Rattle.zst_redact.proofs.lists.counted.Goals as goal

pub runs-init : goal.runs-init
runs-init g c =
    let made : [] ≡ c.empty-list.result = sym c.empty-list.ensures in
    record {
      some = omega arith;
      lawful = subst IsRunList made refl;
      none = λ k i after. subst (λ (runs : Runs). has_pair runs k i ≡ false) made refl;
      short = subst (λ (runs : Runs). length runs ≤ most_runs) made (omega arith);
      grown = λ state kept honest hold. subst (IsListBefore (wanted_pairs c.args.wanted state kept) 1 0) made (list_begins (wanted_pairs c.args.wanted state kept));
      looks = Looks-none _;
    }

pub runs-preserved : goal.runs-preserved
runs-preserved g c =
    let was = c.runs.invariant in
    let at = c.runs.at in
    let run = c.in-Ok-Some.run' in
    let next = rw c.in-Ok-Some.is at c.next_run.ensures.looks in
    let fits : RunFits at run = rw (c.in-Ok-Some.is, c.in-Ok-Some.field-0-is) at c.next_run.ensures.range in
    let put = c.in_ok-put-in-Ok-Some.ensures in
    record {
      some = later_number at.0 at.1 run.object run.first was.some fits.after;
      lawful = put.lawful;
      none = none_behind c.runs.list c.put.new.list run put.puts (none_after c.runs.list at.0 at.1 run.object run.first fits.after was.none);
      short = put.short was.short;
      grown = λ state kept honest hold.
          let pairs = wanted_pairs c.args.wanted state kept in
          let early = next.reads.honest honest in
          let on = look_on (λ (seen : List ℕ) (space : FreeSectors). HoldStates (Has seen space) c.args.snap.now (sets_beside c.args.wanted) state kept) was.looks hold in
          let found : IsRunFrom pairs at.0 at.1 run = rw (c.in-Ok-Some.is, c.in-Ok-Some.field-0-is) at (c.next_run.ensures.found state kept honest on) in
          list_grows pairs c.runs.list c.put.new.list at.0 at.1 run (was.grown state kept early hold) found put.lawful put.puts;
      looks = Looks-then {stop = None} was.looks next;
    }

pub runs-smaller : goal.runs-smaller
runs-smaller g c =
    let fits : RunFits c.runs.at c.in-Ok-Some.run' = rw (c.in-Ok-Some.is, c.in-Ok-Some.field-0-is) at c.next_run.ensures.range in
    measure_falls c.runs.at c.in-Ok-Some.run' fits

pub put-requires-clause-run : goal.put-requires-clause-run
put-requires-clause-run g c =
    let fits : RunFits c.runs.at c.in-Ok-Some.run' = rw (c.in-Ok-Some.is, c.in-Ok-Some.field-0-is) at c.next_run.ensures.range in
    found_run c.runs.at c.in-Ok-Some.run' c.runs.invariant.some fits

pub put-requires-clause-behind : goal.put-requires-clause-behind
put-requires-clause-behind g c =
    let at = c.runs.at in
    let run = c.in-Ok-Some.run' in
    let fits : RunFits at run = rw (c.in-Ok-Some.is, c.in-Ok-Some.field-0-is) at c.next_run.ensures.range in
    none_after c.runs.list at.0 at.1 run.object run.first fits.after c.runs.invariant.none

pub returns-in-Ok-None-clause-list : goal.returns-in-Ok-None-clause-list
returns-in-Ok-None-clause-list g c = λ state kept honest hold.
    let was = c.runs.invariant in
    let pairs = wanted_pairs c.args.wanted state kept in
    let on = look_on (λ (seen : List ℕ) (space : FreeSectors). HoldStates (Has seen space) c.args.snap.now (sets_beside c.args.wanted) state kept) was.looks hold in
    let none : HasNoneFrom pairs c.runs.at.0 c.runs.at.1 = rw (c.in-Ok-None.is, c.in-Ok-None.field-0-is) at (c.next_run.ensures.found state kept honest on) in
    let same = list_ends pairs c.runs.list c.runs.at.0 c.runs.at.1 (was.grown state kept (c.next_run.ensures.looks.reads.honest honest) hold) none in
    (same, subst (λ (runs : Runs). length runs ≤ most_runs) same was.short)

pub returns-in_err-put-in-Ok-Some-clause-list : goal.returns-in_err-put-in-Ok-Some-clause-list
returns-in_err-put-in-Ok-Some-clause-list g c = λ state kept honest hold.
    let p = err_from_is_err_and c.from_residual.result c.from_residual.ensures.1 in
    let was = c.runs.invariant in
    let at = c.runs.at in
    let pairs = wanted_pairs c.args.wanted state kept in
    let on = look_on (λ (seen : List ℕ) (space : FreeSectors). HoldStates (Has seen space) c.args.snap.now (sets_beside c.args.wanted) state kept) was.looks hold in
    let found : IsRunFrom pairs at.0 at.1 c.in-Ok-Some.run' = rw (c.in-Ok-Some.is, c.in-Ok-Some.field-0-is) at (c.next_run.ensures.found state kept honest on) in
    rw (p.1, p.2) (put_refused pairs c.runs.list c.put.new.list at.0 at.1 c.in-Ok-Some.run' (wanted_bounded c.args.wanted state hold.snapshot.lawful kept)
    (was.grown state kept (c.next_run.ensures.looks.reads.honest honest) hold) found.least c.in_err-put-in-Ok-Some.field-0.0 c.in_err-put-in-Ok-Some.ensures.puts)

pub returns-in-Err-clause-list : goal.returns-in-Err-clause-list
returns-in-Err-clause-list g c = λ state kept honest hold.
    let on = look_on (λ (seen : List ℕ) (space : FreeSectors). HoldStates (Has seen space) c.args.snap.now (sets_beside c.args.wanted) state kept) c.runs.invariant.looks hold in
    rw c.in-Err.is at (c.next_run.ensures.found state kept honest on)
