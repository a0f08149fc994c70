use Rattle.std.proofs.Common.{ℕ, List, sym, ◌∙◌, arith}
use Rattle.std.specs.Prelude.{None}
use Rattle.std.proofs.lemmas.Result.{err_from_is_err_and}
use Rattle.zst_space.specs.FreeSectors.{FreeSectors}
use Rattle.zst_block.specs.Blocks.{Has}
use Rattle.zst_block.proofs.IoCallLemmas.{Looks-none, Looks-then}
use Rattle.zst_model.specs.fields.Lists.{has_pair}
use Rattle.zst_model.specs.pools.RedSet.{red_set}
use Rattle.zst_objset.proofs.LeafLaws.{look_on}
use Rattle.zst_redact.specs.Passes.{HoldStates}
use Rattle.zst_check.proofs.SamePairs.{later_number, measure_falls, none_listed, none_lost, same_all, same_none, same_on}
use Rattle.zst_check.proofs.list_pairs.differing_pair.Goals as goal

pub runs-init : goal.runs-init
runs-init g c = record {
  some = omega arith;
  same = λ state kept honest hold. same_none (red_set state.state c.args.own.now.number kept) (has_pair c.args.list.now);
  looks = Looks-none _;
}

pub runs-preserved : goal.runs-preserved
runs-preserved g c =
    let was = c.runs.invariant in
    let at = c.runs.at in
    let object = c.in-Same.object in
    let block = c.in-Same.block in
    let next = c.in_ok-wanted.ensures.looks in
    record {
      some = later_number at object block was.some (c.in-Same.ensures.moves at c.in_ok-wanted.ensures.range c.run_from.ensures.range);
      same = λ state kept honest hold.
          let pairs = red_set state.state c.args.own.now.number kept in
          let early = next.reads.honest honest in
          let on = look_on (λ (seen : List ℕ) (space : FreeSectors). HoldStates (Has seen space) c.args.own.now.objects c.args.sets.now state kept) was.looks hold in
          same_on pairs (has_pair c.args.list.now) at.0 at.1 (was.same state kept early hold) object block
          (c.in-Same.ensures.told pairs (has_pair c.args.list.now) at (c.in_ok-wanted.ensures.found state kept honest on) c.run_from.ensures.found);
      looks = Looks-then {stop = None} was.looks next;
    }

pub runs-smaller : goal.runs-smaller
runs-smaller g c = measure_falls c.runs.at c.in-Same.object c.in-Same.block (c.in-Same.ensures.moves c.runs.at c.in_ok-wanted.ensures.range c.run_from.ensures.range)

pub returns-in_err-wanted-clause-found : goal.returns-in_err-wanted-clause-found
returns-in_err-wanted-clause-found g c = λ state kept honest hold.
    let p = err_from_is_err_and c.from_residual.result c.from_residual.ensures.1 in
    let on = look_on (λ (seen : List ℕ) (space : FreeSectors). HoldStates (Has seen space) c.args.own.now.objects c.args.sets.now state kept) c.runs.invariant.looks hold in
    rw (p.1, p.2) (c.in_err-wanted.ensures.found state kept honest on)

pub returns-in-End-clause-found : goal.returns-in-End-clause-found
returns-in-End-clause-found g c = λ state kept honest hold.
    let was = c.runs.invariant in
    let at = c.runs.at in
    let pairs = red_set state.state c.args.own.now.number kept in
    let early = c.in_ok-wanted.ensures.looks.reads.honest honest in
    let on = look_on (λ (seen : List ℕ) (space : FreeSectors). HoldStates (Has seen space) c.args.own.now.objects c.args.sets.now state kept) was.looks hold in
    let ends = c.in-End.ensures.told pairs (has_pair c.args.list.now) at (c.in_ok-wanted.ensures.found state kept honest on) c.run_from.ensures.found in
    same_all pairs (has_pair c.args.list.now) at.0 at.1 (was.same state kept early hold) ends.0 ends.1
    (λ i. none_listed c.args.list.now i c.run_from.ensures.lawful ∙ sym (none_lost state.state c.args.own.now.number kept i hold.snapshot.lawful))

pub returns-in-Differs-clause-found : goal.returns-in-Differs-clause-found
returns-in-Differs-clause-found g c = λ state kept honest hold.
    let was = c.runs.invariant in
    let on = look_on (λ (seen : List ℕ) (space : FreeSectors). HoldStates (Has seen space) c.args.own.now.objects c.args.sets.now state kept) was.looks hold in
    c.in-Differs.ensures.told (red_set state.state c.args.own.now.number kept) (has_pair c.args.list.now) c.runs.at (c.in_ok-wanted.ensures.found state kept honest on) c.run_from.ensures.found
