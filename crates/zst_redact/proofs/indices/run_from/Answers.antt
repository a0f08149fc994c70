use Rattle.std.proofs.Common.{ℕ, ◌<◌, List, ◌∷◌, ⊎_elim, subst, arith}
use Rattle.std.specs.Prelude.{None}
use Rattle.std.specs.List.{AllZip}
use Rattle.std.proofs.lemmas.Bool.{cases_lt}
use Rattle.std.proofs.lemmas.Result.{err_from_is_err_and}
use Rattle.zst_space.specs.FreeSectors.{FreeSectors}
use Rattle.zst_block.specs.Blocks.{Has}
use Rattle.zst_block.specs.IoStates.{blocks_of}
use Rattle.zst_block.proofs.IoCallLemmas.{Looks-none, Looks-then}
use Rattle.zst_model.specs.states.State.{index_bound}
use Rattle.zst_tree.specs.Damage.{IsSeen}
use Rattle.zst_tree.proofs.Damage.{seen_before}
use Rattle.zst_objset.specs.Damage.{IfDamage, StandsIn}
use Rattle.zst_objset.specs.Dnodes.{ObjectIs}
use Rattle.zst_objset.specs.Sets.{SetHolds}
use Rattle.zst_objset.proofs.LeafLaws.{look_on}
use Rattle.zst_redact.specs.Damage.{IsDamagedAmong}
use Rattle.zst_redact.specs.Passes.{AheadFits, TellsAhead}
use Rattle.zst_redact.specs.Wanted.{are_wanted, sets_beside}
use Rattle.zst_redact.specs.declared.ahead.Ahead.TheVariants.{Here, Later}
use Rattle.zst_redact.proofs.WantedIndices.{found_here, found_none, none_past}
use Rattle.zst_redact.proofs.indices.run_from.Goals as goal

pub loop-at-init : goal.loop-at-init
loop-at-init g c = record {
  from_on = omega arith;
  none = λ own date dates map kept honest lawful is each i on before. absurd (omega (arith, on, before));
  looks = Looks-none _;
}

pub loop-at-preserved : goal.loop-at-preserved
loop-at-preserved g c =
    let was = c.loop-at.invariant in
    let looks = c.in_ok-count.ensures.looks in
    let low = was.from_on in
    let range : c.loop-at.at < c.in-Later.to = subst (AheadFits c.loop-at.at c.args.dnode.now.end) c.in-Later.is c.in_ok-count.ensures.range in
    record {
      from_on = omega (arith, low, range);
      none = λ own date dates map kept honest lawful is each i on before.
          let honest_then = looks.reads.honest honest in
          let own_on = look_on (λ (seen : List ℕ) (space : FreeSectors). ObjectIs (Has seen space) c.args.dnode.now own date dates map) was.looks is in
          let each_on = look_on (λ (seen : List ℕ) (space : FreeSectors). AllZip (SetHolds (Has seen space)) (sets_beside c.args.wanted) kept) was.looks each in
          let tells : TellsAhead (are_wanted c.args.wanted own kept c.args.object) c.loop-at.at (Later c.in-Later.to) =
          subst (TellsAhead (are_wanted c.args.wanted own kept c.args.object) c.loop-at.at) c.in-Later.is (c.in_ok-count.ensures.tells own date dates map kept honest lawful own_on each_on) in
          ⊎_elim (λ early. was.none own date dates map kept honest_then lawful is each i on early) (λ behind. tells i behind before) (cases_lt i c.loop-at.at);
      looks = Looks-then {stop = None} was.looks looks;
    }

pub returns-in_err-count-clause-found : goal.returns-in_err-count-clause-found
returns-in_err-count-clause-found g c = λ own date dates map kept honest lawful is each.
    let p = err_from_is_err_and c.from_residual.result c.from_residual.ensures.1 in
    let was = c.loop-at.invariant in
    let own_on = look_on (λ (seen : List ℕ) (space : FreeSectors). ObjectIs (Has seen space) c.args.dnode.now own date dates map) was.looks is in
    let each_on = look_on (λ (seen : List ℕ) (space : FreeSectors). AllZip (SetHolds (Has seen space)) (sets_beside c.args.wanted) kept) was.looks each in
    rw (p.1, p.2) (c.in_err-count.ensures.tells own date dates map kept honest lawful own_on each_on)

pub returns-in_err-count-clause-range : goal.returns-in_err-count-clause-range
returns-in_err-count-clause-range g c =
    let p = err_from_is_err_and c.from_residual.result c.from_residual.ensures.1 in
    rw p.1 tt

pub returns-in_err-count-clause-damaged : goal.returns-in_err-count-clause-damaged
returns-in_err-count-clause-damaged g c = λ snap honest stands.
    let p = err_from_is_err_and c.from_residual.result c.from_residual.ensures.1 in
    let was = c.loop-at.invariant in
    let on = look_on (λ (seen : List ℕ) (space : FreeSectors). StandsIn (IsSeen seen) snap c.args.dnode.now) was.looks stands in
    rw (p.1, p.2) (seen_before was.looks (λ (seen : List ℕ) (size : ℕ). IfDamage c.in_err-count.field-0.0 (IsDamagedAmong (IsSeen seen) size (snap ∷ sets_beside c.args.wanted))) (c.in_err-count.ensures.damaged snap honest on))

pub returns-in_err-count-clause-looks : goal.returns-in_err-count-clause-looks
returns-in_err-count-clause-looks g c =
    let p = err_from_is_err_and c.from_residual.result c.from_residual.ensures.1 in
    rw (p.1, p.2) (Looks-then c.loop-at.invariant.looks c.in_err-count.ensures.looks)

pub returns-in-Never-clause-found : goal.returns-in-Never-clause-found
returns-in-Never-clause-found g c = λ own date dates map kept honest lawful is each.
    let was = c.loop-at.invariant in
    let honest_then = c.in_ok-count.ensures.looks.reads.honest honest in
    let own_on = look_on (λ (seen : List ℕ) (space : FreeSectors). ObjectIs (Has seen space) c.args.dnode.now own date dates map) was.looks is in
    let each_on = look_on (λ (seen : List ℕ) (space : FreeSectors). AllZip (SetHolds (Has seen space)) (sets_beside c.args.wanted) kept) was.looks each in
    found_none c.args.wanted own kept c.args.object c.args.from c.loop-at.at (was.none own date dates map kept honest_then lawful is each)
    (subst (TellsAhead (are_wanted c.args.wanted own kept c.args.object) c.loop-at.at) c.in-Never.is (c.in_ok-count.ensures.tells own date dates map kept honest lawful own_on each_on))

pub returns-in-Never-clause-range : goal.returns-in-Never-clause-range
returns-in-Never-clause-range g c = tt

pub returns-in-Never-clause-damaged : goal.returns-in-Never-clause-damaged
returns-in-Never-clause-damaged g c = λ snap honest stands. tt

pub returns-in-Never-clause-looks : goal.returns-in-Never-clause-looks
returns-in-Never-clause-looks g c = Looks-then c.loop-at.invariant.looks c.in_ok-count.ensures.looks

pub returns-in-Here-clause-found : goal.returns-in-Here-clause-found
unfolding index_bound
returns-in-Here-clause-found g c = λ own date dates map kept honest lawful is each.
    let was = c.loop-at.invariant in
    let honest_then = c.in_ok-count.ensures.looks.reads.honest honest in
    let own_on = look_on (λ (seen : List ℕ) (space : FreeSectors). ObjectIs (Has seen space) c.args.dnode.now own date dates map) was.looks is in
    let each_on = look_on (λ (seen : List ℕ) (space : FreeSectors). AllZip (SetHolds (Has seen space)) (sets_beside c.args.wanted) kept) was.looks each in
    let range : AheadFits c.loop-at.at c.args.dnode.now.end (Here c.in-Here.count) = subst (AheadFits c.loop-at.at c.args.dnode.now.end) c.in-Here.is c.in_ok-count.ensures.range in
    let end = c.requires.dnode.end in
    found_here c.args.wanted own kept c.args.object c.args.from c.loop-at.at c.in-Here.count was.from_on (omega (arith, end)) range.0 (was.none own date dates map kept honest_then lawful is each)
    (subst (TellsAhead (are_wanted c.args.wanted own kept c.args.object) c.loop-at.at) c.in-Here.is (c.in_ok-count.ensures.tells own date dates map kept honest lawful own_on each_on))

pub returns-in-Here-clause-range : goal.returns-in-Here-clause-range
unfolding index_bound
returns-in-Here-clause-range g c =
    let range : AheadFits c.loop-at.at c.args.dnode.now.end (Here c.in-Here.count) = subst (AheadFits c.loop-at.at c.args.dnode.now.end) c.in-Here.is c.in_ok-count.ensures.range in
    let under = range.1 in
    let end = c.requires.dnode.end in
    (c.loop-at.invariant.from_on, range.0, omega (arith, under, end))

pub returns-in-Here-clause-damaged : goal.returns-in-Here-clause-damaged
returns-in-Here-clause-damaged g c = λ snap honest stands. tt

pub returns-in-Here-clause-looks : goal.returns-in-Here-clause-looks
returns-in-Here-clause-looks g c = Looks-then c.loop-at.invariant.looks c.in_ok-count.ensures.looks

pub returns-clause-found : goal.returns-clause-found
returns-clause-found g c = λ own date dates map kept honest lawful is each.
    none_past c.args.wanted own kept c.args.object c.args.from (blocks_of c.args.io.now) c.args.dnode.now date dates map is c.loop-at.at (omega arith) (c.loop-at.invariant.none own date dates map kept honest lawful is each)

pub returns-clause-range : goal.returns-clause-range
returns-clause-range g c = tt

pub returns-clause-damaged : goal.returns-clause-damaged
returns-clause-damaged g c = λ snap honest stands. tt

pub returns-clause-looks : goal.returns-clause-looks
returns-clause-looks g c = c.loop-at.invariant.looks
