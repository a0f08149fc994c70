use Rattle.std.proofs.Common.{inl, inr, refl, ℕ, ◌+◌, ◌^◌, ◌≤◌, List, ◌∷◌, subst, arith}
use Rattle.std.specs.Prelude.{IfSome, None, Option}
use Rattle.std.proofs.lemmas.Result.{err_from_is_err_and}
use Rattle.zst_space.specs.FreeSectors.{FreeSectors}
use Rattle.zst_block.specs.Blocks.{Has}
use Rattle.zst_block.proofs.IoCallLemmas.{Looks-none, Looks-then}
use Rattle.zst_model.specs.states.State.{number_bound}
use Rattle.zst_tree.specs.Damage.{IsSeen}
use Rattle.zst_tree.proofs.Damage.{seen_before}
use Rattle.zst_objset.specs.Damage.{IfDamage}
use Rattle.zst_objset.proofs.LeafLaws.{look_on}
use Rattle.zst_redact.specs.Damage.{IsDamagedAmong}
use Rattle.zst_redact.specs.Passes.{FindsRunIn, HoldStates, PassesNumbers, RunFitsIn}
use Rattle.zst_redact.specs.Wanted.{sets_beside, wanted_pairs}
use Rattle.zst_redact.proofs.LeastPairs.{after_both, none_behind, none_left, run_here, searched_none, searched_on}
use Rattle.zst_redact.proofs.WantedPairs.{wanted_bounded}
use Rattle.zst_redact.proofs.runs.next_run.Goals as goal

pub loop-object-init : goal.loop-object-init
loop-object-init g c = record {
  some = c.requires.object;
  after = inr (refl, omega arith);
  searched = λ state kept honest hold. searched_none (wanted_pairs c.args.wanted state kept) c.args.start;
  looks = Looks-none _;
}

pub loop-object-preserved : goal.loop-object-preserved
loop-object-preserved g c =
    let was = c.loop-object.invariant in
    let first = c.in_ok-first.ensures.looks in
    let second = c.in_ok-later_number.ensures.looks in
    let object = c.loop-object.object in
    let index = c.loop-object.index in
    let to = c.in-Some-2.to in
    let over : object + 1 ≤ to = subst (λ (passed : Option ℕ). IfSome passed (λ to. object + 1 ≤ to)) c.in-Some-2.is c.in_ok-later_number.ensures.range in
    record {
      some = omega (arith, over);
      after = after_both c.args.start.0 c.args.start.1 object index to 0 was.after (inl (omega (arith, over)));
      searched = λ state kept honest hold.
          let then = second.reads.honest honest in
          let early = first.reads.honest then in
          let on = look_on (λ (seen : List ℕ) (space : FreeSectors). HoldStates (Has seen space) c.args.snap.now (sets_beside c.args.wanted) state kept) was.looks hold in
          let later = look_on (λ (seen : List ℕ) (space : FreeSectors). HoldStates (Has seen space) c.args.snap.now (sets_beside c.args.wanted) state kept) first on in
          let none = subst (λ (found : Option (ℕ × ℕ)). FindsRunIn (wanted_pairs c.args.wanted state kept object) index (2 ^ 43) found) c.in-None.is (c.in_ok-first.ensures.found state kept then on) in
          let passed = subst (λ (passed : Option ℕ). PassesNumbers (wanted_pairs c.args.wanted state kept) (object + 1) passed) c.in-Some-2.is (c.in_ok-later_number.ensures.passes state kept honest later) in
          searched_on (wanted_pairs c.args.wanted state kept) (wanted_bounded c.args.wanted state hold.snapshot.lawful kept) c.args.start object index (was.searched state kept early hold) was.after none to passed;
      looks = Looks-then {stop = None} was.looks (Looks-then {stop = None} first second);
    }

pub returns-in_err-first-clause-found : goal.returns-in_err-first-clause-found
returns-in_err-first-clause-found g c = λ state kept honest hold.
    let p = err_from_is_err_and c.from_residual.result c.from_residual.ensures.1 in
    let on = look_on (λ (seen : List ℕ) (space : FreeSectors). HoldStates (Has seen space) c.args.snap.now (sets_beside c.args.wanted) state kept) c.loop-object.invariant.looks hold in
    rw (p.1, p.2) (c.in_err-first.ensures.found state kept honest on)

pub returns-in_err-first-clause-range : goal.returns-in_err-first-clause-range
returns-in_err-first-clause-range g c =
    let p = err_from_is_err_and c.from_residual.result c.from_residual.ensures.1 in
    rw p.1 tt

pub returns-in_err-first-clause-damaged : goal.returns-in_err-first-clause-damaged
returns-in_err-first-clause-damaged g c = λ honest.
    let p = err_from_is_err_and c.from_residual.result c.from_residual.ensures.1 in
    rw (p.1, p.2) (seen_before c.loop-object.invariant.looks (λ (seen : List ℕ) (size : ℕ). IfDamage c.in_err-first.field-0.0 (IsDamagedAmong (IsSeen seen) size (c.args.snap.now ∷ sets_beside c.args.wanted))) (c.in_err-first.ensures.damaged honest))

pub returns-in_err-first-clause-looks : goal.returns-in_err-first-clause-looks
returns-in_err-first-clause-looks g c =
    let p = err_from_is_err_and c.from_residual.result c.from_residual.ensures.1 in
    rw (p.1, p.2) (Looks-then c.loop-object.invariant.looks c.in_err-first.ensures.looks)

pub returns-in-Some-clause-found : goal.returns-in-Some-clause-found
returns-in-Some-clause-found g c = λ state kept honest hold.
    let was = c.loop-object.invariant in
    let object = c.loop-object.object in
    let index = c.loop-object.index in
    let early = c.in_ok-first.ensures.looks.reads.honest honest in
    let on = look_on (λ (seen : List ℕ) (space : FreeSectors). HoldStates (Has seen space) c.args.snap.now (sets_beside c.args.wanted) state kept) was.looks hold in
    run_here (wanted_pairs c.args.wanted state kept) (wanted_bounded c.args.wanted state hold.snapshot.lawful kept) c.args.start object index (was.searched state kept early hold) was.after c.in-Some.first c.in-Some.count
    (subst (λ (found : Option (ℕ × ℕ)). FindsRunIn (wanted_pairs c.args.wanted state kept object) index (2 ^ 43) found) c.in-Some.is (c.in_ok-first.ensures.found state kept honest on))

pub returns-in-Some-clause-range : goal.returns-in-Some-clause-range
returns-in-Some-clause-range g c =
    let was = c.loop-object.invariant in
    let object = c.loop-object.object in
    let index = c.loop-object.index in
    let range : RunFitsIn index (c.in-Some.first, c.in-Some.count) = subst (λ (found : Option (ℕ × ℕ)). IfSome found (RunFitsIn index)) c.in-Some.is c.in_ok-first.ensures.range in
    record {
      after = after_both c.args.start.0 c.args.start.1 object index object c.in-Some.first was.after (inr (refl, range.0));
      number = omega arith;
      some = range.1;
      end = range.2;
    }

pub returns-in-Some-clause-damaged : goal.returns-in-Some-clause-damaged
returns-in-Some-clause-damaged g c = λ honest. tt

pub returns-in-Some-clause-looks : goal.returns-in-Some-clause-looks
returns-in-Some-clause-looks g c = Looks-then c.loop-object.invariant.looks c.in_ok-first.ensures.looks

pub returns-in_err-later_number-clause-found : goal.returns-in_err-later_number-clause-found
returns-in_err-later_number-clause-found g c = λ state kept honest hold.
    let p = err_from_is_err_and c.from_residual-in_err-later_number.result c.from_residual-in_err-later_number.ensures.1 in
    let on = look_on (λ (seen : List ℕ) (space : FreeSectors). HoldStates (Has seen space) c.args.snap.now (sets_beside c.args.wanted) state kept) c.loop-object.invariant.looks hold in
    let later = look_on (λ (seen : List ℕ) (space : FreeSectors). HoldStates (Has seen space) c.args.snap.now (sets_beside c.args.wanted) state kept) c.in_ok-first.ensures.looks on in
    rw (p.1, p.2) (c.in_err-later_number.ensures.passes state kept honest later)

pub returns-in_err-later_number-clause-range : goal.returns-in_err-later_number-clause-range
returns-in_err-later_number-clause-range g c =
    let p = err_from_is_err_and c.from_residual-in_err-later_number.result c.from_residual-in_err-later_number.ensures.1 in
    rw p.1 tt

pub returns-in_err-later_number-clause-damaged : goal.returns-in_err-later_number-clause-damaged
returns-in_err-later_number-clause-damaged g c = λ honest.
    let p = err_from_is_err_and c.from_residual-in_err-later_number.result c.from_residual-in_err-later_number.ensures.1 in
    let looks = Looks-then {stop = None} c.loop-object.invariant.looks c.in_ok-first.ensures.looks in
    rw (p.1, p.2) (seen_before looks (λ (seen : List ℕ) (size : ℕ). IfDamage c.in_err-later_number.field-0.0 (IsDamagedAmong (IsSeen seen) size (c.args.snap.now ∷ sets_beside c.args.wanted))) (c.in_err-later_number.ensures.damaged honest))

pub returns-in_err-later_number-clause-looks : goal.returns-in_err-later_number-clause-looks
returns-in_err-later_number-clause-looks g c =
    let p = err_from_is_err_and c.from_residual-in_err-later_number.result c.from_residual-in_err-later_number.ensures.1 in
    rw (p.1, p.2) (Looks-then c.loop-object.invariant.looks (Looks-then c.in_ok-first.ensures.looks c.in_err-later_number.ensures.looks))

pub returns-in-None-2-clause-found : goal.returns-in-None-2-clause-found
returns-in-None-2-clause-found g c = λ state kept honest hold.
    let was = c.loop-object.invariant in
    let first = c.in_ok-first.ensures.looks in
    let object = c.loop-object.object in
    let index = c.loop-object.index in
    let then = c.in_ok-later_number.ensures.looks.reads.honest honest in
    let early = first.reads.honest then in
    let on = look_on (λ (seen : List ℕ) (space : FreeSectors). HoldStates (Has seen space) c.args.snap.now (sets_beside c.args.wanted) state kept) was.looks hold in
    let later = look_on (λ (seen : List ℕ) (space : FreeSectors). HoldStates (Has seen space) c.args.snap.now (sets_beside c.args.wanted) state kept) first on in
    let none = subst (λ (found : Option (ℕ × ℕ)). FindsRunIn (wanted_pairs c.args.wanted state kept object) index (2 ^ 43) found) c.in-None.is (c.in_ok-first.ensures.found state kept then on) in
    let passed = subst (λ (passed : Option ℕ). PassesNumbers (wanted_pairs c.args.wanted state kept) (object + 1) passed) c.in-None-2.is (c.in_ok-later_number.ensures.passes state kept honest later) in
    none_behind (wanted_pairs c.args.wanted state kept) (wanted_bounded c.args.wanted state hold.snapshot.lawful kept) c.args.start object index (was.searched state kept early hold) was.after none passed

pub returns-in-None-2-clause-range : goal.returns-in-None-2-clause-range
returns-in-None-2-clause-range g c = tt

pub returns-in-None-2-clause-damaged : goal.returns-in-None-2-clause-damaged
returns-in-None-2-clause-damaged g c = λ honest. tt

pub returns-in-None-2-clause-looks : goal.returns-in-None-2-clause-looks
returns-in-None-2-clause-looks g c = Looks-then c.loop-object.invariant.looks (Looks-then c.in_ok-first.ensures.looks c.in_ok-later_number.ensures.looks)

pub returns-clause-found : goal.returns-clause-found
unfolding number_bound
returns-clause-found g c = λ state kept honest hold.
    let was = c.loop-object.invariant in
    none_left (wanted_pairs c.args.wanted state kept) (wanted_bounded c.args.wanted state hold.snapshot.lawful kept) c.args.start c.loop-object.object c.loop-object.index (was.searched state kept honest hold) was.after (omega arith)

pub returns-clause-range : goal.returns-clause-range
returns-clause-range g c = tt

pub returns-clause-damaged : goal.returns-clause-damaged
returns-clause-damaged g c = λ honest. tt

pub returns-clause-looks : goal.returns-clause-looks
returns-clause-looks g c = c.loop-object.invariant.looks
