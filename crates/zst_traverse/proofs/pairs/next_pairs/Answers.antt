use Rattle.std.proofs.Common.{◌≡◌, ℕ, Bool, true, false, List, sym, subst, refl, arith}
use Rattle.std.proofs.lemmas.Result.{err_from_is_err_and}
use Rattle.zst_space.specs.FreeSectors.{FreeSectors}
use Rattle.zst_block.specs.Blocks.{Has}
use Rattle.zst_block.specs.IoStates.{IsHonest, blocks_of, disk_of}
use Rattle.zst_objset.specs.Damage.{IfDamage, StandsIn}
use Rattle.zst_tree.specs.Damage.{IsSeen, SumsUp, TellsNode}
use Rattle.zst_tree.proofs.Damage.{seen_before}
use Rattle.zst_traverse.specs.Damage.{IsDamagedCell}
use Rattle.zst_traverse.specs.StandingEntries.{RunStands}
use Rattle.zst_traverse.proofs.Damage.{tree_told}
use Rattle.zst_model.specs.fields.Lists.{has_pair}
use Rattle.zst_model.specs.sends.Inclusion.{is_after}
use Rattle.zst_model.specs.states.DatedState.{DatedState}
use Rattle.zst_model.specs.states.State.{IsObjectOrNone}
use Rattle.zst_model.proofs.Sizes.{block_size_over_none}
use Rattle.zst_objset.proofs.LeafLaws.{look_back, look_on}
use Rattle.zst_objset.specs.Dnodes.{IsThereIn, ObjectIn, outside}
use Rattle.zst_tree.specs.Indices.{TreeIs}
use Rattle.zst_tree.specs.declared.tree.Tree.{Tree}
use Rattle.zst_traverse.specs.Runs.{outside_indices, IsRun, TakesTurn}
use Rattle.zst_traverse.proofs.Indices.{late_in, no_pairs_left, pairs_next, withheld_next}
use Rattle.zst_tree.proofs.StepLooks.{InSteps-more, InSteps-then}
use Rattle.zst_traverse.proofs.pairs.next_pairs.Given as given
use Rattle.zst_traverse.proofs.pairs.next_pairs.Goals.{After-first_turn}
use Rattle.zst_traverse.proofs.pairs.next_pairs.Goals as goal

either : {A : Type 0} (t : Bool) → (t ≡ true → A) → (t ≡ false → A) → A
either true yes_it none = yes_it refl
either false yes_it none = none refl

pub first_index-from-requires : goal.first_index-from-requires
first_index-from-requires g c = block_size_over_none c.args.dnode.now.block_size c.requires.dnode.head.size

pub returns-in_err-late-clause-found : goal.returns-in_err-late-clause-found
returns-in_err-late-clause-found g c = λ snap honest lawful there.
    let p = err_from_is_err_and c.from_residual.result c.from_residual.ensures.1 in
    let tree = subst (λ (t : Tree). TreeIs (blocks_of c.args.io.now) t there.map) (sym c.tree_of.ensures) there.is.tree in
    rw (p.1, p.2) (c.in_err-late.ensures.late there.map honest tree)

-- whose turn is next, of an object that is there
turn_taken : (g : given.Over) (c : After-first_turn g) (snap : DatedState) (there : IsThereIn (blocks_of c.args.io.now) (outside (has_pair c.args.withheld.now) (blocks_of c.args.io.now)) snap c.args.point.object c.args.dnode.now)
    → IsHonest c.next_late.new.io
    → TakesTurn (λ i. is_after c.args.source (there.map i).number) (has_pair c.args.listed.now c.args.point.object) (has_pair c.args.withheld.now c.args.point.object) c.first_index-from.result c.args.dnode.now.end c.first_turn.result
turn_taken g c snap there honest =
    let tree = subst (λ (t : Tree). TreeIs (blocks_of c.args.io.now) t there.map) (sym c.tree_of.ensures) there.is.tree in
    let late = late_in there.map c.args.source c.first_index-from.result c.args.dnode.now.end c.in_ok-late.late (c.in_ok-late.ensures.late there.map honest tree) in
    c.first_turn.ensures.turn _ _ _ _ late c.next_in-in_listed.ensures c.next_in-in_withheld.ensures

pub returns-in_err-run-in-Some-clause-found : goal.returns-in_err-run-in-Some-clause-found
returns-in_err-run-in-Some-clause-found g c = λ snap honest lawful there.
    let p = err_from_is_err_and c.from_residual-in_err-run-in-Some.result c.from_residual-in_err-run-in-Some.ensures.1 in
    let was = c.in_err-run-in-Some.ensures.looks.by_steps.looks.reads.honest honest in
    let withheld = has_pair c.args.withheld.now c.args.point.object in
    let turn = rw c.in-Some.is at (turn_taken g (goal.at.returns-in_err-run-in-Some-clause-found g c).After-first_turn snap there was) in
    let on = look_on (λ (seen : List ℕ) (space : FreeSectors). ObjectIn (Has seen space) (outside_indices withheld (Has seen space)) c.args.dnode.now there.object (snap.number_date c.args.point.object) (snap.index_date c.args.point.object) there.map) c.in_ok-late.ensures.looks.by_steps.looks there.is in
    rw (p.1, p.2) (either c.in-Some.turn.is_withheld
    (λ hidden. absurd (c.in_err-run-in-Some.ensures.withheld hidden).0)
    (λ shown. c.in_err-run-in-Some.ensures.run there.object _ _ there.map withheld honest (subst IsObjectOrNone there.there (lawful.objects c.args.point.object)) shown
    (turn.shown shown c.in-Some.turn.index (omega arith) (let some = turn.some in omega arith)) on))

pub returns-in-None : goal.returns-in-None
returns-in-None g c = record {
  found = λ snap honest lawful there.
      no_pairs_left _ snap c.args.source c.args.listed.now c.args.withheld.now c.args.point c.args.dnode.now there c.first_index-from.result c.first_index-from.ensures c.requires.dnode.end
      (rw c.in-None.is at (turn_taken g (goal.at.returns-in-None g c).After-first_turn snap there honest));
  ranges = tt;
  of_walk = λ set honest stands. record { stands = tt; damaged = tt };
  steps = record { looks = InSteps-more (omega arith) c.in_ok-late.ensures.looks; none = c.in_ok-late.ensures.looks.few };
}

pub returns-in_ok-run-in-Some-clause-found : goal.returns-in_ok-run-in-Some-clause-found
returns-in_ok-run-in-Some-clause-found g c = λ snap honest lawful there.
    let was = c.in_ok-run-in-Some.ensures.looks.by_steps.looks.reads.honest honest in
    let withheld = has_pair c.args.withheld.now c.args.point.object in
    let turn = rw c.in-Some.is at (turn_taken g (goal.at.returns-in_ok-run-in-Some-clause-found g c).After-first_turn snap there was) in
    let on = look_on (λ (seen : List ℕ) (space : FreeSectors). ObjectIn (Has seen space) (outside_indices withheld (Has seen space)) c.args.dnode.now there.object (snap.number_date c.args.point.object) (snap.index_date c.args.point.object) there.map) c.in_ok-late.ensures.looks.by_steps.looks there.is in
    either c.in-Some.turn.is_withheld
    (λ hidden.
    let told = (c.in_ok-run-in-Some.ensures.withheld hidden).0 in
    withheld_next _ snap c.args.source c.args.listed.now c.args.withheld.now c.args.point c.args.dnode.now there c.first_index-from.result c.first_index-from.ensures c.requires.dnode.end c.in-Some.turn turn
    c.in_ok-run-in-Some.run' hidden told.0 told.1 told.2)
    (λ shown.
    let made = c.in_ok-run-in-Some.ensures.run there.object _ _ there.map withheld honest (subst IsObjectOrNone there.there (lawful.objects c.args.point.object)) shown
    (turn.shown shown c.in-Some.turn.index (omega arith) (let some = turn.some in omega arith)) on in
    let run = look_back (λ (seen : List ℕ) (space : FreeSectors). IsRun (Has seen space) withheld there.object (snap.index_date c.args.point.object) c.in-Some.turn.index c.in_ok-run-in-Some.run') c.in_ok-late.ensures.looks.by_steps.looks made.0 in
    pairs_next _ snap c.args.source c.args.listed.now c.args.withheld.now c.args.point c.args.dnode.now there c.first_index-from.result c.first_index-from.ensures c.requires.dnode.end c.in-Some.turn turn
    c.in_ok-run-in-Some.run' shown run made.1)

pub returns-in_err-late-clause-ranges : goal.returns-in_err-late-clause-ranges
returns-in_err-late-clause-ranges g c =
    let p = err_from_is_err_and c.from_residual.result c.from_residual.ensures.1 in
    rw p.1 tt

pub returns-in_err-late-clause-of_walk : goal.returns-in_err-late-clause-of_walk
returns-in_err-late-clause-of_walk g c = λ set honest stands.
    let p = err_from_is_err_and c.from_residual.result c.from_residual.ensures.1 in
    let fault = c.in_err-late.field-0.0 in
    let seen = IsSeen (disk_of c.args.io.now).seen in
    let size = (disk_of c.args.io.now).size in
    rw (p.1, p.2) (record {
      stands = tt;
      damaged = tree_told seen size set c.args.dnode.now stands fault (subst (λ (t : Tree). TellsNode seen size (SumsUp seen) t.levels t.root fault) c.tree_of.ensures (c.in_err-late.ensures.damaged honest));
    })

pub returns-in_err-late-clause-steps : goal.returns-in_err-late-clause-steps
returns-in_err-late-clause-steps g c =
    let p = err_from_is_err_and c.from_residual.result c.from_residual.ensures.1 in
    rw (p.1, p.2) (record { looks = InSteps-more (omega arith) c.in_err-late.ensures.looks; none = tt })

pub returns-in_err-run-in-Some-clause-ranges : goal.returns-in_err-run-in-Some-clause-ranges
returns-in_err-run-in-Some-clause-ranges g c =
    let p = err_from_is_err_and c.from_residual-in_err-run-in-Some.result c.from_residual-in_err-run-in-Some.ensures.1 in
    rw p.1 tt

pub returns-in_err-run-in-Some-clause-of_walk : goal.returns-in_err-run-in-Some-clause-of_walk
returns-in_err-run-in-Some-clause-of_walk g c = λ set honest stands.
    let p = err_from_is_err_and c.from_residual-in_err-run-in-Some.result c.from_residual-in_err-run-in-Some.ensures.1 in
    let looks = c.in_ok-late.ensures.looks.by_steps.looks in
    let on = look_on (λ (seen : List ℕ) (space : FreeSectors). StandsIn (IsSeen seen) set c.args.dnode.now) looks stands in
    rw (p.1, p.2) (record {
      stands = tt;
      damaged = seen_before looks (λ (seen : List ℕ) (size : ℕ). IfDamage c.in_err-run-in-Some.field-0.0 (IsDamagedCell (IsSeen seen) size set)) (c.in_err-run-in-Some.ensures.of_walk set honest on).damaged;
    })

pub returns-in_err-run-in-Some-clause-steps : goal.returns-in_err-run-in-Some-clause-steps
returns-in_err-run-in-Some-clause-steps g c =
    let p = err_from_is_err_and c.from_residual-in_err-run-in-Some.result c.from_residual-in_err-run-in-Some.ensures.1 in
    rw (p.1, p.2) (record { looks = InSteps-then (omega arith) c.in_ok-late.ensures.looks c.in_err-run-in-Some.ensures.looks; none = tt })

pub returns-in_ok-run-in-Some-clause-of_walk : goal.returns-in_ok-run-in-Some-clause-of_walk
returns-in_ok-run-in-Some-clause-of_walk g c = λ set honest stands.
    let looks = c.in_ok-late.ensures.looks.by_steps.looks in
    let on = look_on (λ (seen : List ℕ) (space : FreeSectors). StandsIn (IsSeen seen) set c.args.dnode.now) looks stands in
    record {
      stands = seen_before looks (λ (seen : List ℕ) (size : ℕ). RunStands (IsSeen seen) set c.in_ok-run-in-Some.run') (c.in_ok-run-in-Some.ensures.of_walk set honest on).stands;
      damaged = tt;
    }

pub returns-in_ok-run-in-Some-clause-steps : goal.returns-in_ok-run-in-Some-clause-steps
returns-in_ok-run-in-Some-clause-steps g c = record { looks = InSteps-then (omega arith) c.in_ok-late.ensures.looks c.in_ok-run-in-Some.ensures.looks; none = tt }
