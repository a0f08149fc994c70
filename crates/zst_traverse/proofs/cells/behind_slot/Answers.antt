use Rattle.std.proofs.lemmas.Result.{err_from_is_err_and}
use Rattle.std.proofs.Common.{ℕ, ◌+◌, ◌<◌, ◌≤◌, false, List, refl, subst, arith}
use Rattle.std.specs.Prelude.{Option, IfNone, IfSome}
use Rattle.zst_space.specs.FreeSectors.{FreeSectors}
use Rattle.zst_block.specs.Blocks.{Has}
use Rattle.zst_block.specs.IoStates.{blocks_of, disk_of}
use Rattle.zst_tree.proofs.Results.{delivers_if}
use Rattle.zst_tree.specs.Indices.{Delivers}
use Rattle.zst_tree.specs.Damage.{HangsIn, IsSeen, MayHave}
use Rattle.zst_tree.proofs.Damage.{seen_before}
use Rattle.zst_objset.proofs.LeafLaws.{look_back, look_on}
use Rattle.zst_traverse.specs.Cells.{choice_with}
use Rattle.zst_traverse.specs.Leaves.{FindsNumber, HoldsLeaf, HoldsTightLeaf}
use Rattle.zst_traverse.specs.Runs.{FindsPairs}
use Rattle.zst_traverse.specs.StandingEntries.{FoundStands, RunStands}
use Rattle.zst_traverse.specs.WalkCalls.{IsOfWalk}
use Rattle.zst_traverse.specs.declared.pairs.Run.{Run}
use Rattle.zst_traverse.proofs.NextCells.{numbers_next}
use Rattle.zst_tree.proofs.StepLooks.{BySteps-then}
use Rattle.zst_traverse.proofs.cells.behind_slot.Goals as goal
use Rattle.zst_objset.specs.Dnodes.{outside}
use Rattle.zst_model.specs.fields.Lists.{has_pair}

pub returns-in-Some-clause-found : goal.returns-in-Some-clause-found
returns-in-Some-clause-found g c = λ snap honest held.
    let some : 0 < c.args.leaf.now.count = c.requires.count.0 in
    let is = held.stands c.args.leaf.now.index (omega arith) (omega arith) (omega (arith, c.requires.object.1, c.requires.object.2)) in
    rw c.told.ensures (refl, refl, subst (λ (found : Option Run). FindsPairs (blocks_of c.args.io.now) snap (choice_with c.args.source c.args.listed.now c.args.withheld.now) c.args.point found) c.in-Some.is (c.in_ok-run.ensures.found snap honest held.holds.lawful is))

pub returns-in-Some-clause-of_walk : goal.returns-in-Some-clause-of_walk
returns-in-Some-clause-of_walk g c = λ honest hangs.
    let seen = IsSeen (disk_of c.args.io.now).seen in
    record {
      stands = rw c.told.ensures (subst (λ (found : Option Run). IfSome found (RunStands seen c.args.set.now)) c.in-Some.is (c.in_ok-run.ensures.of_walk c.args.set.now honest hangs).stands);
      damaged = tt;
    }

pub returns-in-None-clause-of_walk : goal.returns-in-None-clause-of_walk
returns-in-None-clause-of_walk g c = λ honest hangs.
    let looks = c.in_ok-run.ensures.steps.looks.by_steps.looks in
    let on = look_on (λ (seen : List ℕ) (space : FreeSectors). HangsIn (MayHave (IsSeen seen)) c.args.set.now.tree c.args.leaf.now.ptr) looks hangs in
    seen_before looks (λ (seen : List ℕ) (size : ℕ). IsOfWalk seen size c.args.set.now c.next_listed.result (λ images found. IfSome found (FoundStands images c.args.set.now))) (c.next_listed.ensures.of_walk honest on)

pub returns-in-None-clause-found : goal.returns-in-None-clause-found
returns-in-None-clause-found g c = λ snap honest held.
    let was = c.next_listed.ensures.looks.looks.reads.honest honest in
    let looks = c.in_ok-run.ensures.steps.looks.by_steps.looks in
    let some : 0 < c.args.leaf.now.count = c.requires.count.0 in
    let is = held.stands c.args.leaf.now.index (omega arith) (omega arith) (omega (arith, c.requires.object.1, c.requires.object.2)) in
    let none = subst (λ (found : Option Run). FindsPairs (blocks_of c.args.io.now) snap (choice_with c.args.source c.args.listed.now c.args.withheld.now) c.args.point found) c.in-None.is (c.in_ok-run.ensures.found snap was held.holds.lawful is) in
    let on = look_on (λ (seen : List ℕ) (space : FreeSectors). HoldsLeaf (Has seen space) (outside (has_pair c.args.withheld.now) (Has seen space)) c.args.set.now snap c.args.leaf.now) looks held in
    let back = look_back (λ (seen : List ℕ) (space : FreeSectors). Delivers (FindsNumber (Has seen space) (outside (has_pair c.args.withheld.now) (Has seen space)) snap (choice_with c.args.source c.args.listed.now c.args.withheld.now) (c.args.point.object + 1)) c.next_listed.result) looks (c.next_listed.ensures.found snap honest on) in
    delivers_if _ _ c.next_listed.result (numbers_next _ _ snap (choice_with c.args.source c.args.listed.now c.args.withheld.now) c.args.point false (λ passed. none)) back

pub returns-in-None-clause-few : goal.returns-in-None-clause-few
returns-in-None-clause-few g c = λ snap honest held included.
    let on = look_on (λ (seen : List ℕ) (space : FreeSectors). HoldsTightLeaf (Has seen space) (outside (has_pair c.args.withheld.now) (Has seen space)) c.args.set.now snap c.args.leaf.now) c.in_ok-run.ensures.steps.looks.by_steps.looks held in
    let own : c.own_pairs.new.steps ≤ c.args.steps.now + 14 = subst (λ (found : Option Run). IfNone found (c.own_pairs.new.steps ≤ c.args.steps.now + 14)) c.in-None.is c.in_ok-run.ensures.steps.none in
    omega (arith, own, c.next_listed.ensures.few snap honest on included)

pub returns-in_err-run-clause-few : goal.returns-in_err-run-clause-few
returns-in_err-run-clause-few g c = λ snap honest held included. omega (arith, c.in_err-run.ensures.steps.looks.few)

pub returns-in-Some-clause-few : goal.returns-in-Some-clause-few
returns-in-Some-clause-few g c = λ snap honest held included. omega (arith, c.in_ok-run.ensures.steps.looks.few)

pub returns-in_err-run-clause-ranges : goal.returns-in_err-run-clause-ranges
returns-in_err-run-clause-ranges g c =
    let p = err_from_is_err_and c.from_residual.result c.from_residual.ensures.1 in
    rw p.1 tt

pub returns-in_err-run-clause-of_walk : goal.returns-in_err-run-clause-of_walk
returns-in_err-run-clause-of_walk g c = λ honest hangs.
    let p = err_from_is_err_and c.from_residual.result c.from_residual.ensures.1 in
    rw (p.1, p.2) (record { stands = tt; damaged = (c.in_err-run.ensures.of_walk c.args.set.now honest hangs).damaged })

pub returns-in_err-run-clause-looks : goal.returns-in_err-run-clause-looks
returns-in_err-run-clause-looks g c =
    let p = err_from_is_err_and c.from_residual.result c.from_residual.ensures.1 in
    rw (p.1, p.2) c.in_err-run.ensures.steps.looks.by_steps

pub returns-in-Some-clause-looks : goal.returns-in-Some-clause-looks
returns-in-Some-clause-looks g c = c.in_ok-run.ensures.steps.looks.by_steps

pub returns-in-None-clause-looks : goal.returns-in-None-clause-looks
returns-in-None-clause-looks g c = BySteps-then c.in_ok-run.ensures.steps.looks.by_steps c.next_listed.ensures.looks

pub own_pairs-requires : goal.own_pairs-requires
own_pairs-requires g c = record { object = c.requires.object }

pub next_listed-requires-clause-levels : goal.next_listed-requires-clause-levels
next_listed-requires-clause-levels g c = c.requires.levels

pub next_listed-requires-clause-leaf : goal.next_listed-requires-clause-leaf
next_listed-requires-clause-leaf g c =
    let object = c.requires.object in
    record { index = omega (arith, object.1, object.2); count = c.requires.count; from = (omega arith, omega (arith, object.2), omega (arith, object.2)) }
