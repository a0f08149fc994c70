use Rattle.std.proofs.Common.{◌≡◌, ℕ, ◌/◌, false, Bool, List, sym, subst, arith}
use Rattle.std.proofs.lemmas.Result.{err_from_is_err_and}
use Rattle.zst_space.specs.FreeSectors.{FreeSectors}
use Rattle.zst_block.specs.Blocks.{Has}
use Rattle.std.specs.Prelude.{IfSome}
use Rattle.zst_block.specs.IoStates.{blocks_of, disk_of}
use Rattle.zst_tree.specs.Damage.{HangsIn, IsSeen, MayHave}
use Rattle.zst_tree.proofs.Damage.{seen_before}
use Rattle.zst_traverse.proofs.Damage.{named_told, tall_told}
use Rattle.zst_traverse.specs.StandingEntries.{FoundStands}
use Rattle.zst_traverse.specs.WalkCalls.{IsOfWalk}
use Rattle.zst_tree.proofs.Results.{delivers_if}
use Rattle.zst_tree.specs.Indices.{Delivers}
use Rattle.zst_objset.proofs.LeafLaws.{look_on}
use Rattle.zst_traverse.specs.Cells.{choice_with, IsNextCellIn}
use Rattle.zst_traverse.specs.Leaves.{FindsNumber}
use Rattle.zst_traverse.proofs.NextCells.{past_next, slot_next}
use Rattle.zst_traverse.proofs.HeldLeaves.{leaf_held, tight_leaf_held}
use Rattle.zst_tree.proofs.StepLooks.{BySteps-none, BySteps-then}
use Rattle.zst_traverse.proofs.cells.next_cell.Goals as goal
use Rattle.zst_objset.specs.Dnodes.{outside}
use Rattle.zst_model.specs.fields.Lists.{has_pair}

pub returns-then-point-ge-NUMBER_BOUND : goal.returns-then-point-ge-NUMBER_BOUND
returns-then-point-ge-NUMBER_BOUND g c = record {
  found = λ snap honest holds. past_next (blocks_of c.args.io.now) (outside (has_pair c.args.withheld.now) (blocks_of c.args.io.now)) snap (choice_with c.args.from c.args.listed.now c.args.withheld.now) c.args.point c.args.slot holds.lawful (omega arith);
  ranges = tt;
  of_walk = λ honest. record { stands = tt; damaged = tt };
  looks = BySteps-none _ _;
  few = λ snap honest tight included. omega arith;
}

pub returns-in_err-leaf-clause-found : goal.returns-in_err-leaf-clause-found
returns-in_err-leaf-clause-found g c = λ snap honest holds.
    let p = err_from_is_err_and c.from_residual.result c.from_residual.ensures.1 in
    rw (p.1, p.2) (c.in_err-leaf.ensures.shows holds.map honest holds.tree)

pub returns-then-is_passed-clause-found : goal.returns-then-is_passed-clause-found
returns-then-is_passed-clause-found g c = λ snap honest holds.
    let pairs = has_pair c.args.withheld.now in
    let was = c.behind_slot.ensures.looks.looks.reads.honest honest in
    let held = leaf_held c.in_ok-leaf.ensures.looks.by_steps.looks pairs c.args.set.now snap (c.args.point.object / 16) c.in_ok-leaf.leaf c.in_ok-leaf.ensures.index holds (c.in_ok-leaf.ensures.shows holds.map was holds.tree) in
    let next = look_on (λ (seen : List ℕ) (space : FreeSectors). Delivers (IsNextCellIn (Has seen space) (outside pairs (Has seen space)) snap (choice_with c.args.from c.args.listed.now c.args.withheld.now) c.args.point false) c.behind_slot.result) c.behind_slot.ensures.looks.looks (c.behind_slot.ensures.found snap honest held) in
    subst (λ (slot : Bool). Delivers (IsNextCellIn (blocks_of c.behind_slot.new.io) (outside pairs (blocks_of c.behind_slot.new.io)) snap (choice_with c.args.from c.args.listed.now c.args.withheld.now) c.args.point slot) c.behind_slot.result) (sym (c.is_passed.ensures.passed c.if-is_passed.true).0) next

pub returns-else-is_passed-clause-found : goal.returns-else-is_passed-clause-found
returns-else-is_passed-clause-found g c = λ snap honest holds.
    let pairs = has_pair c.args.withheld.now in
    let was = c.next_listed.ensures.looks.looks.reads.honest honest in
    let held = leaf_held c.in_ok-leaf.ensures.looks.by_steps.looks pairs c.args.set.now snap (c.args.point.object / 16) c.in_ok-leaf.leaf c.in_ok-leaf.ensures.index holds (c.in_ok-leaf.ensures.shows holds.map was holds.tree) in
    let next = look_on (λ (seen : List ℕ) (space : FreeSectors). Delivers (FindsNumber (Has seen space) (outside pairs (Has seen space)) snap (choice_with c.args.from c.args.listed.now c.args.withheld.now) c.max-number.result) c.next_listed.result) c.next_listed.ensures.looks.looks (c.next_listed.ensures.found snap honest held) in
    delivers_if _ _ c.next_listed.result (slot_next _ _ snap (choice_with c.args.from c.args.listed.now c.args.withheld.now) c.args.point c.args.slot c.max-number.result holds.lawful c.max-number.ensures (c.is_passed.ensures.judged c.if-is_passed.false)) next

pub returns-then-is_passed-clause-few : goal.returns-then-is_passed-clause-few
returns-then-is_passed-clause-few g c = λ snap honest tight included.
    let was = c.behind_slot.ensures.looks.looks.reads.honest honest in
    let leaf = c.in_ok-leaf.ensures in
    let held = tight_leaf_held leaf.looks.by_steps.looks (has_pair c.args.withheld.now) c.args.set.now snap (c.args.point.object / 16) c.in_ok-leaf.leaf leaf.index tight (omega arith) (leaf.shows tight.holds.map was tight.holds.tree) in
    omega (arith, leaf.looks.few, c.behind_slot.ensures.few snap honest held included)

pub returns-else-is_passed-clause-few : goal.returns-else-is_passed-clause-few
returns-else-is_passed-clause-few g c = λ snap honest tight included.
    let was = c.next_listed.ensures.looks.looks.reads.honest honest in
    let leaf = c.in_ok-leaf.ensures in
    let held = tight_leaf_held leaf.looks.by_steps.looks (has_pair c.args.withheld.now) c.args.set.now snap (c.args.point.object / 16) c.in_ok-leaf.leaf leaf.index tight (omega arith) (leaf.shows tight.holds.map was tight.holds.tree) in
    omega (arith, leaf.looks.few, c.next_listed.ensures.few snap honest held included)

pub returns-then-set-gt7-clause-ranges : goal.returns-then-set-gt7-clause-ranges
returns-then-set-gt7-clause-ranges g c = tt

pub returns-then-set-gt7-clause-of_walk : goal.returns-then-set-gt7-clause-of_walk
returns-then-set-gt7-clause-of_walk g c = λ honest.
    let disk = disk_of c.args.io.now in
    record { stands = tt; damaged = rw c.of_layout.ensures (tall_told (IsSeen disk.seen) disk.size c.args.set.now (omega arith)) }

pub returns-in_err-leaf-clause-ranges : goal.returns-in_err-leaf-clause-ranges
returns-in_err-leaf-clause-ranges g c =
    let p = err_from_is_err_and c.from_residual.result c.from_residual.ensures.1 in
    rw p.1 tt

pub returns-in_err-leaf-clause-of_walk : goal.returns-in_err-leaf-clause-of_walk
returns-in_err-leaf-clause-of_walk g c = λ honest.
    let p = err_from_is_err_and c.from_residual.result c.from_residual.ensures.1 in
    let disk = disk_of c.args.io.now in
    rw (p.1, p.2) (record { stands = tt; damaged = named_told (IsSeen disk.seen) disk.size c.args.set.now c.in_err-leaf.field-0.0 (c.in_err-leaf.ensures.damaged honest) })

pub returns-then-is_passed-clause-of_walk : goal.returns-then-is_passed-clause-of_walk
returns-then-is_passed-clause-of_walk g c = λ honest.
    let looks = c.in_ok-leaf.ensures.looks.by_steps.looks in
    let was = c.behind_slot.ensures.looks.looks.reads.honest honest in
    let on = look_on (λ (seen : List ℕ) (space : FreeSectors). HangsIn (MayHave (IsSeen seen)) c.args.set.now.tree c.in_ok-leaf.leaf.ptr) looks (c.in_ok-leaf.ensures.hangs was) in
    seen_before looks (λ (seen : List ℕ) (size : ℕ). IsOfWalk seen size c.args.set.now c.behind_slot.result (λ images found. IfSome found (FoundStands images c.args.set.now))) (c.behind_slot.ensures.of_walk honest on)

pub returns-else-is_passed-clause-of_walk : goal.returns-else-is_passed-clause-of_walk
returns-else-is_passed-clause-of_walk g c = λ honest.
    let looks = c.in_ok-leaf.ensures.looks.by_steps.looks in
    let was = c.next_listed.ensures.looks.looks.reads.honest honest in
    let on = look_on (λ (seen : List ℕ) (space : FreeSectors). HangsIn (MayHave (IsSeen seen)) c.args.set.now.tree c.in_ok-leaf.leaf.ptr) looks (c.in_ok-leaf.ensures.hangs was) in
    seen_before looks (λ (seen : List ℕ) (size : ℕ). IsOfWalk seen size c.args.set.now c.next_listed.result (λ images found. IfSome found (FoundStands images c.args.set.now))) (c.next_listed.ensures.of_walk honest on)

pub returns-in_err-leaf-clause-looks : goal.returns-in_err-leaf-clause-looks
returns-in_err-leaf-clause-looks g c =
    let p = err_from_is_err_and c.from_residual.result c.from_residual.ensures.1 in
    rw (p.1, p.2) c.in_err-leaf.ensures.looks.by_steps

pub returns-in_err-leaf-clause-few : goal.returns-in_err-leaf-clause-few
returns-in_err-leaf-clause-few g c = λ snap honest tight included. omega (arith, c.in_err-leaf.ensures.looks.few)

pub returns-then-is_passed-clause-looks : goal.returns-then-is_passed-clause-looks
returns-then-is_passed-clause-looks g c = BySteps-then c.in_ok-leaf.ensures.looks.by_steps c.behind_slot.ensures.looks

pub returns-then-is_passed-clause-ranges : goal.returns-then-is_passed-clause-ranges
returns-then-is_passed-clause-ranges g c = c.behind_slot.ensures.ranges

pub returns-else-is_passed-clause-looks : goal.returns-else-is_passed-clause-looks
returns-else-is_passed-clause-looks g c = BySteps-then c.in_ok-leaf.ensures.looks.by_steps c.next_listed.ensures.looks

pub next_listed-requires-clause-leaf : goal.next_listed-requires-clause-leaf
next_listed-requires-clause-leaf g c =
    let at : c.in_ok-leaf.leaf.index ≡ c.args.point.object / 16 = c.in_ok-leaf.ensures.index in
    let count = c.in_ok-leaf.ensures.range in
    record { index = omega (arith, at); count = (count.0, omega (arith, at, count.1)); from = (omega arith, omega (arith, at), omega (arith, at)) }
