use Rattle.std.proofs.Common.{◌≡◌, ◌+◌, ◌-◌, ◌*◌, ◌<◌, ℕ, List, refl, sym, ◌∙◌, subst, arith}
use Rattle.std.proofs.lemmas.Result.{IfOk-weaker}
use Rattle.zst_space.specs.FreeSectors.{FreeSectors}
use Rattle.zst_block.specs.Blocks.{Has}
use Rattle.zst_block.specs.IoStates.{blocks_of, disk_of}
use Rattle.zst_tree.specs.Damage.{IsBelow, IsDamagedNode, IsSeen, NamesNode}
use Rattle.zst_tree.specs.Indices.{Delivers, Subtree, child, span}
use Rattle.zst_tree.proofs.Damage.{IsBelow-child, IsBelow-flat, seen_before, told_below}
use Rattle.zst_tree.proofs.LoadedNodes.{there_before}
use Rattle.zst_compare.proofs.Sharing.{flat_lower}
use Rattle.zst_compare.proofs.shared.+lowered.Goals as goal
use Rattle.zst_compare.proofs.shared.+lowered.Goals.{then-level-lower-via-then-level-lower, then-level-lower-via-else-level-lower+then-is_flat}

pub returns-then-level-lower-clause-stands : goal.returns-then-level-lower-clause-stands
returns-then-level-lower-clause-stands g t c = λ map honest stands.
    elim c.then-level-lower.branch [
      | then-level-lower-via-then-level-lower w ↦ subst (λ (n : ℕ). Subtree (blocks_of c.args.io.now) n c.args.ptr 0 map) w.if-level-lower.true stands
      | then-level-lower-via-else-level-lower+then-is_flat w ↦ flat_lower _ c.args.level c.args.lower c.args.ptr 0 map c.requires.lower (sym w.is_flat.ensures ∙ w.if-is_flat.true) stands
    ]

pub returns-then-level-lower-clause-below : goal.returns-then-level-lower-clause-below
returns-then-level-lower-clause-below g t c = λ honest sector stated found damage.
    let seen = (disk_of c.args.io.now).seen in
    let size = (disk_of c.args.io.now).size in
    elim c.then-level-lower.branch [
      | then-level-lower-via-then-level-lower w ↦ subst (λ (n : ℕ). IsDamagedNode (IsSeen seen) size NamesNode n c.args.ptr sector stated found) (sym w.if-level-lower.true) damage
      | then-level-lower-via-else-level-lower+then-is_flat w ↦ IsBelow-flat (IsSeen seen) size NamesNode c.args.level c.args.ptr (IsSeen seen) c.args.lower c.args.ptr (sym w.is_flat.ensures ∙ w.if-is_flat.true) sector stated found damage
    ]

pub returns-clause-stands : goal.returns-clause-stands
returns-clause-stands g t c = λ map honest stands.
    let looks = c.in_ok-load_node.ensures.looks.looks in
    let was_honest = c.lowered.ensures.looks.reads.honest honest in
    let some : 0 < c.args.level = omega (arith, c.requires.lower, c.if-level-lower.false) in
    let inner = sym c.is_flat.ensures ∙ c.if-is_flat.false in
    let parts = c.in_ok-load_node.ensures.parts 0 map some inner was_honest stands in
    let zero : 0 + 0 * span (c.args.level - 1) ≡ 0 = omega arith in
    let first = subst (λ (n : ℕ). Subtree (blocks_of c.load_node.new.io) (c.args.level - 1) (child c.load_node.new.io.node 0) n map) zero (parts.below 0 (omega arith)) in
    there_before looks (λ (seen : List ℕ) (s : FreeSectors). Delivers (λ found. Subtree (Has seen s) c.args.lower found 0 map) c.lowered.result)
    (c.lowered.ensures.stands map honest (rw c.child_at-first.ensures.child first))

pub returns-clause-below : goal.returns-clause-below
returns-clause-below g t c = λ honest.
    let looks = c.in_ok-load_node.ensures.looks.looks in
    let was_honest = c.lowered.ensures.looks.reads.honest honest in
    let some : 0 < c.args.level = omega (arith, c.requires.lower, c.if-level-lower.false) in
    let inner = sym c.is_flat.ensures ∙ c.if-is_flat.false in
    let seen = (disk_of c.args.io.now).seen in
    let size = (disk_of c.args.io.now).size in
    let node = c.load_node.new.io.node in
    let up = IsBelow-child (IsSeen seen) size NamesNode c.args.level c.args.ptr node 0 some inner (record { image = seen; among = refl; block = c.in_ok-load_node.ensures.block was_honest }) (omega arith) in
    IfOk-weaker c.lowered.result _ _
    (λ found below sector stated told damage. up sector stated told
    (seen_before looks (λ (bytes : List ℕ) (n : ℕ). IsBelow (IsSeen bytes) n NamesNode (c.args.level - 1) (child node 0) (IsSeen bytes) c.args.lower found) below sector stated told damage))
    (rw c.child_at-first.ensures.child at (c.lowered.ensures.below honest))

pub returns-clause-damaged : goal.returns-clause-damaged
returns-clause-damaged g t c = λ honest.
    let was_honest = c.lowered.ensures.looks.reads.honest honest in
    let some : 0 < c.args.level = omega (arith, c.requires.lower, c.if-level-lower.false) in
    told_below c.in_ok-load_node.ensures.looks.looks (λ seen. NamesNode) c.args.level c.args.ptr c.load_node.new.io.node 0 some (sym c.is_flat.ensures ∙ c.if-is_flat.false)
    (c.in_ok-load_node.ensures.block was_honest) (omega arith) c.lowered.result (rw c.child_at-first.ensures.child at (c.lowered.ensures.damaged honest))
