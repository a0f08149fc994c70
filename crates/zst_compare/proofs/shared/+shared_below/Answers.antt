use Rattle.std.proofs.Common.{rules, ◌+◌, ◌-◌, ◌/◌, ◌<◌, ℕ, List, sym, ◌∙◌, arith}
use Rattle.std.proofs.lemmas.Result.{IfOk-weaker, err_from_is_err_and}
use Rattle.zst_space.specs.FreeSectors.{FreeSectors}
use Rattle.zst_block.proofs.IoCallLemmas.{Looks-then}
use Rattle.zst_block.specs.Blocks.{Has, IsBlock}
use Rattle.zst_block.specs.IoStates.{blocks_of, disk_of}
use Rattle.zst_compare.proofs.Sharing.{Has-one, alike_below, alike_children, part_within, past_child, ptr_same, stands_at, stands_here, upto_within}
use Rattle.zst_compare.proofs.Told.{children_below}
use Rattle.zst_tree.proofs.Damage.{seen_before}
use Rattle.zst_tree.proofs.LoadedNodes.{there_after}
use Rattle.zst_tree.proofs.Span.{span-pos}
use Rattle.zst_tree.specs.Changes.{Parts}
use Rattle.zst_tree.specs.Indices.{Subtree, span}
use Rattle.zst_compare.proofs.shared.+shared_below.Goals as goal

pub returns-then-eq-clause-shared : goal.returns-then-eq-clause-shared
returns-then-eq-clause-shared g t c = λ one other honest first second.
    rw c.span_of.ensures (alike_below (blocks_of c.args.io.now) (Has-one (disk_of c.args.io.now).seen c.args.io.now.space) c.args.level c.args.later c.args.earlier c.args.base c.args.from (c.args.base + span c.args.level) one other
    (ptr_same c.args.later c.args.earlier c.if-eq.ensures) c.requires.from.0 (omega arith) first second)

pub returns-in_err-load_node-2-clause-looks : goal.returns-in_err-load_node-2-clause-looks
returns-in_err-load_node-2-clause-looks g t c =
    let p = err_from_is_err_and c.from_residual-in_err-load_node-2.result c.from_residual-in_err-load_node-2.ensures.1 in
    rw (p.1, p.2) (Looks-then c.in_ok-load_node.ensures.looks.looks c.in_err-load_node-2.ensures.looks.looks)

pub nonzero_div-first : goal.nonzero_div-first
nonzero_div-first g t c = rw c.span_of-part.ensures (span-pos (c.args.level - 1))

pub first_apart-k-requires : goal.first_apart-k-requires
first_apart-k-requires g t c =
    let at = stands_at c.args.level (c.args.from - c.args.base) c.span_of-part.result (omega arith) (omega arith) c.span_of-part.ensures in
    record { from = omega (arith, at.under) }

pub overflow_mul-start : goal.overflow_mul-start
overflow_mul-start g t c =
    let most = upto_within c.args.level c.first_apart-k.result (omega arith) c.first_apart-k.ensures.range.1 in
    rw c.span_of-part.ensures (omega (arith, most))

pub overflow_add-start : goal.overflow_add-start
overflow_add-start g t c =
    let most = upto_within c.args.level c.first_apart-k.result (omega arith) c.first_apart-k.ensures.range.1 in
    rw c.span_of-part.ensures (omega (arith, most))

pub returns-then-k-first-clause-shared : goal.returns-then-k-first-clause-shared
returns-then-k-first-clause-shared g t c = λ one other honest first second.
    let looks = c.in_ok-load_node.ensures.looks.looks in
    let again = c.in_ok-load_node-2.ensures.looks.looks in
    let some : 0 < c.args.level = omega arith in
    let later = sym c.is_flat.ensures ∙ c.if-is_flat.false in
    let earlier = sym c.is_flat-else-is_flat.ensures ∙ c.if-is_flat-2.false in
    let at = stands_at c.args.level (c.args.from - c.args.base) c.span_of-part.result some (omega arith) c.span_of-part.ensures in
    let parts = there_after again (λ (seen : List ℕ) (s : FreeSectors). Parts (Has seen s) (c.args.level - 1) c.load_node.new.io.node c.args.base one)
    (c.in_ok-load_node.ensures.parts c.args.base one some later (again.reads.honest honest) first) in
    let others = c.in_ok-load_node-2.ensures.parts c.args.base other some earlier honest (there_after looks (λ (seen : List ℕ) (s : FreeSectors). Subtree (Has seen s) c.args.level c.args.earlier c.args.base other) second) in
    rw c.span_of-part.ensures (alike_children (blocks_of c.load_node-2.new.io) (Has-one (disk_of c.load_node-2.new.io).seen c.load_node-2.new.io.space) (c.args.level - 1) c.args.base c.args.from
    ((c.args.from - c.args.base) / c.span_of-part.result) c.first_apart-k.result c.load_node.new.io.node c.load_node-2.new.io.node one other at.begins c.requires.from.0 c.first_apart-k.ensures.range.1
    (rw c.replace-node.ensures.value at c.first_apart-k.ensures.shared) parts others)

pub returns-then-k-first-clause-range : goal.returns-then-k-first-clause-range
returns-then-k-first-clause-range g t c =
    let some : 0 < c.args.level = omega arith in
    let at = stands_at c.args.level (c.args.from - c.args.base) c.span_of-part.result some (omega arith) c.span_of-part.ensures in
    let past = past_child c.args.level (c.args.from - c.args.base) ((c.args.from - c.args.base) / c.span_of-part.result) c.first_apart-k.result at c.if-k-first.true in
    let most = upto_within c.args.level c.first_apart-k.result some c.first_apart-k.ensures.range.1 in
    rw c.span_of-part.ensures (omega (arith, past, c.requires.from.0), omega (arith, most))

pub returns-then-k-first-clause-looks : goal.returns-then-k-first-clause-looks
returns-then-k-first-clause-looks g t c = Looks-then c.in_ok-load_node.ensures.looks.looks c.in_ok-load_node-2.ensures.looks.looks

pub child_at-other-requires : goal.child_at-other-requires
child_at-other-requires g t c =
    (stands_here c.args.level (c.args.from - c.args.base) c.span_of-part.result c.first_apart-k.result (omega arith) (omega arith) c.span_of-part.ensures c.first_apart-k.ensures.range.0 c.if-k-first.false).under

pub child_at-requires : goal.child_at-requires
child_at-requires g t c =
    (stands_here c.args.level (c.args.from - c.args.base) c.span_of-part.result c.first_apart-k.result (omega arith) (omega arith) c.span_of-part.ensures c.first_apart-k.ensures.range.0 c.if-k-first.false).under

pub shared_below-requires : goal.shared_below-requires
shared_below-requires g t c κs within =
    let some : 0 < c.args.level = omega arith in
    let at = stands_here c.args.level (c.args.from - c.args.base) c.span_of-part.result c.first_apart-k.result some (omega arith) c.span_of-part.ensures c.first_apart-k.ensures.range.0 c.if-k-first.false in
    let inside = part_within c.args.level c.first_apart-k.result some at.under in
    (omega arith, (search rules, (omega arith, (rw c.span_of-part.ensures (omega (arith, inside)), (rw c.span_of-part.ensures (omega (arith, at.begins)), rw c.span_of-part.ensures (omega (arith, at.ends)))))))

pub returns-clause-shared : goal.returns-clause-shared
returns-clause-shared g t c = λ one other honest first second.
    let looks = c.in_ok-load_node.ensures.looks.looks in
    let again = c.in_ok-load_node-2.ensures.looks.looks in
    let now = c.shared_below.ensures.looks.reads.honest honest in
    let some : 0 < c.args.level = omega arith in
    let later = sym c.is_flat.ensures ∙ c.if-is_flat.false in
    let earlier = sym c.is_flat-else-is_flat.ensures ∙ c.if-is_flat-2.false in
    let at = stands_here c.args.level (c.args.from - c.args.base) c.span_of-part.result c.first_apart-k.result some (omega arith) c.span_of-part.ensures c.first_apart-k.ensures.range.0 c.if-k-first.false in
    let parts = there_after again (λ (seen : List ℕ) (s : FreeSectors). Parts (Has seen s) (c.args.level - 1) c.load_node.new.io.node c.args.base one)
    (c.in_ok-load_node.ensures.parts c.args.base one some later (again.reads.honest now) first) in
    let others = c.in_ok-load_node-2.ensures.parts c.args.base other some earlier now (there_after looks (λ (seen : List ℕ) (s : FreeSectors). Subtree (Has seen s) c.args.level c.args.earlier c.args.base other) second) in
    c.shared_below.ensures.shared one other honest
    (rw (c.child_at.ensures.child, c.replace-node.ensures.value, c.span_of-part.ensures) (parts.below c.first_apart-k.result at.under))
    (rw (c.child_at-other.ensures.child, c.span_of-part.ensures) (others.below c.first_apart-k.result at.under))

pub returns-clause-range : goal.returns-clause-range
returns-clause-range g t c =
    let some : 0 < c.args.level = omega arith in
    let at = stands_here c.args.level (c.args.from - c.args.base) c.span_of-part.result c.first_apart-k.result some (omega arith) c.span_of-part.ensures c.first_apart-k.ensures.range.0 c.if-k-first.false in
    let inside = part_within c.args.level c.first_apart-k.result some at.under in
    IfOk-weaker c.shared_below.result _ _ (λ reached is. (is.0, omega (arith, is.1, inside))) (rw c.span_of-part.ensures at c.shared_below.ensures.range)

pub returns-clause-damaged : goal.returns-clause-damaged
returns-clause-damaged g t c = λ honest.
    let looks = c.in_ok-load_node.ensures.looks.looks in
    let again = c.in_ok-load_node-2.ensures.looks.looks in
    let now = c.shared_below.ensures.looks.reads.honest honest in
    let some : 0 < c.args.level = omega arith in
    let at = stands_here c.args.level (c.args.from - c.args.base) c.span_of-part.result c.first_apart-k.result some (omega arith) c.span_of-part.ensures c.first_apart-k.ensures.range.0 c.if-k-first.false in
    children_below (Looks-then looks again) c.args.level c.first_apart-k.result c.args.later c.args.earlier c.load_node.new.io.node c.load_node-2.new.io.node some
    (sym c.is_flat.ensures ∙ c.if-is_flat.false) (sym c.is_flat-else-is_flat.ensures ∙ c.if-is_flat-2.false) (c.in_ok-load_node.ensures.block (again.reads.honest now))
    (seen_before looks (λ (seen : List ℕ) (size : ℕ). IsBlock seen c.args.earlier c.load_node-2.new.io.node) (c.in_ok-load_node-2.ensures.block now)) at.under c.shared_below.result
    (rw (c.child_at.ensures.child, c.child_at-other.ensures.child, c.replace-node.ensures.value) at (c.shared_below.ensures.damaged honest))

pub returns-clause-looks : goal.returns-clause-looks
returns-clause-looks g t c = Looks-then (Looks-then c.in_ok-load_node.ensures.looks.looks c.in_ok-load_node-2.ensures.looks.looks) c.shared_below.ensures.looks
