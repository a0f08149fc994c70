use Rattle.std.proofs.Common.{rules, ◌≡◌, ◌*◌, ◌<◌, ℕ, List, length, refl, sym, ◌∙◌, ap, arith}
use Rattle.std.proofs.lemmas.Result.{err_from_is_err_and}
use Rattle.zst_space.specs.TakenExtents.{without_blocks}
use Rattle.zst_block.proofs.IoCallLemmas.{Looks-none, Works-looks, Works-more}
use Rattle.zst_leaves.specs.Leaves.{blocks_for}
use Rattle.zst_leaves.proofs.BlockCounts.{blocks_none}
use Rattle.zst_leaves.proofs.TakenBlocks.{blocks_none_taken}
use Rattle.zst_extents.specs.StoredExtents.{extent_bytes}
use Rattle.zst_extents.proofs.Stored.{spelled_length}
use Rattle.zst_extents.proofs.TreeBlocks.{few_blocks, least_levels}
use Rattle.zst_extents.proofs.writes.write_unmarked.Goals as goal

pub returns-in_err-bytes-clause-works : goal.returns-in_err-bytes-clause-works
returns-in_err-bytes-clause-works g c =
    let p = err_from_is_err_and c.from_residual.result c.from_residual.ensures.1 in
    rw (p.1, p.2) (Works-looks (Looks-none _))

pub returns-then-is_empty-clause-there : goal.returns-then-is_empty-clause-there
returns-then-is_empty-clause-there g c =
    let empty : length c.in_ok-bytes.bytes.items ≡ 0 = search rules in
    record { count_is = refl; none = λ zero. (refl, c.hole.ensures); leaves = λ some. absurd (omega (arith, some, spelled_length c.args.extents.now, ap length c.in_ok-bytes.ensures, empty)) }

pub returns-then-is_empty-clause-after : goal.returns-then-is_empty-clause-after
returns-then-is_empty-clause-after g c =
    let empty : length c.in_ok-bytes.bytes.items ≡ 0 = search rules in
    let none : blocks_for 0 (length (extent_bytes c.args.extents.now)) ≡ 0 = ap (blocks_for 0) (sym (ap length c.in_ok-bytes.ensures) ∙ empty) ∙ blocks_none 0 in
    record { after = sym (ap (λ (n : ℕ). without_blocks n c.args.io.now.space) none ∙ blocks_none_taken c.args.io.now.space); few = omega (arith, none) }

pub returns-then-is_empty-clause-works : goal.returns-then-is_empty-clause-works
returns-then-is_empty-clause-works g c = Works-looks (Looks-none _)

pub write_leaves-requires-clause-small : goal.write_leaves-requires-clause-small
write_leaves-requires-clause-small g c =
    let spelled : c.deref.result.now ≡ extent_bytes c.args.extents.now = c.deref.ensures.value ∙ c.in_ok-bytes.ensures in
    omega (arith, ap length spelled, spelled_length c.args.extents.now)

pub returns-in_err-tree-clause-works : goal.returns-in_err-tree-clause-works
returns-in_err-tree-clause-works g c =
    let p = err_from_is_err_and c.from_residual-in_err-tree.result c.from_residual-in_err-tree.ensures.1 in
    let spelled : c.deref.result.now ≡ extent_bytes c.args.extents.now = c.deref.ensures.value ∙ c.in_ok-bytes.ensures in
    let some : 0 < length c.deref.result.now = search rules in
    let long : length c.deref.result.now ≡ 16 * length c.args.extents.now = ap length spelled ∙ spelled_length c.args.extents.now in
    let least = least_levels (length c.deref.result.now) (omega (arith, long)) in
    let few = few_blocks least.0 (length c.deref.result.now) (length c.args.extents.now) (length c.args.extents.now) least.1 some long (omega arith) in
    rw (p.1, p.2) (Works-more (omega (arith, few)) (c.in_err-tree.ensures.exact least.0 least.1))

pub returns-clause-there : goal.returns-clause-there
returns-clause-there g c =
    let spelled : c.deref.result.now ≡ extent_bytes c.args.extents.now = c.deref.ensures.value ∙ c.in_ok-bytes.ensures in
    let some : 0 < length c.deref.result.now = search rules in
    let long : length c.deref.result.now ≡ 16 * length c.args.extents.now = ap length spelled ∙ spelled_length c.args.extents.now in
    record { count_is = refl; none = λ zero. absurd (omega (arith, zero, long, some)); leaves = λ any. rw (← spelled) c.in_ok-tree.ensures.written.laid }

pub returns-clause-after : goal.returns-clause-after
returns-clause-after g c =
    let levels = c.in_ok-tree.tree.levels in
    let spelled : c.deref.result.now ≡ extent_bytes c.args.extents.now = c.deref.ensures.value ∙ c.in_ok-bytes.ensures in
    let some : 0 < length c.deref.result.now = search rules in
    let long : length c.deref.result.now ≡ 16 * length c.args.extents.now = ap length spelled ∙ spelled_length c.args.extents.now in
    let few = few_blocks levels (length c.deref.result.now) (length c.args.extents.now) (length c.args.extents.now) c.in_ok-tree.ensures.written.laid.least some long (omega arith) in
    let same : blocks_for levels (length c.deref.result.now) ≡ blocks_for levels (length (extent_bytes c.args.extents.now)) = ap (λ (bytes : List ℕ). blocks_for levels (length bytes)) spelled in
    record { after = c.in_ok-tree.ensures.written.after ∙ ap (λ (n : ℕ). without_blocks n c.args.io.now.space) same; few = omega (arith, few, same) }

pub returns-clause-works : goal.returns-clause-works
returns-clause-works g c =
    let spelled : c.deref.result.now ≡ extent_bytes c.args.extents.now = c.deref.ensures.value ∙ c.in_ok-bytes.ensures in
    let some : 0 < length c.deref.result.now = search rules in
    let long : length c.deref.result.now ≡ 16 * length c.args.extents.now = ap length spelled ∙ spelled_length c.args.extents.now in
    let least = c.in_ok-tree.ensures.written.laid.least in
    let few = few_blocks c.in_ok-tree.tree.levels (length c.deref.result.now) (length c.args.extents.now) (length c.args.extents.now) least some long (omega arith) in
    Works-more (omega (arith, few)) (c.in_ok-tree.ensures.exact c.in_ok-tree.tree.levels least)
