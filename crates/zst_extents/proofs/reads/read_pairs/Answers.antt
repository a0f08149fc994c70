use Rattle.std.specs.Prelude.{Vec}
use Rattle.std.specs.declared.alloc.Global.{Global}
use Rattle.std.proofs.Common.{◌≡◌, ℕ, ◌*◌, List, length, sym, ap, ◌∙◌, subst, arith}
use Rattle.zst_space.specs.declared.space.Extent.{Extent}
use Rattle.zst_block.specs.IoStates.{disk_of}
use Rattle.zst_leaves.specs.Leaves.{BlocksBefore, HasLeaves}
use Rattle.zst_extents.specs.StoredExtents.{extent_bytes}
use Rattle.zst_extents.proofs.OneSet.{bytes_tell}
use Rattle.zst_extents.proofs.ReadRefusals.{alike, few_extents, none_told, too_long}
use Rattle.zst_extents.proofs.Stored.{spelled_length}
use Rattle.zst_extents.proofs.reads.read_pairs.Goals as goal

pub returns-then-count-gt-MOST_EXTENTS-clause-there : goal.returns-then-count-gt-MOST_EXTENTS-clause-there
returns-then-count-gt-MOST_EXTENTS-clause-there g c = λ extents honest fit is.
    absurd (omega (arith, is.count_is, few_extents _ c.args.levels c.args.root extents (is.leaves (omega arith)), c.if-count-gt-MOST_EXTENTS.true))

pub returns-then-count-gt-MOST_EXTENTS-clause-damaged : goal.returns-then-count-gt-MOST_EXTENTS-clause-damaged
returns-then-count-gt-MOST_EXTENTS-clause-damaged g c = λ honest. alike _ _ _ c.args.levels c.args.root (16 * c.args.count) (Vec Extent Global) c.no_extents-then-count-gt-MOST_EXTENTS.result (too_long c.args.levels c.args.count c.if-count-gt-MOST_EXTENTS.true) c.no_extents-then-count-gt-MOST_EXTENTS.ensures

pub returns-in_err-bytes-clause-there : goal.returns-in_err-bytes-clause-there
returns-in_err-bytes-clause-there g c = λ extents honest fit is.
    let long : length (extent_bytes extents) ≡ 16 * c.args.count = omega (arith, spelled_length extents, is.count_is) in
    none_told extents (extent_bytes extents) _ (Vec ℕ Global) (λ read. read.items) _ c.from_residual.result c.in_err-bytes.field-0.0 c.from_residual.ensures.1 (c.in_err-bytes.ensures.there (extent_bytes extents) honest (is.leaves (omega arith)) long)

pub returns-clause-there : goal.returns-clause-there
returns-clause-there g c = λ extents honest fit is.
    let long : length (extent_bytes extents) ≡ 16 * c.args.count = omega (arith, spelled_length extents, is.count_is) in
    bytes_tell c.in_ok-extents.extents.items extents c.in_ok-extents.ensures.fit fit (sym c.in_ok-extents.ensures.spelled ∙ c.deref.ensures.value ∙ c.in_ok-bytes.ensures.there (extent_bytes extents) honest (is.leaves (omega arith)) long)

pub returns-clause-only : goal.returns-clause-only
returns-clause-only g c = λ honest.
    let read = c.in_ok-extents.extents.items in
    let spelled : c.in_ok-bytes.bytes.items ≡ extent_bytes read = sym c.deref.ensures.value ∙ c.in_ok-extents.ensures.spelled in
    record {
      count_is = omega (arith, spelled_length read, ap length spelled, c.in_ok-bytes.ensures.long);
      none = λ zero. absurd (omega (arith, zero));
      leaves = λ some. subst (λ (text : List ℕ). HasLeaves (BlocksBefore c.args.io.now.space.end (disk_of c.args.io.now).seen) c.args.levels c.args.root text) spelled (c.in_ok-bytes.ensures.only honest);
    }
