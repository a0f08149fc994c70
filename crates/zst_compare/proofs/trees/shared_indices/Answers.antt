use Rattle.std.proofs.Common.{inl}
use Rattle.zst_block.specs.IoStates.{blocks_of, disk_of}
use Rattle.zst_tree.specs.Damage.{IsSeen}
use Rattle.zst_tree.proofs.Results.{delivers_if}
use Rattle.zst_compare.specs.Contents.{Alike, AreKept}
use Rattle.zst_compare.specs.Damage.{IsDamagedIndex, IsDamagedTree, OfEither}
use Rattle.zst_compare.proofs.Contents.{shared_kept}
use Rattle.zst_compare.proofs.Sharing.{Has-one}
use Rattle.zst_compare.proofs.Told.{damaged_up, either_up}
use Rattle.zst_compare.proofs.trees.shared_indices.Goals as goal

pub returns-clause-kept : goal.returns-clause-kept
returns-clause-kept g c = λ number now was now_dates was_dates honest first second.
    delivers_if (Alike first.map second.map c.args.index) (AreKept number was was_dates now now_dates c.args.index) c.shared_to.result
    (λ reached alike. shared_kept (blocks_of c.args.io.now) (Has-one (disk_of c.args.io.now).seen c.args.io.now.space) number c.args.later.now c.args.earlier.now now was now_dates was_dates first second c.args.index reached c.if-later-earlier.false alike)
    (c.shared_to.ensures.shared first.map second.map honest first.tree second.tree)

pub returns-clause-damaged : goal.returns-clause-damaged
returns-clause-damaged g c = λ honest.
    let seen = (disk_of c.args.io.now).seen in
    let size = (disk_of c.args.io.now).size in
    let later = c.args.later.now in
    let earlier = c.args.earlier.now in
    damaged_up (OfEither (IsDamagedTree (IsSeen seen) size later.tree) (IsDamagedTree (IsSeen seen) size earlier.tree)) (OfEither (IsDamagedIndex (IsSeen seen) size later) (IsDamagedIndex (IsSeen seen) size earlier)) c.shared_to.result
    (either_up (IsDamagedTree (IsSeen seen) size later.tree) (IsDamagedTree (IsSeen seen) size earlier.tree) (IsDamagedIndex (IsSeen seen) size later) (IsDamagedIndex (IsSeen seen) size earlier)
    (λ sector stated found told. inl told) (λ sector stated found told. inl told)) (c.shared_to.ensures.damaged honest)
