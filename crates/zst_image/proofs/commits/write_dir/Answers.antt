use Rattle.std.proofs.Common.{rules, ◌<◌, ℕ, length, List, sym, subst}
use Rattle.zst_leaves.proofs.LeavesLaws.{HasLeaves-laid}
use Rattle.zst_extents.proofs.FewerSectors.{blocks_shorter}
use Rattle.zst_image.proofs.Directories.{DirStands-bytes, IsDir-some}
use Rattle.zst_image.proofs.commits.write_dir.Goals as goal

pub write_bytes-requires : goal.write_bytes-requires
write_bytes-requires g c = record {
  some = subst (λ (l : List ℕ). 0 < length l) (sym c.deref.ensures.value) (IsDir-some c.args.dir.now c.in_ok-bytes.bytes.items c.in_ok-bytes.ensures.spelled);
  few = rw c.deref.ensures.value c.in_ok-bytes.ensures.few;
}

pub returns-clause-there : goal.returns-clause-there
returns-clause-there g c =
    let tree = c.in_ok-tree.tree in
    let leaves = HasLeaves-laid c.args.number c.args.io.now.space _ tree.levels tree.root c.deref.result.now c.in_ok-tree.ensures.written.laid in
    DirStands-bytes _ tree.levels tree.root _ c.args.dir.now c.deref.result.now (rw c.deref.ensures.value c.in_ok-bytes.ensures.spelled) (search rules) leaves

pub returns-clause-extents : goal.returns-clause-extents
returns-clause-extents g c = rw c.in_ok-tree.ensures.written.after (blocks_shorter _ c.args.io.now.space)
