use Rattle.std.proofs.Common.{rules, ◌≡◌, ◌+◌, List, length, refl, ap, arith}
use Rattle.std.proofs.lemmas.List.{nil_from_length}
use Rattle.std.proofs.lemmas.Result.{err_from_is_err_and}
use Rattle.zst_space.specs.FreeSectors.{room}
use Rattle.zst_space.specs.declared.space.Extent.{Extent}
use Rattle.zst_block.specs.IoStates.{blocks_of, disk_of}
use Rattle.zst_block.proofs.BlocksLaws.{KeepsBlocks-fills}
use Rattle.zst_block.proofs.IoCallLemmas.{Works-more, Works-then}
use Rattle.zst_extents.proofs.TreeBlocks.{fewer_extents}
use Rattle.zst_image.specs.Bodies.{Body}
use Rattle.zst_image.proofs.Directories.{DirStands-grows}
use Rattle.zst_image.proofs.commits.write_next.Goals as goal

pub returns-in_err-tree-clause-next : goal.returns-in_err-tree-clause-next
returns-in_err-tree-clause-next g c =
    let p = err_from_is_err_and c.from_residual.result c.from_residual.ensures.1 in
    rw (p.1) tt

pub returns-in_err-tree-clause-one_leaf : goal.returns-in_err-tree-clause-one_leaf
returns-in_err-tree-clause-one_leaf g c = λ none small.
    let p = err_from_is_err_and c.from_residual.result c.from_residual.ensures.1 in
    rw (p.1) tt

pub returns-in_err-tree-clause-works : goal.returns-in_err-tree-clause-works
returns-in_err-tree-clause-works g c =
    let p = err_from_is_err_and c.from_residual.result c.from_residual.ensures.1 in
    rw (p.1, p.2) (Works-more (omega arith) c.in_err-tree.ensures.works)

pub returns-in_err-stored-clause-next : goal.returns-in_err-stored-clause-next
returns-in_err-stored-clause-next g c =
    let p = err_from_is_err_and c.from_residual-in_err-stored.result c.from_residual-in_err-stored.ensures.1 in
    rw (p.1) tt

pub returns-in_err-stored-clause-one_leaf : goal.returns-in_err-stored-clause-one_leaf
returns-in_err-stored-clause-one_leaf g c = λ none small.
    let p = err_from_is_err_and c.from_residual-in_err-stored.result c.from_residual-in_err-stored.ensures.1 in
    rw (p.1) tt

pub returns-in_err-stored-clause-works : goal.returns-in_err-stored-clause-works
returns-in_err-stored-clause-works g c =
    let p = err_from_is_err_and c.from_residual-in_err-stored.result c.from_residual-in_err-stored.ensures.1 in
    let less = fewer_extents _ (length c.args.io.now.space.free) c.in_ok-tree.ensures.extents in
    rw (p.1, p.2) (Works-more (omega (arith, less)) (Works-then c.in_ok-tree.ensures.works c.in_err-stored.ensures.works))

pub returns-in_err-extend_from_slice-clause-next : goal.returns-in_err-extend_from_slice-clause-next
returns-in_err-extend_from_slice-clause-next g c =
    let p = err_from_is_err_and c.from_residual-in_err-extend_from_slice.result c.from_residual-in_err-extend_from_slice.ensures.1 in
    rw (p.1) tt

pub returns-in_err-extend_from_slice-clause-one_leaf : goal.returns-in_err-extend_from_slice-clause-one_leaf
returns-in_err-extend_from_slice-clause-one_leaf g c = λ none small.
    let p = err_from_is_err_and c.from_residual-in_err-extend_from_slice.result c.from_residual-in_err-extend_from_slice.ensures.1 in
    rw (p.1) tt

pub returns-in_err-extend_from_slice-clause-works : goal.returns-in_err-extend_from_slice-clause-works
returns-in_err-extend_from_slice-clause-works g c =
    let p = err_from_is_err_and c.from_residual-in_err-extend_from_slice.result c.from_residual-in_err-extend_from_slice.ensures.1 in
    let less = fewer_extents _ (length c.args.io.now.space.free) c.in_ok-tree.ensures.extents in
    rw (p.1, p.2) (Works-more (omega (arith, less)) (Works-then c.in_ok-tree.ensures.works c.in_ok-stored.ensures.works))

-- what the body names stands there
pub returns-clause-next : goal.returns-clause-next
returns-clause-next g c =
    let left = c.write_free.new.io.space in
    let body = c.args.body.now in
    let tree = c.in_ok-tree.tree in
    let stored = c.in_ok-stored.stored in
    let made : Body = record {
      uber = record body.uber {
        number = body.uber.number + 1;
        guids = c.args.guids;
        end = left.end;
        dir_levels = tree.levels;
        dir_bytes = c.in_ok-tree.length;
        dir_root = tree.root;
        free_count = stored.count;
        free_levels = stored.levels;
        free_root = stored.root;
      };
      free = left.free;
    } in
    let copied : c.extend_from_slice.new.self.items ≡ left.free = search rules in
    let same : c.new.result ≡ made = rw (c.new.ensures, c.naming.ensures, c.next_uber-uber.ensures, c.uber-2.ensures, c.end.ensures, copied) refl in
    let mid = c.write_dir.new.io in
    let last = c.write_free.new.io in
    let keeps = KeepsBlocks-fills (disk_of mid) (disk_of last) mid.space left c.in_ok-stored.ensures.works.fills in
    rw same (record {
      version = refl;
      id = refl;
      number = refl;
      guid_counter = refl;
      sectors = refl;
      end = refl;
      free = refl;
      directory = DirStands-grows (blocks_of mid) (blocks_of last) keeps tree.levels tree.root c.in_ok-tree.length c.args.dir.now c.in_ok-tree.ensures.there;
      extents = c.in_ok-stored.ensures.there;
      apart = c.in_ok-stored.ensures.apart;
    })

pub returns-clause-one_leaf : goal.returns-clause-one_leaf
returns-clause-one_leaf g c = λ none small.
    let none_left = nil_from_length c.write_dir.new.io.space.free (omega (arith, c.in_ok-tree.ensures.extents, ap (λ (l : List Extent). length l) none)) in
    let same = c.in_ok-stored.ensures.none none_left in
    omega (arith, ap room same, c.in_ok-tree.ensures.one_leaf small)

pub returns-clause-works : goal.returns-clause-works
returns-clause-works g c =
    let less = fewer_extents _ (length c.args.io.now.space.free) c.in_ok-tree.ensures.extents in
    Works-more (omega (arith, less)) (Works-then c.in_ok-tree.ensures.works c.in_ok-stored.ensures.works)
