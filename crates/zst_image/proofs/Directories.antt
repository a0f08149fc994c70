-- A directory in the leaves of a tree.
use Rattle.std.specs.Prelude.{IsTrue}
use Rattle.std.proofs.Common.{◌≡◌, ℕ, zero, suc, ◌<◌, List, [], length, ◌++◌, flat_map, inl, inr, refl, sym, ap, subst, arith, length-append}
use Rattle.zst_bytes.specs.Words.{word}
use Rattle.zst_bytes.proofs.BytesLaws.{length-number_bytes}
use Rattle.zst_block.specs.Ptr.{is_lawful}
use Rattle.zst_block.specs.declared.ptr.Ptr.{Ptr}
use Rattle.zst_tree.specs.Indices.{Blocks}
use Rattle.zst_leaves.specs.Leaves.{HasLeaves, LeavesBelow}
use Rattle.zst_leaves.proofs.LeavesLaws.{HasLeaves-grows}
use Rattle.zst_dir.specs.Rows.{Rows, no_rows}
use Rattle.zst_dir.specs.Spelling.{IsDir, dir_bytes, dataset_bytes, bookmark_bytes, partial_bytes, rows_bytes}
use Rattle.zst_image.specs.Reads.{DirStands, dir_sectors}

dir_bytes-some : (rows : Rows) → 0 < length (dir_bytes rows)
unfolding dir_bytes
dir_bytes-some rows =
    let first = word (length rows.datasets) in
    let rest = rows_bytes bookmark_bytes rows.bookmarks ++ rows_bytes partial_bytes rows.partials in
    omega (arith, length-append (first ++ flat_map (dataset_bytes rows.snapshots) rows.datasets) rest, length-append first (flat_map (dataset_bytes rows.snapshots) rows.datasets), length-number_bytes 8 (length rows.datasets))

-- a directory has some bytes
pub IsDir-some : (rows : Rows) (bytes : List ℕ) → IsDir rows bytes → 0 < length bytes
IsDir-some rows bytes is = subst (λ (l : List ℕ). 0 < length l) (sym is.spelled) (dir_bytes-some rows)

-- where the bytes of a directory stand in leaves, it stands there
pub DirStands-bytes : (has : Blocks) (levels : ℕ) (root : Ptr) (count : ℕ) (rows : Rows) (bytes : List ℕ) → IsDir rows bytes → length bytes ≡ count → HasLeaves has levels root bytes → DirStands has levels root count rows
DirStands-bytes has levels root count rows bytes is long leaves = record {
  directory = subst (IsDir rows) is.spelled is;
  count_is = subst (λ (l : List ℕ). count ≡ length l) is.spelled (sym long);
  leaves = subst (λ (l : List ℕ). HasLeaves has levels root l) is.spelled leaves;
}

-- and it still does as long as its blocks are there
pub DirStands-grows : (has more : Blocks) → ((ptr : Ptr) (bytes : List ℕ) → has ptr bytes → more ptr bytes) → (levels : ℕ) (root : Ptr) (count : ℕ) (rows : Rows) → DirStands has levels root count rows → DirStands more levels root count rows
DirStands-grows has more up levels root count rows is = record { directory = is.directory; count_is = is.count_is; leaves = HasLeaves-grows has more up levels root (dir_bytes rows) is.leaves }

lawful-data : (ptr : Ptr) → ptr.kind ≡ 1 → IsTrue (is_lawful ptr)
lawful-data ptr kind = rw kind refl

lawful-node : (ptr : Ptr) → ptr.kind ≡ 3 → IsTrue (is_lawful ptr)
lawful-node ptr kind = rw kind refl

pub lawful-below : (has : Blocks) (level : ℕ) (ptr : Ptr) (text : List ℕ) → 0 < length text → LeavesBelow has level ptr text → IsTrue (is_lawful ptr)
unfolding LeavesBelow
lawful-below has zero ptr text some (inl hole) = absurd (omega (arith, some, ap (λ (l : List ℕ). length l) hole.0))
lawful-below has zero ptr text some (inr leaf) = lawful-data ptr leaf.1.kind_is
lawful-below has (suc level) ptr text some (inl hole) = absurd (omega (arith, some, ap (λ (l : List ℕ). length l) hole.0))
lawful-below has (suc level) ptr text some (inr (any, (node, over, parts))) = lawful-node ptr over.kind_is

-- the root of a directory is a lawful pointer
pub DirStands-lawful : (has : Blocks) (levels : ℕ) (root : Ptr) (count : ℕ) (rows : Rows) → DirStands has levels root count rows → IsTrue (is_lawful root)
DirStands-lawful has levels root count rows is = lawful-below has levels root (dir_bytes rows) is.leaves.some is.leaves.below

pub length-no_rows : length (dir_bytes no_rows) ≡ 24
unfolding dir_bytes
length-no_rows =
    let none = word 0 ++ [] in
    let all : length (none ++ (none ++ none)) ≡ 24 = omega (arith, length-append none (none ++ none), length-append none none, length-append (word 0) [], length-number_bytes 8 0) in
    all

-- one without rows has 64 sectors at most
pub dir_sectors-none : dir_sectors (length (dir_bytes no_rows)) ≡ 64
dir_sectors-none = omega (arith, length-no_rows)
