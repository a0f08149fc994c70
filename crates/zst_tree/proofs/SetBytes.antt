-- Writes and ranges of whole texts, and the bytes of an object set by their parts.
use Rattle.std.proofs.Common.{◌≡◌, ℕ, ◌+◌, List, ◌++◌, length, refl, ap, ◌∙◌, append_assoc, arith}
use Rattle.std.proofs.lemmas.List.{take_all, drop_all, append-nil}
use Rattle.zst_bytes.specs.Bytes.{bytes_at, written}
use Rattle.zst_bytes.specs.Words.{word}
use Rattle.zst_block.specs.Ptr.{ptr_bytes}
use Rattle.zst_block.specs.declared.ptr.Ptr.{Ptr}
use Rattle.zst_tree.specs.Sets.{set_bytes}
use Rattle.zst_tree.specs.declared.tree.ObjSet.{ObjSet}

-- a write of a whole text leaves nothing of the old one
pub written-whole : (width : ℕ) (bytes old : List ℕ) → length old ≡ width → written 0 width bytes old ≡ bytes
unfolding written
written-whole width bytes old size =
    ap (λ (rest : List ℕ). bytes ++ rest) (drop_all (0 + width) old (omega arith)) ∙ append-nil bytes

-- the range of a whole text is the text
pub bytes_at-whole : (width : ℕ) (bytes : List ℕ) → length bytes ≡ width → bytes_at bytes 0 width ≡ bytes
unfolding bytes_at
bytes_at-whole width bytes size = take_all width bytes (omega arith)

-- an object set begins with its levels
pub set_parts : (set : ObjSet) (rest : List ℕ) → set_bytes set ++ rest ≡ word set.tree.levels ++ (word set.tree.past ++ (ptr_bytes set.tree.root ++ rest))
unfolding set_bytes
set_parts set rest = simp append_assoc

-- an object set is its fields
pub set_of_parts : (set : ObjSet) (levels past : ℕ) (root : Ptr) → levels ≡ set.tree.levels → past ≡ set.tree.past → root ≡ set.tree.root
    → record { tree = record { levels = levels; past = past; root = root } } ≡ set
set_of_parts set levels past root same_levels same_past same_root = rw (same_levels, same_past, same_root) refl
