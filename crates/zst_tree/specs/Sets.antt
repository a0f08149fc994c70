-- The bytes of an object set: its levels, the date past its span, and its root.
use Rattle.std.specs.Prelude.{ℕ, ◌<◌, ◌≤◌, ◌^◌, List, ◌++◌}
use Rattle.zst_bytes.specs.Words.{word}
use Rattle.zst_block.specs.Ptr.{ptr_bytes, PtrFits, hole_of}
use Rattle.zst_tree.specs.declared.tree.ObjSet.{ObjSet}

-- the set of no objects, which nothing touched
abbrev pub no_objects : ObjSet
no_objects = record { tree = record { levels = 0; past = 0; root = hole_of 0 } }

-- its 80 bytes
unfoldable pub set_bytes : ObjSet → List ℕ
set_bytes set = word set.tree.levels ++ (word set.tree.past ++ ptr_bytes set.tree.root)

-- its numbers fit their fields, and it has at most 7 levels
pub record SetFits (set : ObjSet) : Type 0 where
  pub levels : set.tree.levels ≤ 7
  pub past : set.tree.past < 2 ^ 64
  pub root : PtrFits set.tree.root
