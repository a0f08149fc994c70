-- Where the bytes of a list stand in leaves, the list stands there.
use Rattle.std.proofs.Common.{◌≡◌, ℕ, List, length, refl, subst}
use Rattle.zst_block.specs.declared.ptr.Ptr.{Ptr}
use Rattle.zst_model.specs.fields.Lists.{Runs, IsRunList}
use Rattle.zst_tree.specs.Indices.{Blocks}
use Rattle.zst_leaves.specs.Leaves.{HasLeaves}
use Rattle.zst_list.specs.Spelling.{list_bytes}
use Rattle.zst_list.specs.StoredLists.{HasList}

pub list_there : (has : Blocks) (levels : ℕ) (root : Ptr) (runs : Runs) (text : List ℕ) → IsRunList runs → text ≡ list_bytes runs → HasLeaves has levels root text → HasList has levels root (length runs) runs
list_there has levels root runs text lawful spelled leaves = record { lawful = lawful; count_is = refl; leaves = λ some. subst (HasLeaves has levels root) spelled leaves }
