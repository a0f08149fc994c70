-- A list that stands over some blocks stands over more.
use Rattle.std.proofs.Common.{ℕ, List}
use Rattle.zst_block.specs.declared.ptr.Ptr.{Ptr}
use Rattle.zst_model.specs.fields.Lists.{Runs}
use Rattle.zst_tree.specs.Indices.{Blocks}
use Rattle.zst_leaves.proofs.LeavesLaws.{HasLeaves-grows}
use Rattle.zst_list.specs.Spelling.{list_bytes}
use Rattle.zst_list.specs.StoredLists.{HasList}

pub HasList-grows : (has more : Blocks) → ((ptr : Ptr) (bytes : List ℕ) → has ptr bytes → more ptr bytes) → (levels : ℕ) (root : Ptr) (count : ℕ) (runs : Runs) → HasList has levels root count runs → HasList more levels root count runs
HasList-grows has more up levels root count runs is = record { lawful = is.lawful; count_is = is.count_is; leaves = λ some. HasLeaves-grows has more up levels root (list_bytes runs) (is.leaves some) }
