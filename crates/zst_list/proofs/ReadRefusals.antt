-- What a refusal of reading a list tells.
use Rattle.std.specs.Prelude.{Result, Ok, Err, Option, Some, None}
use Rattle.std.proofs.Common.{◌≡◌, ◌∙◌, inl, inr, ℕ, ◌<◌, ◌≤◌, List, length, refl, sym, subst, arith}
use Rattle.std.specs.Result.{IsErrAnd}
use Rattle.zst_fletcher.specs.WeightSum.{parts_of}
use Rattle.zst_block.specs.declared.fault.BlockFault.TheVariants.{Damaged}
use Rattle.zst_block.specs.declared.ptr.Ptr.{Ptr}
use Rattle.zst_model.specs.fields.Lists.{Runs}
use Rattle.zst_tree.specs.Indices.{Blocks}
use Rattle.zst_leaves.specs.Damage.{TellsText}
use Rattle.zst_leaves.specs.Leaves.{BlocksBefore, GivesText, HasLeaves, IsLeast}
use Rattle.zst_tree.specs.declared.or_memory.OrMemory.{OrMemory}
use Rattle.zst_block.specs.declared.fault.BlockFault.{BlockFault}
use Rattle.zst_tree.specs.declared.or_memory.OrMemory.TheVariants.{Fault, Memory}
use Rattle.zst_leaves.proofs.DamageLemmas.{alike_told}
use Rattle.zst_leaves.proofs.LevelCounts.{span_le, span_three}
use Rattle.zst_list.specs.Spelling.{IsList, list_bytes}
use Rattle.zst_list.specs.StoredLists.{GivesList, TellsList, list_length}
use Rattle.zst_list.proofs.Sizes.{length-list}

-- where the text is there, no damage is told of the list
pub none_told : (runs : Runs) (text : List ℕ) (T : Type 0) (items : T → List ℕ) (result : Result Runs (OrMemory BlockFault)) (fault : OrMemory BlockFault) → IsErrAnd result (λ made. made ≡ fault)
    → GivesText text items (Err fault) → GivesList runs (λ list. list) result
none_told runs text T items (Ok value) fault is given = absurd is
none_told runs text T items (Err made) (Fault fault) is given = rw is given
none_told runs text T items (Err made) Memory is given = rw is tt

-- what the read of the leaves tells
pub leaves_told : (end : ℕ) (image : List ℕ) (size levels : ℕ) (root : Ptr) (count long : ℕ) (T : Type 0) (result : Result Runs (OrMemory BlockFault)) (fault : OrMemory BlockFault) → IsErrAnd result (λ made. made ≡ fault)
    → long ≡ list_length count → TellsText {T = T} end image size levels root long (Err fault) → TellsList end image size levels root count result
leaves_told end image size levels root count long T (Ok value) fault is same told = absurd is
leaves_told end image size levels root count long T (Err made) (Fault fault) is same told = rw (is, sym same) (inl told)
leaves_told end image size levels root count long T (Err made) Memory is same told = rw is tt

-- more runs than fit leaves have room below no levels
too_long : (levels count : ℕ) → 715827882 < count → ¬ IsLeast levels (list_length count)
too_long levels count many least = omega (arith, many, least.enough, span_le levels 3 least.few, span_three)

-- the root of so many runs is told, whatever it leads to
pub long_told : (end : ℕ) (image : List ℕ) (size levels : ℕ) (root : Ptr) (count : ℕ) (fault : OrMemory BlockFault) → 715827882 < count → fault ≡ Fault (Damaged root.sector (parts_of root.sum) (parts_of root.sum))
    → TellsList {T = Runs} end image size levels root count (Err fault)
long_told end image size levels root count fault many is = rw is (inl (inl (alike_told image size _ root _ refl (λ least. too_long levels count many least.1))))

-- what none was found of is the text of no list
pub none_found : (count : ℕ) (text bytes : List ℕ) (list : Option Runs) → text ≡ bytes → list ≡ None → ((runs : Runs) → IsList count runs text → list ≡ Some runs) → (runs : Runs) → ¬ IsList count runs bytes
none_found count text bytes list same none found runs is = let some = found runs (subst (IsList count runs) (sym same) is) in absurd (cc (some, none))

-- and where its leaves were all read the root is told
pub root_told : (end : ℕ) (image : List ℕ) (size levels : ℕ) (root : Ptr) (count long : ℕ) (text : List ℕ) (fault : OrMemory BlockFault) → HasLeaves (BlocksBefore end image) levels root text → length text ≡ long → long ≡ list_length count
    → ((runs : Runs) → ¬ IsList count runs text) → fault ≡ Fault (Damaged root.sector (parts_of root.sum) (parts_of root.sum)) → TellsList {T = Runs} end image size levels root count (Err fault)
root_told end image size levels root count long text fault leaves as_long is_long none is = rw is (inr (record { text = text; leaves = leaves; long = as_long ∙ is_long; no_list = none }, (refl, refl, refl)))

-- a list in leaves has no more runs than fit them
pub few_runs : (has : Blocks) (levels : ℕ) (root : Ptr) (runs : Runs) → HasLeaves has levels root (list_bytes runs) → length runs ≤ 715827882
few_runs has levels root runs is = omega (arith, length-list runs, is.least.enough, span_le levels 3 is.least.few, span_three)
