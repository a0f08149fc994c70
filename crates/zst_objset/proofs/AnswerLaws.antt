-- What is told of a set's blocks is what the definition finds.
use Rattle.std.proofs.Common.{◌≡◌, ℕ, ◌+◌, ◌^◌, ◌<◌, ◌≤◌, true, false, List, length, refl, sym, ◌∙◌, ap, subst, arith, nat_lt}
use Rattle.std.specs.Prelude.{Option, Some, None, Result, Ok, Err, replicate}
use Rattle.std.proofs.lemmas.Bool.Decides.{nat_tests}
use Rattle.zst_block.specs.declared.fault.BlockFault.{BlockFault}
use Rattle.zst_block.specs.declared.fault.BlockFault.TheVariants.{Full, Damaged, DiskFault}
use Rattle.zst_block.specs.declared.ptr.Ptr.{Ptr}
use Rattle.zst_model.specs.declared.refusals.apply_fault.ApplyFault.TheVariants.{NoObject}
use Rattle.zst_model.specs.declared.refusals.faults.Quantity.TheVariants as quantities
use Rattle.zst_model.specs.declared.refusals.refusal.Refusal.{Refusal}
use Rattle.zst_model.specs.declared.refusals.refusal.Refusal.TheVariants as refusals
use Rattle.zst_model.specs.declared.states.cell.Cell.{Cell}
use Rattle.zst_model.specs.declared.states.cell.Cell.TheVariants as cells
use Rattle.zst_model.specs.states.DatedState.{DatedState}
use Rattle.zst_model.specs.states.State.{Block, BlockFits, Hole, Redacted, Data, Object, IsObject, IsObjectOrNone, IsState, index_bound}
use Rattle.zst_model.specs.pools.Step.{in_indices}
use Rattle.zst_tree.specs.Indices.{Blocks, IsNoDamage}
use Rattle.zst_objset.specs.Answers.{FindsThere, IsDiskFault, ReadsBlock, ReadsCell, ReadsData, Refuses}
use Rattle.zst_objset.specs.Changes.{block_found, found_at}
use Rattle.zst_objset.specs.Dnodes.{BlockIs}
use Rattle.zst_objset.specs.declared.fault.ObjFault.{ObjFault}
use Rattle.zst_objset.specs.declared.fault.ObjFault.TheVariants as faults

-- no damage, and never full: the disk failed
pub disk_fault : (fault : BlockFault) → IsNoDamage fault → ((need largest : ℕ) → Some fault ≡ Some (Full need largest) → ⊥) → IsDiskFault (faults.Block fault)
disk_fault (Full need largest) is never = never need largest refl
disk_fault (Damaged sector stated found) is never = is
disk_fault DiskFault is never = tt

-- a definition says nothing of a disk that fails
pub Refuses-disk : {A : Type 0} (definition : Result A Refusal) (fault : ObjFault) → IsDiskFault fault → Refuses definition fault
Refuses-disk definition (faults.CannotApply fault) is = absurd is
Refuses-disk definition (faults.Redacted object block) is = absurd is
Refuses-disk definition (faults.Limit which number) is = absurd is
Refuses-disk definition (faults.Block (Full need largest)) is = absurd is
Refuses-disk definition (faults.Block (Damaged sector stated found)) is = absurd is
Refuses-disk definition (faults.Block DiskFault) is = tt

-- an index below the bound is no limit
pub in_indices_ok : {A : Type 0} (i : ℕ) (made : A) → i < 2 ^ 43 → in_indices (i + 1) (Ok made) ≡ Ok made
unfolding index_bound
in_indices_ok i made less = let test : nat_lt 8796093022208 (i + 1) ≡ false = grind (arith, nat_tests) in rw test refl

pub in_indices_far : {A : Type 0} (i : ℕ) (made : A) → 2 ^ 43 ≤ i → in_indices (i + 1) (Ok made) ≡ Err (refusals.Limit quantities.Block 8796093022208)
unfolding index_bound
in_indices_far i made over = let test : nat_lt 8796093022208 (i + 1) ≡ true = grind (arith, nat_tests) in rw test refl

module _ (has : Blocks) (ptr : Ptr) (k i : ℕ) (read : List ℕ) (less : i < 2 ^ 43) where
  -- a hole is read as zeros
  pub hole_read : (block : Block) → ptr.kind ≡ 0 → BlockIs has ptr block → read ≡ replicate (length read) 0 → ReadsBlock (block_found k i block) read (Ok cells.Hole)
  hole_read Hole kind is zeros = (in_indices_ok i Hole less, zeros)
  hole_read Redacted kind is zeros = absurd (omega (arith, kind, is))
  hole_read (Data bytes) kind is zeros = absurd (omega (arith, kind, is.0))

  data_cell : (bytes : List ℕ) (cell : Cell) → (cell ≡ cells.Data) × (read ≡ bytes) → ReadsCell (in_indices (i + 1) (Ok (Data bytes))) read cell
  data_cell bytes cells.Data is = in_indices_ok i (Data bytes) less ∙ ap (λ (b : List ℕ). Ok (Data b)) (sym is.1)
  data_cell bytes cells.Hole is = absurd (let e = is.0 in cc)
  data_cell bytes cells.Redacted is = absurd (let e = is.0 in cc)

  data_result : (bytes : List ℕ) (result : Result Cell ObjFault) → ReadsData bytes read result → ReadsBlock (in_indices (i + 1) (Ok (Data bytes))) read result
  data_result bytes (Ok cell) is = data_cell bytes cell is
  data_result bytes (Err fault) is = Refuses-disk (in_indices (i + 1) (Ok (Data bytes))) fault is

  -- data is read as it is
  pub data_read : (block : Block) (size : ℕ) (result : Result Cell ObjFault) → ptr.kind ≡ 1 → BlockIs has ptr block → BlockFits size block → ((bytes : List ℕ) → has ptr bytes → length bytes ≡ size → ReadsData bytes read result) → ReadsBlock (block_found k i block) read result
  data_read Hole size result kind is fits told = absurd (omega (arith, kind, is))
  data_read Redacted size result kind is fits told = absurd (omega (arith, kind, is))
  data_read (Data bytes) size result kind is fits told = data_result bytes result (told bytes is.1 fits.0)

-- where no object is there, what the definition refuses is refused
pub none_refused : {A : Type 0} (definition : Result A Refusal) (has : Blocks) (snap : DatedState) (k : ℕ) (fault : ObjFault) → (snap.state k ≡ None → definition ≡ Err (refusals.CannotApply 0 NoObject)) → FindsThere has snap k (Err fault) → Refuses definition fault
none_refused definition has snap k (faults.CannotApply fault) none is = rw is.0 (none is.1)
none_refused definition has snap k (faults.Redacted object block) none is = absurd is
none_refused definition has snap k (faults.Limit which number) none is = absurd is
none_refused definition has snap k (faults.Block fault) none is = Refuses-disk definition (faults.Block fault) is

found_none : (snap : DatedState) (k i : ℕ) → snap.state k ≡ None → found_at k i snap ≡ Err (refusals.CannotApply 0 NoObject)
found_none snap k i none = rw none refl

pub not_there : (has : Blocks) (snap : DatedState) (k i : ℕ) (read : List ℕ) (fault : ObjFault) → FindsThere has snap k (Err fault) → ReadsBlock (found_at k i snap) read (Err fault)
not_there has snap k i read fault is = none_refused (found_at k i snap) has snap k fault (found_none snap k i) is

-- an object that is there
pub object_of : (state : Option Object) (object : Object) → state ≡ Some object → IsObjectOrNone state → IsObject object
object_of state object is lawful = subst IsObjectOrNone is lawful

pub found_there : (snap : DatedState) (k i : ℕ) (object : Object) → snap.state k ≡ Some object → found_at k i snap ≡ block_found k i (object.blocks i)
found_there snap k i object is = rw is refl

pub found_far : (snap : DatedState) (k i : ℕ) (object : Object) → IsState snap.state → snap.state k ≡ Some object → 2 ^ 43 ≤ i → found_at k i snap ≡ Err (refusals.Limit quantities.Block 8796093022208)
unfolding index_bound
found_far snap k i object lawful is over =
    let hole = (object_of (snap.state k) object is (lawful.objects k)).bounded i over in
    found_there snap k i object is ∙ ap (block_found k i) hole ∙ in_indices_far i Hole over
