-- What a call on a set answers is an answer to a record.
use Rattle.std.proofs.Common.{◌≡◌, ℕ, Bool, true, false, ap, ◌∙◌, refl, sym, subst, [], ◌∷◌, Result, Ok, Err}
use Rattle.std.specs.Prelude.{None}
use Rattle.zst_block.specs.declared.fault.BlockFault.TheVariants as blocks
use Rattle.zst_model.specs.declared.refusals.apply_fault.ApplyFault.{ApplyFault}
use Rattle.zst_model.specs.declared.refusals.apply_fault.ApplyFault.TheVariants.{NoObject}
use Rattle.zst_model.specs.declared.refusals.faults.Quantity.TheVariants as quantities
use Rattle.zst_model.specs.declared.refusals.refusal.Refusal.{Refusal}
use Rattle.zst_model.specs.declared.refusals.refusal.Refusal.TheVariants as refusals
use Rattle.zst_model.specs.declared.states.item.Change.{Change}
use Rattle.zst_model.specs.declared.states.item.Item.{Item}
use Rattle.zst_model.specs.declared.states.item.Item.TheVariants.{At}
use Rattle.zst_model.specs.states.AppliedItems.{◌>>=◌, apply, apply_change, unless}
use Rattle.zst_model.specs.states.DatedState.{DatedState, apply_dated}
use Rattle.zst_model.specs.states.State.{index_bound}
use Rattle.zst_model.specs.sends.ReceivedRecords.{is_past, of_record, received}
use Rattle.zst_model.specs.pools.Step.{of_applying}
use Rattle.zst_tree.specs.Indices.{Blocks}
use Rattle.zst_objset.specs.Answers.{Changes, FindsThere, IsDiskFault, IsOfBlock, NotRedacted}
use Rattle.zst_objset.specs.declared.fault.ObjFault.{ObjFault}
use Rattle.zst_objset.specs.declared.fault.ObjFault.TheVariants as faults
use Rattle.zst_apply.specs.AppliedRecords.{Applies, RefusesRecord, received_all}

-- a refusal, with its fault as that of the record with this index
abbrev pub at_record : ℕ → Refusal → Refusal
at_record index (refusals.CannotApply other fault) = refusals.CannotApply index fault
at_record index refusal = refusal

-- and a definition's answer
abbrev pub for_record : ℕ → Result DatedState Refusal → Result DatedState Refusal
for_record index (Ok made) = Ok made
for_record index (Err refusal) = Err (at_record index refusal)

-- a limit that is judged behind a change
pub limited_is : (index : ℕ) (made : Result DatedState ApplyFault) (past : Bool) (limit : ℕ)
    → (of_record index made >>= λ after. unless past (refusals.Limit quantities.Block limit) (Ok after)) ≡ for_record index (of_applying made >>= λ after. unless past (refusals.Limit quantities.Block limit) (Ok after))
limited_is index (Ok made) true limit = refl
limited_is index (Ok made) false limit = refl
limited_is index (Err fault) past limit = refl

-- where none is
pub unlimited_is : (index : ℕ) (made : Result DatedState ApplyFault) (limit : Refusal)
    → (of_record index made >>= λ after. unless false limit (Ok after)) ≡ for_record index (of_applying made)
unlimited_is index (Ok made) limit = refl
unlimited_is index (Err fault) limit = refl

-- nothing that is received is refused for a redacted block
unredacted : (index : ℕ) (made : Result DatedState ApplyFault) (past : Bool) (limit object block : ℕ)
    → (of_record index made >>= λ after. unless past (refusals.Limit quantities.Block limit) (Ok after)) ≡ Err (refusals.Redacted object block) → ⊥
unredacted index (Ok made) true limit object block is = absurd (cc)
unredacted index (Ok made) false limit object block is = absurd (cc)
unredacted index (Err fault) past limit object block is = absurd (cc)

module _ (number index : ℕ) (item : Item) (state : DatedState) (definition : Result DatedState Refusal) (is : received number index item state ≡ for_record index definition) where
  turned : (answer : Result DatedState Refusal) → definition ≡ answer → received number index item state ≡ for_record index answer
  turned answer same = is ∙ ap (for_record index) same

  -- a call that answers as its definition answers as the record's
  pub applies_as : (Holds : DatedState → Type 0) (result : Result (Unit {0}) ObjFault) → Changes Holds definition result → Applies index Holds (received number index item state) result
  applies_as Holds (Ok done) made = (made.0, turned (Ok made.0) made.1, made.2)
  applies_as Holds (Err (faults.CannotApply fault)) same = turned (Err (refusals.CannotApply 0 fault)) same
  applies_as Holds (Err (faults.Redacted object block)) same =
      unredacted index (apply_dated number item state) (is_past item state.state) index_bound object block (turned (Err (refusals.Redacted object block)) same)
  applies_as Holds (Err (faults.Limit which limit)) same = turned (Err (refusals.Limit which limit)) same
  applies_as Holds (Err (faults.Block (blocks.Full need largest))) made = (made.0, turned (Ok made.0) made.1)
  applies_as Holds (Err (faults.Block (blocks.Damaged sector stated found))) never = never
  applies_as Holds (Err (faults.Block blocks.DiskFault)) fails = tt

module _ (number index k : ℕ) (change : Change) (state : DatedState) where
  -- a change that is refused
  pub refused : (fault : ApplyFault) → apply_change change (state.state k) ≡ Err fault → received number index (At k change) state ≡ Err (refusals.CannotApply index fault)
  unfolding apply
  refused fault is = rw is refl

  -- one of an object that isn't there
  pub not_there : (has : Blocks) (fault : ObjFault) → apply_change change None ≡ Err NoObject → FindsThere has state k (Err fault) → RefusesRecord index (received number index (At k change) state) fault
  not_there has (faults.CannotApply fault) none is = rw is.0 (refused NoObject (ap (apply_change change) is.1 ∙ none))
  not_there has (faults.Redacted object block) none is = absurd is
  not_there has (faults.Limit which limit) none is = absurd is
  not_there has (faults.Block (blocks.Full need largest)) none is = absurd is
  not_there has (faults.Block (blocks.Damaged sector stated found)) none is = absurd is
  not_there has (faults.Block blocks.DiskFault) none is = tt

-- one item is all that a record says
last : (made : Result DatedState Refusal) → (made >>= λ after. Ok after) ≡ made
last (Ok made) = refl
last (Err fault) = refl

pub one_is_all : (number index : ℕ) (item : Item) (state : DatedState) → received_all number index (item ∷ []) state ≡ received number index item state
one_is_all number index item state = last (received number index item state)

pub all_applied : (number index : ℕ) (item : Item) (state : DatedState) (Holds : DatedState → Type 0) (result : Result (Unit {0}) ObjFault)
    → Applies index Holds (received number index item state) result → Applies index Holds (received_all number index (item ∷ []) state) result
all_applied number index item state Holds result applied = subst (λ (r : Result DatedState Refusal). Applies index Holds r result) (sym (one_is_all number index item state)) applied

-- where only the disk fails, no object is found
pub disk_there : (has : Blocks) (state : DatedState) (k : ℕ) (fault : ObjFault) → IsDiskFault fault → FindsThere has state k (Err fault)
disk_there has state k (faults.CannotApply fault) is = absurd is
disk_there has state k (faults.Redacted object block) is = absurd is
disk_there has state k (faults.Limit which limit) is = absurd is
disk_there has state k (faults.Block fault) is = is

-- a fault of a block is no E22
pub block_unredacted : (fault : ObjFault) → IsOfBlock fault → NotRedacted fault
block_unredacted (faults.CannotApply fault) is = tt
block_unredacted (faults.Redacted object block) is = is
block_unredacted (faults.Limit which limit) is = tt
block_unredacted (faults.Block fault) is = tt
