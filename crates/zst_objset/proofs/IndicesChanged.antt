-- A change of an object's indices is refused for its faults first, and then where its range ends past the last index.
use Rattle.std.proofs.Common.{◌≡◌, ℕ, ◌<◌, ◌≤◌, ap, ◌∙◌, refl, Some, None, Result, Ok, Err}
use Rattle.std.proofs.lemmas.Bool.{le-ltb, lt-ltb}
use Rattle.zst_block.specs.declared.fault.BlockFault.TheVariants as blocks
use Rattle.zst_model.specs.declared.refusals.apply_fault.ApplyFault.{ApplyFault}
use Rattle.zst_model.specs.declared.refusals.apply_fault.ApplyFault.TheVariants.{NoObject}
use Rattle.zst_model.specs.declared.refusals.faults.Quantity.TheVariants as quantities
use Rattle.zst_model.specs.declared.refusals.refusal.Refusal.{Refusal}
use Rattle.zst_model.specs.declared.refusals.refusal.Refusal.TheVariants as refusals
use Rattle.zst_model.specs.declared.states.item.Change.{Change}
use Rattle.zst_model.specs.declared.states.item.Item.TheVariants.{At}
use Rattle.zst_model.specs.states.AppliedItems.{◌>>=◌, apply, apply_change, unless}
use Rattle.zst_model.specs.states.DatedState.{DatedState}
use Rattle.zst_model.specs.states.State.{Object, index_bound}
use Rattle.zst_model.specs.pools.Step.{in_indices, of_applying}
use Rattle.zst_tree.specs.Indices.{Blocks}
use Rattle.zst_objset.specs.Answers.{Changes, FindsThere, Refuses}
use Rattle.zst_objset.specs.Changes.{changed, indices_changed}
use Rattle.zst_objset.specs.declared.fault.ObjFault.{ObjFault}
use Rattle.zst_objset.specs.declared.fault.ObjFault.TheVariants as faults
use Rattle.zst_objset.proofs.AnswerLaws.{Refuses-disk}
use Rattle.zst_objset.proofs.ChangePuts.{changed_is, changed_to}
use Rattle.zst_objset.proofs.SpillLaws.{change_not_there}

module _ (past : ℕ) (change : Result DatedState Refusal) where
  refused : (refusal : Refusal) → change ≡ Err refusal → indices_changed past change ≡ Err refusal
  refused refusal is = ap (λ (r : Result DatedState Refusal). r >>= λ after. in_indices past (Ok after)) is

  -- a range that ends past the last index is the limit's
  pub past_indices : (after : DatedState) → index_bound < past → change ≡ Ok after → indices_changed past change ≡ Err (refusals.Limit quantities.Block index_bound)
  past_indices after over is =
      ap (λ (r : Result DatedState Refusal). r >>= λ made. in_indices past (Ok made)) is
      ∙ ap (λ b. unless b (refusals.Limit quantities.Block index_bound) (Ok after)) (lt-ltb index_bound past over)

  -- and any other makes what the change makes
  pub in_range : (after : DatedState) → past ≤ index_bound → change ≡ Ok after → indices_changed past change ≡ Ok after
  in_range after within is =
      ap (λ (r : Result DatedState Refusal). r >>= λ made. in_indices past (Ok made)) is
      ∙ ap (λ b. unless b (refusals.Limit quantities.Block index_bound) (Ok after)) (le-ltb index_bound past within)

  -- so a call that answers as the change does answers as the change of indices does
  pub Changes-indices : (Holds : DatedState → Type 0) (result : Result (Unit {0}) ObjFault) → past ≤ index_bound → Changes Holds change result → Changes Holds (indices_changed past change) result
  Changes-indices Holds (Ok done) within is = (is.0, in_range is.0 within is.1, is.2)
  Changes-indices Holds (Err (faults.CannotApply fault)) within is = refused (refusals.CannotApply 0 fault) is
  Changes-indices Holds (Err (faults.Redacted object block)) within is = refused (refusals.Redacted object block) is
  Changes-indices Holds (Err (faults.Limit which number)) within is = refused (refusals.Limit which number) is
  Changes-indices Holds (Err (faults.Block (blocks.Full need largest))) within is = (is.0, in_range is.0 within is.1)
  Changes-indices Holds (Err (faults.Block (blocks.Damaged sector stated found))) within is = is
  Changes-indices Holds (Err (faults.Block blocks.DiskFault)) within is = is

module _ (number k past : ℕ) (change : Change) (state : DatedState) where
  -- a change that is refused
  pub change_refused : (fault : ApplyFault) → apply_change change (state.state k) ≡ Err fault → indices_changed past (changed number (At k change) state) ≡ Err (refusals.CannotApply 0 fault)
  unfolding apply
  change_refused fault is = rw is refl

  -- one of an object that isn't there
  pub indices_not_there : (has : Blocks) (fault : ObjFault) → apply_change change None ≡ Err NoObject → FindsThere has state k (Err fault) → Refuses (indices_changed past (changed number (At k change) state)) fault
  indices_not_there has (faults.CannotApply fault) none is = refused past (changed number (At k change) state) (refusals.CannotApply 0 fault) (change_not_there has number k change state (faults.CannotApply fault) none is)
  indices_not_there has (faults.Redacted object block) none is = absurd is
  indices_not_there has (faults.Limit which number') none is = absurd is
  indices_not_there has (faults.Block fault) none is = Refuses-disk (indices_changed past (changed number (At k change) state)) (faults.Block fault) is

-- a change that makes an object of what stands there
pub change_made : (number k : ℕ) (change : Change) (state : DatedState) (object : Object) → apply_change change (state.state k) ≡ Ok (Some object) → changed number (At k change) state ≡ Ok (changed_to number k change state object)
change_made number k change state object is = ap of_applying (changed_is number k change state object is)
