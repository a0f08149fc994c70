-- What is known of a set stays known when it is changed.
use Rattle.std.specs.Prelude.{Result, Ok, Err}
use Rattle.std.proofs.Common.{◌≡◌, ℕ, ◌+◌, ◌*◌, nat_lt, Bool, true, false, List, Some, ap}
use Rattle.zst_model.specs.declared.refusals.apply_fault.ApplyFault.{ApplyFault}
use Rattle.zst_model.specs.declared.refusals.faults.Quantity.{Quantity}
use Rattle.zst_model.specs.declared.refusals.faults.Quantity.TheVariants as quantities
use Rattle.zst_model.specs.declared.refusals.refusal.Refusal.{Refusal}
use Rattle.zst_model.specs.declared.refusals.refusal.Refusal.TheVariants as refusals
use Rattle.zst_model.specs.declared.states.attr.ObjectHead.{ObjectHead}
use Rattle.zst_model.specs.declared.states.item.Change.TheVariants.{Free, Put, Spill, Write}
use Rattle.zst_model.specs.declared.states.item.Item.{Item}
use Rattle.zst_model.specs.declared.states.item.Item.TheVariants.{At, FreeObjects}
use Rattle.zst_model.specs.pools.Soundness.{DatedUpTo}
use Rattle.zst_model.specs.pools.Step.{in_indices, limited, of_applying}
use Rattle.zst_model.specs.states.AppliedItems.{◌>>=◌, unless}
use Rattle.zst_model.specs.states.DatedState.{DatedState, apply_dated, size_at}
use Rattle.zst_model.specs.states.State.{index_bound, number_bound}
use Rattle.zst_tree.specs.Indices.{Blocks}
use Rattle.zst_tree.specs.declared.tree.ObjSet.{ObjSet}
use Rattle.zst_objset.specs.Answers.{Changes}
use Rattle.zst_objset.specs.Changes.{block_written, changed, holes_made, indices_changed, object_put, objects_freed, spill_put}
use Rattle.zst_objset.specs.Sets.{SetHolds}
use Rattle.zst_objset.specs.TightSets.{SetIsTight}
use Rattle.zst_objset.specs.declared.fault.ObjFault.{ObjFault}
use Rattle.zst_image.specs.Reads.{SetIs, bound_of}
use Rattle.zst_laws.proofs.histories.Agreement.{dated_on}

-- a definition of the commit of this number gives no date above it
abbrev pub KeepsDated : ℕ → DatedState → Result DatedState Refusal → Type 0
KeepsDated number state definition = (after : DatedState) → definition ≡ Ok after → DatedUpTo number state → DatedUpTo number after

-- what was applied well was made
applied_ok : (made : Result DatedState ApplyFault) (after : DatedState) → of_applying made ≡ Ok after → made ≡ Ok after
applied_ok (Ok state) after is = let same : state ≡ after = cc in ap (λ (s : DatedState). Ok s) same
applied_ok (Err fault) after is = absurd (cc)

-- what is in its limit is the rest
limited_ok : (which : Quantity) (most quantity : ℕ) (rest : Result DatedState Refusal) (after : DatedState) → limited which most quantity rest ≡ Ok after → rest ≡ Ok after
limited_ok which most quantity rest after is = go (nat_lt most quantity) is
  where
    go : (b : Bool) → unless b (refusals.Limit which most) rest ≡ Ok after → rest ≡ Ok after
    go true is = absurd (cc)
    go false is = is

changed_dated : (number : ℕ) (item : Item) (state : DatedState) → KeepsDated number state (changed number item state)
changed_dated number item state after is dated = dated_on number item state after (applied_ok (apply_dated number item state) after is) dated

pub put_dated : (number k : ℕ) (head : ObjectHead) (bonus : List ℕ) (keep_spill : Bool) (state : DatedState) → KeepsDated number state (object_put number k head bonus keep_spill state)
put_dated number k head bonus keep_spill state after is dated =
    let item = At k (Put head bonus keep_spill 0) in
    changed_dated number item state after (limited_ok quantities.Object number_bound (k + 1) (changed number item state) after is) dated

pub spill_dated : (number k : ℕ) (bytes : List ℕ) (state : DatedState) → KeepsDated number state (spill_put number k bytes state)
spill_dated number k bytes state after is dated = changed_dated number (At k (Spill bytes)) state after is dated

pub freed_dated : (number first count : ℕ) (state : DatedState) → KeepsDated number state (objects_freed number first count state)
freed_dated number first count state after is dated =
    let item = FreeObjects first count in
    changed_dated number item state after (limited_ok quantities.Object number_bound (first + count) (changed number item state) after is) dated

indices_dated : (number past : ℕ) (item : Item) (state : DatedState) → KeepsDated number state (indices_changed past (changed number item state))
indices_dated number past item state after is dated = changed_dated number item state after (go (changed number item state) is) dated
  where
    go : (r : Result DatedState Refusal) → (r >>= λ made. in_indices past (Ok made)) ≡ Ok after → r ≡ Ok after
    go (Ok made) is = limited_ok quantities.Block index_bound past (Ok made) after is
    go (Err fault) is = absurd (cc)

pub written_dated : (number k i : ℕ) (bytes : List ℕ) (state : DatedState) → KeepsDated number state (block_written number k i bytes state)
written_dated number k i bytes state after is dated = indices_dated number (i + 1) (At k (Write (i * size_at (state.state k)) 0 bytes)) state after is dated

pub punched_dated : (number k first count : ℕ) (state : DatedState) → KeepsDated number state (holes_made number k first count state)
punched_dated number k first count state after is dated =
    let size = size_at (state.state k) in
    indices_dated number (first + count) (At k (Free (first * size) (count * size))) state after is dated

-- a call that makes of a set what its definition says, and of a tight set a tight one, keeps what is known of it
pub changes_known : (tight : Bool) (number : ℕ) (old has : Blocks) (before set : ObjSet) (state : DatedState) (definition : Result DatedState Refusal) (called : Result (Unit {0}) ObjFault)
    → (SetHolds old before state → Changes (SetHolds has set) definition called)
    → (SetIsTight old before state → DatedUpTo number state → Changes (SetIsTight has set) definition called)
    → KeepsDated number state definition → SetIs (bound_of tight number) old before state → Changes (SetIs (bound_of tight number) has set) definition called
changes_known true number old has before set state definition called holds tight dated is = go called (tight is.0 is.1)
  where
    go : (c : Result (Unit {0}) ObjFault) → Changes (SetIsTight has set) definition c → Changes (SetIs (Some number) has set) definition c
    go (Ok done) made = (made.0, made.1, (made.2, dated made.0 made.1 is.1))
    go (Err fault) made = made
changes_known false number old has before set state definition called holds tight dated is = go called (holds is)
  where
    go : (c : Result (Unit {0}) ObjFault) → Changes (SetHolds has set) definition c → Changes (SetIs (bound_of false number) has set) definition c
    go (Ok done) made = made
    go (Err fault) made = made
