-- What a run that is written makes of a set, and what it spends.
use Rattle.std.proofs.Common.{◌≡◌, ◌⊎◌, inl, inr, ℕ, suc, ◌+◌, ◌*◌, ◌/◌, ◌^◌, ◌<◌, ◌≤◌, Bool, true, false, List, [], ◌∷◌, length, take, drop, refl, sym, ap, ◌∙◌, subst, arith, Option, Some, Result, Ok, Err}
use Rattle.std.specs.Prelude.{None}
use Rattle.std.proofs.lemmas.List.Sums.{sum_by-cons}
use Rattle.zst_block.specs.IoCalls.{Works}
use Rattle.zst_block.specs.IoStates.{IoState}
use Rattle.zst_block.specs.declared.fault.BlockFault.{BlockFault}
use Rattle.zst_block.specs.declared.fault.BlockFault.TheVariants as blocks
use Rattle.zst_block.proofs.TakenSectors.{takes_more, takes_wider}
use Rattle.zst_laws.specs.Dates.{AppliedIsState}
use Rattle.zst_model.specs.declared.refusals.refusal.Refusal.{Refusal}
use Rattle.zst_model.specs.declared.states.item.Change.TheVariants.{Write}
use Rattle.zst_model.specs.declared.states.item.Item.TheVariants.{At}
use Rattle.zst_model.specs.pools.Soundness.{DatedUpTo}
use Rattle.zst_model.specs.sends.ReceivedRecords.{received}
use Rattle.zst_model.specs.states.AppliedItems.{◌>>=◌}
use Rattle.zst_model.specs.states.DatedState.{DatedState}
use Rattle.zst_model.specs.states.State.{AreBytes, Object}
use Rattle.zst_tree.specs.Indices.{Blocks}
use Rattle.zst_tree.specs.declared.tree.ObjSet.{ObjSet}
use Rattle.zst_dnode.specs.declared.dnode.Dnode.{Dnode}
use Rattle.zst_objset.specs.Answers.{IsDiskFault}
use Rattle.zst_objset.specs.Dnodes.{DnodeAt, DnodeIs}
use Rattle.zst_objset.specs.Sets.{SetHolds}
use Rattle.zst_objset.specs.TightSets.{SetIsTight}
use Rattle.zst_objset.specs.declared.fault.ObjFault.{ObjFault}
use Rattle.zst_objset.specs.declared.fault.ObjFault.TheVariants as sets
use Rattle.zst_objset.proofs.LeafLaws.{is_number_at}
use Rattle.zst_objset.proofs.RunLaws.{may_write}
use Rattle.zst_objset.proofs.WriteLaws.{block_some}
use Rattle.zst_apply.specs.AppliedRecords.{Applies, received_all}
use Rattle.zst_apply.specs.AppliedRuns.{run_received}
use Rattle.zst_apply.specs.Costs.{record_block, record_cost}
use Rattle.zst_apply.proofs.RunLaws.{both, run_of}
use Rattle.zst_image.specs.Reads.{SetIs, bound_of}
use Rattle.zst_record.specs.Heads.{Covered}
use Rattle.zst_recv.specs.Costs.{IsNeeded, Spends, records_cost}
use Rattle.zst_recv.specs.Faults.{of_record}
use Rattle.zst_recv.specs.PutOffWrites.{HasObject, said_of}
use Rattle.zst_recv.specs.TakenRecords.{TakeFault}
use Rattle.zst_recv.specs.WriteRuns.{AreBlockWrites, MayRun}
use Rattle.zst_recv.proofs.CostLemmas.{needed_none}
use Rattle.zst_recv.proofs.RecordEffects.{dated_by}
use Rattle.zst_recv.proofs.WriteRuns.{first_of_both, taken_so}

-- ---- the definition takes them

pub said_long : (records : List Covered) → length (said_of records) ≡ length records
said_long [] = refl
said_long (c ∷ records) = ap (λ (n : ℕ). suc n) (said_long records)

-- where the set holds a state with the object
pub run_accepted : AppliedIsState → (number object first size count long : ℕ) (records : List (ℕ × ℕ)) (bytes : List ℕ) (has : Blocks) (set : ObjSet) (state : DatedState) → MayRun object first size count long → length records ≡ count → AreBytes bytes → length bytes ≡ long
    → SetHolds has set state → HasObject state object size → (now : DatedState) × (run_received number object size (first * size) records bytes state ≡ Ok now)
run_accepted law number object first size count long records bytes has set state may counts all is holds there =
    let wide : length bytes ≡ length records * size = is ∙ (may.run.long_is ∙ ap (λ (n : ℕ). n * size) (sym counts)) in
    let within : first + length records ≤ 2 ^ 43 = omega (arith, counts, may.run.inside) in
    let made = both number object size first records bytes state state _ _ law (is_number_at object may.some may.number) (block_some size may.size_is) there.size_is
    (run_of state object there.thing there.there holds.lawful holds.bounded) (may_write size first (length records) bytes wide may.even within all) in
    (made.now, made.received_is)

-- and gives no date past the commit's number
pub run_dated : (number object size offset : ℕ) (records : List (ℕ × ℕ)) (bytes : List ℕ) (state now : DatedState) → run_received number object size offset records bytes state ≡ Ok now → DatedUpTo number state → DatedUpTo number now
unfolding run_received
run_dated number object size offset [] bytes state now is dated = let same : state ≡ now = cc in subst (DatedUpTo number) same dated
run_dated number object size offset (one ∷ records) bytes state now is dated =
    let parts = first_of_both (received number one.0 (At object (Write offset one.1 (take size bytes))) state) (run_received number object size (offset + size) records (drop size bytes)) now is in
    let mid = dated_by number one.0 (At object (Write offset one.1 (take size bytes)) ∷ []) state parts.0 (ap (λ (r : Result DatedState Refusal). r >>= received_all number one.0 []) parts.1) dated in
    run_dated number object size (offset + size) records (drop size bytes) parts.0 now parts.2 mid

pub set_bound : (bound : Option ℕ) (has : Blocks) (set : ObjSet) (state : DatedState) → SetIs bound has set state → SetHolds has set state
set_bound None has set state is = is
set_bound (Some number) has set state is = is.0.holds

pub set_holds : (tight : Bool) (number : ℕ) (has : Blocks) (set : ObjSet) (state : DatedState) → SetIs (bound_of tight number) has set state → SetHolds has set state
set_holds false number has set state is = is
set_holds true number has set state is = is.0.holds

-- a call that answers as the definition, which takes them
module _ (Holds : DatedState → Type 0) (definition : Result DatedState Refusal) (now : DatedState) (accepted : definition ≡ Ok now) where
  applied_ok : Applies 0 Holds definition (Ok tt) → Holds now
  applied_ok made = let same : made.0 ≡ now = ok_same made.0 (sym made.1 ∙ accepted) in subst Holds same made.2
    where
      ok_same : (other : DatedState) → taken_so other ≡ taken_so now → other ≡ now
      ok_same other is = cc

  applied_err : {A : Type 0} (one : A) (index : ℕ) (fault : ObjFault) → Applies 0 Holds definition (Err fault) → TakeFault {A = A} (Ok one) (of_record index fault)
  applied_err one index (sets.CannotApply fault) refused = let both = sym accepted ∙ refused in absurd (cc both)
  applied_err one index (sets.Redacted object block) refused = absurd refused
  applied_err one index (sets.Limit which number) refused = let both = sym accepted ∙ refused in absurd (cc both)
  applied_err one index (sets.Block (blocks.Full need largest)) refused = tt
  applied_err one index (sets.Block (blocks.Damaged sector stated found)) refused = refused
  applied_err one index (sets.Block blocks.DiskFault) refused = tt

module _ (tight : Bool) (number : ℕ) (object size offset : ℕ) (records : List (ℕ × ℕ)) (bytes : List ℕ) (old has : Blocks) (set made : ObjSet) (state now : DatedState)
    (accepted : run_received number object size offset records bytes state ≡ Ok now) (is : SetIs (bound_of tight number) old set state) where
  -- written to a set of either strength
  pub run_written : (SetHolds old set state → Applies 0 (SetHolds has made) (run_received number object size offset records bytes state) (Ok tt))
      → (SetIsTight old set state → DatedUpTo number state → Applies 0 (SetIsTight has made) (run_received number object size offset records bytes state) (Ok tt))
      → SetIs (bound_of tight number) has made now
  run_written holds tightly = by tight is
    where
      by : (t : Bool) → SetIs (bound_of t number) old set state → SetIs (bound_of t number) has made now
      by false is = applied_ok (SetHolds has made) _ now accepted (holds is)
      by true is = (applied_ok (SetIsTight has made) _ now accepted (tightly is.0 is.1), run_dated number object size offset records bytes state now accepted is.1)

  -- or the disk is full or failed
  pub run_stopped : {A : Type 0} (one : A) (index : ℕ) (fault : ObjFault) → (SetHolds old set state → Applies 0 (SetHolds has made) (run_received number object size offset records bytes state) (Err fault)) → TakeFault {A = A} (Ok one) (of_record index fault)
  run_stopped one index fault holds = applied_err (SetHolds has made) _ now accepted one index fault (holds (set_holds tight number old set state is))

-- ---- what they spend

one_more : (n k : ℕ) → k + n * k ≡ suc n * k
one_more n k = omega arith

-- what they cost
pub writes_cost : (object size i : ℕ) (bytes : List ℕ) (records : List Covered) → AreBlockWrites object size i bytes records → records_cost records ≡ length records * (size / 512 + 640)
unfolding AreBlockWrites
writes_cost object size i bytes [] writes = omega arith
writes_cost object size i bytes (c ∷ records) writes =
    let one : record_cost c.head ≡ size / 512 + 640 = ap record_cost writes.0.head_is ∙ omega arith in
    let rest = writes_cost object size (i + 1) (drop size bytes) records writes.1 in
    sum_by-cons (λ (c : Covered). record_cost c.head) c records ∙ ap (λ (n : ℕ). n + records_cost records) one ∙ ap (λ (n : ℕ). (size / 512 + 640) + n) rest ∙ one_more (length records) (size / 512 + 640)

-- what may be needed is what one of them needs
pub writes_needed : (need object size i : ℕ) (bytes : List ℕ) (records : List Covered) → 0 < length records → AreBlockWrites object size i bytes records → (need ≡ 16) ⊎ (need ≡ size / 512) → IsNeeded need records
unfolding AreBlockWrites
writes_needed need object size i bytes [] some writes is = absurd (omega (arith, some))
writes_needed need object size i bytes (c ∷ records) some writes (inl is) = inr (needed_none need records is)
writes_needed need object size i bytes (c ∷ records) some writes (inr is) = inl (is ∙ sym (ap record_block writes.0.head_is))

pub spends_run : (object size i count : ℕ) (bytes : List ℕ) (records : List Covered) {old new : IoState} {stop : Option BlockFault} → 0 < count → length records ≡ count → AreBlockWrites object size i bytes records
    → Works (count * (size / 512) + 640) (size / 512) old new stop → Spends records old.space new.space stop
spends_run object size i count bytes records {old} {new} some counts writes works =
    let cost = writes_cost object size i bytes records writes in
    let total : records_cost records ≡ count * (size / 512 + 640) = cost ∙ ap (λ (n : ℕ). n * (size / 512 + 640)) counts in
    let spread : count * (size / 512 + 640) ≡ count * (size / 512) + count * 640 = omega arith in
    let less : count * (size / 512) + 640 ≤ records_cost records = omega (arith, total, spread, some) in
    let there : 0 < length records = omega (arith, counts, some) in
    record {
      takes = takes_more (count * (size / 512) + 640) (records_cost records) old.space new.space less (takes_wider old.space new.space (λ need is. writes_needed need object size i bytes records there writes is) works.takes);
      before = λ need largest is. let full = works.full need largest is in omega (arith, full.before, less);
      needed = λ need largest is. writes_needed need object size i bytes records there writes (let full = works.full need largest is in full.needed);
    }

-- ---- a run that begins

-- a fault of the disk alone
pub stopped_disk : (index : ℕ) (fault : ObjFault) → IsDiskFault fault → TakeFault {A = Unit {0}} (Ok tt) (of_record index fault)
stopped_disk index (sets.CannotApply fault) is = absurd is
stopped_disk index (sets.Redacted object block) is = absurd is
stopped_disk index (sets.Limit which number) is = absurd is
stopped_disk index (sets.Block (blocks.Full need largest)) is = absurd is
stopped_disk index (sets.Block (blocks.Damaged sector stated found)) is = absurd is
stopped_disk index (sets.Block blocks.DiskFault) is = tt

-- the dnode that was found is the object's
pub has_found : (has : Blocks) (snap : DatedState) (object : ℕ) (dnode : Dnode) → DnodeIs has snap object (Some dnode) → HasObject snap object dnode.block_size
has_found has snap object dnode is = by (snap.state object) refl is
  where
    by : (found : Option Object) → snap.state object ≡ found → DnodeAt has found (snap.number_date object) (snap.index_date object) (Some dnode) → HasObject snap object dnode.block_size
    by None there at = absurd at
    by (Some thing) there at = record { thing = thing; there = there; size_is = sym at.1.size_is }
