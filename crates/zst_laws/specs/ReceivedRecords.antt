-- What received records make of dated states and of partial states.
use Rattle.std.specs.Prelude.{◌≡◌, ℕ, true, Bool, List, [], ◌∷◌, ◌++◌, is_ok, Some, None, Ok, Err, replicate, if◌then◌else◌, ◌==◌}
use Rattle.zst_model.specs.declared.refusals.apply_fault.ApplyFault.{ApplyFault}
use Rattle.zst_model.specs.declared.refusals.apply_fault.ApplyFault.TheVariants.{NoObject, SizeDiffers, Unaligned, OddBlock, NotUserData}
use Rattle.zst_model.specs.declared.refusals.faults.Quantity.TheVariants as quantities
use Rattle.zst_model.specs.declared.refusals.refusal.Refusal.{Refusal}
use Rattle.zst_model.specs.declared.refusals.refusal.Refusal.TheVariants as refusals
use Rattle.zst_model.specs.declared.sends.header.Point.{Point}
use Rattle.zst_model.specs.declared.states.attr.ObjectHead.{ObjectHead}
use Rattle.zst_model.specs.declared.states.item.Change.TheVariants.{Put, Spill, FreeFrom, Free, Redact, Write}
use Rattle.zst_model.specs.declared.states.item.Item.{Item}
use Rattle.zst_model.specs.declared.states.item.Item.TheVariants.{FreeObjects, At}
use Rattle.zst_model.specs.states.State.{Hole, State, IsState, IsHead, AreBytes, IsBonus, IsSpill, is_number}
use Rattle.zst_model.specs.states.AppliedItems.{apply_all}
use Rattle.zst_model.specs.states.DatedState.{DatedState, apply_dated}
use Rattle.zst_model.specs.pools.Pool.{Partial, untouched}
use Rattle.zst_model.specs.sends.View.{View, IsView}
use Rattle.zst_model.specs.sends.Items.{items, origin}
use Rattle.zst_model.specs.sends.Points.{point_of}
use Rattle.zst_model.specs.sends.Target.{target}
use Rattle.zst_model.specs.sends.PartialProgress.{IsPartWay}
use Rattle.zst_model.specs.sends.ReceivedRecords.{of_record, received, moved}
use Rattle.zst_laws.specs.FileExample.{padded}
use Rattle.zst_laws.specs.Meanings.{object_of}

-- ---- the limit of indices

-- a state with one object, which has the number 1, this type and block size, and no blocks
abbrev pub holes_of : ℕ → ℕ → DatedState
holes_of type size = record untouched { state = λ k. if k == 1 then Some (object_of type size (λ i. Hole)) else None }

-- E23: index 2^43 is past the limit
abbrev pub far : Refusal
far = refusals.Limit quantities.Block 8796093022208

-- E21 of the record with the index 3
abbrev pub fault : ApplyFault → Refusal
fault why = refusals.CannotApply 3 why

-- record 3 of a stream is accepted, or refused so, where it meets this state in commit 9
abbrev pub Accepts : DatedState → Item → Type 0
Accepts snap item = is_ok (received 9 3 item snap) ≡ true

abbrev pub Refuses : DatedState → Item → Refusal → Type 0
Refuses snap item refusal = received 9 3 item snap ≡ Err refusal

-- WRITE takes blocks of 512 bytes up to index 2^43 - 1, and no further
abbrev pub WritesAreFar : Type 0
WritesAreFar =
    Accepts (holes_of 19 512) (At 1 (Write 4503599627369984 19 (padded 1)))
    × Refuses (holes_of 19 512) (At 1 (Write 4503599627370496 19 (padded 1))) far

-- REDACT ends at index 2^43 at most, also one of no bytes
abbrev pub RedactsAreFar : Type 0
RedactsAreFar =
    Accepts (holes_of 19 512) (At 1 (Redact 4503599627369984 512))
    × Refuses (holes_of 19 512) (At 1 (Redact 4503599627369984 1024)) far
    × Accepts (holes_of 19 512) (At 1 (Redact 4503599627370496 0))
    × Refuses (holes_of 19 512) (At 1 (Redact 4503599627371008 0)) far

-- no other record has the limit: it is accepted or refused as it is applied
abbrev pub OthersHaveNoLimit : Type 0
OthersHaveNoLimit =
    (number index k : ℕ) (snap : DatedState)
    → ((first count : ℕ) → received number index (FreeObjects first count) snap ≡ of_record index (apply_dated number (FreeObjects first count) snap))
    × ((head : ObjectHead) (bonus : List ℕ) (keep_spill : Bool) (max_block : ℕ)
    → received number index (At k (Put head bonus keep_spill max_block)) snap ≡ of_record index (apply_dated number (At k (Put head bonus keep_spill max_block)) snap))
    × ((bytes : List ℕ) → received number index (At k (Spill bytes)) snap ≡ of_record index (apply_dated number (At k (Spill bytes)) snap))
    × ((offset : ℕ) → received number index (At k (FreeFrom offset)) snap ≡ of_record index (apply_dated number (At k (FreeFrom offset)) snap))
    × ((offset length : ℕ) → received number index (At k (Free offset length)) snap ≡ of_record index (apply_dated number (At k (Free offset length)) snap))

-- the fault of a record comes before the limit
abbrev pub FaultsComeFirst : Type 0
FaultsComeFirst =
    (number index : ℕ) (item : Item) (snap : DatedState) (why : ApplyFault)
    → apply_dated number item snap ≡ Err why → received number index item snap ≡ Err (refusals.CannotApply index why)

-- each fault of a WRITE and of a REDACT past the limit
abbrev pub FarFaults : Type 0
FarFaults =
    Refuses (holes_of 19 512) (At 2 (Write 4503599627370496 19 (padded 1))) (fault NoObject)
    × Refuses (holes_of 19 512) (At 1 (Write 4503599627370496 19 [])) (fault SizeDiffers)
    × Refuses (holes_of 19 512) (At 1 (Write 4503599627370497 19 (padded 1))) (fault Unaligned)
    × Refuses (holes_of 19 1536) (At 1 (Write 13510798882111488 19 (replicate 1536 0))) (fault OddBlock)
    × Refuses (holes_of 19 512) (At 2 (Redact 4503599627370496 512)) (fault NoObject)
    × Refuses (holes_of 20 512) (At 1 (Redact 4503599627370496 512)) (fault NotUserData)
    × Refuses (holes_of 19 512) (At 1 (Redact 4503599627370496 511)) (fault Unaligned)
    × Refuses (holes_of 19 1536) (At 1 (Redact 13510798882111488 1536)) (fault OddBlock)

-- what an accepted record makes is what applying it makes
abbrev pub ReceivedIsApplied : Type 0
ReceivedIsApplied =
    (number index : ℕ) (item : Item) (snap after : DatedState)
    → received number index item snap ≡ Ok after → apply_dated number item snap ≡ Ok after

-- a record whose numbers and lengths are ones that objects may have, and whose blocks are bytes
abbrev pub IsRanged : Item → Type 0
IsRanged (FreeObjects first count) = Unit {0}
IsRanged (At k (Put head bonus keep_spill max_block)) = (is_number k ≡ true) × IsHead head × IsBonus bonus
IsRanged (At k (Spill bytes)) = (is_number k ≡ true) × IsSpill bytes
IsRanged (At k (FreeFrom offset)) = is_number k ≡ true
IsRanged (At k (Free offset length)) = is_number k ≡ true
IsRanged (At k (Redact offset length)) = is_number k ≡ true
IsRanged (At k (Write offset type bytes)) = (is_number k ≡ true) × AreBytes bytes

-- so what an accepted record makes of a lawful state is lawful, wherever its range stands
abbrev pub ReceivedIsState : Type 0
ReceivedIsState =
    (number index : ℕ) (item : Item) (snap after : DatedState)
    → IsState snap.state → IsRanged item → received number index item snap ≡ Ok after → IsState after.state

-- ---- partial states

-- a partial state has taken items, in whatever commits: its header stays, its point is where they lead, and its objects are what they make
pub record HasTaken (items : List Item) (partial after : Partial) : Type 0 where
  pub header : after.header ≡ partial.header
  pub reached : after.point ≡ point_of partial.point items
  pub objects : apply_all items partial.objects.state ≡ Ok after.objects.state

-- an accepted record is taken, and what is taken one after another is taken together
abbrev pub MovedHasTaken : Type 0
MovedHasTaken =
    (number index : ℕ) (item : Item) (partial after : Partial) → moved number index item partial ≡ Ok after → HasTaken (item ∷ []) partial after

abbrev pub TakenTogether : Type 0
TakenTogether =
    (done more : List Item) (partial between after : Partial)
    → HasTaken done partial between → HasTaken more between after → HasTaken (done ++ more) partial after

-- a receive begins part of the way: where the send can be applied at all, the base's objects at the origin
abbrev pub BegunIsPartWay : Type 0
BegunIsPartWay =
    (view : View) (partial : Partial) (whole : State)
    → IsView view → partial.header ≡ view.header → partial.point ≡ origin → target view partial.objects.state ≡ Ok whole
    → IsPartWay view partial.objects.state origin partial

-- what a cut leaves after any items of the send is part of the way, at the point to which they lead
abbrev pub CutIsPartWay : Type 0
CutIsPartWay =
    (view : View) (base : State) (point : Point) (partial after : Partial) (done rest : List Item)
    → IsView view → IsPartWay view base point partial → done ++ rest ≡ items view point → HasTaken done partial after
    → IsPartWay view base (point_of point done) after

-- a partial state that is part of the way has the send's header, and the items from its own point make of it what the send makes of the base
abbrev pub PartWayIsCompleted : Type 0
PartWayIsCompleted =
    (view : View) (base : State) (point : Point) (partial : Partial)
    → IsView view → IsPartWay view base point partial
    → (partial.header ≡ view.header) × (partial.point ≡ point) × (apply_all (items view partial.point) partial.objects.state ≡ target view base)
