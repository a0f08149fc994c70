-- What received records make of dated states and of partial states.
use Rattle.std.proofs.Common.{◌≡◌, ℕ, ◌+◌, ◌*◌, ◌<◌, ◌≤◌, false, List, [], ◌∷◌, length, Option, Some, None, Ok, refl, sym, ap, subst, ◌∙◌, arith, ◌==◌, nat_lt, eqb-true, ne_eqb, mul-le-mul_right}
use Rattle.std.proofs.lemmas.Bool.{not-false, ltb-false}
use Rattle.std.proofs.lemmas.Bool.Decides.{nat_tests}
use Rattle.zst_model.specs.declared.refusals.faults.Quantity.TheVariants as quantities
use Rattle.zst_model.specs.declared.refusals.refusal.Refusal.{Refusal}
use Rattle.zst_model.specs.declared.refusals.refusal.Refusal.TheVariants as refusals
use Rattle.zst_model.specs.declared.states.item.Change.{Change}
use Rattle.zst_model.specs.declared.states.item.Change.TheVariants.{Put, Spill, FreeFrom, Free, Redact, Write}
use Rattle.zst_model.specs.declared.states.item.Item.{Item}
use Rattle.zst_model.specs.declared.states.item.Item.TheVariants.{FreeObjects, At}
use Rattle.zst_model.proofs.Sizes.{size_of_lawful}
use Rattle.zst_model.specs.states.State.{Object, IsObjectOrNone, IsState, index_bound}
use Rattle.zst_model.specs.states.AppliedItems.{apply, apply_all, apply_change, put_at, within, unless, ◌>>=◌}
use Rattle.zst_model.specs.states.DatedState.{DatedState, size_at, apply_dated}
use Rattle.zst_model.specs.sends.Points.{point_of}
use Rattle.zst_model.specs.sends.ReceivedRecords.{is_past, of_record, received}
use Rattle.zst_model.specs.sends.Items.{items}
use Rattle.zst_model.proofs.DatedStates.{dated_state}
use Rattle.zst_model.proofs.Points.{point_of-append}
use Rattle.zst_model.proofs.Results.{ok_parts, bind_ok, unless_ok, of_record_ok, bind-ok}
use Rattle.zst_laws.specs.Dates.{IsLawfulItem}
use Rattle.zst_laws.specs.FileExample.{padded}
use Rattle.zst_laws.specs.ReceivedRecords.{WritesAreFar, RedactsAreFar, OthersHaveNoLimit, FaultsComeFirst, FarFaults, ReceivedIsApplied, IsRanged, ReceivedIsState, HasTaken, MovedHasTaken, TakenTogether, BegunIsPartWay, CutIsPartWay, PartWayIsCompleted}
use Rattle.zst_laws.proofs.histories.Dates.{applied_state, write_gives}
use Rattle.zst_laws.proofs.sends.CutSends.{cut_stand, start_stand}
use Rattle.zst_laws.proofs.sends.ResumedSends.{resume_exact}
use Rattle.zst_laws.proofs.sends.AppliedItemLemmas.{apply_all-append}

-- the limit, on values
pub writes_far : WritesAreFar
unfolding apply apply_change index_bound padded lib.Count.ones
writes_far = (refl, refl)

pub redacts_far : RedactsAreFar
unfolding apply apply_change index_bound lib.Count.ones
redacts_far = (refl, refl, refl, refl)

pub far_faults : FarFaults
unfolding apply apply_change padded lib.Count.ones
far_faults = (refl, refl, refl, refl, refl, refl, refl, refl)

pub others_have_none : OthersHaveNoLimit
others_have_none number index k snap = (
  λ first count. bind-ok (of_record index (apply_dated number (FreeObjects first count) snap)),
  λ head bonus keep_spill max_block. bind-ok (of_record index (apply_dated number (At k (Put head bonus keep_spill max_block)) snap)),
  λ bytes. bind-ok (of_record index (apply_dated number (At k (Spill bytes)) snap)),
  λ offset. bind-ok (of_record index (apply_dated number (At k (FreeFrom offset)) snap)),
  λ offset length. bind-ok (of_record index (apply_dated number (At k (Free offset length)) snap)),
)

-- the refusal past the limit
abbrev limit : Refusal
limit = refusals.Limit quantities.Block index_bound

pub faults_first : FaultsComeFirst
faults_first number index item snap why h = ap (λ r. of_record index r >>= λ after. unless (is_past item snap.state) limit (Ok after)) h

-- an accepted record: it can be applied, and isn't past the limit
received_ok : (number index : ℕ) (item : Item) (snap after : DatedState) → received number index item snap ≡ Ok after
    → (apply_dated number item snap ≡ Ok after) × (is_past item snap.state ≡ false)
received_ok number index item snap after h =
    let made = bind_ok (of_record index (apply_dated number item snap)) (λ d. unless (is_past item snap.state) limit (Ok d)) after h in
    let within = unless_ok (is_past item snap.state) limit (Ok made.0) after made.2 in
    (of_record_ok index (apply_dated number item snap) made.0 made.1 ∙ ap (λ d. Ok d) (ok_parts made.0 after within.1), within.0)

pub received_applied : ReceivedIsApplied
received_applied number index item snap after h = (received_ok number index item snap after h).0

-- no index from the bound on is within a range that ends at it
ends_before : (offset count size i : ℕ) → offset + count ≤ index_bound * size → index_bound ≤ i → within offset count (i * size) ≡ false
ends_before offset count size i below far =
    let least : index_bound * size ≤ i * size = mul-le-mul_right size far in
    grind (arith, nat_tests)

-- what an item of one number makes is what its change makes there
change_made : (number k : ℕ) (change : Change) (snap after : DatedState) → apply_dated number (At k change) snap ≡ Ok after
    → (made : Option Object) × (apply_change change (snap.state k) ≡ Ok made)
unfolding apply
change_made number k change snap after h =
    let applied = bind_ok (apply (At k change) snap.state) _ after h in
    let made = bind_ok (apply_change change (snap.state k)) (λ object. Ok (put_at snap.state k object)) applied.0 applied.1 in
    (made.0, made.1)

-- a WRITE that can be applied and isn't past the limit is of no index from the bound on
written_before : (offset type : ℕ) (bytes : List ℕ) (object made : Option Object) → IsObjectOrNone object
    → apply_change (Write offset type bytes) object ≡ Ok made → nat_lt (index_bound * size_at object) (offset + length bytes) ≡ false
    → (i : ℕ) → index_bound ≤ i → (i * size_at object == offset) ≡ false
unfolding apply_change
written_before offset type bytes None made is h past i far = absurd (cc)
written_before offset type bytes (Some object) made is h past i far =
    let size = object.attr.block_size in
    let some : 0 < size = size_of_lawful object is in
    let fills : length bytes ≡ size = eqb-true (length bytes) size (not-false _ (write_gives offset type bytes object made h).0) in
    let ends : offset + length bytes ≤ index_bound * size = ltb-false _ _ past in
    let least : index_bound * size ≤ i * size = mul-le-mul_right size far in
    ne_eqb (i * size) offset (λ e. omega (arith, e, fills, ends, least, some))

-- so an accepted record of lawful numbers is lawful
lawful_item : (number index : ℕ) (item : Item) (snap after : DatedState) → IsState snap.state → IsRanged item
    → apply_dated number item snap ≡ Ok after → is_past item snap.state ≡ false → IsLawfulItem item snap.state
lawful_item number index (FreeObjects first count) snap after s is h past = tt
lawful_item number index (At k (Put head bonus keep_spill max_block)) snap after s is h past = (is.0, (is.1, is.2))
lawful_item number index (At k (Spill bytes)) snap after s is h past = is
lawful_item number index (At k (FreeFrom offset)) snap after s is h past = (is, tt)
lawful_item number index (At k (Free offset count)) snap after s is h past = (is, tt)
lawful_item number index (At k (Redact offset count)) snap after s is h past =
    (is, λ i far. ends_before offset count (size_at (snap.state k)) i (ltb-false _ _ past) far)
lawful_item number index (At k (Write offset type bytes)) snap after s is h past =
    let made = change_made number k (Write offset type bytes) snap after h in
    (is.0, (is.1, written_before offset type bytes (snap.state k) made.0 (s.objects k) made.1 past))

pub received_state : ReceivedIsState
received_state number index item snap after s is h =
    let ok = received_ok number index item snap after h in
    applied_state number item snap after s (lawful_item number index item snap after s is ok.0 ok.1) ok.0

pub taken_together : TakenTogether
taken_together done more partial between after a b = record {
  header = b.header ∙ a.header;
  reached = b.reached ∙ ap (λ p. point_of p more) a.reached ∙ sym (point_of-append partial.point done more);
  objects = apply_all-append done more partial.objects.state ∙ ap (λ r. r >>= apply_all more) a.objects ∙ b.objects;
}

pub moved_has_taken : MovedHasTaken
moved_has_taken number index item partial after h =
    let made = bind_ok (received number index item partial.objects) _ after h in
    let ok = received_ok number index item partial.objects made.0 made.1 in
    subst (HasTaken (item ∷ []) partial) (ok_parts _ after made.2) (record {
      header = refl;
      reached = refl;
      objects = ap (λ r. r >>= apply_all []) (dated_state number item partial.objects made.0 ok.0);
    })

pub begun_part_way : BegunIsPartWay
begun_part_way view partial whole v header reached applies = record {
  header = header;
  reached = reached;
  objects = start_stand view partial.objects.state whole v applies;
}

pub cut_part_way : CutIsPartWay
cut_part_way view base point partial after done rest v is splits taken = record {
  header = taken.header ∙ is.header;
  reached = taken.reached ∙ ap (λ p. point_of p done) is.reached;
  objects = cut_stand view base point partial.objects.state done rest after.objects.state v is.objects splits taken.objects;
}

pub part_way_completed : PartWayIsCompleted
part_way_completed view base point partial v is = (
  is.header,
  is.reached,
  ap (λ p. apply_all (items view p) partial.objects.state) is.reached ∙ resume_exact view base point partial.objects.state v is.objects,
)
