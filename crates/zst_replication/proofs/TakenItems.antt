-- Items that apply are taken, where none is past the limit of indices.
use Rattle.std.proofs.Common.{◌≡◌, ℕ, ◌+◌, ◌*◌, ◌≤◌, ◌==◌, ◌&&◌, ◌||◌, not, Bool, true, false, List, [], ◌∷◌, ◌++◌, length, nat_lt, Option, Some, None, IfSome, Result, Ok, Err, refl, sym, ap, ◌∙◌, subst, if◌then◌else◌}
use Rattle.std.proofs.lemmas.Bool.{eq-eqb, le-ltb, not-false}
use Rattle.zst_apply.specs.AppliedRecords.{received_all}
use Rattle.zst_model.specs.declared.refusals.apply_fault.ApplyFault.{ApplyFault}
use Rattle.zst_model.specs.declared.refusals.apply_fault.ApplyFault.TheVariants.{NotUserData, OddBlock, SizeDiffers, Unaligned}
use Rattle.zst_model.specs.declared.refusals.faults.Quantity.TheVariants as quantities
use Rattle.zst_model.specs.declared.refusals.refusal.Refusal.{Refusal}
use Rattle.zst_model.specs.declared.refusals.refusal.Refusal.TheVariants as refusals
use Rattle.zst_model.specs.declared.states.item.Change.{Change}
use Rattle.zst_model.specs.declared.states.item.Change.TheVariants.{Put, Spill, FreeFrom, Free, Redact, Write}
use Rattle.zst_model.specs.declared.states.item.Item.{Item}
use Rattle.zst_model.specs.declared.states.item.Item.TheVariants.{FreeObjects, At}
use Rattle.zst_model.specs.sends.ReceivedRecords.{is_change_past, is_past, of_record, received}
use Rattle.zst_model.specs.states.AppliedItems.{apply, apply_all, apply_change, is_unaligned, put_at, unless, with_blocks, within, ◌>>=◌}
use Rattle.zst_model.specs.states.DatedState.{DatedState, size_at, touches_index, touches_number}
use Rattle.zst_model.specs.states.State.{Block, Object, State, index_bound, is_odd_size, is_user_data}
use Rattle.zst_model.proofs.Results.{bind_ok, ok_parts, unless_ok}
use Rattle.zst_stream.specs.NearItems.{AreNear, IsNear, IsNearChange, Place, place_behind, place_behind_change}
use Rattle.zst_replication.proofs.ReceivePlans.{same_number}

-- ---- where items stand

-- where an item behind these stands
abbrev pub place_behind_all : Place → List Item → Place
place_behind_all place [] = place
place_behind_all place (item ∷ rest) = place_behind_all (place_behind place item) rest

pub near_front : (place : Place) (xs ys : List Item) → AreNear place (xs ++ ys) → AreNear place xs
near_front place [] ys near = tt
near_front place (x ∷ xs) ys near = (near.0, near_front (place_behind place x) xs ys near.1)

pub near_back : (place : Place) (xs ys : List Item) → AreNear place (xs ++ ys) → AreNear (place_behind_all place xs) ys
near_back place [] ys near = near
near_back place (x ∷ xs) ys near = near_back (place_behind place x) xs ys near.1

-- an object that is there has blocks of this size
abbrev HasSize : ℕ → Option Object → Type 0
HasSize size object = IfSome object (λ o. o.attr.block_size ≡ size)

-- so has the one where items stand
abbrev pub IsSized : Place → State → Type 0
IsSized place state = HasSize place.block_size (state place.object)

-- before any item they stand in object 0, whatever it is
abbrev pub place_of : State → Place
place_of state = record { object = 0; block_size = size_at (state 0) }

own_size : (object : Option Object) → HasSize (size_at object) object
own_size None = tt
own_size (Some object) = refl

pub first_sized : (state : State) → IsSized (place_of state) state
first_sized state = own_size (state 0)

with_sized : (size : ℕ) (object : Object) (blocks : ℕ → Block) (made : Option Object) → object.attr.block_size ≡ size → with_blocks object blocks ≡ Ok made → HasSize size made
with_sized size object blocks made same e = subst (λ (o : Option Object). HasSize size o) (ok_parts _ made e) same

-- the size of the blocks behind a change: OBJECT states it, and each other leaves it
abbrev size_behind : ℕ → Change → ℕ
size_behind size (Put head bonus keep_spill max_block) = head.block_size
size_behind size _ = size

change_sized : (size : ℕ) (change : Change) (object made : Option Object) → apply_change change object ≡ Ok made → HasSize size object → HasSize (size_behind size change) made
unfolding apply_change
change_sized size (Put head bonus keep_spill max_block) None made e is = subst (λ (o : Option Object). HasSize head.block_size o) (ok_parts _ made e) refl
change_sized size (Put head bonus keep_spill max_block) (Some object) made e is = subst (λ (o : Option Object). HasSize head.block_size o) (ok_parts _ made e) refl
change_sized size (Spill bytes) None made e is = absurd cc
change_sized size (Spill bytes) (Some object) made e is = subst (λ (o : Option Object). HasSize size o) (ok_parts _ made e) is
change_sized size (FreeFrom offset) None made e is = absurd cc
change_sized size (FreeFrom offset) (Some object) made e is = with_sized size object _ made is (unless_ok (is_unaligned object.attr.block_size offset) Unaligned _ made e).1
change_sized size (Free offset count) None made e is = absurd cc
change_sized size (Free offset count) (Some object) made e is =
    with_sized size object _ made is (unless_ok (is_unaligned object.attr.block_size offset || is_unaligned object.attr.block_size count) Unaligned _ made e).1
change_sized size (Redact offset count) None made e is = absurd cc
change_sized size (Redact offset count) (Some object) made e is =
    let own = object.attr.block_size in
    let user = unless_ok (not (is_user_data object.attr)) NotUserData _ made e in
    let aligned = unless_ok (is_unaligned own offset || is_unaligned own count) Unaligned _ made user.1 in
    with_sized size object _ made is (unless_ok (is_odd_size own && (nat_lt 0 count && nat_lt own (offset + count))) OddBlock _ made aligned.1).1
change_sized size (Write offset type bytes) None made e is = absurd cc
change_sized size (Write offset type bytes) (Some object) made e is =
    let own = object.attr.block_size in
    let fits = unless_ok (not (length bytes == own)) SizeDiffers _ made e in
    let aligned = unless_ok (is_unaligned own offset) Unaligned _ made fits.1 in
    with_sized size object _ made is (unless_ok (is_odd_size own && nat_lt 0 offset) OddBlock _ made aligned.1).1

-- what a change leaves at the place, where it is of that object or of another
kept_sized : (place : Place) (k : ℕ) (state : State) (object : Option Object) → (place.object ≡ k → HasSize place.block_size object) → IsSized place state → IsSized place (put_at state k object)
kept_sized place k state object now is = go (place.object == k) refl
  where
    go : (t : Bool) → (place.object == k) ≡ t → HasSize place.block_size (if t then object else state place.object)
    go true same = now (same_number place.object k same)
    go false same = is

module _ (place : Place) (k : ℕ) (state : State) (object : Option Object) (is : IsSized place state) where
  left_sized : (change : Change) → apply_change change (state k) ≡ Ok object → size_behind place.block_size change ≡ place.block_size → IsSized place (put_at state k object)
  left_sized change e stays =
      kept_sized place k state object
      (λ same. subst (λ (size : ℕ). HasSize size object) stays
      (change_sized place.block_size change (state k) object e (subst (λ (n : ℕ). HasSize place.block_size (state n)) same is))) is

  at_sized : (change : Change) → apply_change change (state k) ≡ Ok object → IsSized (place_behind_change place k change) (put_at state k object)
  at_sized (Put head bonus keep_spill max_block) e =
      go (k == k) (eq-eqb k k refl) (change_sized (size_at (state k)) (Put head bonus keep_spill max_block) (state k) object e (own_size (state k)))
    where
      go : (t : Bool) → t ≡ true → HasSize head.block_size object → HasSize head.block_size (if t then object else state k)
      go true same sized = sized
      go false same sized = absurd cc
  at_sized (Spill bytes) e = left_sized (Spill bytes) e refl
  at_sized (FreeFrom offset) e = left_sized (FreeFrom offset) e refl
  at_sized (Free offset count) e = left_sized (Free offset count) e refl
  at_sized (Redact offset count) e = left_sized (Redact offset count) e refl
  at_sized (Write offset type bytes) e = left_sized (Write offset type bytes) e refl

-- so the object where items stand has its size behind each that applies
item_sized : (place : Place) (item : Item) (state made : State) → apply item state ≡ Ok made → IsSized place state → IsSized (place_behind place item) made
unfolding apply
item_sized place (FreeObjects first count) state made e is =
    subst (λ (s : State). IsSized place s) (ok_parts _ made e) (go (within first count place.object))
  where
    go : (t : Bool) → HasSize place.block_size (if t then None else state place.object)
    go true = tt
    go false = is
item_sized place (At k change) state made e is =
    let found = bind_ok (apply_change change (state k)) (λ object. Ok (put_at state k object)) made e in
    subst (λ (s : State). IsSized (place_behind_change place k change) s) (ok_parts _ made found.2) (at_sized place k state found.0 is change found.1)

pub all_sized : (place : Place) (items : List Item) (state made : State) → apply_all items state ≡ Ok made → IsSized place state → IsSized (place_behind_all place items) made
all_sized place [] state made e is = subst (λ (s : State). IsSized place s) (ok_parts state made e) is
all_sized place (item ∷ rest) state made e is =
    let found = bind_ok (apply item state) (apply_all rest) made e in
    all_sized (place_behind place item) rest found.0 made found.2 (item_sized place item state found.0 found.1 is)

-- ---- what isn't past the limit of indices

-- a WRITE that applies is as long as the object's blocks
write_fits : (offset type : ℕ) (bytes : List ℕ) (object made : Option Object) → apply_change (Write offset type bytes) object ≡ Ok made → length bytes ≡ size_at object
unfolding apply_change
write_fits offset type bytes None made e = absurd cc
write_fits offset type bytes (Some object) made e =
    let fits = unless_ok (not (length bytes == object.attr.block_size)) SizeDiffers _ made e in
    same_number (length bytes) object.attr.block_size (not-false (length bytes == object.attr.block_size) fits.0)

-- so neither it nor a REDACT in its place is past the limit of indices
redact_fits : (place : Place) (offset count : ℕ) (object made : Option Object) → apply_change (Redact offset count) object ≡ Ok made → offset + count ≤ index_bound * place.block_size
    → HasSize place.block_size object → nat_lt (index_bound * size_at object) (offset + count) ≡ false
unfolding apply_change
redact_fits place offset count None made e near is = absurd cc
redact_fits place offset count (Some object) made e near is =
    subst (λ (size : ℕ). nat_lt (index_bound * size) (offset + count) ≡ false) (sym is) (le-ltb (index_bound * place.block_size) (offset + count) near)

change_not_past : (place : Place) (k : ℕ) (change : Change) (state : State) (made : Option Object) → apply_change change (state k) ≡ Ok made → IsNearChange place k change → IsSized place state
    → is_change_past change (size_at (state k)) ≡ false
change_not_past place k (Put head bonus keep_spill max_block) state made e near is = refl
change_not_past place k (Spill bytes) state made e near is = refl
change_not_past place k (FreeFrom offset) state made e near is = refl
change_not_past place k (Free offset count) state made e near is = refl
change_not_past place k (Redact offset count) state made e near is =
    redact_fits place offset count (state k) made e near.1 (subst (λ (n : ℕ). HasSize place.block_size (state n)) (sym near.0) is)
change_not_past place k (Write offset type bytes) state made e near is =
    subst (λ (size : ℕ). nat_lt (index_bound * size) (offset + length bytes) ≡ false) (write_fits offset type bytes (state k) made e)
    (le-ltb (index_bound * length bytes) (offset + length bytes) near)

not_past : (place : Place) (item : Item) (state made : State) → apply item state ≡ Ok made → IsNear place item → IsSized place state → is_past item state ≡ false
unfolding apply
not_past place (FreeObjects first count) state made e near is = refl
not_past place (At k change) state made e near is =
    let found = bind_ok (apply_change change (state k)) (λ object. Ok (put_at state k object)) made e in
    change_not_past place k change state found.0 found.1 near is

-- such an item is taken, whatever record says it
item_taken : (place : Place) (number index : ℕ) (item : Item) (snap : DatedState) (made : State) → apply item snap.state ≡ Ok made → IsNear place item → IsSized place snap.state
    → (after : DatedState) × (received number index item snap ≡ Ok after) × (after.state ≡ made)
item_taken place number index item snap made e near is = (
  dated made,
  ap (λ (r : Result State ApplyFault). of_record index (r >>= λ state. Ok (dated state)) >>= λ after. unless (is_past item snap.state) (refusals.Limit quantities.Block index_bound) (Ok after)) e
      ∙ ap (λ (t : Bool). unless t (refusals.Limit quantities.Block index_bound) (Ok (dated made))) (not_past place item snap.state made e near is),
  refl,
)
  where
    dated : State → DatedState
    dated state = record {
      state = state;
      number_date = λ k. if touches_number item k then number else snap.number_date k;
      index_date = λ k i. if touches_index item snap.state k i then number else snap.index_date k i;
    }

-- and so are all, one after another
pub all_taken : (place : Place) (number index : ℕ) (items : List Item) (snap : DatedState) (made : State) → apply_all items snap.state ≡ Ok made → AreNear place items → IsSized place snap.state
    → (refusal : Refusal) → received_all number index items snap ≡ Err refusal → ⊥
all_taken place number index [] snap made e near is refusal refused = cc
all_taken place number index (item ∷ rest) snap made e near is refusal refused =
    let found = bind_ok (apply item snap.state) (apply_all rest) made e in
    let taken = item_taken place number index item snap found.0 found.1 near.0 is in
    let sized = subst (λ (s : State). IsSized (place_behind place item) s) (sym taken.2) (item_sized place item snap.state found.0 found.1 is) in
    all_taken (place_behind place item) number index rest taken.0 made (ap (apply_all rest) taken.2 ∙ found.2) near.1 sized refusal
    (subst (λ (r : Result DatedState Refusal). (r >>= received_all number index rest) ≡ Err refusal) taken.1 refused)

-- the first ones of items that apply do
pub front_applies : (items more : List Item) (s made : State) → apply_all (items ++ more) s ≡ Ok made → (t : State) × (apply_all items s ≡ Ok t)
front_applies [] more s made e = (s, refl)
front_applies (x ∷ xs) more s made e =
    let found = bind_ok (apply x s) (apply_all (xs ++ more)) made e in
    let rest = front_applies xs more found.0 made found.2 in
    (rest.0, ap (λ (r : Result State ApplyFault). r >>= apply_all xs) found.1 ∙ rest.1)
