-- A stream of items is read as these items.
use Rattle.std.proofs.Common.{◌≡◌, ℕ, ◌+◌, ◌-◌, ◌*◌, ◌/◌, ◌==◌, Bool, true, false, List, [], ◌∷◌, ◌++◌, length, take, replicate, refl, sym, ap, ◌∙◌, arith, append_assoc}
use Rattle.std.specs.List.{All}
use Rattle.std.proofs.lemmas.Bool.{cond-true, cond-false, ne_eqb}
use Rattle.std.proofs.lemmas.Bool.Decides.{nat_tests}
use Rattle.std.proofs.lemmas.List.{take_at}
use Rattle.std.proofs.lemmas.List.Elements.{All-head, All-tail, All-weaker}
use Rattle.zst_fletcher.specs.WeightSum.{IsWhole}
use Rattle.zst_model.specs.declared.sends.header.Header.{Header}
use Rattle.zst_model.specs.declared.states.item.Change.{Change}
use Rattle.zst_model.specs.declared.states.item.Change.TheVariants.{Put, Spill, FreeFrom, Free, Redact, Write}
use Rattle.zst_model.specs.declared.states.item.Item.{Item}
use Rattle.zst_model.specs.declared.states.item.Item.TheVariants.{FreeObjects, At}
use Rattle.zst_model.specs.sends.Items.{items}
use Rattle.zst_model.specs.sends.View.{view_of}
use Rattle.zst_record.specs.RecordValues.{Fits}
use Rattle.zst_record.specs.Formats.{to_end}
use Rattle.zst_record.specs.Heads.{Covered, payload_len}
use Rattle.zst_record.specs.Payload.{begin_payload}
use Rattle.zst_record.specs.Table.{padded}
use Rattle.zst_record.proofs.SizeLaws.{block-bounded, spill-size-bounded}
use Rattle.zst_record.proofs.TableLaws.{length-padded}
use Rattle.zst_stream.specs.Image.{PieceFits, PiecesFit, front_of, covers, covers_after, piece_after}
use Rattle.zst_stream.specs.Reading.{Reading, reading, opened}
use Rattle.zst_stream.specs.Records.{Allows, item_head, item_payload, padded_bonus, piece_for, pieces_for, view_text}
use Rattle.zst_stream.specs.Items.{keeps_spill, items_by, items_of, Says, ItemsAreRead, PayloadsFit, ViewIsStream, ViewIsRead, FirstItems}
use Rattle.zst_stream.proofs.CarriedItems.{IsCarried, items_carried, items_fit}
use Rattle.zst_stream.proofs.ImageReadings.{whole, front_whole, small-to}

-- ---- what a piece says

padded_front : (bonus : List ℕ) → take (length bonus) (padded_bonus bonus) ≡ bonus
unfolding padded
padded_front bonus = take_at bonus (replicate ((length bonus + 7) / 8 * 8 - length bonus) 0) (length bonus) refl

same : (a : ℕ) → (a == a) ≡ true
same a = grind (arith, nat_tests)

says : (flags to : ℕ) (item : Item) → Says flags item → items_by flags (item_payload item) (item_head to item) ≡ item ∷ []
says flags to (FreeObjects first count) s = refl
says flags to (At k (Put head bonus keep max)) s =
    ap (λ (b : List ℕ). At k (Put head b (keeps_spill flags) max) ∷ []) (padded_front bonus) ∙ ap (λ (b : Bool). At k (Put head bonus b max) ∷ []) s
says flags to (At k (Spill bytes)) s = refl
says flags to (At k (FreeFrom offset)) s = ap (λ (c : Change). At k c ∷ []) (cond-true (to_end == to_end) (FreeFrom offset) (Free offset to_end) (same to_end))
says flags to (At k (Free offset count)) s = ap (λ (c : Change). At k c ∷ []) (cond-false (count == to_end) (FreeFrom offset) (Free offset count) (ne_eqb count to_end s))
says flags to (At k (Redact offset count)) s = refl
says flags to (At k (Write offset type bytes)) s = refl

-- the records after a text say the items in their order
after_say : (flags to index : ℕ) (before : List ℕ) (sent : List Item) → All (Says flags) sent
    → items_of flags (covers_after index before (pieces_for to sent) to) ≡ sent
unfolding covers_after
after_say flags to index before [] s = refl
after_say flags to index before (item ∷ rest) s =
    let here = says flags to item (All-head (Says flags) item rest s) in
    let later = after_say flags to (index + 1) (before ++ piece_after before (piece_for to item)) rest (All-tail (Says flags) item rest s) in
    ap (λ (l : List Item). l ++ items_of flags (covers_after (index + 1) (before ++ piece_after before (piece_for to item)) (pieces_for to rest) to)) here
    ∙ ap (λ (l : List Item). item ∷ l) later

covers_say : (header : Header) (sent : List Item) → All (Says header.flags) sent → items_of header.flags (covers header (pieces_for header.to sent)) ≡ sent
unfolding covers
covers_say header sent s = after_say header.flags header.to 1 (front_of header) sent s

pub items_read : ItemsAreRead
items_read header sent stream s =
    ap (λ (r : Reading). items_of header.flags r.covered) (whole header (pieces_for header.to sent) stream) ∙ covers_say header sent s

-- ---- which items are a stream's

-- a bonus is padded to what its record says
pub padded_len : (bonus : List ℕ) → length (padded_bonus bonus) ≡ (length bonus + 7) / 8 * 8
padded_len bonus = length-padded ((length bonus + 7) / 8 * 8) bonus (omega arith)

pub payload_fits : (to : ℕ) (item : Item) → length (item_payload item) ≡ payload_len (item_head to item)
payload_fits to (FreeObjects first count) = refl
payload_fits to (At k (Put head bonus keep max)) = padded_len bonus
payload_fits to (At k (Spill bytes)) = refl
payload_fits to (At k (FreeFrom offset)) = refl
payload_fits to (At k (Free offset count)) = refl
payload_fits to (At k (Redact offset count)) = refl
payload_fits to (At k (Write offset type bytes)) = refl

item_whole : (features to : ℕ) (item : Item) → Fits features (item_head to item) → IsWhole (item_payload item)
item_whole features to (FreeObjects first count) f = refl
item_whole features to (At k (Put head bonus keep max)) f = let e = padded_len bonus in omega (arith, e)
item_whole features to (At k (Spill bytes)) f = (spill-size-bounded (length bytes) f.size_fits).0
item_whole features to (At k (FreeFrom offset)) f = refl
item_whole features to (At k (Free offset count)) f = refl
item_whole features to (At k (Redact offset count)) f = refl
item_whole features to (At k (Write offset type bytes)) f = (block-bounded (length bytes) f.size_fits).0

pub payloads_fit : PayloadsFit
payloads_fit features to item f = (payload_fits to item, item_whole features to item f)

piece_fits : (features to : ℕ) (item : Item) → Allows features item → Fits features (item_head to item) → PieceFits features (piece_for to item)
unfolding opened
piece_fits features to (FreeObjects first count) a f = record { later = tt; not_end = refl; fits = f; len = refl; sound = refl }
piece_fits features to (At k (Put head bonus keep max)) a f = record { later = tt; not_end = refl; fits = f; len = padded_len bonus; sound = refl }
piece_fits features to (At k (Spill bytes)) a f = record { later = tt; not_end = refl; fits = f; len = refl; sound = refl }
piece_fits features to (At k (FreeFrom offset)) a f = record { later = tt; not_end = refl; fits = f; len = refl; sound = refl }
piece_fits features to (At k (Free offset count)) a f = record { later = tt; not_end = refl; fits = f; len = refl; sound = refl }
piece_fits features to (At k (Redact offset count)) a f = record { later = tt; not_end = refl; fits = f; len = refl; sound = refl }
piece_fits features to (At k (Write offset type bytes)) a f = record { later = tt; not_end = refl; fits = f; len = refl; sound = refl }

pieces_fit : (features to : ℕ) (sent : List Item) → All (Allows features) sent → All (λ item. Fits features (item_head to item)) sent
    → PiecesFit features (pieces_for to sent)
pieces_fit features to [] a f = tt
pieces_fit features to (item ∷ rest) a f = (
  piece_fits features to item (All-head (Allows features) item rest a) (All-head (λ item. Fits features (item_head to item)) item rest f),
  pieces_fit features to rest (All-tail (Allows features) item rest a) (All-tail (λ item. Fits features (item_head to item)) item rest f),
)

-- what is carried is said
carried_says : (flags : ℕ) → keeps_spill flags ≡ false → (item : Item) → IsCarried item → Says flags item
carried_says flags e (FreeObjects first count) is = tt
carried_says flags e (At k (Put head bonus keep max)) (number, (of_head, few, below, none)) = e ∙ sym none
carried_says flags e (At k (Spill bytes)) is = tt
carried_says flags e (At k (FreeFrom offset)) is = tt
carried_says flags e (At k (Free offset count)) (number, past) = λ all. omega (arith, past, all)
carried_says flags e (At k (Redact offset count)) is = tt
carried_says flags e (At k (Write offset type bytes)) is = tt

both : {X : Type 0} (P Q : X → Type 0) (xs : List X) → All (λ x. P x → Q x) xs → All P xs → All Q xs
both P Q xs f p k d lt = f k d lt (p k d lt)

pub view_stream : ViewIsStream
view_stream header snap choice point can =
    let sent = items (view_of header snap choice) point in
    let fit = both (Allows header.features) (λ item. Fits header.features (item_head header.to item)) sent
    (items_fit header snap choice point can.lawful (small-to header (length (begin_payload header)) can.begins.begins)) can.allowed in (
      record { begins = can.begins; pieces_fit = pieces_fit header.features header.to sent can.allowed fit },
      All-weaker IsCarried (Says header.flags) (carried_says header.flags can.flags) sent (items_carried header snap choice point can.lawful),
    )

-- ---- a view's text

pub view_read : ViewIsRead
unfolding view_text
view_read header snap choice point can =
    let sent = items (view_of header snap choice) point in
    let stream = view_stream header snap choice point can in
    (ap (λ (r : Reading). r.outcome) (whole header (pieces_for header.to sent) stream.0), items_read header sent stream.0 stream.1)

pub say_append : (flags : ℕ) (xs ys : List Covered) → items_of flags (xs ++ ys) ≡ items_of flags xs ++ items_of flags ys
say_append flags [] ys = refl
say_append flags (c ∷ xs) ys =
    ap (λ (l : List Item). items_by flags c.payload c.head ++ l) (say_append flags xs ys) ∙ sym (append_assoc (items_by flags c.payload c.head) (items_of flags xs) (items_of flags ys))

pub first_items : FirstItems
unfolding view_text
first_items header snap choice point text later can parts =
    let sent = items (view_of header snap choice) point in
    let stream = view_stream header snap choice point can in
    let f = front_whole header (pieces_for header.to sent) text later stream.0 parts in (
      items_of header.flags f.others,
      sym (covers_say header sent stream.1) ∙ ap (items_of header.flags) f.covered ∙ say_append header.flags (reading text).covered f.others,
    )
