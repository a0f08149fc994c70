-- A stream can carry the items of a lawful snapshot.
use Rattle.std.proofs.Common.{◌≡◌, ℕ, zero, suc, pred, ◌+◌, ◌*◌, ◌%◌, ◌-◌, ◌^◌, ◌<◌, ◌≤◌, Bool, true, false, List, [], ◌∷◌, ◌++◌, length, Option, Some, None, IfSome, option_map, refl, sym, ap, subst, arith, ◌==◌, nat_lt, nat_le, ◌&&◌, if◌then◌else◌, eqb-true, ne_eqb, mul-le-mul_right}
use Rattle.std.specs.List.{All, flat_map}
use Rattle.std.proofs.lemmas.Bool.{and_parts, or_left, or_right, leb-true, ltb-true, lt-ltb}
use Rattle.std.proofs.lemmas.List.Elements.{All-nil, All-cons, All-head, All-tail, All-append, All-map, All-same, All-weaker}
use Rattle.std.proofs.lemmas.List.Concat.{flat_map-cons}
use Rattle.zst_model.specs.declared.states.attr.Attr.{Attr}
use Rattle.zst_model.specs.declared.sends.header.Header.{Header}
use Rattle.zst_model.specs.declared.sends.header.Point.{Point}
use Rattle.zst_model.specs.declared.states.item.Change.{Change}
use Rattle.zst_model.specs.declared.states.item.Change.TheVariants.{Put, Spill, FreeFrom, Free, Redact, Write}
use Rattle.zst_model.specs.declared.states.item.Item.{Item}
use Rattle.zst_model.specs.declared.states.item.Item.TheVariants.{FreeObjects, At}
use Rattle.zst_model.specs.states.State.{Block, Hole, Redacted, Data, Object, AreBytes, BlockFits, IsHead, IsBonus, IsSpill, IsAttr, IsObject, IsObjectOrNone, IsState, end_of, end_at, is_number, number_bound, index_bound, is_block_size, largest_block}
use Rattle.zst_model.specs.states.DatedState.{DatedState}
use Rattle.zst_model.specs.sends.Inclusion.{Choice, includes_pair, includes_number}
use Rattle.zst_model.specs.sends.View.{View, ObjectView, Shown, Left, Gone, There, object_view, shown_object, view_of}
use Rattle.zst_model.specs.sends.Items.{rising, block_change, change_at, block_changes, spill_change, opening, number_items, items_at, single_items, join_changes, join, before_item, before, joined, items}
use Rattle.zst_model.proofs.BlockEnds.{past_bounded}
use Rattle.zst_record.specs.Decoding.{is_object, is_range}
use Rattle.zst_record.specs.RecordValues.{Fits}
use Rattle.zst_stream.specs.Records.{item_head, Allows, ItemsFit}

-- a change whose values a record can state, whose payload is bytes, and whose range stays so where it is joined with others
abbrev pub IsCarriedChange : Change → Type 0
IsCarriedChange (Put head bonus keep_spill max_block) = IsHead head × IsBonus bonus × (max_block < 2 ^ 64) × (keep_spill ≡ false)
IsCarriedChange (Spill bytes) = IsSpill bytes
IsCarriedChange (FreeFrom offset) = offset < 2 ^ 64
IsCarriedChange (Free offset count) = offset + count ≤ 2 ^ 60
IsCarriedChange (Redact offset count) = offset + count ≤ 2 ^ 60
IsCarriedChange (Write offset type bytes) = (offset < 2 ^ 64) × (type < 2 ^ 32) × (is_block_size (length bytes) ≡ true) × AreBytes bytes

-- an item of which that is so
abbrev pub IsCarried : Item → Type 0
IsCarried (FreeObjects first count) = first + count ≤ 2 ^ 48
IsCarried (At k change) = (is_number k ≡ true) × IsCarriedChange change

-- of it the record fits
carried_fits : (features to : ℕ) (item : Item) → to < 2 ^ 64 → IsCarried item → Allows features item → Fits features (item_head to item)
unfolding is_object is_range number_bound
carried_fits features to (FreeObjects first count) small is allows = (omega arith, omega arith, small)
carried_fits features to (At k (Put head bonus keep_spill max_block)) small (number, (of_head, few, below, none)) allows = record {
  object_fits = number;
  kind_fits = of_head.type_fits;
  kind_there = ne_eqb head.type_ 0 (λ e. omega (arith, e, of_head.some_type));
  bonus_kind_fits = of_head.bonus_type_fits;
  size = of_head.size;
  bonus_len_fits = few.0;
  max_block_fits = below;
  to_fits = small;
}
carried_fits features to (At k (Spill bytes)) small (number, is) allows = record { object_fits = number; size_fits = is.0; to_fits = small }
carried_fits features to (At k (FreeFrom offset)) small (number, below) allows =
    record { object_fits = number; offset_fits = below; size_fits = omega arith; range = or_right (nat_lt (offset + (2 ^ 64 - 1)) (2 ^ 64)) _ refl; to_fits = small }
carried_fits features to (At k (Free offset count)) small (number, past) allows =
    record { object_fits = number; offset_fits = omega (arith, past); size_fits = omega (arith, past); range = or_left (nat_lt (offset + count) (2 ^ 64)) _ (lt-ltb _ _ (omega (arith, past))); to_fits = small }
carried_fits features to (At k (Redact offset count)) small (number, past) allows =
    record { redacted = allows; object_fits = number; range = lt-ltb _ _ (omega (arith, past)); to_fits = small }
carried_fits features to (At k (Write offset type bytes)) small (number, (below, kind, size, bytes_are)) allows =
    record { object_fits = number; kind_fits = kind; offset_fits = below; size_fits = size; to_fits = small }

-- what is joined of two changes is carried
join_changes_carried : (x y z : Change) → join_changes x y ≡ Some z → IsCarriedChange x → IsCarriedChange y → IsCarriedChange z
join_changes_carried (Free o m) (Free p n) z e f g = go (o + m == p) refl e
  where
    go : (t : Bool) → (o + m == p) ≡ t → (if t then Some (Free o (m + n)) else None) ≡ Some z → IsCarriedChange z
    go true at h =
        let place = eqb-true (o + m) p at in
        let same : Free o (m + n) ≡ z = cc in
        subst IsCarriedChange same (omega (arith, place, g))
    go false at h = absurd (cc)
join_changes_carried (Redact o m) (Redact p n) z e f g = go (o + m == p) refl e
  where
    go : (t : Bool) → (o + m == p) ≡ t → (if t then Some (Redact o (m + n)) else None) ≡ Some z → IsCarriedChange z
    go true at h =
        let place = eqb-true (o + m) p at in
        let same : Redact o (m + n) ≡ z = cc in
        subst IsCarriedChange same (omega (arith, place, g))
    go false at h = absurd (cc)
join_changes_carried x y z e f g = absurd (cc)

-- and of two items
join_carried : (x y z : Item) → join x y ≡ Some z → IsCarried x → IsCarried y → IsCarried z
join_carried (FreeObjects first m) (FreeObjects next n) z e f g = go (first + m == next) refl e
  where
    go : (t : Bool) → (first + m == next) ≡ t → (if t then Some (FreeObjects first (m + n)) else None) ≡ Some z → IsCarried z
    go true at h =
        let place = eqb-true (first + m) next at in
        let same : FreeObjects first (m + n) ≡ z = cc in
        subst IsCarried same (omega (arith, place, g))
    go false at h = absurd (cc)
join_carried (At k c) (At j d) z e f g = go (k == j) (join_changes c d) refl e
  where
    go : (t : Bool) (both : Option Change) → join_changes c d ≡ both → (if t then option_map (At k) both else None) ≡ Some z → IsCarried z
    go true None at h = absurd (cc)
    go true (Some change) at h = let same : At k change ≡ z = cc in subst IsCarried same (f.0, join_changes_carried c d change at f.1 g.1)
    go false both at h = absurd (cc)
join_carried (FreeObjects first m) (At j d) z e f g = absurd (cc)
join_carried (At k c) (FreeObjects next n) z e f g = absurd (cc)

-- what holds of two items holds of what they are together
abbrev pub Joins : (Item → Type 0) → Type 0
Joins P = (x y z : Item) → join x y ≡ Some z → P x → P y → P z

before_all : (P : Item → Type 0) → Joins P → (x : Item) (rest : List Item) → P x → All P rest → All P (before x rest)
before_all P joins x [] is all = All-cons P x [] is (All-nil P)
before_all P joins x (y ∷ ys) is all = go (join x y) refl
  where
    go : (both : Option Item) → join x y ≡ both → All P (before_item x both y ys)
    go None e = All-cons P x (y ∷ ys) is all
    go (Some both) e = All-cons P both ys (joins x y both e is (All-head P y ys all)) (All-tail P y ys all)

joined_all : (P : Item → Type 0) → Joins P → (list : List Item) → All P list → All P (joined list)
joined_all P joins [] all = All-nil P
joined_all P joins (x ∷ xs) all = before_all P joins x (joined xs) (All-head P x xs all) (joined_all P joins xs (All-tail P x xs all))

-- what holds of each part holds of all
pub flat_map_all : {X A : Type 0} (P : A → Type 0) (f : X → List A) (xs : List X) → ((x : X) → All P (f x)) → All P (flat_map f xs)
flat_map_all P f [] each = All-nil P
flat_map_all P f (x ∷ xs) each = All-same P _ _ (flat_map-cons f x xs) (All-append P (f x) (flat_map f xs) (each x) (flat_map_all P f xs each))

pred_below : (n : ℕ) → pred n ≤ n
pred_below zero = omega arith
pred_below (suc n) = omega arith

-- a place of so many blocks stands within 2^60 bytes
place_bounded : (count size : ℕ) → count ≤ index_bound → is_block_size size ≡ true → count * size ≤ 2 ^ 60
unfolding index_bound is_block_size largest_block
place_bounded count size below is =
    let bounds = (and_parts (nat_le 512 size && nat_le size 131072) (size % 512 == 0) is).0 in
    let most : size ≤ 131072 = leb-true size 131072 (and_parts (nat_le 512 size) (nat_le size 131072) bounds).1 in
    let places : count * size ≤ 2 ^ 43 * size = mul-le-mul_right size below in
    omega (arith, most, places)

-- the change of an index below the bound is carried
block_carried : (attr : Attr) (i : ℕ) (block : Option Block) → IsAttr attr → IfSome block (λ b. (i < index_bound) × BlockFits attr.block_size b)
    → All IsCarriedChange (block_change attr i block)
block_carried attr i None is fits = All-nil IsCarriedChange
block_carried attr i (Some Hole) is fits =
    let place = place_bounded (i + 1) attr.block_size (omega (arith, fits.0)) is.head.size in
    All-cons IsCarriedChange (Free (i * attr.block_size) attr.block_size) [] (omega (arith, place)) (All-nil IsCarriedChange)
block_carried attr i (Some Redacted) is fits =
    let place = place_bounded (i + 1) attr.block_size (omega (arith, fits.0)) is.head.size in
    All-cons IsCarriedChange (Redact (i * attr.block_size) attr.block_size) [] (omega (arith, place)) (All-nil IsCarriedChange)
block_carried attr i (Some (Data bytes)) is fits =
    let place = place_bounded i attr.block_size (omega (arith, fits.0)) is.head.size in
    All-cons IsCarriedChange (Write (i * attr.block_size) attr.type_ bytes) []
    (omega (arith, place), is.head.type_fits, subst (λ n. is_block_size n ≡ true) (sym fits.1.0) is.head.size, fits.1.1) (All-nil IsCarriedChange)

-- what a view shows of an object is in its ranges
pub record IsShownObject (object : ObjectView) : Type 0 where
  pub attr : IsAttr object.attr
  pub end : object.end ≤ index_bound
  pub blocks : (i : ℕ) → IfSome (object.blocks i) (λ b. (i < index_bound) × BlockFits object.attr.block_size b)

changes_carried : (object : ObjectView) (offset : ℕ) → IsShownObject object → All IsCarriedChange (block_changes object offset)
changes_carried object offset is = flat_map_all IsCarriedChange (change_at object offset) (rising 0 object.end) (λ i. go i (nat_le offset (i * object.attr.block_size)))
  where
    go : (i : ℕ) (t : Bool) → All IsCarriedChange (if t then block_change object.attr i (object.blocks i) else [])
    go i true = block_carried object.attr i (object.blocks i) is.attr (is.blocks i)
    go i false = All-nil IsCarriedChange

spill_carried : (spill : Option (List ℕ)) → IfSome spill IsSpill → All IsCarriedChange (spill_change spill)
spill_carried None is = All-nil IsCarriedChange
spill_carried (Some bytes) is = All-cons IsCarriedChange (Spill bytes) [] is (All-nil IsCarriedChange)

opening_carried : (object : ObjectView) → IsShownObject object → All IsCarriedChange (opening object)
unfolding index_bound
opening_carried object is =
    let end : object.end ≤ 2 ^ 43 = is.end in
    let place = place_bounded object.end object.attr.block_size is.end is.attr.head.size in
    All-cons IsCarriedChange _ _ (is.attr.head, is.attr.bonus, omega (arith, pred_below object.end, end), refl)
    (All-append IsCarriedChange (spill_change object.attr.spill) _ (spill_carried object.attr.spill is.attr.spill)
    (All-cons IsCarriedChange _ [] (omega (arith, place)) (All-nil IsCarriedChange)))

-- what a view shows of a number is in its ranges
abbrev pub IsShownNumber : ℕ → Shown → Type 0
IsShownNumber k Left = Unit {0}
IsShownNumber k Gone = is_number k ≡ true
IsShownNumber k (There object) = (is_number k ≡ true) × IsShownObject object

number_below : (k : ℕ) → is_number k ≡ true → k < 2 ^ 48
unfolding number_bound
number_below k is = ltb-true k (2 ^ 48) (and_parts (nat_lt 0 k) (nat_lt k (2 ^ 48)) is).1

number_carried : (k offset : ℕ) (shown : Shown) → IsShownNumber k shown → All IsCarried (number_items k offset shown)
number_carried k offset Left is = All-nil IsCarried
number_carried k offset Gone is = All-cons IsCarried (FreeObjects k 1) [] (omega (arith, number_below k is)) (All-nil IsCarried)
number_carried k offset (There object) is =
    All-map IsCarried (At k) (opening object ++ block_changes object offset)
    (All-weaker IsCarriedChange (λ c. IsCarried (At k c)) (λ c h. (is.0, h)) (opening object ++ block_changes object offset)
    (All-append IsCarriedChange (opening object) (block_changes object offset) (opening_carried object is.1) (changes_carried object offset is.1)))

-- an object of a lawful snapshot is shown in its ranges
object_in_ranges : (snap : DatedState) (choice : Choice) (k : ℕ) (object : Object) → snap.state k ≡ Some object → IsObject object → IsShownObject (object_view snap choice k object)
object_in_ranges snap choice k object there is = record {
  attr = is.attr;
  end = past_bounded object.blocks index_bound;
  blocks = λ i. go i (includes_pair snap choice k i) refl;
}
  where
    redacted : (i : ℕ) (t : Bool) → BlockFits object.attr.block_size (if t then Redacted else object.blocks i)
    redacted i true = tt
    redacted i false = is.fits i

    below : (i : ℕ) → includes_pair snap choice k i ≡ true → i < index_bound
    below i e =
        let inside : i < end_at (snap.state k) = ltb-true i (end_at (snap.state k)) (and_parts (nat_lt i (end_at (snap.state k))) _ e).0 in
        let same : end_at (snap.state k) ≡ end_of object = ap end_at there in
        let end : end_of object ≤ index_bound = past_bounded object.blocks index_bound in
        omega (arith, inside, same, end)

    go : (i : ℕ) (t : Bool) → includes_pair snap choice k i ≡ t
        → IfSome (if t then Some (if choice.redact k i then Redacted else object.blocks i) else None) (λ b. (i < index_bound) × BlockFits object.attr.block_size b)
    go i true e = (below i e, redacted i (choice.redact k i))
    go i false e = tt

pub shown_in_ranges : (header : Header) (snap : DatedState) (choice : Choice) → IsState snap.state → (k : ℕ) → IsShownNumber k ((view_of header snap choice).shown k)
unfolding includes_number
shown_in_ranges header snap choice s k = go (includes_number snap choice k) refl (snap.state k) refl
  where
    go : (t : Bool) → includes_number snap choice k ≡ t → (o : Option Object) → snap.state k ≡ o → IsShownNumber k (if t then shown_object snap choice k o else Left)
    go false e o there = tt
    go true e None there = (and_parts (is_number k) _ e).0
    go true e (Some object) there = ((and_parts (is_number k) _ e).0, object_in_ranges snap choice k object there (subst IsObjectOrNone there (s.objects k)))

-- what holds of the items of each number holds of all items
pub items_all : (P : Item → Type 0) → Joins P → (view : View) (point : Point) → ((k offset : ℕ) → All P (number_items k offset (view.shown k)))
    → All P (items view point)
unfolding single_items
items_all P joins view point each =
    joined_all P joins (single_items view point) (flat_map_all P (items_at view point) (rising 1 (pred number_bound)) (λ k. go k (nat_lt k point.object)))
  where
    go : (k : ℕ) (t : Bool) → All P (if t then [] else number_items k (if k == point.object then point.offset else 0) (view.shown k))
    go k true = All-nil P
    go k false = each k (if k == point.object then point.offset else 0)

pub items_carried : (header : Header) (snap : DatedState) (choice : Choice) (point : Point) → IsState snap.state → All IsCarried (items (view_of header snap choice) point)
items_carried header snap choice point s =
    items_all IsCarried join_carried (view_of header snap choice) point (λ k offset. number_carried k offset ((view_of header snap choice).shown k) (shown_in_ranges header snap choice s k))

pub items_fit : ItemsFit
items_fit header snap choice point s small =
    All-weaker IsCarried (λ item. Allows header.features item → Fits header.features (item_head header.to item)) (λ item is. carried_fits header.features header.to item small is)
    (items (view_of header snap choice) point) (items_carried header snap choice point s)
