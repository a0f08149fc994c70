-- No WRITE and no REDACT of a lawful snapshot's view is past index 2^43.
use Rattle.std.proofs.Common.{◌≡◌, ℕ, pred, ◌+◌, ◌*◌, ◌^◌, ◌<◌, ◌≤◌, Bool, true, false, List, [], ◌∷◌, ◌++◌, length, map, Option, Some, None, IfSome, option_map, refl, sym, subst, arith, ◌==◌, nat_lt, nat_le, if◌then◌else◌, eqb-true, mul-le-mul_right}
use Rattle.std.specs.List.{All, flat_map}
use Rattle.std.proofs.lemmas.List.Concat.{flat_map-cons}
use Rattle.std.proofs.lemmas.List.Elements.{All-nil, All-cons, All-head, All-tail, All-append}
use Rattle.zst_model.specs.declared.states.attr.Attr.{Attr}
use Rattle.zst_model.specs.declared.states.item.Change.{Change}
use Rattle.zst_model.specs.declared.states.item.Change.TheVariants.{Put, Spill, FreeFrom, Free, Redact, Write}
use Rattle.zst_model.specs.declared.states.item.Item.{Item}
use Rattle.zst_model.specs.declared.states.item.Item.TheVariants.{FreeObjects, At}
use Rattle.zst_model.specs.states.State.{Block, Hole, Redacted, Data, BlockFits, index_bound, number_bound}
use Rattle.zst_model.specs.sends.View.{ObjectView, Shown, Left, Gone, There, view_of}
use Rattle.zst_model.specs.sends.Items.{rising, block_change, change_at, block_changes, spill_change, tail_change, number_items, items_at, single_items, join_changes, join, before_item, before, joined}
use Rattle.zst_stream.specs.NearItems.{Place, place_behind, AreNear, ItemsAreNear}
use Rattle.zst_stream.proofs.CarriedItems.{IsShownNumber, flat_map_all, shown_in_ranges}

-- ---- what is joined is near where its parts are

sum_near : (o m p n most : ℕ) → o + m ≡ p → p + n ≤ most → o + (m + n) ≤ most
sum_near o m p n most place past = omega (arith, place, past)

join_changes_near : (place : Place) (k j : ℕ) (x y z : Change) (rest : List Item) → join_changes x y ≡ Some z → AreNear place (At k x ∷ At j y ∷ rest) → AreNear place (At k z ∷ rest)
join_changes_near place k j (Free o m) (Free p n) z rest e near = go (o + m == p) e
  where
    go : (t : Bool) → (if t then Some (Free o (m + n)) else None) ≡ Some z → AreNear place (At k z ∷ rest)
    go true h = let same : Free o (m + n) ≡ z = cc in subst (λ (c : Change). AreNear place (At k c ∷ rest)) same (tt, near.1.1)
    go false h = absurd (cc)
join_changes_near place k j (Redact o m) (Redact p n) z rest e near = go (o + m == p) refl e
  where
    go : (t : Bool) → (o + m == p) ≡ t → (if t then Some (Redact o (m + n)) else None) ≡ Some z → AreNear place (At k z ∷ rest)
    go true is h =
        let same : Redact o (m + n) ≡ z = cc in
        let past = sum_near o m p n (index_bound * place.block_size) (eqb-true (o + m) p is) near.1.0.1 in
        subst (λ (c : Change). AreNear place (At k c ∷ rest)) same ((near.0.0, past), near.1.1)
    go false is h = absurd (cc)
join_changes_near place k j x y z rest e near = absurd (cc)

join_near : (place : Place) (x y z : Item) (rest : List Item) → join x y ≡ Some z → AreNear place (x ∷ y ∷ rest) → AreNear place (z ∷ rest)
join_near place (FreeObjects first m) (FreeObjects next n) z rest e near = go (first + m == next) e
  where
    go : (t : Bool) → (if t then Some (FreeObjects first (m + n)) else None) ≡ Some z → AreNear place (z ∷ rest)
    go true h = let same : FreeObjects first (m + n) ≡ z = cc in subst (λ (i : Item). AreNear place (i ∷ rest)) same (tt, near.1.1)
    go false h = absurd (cc)
join_near place (At k c) (At j d) z rest e near = go (k == j) (join_changes c d) refl e
  where
    go : (t : Bool) (both : Option Change) → join_changes c d ≡ both → (if t then option_map (At k) both else None) ≡ Some z → AreNear place (z ∷ rest)
    go true None is h = absurd (cc)
    go true (Some change) is h = let same : At k change ≡ z = cc in subst (λ (i : Item). AreNear place (i ∷ rest)) same (join_changes_near place k j c d change rest is near)
    go false both is h = absurd (cc)
join_near place (FreeObjects first m) (At j d) z rest e near = absurd (cc)
join_near place (At k c) (FreeObjects next n) z rest e near = absurd (cc)

before_near : (place : Place) (x : Item) (rest : List Item) → AreNear place (x ∷ rest) → AreNear place (before x rest)
before_near place x [] near = near
before_near place x (y ∷ ys) near = go (join x y) refl
  where
    go : (both : Option Item) → join x y ≡ both → AreNear place (before_item x both y ys)
    go None e = near
    go (Some both) e = join_near place x y both ys e near

joined_near : (place : Place) (list : List Item) → AreNear place list → AreNear place (joined list)
joined_near place [] near = tt
joined_near place (x ∷ xs) near = before_near place x (joined xs) (near.0, joined_near (place_behind place x) xs near.1)

-- ---- one list behind another

append_near : (place : Place) (xs ys : List Item) → AreNear place xs → ((other : Place) → AreNear other ys) → AreNear place (xs ++ ys)
append_near place [] ys near all = all place
append_near place (x ∷ xs) ys near all = (near.0, append_near (place_behind place x) xs ys near.1 all)

numbers_near : (f : ℕ → List Item) (ks : List ℕ) → ((k : ℕ) (place : Place) → AreNear place (f k)) → (place : Place) → AreNear place (flat_map f ks)
numbers_near f [] each place = tt
numbers_near f (k ∷ ks) each place =
    subst (λ (is : List Item). AreNear place is) (sym (flat_map-cons f k ks)) (append_near place (f k) (flat_map f ks) (each k place) (numbers_near f ks each))

-- ---- the changes of one object

-- a change of the object where items stand, which isn't its OBJECT
abbrev IsInside : ℕ → Change → Type 0
IsInside size (Put head bonus keep_spill max_block) = ⊥
IsInside size (Spill bytes) = Unit {0}
IsInside size (FreeFrom offset) = Unit {0}
IsInside size (Free offset count) = Unit {0}
IsInside size (Redact offset count) = offset + count ≤ index_bound * size
IsInside size (Write offset type bytes) = offset + length bytes ≤ index_bound * length bytes

abbrev in_object : ℕ → ℕ → Place
in_object k size = record { object = k; block_size = size }

inside_near : (k size : ℕ) (change : Change) (rest : List Item) → IsInside size change → AreNear (in_object k size) rest → AreNear (in_object k size) (At k change ∷ rest)
inside_near k size (Put head bonus keep_spill max_block) rest is near = absurd is
inside_near k size (Spill bytes) rest is near = (tt, near)
inside_near k size (FreeFrom offset) rest is near = (tt, near)
inside_near k size (Free offset count) rest is near = (tt, near)
inside_near k size (Redact offset count) rest is near = ((refl, is), near)
inside_near k size (Write offset type bytes) rest is near = (is, near)

all_inside : (k size : ℕ) (changes : List Change) → All (IsInside size) changes → AreNear (in_object k size) (map (At k) changes)
all_inside k size [] all = tt
all_inside k size (change ∷ rest) all =
    inside_near k size change (map (At k) rest) (All-head (IsInside size) change rest all) (all_inside k size rest (All-tail (IsInside size) change rest all))

ends_near : (i size : ℕ) → i < index_bound → i * size + size ≤ index_bound * size
unfolding index_bound
ends_near i size below =
    let next : i + 1 ≤ 2 ^ 43 = omega arith in
    let places : (i + 1) * size ≤ 2 ^ 43 * size = mul-le-mul_right size next in
    omega (arith, places)

block_inside : (attr : Attr) (i : ℕ) (block : Option Block) → IfSome block (λ b. (i < index_bound) × BlockFits attr.block_size b) → All (IsInside attr.block_size) (block_change attr i block)
block_inside attr i None fits = All-nil (IsInside attr.block_size)
block_inside attr i (Some Hole) fits = All-cons (IsInside attr.block_size) (Free (i * attr.block_size) attr.block_size) [] tt (All-nil (IsInside attr.block_size))
block_inside attr i (Some Redacted) fits =
    All-cons (IsInside attr.block_size) (Redact (i * attr.block_size) attr.block_size) [] (ends_near i attr.block_size fits.0) (All-nil (IsInside attr.block_size))
block_inside attr i (Some (Data bytes)) fits =
    All-cons (IsInside attr.block_size) (Write (i * attr.block_size) attr.type_ bytes) []
    (subst (λ (n : ℕ). i * n + length bytes ≤ index_bound * length bytes) fits.1.0 (ends_near i (length bytes) fits.0)) (All-nil (IsInside attr.block_size))

blocks_inside : (object : ObjectView) (offset : ℕ) → ((i : ℕ) → IfSome (object.blocks i) (λ b. (i < index_bound) × BlockFits object.attr.block_size b))
    → All (IsInside object.attr.block_size) (block_changes object offset)
blocks_inside object offset fits = flat_map_all (IsInside object.attr.block_size) (change_at object offset) (rising 0 object.end) (λ i. go i (nat_le offset (i * object.attr.block_size)))
  where
    go : (i : ℕ) (t : Bool) → All (IsInside object.attr.block_size) (if t then block_change object.attr i (object.blocks i) else [])
    go i true = block_inside object.attr i (object.blocks i) (fits i)
    go i false = All-nil (IsInside object.attr.block_size)

spill_inside : (size : ℕ) (spill : Option (List ℕ)) → All (IsInside size) (spill_change spill)
spill_inside size None = All-nil (IsInside size)
spill_inside size (Some bytes) = All-cons (IsInside size) (Spill bytes) [] tt (All-nil (IsInside size))

-- ---- the items of one number

number_near : (k offset : ℕ) (shown : Shown) (place : Place) → IsShownNumber k shown → AreNear place (number_items k offset shown)
number_near k offset Left place is = tt
number_near k offset Gone place is = (tt, tt)
number_near k offset (There object) place is =
    let size = object.attr.block_size in
    let before_blocks = spill_change object.attr.spill ++ (tail_change object ∷ []) in (
      tt,
      all_inside k size (before_blocks ++ block_changes object offset)
          (All-append (IsInside size) before_blocks (block_changes object offset)
          (All-append (IsInside size) (spill_change object.attr.spill) (tail_change object ∷ []) (spill_inside size object.attr.spill) (All-cons (IsInside size) (tail_change object) [] tt (All-nil (IsInside size))))
          (blocks_inside object offset is.1.blocks)),
    )

pub items_near : ItemsAreNear
unfolding single_items
items_near header snap choice point place s =
    joined_near place (single_items (view_of header snap choice) point)
    (numbers_near (items_at (view_of header snap choice) point) (rising 1 (pred number_bound)) (λ k other. go k (nat_lt k point.object) other) place)
  where
    go : (k : ℕ) (t : Bool) (other : Place) → AreNear other (if t then [] else number_items k (if k == point.object then point.offset else 0) ((view_of header snap choice).shown k))
    go k true other = tt
    go k false other =
        number_near k (if k == point.object then point.offset else 0) ((view_of header snap choice).shown k) other (shown_in_ranges header snap choice s k)
