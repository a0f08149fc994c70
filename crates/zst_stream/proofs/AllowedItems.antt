-- What a stream may have: every item where it has REDACTED, and else what no redaction touches.
use Rattle.std.proofs.Common.{◌≡◌, inl, inr, ℕ, ◌+◌, ◌*◌, Bool, true, false, not, List, [], ◌∷◌, ◌++◌, Option, Some, None, option_map, bit_and, refl, subst, ◌==◌, nat_le, if◌then◌else◌}
use Rattle.std.specs.List.{All}
use Rattle.std.proofs.lemmas.List.Elements.{All-nil, All-cons, All-append, All-map, All-weaker}
use Rattle.zst_model.specs.declared.sends.header.Header.{Header}
use Rattle.zst_model.specs.declared.sends.header.Point.{Point}
use Rattle.zst_model.specs.declared.states.attr.Attr.{Attr}
use Rattle.zst_model.specs.declared.states.item.Change.{Change}
use Rattle.zst_model.specs.declared.states.item.Change.TheVariants.{Put, Spill, FreeFrom, Free, Redact, Write}
use Rattle.zst_model.specs.declared.states.item.Item.{Item}
use Rattle.zst_model.specs.declared.states.item.Item.TheVariants.{FreeObjects, At}
use Rattle.zst_model.specs.states.State.{Block, Hole, Redacted, Data, Object}
use Rattle.zst_model.specs.states.DatedState.{DatedState}
use Rattle.zst_model.specs.sends.Features.{redacts}
use Rattle.zst_model.specs.sends.Inclusion.{Choice, includes_pair, includes_number}
use Rattle.zst_model.specs.sends.View.{ObjectView, Shown, Left, Gone, There, shown_block, shown_object, view_of}
use Rattle.zst_model.specs.sends.Items.{rising, block_change, change_at, block_changes, spill_change, opening, number_items, join_changes, join, items}
use Rattle.zst_stream.specs.Records.{AllowsChange, Allows}
use Rattle.zst_stream.specs.Items.{IsUnredacted, SentIsAllowed}
use Rattle.zst_stream.proofs.CarriedItems.{flat_map_all, items_all}

-- ---- what is joined is allowed where its parts are

join_changes_allowed : (features : ℕ) (x y z : Change) → join_changes x y ≡ Some z → AllowsChange features x → AllowsChange features z
join_changes_allowed features (Free o m) (Free p n) z e f = go (o + m == p) e
  where
    go : (t : Bool) → (if t then Some (Free o (m + n)) else None) ≡ Some z → AllowsChange features z
    go true h = let same : Free o (m + n) ≡ z = cc in subst (AllowsChange features) same tt
    go false h = absurd (cc)
join_changes_allowed features (Redact o m) (Redact p n) z e f = go (o + m == p) e
  where
    go : (t : Bool) → (if t then Some (Redact o (m + n)) else None) ≡ Some z → AllowsChange features z
    go true h = let same : Redact o (m + n) ≡ z = cc in subst (AllowsChange features) same f
    go false h = absurd (cc)
join_changes_allowed features x y z e f = absurd (cc)

join_allowed : (features : ℕ) (x y z : Item) → join x y ≡ Some z → Allows features x → Allows features y → Allows features z
join_allowed features (FreeObjects first m) (FreeObjects next n) z e f g = go (first + m == next) e
  where
    go : (t : Bool) → (if t then Some (FreeObjects first (m + n)) else None) ≡ Some z → Allows features z
    go true h = let same : FreeObjects first (m + n) ≡ z = cc in subst (Allows features) same tt
    go false h = absurd (cc)
join_allowed features (At k c) (At j d) z e f g = go (k == j) (join_changes c d) refl e
  where
    go : (t : Bool) (both : Option Change) → join_changes c d ≡ both → (if t then option_map (At k) both else None) ≡ Some z → Allows features z
    go true None at h = absurd (cc)
    go true (Some change) at h = let same : At k change ≡ z = cc in subst (Allows features) same (join_changes_allowed features c d change at f)
    go false both at h = absurd (cc)
join_allowed features (FreeObjects first m) (At j d) z e f g = absurd (cc)
join_allowed features (At k c) (FreeObjects next n) z e f g = absurd (cc)

-- ---- what is shown has no redacted block

abbrev IsPlain : Option Block → Type 0
IsPlain None = Unit {0}
IsPlain (Some Hole) = Unit {0}
IsPlain (Some Redacted) = ⊥
IsPlain (Some (Data bytes)) = Unit {0}

block_allowed : (features : ℕ) (attr : Attr) (i : ℕ) (block : Option Block) → IsPlain block → All (AllowsChange features) (block_change attr i block)
block_allowed features attr i None is = All-nil (AllowsChange features)
block_allowed features attr i (Some Hole) is = All-cons (AllowsChange features) (Free (i * attr.block_size) attr.block_size) [] tt (All-nil (AllowsChange features))
block_allowed features attr i (Some Redacted) is = absurd is
block_allowed features attr i (Some (Data bytes)) is = All-cons (AllowsChange features) (Write (i * attr.block_size) attr.type_ bytes) [] tt (All-nil (AllowsChange features))

changes_allowed : (features : ℕ) (object : ObjectView) (offset : ℕ) → ((i : ℕ) → IsPlain (object.blocks i)) → All (AllowsChange features) (block_changes object offset)
changes_allowed features object offset plain =
    flat_map_all (AllowsChange features) (change_at object offset) (rising 0 object.end) (λ i. go i (nat_le offset (i * object.attr.block_size)))
  where
    go : (i : ℕ) (t : Bool) → All (AllowsChange features) (if t then block_change object.attr i (object.blocks i) else [])
    go i true = block_allowed features object.attr i (object.blocks i) (plain i)
    go i false = All-nil (AllowsChange features)

spill_allowed : (features : ℕ) (spill : Option (List ℕ)) → All (AllowsChange features) (spill_change spill)
spill_allowed features None = All-nil (AllowsChange features)
spill_allowed features (Some bytes) = All-cons (AllowsChange features) (Spill bytes) [] tt (All-nil (AllowsChange features))

opening_allowed : (features : ℕ) (object : ObjectView) → All (AllowsChange features) (opening object)
opening_allowed features object =
    All-cons (AllowsChange features) _ _ tt
    (All-append (AllowsChange features) (spill_change object.attr.spill) _ (spill_allowed features object.attr.spill)
    (All-cons (AllowsChange features) _ [] tt (All-nil (AllowsChange features))))

abbrev IsPlainShown : Shown → Type 0
IsPlainShown Left = Unit {0}
IsPlainShown Gone = Unit {0}
IsPlainShown (There object) = (i : ℕ) → IsPlain (object.blocks i)

number_allowed : (features k offset : ℕ) (shown : Shown) → IsPlainShown shown → All (Allows features) (number_items k offset shown)
number_allowed features k offset Left plain = All-nil (Allows features)
number_allowed features k offset Gone plain = All-cons (Allows features) (FreeObjects k 1) [] tt (All-nil (Allows features))
number_allowed features k offset (There object) plain =
    All-map (Allows features) (At k) (opening object ++ block_changes object offset)
    (All-weaker (AllowsChange features) (λ c. Allows features (At k c)) (λ c h. h) (opening object ++ block_changes object offset)
    (All-append (AllowsChange features) (opening object) (block_changes object offset) (opening_allowed features object) (changes_allowed features object offset plain)))

-- ---- a snapshot without redacted blocks, of which none is to be redacted

plain_block : (snap : DatedState) (choice : Choice) (k i : ℕ) (object : Object) → (object.blocks i ≡ Redacted → ⊥) → choice.redact k i ≡ false
    → IsPlain (shown_block snap choice k object i)
plain_block snap choice k i object whole none = go (includes_pair snap choice k i)
  where
    kept : (b : Block) → object.blocks i ≡ b → IsPlain (Some b)
    kept Hole e = tt
    kept Redacted e = absurd (whole e)
    kept (Data bytes) e = tt

    shown : (t : Bool) → t ≡ false → IsPlain (Some (if t then Redacted else object.blocks i))
    shown true e = absurd (cc)
    shown false e = kept (object.blocks i) refl

    go : (t : Bool) → IsPlain (if t then Some (if choice.redact k i then Redacted else object.blocks i) else None)
    go true = shown (choice.redact k i) none
    go false = tt

pub plain_allowed : (features : ℕ) (header : Header) (snap : DatedState) (choice : Choice) (point : Point) → IsUnredacted snap.state → ((k i : ℕ) → choice.redact k i ≡ false)
    → All (Allows features) (items (view_of header snap choice) point)
plain_allowed features header snap choice point whole none =
    items_all (Allows features) (join_allowed features) (view_of header snap choice) point
    (λ k offset. number_allowed features k offset ((view_of header snap choice).shown k) (shown k (includes_number snap choice k) (snap.state k) refl))
  where
    shown : (k : ℕ) (t : Bool) (o : Option Object) → snap.state k ≡ o → IsPlainShown (if t then shown_object snap choice k o else Left)
    shown k false o e = tt
    shown k true None e = tt
    shown k true (Some object) e = λ i. plain_block snap choice k i object (λ r. whole k i object e r) (none k i)

-- ---- a stream that may have REDACT

item_allowed : (features : ℕ) → not (bit_and features redacts == 0) ≡ true → (item : Item) → Allows features item
item_allowed features may (FreeObjects first count) = tt
item_allowed features may (At k (Put head bonus keep_spill max_block)) = tt
item_allowed features may (At k (Spill bytes)) = tt
item_allowed features may (At k (FreeFrom offset)) = tt
item_allowed features may (At k (Free offset count)) = tt
item_allowed features may (At k (Redact offset count)) = may
item_allowed features may (At k (Write offset type bytes)) = tt

all_allowed : (features : ℕ) → not (bit_and features redacts == 0) ≡ true → (list : List Item) → All (Allows features) list
all_allowed features may [] = All-nil (Allows features)
all_allowed features may (item ∷ rest) = All-cons (Allows features) item rest (item_allowed features may item) (all_allowed features may rest)

pub sent_allowed : SentIsAllowed
sent_allowed features header snap choice point (inl may) = all_allowed features may (items (view_of header snap choice) point)
sent_allowed features header snap choice point (inr plain) = plain_allowed features header snap choice point plain.0 plain.1
