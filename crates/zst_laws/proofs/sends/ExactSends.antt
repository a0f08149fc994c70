-- A send gives exactly its snapshot.
use Rattle.std.proofs.Common.{inl, inr, ◌⊎◌, subst, ◌≡◌, ℕ, suc, pred, ◌*◌, ◌<◌, ◌≤◌, Bool, true, false, cond, Option, Some, None, Ok, option_map, unwrap_or, IfSome, refl, sym, ap, ◌∙◌, arith, ◌==◌, nat_lt, nat_le, if◌then◌else◌, mul-le-mul_right}
use Rattle.std.proofs.Math.Path.{fun_ext}
use Rattle.std.proofs.lemmas.Bool.{cases_lt, or_left, or_right, and_from, and_left, and_parts, true≢false, true_from_ne_false, false_from_ne_true, cond-true, cond-false, ltb-true, lt-ltb, le-ltb, le-leb, lt-leb}
use Rattle.std.proofs.lemmas.Bool.Decides.{nat_tests}
use Rattle.zst_model.specs.states.State.{no_objects, State, Block, Hole, Redacted, Data, Object, end_of, end_at, attr_at, content_at, BlockFits, IsObject, IsObjectOrNone, IsState, number_bound, index_bound, is_number}
use Rattle.zst_model.specs.declared.sends.header.Header.{Header}
use Rattle.zst_model.specs.states.AppliedItems.{within}
use Rattle.zst_model.specs.states.DatedState.{DatedState}
use Rattle.zst_model.specs.sends.Inclusion.{Choice, Pairs, is_after, includes_pair, includes_number}
use Rattle.zst_model.specs.sends.View.{View, Left, There, shown_block, object_view, shown_object, view_of, MayShow, IsShown}
use Rattle.zst_model.specs.sends.Items.{origin}
use Rattle.zst_model.proofs.Sizes.{size_of_lawful}
use Rattle.zst_model.specs.sends.Target.{redacted, redacted_object, MayRedact, CanRedact, BaseOk}
use Rattle.zst_model.proofs.BlockEnds.{past_bounded}
use Rattle.zst_model.proofs.IndexTests.{any_passes}
use Rattle.zst_model.proofs.ObjectNumbers.{absent_outside}
use Rattle.zst_laws.specs.Bases.{AnyIsFullBase}
use Rattle.zst_laws.specs.ExactSends.{RedactedIsState, SnapshotHasView, full, FullIsExact, SendIsExact}
use Rattle.zst_laws.proofs.sends.Fold.{swept}
use Rattle.zst_laws.proofs.sends.Blocks.{opened, block_from}
use Rattle.zst_laws.proofs.sends.Numbers.{made, made_from, items_apply}
use Rattle.zst_laws.proofs.sends.Ends.{past_end, number_range, same_content, kept_content}

-- a listed pair is below the end
data_below : (object : Object) (i : ℕ) → IsObject object → (object.blocks i ≡ Hole → ⊥) → i < end_of object
data_below object i o h = go (cases_lt i (end_of object)) (cases_lt i index_bound)
  where
    go : (i < end_of object) ⊎ (end_of object ≤ i) → (i < index_bound) ⊎ (index_bound ≤ i) → i < end_of object
    go (inl l) b = l
    go (inr g) (inl l) = absurd (h (past_end object.blocks index_bound i g l))
    go (inr g) (inr l) = absurd (h (o.bounded i l))

-- an index at or past the end is a hole
pub after_end : (object : Object) (i : ℕ) → IsObject object → end_of object ≤ i → object.blocks i ≡ Hole
after_end object i o g = go (cases_lt i index_bound)
  where
    go : (i < index_bound) ⊎ (index_bound ≤ i) → object.blocks i ≡ Hole
    go (inl l) = past_end object.blocks index_bound i g l
    go (inr l) = o.bounded i l

-- a number with an included pair is included
pub pair_number : (snap : DatedState) (choice : Choice) (k i : ℕ) → is_number k ≡ true → i < index_bound → includes_pair snap choice k i ≡ true → includes_number snap choice k ≡ true
unfolding includes_number
pair_number snap choice k i n l h =
    and_from (is_number k) _ n (or_right (is_after choice.from (snap.number_date k)) _
    (any_passes _ index_bound i l (or_left (includes_pair snap choice k i) _ h)))

pub outside_left : (snap : DatedState) (choice : Choice) (k : ℕ) → is_number k ≡ false → includes_number snap choice k ≡ false
unfolding includes_number
outside_left snap choice k n = and_left (is_number k) _ n

-- a listed pair below the end is included
listed_pair : (snap : DatedState) (choice : Choice) (k i : ℕ) → i < end_at (snap.state k) → choice.redact k i ≡ true → includes_pair snap choice k i ≡ true
listed_pair snap choice k i l h = and_from (nat_lt i (end_at (snap.state k))) _ (lt-ltb _ _ l) (or_right (is_after choice.from (snap.index_date k i)) _ (or_right (choice.source k i) (choice.redact k i) h))

pub place_below : (size i end : ℕ) → 0 < size → suc i * size ≤ end * size → i * size < end * size
place_below size i end pos m = grind arith

pub inside_range : (n i : ℕ) → i < n → within 0 n i ≡ true
inside_range n i l = grind (arith, nat_tests)

pub outside_range : (n i : ℕ) → n ≤ i → within 0 n i ≡ false
outside_range n i l = grind (arith, nat_tests)

pub below_bound : (o : Option Object) (i : ℕ) → i < end_at o → i < index_bound
below_bound None i l = omega arith
below_bound (Some object) i l = omega (arith, past_bounded object.blocks index_bound)

no_attr : (o : Option Object) → attr_at o ≡ None → o ≡ None
no_attr None e = refl
no_attr (Some object) e = absurd (cc)

-- where an object stands, its number is one that an object may have
pub number_there : (state : State) → IsState state → (k : ℕ) (object : Object) → state k ≡ Some object → is_number k ≡ true
number_there state s k object there = true_from_ne_false (is_number k) (λ outside. let none : state k ≡ None = absent_outside state s k outside in absurd (cc))

pub from_origin : (view : View) (k : ℕ) (o : Option Object) → made_from view origin k o ≡ made (view.shown k) 0 o
from_origin view k o =
    cond-false (nat_lt k 0) _ _ (le-ltb k 0 (omega arith)) ∙ ap (λ n. made (view.shown k) n o) (either (k == 0))
  where
    either : (t : Bool) → ◌≡◌ {A = ℕ} (cond t 0 0) 0
    either true = refl
    either false = refl

module _ (snap : DatedState) (choice : Choice) (k : ℕ) (object : Object) (stands : snap.state k ≡ Some object) (lawful : IsObject object) (may : MayRedact object (choice.redact k)) where
  at_end : end_at (snap.state k) ≡ end_of object
  at_end = ap end_at stands

  listed_below : (i : ℕ) → choice.redact k i ≡ true → i < end_of object
  listed_below i h =
      let found = may.listed i h in
      data_below object i lawful (λ e. let both : Hole ≡ Data found.1 = sym e ∙ found.2 in absurd (cc))

  listed_included : (i : ℕ) → includes_pair snap choice k i ≡ false → choice.redact k i ≡ false
  listed_included i h = false_from_ne_true _ (λ t. true≢false (sym (listed_pair snap choice k i (subst (λ n. i < n) (sym at_end) (listed_below i t)) t) ∙ h))

  opened_below : (base : Option Object) (i : ℕ) → IsObjectOrNone base → i < end_of object → content_at base i ≡ content_at (Some object) i → opened (object_view snap choice k object) base i ≡ object.blocks i
  opened_below base i b l same =
      let size = object.attr.block_size in
      let pos : 0 < size = size_of_lawful object lawful in
      let m : suc i * size ≤ end_of object * size = mul-le-mul_right size l in
      let less : i * size < end_of object * size = place_below size i (end_of object) pos m in
      cond-false (nat_le (end_of object * size) (i * size)) _ _ (lt-leb _ _ less) ∙ kept_content object base i same b lawful

  opened_past : (base : Option Object) (i : ℕ) → end_of object ≤ i → opened (object_view snap choice k object) base i ≡ Hole
  opened_past base i g = cond-true (nat_le (end_of object * object.attr.block_size) (i * object.attr.block_size)) _ _ (le-leb _ _ (mul-le-mul_right object.attr.block_size g))

  -- the object with the listed pairs redacted
  block_exact : (base : Option Object) (i : ℕ) → IsObjectOrNone base
      → (includes_pair snap choice k i ≡ false → i < end_of object → content_at base i ≡ content_at (Some object) i)
      → swept (block_from (object_view snap choice k object) 0) 0 (end_of object) (opened (object_view snap choice k object) base) i
      ≡ (if choice.redact k i then Redacted else object.blocks i)
  block_exact base i b same = go (cases_lt i (end_of object))
    where
      inside : i < end_of object → (t : Bool) → includes_pair snap choice k i ≡ t
          → unwrap_or (if t then Some (if choice.redact k i then Redacted else object.blocks i) else None) (opened (object_view snap choice k object) base i)
          ≡ (if choice.redact k i then Redacted else object.blocks i)
      inside l true e = refl
      inside l false e =
          opened_below base i b l (same e l) ∙ sym (cond-false (choice.redact k i) Redacted (object.blocks i) (listed_included i e))

      unlisted : end_of object ≤ i → choice.redact k i ≡ false
      unlisted g = false_from_ne_true _ (λ t. let l : i < end_of object = listed_below i t in omega arith)

      go : (i < end_of object) ⊎ (end_of object ≤ i)
          → swept (block_from (object_view snap choice k object) 0) 0 (end_of object) (opened (object_view snap choice k object) base) i
          ≡ (if choice.redact k i then Redacted else object.blocks i)
      go (inl l) =
          cond-true (within 0 (end_of object) i) _ _ (inside_range (end_of object) i l)
          ∙ cond-true (nat_le 0 (i * object.attr.block_size)) _ _ (le-leb 0 _ (omega arith))
          ∙ inside l (includes_pair snap choice k i) refl
      go (inr g) =
          cond-false (within 0 (end_of object) i) _ _ (outside_range (end_of object) i g)
          ∙ opened_past base i g
          ∙ sym (cond-false (choice.redact k i) Redacted (object.blocks i) (unlisted g) ∙ after_end object i lawful g)

  object_exact : (base : Option Object) → IsObjectOrNone base
      → ((i : ℕ) → includes_pair snap choice k i ≡ false → i < end_of object → content_at base i ≡ content_at (Some object) i)
      → made (shown_object snap choice k (Some object)) 0 base ≡ Some (redacted_object (choice.redact k) object)
  object_exact base b same = ap (λ f. Some (record { attr = object.attr; blocks = f })) (fun_ext (λ i. block_exact base i b (same i)))

  -- where the number is not included, the base has the object
  left_exact : (base : Option Object) → IsObjectOrNone base → attr_at base ≡ Some object.attr
      → ((i : ℕ) → includes_pair snap choice k i ≡ false) → ((i : ℕ) → content_at base i ≡ content_at (Some object) i)
      → base ≡ Some (redacted_object (choice.redact k) object)
  left_exact None b e none same = absurd (cc)
  left_exact (Some old) b e none same =
      let attrs : old.attr ≡ object.attr = cc in
      let blocks : old.blocks ≡ (λ i. if choice.redact k i then Redacted else object.blocks i) = fun_ext (λ i.
      (same_content _ _ (old.blocks i) (object.blocks i) (same i) (b.fits i) (lawful.fits i)).0
      ∙ sym (cond-false (choice.redact k i) Redacted (object.blocks i) (listed_included i (none i)))) in
      λ p. Some (record { attr = attrs p; blocks = blocks p })

  may_show_block : (i : ℕ) (block : Block) → object.blocks i ≡ block → MayShow object.attr i block
  may_show_block i Hole e = tt
  may_show_block i Redacted e = (may.redacted i e, λ l. false_from_ne_true _ (λ t. let both : Redacted ≡ Hole = sym e ∙ lawful.odd i l t in absurd (cc)))
  may_show_block i (Data bytes) e = (
    (subst (BlockFits object.attr.block_size) e (lawful.fits i)).0,
    λ l. false_from_ne_true _ (λ t. let both : Data bytes ≡ Hole = sym e ∙ lawful.odd i l t in absurd (cc)),
  )

  may_show : (i : ℕ) → IfSome (shown_block snap choice k object i) (MayShow object.attr i)
  may_show i = go (includes_pair snap choice k i) (choice.redact k i) refl
    where
      go : (t u : Bool) → choice.redact k i ≡ u → IfSome (if t then Some (if u then Redacted else object.blocks i) else None) (MayShow object.attr i)
      go false u e = tt
      go true false e = may_show_block i (object.blocks i) refl
      go true true e =
          let found = may.listed i e in
          (found.0, λ l. false_from_ne_true _ (λ t. let both : Data found.1 ≡ Hole = sym found.2 ∙ lawful.odd i l t in absurd (cc)))

  object_shown : IsShown (There (object_view snap choice k object))
  object_shown = (size_of_lawful object lawful, λ i l. may_show i)

-- the view of a lawful snapshot can be sent
pub view_is_view : SnapshotHasView
view_is_view header snap choice lawful can = record {
  outside = λ k n. ap (λ t. if t then shown_object snap choice k (snap.state k) else Left) (outside_left snap choice k n);
  inside = λ k. go k (includes_number snap choice k) (snap.state k) refl;
}
  where
    go : (k : ℕ) (t : Bool) (o : Option Object) → snap.state k ≡ o → IsShown (if t then shown_object snap choice k o else Left)
    go k false o e = tt
    go k true None e = tt
    go k true (Some object) e = object_shown snap choice k object e (subst IsObjectOrNone e (lawful.objects k)) (can k object e)

number_exact : (base : State) (header : Header) (snap : DatedState) (choice : Choice) → IsState base → IsState snap.state → CanRedact snap.state choice.redact → BaseOk base snap choice
    → (k : ℕ) → is_number k ≡ true → made ((view_of header snap choice).shown k) 0 (base k) ≡ redacted snap.state choice.redact k
number_exact base header snap choice b lawful can ok k n = go (includes_number snap choice k) refl (snap.state k) refl
  where
    unpaired : includes_number snap choice k ≡ false → (i : ℕ) → includes_pair snap choice k i ≡ false
    unpaired e i = false_from_ne_true _ (λ t.
        let below = (and_parts (nat_lt i (end_at (snap.state k))) _ t).0 in
        true≢false (sym (pair_number snap choice k i n (below_bound (snap.state k) i (ltb-true _ _ below)) t) ∙ e))

    go : (t : Bool) → includes_number snap choice k ≡ t → (o : Option Object) → snap.state k ≡ o
        → made (if t then shown_object snap choice k o else Left) 0 (base k) ≡ option_map (redacted_object (choice.redact k)) o
    go true e None s = refl
    go true e (Some object) s =
        object_exact snap choice k object s (subst IsObjectOrNone s (lawful.objects k)) (can k object s) (base k) (b.objects k)
        (λ i p l. ok.pairs k i p (λ _. subst (λ o. i < end_at o) (sym s) l) ∙ ap (λ o. content_at o i) s)
    go false e None s = no_attr (base k) (ok.numbers k e ∙ ap attr_at s)
    go false e (Some object) s =
        left_exact snap choice k object s (subst IsObjectOrNone s (lawful.objects k)) (can k object s) (base k) (b.objects k)
        (ok.numbers k e ∙ ap attr_at s) (unpaired e)
        (λ i. ok.pairs k i (unpaired e i) (λ t. absurd (true≢false (sym t ∙ e))) ∙ ap (λ o. content_at o i) s)

pub send_exact : SendIsExact
send_exact base header snap choice b lawful can ok =
    items_apply (view_of header snap choice) origin base (view_is_view header snap choice lawful can)
    ∙ ap (λ f. Ok f) (fun_ext (λ k. go k (is_number k) refl))
  where
    go : (k : ℕ) (t : Bool) → is_number k ≡ t → swept (made_from (view_of header snap choice) origin) 1 (pred number_bound) base k ≡ redacted snap.state choice.redact k
    go k true e =
        cond-true (within 1 (pred number_bound) k) _ _ (number_range number_bound k ∙ e)
        ∙ from_origin (view_of header snap choice) k (base k)
        ∙ number_exact base header snap choice b lawful can ok k e
    go k false e =
        cond-false (within 1 (pred number_bound) k) _ _ (number_range number_bound k ∙ e)
        ∙ absent_outside base b k e
        ∙ sym (ap (option_map (redacted_object (choice.redact k))) (absent_outside snap.state lawful k e))

-- a full stream includes each number, and each pair below an end
full_pair : (snap : DatedState) (redact : Pairs) (k i : ℕ) → includes_pair snap (full redact) k i ≡ false → end_at (snap.state k) ≤ i
full_pair snap redact k i e = go (cases_lt i (end_at (snap.state k)))
  where
    go : (i < end_at (snap.state k)) ⊎ (end_at (snap.state k) ≤ i) → end_at (snap.state k) ≤ i
    go (inl l) = absurd (true≢false (sym (and_from (nat_lt i (end_at (snap.state k))) _ (lt-ltb _ _ l) refl) ∙ e))
    go (inr g) = g

pub full_number : (snap : DatedState) (redact : Pairs) (k : ℕ) → (t : Bool) → is_number k ≡ t → includes_number snap (full redact) k ≡ t
unfolding includes_number
full_number snap redact k true n = and_from (is_number k) _ n refl
full_number snap redact k false n = and_left (is_number k) _ n

-- so that each state is fit as its base
pub full_base : AnyIsFullBase
full_base base snap redact b lawful = record { numbers = λ k e. numbers k e (is_number k) refl; pairs = λ k i p q. pairs k i p q (is_number k) refl }
  where
    numbers : (k : ℕ) → includes_number snap (full redact) k ≡ false → (t : Bool) → is_number k ≡ t → attr_at (base k) ≡ attr_at (snap.state k)
    numbers k e true n = absurd (true≢false (sym (full_number snap redact k true n) ∙ e))
    numbers k e false n = ap attr_at (absent_outside base b k n ∙ sym (absent_outside snap.state lawful k n))

    pairs : (k i : ℕ) → includes_pair snap (full redact) k i ≡ false → (includes_number snap (full redact) k ≡ true → i < end_at (snap.state k))
        → (t : Bool) → is_number k ≡ t → content_at (base k) i ≡ content_at (snap.state k) i
    pairs k i p q true n =
        let past : end_at (snap.state k) ≤ i = full_pair snap redact k i p in
        let before : i < end_at (snap.state k) = q (full_number snap redact k true n) in
        absurd (omega arith)
    pairs k i p q false n = ap (λ o. content_at o i) (absent_outside base b k n ∙ sym (absent_outside snap.state lawful k n))

nothing_lawful : IsState no_objects
nothing_lawful = record { zero = refl; bounded = λ k l. refl; objects = λ k. tt }

pub full_exact : FullIsExact
full_exact header snap redact lawful can = send_exact no_objects header snap (full redact) nothing_lawful lawful can (full_base no_objects snap redact nothing_lawful lawful)

-- a redacted object is lawful
redacted_object_lawful : (object : Object) (pairs : ℕ → Bool) → IsObject object → MayRedact object pairs → IsObject (redacted_object pairs object)
redacted_object_lawful object pairs o may = record {
  attr = o.attr;
  fits = λ i. fits i (pairs i);
  odd = λ i l t. cond-false (pairs i) Redacted (object.blocks i) (unlisted i (o.odd i l t)) ∙ o.odd i l t;
  bounded = λ i l. cond-false (pairs i) Redacted (object.blocks i) (unlisted i (o.bounded i l)) ∙ o.bounded i l;
}
  where
    fits : (i : ℕ) (t : Bool) → BlockFits object.attr.block_size (if t then Redacted else object.blocks i)
    fits i true = tt
    fits i false = o.fits i

    unlisted : (i : ℕ) → object.blocks i ≡ Hole → pairs i ≡ false
    unlisted i h = false_from_ne_true _ (λ t.
        let found = may.listed i t in
        let both : Data found.1 ≡ Hole = sym found.2 ∙ h in absurd (cc))

pub redacted_lawful : RedactedIsState
redacted_lawful state pairs s can = record {
  zero = ap (option_map (redacted_object (pairs 0))) s.zero;
  bounded = λ k l. ap (option_map (redacted_object (pairs k))) (s.bounded k l);
  objects = λ k. go k (state k) refl;
}
  where
    go : (k : ℕ) (o : Option Object) → state k ≡ o → IsObjectOrNone (option_map (redacted_object (pairs k)) o)
    go k None e = tt
    go k (Some object) e = redacted_object_lawful object (pairs k) (subst IsObjectOrNone e (s.objects k)) (can k object e)
