-- Further laws of views.
use Rattle.std.proofs.Common.{inl, inr, ◌⊎◌, ◌≡◌, ℕ, zero, suc, ◌<◌, ◌≤◌, Bool, true, false, List, [], ◌∷◌, Option, Some, None, option_map, refl, sym, ap, ◌∙◌, arith, nat_lt, nat_le, ◌&&◌, ◌||◌, if◌then◌else◌}
use Rattle.std.proofs.Math.Path.{fun_ext}
use Rattle.std.proofs.lemmas.Bool.{cases_lt, true≢false, and_from, or_left, or_right, cond-false, lt-ltb, le-leb, ltb-false, false_from_ne_true}
use Rattle.zst_model.specs.states.State.{Object, Block, Redacted, is_hole, past_last, end_of, end_at, attr_at, content_at, block_content, IsObjectOrNone, index_bound, is_number}
use Rattle.zst_model.specs.declared.states.item.Item.{Item}
use Rattle.zst_model.specs.states.DatedState.{DatedState}
use Rattle.zst_model.specs.sends.Inclusion.{Choice, is_after, includes_pair, includes_number, any_below}
use Rattle.zst_model.specs.sends.View.{Left, There, shown_block, shown_object}
use Rattle.zst_model.specs.sends.Items.{join, joined, before, before_item, single_items}
use Rattle.zst_model.specs.sends.Target.{redacted_object}
use Rattle.zst_model.proofs.IndexTests.{any_passes}
use Rattle.zst_model.proofs.ObjectNumbers.{absent_outside}
use Rattle.zst_laws.specs.JoinedRuns.{NoneJoin, RunsAreMaximal, HeldGoesOn}
use Rattle.zst_laws.specs.ExactSends.{DifferAt, ViewsAgree}
use Rattle.zst_laws.specs.Bases.{RedactedIsBase, BeforeIsBase}
use Rattle.zst_laws.proofs.sends.Writer.{join_stop, before-joined, before-apart}

none_before : (x : Item) (ys : List Item) → NoneJoin ys → NoneJoin (before x ys)
none_before x [] n = tt
none_before x (y ∷ []) n = go (join x y) refl
  where
    go : (o : Option Item) → join x y ≡ o → NoneJoin (before_item x o y [])
    go (Some z) e = tt
    go None e = (e, tt)
none_before x (y ∷ w ∷ ys) n = go (join x y) refl
  where
    go : (o : Option Item) → join x y ≡ o → NoneJoin (before_item x o y (w ∷ ys))
    go (Some z) e = (join_stop x y w z e n.0, n.1)
    go None e = (e, n)

none_join : (xs : List Item) → NoneJoin (joined xs)
none_join [] = tt
none_join (x ∷ xs) = none_before x (joined xs) (none_join xs)

pub runs_maximal : RunsAreMaximal
runs_maximal view point = none_join (single_items view point)

pub held_on : HeldGoesOn
held_on held next rest = ((λ both e. before-joined held next both (joined rest) e), (λ e. before-apart held next (joined rest) e))

not_after : (number date : ℕ) → is_after (Some number) date ≡ false → date ≤ number
not_after number date e = ltb-false number date e

-- a pair below the end that is not included is not dated after
pair_after : (snap : DatedState) (choice : Choice) (k i : ℕ) → includes_pair snap choice k i ≡ false → i < end_at (snap.state k) → is_after choice.from (snap.index_date k i) ≡ false
pair_after snap choice k i p l = false_from_ne_true _ (λ t. true≢false
    (sym (and_from (nat_lt i (end_at (snap.state k))) _ (lt-ltb _ _ l) (or_left (is_after choice.from (snap.index_date k i)) (choice.source k i || choice.redact k i) t)) ∙ p))

-- nor is a later index of a number that is not included
late_after : (snap : DatedState) (choice : Choice) (k i : ℕ) → is_number k ≡ true → includes_number snap choice k ≡ false → i < index_bound → end_at (snap.state k) ≤ i → is_after choice.from (snap.index_date k i) ≡ false
unfolding includes_number
late_after snap choice k i n e l g = false_from_ne_true _ (λ t. true≢false
    (sym (and_from (is_number k) _ n (or_right (is_after choice.from (snap.number_date k)) _
    (any_passes _ index_bound i l (or_right (includes_pair snap choice k i) _ (and_from (nat_le (end_at (snap.state k)) i) _ (le-leb _ _ g) t))))) ∙ e))

number_after : (snap : DatedState) (choice : Choice) (k : ℕ) → is_number k ≡ true → includes_number snap choice k ≡ false → is_after choice.from (snap.number_date k) ≡ false
unfolding includes_number
number_after snap choice k n e = false_from_ne_true _ (λ t. true≢false (sym (and_from (is_number k) _ n (or_left (is_after choice.from (snap.number_date k)) _ t)) ∙ e))

far_content : (o : Option Object) (i : ℕ) → IsObjectOrNone o → index_bound ≤ i → content_at o i ≡ content_at None i
far_content None i s g = refl
far_content (Some object) i s g = ap (λ b. block_content object.attr.block_size b) (s.bounded i g)

-- a snapshot that stands before is fit as a base
pub before_base : BeforeIsBase
before_base base snap number source redact b s h = record {
  numbers = λ k e. numbers k e (is_number k) refl;
  pairs = λ k i p q. pairs k i p q (is_number k) refl (cases_lt i index_bound);
}
  where
    choice : Choice
    choice = record { from = Some number; source = source; redact = redact }

    numbers : (k : ℕ) → includes_number snap choice k ≡ false → (t : Bool) → is_number k ≡ t → attr_at (base k) ≡ attr_at (snap.state k)
    numbers k e true n = h.numbers k n (not_after number (snap.number_date k) (number_after snap choice k n e))
    numbers k e false n = ap attr_at (absent_outside base b k n ∙ sym (absent_outside snap.state s k n))

    dated : (k i : ℕ) → includes_pair snap choice k i ≡ false → is_number k ≡ true → i < index_bound → (includes_number snap choice k ≡ true → i < end_at (snap.state k))
        → (t : Bool) → includes_number snap choice k ≡ t → (i < end_at (snap.state k)) ⊎ (end_at (snap.state k) ≤ i) → is_after choice.from (snap.index_date k i) ≡ false
    dated k i p n l q t e (inl m) = pair_after snap choice k i p m
    dated k i p n l q true e (inr g) = pair_after snap choice k i p (q e)
    dated k i p n l q false e (inr g) = late_after snap choice k i n e l g

    pairs : (k i : ℕ) → includes_pair snap choice k i ≡ false → (includes_number snap choice k ≡ true → i < end_at (snap.state k))
        → (t : Bool) → is_number k ≡ t → (i < index_bound) ⊎ (index_bound ≤ i) → content_at (base k) i ≡ content_at (snap.state k) i
    pairs k i p q false n l = ap (λ o. content_at o i) (absent_outside base b k n ∙ sym (absent_outside snap.state s k n))
    pairs k i p q true n (inr g) = far_content (base k) i (b.objects k) g ∙ sym (far_content (snap.state k) i (s.objects k) g)
    pairs k i p q true n (inl l) =
        h.indices k i n l (not_after number (snap.index_date k i)
        (dated k i p n l q (includes_number snap choice k) refl (cases_lt i (end_at (snap.state k)))))

-- the content of an index whose pair is not redacted is as before
pub kept_beside : (o : Option Object) (pairs : ℕ → Bool) (i : ℕ) → pairs i ≡ false → content_at (option_map (redacted_object pairs) o) i ≡ content_at o i
kept_beside None pairs i e = refl
kept_beside (Some object) pairs i e = ap (block_content object.attr.block_size) (cond-false (pairs i) Redacted (object.blocks i) e)

pub attr_beside : (o : Option Object) (pairs : ℕ → Bool) → attr_at (option_map (redacted_object pairs) o) ≡ attr_at o
attr_beside None pairs = refl
attr_beside (Some object) pairs = refl

pub redacted_base : RedactedIsBase
redacted_base base snap choice pairs ok anew = record {
  numbers = λ k e. attr_beside (base k) (pairs k) ∙ ok.numbers k e;
  pairs = λ k i p q. kept_beside (base k) (pairs k) i (unlisted k i p q) ∙ ok.pairs k i p q;
}
  where
    unlisted : (k i : ℕ) → includes_pair snap choice k i ≡ false → (includes_number snap choice k ≡ true → i < end_at (snap.state k)) → pairs k i ≡ false
    unlisted k i p q = false_from_ne_true _ (λ t. go (anew k i t))
      where
        go : (includes_pair snap choice k i ≡ true) ⊎ ((includes_number snap choice k ≡ true) × (end_at (snap.state k) ≤ i)) → ⊥
        go (inl e) = true≢false (sym e ∙ p)
        go (inr (e, g)) = let l : i < end_at (snap.state k) = q e in omega arith

-- ends depend on the holes alone
past_same : (f g : ℕ → Block) (n : ℕ) → ((i : ℕ) → is_hole (f i) ≡ is_hole (g i)) → past_last f n ≡ past_last g n
unfolding past_last
past_same f g zero h = refl
past_same f g (suc n) h = ap (λ t. if t then past_last f n else suc n) (h n) ∙ ap (λ m. if is_hole (g n) then m else suc n) (past_same f g n h)

holes_same : (pairs : ℕ → Bool) (f g : ℕ → Block) → ((i : ℕ) → pairs i ≡ false → f i ≡ g i) → ((i : ℕ) → pairs i ≡ true → is_hole (f i) ≡ is_hole (g i)) → (i : ℕ) → is_hole (f i) ≡ is_hole (g i)
holes_same pairs f g same holes i = go (pairs i) refl
  where
    go : (t : Bool) → pairs i ≡ t → is_hole (f i) ≡ is_hole (g i)
    go true e = holes i e
    go false e = ap is_hole (same i e)

ends_same : (pairs : ℕ → Bool) (a b : Option Object) → DifferAt pairs a b → end_at a ≡ end_at b
ends_same pairs None None d = refl
ends_same pairs None (Some b) d = absurd d
ends_same pairs (Some a) None d = absurd d
ends_same pairs (Some a) (Some b) d = past_same a.blocks b.blocks index_bound (holes_same pairs a.blocks b.blocks d.1 d.2)

module _ (a b : DatedState) (choice : Choice) (numbers : a.number_date ≡ b.number_date) (indices : a.index_date ≡ b.index_date) (d : (k : ℕ) → DifferAt (choice.redact k) (a.state k) (b.state k)) where
  ends : (k : ℕ) → end_at (a.state k) ≡ end_at (b.state k)
  ends k = ends_same (choice.redact k) (a.state k) (b.state k) (d k)

  pair_same : (k i : ℕ) → includes_pair a choice k i ≡ includes_pair b choice k i
  pair_same k i =
      ap (λ n. nat_lt i n && (is_after choice.from (a.index_date k i) || (choice.source k i || choice.redact k i))) (ends k)
      ∙ ap (λ f. nat_lt i (end_at (b.state k)) && (is_after choice.from (f k i) || (choice.source k i || choice.redact k i))) indices

  number_same : (k : ℕ) → includes_number a choice k ≡ includes_number b choice k
  unfolding includes_number
  number_same k =
      ap (λ f. is_number k && (is_after choice.from (f k) || any_below (λ i. includes_pair a choice k i || (nat_le (end_at (a.state k)) i && is_after choice.from (a.index_date k i))) index_bound)) numbers
      ∙ ap (λ t. is_number k && (is_after choice.from (b.number_date k) || any_below t index_bound)) (fun_ext (λ i.
      ap (λ p. p || (nat_le (end_at (a.state k)) i && is_after choice.from (a.index_date k i))) (pair_same k i)
      ∙ ap (λ n. includes_pair b choice k i || (nat_le n i && is_after choice.from (a.index_date k i))) (ends k)
      ∙ ap (λ f. includes_pair b choice k i || (nat_le (end_at (b.state k)) i && is_after choice.from (f k i))) indices))

  block_same : (k i : ℕ) (f g : Block) → (choice.redact k i ≡ false → f ≡ g) → (if choice.redact k i then Redacted else f) ≡ (if choice.redact k i then Redacted else g)
  block_same k i f g h = go (choice.redact k i) refl
    where
      go : (t : Bool) → choice.redact k i ≡ t → (if t then Redacted else f) ≡ (if t then Redacted else g)
      go true e = refl
      go false e = h e

  shown_same : (k : ℕ) (x y : Option Object) → a.state k ≡ x → b.state k ≡ y → DifferAt (choice.redact k) x y → shown_object a choice k x ≡ shown_object b choice k y
  shown_same k None None e f h = refl
  shown_same k None (Some y) e f h = absurd h
  shown_same k (Some x) None e f h = absurd h
  shown_same k (Some x) (Some y) e f h =
      let end : end_of x ≡ end_of y = ends_same (choice.redact k) (Some x) (Some y) h in
      let blocks : shown_block a choice k x ≡ shown_block b choice k y = fun_ext (λ i.
      ap (λ t. if t then Some (if choice.redact k i then Redacted else x.blocks i) else None) (pair_same k i)
      ∙ ap (λ z. if includes_pair b choice k i then Some z else None) (block_same k i (x.blocks i) (y.blocks i) (h.1 i))) in
      λ p. There (record { attr = h.0 p; end = end p; blocks = blocks p })

pub views_same : ViewsAgree
views_same header a b choice numbers indices d = ap (λ f. record { header = header; shown = f }) (fun_ext (λ k.
    ap (λ t. if t then shown_object a choice k (a.state k) else Left) (number_same a b choice numbers indices d k)
    ∙ ap (λ s. if includes_number b choice k then s else Left) (shown_same a b choice numbers indices d k (a.state k) (b.state k) refl refl (d k))))
