-- A send that is cut leaves what stands for its point.
use Rattle.std.proofs.Common.{⊎_elim, append-nil, zero-add, add-one, min, inl, inr, ◌⊎◌, subst, ◌≡◌, ℕ, zero, suc, pred, ◌+◌, ◌*◌, ◌<◌, ◌≤◌, true, false, List, [], ◌∷◌, ◌++◌, length, flat_map, map, Option, Some, None, Ok, option_map, refl, sym, ap, ◌∙◌, arith, ◌==◌, nat_lt, nat_le, if◌then◌else◌, mul-le-mul_right, eq-eqb, ne_eqb, eqb-true}
use Rattle.std.proofs.Math.Nat.{min-eq_left}
use Rattle.std.proofs.lemmas.Bool.{cases_lt, cases_order, cond-true, cond-false, lt-ltb, le-ltb, lt-leb}
use Rattle.zst_model.specs.states.State.{State, Block, Hole, Object, number_bound, is_number}
use Rattle.zst_model.specs.declared.states.attr.Attr.{Attr}
use Rattle.zst_model.specs.declared.sends.header.Point.{Point}
use Rattle.zst_model.specs.declared.states.item.Change.{Change}
use Rattle.zst_model.specs.declared.states.item.Change.TheVariants.{Free, Redact}
use Rattle.zst_model.specs.declared.states.item.Item.{Item}
use Rattle.zst_model.specs.declared.states.item.Item.TheVariants.{FreeObjects, At}
use Rattle.zst_model.specs.states.AppliedItems.{apply, apply_all, within, ◌>>=◌, put_at, apply_changes}
use Rattle.zst_model.specs.sends.View.{View, ObjectView, Shown, Left, Gone, There, IsShown, IsView}
use Rattle.zst_model.specs.sends.Items.{put_change, tail_change, origin, items, single_items, joined, before, before_item, join, join_changes, items_at, rising, spill_change, opening, block_changes, number_items}
use Rattle.zst_model.specs.sends.Points.{point_after, point_of}
use Rattle.zst_model.specs.sends.CutReceives.{block_at, StandsAt, Between, StandsFor}
use Rattle.zst_model.proofs.Results.{ok_parts, bind_ok}
use Rattle.zst_model.proofs.EmptyLists.{nothing_left}
use Rattle.zst_laws.specs.ResumedSends.{StartStands, CutStands}
use Rattle.std.proofs.lemmas.Bool.Decides.{nat_tests}
use Rattle.std.proofs.lemmas.List.{map-append}
use Rattle.std.proofs.lemmas.Bool.{cases_eq, and_from, and_left, and_parts, ltb-true}
use Rattle.zst_laws.proofs.sends.Blocks.{put_keeps, head_applies, kept, opened, opening_applies, settled, apply_changes-append, changes_at}
use Rattle.zst_laws.proofs.sends.Numbers.{each_number, singles_apply, made, made_from, offset_at}
use Rattle.zst_laws.proofs.sends.Ends.{number_range}
use Rattle.zst_laws.proofs.sends.ExactSends.{from_origin, place_below}
use Rattle.zst_laws.proofs.sends.ResumedSends.{whole_is, made_same}
use Rattle.zst_laws.proofs.sends.CutBlocks.{map_part, part, parted_in, parted_past, point_of-append, none_or_all, begins, blocks_front}
use Rattle.zst_laws.proofs.sends.AppliedItemLemmas.{put_here, put_other, apply_all-append}
use Rattle.zst_laws.proofs.sends.Joins.{join_applies, joined_if, joined_if', mapped}

-- the end of a run of numbers is not cut
pub next_uncut : (a : ℕ) → is_number a ≡ true → min (a + 1) number_bound ≡ a + 1
next_uncut a n =
    let below : a < number_bound = ltb-true a number_bound (and_parts (nat_lt 0 a) (nat_lt a number_bound) n).1 in
    min-eq_left (omega arith)

-- no item, or one with a rest
cons_split : {A : Type 0} (d y : A) (ds ys : List A) → ◌≡◌ {A = List A} (d ∷ ds) (y ∷ ys) → (d ≡ y) × (ds ≡ ys)
cons_split d y ds ys e = (cc, cc)

changes_meet : (k i : ℕ) (c d e : Change) (p : Point) → k ≡ i → join_changes c d ≡ Some e → point_after (point_after p (At k c)) (At i d) ≡ point_after p (At k e)
changes_meet k i (Free x m) (Free y n) e p s j =
    let parts = joined_if (x + m == y) (Free x (m + n)) e j in
    let sum : y + n ≡ x + (m + n) = omega (arith, eqb-true (x + m) y parts.0) in
    let points : ◌≡◌ {A = Point} (record { object = i; offset = y + n }) (record { object = k; offset = x + (m + n) }) = λ q. record { object = sym s q; offset = sum q } in
    points ∙ ap (λ z. point_after p (At k z)) parts.1
changes_meet k i (Redact x m) (Redact y n) e p s j =
    let parts = joined_if (x + m == y) (Redact x (m + n)) e j in
    let sum : y + n ≡ x + (m + n) = omega (arith, eqb-true (x + m) y parts.0) in
    let points : ◌≡◌ {A = Point} (record { object = i; offset = y + n }) (record { object = k; offset = x + (m + n) }) = λ q. record { object = sym s q; offset = sum q } in
    points ∙ ap (λ z. point_after p (At k z)) parts.1
changes_meet k i c d e p s j = absurd (cc)

-- joined items lead to the point that they lead to one by one
items_meet : (x y z : Item) (p : Point) → join x y ≡ Some z → point_after (point_after p x) y ≡ point_after p z
items_meet (FreeObjects f m) (FreeObjects g n) z p j =
    let parts = joined_if (f + m == g) (FreeObjects f (m + n)) z j in
    let sum : g + n ≡ f + (m + n) = omega (arith, eqb-true (f + m) g parts.0) in
    let points : ◌≡◌ {A = Point} (record { object = min (g + n) number_bound; offset = 0 }) (record { object = min (f + (m + n)) number_bound; offset = 0 }) = λ q. record { object = min (sum q) number_bound; offset = 0 } in
    points ∙ ap (point_after p) parts.1
items_meet (At k c) (At i d) z p j =
    let same = joined_if' (k == i) (option_map (At k) (join_changes c d)) z j in
    let change = mapped (At k) (join_changes c d) z same.1 in
    changes_meet k i c d change.0 p (eqb-true k i same.0) change.1 ∙ ap (point_after p) change.2
items_meet x y z p j = absurd (cc)

-- a front of the joined items does what a front of the single ones does, and comes to the same point
pub record Front (singles done : List Item) : Type 0 where
  pub first : List Item
  pub later : List Item
  pub splits : first ++ later ≡ singles
  pub applies : (s t : State) → apply_all first s ≡ Ok t → apply_all done s ≡ Ok t
  pub points : (p : Point) → point_of p done ≡ point_of p first

none_first : (singles : List Item) → Front singles []
none_first singles = record { first = []; later = singles; splits = refl; applies = λ s t e. e; points = λ p. refl }

-- one more single item before a front
one_more : (u : Item) (us ds : List Item) → Front us ds → Front (u ∷ us) (u ∷ ds)
one_more u us ds f = record {
  first = u ∷ f.first;
  later = f.later;
  splits = ap (λ l. u ∷ l) f.splits;
  applies = λ s t e.
      let parts = bind_ok (apply u s) (apply_all f.first) t e in
      ap (λ r. r >>= apply_all ds) parts.1 ∙ f.applies parts.0 t parts.2;
  points = λ p. f.points (point_after p u);
}

-- one that joins with the next
one_joined : (u y z : Item) (us ds : List Item) → join u y ≡ Some z → Front us (y ∷ ds) → Front (u ∷ us) (z ∷ ds)
one_joined u y z us ds j f = record {
  first = u ∷ f.first;
  later = f.later;
  splits = ap (λ l. u ∷ l) f.splits;
  applies = λ s t e.
      let parts = bind_ok (apply u s) (apply_all f.first) t e in
      let next = bind_ok (apply y parts.0) (apply_all ds) t (f.applies parts.0 t parts.2) in
      ap (λ r. r >>= apply_all ds) (join_applies u y z s parts.0 next.0 j parts.1 next.1) ∙ next.2;
  points = λ p. ap (λ q. point_of q ds) (sym (items_meet u y z p j)) ∙ f.points (point_after p u);
}

front_before : (u : Item) (us ys ds : List Item) (d : Item) (rest : List Item) → joined us ≡ ys → d ∷ (ds ++ rest) ≡ before u ys → ((ds' : List Item) → ds' ++ rest ≡ ys → Front us ds') → Front (u ∷ us) (d ∷ ds)
front_before u us [] ds d rest e h deeper =
    let parts = cons_split d u (ds ++ rest) [] h in
    subst (λ z. Front (u ∷ us) (z ∷ ds)) (sym parts.0) (one_more u us ds (deeper ds parts.1))
front_before u us (y ∷ ys) ds d rest e h deeper = go (join u y) refl h
  where
    go : (o : Option Item) → join u y ≡ o → d ∷ (ds ++ rest) ≡ before_item u o y ys → Front (u ∷ us) (d ∷ ds)
    go (Some z) j h' =
        let parts = cons_split d z (ds ++ rest) ys h' in
        subst (λ w. Front (u ∷ us) (w ∷ ds)) (sym parts.0) (one_joined u y z us ds j (deeper (y ∷ ds) (ap (λ l. y ∷ l) parts.1)))
    go None j h' =
        let parts = cons_split d u (ds ++ rest) (y ∷ ys) h' in
        subst (λ w. Front (u ∷ us) (w ∷ ds)) (sym parts.0) (one_more u us ds (deeper ds parts.1))

pub front_of : (us done rest : List Item) → done ++ rest ≡ joined us → Front us done
front_of [] [] rest h = none_first []
front_of [] (d ∷ ds) rest h = absurd (cc)
front_of (u ∷ us) [] rest h = none_first (u ∷ us)
front_of (u ∷ us) (d ∷ ds) rest h = front_before u us (joined us) ds d rest refl h (λ ds' e. front_of us ds' rest e)

-- what stands at an offset depends on the opened blocks alone
stands_like : (shown : ObjectView) (offset : ℕ) (base whole x x' : Option Object) → StandsAt (There shown) offset base whole x
    → ((i : ℕ) → i < shown.end → opened shown x' i ≡ opened shown x i) → StandsAt (There shown) offset base whole x'
stands_like shown offset base whole x x' h same from from_base e e' i l =
    let opened_from : from ≡ Some (record { attr = shown.attr; blocks = opened shown x' }) = ok_parts _ _ (sym e ∙ opening_applies shown x') in
    let here : block_at from i ≡ opened shown x i = ap (λ b. block_at b i) opened_from ∙ same i l in
    let known = h (Some (record { attr = shown.attr; blocks = opened shown x })) from_base (opening_applies shown x) e' i l in
    ((λ low. here ∙ known.0 low), (λ high. here ∙ known.1 high))

-- the base stands where nothing of the number came
pub stands_start : (shown : Shown) (base whole : Option Object) → StandsAt shown 0 base whole base
stands_start Left base whole = refl
stands_start Gone base whole = refl
stands_start (There object) base whole = λ from from_base e e' i l. ((λ low. absurd (omega arith)), (λ high. ap (λ o. block_at o i) (ok_parts _ _ (sym e ∙ e'))))

-- a front of the opening, with something in it, opens to the same, and comes to the object
pub record Opens (shown : ObjectView) (o : Option Object) (k : ℕ) (cs : List Change) : Type 0 where
  pub result : Option Object
  pub applies : apply_changes cs o ≡ Ok result
  pub same : (i : ℕ) → i < shown.end → opened shown result i ≡ opened shown o i
  pub comes : (p : Point) → point_of p (map (At k) cs) ≡ (if k == p.object then p else record { object = k; offset = 0 })

module _ (shown : ObjectView) (lawful : IsShown (There shown)) (o : Option Object) (k : ℕ) where
  inner : (i : ℕ) → i < shown.end → nat_le (shown.end * shown.attr.block_size) (i * shown.attr.block_size) ≡ false
  inner i m = lt-leb _ _ (place_below shown.attr.block_size i shown.end lawful.0 (mul-le-mul_right shown.attr.block_size m))

  kept_same : (attr : Attr) (f : ℕ → Block) → attr.block_size ≡ shown.attr.block_size → ((i : ℕ) → i < shown.end → f i ≡ kept shown.attr o i)
      → (i : ℕ) → i < shown.end → opened shown (Some (record { attr = attr; blocks = f })) i ≡ opened shown o i
  kept_same attr f sizes same i m =
      cond-false (nat_le (shown.end * shown.attr.block_size) (i * shown.attr.block_size)) _ _ (inner i m)
      ∙ ap (λ g. g i) (cond-true (attr.block_size == shown.attr.block_size) f (λ i. Hole) (eq-eqb attr.block_size shown.attr.block_size sizes))
      ∙ same i m
      ∙ sym (cond-false (nat_le (shown.end * shown.attr.block_size) (i * shown.attr.block_size)) _ _ (inner i m))

  opens_put : Opens shown o k (put_change shown ∷ [])
  opens_put = record {
    result = Some (record { attr = record shown.attr { spill = None }; blocks = kept shown.attr o });
    applies = ap (λ r. r >>= apply_changes []) (put_keeps shown o);
    same = kept_same (record shown.attr { spill = None }) (kept shown.attr o) refl (λ i m. refl);
    comes = λ p. refl;
  }

  spill_comes : (spill : Option (List ℕ)) (p : Point) → point_of p (map (At k) (spill_change spill)) ≡ p
  spill_comes None p = refl
  spill_comes (Some bytes) p = refl

  opens_head : Opens shown o k (put_change shown ∷ spill_change shown.attr.spill)
  opens_head = record {
    result = Some (record { attr = shown.attr; blocks = kept shown.attr o });
    applies = head_applies shown o;
    same = kept_same shown.attr (kept shown.attr o) refl (λ i m. refl);
    comes = λ p. spill_comes shown.attr.spill (if k == p.object then p else record { object = k; offset = 0 });
  }

  opening_comes : (p : Point) → point_of p (map (At k) (opening shown)) ≡ (if k == p.object then p else record { object = k; offset = 0 })
  opening_comes p =
      ap (point_of p) (map-append (At k) (put_change shown ∷ spill_change shown.attr.spill) (tail_change shown ∷ []))
      ∙ point_of-append (map (At k) (put_change shown ∷ spill_change shown.attr.spill)) (At k (tail_change shown) ∷ []) p
      ∙ spill_comes shown.attr.spill (if k == p.object then p else record { object = k; offset = 0 })

  opens_all : Opens shown o k (opening shown)
  opens_all = record {
    result = Some (record { attr = shown.attr; blocks = opened shown o });
    applies = opening_applies shown o;
    same = kept_same shown.attr (opened shown o) refl (λ i m. cond-false (nat_le (shown.end * shown.attr.block_size) (i * shown.attr.block_size)) _ _ (inner i m));
    comes = opening_comes;
  }

  opens_front : (c : Change) (cs more : List Change) → (c ∷ cs) ++ more ≡ opening shown → Opens shown o k (c ∷ cs)
  opens_front c cs more e =
      let head : c ≡ put_change shown = cc in
      let tail : cs ++ more ≡ spill_change shown.attr.spill ++ (tail_change shown ∷ []) = cc in
      subst (λ d. Opens shown o k (d ∷ cs)) (sym head) (go (part cs more (spill_change shown.attr.spill) (tail_change shown ∷ []) tail))
    where
      one : length (spill_change shown.attr.spill) ≤ 1
      one = short shown.attr.spill
        where
          short : (s : Option (List ℕ)) → length (spill_change s) ≤ 1
          short None = omega arith
          short (Some b) = omega arith

      go : parted_in cs (spill_change shown.attr.spill) ⊎ parted_past cs more (spill_change shown.attr.spill) (tail_change shown ∷ []) → Opens shown o k (put_change shown ∷ cs)
      go (inl (rest, s)) = ⊎_elim
          (λ e. subst (λ l. Opens shown o k (put_change shown ∷ l)) (sym e) opens_put)
          (λ e. subst (λ l. Opens shown o k (put_change shown ∷ l)) (sym e) opens_head)
          (none_or_all cs rest (spill_change shown.attr.spill) one s)
      go (inr (rest, s, t)) = ⊎_elim
          (λ e. subst (λ l. Opens shown o k (put_change shown ∷ l)) (sym (s ∙ ap (λ r. spill_change shown.attr.spill ++ r) e ∙ append-nil (spill_change shown.attr.spill))) opens_head)
          (λ e. subst (λ l. Opens shown o k (put_change shown ∷ l)) (sym (s ∙ ap (λ r. spill_change shown.attr.spill ++ r) e)) opens_all)
          (none_or_all rest more (tail_change shown ∷ []) (omega arith) t)

past_range : (a j : ℕ) → a < j → within a 1 j ≡ false
past_range a j m = grind (arith, nat_tests)

own_range : (a j : ℕ) → j ≡ a → within a 1 j ≡ true
own_range a j m = grind (arith, nat_tests)

before_range : (a j : ℕ) → j < a → within a 1 j ≡ false
before_range a j m = grind (arith, nat_tests)

module _ (view : View) (base : State) (point : Point) (x : State) (v : IsView view) (h : StandsFor view base point x) where
  whole_inside : (k : ℕ) → is_number k ≡ true → h.whole k ≡ made (view.shown k) 0 (base k)
  whole_inside k e = ap (λ f. f k) (whole_is view base point x v h) ∙ cond-true (within 1 (pred number_bound) k) _ _ (number_range number_bound k ∙ e) ∙ from_origin view k (base k)

  -- numbers below a were gone over, and the point is q
  pub record Passing (a : ℕ) (y : State) (q : Point) : Type 0 where
    pub done : (j : ℕ) → j < a → y j ≡ h.whole j
    pub ahead : (j : ℕ) → a ≤ j → y j ≡ x j
    pub between : Between view base h.whole q y
    pub place : ((a ≤ point.object) × (q ≡ point)) ⊎ ((point.object < a) × ((q.object < a) ⊎ ((q.object ≡ a) × (q.offset ≡ 0))))

  -- what a cut among the items of a number leaves
  pub record Halted (a : ℕ) (items : List Item) (y z : State) (q : Point) : Type 0 where
    pub between : Between view base h.whole (point_of q items) z
    pub place : (point_of q items ≡ q) ⊎ (((point_of q items).object ≡ a) ⊎ (((point_of q items).object ≡ suc a) × ((point_of q items).offset ≡ 0)))

  after_base : (j : ℕ) → point.object < j → x j ≡ base j
  after_base = h.between.above

  halted_none : (a : ℕ) (y z : State) (q : Point) → Passing a y q → y ≡ z → Halted a [] y z q
  halted_none a y z q p e = record { between = subst (Between view base h.whole q) e p.between; place = inl refl }

  -- the blocks of a number begin at its offset
  stands_here : (a : ℕ) (y : State) (q : Point) → Passing a y q → point.object ≤ a → StandsAt (view.shown a) (offset_at point a) (base a) (h.whole a) (x a)
  stands_here a y q p l = go (cases_order a point.object)
    where
      go : (a ≡ point.object) ⊎ ((a < point.object) ⊎ (point.object < a)) → StandsAt (view.shown a) (offset_at point a) (base a) (h.whole a) (x a)
      go (inl e) =
          let at : ℕ → Type 0 = λ j. StandsAt (view.shown j) (offset_at point j) (base j) (h.whole j) (x j) in
          let own : offset_at point point.object ≡ point.offset = cond-true (point.object == point.object) _ _ (eq-eqb point.object point.object refl) in
          subst at (sym e) (subst (λ o. StandsAt (view.shown point.object) o (base point.object) (h.whole point.object) (x point.object)) (sym own) h.between.here)
      go (inr (inl m)) = absurd (omega arith)
      go (inr (inr m)) =
          let none : offset_at point a ≡ 0 = cond-false (a == point.object) _ _ (ne_eqb a point.object (λ e. omega (arith, e))) in
          subst (λ o. StandsAt (view.shown a) o (base a) (h.whole a) (x a)) (sym none)
          (subst (StandsAt (view.shown a) 0 (base a) (h.whole a)) (sym (after_base a m)) (stands_start (view.shown a) (base a) (h.whole a)))

  -- the point after the OBJECT of a number
  opened_point : (a : ℕ) (y : State) (q : Point) → Passing a y q → point.object ≤ a → (if a == q.object then q else record { object = a; offset = 0 }) ≡ record { object = a; offset = offset_at point a }
  opened_point a y q p l = go p.place
    where
      own : a ≡ point.object → q ≡ point → (if a == q.object then q else record { object = a; offset = 0 }) ≡ record { object = a; offset = offset_at point a }
      own e s =
          cond-true (a == q.object) _ _ (eq-eqb a q.object (e ∙ ap (λ r. r.object) (sym s)))
          ∙ s ∙ (λ i. record { object = sym e i; offset = sym (cond-true (a == point.object) point.offset 0 (eq-eqb a point.object e)) i })

      later : point.object < a → (q.object < a) ⊎ ((q.object ≡ a) × (q.offset ≡ 0)) → (if a == q.object then q else record { object = a; offset = 0 }) ≡ record { object = a; offset = 0 }
      later m (inl b) = cond-false (a == q.object) _ _ (ne_eqb a q.object (λ e. omega (arith, e)))
      later m (inr (e, z)) = cond-true (a == q.object) _ _ (eq-eqb a q.object (sym e)) ∙ (λ i. record { object = e i; offset = z i })

      none : point.object < a → offset_at point a ≡ 0
      none m = cond-false (a == point.object) _ _ (ne_eqb a point.object (λ e. omega (arith, e)))

      go : ((a ≤ point.object) × (q ≡ point)) ⊎ ((point.object < a) × ((q.object < a) ⊎ ((q.object ≡ a) × (q.offset ≡ 0)))) → (if a == q.object then q else record { object = a; offset = 0 }) ≡ record { object = a; offset = offset_at point a }
      go (inl (m, s)) = own (omega arith) s
      go (inr (m, b)) = later m b ∙ ap (λ o. record { object = a; offset = o }) (sym (none m))

  -- with the number changed alone
  changed_between : (a o : ℕ) (y : State) (z : Option Object) (q : Point) → Passing a y q → point.object ≤ a → StandsAt (view.shown a) o (base a) (h.whole a) z
      → Between view base h.whole (record { object = a; offset = o }) (put_at y a z)
  changed_between a o y z q p l s = record {
    below = λ j m. put_other y a j z (λ e. omega (arith, e)) ∙ p.done j m;
    above = λ j m. put_other y a j z (λ e. omega (arith, e)) ∙ p.ahead j (omega arith) ∙ after_base j (omega arith);
    here = subst (StandsAt (view.shown a) o (base a) (h.whole a)) (sym (put_here y a z)) s;
  }

  halted_gone : (a : ℕ) (items rest : List Item) (y z : State) (q : Point) → Passing a y q → point.object ≤ a → is_number a ≡ true → view.shown a ≡ Gone
      → items ++ rest ≡ FreeObjects a 1 ∷ [] → apply_all items y ≡ Ok z → Halted a items y z q
  unfolding apply
  halted_gone a [] rest y z q p l n s e r = halted_none a y z q p (ok_parts _ _ r)
  halted_gone a (i ∷ is) rest y z q p l n s e r =
      let heads : i ≡ FreeObjects a 1 = cc in
      let tails : is ++ rest ≡ [] = cc in
      let empty : is ≡ [] = nothing_left is rest tails in
      let all : i ∷ is ≡ FreeObjects a 1 ∷ [] = λ t. heads t ∷ empty t in
      let made_z : (λ j. if within a 1 j then None else y j) ≡ z = ok_parts _ _ (subst (λ w. apply_all w y ≡ Ok z) all r) in
      subst (λ w. Halted a w y z q) (sym all) (record {
        between = subst (λ o. Between view base h.whole (record { object = o; offset = 0 }) z) (sym uncut) (subst (Between view base h.whole (record { object = a + 1; offset = 0 })) made_z (record {
          below = λ j m. below j m (cases_eq j a);
          above = λ j m. outside j (omega arith) ∙ p.ahead j (omega arith) ∙ after_base j (omega arith);
          here = subst (StandsAt (view.shown (a + 1)) 0 (base (a + 1)) (h.whole (a + 1))) (sym (outside (a + 1) (omega arith) ∙ p.ahead (a + 1) (omega arith) ∙ after_base (a + 1) (omega arith)))
              (stands_start (view.shown (a + 1)) (base (a + 1)) (h.whole (a + 1)));
        }));
        place = inr (inr (uncut ∙ add-one a, refl));
      })
    where
      uncut : min (a + 1) number_bound ≡ a + 1
      uncut = next_uncut a n

      outside : (j : ℕ) → a < j → ◌≡◌ {A = Option Object} (if within a 1 j then None else y j) (y j)
      outside j m = cond-false (within a 1 j) _ _ (past_range a j m)

      below : (j : ℕ) → j < a + 1 → (j ≡ a) ⊎ (j ≡ a → ⊥) → (if within a 1 j then None else y j) ≡ h.whole j
      below j m (inl t) =
          cond-true (within a 1 j) _ _ (own_range a j t) ∙ subst (λ k. None ≡ h.whole k) (sym t) (sym (whole_inside a n ∙ ap (λ w. made w 0 (base a)) s))
      below j m (inr t) = cond-false (within a 1 j) _ _ (before_range a j (omega arith)) ∙ p.done j (omega arith)

  halted_there : (a : ℕ) (shown : ObjectView) (items rest : List Item) (y z : State) (q : Point) → Passing a y q → point.object ≤ a → is_number a ≡ true → view.shown a ≡ There shown
      → items ++ rest ≡ map (At a) (opening shown ++ block_changes shown (offset_at point a)) → apply_all items y ≡ Ok z → Halted a items y z q
  halted_there a shown items rest y z q p l n s e r = go parts.0 parts.1 parts.2 parts.3
    where
      parts : (first : List Change) × (more : List Change) × (items ≡ map (At a) first) × (first ++ more ≡ opening shown ++ block_changes shown (offset_at point a))
      parts = map_part (At a) items rest (opening shown ++ block_changes shown (offset_at point a)) e

      lawful : IsShown (There shown)
      lawful = subst IsShown s (v.inside a)

      at : StandsAt (There shown) (offset_at point a) (base a) (h.whole a) (x a)
      at = subst (λ w. StandsAt w (offset_at point a) (base a) (h.whole a) (x a)) s (stands_here a y q p l)

      is : h.whole a ≡ settled shown 0 (base a)
      is = whole_inside a n ∙ ap (λ w. made w 0 (base a)) s

      old : y a ≡ x a
      old = p.ahead a (omega arith)

      halts : (cs : List Change) (o : ℕ) (w : Option Object) → items ≡ map (At a) cs → point_of q (map (At a) cs) ≡ record { object = a; offset = o } → apply_changes cs (x a) ≡ Ok w
          → StandsAt (There shown) o (base a) (h.whole a) w → Halted a items y z q
      halts cs o w t c u k =
          let run : apply_all items y ≡ Ok (put_at y a w) =
          ap (λ i. apply_all i y) t ∙ changes_at a cs y ∙ ap (λ b. apply_changes cs b >>= λ o. Ok (put_at y a o)) old ∙ ap (λ r. r >>= λ o. Ok (put_at y a o)) u in
          let same : put_at y a w ≡ z = ok_parts _ _ (sym run ∙ r) in
          let to : point_of q items ≡ record { object = a; offset = o } = ap (point_of q) t ∙ c in
          record {
            between = subst (λ g. Between view base h.whole g z) (sym to) (subst (Between view base h.whole (record { object = a; offset = o })) same
                (changed_between a o y w q p l (subst (λ g. StandsAt g o (base a) (h.whole a) w) (sym s) k)));
            place = inr (inl (ap (λ g. g.object) to));
          }

      go : (cs more : List Change) → items ≡ map (At a) cs → cs ++ more ≡ opening shown ++ block_changes shown (offset_at point a) → Halted a items y z q
      go [] more t u = subst (λ i. Halted a i y z q) (sym t) (halted_none a y z q p (ok_parts _ _ (subst (λ i. apply_all i y ≡ Ok z) t r)))
      go (c ∷ cs) more t u = parts_of (part (c ∷ cs) more (opening shown) (block_changes shown (offset_at point a)) u)
        where
          within_opening : (rest : List Change) → (c ∷ cs) ++ rest ≡ opening shown → Halted a items y z q
          within_opening rest s =
              let o = opens_front shown lawful (x a) a c cs rest s in
              halts (c ∷ cs) (offset_at point a) o.result t (o.comes q ∙ opened_point a y q p l) o.applies
              (stands_like shown (offset_at point a) (base a) (h.whole a) (x a) o.result at o.same)

          there : (cs more : List Change) → items ≡ map (At a) (opening shown ++ cs) → cs ++ more ≡ block_changes shown (offset_at point a) → Halted a items y z q
          there cs more t tail =
              let run : apply_all items y ≡ (apply_changes cs (Some (record { attr = shown.attr; blocks = opened shown (x a) })) >>= λ o. Ok (put_at y a o)) =
              ap (λ i. apply_all i y) t ∙ changes_at a (opening shown ++ cs) y ∙ ap (λ b. apply_changes (opening shown ++ cs) b >>= λ o. Ok (put_at y a o)) old
              ∙ ap (λ r. r >>= λ o. Ok (put_at y a o)) (apply_changes-append (opening shown) cs (x a) ∙ ap (λ r. r >>= apply_changes cs) (opening_applies shown (x a))) in
              let ok = bind_ok (apply_changes cs (Some (record { attr = shown.attr; blocks = opened shown (x a) }))) (λ o. Ok (put_at y a o)) z (sym run ∙ r) in
              let stop = blocks_front shown lawful (offset_at point a) (base a) (h.whole a) (x a) at is a shown.end 0 (opened shown (x a)) (offset_at point a) cs more
              (zero-add shown.end) (begins shown lawful (offset_at point a) (base a) (h.whole a) (x a) at is a) tail ok.0 ok.1 in
              halts (opening shown ++ cs) stop.after ok.0 t
              (ap (point_of q) (map-append (At a) (opening shown) cs) ∙ point_of-append (map (At a) (opening shown)) (map (At a) cs) q
              ∙ ap (λ g. point_of g (map (At a) cs)) (opening_comes shown lawful (x a) a q ∙ opened_point a y q p l) ∙ stop.comes)
              (apply_changes-append (opening shown) cs (x a) ∙ ap (λ r. r >>= apply_changes cs) (opening_applies shown (x a)) ∙ ok.1)
              stop.stands

          parts_of : parted_in (c ∷ cs) (opening shown) ⊎ parted_past (c ∷ cs) more (opening shown) (block_changes shown (offset_at point a)) → Halted a items y z q
          parts_of (inl (rest, s)) = within_opening rest s
          parts_of (inr (rest, s, tail)) = there rest more (t ∙ ap (map (At a)) s) tail

  one_front : (a : ℕ) (items rest : List Item) (y z : State) (q : Point) → Passing a y q → is_number a ≡ true
      → items ++ rest ≡ items_at view point a → apply_all items y ≡ Ok z → Halted a items y z q
  one_front a items rest y z q p n e r = go (cases_lt a point.object)
    where
      nothing : items ++ rest ≡ [] → Halted a items y z q
      nothing f =
          let empty = nothing_left items rest f in
          subst (λ i. Halted a i y z q) (sym empty) (halted_none a y z q p (ok_parts _ _ (subst (λ i. apply_all i y ≡ Ok z) empty r)))

      seen : (w : Shown) → view.shown a ≡ w → point.object ≤ a → items ++ rest ≡ number_items a (offset_at point a) w → Halted a items y z q
      seen Left s l f = nothing f
      seen Gone s l f = halted_gone a items rest y z q p l n s f r
      seen (There shown) s l f = halted_there a shown items rest y z q p l n s f r

      go : (a < point.object) ⊎ (point.object ≤ a) → Halted a items y z q
      go (inl l) = nothing (e ∙ cond-true (nat_lt a point.object) _ _ (lt-ltb _ _ l))
      go (inr l) = seen (view.shown a) refl l (e ∙ cond-false (nat_lt a point.object) _ _ (le-ltb _ _ l))

  -- what a number comes to
  number_whole : (a : ℕ) (y : State) (q : Point) → Passing a y q → is_number a ≡ true → made_from view point a (y a) ≡ h.whole a
  number_whole a y q p n = go (cases_lt a point.object)
    where
      go : (a < point.object) ⊎ (point.object ≤ a) → made_from view point a (y a) ≡ h.whole a
      go (inl l) = cond-true (nat_lt a point.object) _ _ (lt-ltb _ _ l) ∙ p.ahead a (omega arith) ∙ h.between.below a l
      go (inr l) =
          cond-false (nat_lt a point.object) _ _ (le-ltb _ _ l)
          ∙ ap (made (view.shown a) (offset_at point a)) (p.ahead a (omega arith))
          ∙ made_same (view.shown a) (offset_at point a) (base a) (h.whole a) (x a) (stands_here a y q p l) (whole_inside a n)
          ∙ sym (whole_inside a n)

  next : (a : ℕ) (y : State) (q : Point) → Passing a y q → is_number a ≡ true
      → Passing (suc a) (put_at y a (made_from view point a (y a))) (point_of q (items_at view point a))
  next a y q p n = record {
    done = λ j m. done_at j (cases_eq j a) m;
    ahead = λ j m. put_other y a j _ (λ e. omega (arith, e)) ∙ p.ahead j (omega arith);
    between = halted.between;
    place = place_at (cases_lt a point.object);
  }
    where
      halted : Halted a (items_at view point a) y (put_at y a (made_from view point a (y a))) q
      halted = one_front a (items_at view point a) [] y (put_at y a (made_from view point a (y a))) q p n (append-nil (items_at view point a)) (each_number view point v a y)

      done_at : (j : ℕ) → (j ≡ a) ⊎ (j ≡ a → ⊥) → j < suc a → put_at y a (made_from view point a (y a)) j ≡ h.whole j
      done_at j (inl e) m = subst (λ i. put_at y a (made_from view point a (y a)) i ≡ h.whole i) (sym e) (put_here y a _ ∙ number_whole a y q p n)
      done_at j (inr e) m = put_other y a j _ e ∙ p.done j (omega arith)

      unmoved : point.object ≤ a → q.object < suc a
      unmoved l = go p.place
        where
          go : ((a ≤ point.object) × (q ≡ point)) ⊎ ((point.object < a) × ((q.object < a) ⊎ ((q.object ≡ a) × (q.offset ≡ 0)))) → q.object < suc a
          go (inl (m, s)) = omega (arith, ap (λ r. r.object) s)
          go (inr (m, b)) = omega arith

      moved : point.object ≤ a → (point_of q (items_at view point a) ≡ q) ⊎ (((point_of q (items_at view point a)).object ≡ a) ⊎ (((point_of q (items_at view point a)).object ≡ suc a) × ((point_of q (items_at view point a)).offset ≡ 0)))
          → ((point_of q (items_at view point a)).object < suc a) ⊎ (((point_of q (items_at view point a)).object ≡ suc a) × ((point_of q (items_at view point a)).offset ≡ 0))
      moved l (inl s) = inl (subst (λ r. r.object < suc a) (sym s) (unmoved l))
      moved l (inr (inl s)) = inl (omega (arith, s))
      moved l (inr (inr s)) = inr s

      waiting : a < point.object → ((a ≤ point.object) × (q ≡ point)) ⊎ ((point.object < a) × ((q.object < a) ⊎ ((q.object ≡ a) × (q.offset ≡ 0)))) → q ≡ point
      waiting l (inl (m, s)) = s
      waiting l (inr (m, b)) = absurd (omega arith)

      place_at : (a < point.object) ⊎ (point.object ≤ a)
          → ((suc a ≤ point.object) × (point_of q (items_at view point a) ≡ point)) ⊎ ((point.object < suc a) × (((point_of q (items_at view point a)).object < suc a) ⊎ (((point_of q (items_at view point a)).object ≡ suc a) × ((point_of q (items_at view point a)).offset ≡ 0))))
      place_at (inl l) = inl (l, ap (point_of q) (cond-true (nat_lt a point.object) _ _ (lt-ltb _ _ l)) ∙ waiting l p.place)
      place_at (inr l) = inr (omega arith, moved l halted.place)

  numbers_front : (n a : ℕ) (items rest : List Item) (y z : State) (q : Point) → 0 < a → a + n ≡ number_bound → Passing a y q
      → items ++ rest ≡ flat_map (items_at view point) (rising a n) → apply_all items y ≡ Ok z → Between view base h.whole (point_of q items) z
  unfolding rising
  numbers_front zero a [] rest y z q pos n p e r = subst (Between view base h.whole q) (ok_parts _ _ r) p.between
  numbers_front zero a (i ∷ is) rest y z q pos n p e r = absurd (cc)
  numbers_front (suc m) a items rest y z q pos n p e r =
      go (part items rest (items_at view point a) (flat_map (items_at view point) (rising (suc a) m)) e)
      (λ more later. numbers_front m (suc a) more rest (put_at y a (made_from view point a (y a))) z (point_of q (items_at view point a)) (omega arith) (omega arith) (next a y q p is) later)
    where
      is : is_number a ≡ true
      is = let l : a < number_bound = omega arith in and_from (nat_lt 0 a) (nat_lt a number_bound) (lt-ltb _ _ pos) (lt-ltb _ _ l)

      go : parted_in items (items_at view point a) ⊎ parted_past items rest (items_at view point a) (flat_map (items_at view point) (rising (suc a) m))
          → ((more : List Item) → more ++ rest ≡ flat_map (items_at view point) (rising (suc a) m) → apply_all more (put_at y a (made_from view point a (y a))) ≡ Ok z → Between view base h.whole (point_of (point_of q (items_at view point a)) more) z)
          → Between view base h.whole (point_of q items) z
      go (inl (more, s)) deeper = (one_front a items more y z q p is s r).between
      go (inr (more, s, t)) deeper =
          let run : apply_all more (put_at y a (made_from view point a (y a))) ≡ Ok z =
          sym (apply_all-append (items_at view point a) more y ∙ ap (λ w. w >>= apply_all more) (each_number view point v a y)) ∙ subst (λ l. apply_all l y ≡ Ok z) s r in
          subst (λ g. Between view base h.whole g z) (sym (ap (point_of q) s ∙ point_of-append (items_at view point a) more q)) (deeper more t run)

  at_start : Passing 1 x point
  at_start = record {
    done = λ j m. subst (λ i. x i ≡ h.whole i) (zero_of j m) (at_zero (cases_lt 0 point.object));
    ahead = λ j m. refl;
    between = h.between;
    place = place_at (cases_lt 0 point.object);
  }
    where
      zero_of : (j : ℕ) → j < 1 → 0 ≡ j
      zero_of j m = omega arith

      outside : is_number 0 ≡ false
      outside = and_left (nat_lt 0 0) (nat_lt 0 number_bound) (le-ltb 0 0 (omega arith))

      whole_zero : h.whole 0 ≡ base 0
      whole_zero = ap (λ f. f 0) (whole_is view base point x v h) ∙ cond-false (within 1 (pred number_bound) 0) (made_from view origin 0 (base 0)) (base 0) (number_range number_bound 0 ∙ outside)

      at_zero : (0 < point.object) ⊎ (point.object ≤ 0) → x 0 ≡ h.whole 0
      at_zero (inl l) = h.between.below 0 l
      at_zero (inr l) =
          let same : point.object ≡ 0 = omega arith in
          subst (λ i. x i ≡ h.whole i) same
          (subst (λ s. StandsAt s point.offset (base point.object) (h.whole point.object) (x point.object)) (v.outside point.object (ap is_number same ∙ outside)) h.between.here
          ∙ ap base same ∙ sym whole_zero ∙ ap h.whole (sym same))

      place_at : (0 < point.object) ⊎ (point.object ≤ 0) → ((1 ≤ point.object) × (point ≡ point)) ⊎ ((point.object < 1) × ((point.object < 1) ⊎ ((point.object ≡ 1) × (point.offset ≡ 0))))
      place_at (inl l) = inl (l, refl)
      place_at (inr l) = inr (omega arith, inl (omega arith))

pub all_numbers : 1 + pred number_bound ≡ number_bound
unfolding number_bound
all_numbers = refl

single_front : (view : View) (base : State) (point : Point) (x : State) (v : IsView view) (h : StandsFor view base point x) (items rest : List Item) (z : State)
    → items ++ rest ≡ single_items view point → apply_all items x ≡ Ok z → Between view base h.whole (point_of point items) z
unfolding single_items
single_front view base point x v h items rest z e r =
    numbers_front view base point x v h (pred number_bound) 1 items rest x z point (omega arith) all_numbers (at_start view base point x v h) e r

pub cut_stand : CutStands
cut_stand view base point x done rest y v h e r =
    let front = front_of (single_items view point) done rest e in
    let parts = bind_ok (apply_all front.first x) (apply_all front.later) _ (sym (apply_all-append front.first front.later x) ∙ ap (λ l. apply_all l x) front.splits ∙ singles_apply view point x v) in
    let same : parts.0 ≡ y = ok_parts _ _ (sym (front.applies x parts.0 parts.1) ∙ r) in
    record {
      whole = h.whole;
      is_target = h.is_target;
      between = subst (λ p. Between view base h.whole p y) (sym (front.points point))
          (subst (Between view base h.whole (point_of point front.first)) same
          (single_front view base point x v h front.first front.later parts.0 front.splits parts.1));
    }

pub start_stand : StartStands
start_stand view base whole v e = record {
  whole = whole;
  is_target = e;
  between = record {
    below = λ k l. absurd (omega arith);
    above = λ k l. refl;
    here = stands_start (view.shown 0) (base 0) (whole 0);
  };
}
