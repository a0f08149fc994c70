-- A cut among the changes of one object.
use Rattle.std.proofs.Common.{append-nil, length-append, ⊎_elim, inl, inr, ◌⊎◌, subst, ◌≡◌, ℕ, zero, suc, ◌+◌, ◌*◌, ◌<◌, ◌≤◌, Bool, true, false, List, [], ◌∷◌, ◌++◌, length, flat_map, map, Option, Some, None, IfSome, Ok, unwrap_or, refl, sym, ap, ◌∙◌, arith, ◌==◌, nat_le, if◌then◌else◌, mul-le-mul_right, eq-eqb}
use Rattle.std.proofs.lemmas.List.{map-append}
use Rattle.std.proofs.lemmas.Bool.{cases_lt, cases_eq, cond-true, cond-false, leb-true, leb-false, le-leb, lt-leb}
use Rattle.zst_model.specs.states.State.{Block, Hole, Redacted, Data, Object}
use Rattle.zst_model.specs.declared.sends.header.Point.{Point}
use Rattle.zst_model.specs.declared.states.item.Change.{Change}
use Rattle.zst_model.specs.declared.states.item.Item.{Item}
use Rattle.zst_model.specs.declared.states.item.Item.TheVariants.{At}
use Rattle.zst_model.specs.states.AppliedItems.{apply_changes, within, put_at, ◌>>=◌}
use Rattle.zst_model.specs.sends.View.{ObjectView, There, IsShown, MayShow}
use Rattle.zst_model.specs.sends.Items.{rising, change_at, block_change}
use Rattle.zst_model.specs.sends.Points.{point_after, point_of}
use Rattle.zst_model.specs.sends.CutReceives.{block_at, StandsAt}
use Rattle.zst_model.proofs.Results.{ok_parts}
use Rattle.zst_laws.proofs.sends.AppliedItemLemmas.{put_here, put_other, put_same}
use Rattle.zst_laws.proofs.sends.Blocks.{apply_changes-append, opened, opening_applies, settled, block_from, one_change}
use Rattle.zst_laws.proofs.sends.ExactSends.{inside_range, place_below}

-- a front of two lists
abbrev pub parted_in : {A : Type 0} → List A → List A → Type 0
parted_in {A} us first = (more : List A) × (us ++ more ≡ first)

abbrev pub parted_past : {A : Type 0} → List A → List A → List A → List A → Type 0
parted_past {A} us rest first later = (more : List A) × (us ≡ first ++ more) × (more ++ rest ≡ later)

pub part : {A : Type 0} (us rest first later : List A) → us ++ rest ≡ first ++ later → parted_in us first ⊎ parted_past us rest first later
part [] rest first later e = inl (first, refl)
part (u ∷ us) rest [] later e = inr (u ∷ us, refl, e)
part {A} (u ∷ us) rest (f ∷ first) later e = go (part us rest first later tails)
  where
    heads : u ≡ f
    heads = cc

    tails : us ++ rest ≡ first ++ later
    tails = cc

    go : parted_in us first ⊎ parted_past us rest first later → parted_in (u ∷ us) (f ∷ first) ⊎ parted_past (u ∷ us) rest (f ∷ first) later
    go (inl (more, h)) = inl (more, λ i. heads i ∷ h i)
    go (inr (more, h, t)) = inr (more, (λ i. heads i ∷ h i), t)

pub map_part : {A B : Type 0} (f : A → B) (us rest : List B) (cs : List A) → us ++ rest ≡ map f cs → (first : List A) × (more : List A) × (us ≡ map f first) × (first ++ more ≡ cs)
map_part f [] rest cs e = ([], cs, refl, refl)
map_part f (u ∷ us) rest [] e = absurd (cc)
map_part f (u ∷ us) rest (c ∷ cs) e =
    let heads : u ≡ f c = cc in
    let deeper = map_part f us rest cs (cc) in
    (c ∷ deeper.0, deeper.1, (λ i. heads i ∷ deeper.2 i), ap (λ l. c ∷ l) deeper.3)

no_more : {A : Type 0} (cs more : List A) → length more ≡ 0 → cs ++ more ≡ cs
no_more cs [] e = append-nil cs
no_more cs (m ∷ more) e = absurd (omega arith)

pub point_of-append : (xs ys : List Item) (p : Point) → point_of p (xs ++ ys) ≡ point_of (point_of p xs) ys
point_of-append [] ys p = refl
point_of-append (x ∷ xs) ys p = point_of-append xs ys (point_after p x)

-- a front of at most one element is none or all
pub none_or_all : {A : Type 0} (cs more first : List A) → length first ≤ 1 → cs ++ more ≡ first → (cs ≡ []) ⊎ (cs ≡ first)
none_or_all [] more first l e = inl refl
none_or_all (c ∷ cs) more first l e =
    let size : length (c ∷ (cs ++ more)) ≤ 1 = subst (λ z. length z ≤ 1) (sym e) l in
    let sizes : length cs + length more ≡ 0 = omega (arith, length-append cs more) in
    inr (sym (no_more (c ∷ cs) more (omega arith)) ∙ e)

change_short : (view : ObjectView) (offset i : ℕ) → length (change_at view offset i) ≤ 1
change_short view offset i = go (nat_le offset (i * view.attr.block_size)) (view.blocks i)
  where
    go : (t : Bool) (s : Option Block) → length (if t then block_change view.attr i s else []) ≤ 1
    go false s = omega arith
    go true None = omega arith
    go true (Some Hole) = omega arith
    go true (Some Redacted) = omega arith
    go true (Some (Data bytes)) = omega arith

module _ (view : ObjectView) (shown : IsShown (There view)) (offset : ℕ) (base whole x : Option Object) (h : StandsAt (There view) offset base whole x) (is : whole ≡ settled view 0 base) (k : ℕ) where
  abbrev place : ℕ → ℕ
  place i = i * view.attr.block_size

  -- the same blocks once the opening came
  pub opened_again : (f : ℕ → Block) (i : ℕ) → i < view.end → opened view (Some (record { attr = view.attr; blocks = f })) i ≡ f i
  opened_again f i l =
      let m : suc i * view.attr.block_size ≤ view.end * view.attr.block_size = mul-le-mul_right view.attr.block_size l in
      cond-false (nat_le (view.end * view.attr.block_size) (i * view.attr.block_size)) _ _ (lt-leb _ _ (place_below view.attr.block_size i view.end shown.0 m))
      ∙ ap (λ g. g i) (cond-true (view.attr.block_size == view.attr.block_size) f (λ i. Hole) (eq-eqb view.attr.block_size view.attr.block_size refl))

  -- what is known of x and of the whole at an index
  at_low : (i : ℕ) → i < view.end → i * view.attr.block_size < offset → opened view x i ≡ block_at whole i
  at_low i l low = (h _ _ (opening_applies view x) (opening_applies view base) i l).0 low

  at_high : (i : ℕ) → i < view.end → offset ≤ i * view.attr.block_size → opened view x i ≡ opened view base i
  at_high i l high = (h _ _ (opening_applies view x) (opening_applies view base) i l).1 high

  whole_block : (i : ℕ) → i < view.end → block_at whole i ≡ unwrap_or (view.blocks i) (opened view base i)
  whole_block i l =
      ap (λ o. block_at o i) is ∙ cond-true (within 0 view.end i) _ _ (inside_range view.end i l)
      ∙ cond-true (nat_le 0 (i * view.attr.block_size)) _ _ (le-leb 0 _ (omega arith))

  -- blocks below a were gone over, and the point's offset is o
  pub record Going (a : ℕ) (f : ℕ → Block) (o : ℕ) : Type 0 where
    pub below : (i : ℕ) → i < view.end → i * view.attr.block_size < o → f i ≡ block_at whole i
    pub rest : (i : ℕ) → i < view.end → o ≤ i * view.attr.block_size → f i ≡ opened view base i
    pub passed : (i : ℕ) → i < view.end → i < a → f i ≡ block_at whole i
    pub ahead : (i : ℕ) → i < view.end → a ≤ i → f i ≡ opened view x i

  pub begins : Going 0 (opened view x) offset
  begins = record {
    below = at_low;
    rest = at_high;
    passed = λ i l low. absurd (omega arith);
    ahead = λ i l high. refl;
  }

  pub going_stands : (a : ℕ) (f : ℕ → Block) (o : ℕ) → Going a f o → StandsAt (There view) o base whole (Some (record { attr = view.attr; blocks = f }))
  going_stands a f o g from from_base e e' i l =
      let opened_from : from ≡ Some (record { attr = view.attr; blocks = opened view (Some (record { attr = view.attr; blocks = f })) }) = ok_parts _ _ (sym e ∙ opening_applies view (Some (record { attr = view.attr; blocks = f }))) in
      let opened_base : from_base ≡ Some (record { attr = view.attr; blocks = opened view base }) = ok_parts _ _ (sym e' ∙ opening_applies view base) in
      let here : block_at from i ≡ f i = ap (λ b. block_at b i) opened_from ∙ opened_again f i l in
      ((λ low. here ∙ g.below i l low), (λ high. here ∙ g.rest i l high ∙ sym (ap (λ b. block_at b i) opened_base)))

  -- an index that has no item
  passes : (a : ℕ) (f : ℕ → Block) (o : ℕ) → Going a f o → (a < view.end → f a ≡ block_at whole a) → Going (suc a) f o
  passes a f o g here = record {
    below = g.below;
    rest = g.rest;
    passed = λ i l low. passed_at i l (cases_eq i a) low;
    ahead = λ i l high. g.ahead i l (omega arith);
  }
    where
      passed_at : (i : ℕ) → i < view.end → (i ≡ a) ⊎ (i ≡ a → ⊥) → i < suc a → f i ≡ block_at whole i
      passed_at i l (inl s) low = subst (λ j. j < view.end → f j ≡ block_at whole j) (sym s) here l
      passed_at i l (inr s) low = g.passed i l (omega arith)

  -- an index that has one
  moves : (a : ℕ) (f : ℕ → Block) (o : ℕ) (b : Block) → a < view.end → Going a f o → offset ≤ a * view.attr.block_size → view.blocks a ≡ Some b
      → Going (suc a) (put_at f a b) (a * view.attr.block_size + view.attr.block_size)
  moves a f o b la g high s = record {
    below = λ i l low. passed_at i l (cases_eq i a) (below_next i low);
    rest = λ i l far. rest_at i l (next_below i far);
    passed = λ i l low. passed_at i l (cases_eq i a) low;
    ahead = λ i l far. put_other f a i b (λ e. omega (arith, e)) ∙ g.ahead i l (omega arith);
  }
    where
      below_next : (i : ℕ) → i * view.attr.block_size < a * view.attr.block_size + view.attr.block_size → i < suc a
      below_next i low = go (cases_lt i (suc a))
        where
          go : (i < suc a) ⊎ (suc a ≤ i) → i < suc a
          go (inl l) = l
          go (inr l) = let m : suc a * view.attr.block_size ≤ i * view.attr.block_size = mul-le-mul_right view.attr.block_size l in absurd (omega arith)

      next_below : (i : ℕ) → a * view.attr.block_size + view.attr.block_size ≤ i * view.attr.block_size → suc a ≤ i
      next_below i far = go (cases_lt i (suc a)) shown.0
        where
          go : (i < suc a) ⊎ (suc a ≤ i) → 0 < view.attr.block_size → suc a ≤ i
          go (inl l) pos = let m : i * view.attr.block_size ≤ a * view.attr.block_size = mul-le-mul_right view.attr.block_size (below_suc i l) in absurd (omega arith)
            where
              below_suc : (j : ℕ) → j < suc a → j ≤ a
              below_suc j l = omega arith
          go (inr l) pos = l

      passed_at : (i : ℕ) → i < view.end → (i ≡ a) ⊎ (i ≡ a → ⊥) → i < suc a → put_at f a b i ≡ block_at whole i
      passed_at i l (inl e) low = subst (λ j. put_at f a b j ≡ block_at whole j) (sym e) (put_here f a b ∙ sym (whole_block a la ∙ ap (λ o. unwrap_or o (opened view base a)) s))
      passed_at i l (inr e) low = put_other f a i b e ∙ g.passed i l (omega arith)

      rest_at : (i : ℕ) → i < view.end → suc a ≤ i → put_at f a b i ≡ opened view base i
      rest_at i l far =
          let m : a * view.attr.block_size ≤ i * view.attr.block_size = mul-le-mul_right view.attr.block_size (earlier i far) in
          put_other f a i b (λ e. omega (arith, e)) ∙ g.ahead i l (omega arith) ∙ at_high i l (omega arith)
        where
          earlier : (i : ℕ) → suc a ≤ i → a ≤ i
          earlier i l = omega arith

  -- what the step at an index leaves
  pub record Stepped (a : ℕ) (f : ℕ → Block) (o : ℕ) (cs : List Change) (b : Block) : Type 0 where
    pub after : ℕ
    pub comes : point_of (record { object = k; offset = o }) (map (At k) cs) ≡ record { object = k; offset = after }
    pub going : Going (suc a) (put_at f a b) after

  step : (a : ℕ) (f : ℕ → Block) (o : ℕ) → a < view.end → Going a f o → Stepped a f o (change_at view offset a) (block_from view offset a (f a))
  step a f o la g = go (nat_le offset (a * view.attr.block_size)) refl (view.blocks a) refl
    where
      stays : (f a ≡ block_at whole a) → Going (suc a) (put_at f a (f a)) o
      stays e = subst (λ f'. Going (suc a) f' o) (sym (put_same f a)) (passes a f o g (λ _. e))

      bytes_fill : (bytes : List ℕ) → view.blocks a ≡ Some (Data bytes) → length bytes ≡ view.attr.block_size
      bytes_fill bytes s = (subst (λ b. IfSome b (MayShow view.attr a)) s (shown.1 a la)).0

      go : (t : Bool) → nat_le offset (a * view.attr.block_size) ≡ t → (s : Option Block) → view.blocks a ≡ s
          → Stepped a f o (if t then block_change view.attr a s else []) (if t then unwrap_or s (f a) else f a)
      go false e s s' = record { after = o; comes = refl; going = stays (g.ahead a la (omega arith) ∙ at_low a la (leb-false _ _ e)) }
      go true e None s' = record {
        after = o;
        comes = refl;
        going = stays (g.ahead a la (omega arith) ∙ at_high a la (leb-true _ _ e) ∙ sym (whole_block a la ∙ ap (λ b. unwrap_or b (opened view base a)) s'));
      }
      go true e (Some Hole) s' = record { after = a * view.attr.block_size + view.attr.block_size; comes = refl; going = moves a f o Hole la g (leb-true _ _ e) s' }
      go true e (Some Redacted) s' = record { after = a * view.attr.block_size + view.attr.block_size; comes = refl; going = moves a f o Redacted la g (leb-true _ _ e) s' }
      go true e (Some (Data bytes)) s' = record {
        after = a * view.attr.block_size + view.attr.block_size;
        comes = λ i. record { object = k; offset = a * view.attr.block_size + bytes_fill bytes s' i };
        going = moves a f o (Data bytes) la g (leb-true _ _ e) s';
      }

  -- what a cut among the changes leaves
  pub record Stopped (cs : List Change) (o : ℕ) (z : Option Object) : Type 0 where
    pub after : ℕ
    pub comes : point_of (record { object = k; offset = o }) (map (At k) cs) ≡ record { object = k; offset = after }
    pub stands : StandsAt (There view) after base whole z

  pub blocks_front : (n a : ℕ) (f : ℕ → Block) (o : ℕ) (cs rest : List Change) → a + n ≡ view.end → Going a f o
      → cs ++ rest ≡ flat_map (change_at view offset) (rising a n) → (z : Option Object) → apply_changes cs (Some (record { attr = view.attr; blocks = f })) ≡ Ok z → Stopped cs o z
  unfolding rising
  blocks_front zero a f o [] rest n g e z r = record { after = o; comes = refl; stands = subst (StandsAt (There view) o base whole) (ok_parts _ _ r) (going_stands a f o g) }
  blocks_front zero a f o (c ∷ cs) rest n g e z r = absurd (cc)
  blocks_front (suc m) a f o cs rest n g e z r = go (part cs rest (change_at view offset a) (flat_map (change_at view offset) (rising (suc a) m)) e) (λ more later. blocks_front m (suc a) f' stepped.after more rest (omega arith) stepped.going later z)
    where
      la : a < view.end
      la = omega arith

      f' : ℕ → Block
      f' = put_at f a (block_from view offset a (f a))

      stepped : Stepped a f o (change_at view offset a) (block_from view offset a (f a))
      stepped = step a f o la g

      applied : apply_changes (change_at view offset a) (Some (record { attr = view.attr; blocks = f })) ≡ Ok (Some (record { attr = view.attr; blocks = f' }))
      applied = one_change view offset a f shown.0 (shown.1 a la)

      none : cs ≡ [] → Stopped cs o z
      none s = subst (λ l. Stopped l o z) (sym s) (record {
        after = o;
        comes = refl;
        stands = subst (StandsAt (There view) o base whole) (ok_parts _ _ (subst (λ l. apply_changes l (Some (record { attr = view.attr; blocks = f })) ≡ Ok z) s r)) (going_stands a f o g);
      })

      one : cs ≡ change_at view offset a → Stopped cs o z
      one s = subst (λ l. Stopped l o z) (sym s) (record {
        after = stepped.after;
        comes = stepped.comes;
        stands = subst (StandsAt (There view) stepped.after base whole)
            (ok_parts _ _ (sym applied ∙ subst (λ l. apply_changes l (Some (record { attr = view.attr; blocks = f })) ≡ Ok z) s r)) (going_stands (suc a) f' stepped.after stepped.going);
      })

      go : parted_in cs (change_at view offset a) ⊎ parted_past cs rest (change_at view offset a) (flat_map (change_at view offset) (rising (suc a) m))
          → ((more : List Change) → more ++ rest ≡ flat_map (change_at view offset) (rising (suc a) m) → apply_changes more (Some (record { attr = view.attr; blocks = f' })) ≡ Ok z → Stopped more stepped.after z)
          → Stopped cs o z
      go (inl (more, s)) deeper = ⊎_elim none one (none_or_all cs more (change_at view offset a) (change_short view offset a) s)
      go (inr (more, s, t)) deeper =
          let run = subst (λ l. apply_changes l (Some (record { attr = view.attr; blocks = f })) ≡ Ok z) s r in
          let rest_run : apply_changes more (Some (record { attr = view.attr; blocks = f' })) ≡ Ok z =
          sym (apply_changes-append (change_at view offset a) more (Some (record { attr = view.attr; blocks = f })) ∙ ap (λ x. x >>= apply_changes more) applied) ∙ run in
          let d = deeper more t rest_run in
          subst (λ l. Stopped l o z) (sym s) (record {
            after = d.after;
            comes = ap (point_of (record { object = k; offset = o })) (map-append (At k) (change_at view offset a) more)
                ∙ point_of-append (map (At k) (change_at view offset a)) (map (At k) more) (record { object = k; offset = o })
                ∙ ap (λ p. point_of p (map (At k) more)) stepped.comes ∙ d.comes;
            stands = d.stands;
          })
