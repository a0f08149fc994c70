-- The items of a view that shows one object, which has the number 1.
use Rattle.std.proofs.Common.{inl, inr, ◌⊎◌, ◌≡◌, ℕ, zero, suc, ◌+◌, ◌*◌, ◌<◌, ◌≤◌, Bool, true, false, [], ◌∷◌, ◌++◌, map, None, refl, sym, ap, ◌∙◌, arith, subst, nat_le, if◌then◌else◌}
use Rattle.std.proofs.lemmas.Bool.{cases_lt, cases_eq, cond-true, cond-false, le-leb, lt-leb, or_from}
use Rattle.zst_model.specs.declared.sends.header.Point.{Point}
use Rattle.zst_model.specs.declared.states.item.Item.TheVariants.{At}
use Rattle.zst_model.specs.states.State.{Block, Hole, number_bound, is_number, is_hole, past_last}
use Rattle.zst_model.specs.sends.Inclusion.{any_below}
use Rattle.zst_model.specs.sends.View.{View, ObjectView, Left, Gone, There}
use Rattle.zst_model.specs.sends.Items.{block_change, change_at, items, joined, number_items, opening, origin}
use Rattle.zst_laws.specs.Walk.{number_rest, left_at, walk_left, NothingBelow}
use Rattle.zst_laws.specs.FileExample.{rest_gone}
use Rattle.zst_laws.proofs.sends.Walk.{all_none, left_below, left_own, left_above, walk_starts, walk_stops, object_next, gone_run_next}

pub one_is : is_number 1 ≡ true
unfolding number_bound
one_is = refl

all_after_one : 2 + 281474976710654 ≡ number_bound
unfolding number_bound
all_after_one = refl

-- the end of an object whose last block is known
pub end_is : (blocks : ℕ → Block) (last n : ℕ) → last < n → is_hole (blocks last) ≡ false → ((i : ℕ) → last < i → blocks i ≡ Hole) → past_last blocks n ≡ suc last
unfolding past_last
end_is blocks last zero l there none = absurd (omega arith)
end_is blocks last (suc n) l there none = go (cases_eq n last) (end_is blocks last n)
  where
    go : (n ≡ last) ⊎ (n ≡ last → ⊥)
        → (last < n → is_hole (blocks last) ≡ false → ((i : ℕ) → last < i → blocks i ≡ Hole) → past_last blocks n ≡ suc last)
        → (if is_hole (blocks n) then past_last blocks n else suc n) ≡ suc last
    go (inl e) deeper = cond-false (is_hole (blocks n)) _ _ (ap (λ i. is_hole (blocks i)) e ∙ there) ∙ ap suc e
    go (inr e) deeper = cond-true (is_hole (blocks n)) _ _ (ap is_hole (none n (omega arith))) ∙ deeper (omega arith) there none

-- a test that no index passes
pub none_passes : (test : ℕ → Bool) (n : ℕ) → ((i : ℕ) → test i ≡ false) → any_below test n ≡ false
unfolding any_below
none_passes test zero h = refl
none_passes test (suc n) h = or_from (test n) (any_below test n) (h n) (none_passes test n h)

module _ (view : View) (object : ObjectView) (outside : view.shown 0 ≡ Left) (own : view.shown 1 ≡ There object) where
  abbrev pub in_object : ℕ → Point
  in_object offset = record { object = 1; offset = offset }

  none_below : (slot : Bool) → NothingBelow view origin slot 1
  none_below slot j l = subst (λ i. left_at view origin slot i ≡ []) (zero_of j l) (at_zero slot)
    where
      zero_of : (j : ℕ) → j < 1 → 0 ≡ j
      zero_of j l = omega arith

      at_zero : (slot : Bool) → left_at view origin slot 0 ≡ []
      at_zero true = ap (number_items 0 0) outside
      at_zero false = ap (number_rest 0 0) outside

  -- the opening comes first
  pub from_start : items view origin ≡ joined (map (At 1) (opening object) ++ walk_left view (in_object 0) false)
  from_start =
      ap joined (sym (walk_starts view origin)
      ∙ object_next view origin true 1 object one_is (none_below true) (omega arith) (λ e. omega arith) own)

  pub from_inside : (offset : ℕ) → items view (in_object offset) ≡ joined (map (At 1) (opening object) ++ walk_left view (in_object offset) false)
  from_inside offset =
      ap joined (sym (walk_starts view (in_object offset))
      ∙ object_next view (in_object offset) true 1 object one_is (left_below view (in_object offset) true) (omega arith) (λ e. absurd (cc)) own)

  -- the object's blocks are done
  abbrev pub Done : ℕ → Type 0
  Done offset = (j : ℕ) → j < object.end → offset ≤ j * object.attr.block_size → object.blocks j ≡ None

  done_own : (offset : ℕ) → Done offset → left_at view (in_object offset) false 1 ≡ []
  done_own offset done =
      left_own view (in_object offset) false ∙ ap (number_rest 1 offset) own
      ∙ ap (map (At 1)) (all_none (change_at object offset) object.end 0 (λ j l. none j (omega arith) (cases_lt (j * object.attr.block_size) offset)))
    where
      none : (j : ℕ) → j < object.end → (j * object.attr.block_size < offset) ⊎ (offset ≤ j * object.attr.block_size) → change_at object offset j ≡ []
      none j l (inl low) = cond-false (nat_le offset (j * object.attr.block_size)) _ _ (lt-leb _ _ low)
      none j l (inr up) = cond-true (nat_le offset (j * object.attr.block_size)) _ _ (le-leb _ _ up) ∙ ap (block_change object.attr j) (done j l up)

  pub done_below : (offset : ℕ) → Done offset → NothingBelow view (in_object offset) false 2
  done_below offset done j l = go (cases_lt j 1)
    where
      go : (j < 1) ⊎ (1 ≤ j) → left_at view (in_object offset) false j ≡ []
      go (inl m) = left_below view (in_object offset) false j m
      go (inr m) = let e : 1 ≡ j = omega arith in subst (λ i. left_at view (in_object offset) false i ≡ []) e (done_own offset done)

  -- where all behind it is absent, one FREEOBJECTS ends the items
  pub ends_gone : (offset : ℕ) → Done offset → ((k : ℕ) → 2 ≤ k → k < number_bound → view.shown k ≡ Gone)
      → joined (walk_left view (in_object offset) false) ≡ rest_gone ∷ []
  ends_gone offset done gone =
      let far : Point = record { object = 2 + 281474976710654; offset = 0 } in
      gone_run_next view (in_object offset) false 2 281474976710654 (omega arith) (omega arith) (omega (arith, all_after_one)) (done_below offset done) (omega arith) (λ e. omega arith)
      (λ k low high. gone k low (omega (arith, all_after_one)))
      ∙ ap (λ l. joined (rest_gone ∷ l)) (walk_stops view far true (λ j l. left_below view far true j (omega (arith, all_after_one))))

  -- where nothing behind it is included, the items end
  pub ends_left : (offset : ℕ) → Done offset → ((k : ℕ) → 2 ≤ k → view.shown k ≡ Left) → walk_left view (in_object offset) false ≡ []
  ends_left offset done left = walk_stops view (in_object offset) false (λ j l. go j (cases_lt j 2))
    where
      go : (j : ℕ) → (j < 2) ⊎ (2 ≤ j) → left_at view (in_object offset) false j ≡ []
      go j (inl l) = done_below offset done j l
      go j (inr l) = left_above view (in_object offset) false j (omega arith) ∙ ap (number_items j 0) (left j l)
