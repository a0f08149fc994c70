-- A resumed send completes what stands for its point.
use Rattle.std.proofs.Common.{inl, inr, ◌⊎◌, subst, ◌≡◌, ℕ, pred, ◌*◌, ◌<◌, ◌≤◌, Bool, true, false, Option, Some, Ok, unwrap_or, refl, sym, ap, ◌∙◌, arith, ◌==◌, nat_lt, nat_le, mul-le-mul_right, eq-eqb, ne_eqb}
use Rattle.std.proofs.Math.Path.{fun_ext}
use Rattle.std.proofs.lemmas.Bool.{cases_lt, cases_order, cond-true, cond-false, lt-ltb, le-ltb, le-leb, lt-leb}
use Rattle.zst_model.specs.states.State.{State, Hole, Object, number_bound, is_number}
use Rattle.zst_model.specs.declared.sends.header.Point.{Point}
use Rattle.zst_model.specs.states.AppliedItems.{within}
use Rattle.zst_model.specs.sends.View.{View, ObjectView, Shown, Left, Gone, There, IsView}
use Rattle.zst_model.specs.sends.Items.{origin}
use Rattle.zst_model.specs.sends.CutReceives.{block_at, StandsAt, StandsFor}
use Rattle.zst_model.proofs.Results.{ok_parts}
use Rattle.zst_laws.specs.ResumedSends.{ResumeIsExact}
use Rattle.zst_laws.proofs.sends.Fold.{swept}
use Rattle.zst_laws.proofs.sends.Blocks.{opened, opening_applies, settled, block_from}
use Rattle.zst_laws.proofs.sends.Numbers.{made, made_from, items_apply}
use Rattle.zst_laws.proofs.sends.Ends.{number_range}
use Rattle.zst_laws.proofs.sends.ExactSends.{from_origin, inside_range, outside_range}

pub opened_past : (view : ObjectView) (o : Option Object) (i : ℕ) → view.end ≤ i → opened view o i ≡ Hole
opened_past view o i g = cond-true (nat_le (view.end * view.attr.block_size) (i * view.attr.block_size)) _ _ (le-leb _ _ (mul-le-mul_right view.attr.block_size g))

module _ (view : ObjectView) (offset : ℕ) (base whole x : Option Object) (h : StandsAt (There view) offset base whole x) (is : whole ≡ settled view 0 base) where
  blocks_same : (i : ℕ) → swept (block_from view offset) 0 view.end (opened view x) i ≡ swept (block_from view 0) 0 view.end (opened view base) i
  blocks_same i = go (cases_lt i view.end) (cases_lt (i * view.attr.block_size) offset)
    where
      at : i < view.end → (i * view.attr.block_size < offset → opened view x i ≡ block_at whole i) × (offset ≤ i * view.attr.block_size → opened view x i ≡ opened view base i)
      at l = h _ _ (opening_applies view x) (opening_applies view base) i l

      go : (i < view.end) ⊎ (view.end ≤ i) → (i * view.attr.block_size < offset) ⊎ (offset ≤ i * view.attr.block_size)
          → swept (block_from view offset) 0 view.end (opened view x) i ≡ swept (block_from view 0) 0 view.end (opened view base) i
      go (inl l) (inl low) =
          cond-true (within 0 view.end i) _ _ (inside_range view.end i l)
          ∙ cond-false (nat_le offset (i * view.attr.block_size)) _ _ (lt-leb _ _ low)
          ∙ (at l).0 low ∙ ap (λ o. block_at o i) is
      go (inl l) (inr high) =
          cond-true (within 0 view.end i) _ _ (inside_range view.end i l)
          ∙ cond-true (nat_le offset (i * view.attr.block_size)) _ _ (le-leb _ _ high)
          ∙ ap (unwrap_or (view.blocks i)) ((at l).1 high)
          ∙ sym (cond-true (within 0 view.end i) _ _ (inside_range view.end i l)
          ∙ cond-true (nat_le 0 (i * view.attr.block_size)) _ _ (le-leb 0 _ (omega arith)))
      go (inr g) t =
          cond-false (within 0 view.end i) _ _ (outside_range view.end i g) ∙ opened_past view x i g
          ∙ sym (cond-false (within 0 view.end i) _ _ (outside_range view.end i g) ∙ opened_past view base i g)

  settled_same : settled view offset x ≡ settled view 0 base
  settled_same = ap (λ f. Some (record { attr = view.attr; blocks = f })) (fun_ext blocks_same)

-- what stands at the point's number is completed
pub made_same : (shown : Shown) (offset : ℕ) (base whole x : Option Object) → StandsAt shown offset base whole x → whole ≡ made shown 0 base → made shown offset x ≡ made shown 0 base
made_same Left offset base whole x h is = h
made_same Gone offset base whole x h is = refl
made_same (There view) offset base whole x h is = settled_same view offset base whole x h is

pub point_made : (view : View) (point : Point) (x : Option Object) → made_from view point point.object x ≡ made (view.shown point.object) point.offset x
point_made view point x =
    cond-false (nat_lt point.object point.object) _ _ (le-ltb _ _ (omega arith))
    ∙ ap (λ n. made (view.shown point.object) n x) (cond-true (point.object == point.object) _ _ (eq-eqb point.object point.object refl))

pub after_made : (view : View) (point : Point) (k : ℕ) (x : Option Object) → point.object < k → made_from view point k x ≡ made (view.shown k) 0 x
after_made view point k x l =
    cond-false (nat_lt k point.object) _ _ (le-ltb _ _ (omega arith))
    ∙ ap (λ n. made (view.shown k) n x) (cond-false (k == point.object) _ _ (ne_eqb k point.object (λ e. omega (arith, e))))

module _ (view : View) (base : State) (point : Point) (x : State) (v : IsView view) (h : StandsFor view base point x) where
  pub whole_is : h.whole ≡ swept (made_from view origin) 1 (pred number_bound) base
  whole_is = ok_parts _ _ (sym h.is_target ∙ items_apply view origin base v)

  number_same : (k : ℕ) → swept (made_from view point) 1 (pred number_bound) x k ≡ h.whole k
  number_same k = go (is_number k) refl (cases_order k point.object)
    where
      whole_inside : (j : ℕ) → is_number j ≡ true → h.whole j ≡ made (view.shown j) 0 (base j)
      whole_inside j e = ap (λ f. f j) whole_is ∙ cond-true (within 1 (pred number_bound) j) _ _ (number_range number_bound j ∙ e) ∙ from_origin view j (base j)

      whole_outside : (j : ℕ) → is_number j ≡ false → h.whole j ≡ base j
      whole_outside j e = ap (λ f. f j) whole_is ∙ cond-false (within 1 (pred number_bound) j) _ _ (number_range number_bound j ∙ e)

      at_point : is_number point.object ≡ false → x point.object ≡ base point.object
      at_point e = subst (λ s. StandsAt s point.offset (base point.object) (h.whole point.object) (x point.object)) (v.outside point.object e) h.between.here

      go : (t : Bool) → is_number k ≡ t → (k ≡ point.object) ⊎ ((k < point.object) ⊎ (point.object < k))
          → swept (made_from view point) 1 (pred number_bound) x k ≡ h.whole k
      go true e (inl s) =
          cond-true (within 1 (pred number_bound) k) _ _ (number_range number_bound k ∙ e)
          ∙ subst (λ j. made_from view point j (x j) ≡ h.whole j) (sym s)
          (point_made view point (x point.object)
          ∙ made_same (view.shown point.object) point.offset (base point.object) (h.whole point.object) (x point.object) h.between.here (whole_inside point.object (ap is_number (sym s) ∙ e))
          ∙ sym (whole_inside point.object (ap is_number (sym s) ∙ e)))
      go true e (inr (inl l)) =
          cond-true (within 1 (pred number_bound) k) _ _ (number_range number_bound k ∙ e)
          ∙ cond-true (nat_lt k point.object) _ _ (lt-ltb _ _ l) ∙ h.between.below k l
      go true e (inr (inr l)) =
          cond-true (within 1 (pred number_bound) k) _ _ (number_range number_bound k ∙ e)
          ∙ after_made view point k (x k) l ∙ ap (made (view.shown k) 0) (h.between.above k l) ∙ sym (whole_inside k e)
      go false e (inl s) =
          cond-false (within 1 (pred number_bound) k) _ _ (number_range number_bound k ∙ e)
          ∙ subst (λ j. x j ≡ base j) (sym s) (at_point (ap is_number (sym s) ∙ e)) ∙ sym (whole_outside k e)
      go false e (inr (inl l)) = cond-false (within 1 (pred number_bound) k) _ _ (number_range number_bound k ∙ e) ∙ h.between.below k l
      go false e (inr (inr l)) = cond-false (within 1 (pred number_bound) k) _ _ (number_range number_bound k ∙ e) ∙ h.between.above k l ∙ sym (whole_outside k e)

pub resume_exact : ResumeIsExact
resume_exact view base point x v h =
    items_apply view point x v ∙ ap (λ f. Ok f) (fun_ext (number_same view base point x v h)) ∙ sym h.is_target
