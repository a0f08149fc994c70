-- Ranges that reach past what a state has.
use Rattle.std.proofs.Common.{inl, inr, ◌⊎◌, ◌≡◌, ℕ, ◌*◌, ◌<◌, ◌≤◌, Bool, true, false, None, Ok, refl, sym, ap, ◌∙◌, nat_lt, nat_le, ◌&&◌, ◌||◌, if◌then◌else◌}
use Rattle.std.proofs.Math.Path.{fun_ext}
use Rattle.std.proofs.lemmas.Bool.{cases_lt, lt-ltb}
use Rattle.zst_model.specs.declared.refusals.apply_fault.ApplyFault.TheVariants.{Unaligned}
use Rattle.zst_model.specs.states.State.{Hole, Object, IsObject, is_number, index_bound}
use Rattle.zst_model.specs.states.AppliedItems.{apply, apply_change, is_unaligned, unless, with_blocks, within}
use Rattle.zst_model.proofs.ObjectNumbers.{absent_outside}
use Rattle.zst_laws.specs.Ranges.{NumbersAreCut, IndicesAreCut}

-- what is cut from a test changes nothing where the old value is the new one there
cut_same : {A : Type 0} (test inside : Bool) (new old : A) → (inside ≡ false → old ≡ new) → (if test then new else old) ≡ (if test && inside then new else old)
cut_same false inside new old h = refl
cut_same true true new old h = refl
cut_same true false new old h = sym (h refl)

pub numbers_cut : NumbersAreCut
unfolding apply
numbers_cut state first count s = ap (λ f. Ok f) (fun_ext (λ k. cut_same (within first count k) (is_number k) None (state k) (absent_outside state s k)))

-- an index from the bound on is a hole
far_hole : (object : Object) (i : ℕ) → IsObject object → nat_lt i index_bound ≡ false → object.blocks i ≡ Hole
far_hole object i o e = go (cases_lt i index_bound)
  where
    go : (i < index_bound) ⊎ (index_bound ≤ i) → object.blocks i ≡ Hole
    go (inl l) = absurd (let both : true ≡ false = sym (lt-ltb i index_bound l) ∙ e in cc)
    go (inr l) = o.bounded i l

pub indices_cut : IndicesAreCut
unfolding apply_change
indices_cut object offset length o =
    let size = object.attr.block_size in (
      ap (λ f. unless (is_unaligned size offset || is_unaligned size length) Unaligned (with_blocks object f))
          (fun_ext (λ i. cut_same (within offset length (i * size)) (nat_lt i index_bound) Hole (object.blocks i) (far_hole object i o))),
      ap (λ f. unless (is_unaligned size offset) Unaligned (with_blocks object f))
          (fun_ext (λ i. cut_same (nat_le offset (i * size)) (nat_lt i index_bound) Hole (object.blocks i) (far_hole object i o))),
    )
