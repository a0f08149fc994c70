-- What an extent that is taken changes.
use Rattle.std.proofs.Common.{◌≡◌, ◌⊎◌, inl, inr, ⊎_elim, ℕ, ◌+◌, ◌-◌, ◌<◌, ◌≤◌, ◌==◌, max, Bool, true, false, cond, nat_le, List, [], ◌∷◌, ◌++◌, refl, sym, ◌∙◌, ap, subst, arith}
use Rattle.std.proofs.lemmas.Bool.{cases_Bool, cond-true, cond-false, leb-true, leb-false, eqb-true, cases_lt}
use Rattle.zst_space.specs.FreeSectors.{FreeSectors, IsWithin, IsInSome, IsFree, Rise, IsSpaceFrom, greatest, largest_of, total, room}
use Rattle.zst_space.proofs.FreeSectorsLaws.{Rise-end, Rise-earlier, Rise-above}
use Rattle.zst_space.specs.TakenExtents.{shortened, place_in_extents, extents_without, end_without, without, place_of, Takes}
use Rattle.zst_space.specs.declared.space.Extent.{Extent}

-- the sector is in an extent, or not below the end
abbrev Free : List Extent → ℕ → ℕ → Type 0
Free extents end sector = IsInSome extents sector ⊎ (end ≤ sector)

-- the extents and the end before and after one was taken from this sector on
record TakesExtent (from sectors : ℕ) (old : List Extent) (end : ℕ) (new : List Extent) (new_end first count : ℕ) : Type 0 where
  pub above : from ≤ first
  pub inside : first + count ≤ sectors
  pub was_free : (sector : ℕ) → IsWithin first count sector → Free old end sector
  pub is_gone : (sector : ℕ) → IsWithin first count sector → Free new new_end sector → ⊥
  pub fewer : (sector : ℕ) → Free new new_end sector → Free old end sector
  pub others : (sector : ℕ) → Free old end sector → IsWithin first count sector ⊎ Free new new_end sector
  pub room_is : total new + (sectors - new_end) + count ≡ total old + (sectors - end)
  pub rise : Rise from new new_end
  pub end_inside : new_end ≤ sectors

-- past all extents
takes_past : (from sectors end count : ℕ) → from ≤ end → end + count ≤ sectors → TakesExtent from sectors [] end [] (end + count) end count
takes_past from sectors end count le fits = record {
  above = le;
  inside = fits;
  was_free = λ s within. inr within.0;
  is_gone = λ s within free. ⊎_elim (λ none. none) (λ past. omega (arith, within.1, past)) free;
  fewer = λ s free. ⊎_elim (λ none. absurd none) (λ past. inr (omega (arith, past))) free;
  others = λ s free. ⊎_elim (λ none. absurd none) (λ past. elim (cases_lt s (end + count)) [ inl lt ↦ inl (past, lt) | inr ge ↦ inr (inr ge) ]) free;
  room_is = omega (arith, le, fits);
  rise = omega (arith, le, fits);
  end_inside = fits;
}

-- all of an extent
takes_whole : (from sectors end : ℕ) (e : Extent) (es : List Extent) → Rise from (e ∷ es) end → end ≤ sectors → TakesExtent from sectors (e ∷ es) end es end e.first e.count
takes_whole from sectors end e es rise le = record {
  above = rise.0;
  inside = omega (arith, le, Rise-end (e.first + e.count) end es rise.1);
  was_free = λ s within. inl (inl within);
  is_gone = λ s within free. omega (arith, within.1, Rise-above (e.first + e.count) end s es rise.1 free);
  fewer = λ s free. ⊎_elim (λ later. inl (inr later)) (λ past. inr past) free;
  others = λ s free. ⊎_elim (λ some. ⊎_elim (λ here. inl here) (λ later. inr (inl later)) some) (λ past. inr (inr past)) free;
  room_is = omega arith;
  rise = Rise-earlier (e.first + e.count) from end es (omega (arith, rise.0)) rise.1;
  end_inside = le;
}

-- the first sectors of an extent
takes_part : (from sectors end count : ℕ) (e : Extent) (es : List Extent) → Rise from (e ∷ es) end → end ≤ sectors → count ≤ e.count
    → TakesExtent from sectors (e ∷ es) end (record { first = e.first + count; count = e.count - count } ∷ es) end e.first count
takes_part from sectors end count e es rise le fits =
    let same : e.first + count + (e.count - count) ≡ e.first + e.count = omega (arith, fits) in
    record {
      above = rise.0;
      inside = omega (arith, le, fits, Rise-end (e.first + e.count) end es rise.1);
      was_free = λ s within. inl (inl (within.0, omega (arith, within.1, fits)));
      is_gone = λ s within free. ⊎_elim (λ some. ⊎_elim (λ here. omega (arith, within.1, here.0)) (λ later. omega (arith, within.1, fits, Rise-above (e.first + e.count) end s es rise.1 (inl later))) some) (λ past. omega (arith, within.1, fits, past, Rise-end (e.first + e.count) end es rise.1)) free;
      fewer = λ s free. ⊎_elim (λ some. ⊎_elim (λ here. inl (inl (omega (arith, here.0), omega (arith, here.1, same)))) (λ later. inl (inr later)) some) (λ past. inr past) free;
      others = λ s free. ⊎_elim (λ some. ⊎_elim (λ here. elim (cases_lt s (e.first + count)) [ inl lt ↦ inl (here.0, lt) | inr ge ↦ inr (inl (inl (ge, omega (arith, here.1, same)))) ]) (λ later. inr (inl (inr later))) some) (λ past. inr (inr past)) free;
      room_is = omega (arith, fits);
      rise = (omega (arith, rise.0), subst (λ (n : ℕ). Rise n es end) (sym same) rise.1);
      end_inside = le;
    }

-- a later extent
takes_later : (from sectors end end2 first count : ℕ) (e : Extent) (es es2 : List Extent) → from ≤ e.first → TakesExtent (e.first + e.count) sectors es end es2 end2 first count
    → TakesExtent from sectors (e ∷ es) end (e ∷ es2) end2 first count
takes_later from sectors end end2 first count e es es2 le taken = record {
  above = omega (arith, le, taken.above);
  inside = taken.inside;
  was_free = λ s within. ⊎_elim (λ later. inl (inr later)) (λ past. inr past) (taken.was_free s within);
  is_gone = λ s within free. ⊎_elim (λ some. ⊎_elim (λ here. omega (arith, within.0, here.1, taken.above)) (λ later. taken.is_gone s within (inl later)) some) (λ past. taken.is_gone s within (inr past)) free;
  fewer = λ s free. ⊎_elim (λ some. ⊎_elim (λ here. inl (inl here)) (λ later. ⊎_elim (λ l. inl (inr l)) (λ p. inr p) (taken.fewer s (inl later))) some) (λ past. ⊎_elim (λ l. inl (inr l)) (λ p. inr p) (taken.fewer s (inr past))) free;
  others = λ s free. ⊎_elim (λ some. ⊎_elim (λ here. inr (inl (inl here))) (λ later. deeper s (taken.others s (inl later))) some) (λ past. deeper s (taken.others s (inr past))) free;
  room_is = omega (arith, taken.room_is);
  rise = (le, taken.rise);
  end_inside = taken.end_inside;
}
  where
    deeper : (s : ℕ) → IsWithin first count s ⊎ Free es2 end2 s → IsWithin first count s ⊎ Free (e ∷ es2) end2 s
    deeper s (inl within) = inl within
    deeper s (inr (inl later)) = inr (inl (inr later))
    deeper s (inr (inr past)) = inr (inr past)

takes_here : (from sectors end count : ℕ) (e : Extent) (es : List Extent) → Rise from (e ∷ es) end → end ≤ sectors → count ≤ e.count
    → TakesExtent from sectors (e ∷ es) end (shortened e count ++ es) end e.first count
takes_here from sectors end count e es rise le fits = elim (cases_Bool (count == e.count)) [
  | inl whole ↦
      let n : e.count ≡ count = sym (eqb-true _ _ whole) in
      subst (λ (k : ℕ). TakesExtent from sectors (e ∷ es) end (shortened e count ++ es) end e.first k) n
      (subst (λ (l : List Extent). TakesExtent from sectors (e ∷ es) end l end e.first e.count) (sym (ap (λ (l : List Extent). l ++ es) (cond-true (count == e.count) [] (record { first = e.first + count; count = e.count - count } ∷ []) whole)))
      (takes_whole from sectors end e es rise le))
  | inr part ↦
      subst (λ (l : List Extent). TakesExtent from sectors (e ∷ es) end l end e.first count) (sym (ap (λ (l : List Extent). l ++ es) (cond-false (count == e.count) [] (record { first = e.first + count; count = e.count - count } ∷ []) part)))
      (takes_part from sectors end count e es rise le fits)
]

takes_extent : (from sectors end count : ℕ) (extents : List Extent) → Rise from extents end → end ≤ sectors → count ≤ greatest extents (sectors - end)
    → TakesExtent from sectors extents end (extents_without extents count) (end_without extents end count) (place_in_extents extents end count) count
takes_extent from sectors end count [] rise le fits = takes_past from sectors end count rise (omega (arith, le, fits))
takes_extent from sectors end count (e ∷ es) rise le fits = elim (cases_Bool (nat_le count e.count)) [
  | inl here ↦ rw (cond-true (nat_le count e.count) (shortened e count ++ es) (e ∷ extents_without es count) here, cond-true (nat_le count e.count) end (end_without es end count) here, cond-true (nat_le count e.count) e.first (place_in_extents es end count) here)
      (takes_here from sectors end count e es rise le (leb-true _ _ here))
  | inr later ↦ rw (cond-false (nat_le count e.count) (shortened e count ++ es) (e ∷ extents_without es count) later, cond-false (nat_le count e.count) end (end_without es end count) later, cond-false (nat_le count e.count) e.first (place_in_extents es end count) later)
      (takes_later from sectors end _ _ count e es _ rise.0 (takes_extent (e.first + e.count) sectors end count es rise.1 le (omega (arith, fits, leb-false _ _ later))))
]

pub takes : (space : FreeSectors) (count : ℕ) → IsSpaceFrom 0 space → count ≤ largest_of space → Takes space (without space count) (place_of space count) count
takes space count is fits =
    let taken = takes_extent 0 space.sectors space.end count space.free is.extents is.end fits in
    record {
      sectors = refl;
      inside = taken.inside;
      was_free = taken.was_free;
      is_gone = taken.is_gone;
      fewer = taken.fewer;
      others = taken.others;
      room_is = taken.room_is;
    }

pub keeps : (from : ℕ) (space : FreeSectors) (count : ℕ) → IsSpaceFrom from space → count ≤ largest_of space → IsSpaceFrom from (without space count)
keeps from space count is fits =
    let taken = takes_extent from space.sectors space.end count space.free is.extents is.end fits in
    record { end = taken.end_inside; extents = taken.rise }
