-- The first extent that has so many sectors, and what is left once they are taken from it.
use Rattle.std.proofs.Common.{◌≡◌, inl, inr, ℕ, zero, suc, ◌+◌, ◌-◌, ◌<◌, ◌≤◌, ◌==◌, Bool, true, false, cond, leb, ltb, nat_le, Option, Some, None, List, [], ◌∷◌, ◌++◌, length, get_or, set, refl, sym, ◌∙◌, ap, subst, arith}
use Rattle.std.specs.List.{position, position_or_len, remove}
use Rattle.std.proofs.lemmas.Bool.{cases_Bool, cond-true, cond-false, lt-ltb, le-ltb, leb-true, leb-false, ltb-false, eq-eqb, ne_eqb}
use Rattle.std.proofs.lemmas.List.Quantifiers.{position-Some}
use Rattle.std.proofs.lemmas.List.Sums.{fails_before_first}
use Rattle.zst_space.specs.FreeSectors.{FreeSectors, Rise, IsSpaceFrom, greatest, largest_of}
use Rattle.zst_space.specs.TakenExtents.{shortened, place_in_extents, extents_without, end_without, without}
use Rattle.zst_space.proofs.FreeSectorsLaws.{Rise-end}
use Rattle.zst_space.specs.declared.space.Extent.{Extent}

abbrev pub has_so_many : ℕ → Extent → Bool
has_so_many count extent = nat_le count extent.count

-- the extents after the one at this place gave its first sectors
abbrev pub without_at : List Extent → ℕ → Extent → ℕ → List Extent
without_at extents i extent count =
    cond (count == extent.count) (remove extents i) (set extents i (record { first = extent.first + count; count = extent.count - count }))

pub record FitsAt (extents : List Extent) (end count i : ℕ) (extent : Extent) : Type 0 where
  pub first : place_in_extents extents end count ≡ extent.first
  pub end_is : end_without extents end count ≡ end
  pub rest : extents_without extents count ≡ without_at extents i extent count

pub record FitsNone (extents : List Extent) (end count : ℕ) : Type 0 where
  pub first : place_in_extents extents end count ≡ end
  pub end_is : end_without extents end count ≡ end + count
  pub rest : extents_without extents count ≡ extents

cons_cond : (b : Bool) (e : Extent) (x y : List Extent) → e ∷ cond b x y ≡ cond b (e ∷ x) (e ∷ y)
cons_cond true e x y = refl
cons_cond false e x y = refl

shortened_cond : (b : Bool) (e : Extent) (es : List Extent) → cond b [] (e ∷ []) ++ es ≡ cond b es (e ∷ es)
shortened_cond true e es = refl
shortened_cond false e es = refl

pub fits_at : (extents : List Extent) (end count i : ℕ) (d : Extent) → i < length extents → has_so_many count (get_or extents i d) ≡ true
    → ((k : ℕ) → k < i → has_so_many count (get_or extents k d) ≡ false) → FitsAt extents end count i (get_or extents i d)
fits_at [] end count i d inside fits before = absurd (omega arith)
fits_at (e ∷ es) end count zero d inside fits before = record {
  first = cond-true (has_so_many count e) e.first (place_in_extents es end count) fits;
  end_is = cond-true (has_so_many count e) end (end_without es end count) fits;
  rest = cond-true (has_so_many count e) (shortened e count ++ es) (e ∷ extents_without es count) fits ∙ shortened_cond (count == e.count) (record { first = e.first + count; count = e.count - count }) es;
}
fits_at (e ∷ es) end count (suc i) d inside fits before =
    let no = before 0 (omega arith) in
    let later = fits_at es end count i d (omega arith) fits (λ k lt. before (suc k) (omega arith)) in
    record {
      first = cond-false (has_so_many count e) e.first (place_in_extents es end count) no ∙ later.first;
      end_is = cond-false (has_so_many count e) end (end_without es end count) no ∙ later.end_is;
      rest = cond-false (has_so_many count e) (shortened e count ++ es) (e ∷ extents_without es count) no ∙ ap (λ (l : List Extent). e ∷ l) later.rest ∙ cons_cond (count == (get_or es i d).count) e _ _;
    }

pub fits_none : (extents : List Extent) (end count : ℕ) (d : Extent) → ((k : ℕ) → k < length extents → has_so_many count (get_or extents k d) ≡ false) → FitsNone extents end count
fits_none [] end count d before = record { first = refl; end_is = refl; rest = refl }
fits_none (e ∷ es) end count d before =
    let no = before 0 (omega arith) in
    let later = fits_none es end count d (λ k lt. before (suc k) (omega arith)) in
    record {
      first = cond-false (has_so_many count e) e.first (place_in_extents es end count) no ∙ later.first;
      end_is = cond-false (has_so_many count e) end (end_without es end count) no ∙ later.end_is;
      rest = cond-false (has_so_many count e) (shortened e count ++ es) (e ∷ extents_without es count) no ∙ ap (λ (l : List Extent). e ∷ l) later.rest;
    }

pub position_fits : (extents : List Extent) (end count i : ℕ) (d : Extent) → position (has_so_many count) extents ≡ Some i → (i < length extents) × FitsAt extents end count i (get_or extents i d)
position_fits extents end count i d is =
    let at = position-Some (has_so_many count) extents i d is in
    (at.0, fits_at extents end count i d at.0 at.1 at.2)

none_at_end : (p : Extent → Bool) (extents : List Extent) → position p extents ≡ None → length extents ≤ position_or_len p extents
none_at_end p extents is = elim (cases_Bool (ltb (position_or_len p extents) (length extents))) [
  | inl here ↦ let e : Some (position_or_len p extents) ≡ None = sym (cond-true (ltb (position_or_len p extents) (length extents)) (Some (position_or_len p extents)) None here) ∙ is in cc
  | inr past ↦ ltb-false _ _ past
]

pub position_fits_none : (extents : List Extent) (end count : ℕ) (d : Extent) → position (has_so_many count) extents ≡ None → FitsNone extents end count
position_fits_none extents end count d is =
    let all = none_at_end (has_so_many count) extents is in
    fits_none extents end count d (λ k lt. fails_before_first (has_so_many count) extents k d (omega (arith, all, lt)))

-- what the extent at this place gave, by what the code keeps
pub cut_is : (space : FreeSectors) (count i : ℕ) (e : Extent) → e ≡ get_or space.free i e → position (has_so_many count) space.free ≡ Some i → (count ≤ e.count) × FitsAt space.free space.end count i e
cut_is space count i e is at =
    let fits = position_fits space.free space.end count i e at in
    let here = position-Some (has_so_many count) space.free i e at in
    (leb-true _ _ (ap (has_so_many count) is ∙ here.1), subst (λ (x : Extent). FitsAt space.free space.end count i x) (sym is) fits.1)

extent_inside : (from end i : ℕ) (extents : List Extent) (d : Extent) → Rise from extents end → i < length extents → (get_or extents i d).first + (get_or extents i d).count ≤ end
extent_inside from end i [] d rise lt = absurd (omega arith)
extent_inside from end zero (e ∷ es) d rise lt = Rise-end (e.first + e.count) end es rise.1
extent_inside from end (suc i) (e ∷ es) d rise lt = extent_inside (e.first + e.count) end i es d rise.1 (omega arith)

pub cut_inside : (space : FreeSectors) (count i : ℕ) (e : Extent) → e ≡ get_or space.free i e → IsSpaceFrom 0 space → position (has_so_many count) space.free ≡ Some i → e.first + e.count ≤ space.sectors
cut_inside space count i e is rises at =
    let here = position-Some (has_so_many count) space.free i e at in
    let inside : e.first + e.count ≤ space.end = subst (λ (x : Extent). x.first + x.count ≤ space.end) (sym is) (extent_inside 0 space.end i space.free e rises.extents here.0) in
    omega (arith, inside, rises.end)

pub without_is : (space : FreeSectors) (count end : ℕ) (free : List Extent) → end_without space.free space.end count ≡ end → extents_without space.free count ≡ free
    → record { end = end; sectors = space.sectors; free = free } ≡ without space count
without_is space count end free end_is free_is =
    sym (ap (λ (n : ℕ). let s : FreeSectors = record { end = n; sectors = space.sectors; free = extents_without space.free count } in s) end_is
    ∙ ap (λ (l : List Extent). let s : FreeSectors = record { end = end; sectors = space.sectors; free = l } in s) free_is)

-- where no extent has so many sectors, what is taken stands at the end
pub pass_is : (space : FreeSectors) (count : ℕ) → position (has_so_many count) space.free ≡ None
    → (place_in_extents space.free space.end count ≡ space.end) × (record { end = space.end + count; sectors = space.sectors; free = space.free } ≡ without space count)
pass_is space count none =
    let fits = position_fits_none space.free space.end count (record { first = 0; count = 0 }) none in
    (fits.first, without_is space count (space.end + count) space.free fits.end_is fits.rest)

greatest_below : (extents : List Extent) (least count : ℕ) (d : Extent) → ((k : ℕ) → k < length extents → has_so_many count (get_or extents k d) ≡ false) → count ≤ greatest extents least → count ≤ least
greatest_below [] least count d before le = le
greatest_below (e ∷ es) least count d before le =
    greatest_below es least count d (λ k lt. before (suc k) (omega arith)) (omega (arith, le, leb-false _ _ (before 0 (omega arith))))

-- and there are so many from the end on, where there are so many anywhere
pub none_fits : (space : FreeSectors) (count : ℕ) → position (has_so_many count) space.free ≡ None → count ≤ largest_of space → space.end ≤ space.sectors → space.end + count ≤ space.sectors
none_fits space count none fits le =
    let d : Extent = record { first = 0; count = 0 } in
    let all = none_at_end (has_so_many count) space.free none in
    let rest = greatest_below space.free (space.sectors - space.end) count d (λ k lt. fails_before_first (has_so_many count) space.free k d (omega (arith, all, lt))) fits in
    omega (arith, rest, le)

-- an extent that is taken whole goes
pub cut_whole : (space : FreeSectors) (count i : ℕ) (e : Extent) → FitsAt space.free space.end count i e → count ≡ e.count
    → record { end = space.end; sectors = space.sectors; free = remove space.free i } ≡ without space count
cut_whole space count i e fits whole =
    without_is space count space.end (remove space.free i) fits.end_is
    (fits.rest ∙ cond-true (count == e.count) (remove space.free i) (set space.free i (record { first = e.first + count; count = e.count - count })) (eq-eqb _ _ whole))

-- of any other one the rest is left
pub cut_part : (space : FreeSectors) (count i : ℕ) (e : Extent) → FitsAt space.free space.end count i e → (count ≡ e.count → ⊥)
    → record { end = space.end; sectors = space.sectors; free = set space.free i (record { first = e.first + count; count = e.count - count }) } ≡ without space count
cut_part space count i e fits part =
    without_is space count space.end (set space.free i (record { first = e.first + count; count = e.count - count })) fits.end_is
    (fits.rest ∙ cond-false (count == e.count) (remove space.free i) (set space.free i (record { first = e.first + count; count = e.count - count })) (ne_eqb _ _ part))
