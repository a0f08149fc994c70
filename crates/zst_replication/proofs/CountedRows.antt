-- How many rows there are where some are put in, left out or changed.
use Rattle.std.proofs.Common.{◌≡◌, ℕ, suc, ◌+◌, ◌≤◌, Bool, true, false, not, List, [], ◌∷◌, length, map, Option, Some, is_some, refl, sym, ap, ◌∙◌, subst, cond, find, arith}
use Rattle.std.specs.Prelude.{filter}
use Rattle.zst_model.specs.pools.Pool.{inserted}

-- one row more
pub length_inserted : {A : Type 0} (before : A → A → Bool) (row : A) (xs : List A) → length (inserted before row xs) ≡ suc (length xs)
unfolding inserted
length_inserted before row [] = refl
length_inserted {A = A} before row (x ∷ xs) = go (before row x) (length_inserted before row xs)
  where
    go : (b : Bool) → length (inserted before row xs) ≡ suc (length xs) → length (cond b (row ∷ x ∷ xs) (x ∷ inserted before row xs)) ≡ suc (suc (length xs))
    go true rest = refl
    go false rest = ap suc rest

-- fewer rows
pub fewer_left : {A : Type 0} (k : A → Bool) (xs : List A) → length (filter k xs) ≤ length xs
fewer_left k [] = omega arith
fewer_left {A = A} k (x ∷ xs) = go (k x) (fewer_left k xs)
  where
    go : (b : Bool) → length (filter k xs) ≤ length xs → length (cond b (x ∷ filter k xs) (filter k xs)) ≤ suc (length xs)
    go true rest = omega (arith, rest)
    go false rest = omega (arith, rest)

-- what passes a test that is no easier
pub fewer_pass : {A : Type 0} (p q : A → Bool) (xs : List A) → ((x : A) → p x ≡ true → q x ≡ true) → length (filter p xs) ≤ length (filter q xs)
fewer_pass p q [] harder = omega arith
fewer_pass {A = A} p q (x ∷ xs) harder = go (p x) (q x) refl refl (fewer_pass p q xs harder)
  where
    go : (a b : Bool) → p x ≡ a → q x ≡ b → length (filter p xs) ≤ length (filter q xs) → length (cond a (x ∷ filter p xs) (filter p xs)) ≤ length (cond b (x ∷ filter q xs) (filter q xs))
    go true true is also rest = omega (arith, rest)
    go true false is also rest = absurd (let both = sym (harder x is) ∙ also in cc)
    go false true is also rest = omega (arith, rest)
    go false false is also rest = rest

-- what passes among fewer
pub fewer_of_fewer : {A : Type 0} (p k : A → Bool) (xs : List A) → length (filter p (filter k xs)) ≤ length (filter p xs)
fewer_of_fewer p k [] = omega arith
fewer_of_fewer {A = A} p k (x ∷ xs) = go (k x) (p x) refl (fewer_of_fewer p k xs)
  where
    go : (a b : Bool) → p x ≡ b → length (filter p (filter k xs)) ≤ length (filter p xs) → length (filter p (cond a (x ∷ filter k xs) (filter k xs))) ≤ length (cond b (x ∷ filter p xs) (filter p xs))
    go true true is rest = subst (λ (b : Bool). length (cond b (x ∷ filter p (filter k xs)) (filter p (filter k xs))) ≤ suc (length (filter p xs))) (sym is) (omega (arith, rest))
    go true false is rest = subst (λ (b : Bool). length (cond b (x ∷ filter p (filter k xs)) (filter p (filter k xs))) ≤ length (filter p xs)) (sym is) rest
    go false true is rest = omega (arith, rest)
    go false false is rest = rest

-- one row counts where it passes
abbrev pub one_if : Bool → ℕ
one_if passes = cond passes 1 0

-- what passes of one row more
pub pass_inserted : {A : Type 0} (p : A → Bool) (before : A → A → Bool) (row : A) (xs : List A) → length (filter p (inserted before row xs)) ≡ one_if (p row) + length (filter p xs)
unfolding inserted
pass_inserted {A = A} p before row [] = first (p row)
  where
    first : (b : Bool) → length (cond b (row ∷ []) []) ≡ one_if b + 0
    first true = refl
    first false = refl
pass_inserted {A = A} p before row (x ∷ xs) = go (before row x) (pass_inserted p before row xs)
  where
    first : (b : Bool) (ys : List A) → length (cond b (row ∷ ys) ys) ≡ one_if b + length ys
    first true ys = omega arith
    first false ys = omega arith

    later : (b : Bool) (n : ℕ) (ys zs : List A) → length ys ≡ n + length zs → length (cond b (x ∷ ys) ys) ≡ n + length (cond b (x ∷ zs) zs)
    later true n ys zs rest = omega (arith, rest)
    later false n ys zs rest = rest

    go : (b : Bool) → length (filter p (inserted before row xs)) ≡ one_if (p row) + length (filter p xs)
        → length (filter p (cond b (row ∷ x ∷ xs) (x ∷ inserted before row xs))) ≡ one_if (p row) + length (filter p (x ∷ xs))
    go true rest = first (p row) (filter p (x ∷ xs))
    go false rest = later (p x) (one_if (p row)) (filter p (inserted before row xs)) (filter p xs) rest

-- where one that is found is left out, it doesn't count
pub without_found : {A : Type 0} (p t : A → Bool) (xs : List A) (row : A) → find t xs ≡ Some row → one_if (p row) + length (filter p (filter (λ x. not (t x)) xs)) ≤ length (filter p xs)
without_found p t [] row found = absurd cc
without_found {A = A} p t (x ∷ xs) row found = go (t x) refl found (without_found p t xs row)
  where
    rest : List A
    rest = filter (λ y. not (t y)) xs

    counted : (b : Bool) (ys zs : List A) → length ys ≤ length zs → one_if b + length ys ≤ length (cond b (x ∷ zs) zs)
    counted true ys zs less = omega (arith, less)
    counted false ys zs less = omega (arith, less)

    passed_by : (b : Bool) (n : ℕ) (ys zs : List A) → n + length ys ≤ length zs → n + length (cond b (x ∷ ys) ys) ≤ length (cond b (x ∷ zs) zs)
    passed_by true n ys zs less = omega (arith, less)
    passed_by false n ys zs less = less

    go : (b : Bool) → t x ≡ b → cond b (Some x) (find t xs) ≡ Some row → (find t xs ≡ Some row → one_if (p row) + length (filter p rest) ≤ length (filter p xs))
        → one_if (p row) + length (filter p (cond (not b) (x ∷ rest) rest)) ≤ length (filter p (x ∷ xs))
    go true is same on =
        let own : x ≡ row = cc in
        subst (λ (y : A). one_if (p y) + length (filter p rest) ≤ length (filter p (x ∷ xs))) own (counted (p x) (filter p rest) (filter p xs) (fewer_of_fewer p (λ y. not (t y)) xs))
    go false is same on = passed_by (p x) (one_if (p row)) (filter p rest) (filter p xs) (on same)

-- ---- rows that are changed

-- a change that a test doesn't see leaves what is found, or not
pub found_mapped : {A : Type 0} (t : A → Bool) (f : A → A) (xs : List A) → ((x : A) → t (f x) ≡ t x) → is_some (find t (map f xs)) ≡ is_some (find t xs)
found_mapped t f [] same = refl
found_mapped {A = A} t f (x ∷ xs) same = ap (λ (b : Bool). is_some (cond b (Some (f x)) (find t (map f xs)))) (same x) ∙ go (t x) (found_mapped t f xs same)
  where
    go : (b : Bool) → is_some (find t (map f xs)) ≡ is_some (find t xs) → is_some (cond b (Some (f x)) (find t (map f xs))) ≡ is_some (cond b (Some x) (find t xs))
    go true rest = refl
    go false rest = rest

-- and a row more hides none
pub still_found : {A : Type 0} (t : A → Bool) (before : A → A → Bool) (row : A) (xs : List A) → is_some (find t xs) ≡ true → is_some (find t (inserted before row xs)) ≡ true
unfolding inserted
still_found t before row [] found = absurd cc
still_found {A = A} t before row (x ∷ xs) found = go (before row x) found (still_found t before row xs)
  where
    first : (b : Bool) (o : Option A) → is_some o ≡ true → is_some (cond b (Some row) o) ≡ true
    first true o is = refl
    first false o is = is

    later : (b : Bool) → is_some (cond b (Some x) (find t xs)) ≡ true → (is_some (find t xs) ≡ true → is_some (find t (inserted before row xs)) ≡ true)
        → is_some (cond b (Some x) (find t (inserted before row xs))) ≡ true
    later true is rest = refl
    later false is rest = rest is

    go : (b : Bool) → is_some (find t (x ∷ xs)) ≡ true → (is_some (find t xs) ≡ true → is_some (find t (inserted before row xs)) ≡ true)
        → is_some (find t (cond b (row ∷ x ∷ xs) (x ∷ inserted before row xs))) ≡ true
    go true is rest = first (t row) (find t (x ∷ xs)) is
    go false is rest = later (t x) is rest
