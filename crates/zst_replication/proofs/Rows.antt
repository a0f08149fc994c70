-- Rows that are left out or put in.
use Rattle.std.proofs.Common.{◌≡◌, Bool, true, false, not, List, [], ◌∷◌, Some, None, refl, sym, ap, ◌∙◌, cond, find, ◌&&◌}
use Rattle.std.specs.Prelude.{filter}
use Rattle.zst_model.specs.pools.Pool.{inserted}

-- where none passes a test, all fail it
pub others_all : {A : Type 0} (t : A → Bool) (xs : List A) → find t xs ≡ None → filter (λ x. not (t x)) xs ≡ xs
others_all t [] none = refl
others_all {A = A} t (x ∷ xs) none = go (t x) none (others_all t xs)
  where
    go : (b : Bool) → cond b (Some x) (find t xs) ≡ None → (find t xs ≡ None → filter (λ y. not (t y)) xs ≡ xs) → cond (not b) (x ∷ filter (λ y. not (t y)) xs) (filter (λ y. not (t y)) xs) ≡ x ∷ xs
    go true n rest = absurd cc
    go false n rest = ap (λ (ys : List A). x ∷ ys) (rest n)

-- the one that passes it is left out again
pub others_inserted : {A : Type 0} (t : A → Bool) (before : A → A → Bool) (row : A) (xs : List A) → t row ≡ true → find t xs ≡ None → filter (λ x. not (t x)) (inserted before row xs) ≡ xs
unfolding inserted
others_inserted {A = A} t before row [] own none = ap (λ (b : Bool). cond (not b) (row ∷ []) []) own
others_inserted {A = A} t before row (x ∷ xs) own none = go (before row x) (others_inserted t before row xs own)
  where
    first : filter (λ y. not (t y)) (row ∷ x ∷ xs) ≡ x ∷ xs
    first = ap (λ (b : Bool). cond (not b) (row ∷ filter (λ y. not (t y)) (x ∷ xs)) (filter (λ y. not (t y)) (x ∷ xs))) own ∙ others_all t (x ∷ xs) none

    later : (b : Bool) → cond b (Some x) (find t xs) ≡ None → (find t xs ≡ None → filter (λ y. not (t y)) (inserted before row xs) ≡ xs)
        → cond (not b) (x ∷ filter (λ y. not (t y)) (inserted before row xs)) (filter (λ y. not (t y)) (inserted before row xs)) ≡ x ∷ xs
    later true n rest = absurd cc
    later false n rest = ap (λ (ys : List A). x ∷ ys) (rest n)

    go : (b : Bool) → (find t xs ≡ None → filter (λ y. not (t y)) (inserted before row xs) ≡ xs) → filter (λ y. not (t y)) (cond b (row ∷ x ∷ xs) (x ∷ inserted before row xs)) ≡ x ∷ xs
    go true rest = first
    go false rest = later (t x) none rest

-- one that fails a test isn't seen behind it
pub filter_inserted : {A : Type 0} (k : A → Bool) (before : A → A → Bool) (row : A) (xs : List A) → k row ≡ false → filter k (inserted before row xs) ≡ filter k xs
unfolding inserted
filter_inserted k before row [] fails = ap (λ (b : Bool). cond b (row ∷ []) []) fails
filter_inserted {A = A} k before row (x ∷ xs) fails = go (before row x) (filter_inserted k before row xs fails)
  where
    go : (b : Bool) → filter k (inserted before row xs) ≡ filter k xs → filter k (cond b (row ∷ x ∷ xs) (x ∷ inserted before row xs)) ≡ filter k (x ∷ xs)
    go true rest = ap (λ (b : Bool). cond b (row ∷ filter k (x ∷ xs)) (filter k (x ∷ xs))) fails
    go false rest = ap (λ (ys : List A). cond (k x) (x ∷ ys) ys) rest

-- one that passes both tests is found, where no other passes the first
pub found_inserted : {A : Type 0} (t k : A → Bool) (before : A → A → Bool) (row : A) (xs : List A) → t row ≡ true → k row ≡ true → find t xs ≡ None → find t (filter k (inserted before row xs)) ≡ Some row
unfolding inserted
found_inserted t k before row [] own kept none = ap (λ (b : Bool). find t (cond b (row ∷ []) [])) kept ∙ ap (λ (b : Bool). cond b (Some row) None) own
found_inserted {A = A} t k before row (x ∷ xs) own kept none = go (before row x) (found_inserted t k before row xs own kept)
  where
    later : (a b : Bool) → t x ≡ a → cond a (Some x) (find t xs) ≡ None → (find t xs ≡ None → find t (filter k (inserted before row xs)) ≡ Some row)
        → find t (cond b (x ∷ filter k (inserted before row xs)) (filter k (inserted before row xs))) ≡ Some row
    later true b is n rest = absurd cc
    later false true is n rest = ap (λ (b : Bool). cond b (Some x) (find t (filter k (inserted before row xs)))) is ∙ rest n
    later false false is n rest = rest n

    go : (b : Bool) → (find t xs ≡ None → find t (filter k (inserted before row xs)) ≡ Some row) → find t (filter k (cond b (row ∷ x ∷ xs) (x ∷ inserted before row xs))) ≡ Some row
    go true rest = ap (λ (b : Bool). find t (cond b (row ∷ filter k (x ∷ xs)) (filter k (x ∷ xs)))) kept ∙ ap (λ (b : Bool). cond b (Some row) (find t (filter k (x ∷ xs)))) own
    go false rest = later (t x) (k x) refl none rest

-- tests in either order
pub filter_twice : {A : Type 0} (p k : A → Bool) (xs : List A) → filter p (filter k xs) ≡ filter k (filter p xs)
filter_twice p k [] = refl
filter_twice {A = A} p k (x ∷ xs) = go (p x) (k x) refl refl (filter_twice p k xs)
  where
    go : (a b : Bool) → p x ≡ a → k x ≡ b → filter p (filter k xs) ≡ filter k (filter p xs)
        → filter p (cond b (x ∷ filter k xs) (filter k xs)) ≡ filter k (cond a (x ∷ filter p xs) (filter p xs))
    go true true is also rest =
        ap (λ (c : Bool). cond c (x ∷ filter p (filter k xs)) (filter p (filter k xs))) is ∙ ap (λ (ys : List A). x ∷ ys) rest
        ∙ sym (ap (λ (c : Bool). cond c (x ∷ filter k (filter p xs)) (filter k (filter p xs))) also)
    go true false is also rest = rest ∙ sym (ap (λ (c : Bool). cond c (x ∷ filter k (filter p xs)) (filter k (filter p xs))) also)
    go false true is also rest = ap (λ (c : Bool). cond c (x ∷ filter p (filter k xs)) (filter p (filter k xs))) is ∙ rest
    go false false is also rest = rest

-- what passes a narrower test passes it behind a wider one
pub filter_narrow : {A : Type 0} (k : A → Bool) (t : A → Bool) (xs : List A) → filter k (filter (λ x. not (t x && not (k x))) xs) ≡ filter k xs
filter_narrow k t [] = refl
filter_narrow {A = A} k t (x ∷ xs) = go (t x) (k x) refl (filter_narrow k t xs)
  where
    rest : List A
    rest = filter (λ y. not (t y && not (k y))) xs

    go : (a b : Bool) → k x ≡ b → filter k rest ≡ filter k xs → filter k (cond (not (a && not b)) (x ∷ rest) rest) ≡ cond b (x ∷ filter k xs) (filter k xs)
    go true true is same = ap (λ (c : Bool). cond c (x ∷ filter k rest) (filter k rest)) is ∙ ap (λ (ys : List A). x ∷ ys) same
    go true false is same = same
    go false true is same = ap (λ (c : Bool). cond c (x ∷ filter k rest) (filter k rest)) is ∙ ap (λ (ys : List A). x ∷ ys) same
    go false false is same = ap (λ (c : Bool). cond c (x ∷ filter k rest) (filter k rest)) is ∙ same

-- where those that pass it are left out none does
pub none_left : {A : Type 0} (t : A → Bool) (xs : List A) → find t (filter (λ x. not (t x)) xs) ≡ None
none_left t [] = refl
none_left {A = A} t (x ∷ xs) = go (t x) refl (none_left t xs)
  where
    go : (b : Bool) → t x ≡ b → find t (filter (λ y. not (t y)) xs) ≡ None → find t (cond (not b) (x ∷ filter (λ y. not (t y)) xs) (filter (λ y. not (t y)) xs)) ≡ None
    go true is rest = rest
    go false is rest = ap (λ (b : Bool). cond b (Some x) (find t (filter (λ y. not (t y)) xs))) is ∙ rest

-- where none passes a test none of fewer does, and one that passes another too is found behind that
pub none_kept : {A : Type 0} (t k : A → Bool) (xs : List A) → find t xs ≡ None → find t (filter k xs) ≡ None
none_kept t k [] none = refl
none_kept t k (x ∷ xs) none = go (t x) (k x) refl none (none_kept t k xs)
  where
    go : (a b : Bool) → t x ≡ a → cond a (Some x) (find t xs) ≡ None → (find t xs ≡ None → find t (filter k xs) ≡ None) → find t (cond b (x ∷ filter k xs) (filter k xs)) ≡ None
    go true b is n rest = absurd cc
    go false true is n rest = ap (λ (c : Bool). cond c (Some x) (find t (filter k xs))) is ∙ rest n
    go false false is n rest = rest n
