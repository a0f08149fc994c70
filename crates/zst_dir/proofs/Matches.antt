-- Rows that match: what a look-up, a count and a change of both lists have in common.
use Rattle.std.proofs.Common.{◌≡◌, ℕ, zero, suc, ◌<◌, Bool, true, false, cond, ◌&&◌, ◌||◌, not, List, [], ◌∷◌, length, map, Option, Some, None, is_some, if◌then◌else◌, get_or, inl, inr, refl, sym, ap, ◌∙◌, subst, arith}
use Rattle.std.specs.List.{find, position, list_any, filter, count_by, position_or_len, Contains}
use Rattle.std.proofs.Math.Numerals.{one-add}
use Prim.Native.Nat.compare.{suc-suc}
use Rattle.std.proofs.Math.Dec.{ltb}
use Rattle.std.specs.Str.{bytes_eq}
use Rattle.std.proofs.lemmas.Bool.{true≢false}
use Rattle.std.proofs.lemmas.Bool.Decides.{nat_tests}
use Rattle.std.proofs.lemmas.Slice.Eq.{bytes_eq-Decides}
use Rattle.std.proofs.lemmas.List.Folds.{list_any_at}
use Rattle.std.proofs.lemmas.List.Sums.{length-filter}
use Rattle.std.proofs.lemmas.List.Quantifiers.{position-Some}
use Rattle.zst_model.specs.pools.Pool.{inserted}
use Rattle.zst_dir.specs.RowNames.{Match, StandAlike}

-- lists that match have equal lengths
pub length-Match : {A B : Type 0} (Is : A → B → Type 0) (xs : List A) (ys : List B) → Match Is xs ys → length xs ≡ length ys
length-Match Is [] [] m = refl
length-Match Is [] (y ∷ ys) m = absurd m
length-Match Is (x ∷ xs) [] m = absurd m
length-Match Is (x ∷ xs) (y ∷ ys) m = ap suc (length-Match Is xs ys m.1)

-- where a place is found, something passes
none_is_some : {A : Type 0} (b : Bool) (x : A) → is_some (cond b (Some x) None) ≡ b
none_is_some true x = refl
none_is_some false x = refl

some_below : (n : ℕ) → ltb 0 (suc n) ≡ true
some_below n = grind (arith, nat_tests)

pub is_some-position : {A : Type 0} (p : A → Bool) (xs : List A) → is_some (position p xs) ≡ list_any p xs
is_some-position p [] = refl
is_some-position {A = A} p (x ∷ xs) = go (p x) refl (is_some-position p xs)
  where
    go : (b : Bool) → p x ≡ b → is_some (position p xs) ≡ list_any p xs → is_some (position p (x ∷ xs)) ≡ (b || list_any p xs)
    go true e rest = rw e (none_is_some (ltb 0 (suc (length xs))) 0 ∙ some_below (length xs))
    go false e rest = rw (e, one-add, suc-suc) (none_is_some (ltb (position_or_len p xs) (length xs)) (suc (position_or_len p xs)) ∙ sym (none_is_some (ltb (position_or_len p xs) (length xs)) (position_or_len p xs)) ∙ rest)

-- and something is found
pub any_is_found : {A : Type 0} (p : A → Bool) (xs : List A) → list_any p xs ≡ is_some (find p xs)
any_is_found p [] = refl
any_is_found {A = A} p (x ∷ xs) = go (p x) (any_is_found p xs)
  where
    go : (b : Bool) → list_any p xs ≡ is_some (find p xs) → (b || list_any p xs) ≡ is_some (cond b (Some x) (find p xs))
    go true e = refl
    go false e = e

-- tests that answer alike of what matches find alike
pub list_any-Match : {A B : Type 0} (Is : A → B → Type 0) (p : A → Bool) (q : B → Bool) → ((x : A) (y : B) → Is x y → p x ≡ q y)
    → (xs : List A) (ys : List B) → Match Is xs ys → list_any p xs ≡ is_some (find q ys)
list_any-Match Is p q same [] [] m = refl
list_any-Match Is p q same [] (y ∷ ys) m = absurd m
list_any-Match Is p q same (x ∷ xs) [] m = absurd m
list_any-Match {B = B} Is p q same (x ∷ xs) (y ∷ ys) m = ap (λ b. b || list_any p xs) (same x y m.0) ∙ go (q y) (list_any-Match Is p q same xs ys m.1)
  where
    go : (b : Bool) → list_any p xs ≡ is_some (find q ys) → (b || list_any p xs) ≡ is_some (cond b (Some y) (find q ys))
    go true e = refl
    go false e = e

-- a filter of both keeps a match
pub filter-Match : {A B : Type 0} (Is : A → B → Type 0) (p : A → Bool) (q : B → Bool) → ((x : A) (y : B) → Is x y → p x ≡ q y)
    → (xs : List A) (ys : List B) → Match Is xs ys → Match Is (filter p xs) (filter q ys)
filter-Match Is p q same [] [] m = tt
filter-Match Is p q same [] (y ∷ ys) m = absurd m
filter-Match Is p q same (x ∷ xs) [] m = absurd m
filter-Match {A = A} {B = B} Is p q same (x ∷ xs) (y ∷ ys) m = rw (same x y m.0) (go (q y) (filter-Match Is p q same xs ys m.1))
  where
    go : (b : Bool) → Match Is (filter p xs) (filter q ys) → Match Is (cond b (x ∷ filter p xs) (filter p xs)) (cond b (y ∷ filter q ys) (filter q ys))
    go true rest = (m.0, rest)
    go false rest = rest

-- and counts alike
pub count_by-Match : {A B : Type 0} (Is : A → B → Type 0) (p : A → Bool) (q : B → Bool) → ((x : A) (y : B) → Is x y → p x ≡ q y)
    → (xs : List A) (ys : List B) → Match Is xs ys → count_by p xs ≡ count_by q ys
count_by-Match Is p q same xs ys m =
    sym (length-filter p xs) ∙ length-Match Is (filter p xs) (filter q ys) (filter-Match Is p q same xs ys m) ∙ length-filter q ys

-- two filters, one after another
pub filter-filter : {A : Type 0} (k p : A → Bool) (xs : List A) → filter p (filter k xs) ≡ filter (λ x. k x && p x) xs
filter-filter k p [] = refl
filter-filter {A = A} k p (x ∷ xs) = go (k x) (filter-filter k p xs)
  where
    go : (b : Bool) → filter p (filter k xs) ≡ filter (λ y. k y && p y) xs
        → filter p (cond b (x ∷ filter k xs) (filter k xs)) ≡ cond (b && p x) (x ∷ filter (λ y. k y && p y) xs) (filter (λ y. k y && p y) xs)
    go true e = ap (λ (rest : List A). cond (p x) (x ∷ rest) rest) e
    go false e = e

-- a test among those that pass another
pub list_any-filter : {A : Type 0} (k p : A → Bool) (xs : List A) → list_any p (filter k xs) ≡ list_any (λ x. k x && p x) xs
list_any-filter k p [] = refl
list_any-filter {A = A} k p (x ∷ xs) = go (k x) (list_any-filter k p xs)
  where
    go : (b : Bool) → list_any p (filter k xs) ≡ list_any (λ y. k y && p y) xs
        → list_any p (cond b (x ∷ filter k xs) (filter k xs)) ≡ ((b && p x) || list_any (λ y. k y && p y) xs)
    go true e = ap (λ b. p x || b) e
    go false e = e

pub count_by-filter : {A : Type 0} (k p : A → Bool) (xs : List A) → count_by p (filter k xs) ≡ count_by (λ x. k x && p x) xs
count_by-filter k p xs = sym (length-filter p (filter k xs)) ∙ ap (λ l. length l) (filter-filter k p xs) ∙ length-filter (λ x. k x && p x) xs

-- rows that are put in their places match, where they stand before the same
pub inserted-Match : {A B : Type 0} (Is : A → B → Type 0) (before : A → A → Bool) (earlier : B → B → Bool) (row : A) (new : B)
    → ((x : A) (y : B) → Is x y → before row x ≡ earlier new y) → Is row new
    → (xs : List A) (ys : List B) → Match Is xs ys → Match Is (inserted before row xs) (inserted earlier new ys)
unfolding inserted
inserted-Match Is before earlier row new same is [] [] m = (is, tt)
inserted-Match Is before earlier row new same is [] (y ∷ ys) m = absurd m
inserted-Match Is before earlier row new same is (x ∷ xs) [] m = absurd m
inserted-Match {A = A} {B = B} Is before earlier row new same is (x ∷ xs) (y ∷ ys) m =
    rw (same x y m.0) (go (earlier new y) (inserted-Match Is before earlier row new same is xs ys m.1))
  where
    go : (b : Bool) → Match Is (inserted before row xs) (inserted earlier new ys)
        → Match Is (if b then row ∷ x ∷ xs else x ∷ inserted before row xs) (if b then new ∷ y ∷ ys else y ∷ inserted earlier new ys)
    go true rest = (is, (m.0, m.1))
    go false rest = (m.0, rest)

-- rows changed alike match
pub map-Match : {A B : Type 0} (Is : A → B → Type 0) (f : A → A) (g : B → B) → ((x : A) (y : B) → Is x y → Is (f x) (g y))
    → (xs : List A) (ys : List B) → Match Is xs ys → Match Is (map f xs) (map g ys)
map-Match Is f g change [] [] m = tt
map-Match Is f g change [] (y ∷ ys) m = absurd m
map-Match Is f g change (x ∷ xs) [] m = absurd m
map-Match Is f g change (x ∷ xs) (y ∷ ys) m = (change x y m.0, map-Match Is f g change xs ys m.1)

-- where none is found that has a name, none has it
pub none_named : {A : Type 0} (name_of : A → List ℕ) (name : List ℕ) (xs : List A) → list_any (λ x. bytes_eq (name_of x) name) xs ≡ false
    → (x : A) → Contains xs x → name_of x ≡ name → ⊥
none_named name_of name xs none x has same =
    let at : bytes_eq (name_of (get_or xs has.0 x)) name ≡ true = (bytes_eq-Decides (name_of (get_or xs has.0 x)) name).1 (ap name_of has.2 ∙ same) in
    true≢false (sym (list_any_at (λ y. bytes_eq (name_of y) name) xs has.0 x has.1 at) ∙ none)

-- what is found stands at the place of what is found
pub find-Match : {A B : Type 0} (Is : A → B → Type 0) (p : A → Bool) (q : B → Bool) → ((x : A) (y : B) → Is x y → p x ≡ q y)
    → (d : A) (xs : List A) (ys : List B) → Match Is xs ys → (i : ℕ) → position p xs ≡ Some i → (y : B) × (find q ys ≡ Some y) × StandAlike xs ys (get_or xs i d) y
find-Match {A = A} {B = B} Is p q same d xs ys m i is =
    let at = position-Some p xs i d is in
    first xs ys m i at.0 at.1 at.2
  where
    first : (xs : List A) (ys : List B) → Match Is xs ys → (i : ℕ) → i < length xs → p (get_or xs i d) ≡ true → ((k : ℕ) → k < i → p (get_or xs k d) ≡ false)
        → (y : B) × (find q ys ≡ Some y) × StandAlike xs ys (get_or xs i d) y
    first [] ys m i below here before = absurd (omega (arith, below))
    first (x ∷ xs) [] m i below here before = absurd m
    first (x ∷ xs) (y ∷ ys) m zero below here before = (y, ap (λ b. cond b (Some y) (find q ys)) (sym (same x y m.0) ∙ here), inl (refl, refl))
    first (x ∷ xs) (y ∷ ys) m (suc i) below here before =
        let rest = first xs ys m.1 i (omega (arith, below)) here (λ k lt. before (suc k) (omega (arith, lt))) in
        (rest.0, ap (λ b. cond b (Some y) (find q ys)) (sym (same x y m.0) ∙ before 0 (omega arith)) ∙ rest.1, inr rest.2)

-- what two look-ups find matches, or they find none
abbrev pub FoundAlike : {A B : Type 0} → (A → B → Type 0) → Option A → Option B → Type 0
FoundAlike Is None None = Unit {0}
FoundAlike Is None (Some y) = ⊥
FoundAlike Is (Some x) None = ⊥
FoundAlike Is (Some x) (Some y) = Is x y

pub found-Match : {A B : Type 0} (Is : A → B → Type 0) (p : A → Bool) (q : B → Bool) → ((x : A) (y : B) → Is x y → p x ≡ q y) → (xs : List A) (ys : List B) → Match Is xs ys → FoundAlike Is (find p xs) (find q ys)
found-Match Is p q same [] [] m = tt
found-Match Is p q same [] (y ∷ ys) m = absurd m
found-Match Is p q same (x ∷ xs) [] m = absurd m
found-Match {A = A} {B = B} Is p q same (x ∷ xs) (y ∷ ys) m = rw (same x y m.0) (go (q y) (found-Match Is p q same xs ys m.1))
  where
    go : (b : Bool) → FoundAlike Is (find p xs) (find q ys) → FoundAlike Is (cond b (Some x) (find p xs)) (cond b (Some y) (find q ys))
    go true rest = m.0
    go false rest = rest

-- what stands at the same place of lists that match matches
pub Match-alike : {A B : Type 0} (Is : A → B → Type 0) (xs : List A) (ys : List B) (a : A) (b : B) → Match Is xs ys → StandAlike xs ys a b → Is a b
Match-alike Is [] ys a b m at = absurd at
Match-alike Is (x ∷ xs) [] a b m at = absurd at
Match-alike {A = A} {B = B} Is (x ∷ xs) (y ∷ ys) a b m (inl same) = subst (λ (z : A). Is z b) same.0 (subst (λ (z : B). Is x z) same.1 m.0)
Match-alike Is (x ∷ xs) (y ∷ ys) a b m (inr rest) = Match-alike Is xs ys a b m.1 rest

-- what passes one test and not the other passes the first alone, where nothing passes both
pub filter_rest : {A : Type 0} (k e : A → Bool) (xs : List A) → list_any (λ x. k x && e x) xs ≡ false → filter k (filter (λ x. not (e x)) xs) ≡ filter k xs
filter_rest k e [] none = refl
filter_rest {A = A} k e (x ∷ xs) none = go (k x) (e x) refl (filter_rest k e xs) none
  where
    go : (a b : Bool) → k x ≡ a → (list_any (λ y. k y && e y) xs ≡ false → filter k (filter (λ y. not (e y)) xs) ≡ filter k xs)
        → ((a && b) || list_any (λ y. k y && e y) xs) ≡ false
        → filter k (cond (not b) (x ∷ filter (λ y. not (e y)) xs) (filter (λ y. not (e y)) xs)) ≡ cond a (x ∷ filter k xs) (filter k xs)
    go true true is rest some = absurd (cc)
    go true false is rest some = rw is (ap (λ (l : List A). x ∷ l) (rest some))
    go false true is rest some = rest some
    go false false is rest some = rw is (rest some)
