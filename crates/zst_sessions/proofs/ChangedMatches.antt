-- Lists that match, of which one pair is changed or goes while what the others match by changes too.
use Rattle.std.proofs.Common.{◌≡◌, ◌≢◌, ◌⊎◌, inl, inr, ◌<◌, ℕ, zero, suc, Bool, true, false, not, List, [], ◌∷◌, length, map, filter, set, get_or, find, Some, refl, sym, ap, ◌∙◌, subst, ◌==◌, arith}
use Rattle.std.specs.List.{All, AllPairs, position, remove}
use Rattle.std.proofs.lemmas.List.Elements.{All-cons, All-filter, All-head, All-nil, All-tail, filter_passes}
use Rattle.std.proofs.lemmas.List.Kept.{AllPairs-cons}
use Rattle.zst_dir.specs.RowNames.{Match}
use Rattle.zst_dir.proofs.Matches.{Match-alike, find-Match}
use Rattle.zst_model.proofs.InsertedLaws.{AllPairs-head, AllPairs-tail}
use Rattle.zst_sessions.proofs.Beside.{Match-each}
use Rattle.zst_sessions.proofs.RemovedSessions.{remove_match}
use Rattle.zst_sessions.proofs.SessionLists.{id_differs}

-- ---- a place that is removed

pub remove_first : {A : Type 0} (x : A) (xs : List A) → remove (x ∷ xs) 0 ≡ xs
remove_first x xs = refl

pub remove_later : {A : Type 0} (x : A) (xs : List A) (place : ℕ) → remove (x ∷ xs) (suc place) ≡ x ∷ remove xs place
remove_later x xs place = refl

-- what was written there goes too
pub remove_set : {A : Type 0} (xs : List A) (place : ℕ) (x : A) → remove (set xs place x) place ≡ remove xs place
remove_set [] zero x = refl
remove_set [] (suc place) x = refl
remove_set (a ∷ xs) zero x = refl
remove_set (a ∷ xs) (suc place) x = ap (λ (l : List _). a ∷ l) (remove_set xs place x)

module _ {A : Type 0} where
  -- what holds of all others, and of what is put at a place, holds of all
  pub All-settled : (P : A → Type 0) (xs : List A) (place : ℕ) (x : A) → All P (remove xs place) → P x → All P (set xs place x)
  All-settled P [] place x all is = All-nil P
  All-settled P (a ∷ xs) zero x all is = All-cons P x xs is all
  All-settled P (a ∷ xs) (suc place) x all is = All-cons P a (set xs place x) (All-head P a (remove xs place) all) (All-settled P xs place x (All-tail P a (remove xs place) all) is)

  pub All-remove : (P : A → Type 0) (xs : List A) (place : ℕ) → All P xs → All P (remove xs place)
  All-remove P [] zero all = All-nil P
  All-remove P [] (suc place) all = All-nil P
  All-remove P (a ∷ xs) zero all = All-tail P a xs all
  All-remove P (a ∷ xs) (suc place) all = All-cons P a (remove xs place) (All-head P a xs all) (All-remove P xs place (All-tail P a xs all))

  -- pairs that are left
  pub AllPairs-remove : (R : A → A → Type 0) (xs : List A) (place : ℕ) → AllPairs R xs → AllPairs R (remove xs place)
  AllPairs-remove R [] zero pairs = pairs
  AllPairs-remove R [] (suc place) pairs = pairs
  AllPairs-remove R (a ∷ xs) zero pairs = AllPairs-tail R a xs pairs
  AllPairs-remove R (a ∷ xs) (suc place) pairs =
      AllPairs-cons R a (remove xs place) (All-remove (R a) xs place (AllPairs-head R a xs pairs)) (AllPairs-remove R xs place (AllPairs-tail R a xs pairs))

  -- one that stands to the others as the one in its place
  pub AllPairs-settled : (R : A → A → Type 0) (xs : List A) (place : ℕ) (d x : A) → ((y : A) → R (get_or xs place d) y → R x y) → ((y : A) → R y (get_or xs place d) → R y x) → AllPairs R xs → AllPairs R (set xs place x)
  AllPairs-settled R [] place d x after before pairs = pairs
  AllPairs-settled R (a ∷ xs) zero d x after before pairs =
      AllPairs-cons R x xs (λ k e below. after (get_or xs k e) (AllPairs-head R a xs pairs k e below)) (AllPairs-tail R a xs pairs)
  AllPairs-settled R (a ∷ xs) (suc place) d x after before pairs =
      AllPairs-cons R a (set xs place x) (related xs place (AllPairs-head R a xs pairs) before) (AllPairs-settled R xs place d x after before (AllPairs-tail R a xs pairs))
    where
      related : (ys : List A) (at : ℕ) → All (R a) ys → ((y : A) → R y (get_or ys at d) → R y x) → All (R a) (set ys at x)
      related [] at all like = All-nil (R a)
      related (b ∷ ys) zero all like = All-cons (R a) x ys (like a (All-head (R a) b ys all)) (All-tail (R a) b ys all)
      related (b ∷ ys) (suc at) all like = All-cons (R a) b (set ys at x) (All-head (R a) b ys all) (related ys at (All-tail (R a) b ys all) like)

  -- the others stand before or behind the one at a place
  pub All-others : (R : A → A → Type 0) (xs : List A) (place : ℕ) (d : A) → place < length xs → AllPairs R xs → All (λ y. R (get_or xs place d) y ⊎ R y (get_or xs place d)) (remove xs place)
  All-others R [] place d below pairs = absurd (omega (arith, below))
  All-others R (a ∷ xs) zero d below pairs = λ k e lt. inl (AllPairs-head R a xs pairs k e lt)
  All-others R (a ∷ xs) (suc place) d below pairs =
      All-cons (λ y. R (get_or xs place d) y ⊎ R y (get_or xs place d)) a (remove xs place) (inr (AllPairs-head R a xs pairs place d (omega (arith, below))))
      (All-others R xs place d (omega (arith, below)) (AllPairs-tail R a xs pairs))

-- ---- lists that match

-- what is found at a place in one is found in the other, and matches
pub found_at : {A B : Type 0} (Is : A → B → Type 0) (p : A → Bool) (q : B → Bool) → ((x : A) (y : B) → Is x y → p x ≡ q y) → (xs : List A) (ys : List B) → Match Is xs ys → (place : ℕ) (d : A) → position p xs ≡ Some place
    → (y : B) × (find q ys ≡ Some y) × Is (get_or xs place d) y
found_at Is p q same xs ys m place d is =
    let found = find-Match Is p q same d xs ys m place is in
    (found.0, found.1, Match-alike Is xs ys (get_or xs place d) found.0 m found.2)

module _ {A B : Type 0} (Old New : A → B → Type 0) (id_of : A → ℕ) (name_of : B → ℕ) (same : (x : A) (y : B) → Old x y → id_of x ≡ name_of y) (n : ℕ) (Known : B → Type 0)
    (stands : (x : A) (y : B) → Old x y → Known y → name_of y ≢ n → New x y) where
  -- others have other names
  apart : (xs : List A) (ys : List B) (place : ℕ) (d : A) (a : ℕ) → Match Old xs ys → place < length xs → id_of (get_or xs place d) ≡ n → All (λ y. a ≢ name_of y) ys → a ≢ n
  apart [] ys place d a m lt at all = absurd (omega (arith, lt))
  apart (x ∷ xs) [] place d a m lt at all = absurd m
  apart (x ∷ xs) (y ∷ ys) zero d a m lt at all = λ e. All-head (λ y. a ≢ name_of y) y ys all (e ∙ sym at ∙ same x y m.0)
  apart (x ∷ xs) (y ∷ ys) (suc place) d a m lt at all = apart xs ys place d a m.1 (omega (arith, lt)) at (All-tail (λ y. a ≢ name_of y) y ys all)

  rest_match : (xs : List A) (ys : List B) → All (λ y. n ≢ name_of y) ys → All Known ys → Match Old xs ys → Match New xs ys
  rest_match [] [] differ known m = tt
  rest_match [] (y ∷ ys) differ known m = absurd m
  rest_match (x ∷ xs) [] differ known m = absurd m
  rest_match (x ∷ xs) (y ∷ ys) differ known m = (
    stands x y m.0 (All-head Known y ys known) (λ e. All-head (λ y. n ≢ name_of y) y ys differ (sym e)),
    rest_match xs ys (All-tail (λ y. n ≢ name_of y) y ys differ) (All-tail Known y ys known) m.1,
  )

  abbrev Apart : B → B → Type 0
  Apart a b = name_of a ≢ name_of b

  first_apart : (x : A) (y : B) (ys : List B) → Old x y → id_of x ≡ n → AllPairs Apart (y ∷ ys) → All (λ b. n ≢ name_of b) ys
  first_apart x y ys is at pairs = subst (λ (k : ℕ). All (λ b. k ≢ name_of b) ys) (sym (same x y is) ∙ at) (AllPairs-head Apart y ys pairs)

  -- one is changed in both
  module _ (change : B → B) (stays : (y : B) → name_of y ≢ n → change y ≡ y) where
    unchanged : (ys : List B) → All (λ y. n ≢ name_of y) ys → map change ys ≡ ys
    unchanged [] all = refl
    unchanged (y ∷ ys) all =
        ap (λ (z : B). z ∷ map change ys) (stays y (λ e. All-head (λ y. n ≢ name_of y) y ys all (sym e)))
        ∙ ap (λ (rest : List B). y ∷ rest) (unchanged ys (All-tail (λ y. n ≢ name_of y) y ys all))

    pub put_match : (xs : List A) (ys : List B) (place : ℕ) (d x : A) → AllPairs Apart ys → All Known ys → Match Old xs ys → place < length xs → id_of (get_or xs place d) ≡ n
        → ((y : B) → Old (get_or xs place d) y → Known y → New x (change y)) → Match New (set xs place x) (map change ys)
    put_match [] ys place d x pairs known m lt at is = absurd (omega (arith, lt))
    put_match (a ∷ xs) [] place d x pairs known m lt at is = absurd m
    put_match (a ∷ xs) (y ∷ ys) zero d x pairs known m lt at is =
        let differ = first_apart a y ys m.0 at pairs in
        (is y m.0 (All-head Known y ys known), subst (Match New xs) (sym (unchanged ys differ)) (rest_match xs ys differ (All-tail Known y ys known) m.1))
    put_match (a ∷ xs) (y ∷ ys) (suc place) d x pairs known m lt at is =
        let differs = apart xs ys place d (name_of y) m.1 (omega (arith, lt)) at (AllPairs-head Apart y ys pairs) in (
          subst (New a) (sym (stays y differs)) (stands a y m.0 (All-head Known y ys known) differs),
          put_match xs ys place d x (AllPairs-tail Apart y ys pairs) (All-tail Known y ys known) m.1 (omega (arith, lt)) at is,
        )

  -- one goes from both
  abbrev Other : B → Type 0
  Other y = Known y × (name_of y ≢ n)

  pub left_match : (xs : List A) (ys : List B) (place : ℕ) (d : A) → AllPairs Apart ys → All Known ys → Match Old xs ys → place < length xs → id_of (get_or xs place d) ≡ n
      → Match New (remove xs place) (filter (λ y. not (name_of y == n)) ys)
  left_match xs ys place d pairs known m lt at =
      Match-each Other Old New (λ x y so was. stands x y was so.0 so.1) (remove xs place) (filter (λ y. not (name_of y == n)) ys) others
      (remove_match Old id_of name_of same n xs ys place d pairs m lt at)
    where
      differs : (y : B) (t : Bool) → (name_of y == n) ≡ t → not t ≡ true → name_of y ≢ n
      differs y true is e = absurd cc
      differs y false is e = id_differs (name_of y) n is

      others : All Other (filter (λ y. not (name_of y == n)) ys)
      others k e below = (
        All-filter (λ y. not (name_of y == n)) Known ys known k e below,
        let y = get_or (filter (λ z. not (name_of z == n)) ys) k e in differs y (name_of y == n) refl (filter_passes (λ z. not (name_of z == n)) ys k e below),
      )
