-- The last element that passes a test, as the latest snapshot of a dataset.
use Rattle.std.proofs.Common.{◌≡◌, ℕ, ◌+◌, ◌<◌, ◌≤◌, Bool, true, false, List, [], ◌∷◌, ◌++◌, length, get_or, take, Option, Some, None, IfSome, if◌then◌else◌, refl, sym, ap, ◌∙◌}
use Rattle.std.specs.List.{All}
use Rattle.std.proofs.lemmas.List.{take_all, take_more}
use Rattle.std.proofs.lemmas.List.Elements.{All-head, All-tail}
use Rattle.zst_pool.specs.Partials.{last_from, last_where}
use Rattle.zst_dir.specs.RowNames.{Match}
use Rattle.zst_dir.proofs.Matches.{FoundAlike}

-- one more element is the last where it passes
last_from-more : {A : Type 0} (test : A → Bool) (found : Option A) (xs : List A) (x : A) → last_from test found (xs ++ x ∷ []) ≡ (if test x then Some x else last_from test found xs)
last_from-more test found [] x = refl
last_from-more test found (y ∷ xs) x = last_from-more test (if test y then Some y else found) xs x

-- of the elements up to a place
one_more : {A : Type 0} (test : A → Bool) (xs : List A) (i : ℕ) (x : A) → i < length xs → x ≡ get_or xs i x → last_where test (take (i + 1) xs) ≡ (if test x then Some x else last_where test (take i xs))
one_more {A = A} test xs i x inside is =
    ap (last_where test) (take_more xs i x inside) ∙ last_from-more test None (take i xs) (get_or xs i x)
    ∙ ap (λ (y : A). if test y then Some y else last_where test (take i xs)) (sym is)

pub last-passes : {A : Type 0} (test : A → Bool) (xs : List A) (i : ℕ) (x : A) → i < length xs → x ≡ get_or xs i x → test x ≡ true → Some x ≡ last_where test (take (i + 1) xs)
last-passes test xs i x inside is passes = sym (one_more test xs i x inside is ∙ rw passes refl)

pub last-fails : {A : Type 0} (test : A → Bool) (xs : List A) (i : ℕ) (x : A) (found : Option A) → i < length xs → x ≡ get_or xs i x → test x ≡ false → found ≡ last_where test (take i xs)
    → found ≡ last_where test (take (i + 1) xs)
last-fails test xs i x found inside is fails last = last ∙ sym (one_more test xs i x inside is ∙ rw fails refl)

pub last-all : {A : Type 0} (test : A → Bool) (xs : List A) (i : ℕ) (found : Option A) → length xs ≤ i → found ≡ last_where test (take i xs) → found ≡ last_where test xs
last-all test xs i found all is = is ∙ ap (last_where test) (take_all i xs all)

-- what holds of all holds of the last
last_from-holds : {A : Type 0} (P : A → Type 0) (test : A → Bool) (found : Option A) (xs : List A) → IfSome found P → All P xs → IfSome (last_from test found xs) P
last_from-holds P test found [] is all = is
last_from-holds {A = A} P test found (x ∷ xs) is all = last_from-holds P test (if test x then Some x else found) xs (go (test x)) (All-tail P x xs all)
  where
    go : (t : Bool) → IfSome (if t then Some x else found) P
    go true = All-head P x xs all
    go false = is

pub last-holds : {A : Type 0} (P : A → Type 0) (test : A → Bool) (xs : List A) → All P xs → IfSome (last_where test xs) P
last-holds P test xs all = last_from-holds P test None xs tt all

last_from-Match : {A B : Type 0} (Is : A → B → Type 0) (p : A → Bool) (q : B → Bool) → ((x : A) (y : B) → Is x y → p x ≡ q y) → (found : Option A) (there : Option B) → FoundAlike Is found there
    → (xs : List A) (ys : List B) → Match Is xs ys → FoundAlike Is (last_from p found xs) (last_from q there ys)
last_from-Match Is p q same found there is [] [] m = is
last_from-Match Is p q same found there is [] (y ∷ ys) m = absurd m
last_from-Match Is p q same found there is (x ∷ xs) [] m = absurd m
last_from-Match {A = A} {B = B} Is p q same found there is (x ∷ xs) (y ∷ ys) m =
    rw (same x y m.0) (last_from-Match Is p q same (if q y then Some x else found) (if q y then Some y else there) (go (q y)) xs ys m.1)
  where
    go : (t : Bool) → FoundAlike Is (if t then Some x else found) (if t then Some y else there)
    go true = m.0
    go false = is

-- the last of lists that match
pub last-Match : {A B : Type 0} (Is : A → B → Type 0) (p : A → Bool) (q : B → Bool) → ((x : A) (y : B) → Is x y → p x ≡ q y) → (xs : List A) (ys : List B) → Match Is xs ys
    → FoundAlike Is (last_where p xs) (last_where q ys)
last-Match Is p q same xs ys m = last_from-Match Is p q same None None tt xs ys m
