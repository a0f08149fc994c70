-- Fronts of texts: what two texts have in common, and digits.
use Rattle.std.proofs.Common.{◌≡◌, ℕ, zero, suc, ◌≤◌, Bool, true, false, nat_eq, List, [], ◌∷◌, ◌++◌, length, take, drop, inl, inr, refl, arith}
use Rattle.std.proofs.lemmas.Bool.{cases_Bool, eq-eqb, eqb-true}
use Rattle.std.proofs.lemmas.List.Elements.{All-cons, All-head, All-nil, All-tail}
use Rattle.std.specs.List.{AllPass, common_prefix_len, prefix_len}

-- a text that has all of another in common with it begins with that
pub common_prefix-all : (text front : List ℕ) → length front ≤ common_prefix_len nat_eq text front → text ≡ front ++ drop (length front) text
common_prefix-all text [] all = refl
common_prefix-all [] (y ∷ front) all = absurd (omega arith)
common_prefix-all (x ∷ text) (y ∷ front) all = elim (cases_Bool (nat_eq x y)) [
  | inl same ↦
      let more = rw same at all in
      cc (eqb-true x y same, common_prefix-all text front (omega arith))
  | inr other ↦ absurd (let none = rw other at all in omega arith)
]

-- a text has nothing in common with an empty one, and all of its own front
pub common_prefix-none : (text : List ℕ) → common_prefix_len nat_eq text [] ≡ 0
common_prefix-none [] = refl
common_prefix-none (x ∷ text) = refl

pub common_prefix-front : (front rest : List ℕ) → common_prefix_len nat_eq (front ++ rest) front ≡ length front
common_prefix-front [] rest = common_prefix-none rest
common_prefix-front (x ∷ front) rest = rw (eq-eqb x x refl) (let more = common_prefix-front front rest in omega arith)

-- elements that pass, up to one that doesn't
pub prefix_len-up_to : {X : Type 0} (p : X → Bool) (xs : List X) (x : X) (ys : List X) → AllPass p xs → p x ≡ false → prefix_len p (xs ++ x ∷ ys) ≡ length xs
prefix_len-up_to p [] x ys pass stop = rw stop refl
prefix_len-up_to p (z ∷ xs) x ys pass stop =
    rw (All-head (λ y. p y ≡ true) z xs pass) (let more = prefix_len-up_to p xs x ys (All-tail (λ y. p y ≡ true) z xs pass) stop in omega arith)

-- all elements pass
pub prefix_len-all : {X : Type 0} (p : X → Bool) (xs : List X) → AllPass p xs → prefix_len p xs ≡ length xs
prefix_len-all p [] pass = refl
prefix_len-all p (z ∷ xs) pass =
    rw (All-head (λ y. p y ≡ true) z xs pass) (let more = prefix_len-all p xs (All-tail (λ y. p y ≡ true) z xs pass) in omega arith)

-- the front passes
pub front_passes : {X : Type 0} (p : X → Bool) (xs : List X) (n : ℕ) → n ≤ prefix_len p xs → AllPass p (take n xs)
front_passes p xs zero le = All-nil (λ y. p y ≡ true)
front_passes p [] (suc n) le = All-nil (λ y. p y ≡ true)
front_passes p (x ∷ xs) (suc n) le = elim (cases_Bool (p x)) [
  | inl pass ↦ All-cons (λ y. p y ≡ true) x (take n xs) pass (front_passes p xs n (let more = rw pass at le in omega arith))
  | inr stop ↦ absurd (let none = rw stop at le in omega arith)
]
