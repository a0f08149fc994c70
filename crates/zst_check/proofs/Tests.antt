-- What a test of numbers decides.
use Rattle.std.proofs.Common.{◌≡◌, ℕ, ◌<◌, ◌≤◌, Bool, true, false, nat_lt, refl}
use Rattle.std.specs.Bool.{MatchBool}
use Rattle.std.proofs.Math.Dec.{leb}
use Rattle.std.proofs.lemmas.Bool.{ltb-true, ltb-false, leb-true, leb-false}

-- whether a number is below another
pub less_decides : (m n : ℕ) {A B : Type 0} → (m < n → A) → (n ≤ m → B) → MatchBool (nat_lt m n) A B
less_decides m n {A = A} {B = B} less most = go (nat_lt m n) (ltb-true m n) (ltb-false m n)
  where
    go : (b : Bool) → (b ≡ true → m < n) → (b ≡ false → n ≤ m) → MatchBool b A B
    go true yes' no' = less (yes' refl)
    go false yes' no' = most (no' refl)

-- whether a number is at most another
pub most_decides : (m n : ℕ) {A B : Type 0} → (m ≤ n → A) → (n < m → B) → MatchBool (leb m n) A B
most_decides m n {A = A} {B = B} most less = go (leb m n) (leb-true m n) (leb-false m n)
  where
    go : (b : Bool) → (b ≡ true → m ≤ n) → (b ≡ false → n < m) → MatchBool b A B
    go true yes' no' = most (yes' refl)
    go false yes' no' = less (no' refl)
