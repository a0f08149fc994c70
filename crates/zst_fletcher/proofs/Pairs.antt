-- Words in pairs: how many there are, and pairs as numbers of 64 bits.
use Rattle.std.proofs.Common.{◌≡◌, ℕ, zero, suc, ◌+◌, ◌*◌, ◌-◌, ◌/◌, ◌%◌, ◌^◌, List, [], ◌∷◌, ◌++◌, length, refl, ap, ◌∙◌, arith, bit_and}
use Rattle.std.specs.Prelude.{replicate}
use Rattle.std.specs.Simd.Lanes.{zip2, digits_l}
use Rattle.std.proofs.lemmas.Nat.{and_mask}
use Rattle.zst_fletcher.specs.Pairs.{totals_of, seconds_of}

-- to show a fact of words in pairs
pub by_pairs : (P : List ℕ → Type 0) → P [] → ((first second : ℕ) (later : List ℕ) → length later % 2 ≡ 0 → P later → P (first ∷ second ∷ later))
    → (ws : List ℕ) → length ws % 2 ≡ 0 → P ws
by_pairs P none next [] h = none
by_pairs P none next (a ∷ []) h = absurd (omega arith)
by_pairs P none next (a ∷ b ∷ later) h = next a b later (omega arith) (by_pairs P none next later (omega arith))

pub length-totals : (ws : List ℕ) → length ws % 2 ≡ 0 → length ws ≡ 2 * length (totals_of ws)
length-totals = by_pairs (λ ws. length ws ≡ 2 * length (totals_of ws)) refl (λ a b later h ih. omega (arith, ih))

pub length-seconds : (ws : List ℕ) → length ws % 2 ≡ 0 → length ws ≡ 2 * length (seconds_of ws)
length-seconds = by_pairs (λ ws. length ws ≡ 2 * length (seconds_of ws)) refl (λ a b later h ih. omega (arith, ih))

pub totals-append : (xs ys : List ℕ) → length xs % 2 ≡ 0 → totals_of (xs ++ ys) ≡ totals_of xs ++ totals_of ys
totals-append xs ys =
    by_pairs (λ ws. totals_of (ws ++ ys) ≡ totals_of ws ++ totals_of ys) refl (λ a b later h ih. ap (λ ws. (a + b) ∷ ws) ih) xs

pub seconds-append : (xs ys : List ℕ) → length xs % 2 ≡ 0 → seconds_of (xs ++ ys) ≡ seconds_of xs ++ seconds_of ys
seconds-append xs ys =
    by_pairs (λ ws. seconds_of (ws ++ ys) ≡ seconds_of ws ++ seconds_of ys) refl (λ a b later h ih. ap (λ ws. b ∷ ws) ih) xs

-- the totals of both halves of numbers of 64 bits, as the code adds them
pub totals-halves : (n m number : ℕ) → m ≡ 2 * n
    → zip2 (λ a b. (a + b) % 2 ^ 64) (zip2 bit_and (digits_l (2 ^ 64) n number) (replicate n (2 ^ 32 - 1)))
    (zip2 (λ a b. a / 2 ^ b) (digits_l (2 ^ 64) n number) (replicate n 32)) ≡ totals_of (digits_l (2 ^ 32) m number)
totals-halves zero zero number h = refl
totals-halves zero (suc m) number h = absurd (omega arith)
totals-halves (suc n) zero number h = absurd (omega arith)
totals-halves (suc n) (suc zero) number h = absurd (omega arith)
totals-halves (suc n) (suc (suc m)) number h =
    let low : bit_and (number % 2 ^ 64) (2 ^ 32 - 1) ≡ number % 2 ^ 32 = and_mask (number % 2 ^ 64) 32 ∙ omega arith in
    let total : (number % 2 ^ 32 + number % 2 ^ 64 / 2 ^ 32) % 2 ^ 64 ≡ number % 2 ^ 32 + number / 2 ^ 32 % 2 ^ 32 = omega arith in
    let rest : number / 2 ^ 32 / 2 ^ 32 ≡ number / 2 ^ 64 = omega arith in
    rw (low, total, rest) (ap (λ ws. (number % 2 ^ 32 + number / 2 ^ 32 % 2 ^ 32) ∷ ws) (totals-halves n m (number / 2 ^ 64) (omega arith)))

-- their upper halves
pub upper_halves : (n m number : ℕ) → m ≡ 2 * n
    → zip2 (λ a b. a / 2 ^ b) (digits_l (2 ^ 64) n number) (replicate n 32) ≡ seconds_of (digits_l (2 ^ 32) m number)
upper_halves zero zero number h = refl
upper_halves zero (suc m) number h = absurd (omega arith)
upper_halves (suc n) zero number h = absurd (omega arith)
upper_halves (suc n) (suc zero) number h = absurd (omega arith)
upper_halves (suc n) (suc (suc m)) number h =
    let half : number % 2 ^ 64 / 2 ^ 32 ≡ number / 2 ^ 32 % 2 ^ 32 = omega arith in
    let rest : number / 2 ^ 32 / 2 ^ 32 ≡ number / 2 ^ 64 = omega arith in
    rw (half, rest) (ap (λ ws. number / 2 ^ 32 % 2 ^ 32 ∷ ws) (upper_halves n m (number / 2 ^ 64) (omega arith)))
