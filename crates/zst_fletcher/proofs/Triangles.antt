-- The weights of a place in the third and the fourth sum, by addition alone.
use Rattle.std.proofs.Common.{◌≡◌, ℕ, zero, suc, ◌+◌, ◌*◌, ◌/◌, ◌%◌, ◌^◌, refl, ap, sym, ◌∙◌, arith, add-one}
use Rattle.std.proofs.Math.Nat.{mul-div_cancel_left}
use Rattle.std.proofs.lemmas.Nat.{mul-mod_first}

pub triangle : ℕ → ℕ
triangle zero = 0
triangle (suc m) = triangle m + suc m

pub pyramid : ℕ → ℕ
pyramid zero = 0
pyramid (suc m) = pyramid m + triangle (suc m)

pub triangle-twice : (m : ℕ) → 2 * triangle m ≡ m * (m + 1)
unfolding triangle
triangle-twice zero = refl
triangle-twice (suc m) = omega (arith, triangle-twice m)

pub pyramid-six : (m : ℕ) → 6 * pyramid m ≡ m * (m + 1) * (m + 2)
unfolding pyramid
pyramid-six zero = refl
pyramid-six (suc m) = omega (arith, pyramid-six m, triangle-twice (suc m))

pub halved : (m : ℕ) → m * (m + 1) / 2 ≡ triangle m
halved m = ap (λ n. n / 2) (sym (triangle-twice m)) ∙ mul-div_cancel_left (triangle m) {n = 2} (omega arith)

pub sixth : (m : ℕ) → m * (m + 1) * (m + 2) / 6 ≡ pyramid m
sixth m = ap (λ n. n / 6) (sym (pyramid-six m)) ∙ mul-div_cancel_left (pyramid m) {n = 6} (omega arith)

-- the triangle by a half that is whole
pub even_half : (n : ℕ) → n % 2 ≡ 0 → n / 2 * (n + 1) ≡ n * (n + 1) / 2
even_half n even =
    let k = n / 2 in
    let e : n ≡ 2 * k = omega arith in
    rw (halved n) (omega (arith, triangle-twice n, ap (λ t. t * (n + 1)) e))

pub odd_half : (n : ℕ) → n % 2 ≡ 1 → n * (n / 2 + 1) ≡ n * (n + 1) / 2
odd_half n odd =
    let k = n / 2 in
    let e : n + 1 ≡ 2 * (k + 1) = omega arith in
    rw (halved n) (omega (arith, triangle-twice n, ap (λ t. n * t) e))

-- a third, by a factor that is one modulo 2 ^ 64 where it is taken three times
pub pyramid_by_factor : (n v : ℕ) → v ≡ n * (n + 1) / 2 % 2 ^ 64
    → v * (n + 2) % 2 ^ 64 * 0xaaaaaaaaaaaaaaab % 2 ^ 64 ≡ n * (n + 1) * (n + 2) / 6 % 2 ^ 64
pyramid_by_factor n v is =
    let three : triangle n * (n + 2) ≡ 3 * pyramid n = omega (arith, pyramid-six n, ap (λ t. t * (n + 2)) (triangle-twice n)) in
    rw (is, halved n, sixth n, mul-mod_first (triangle n) (n + 2) (2 ^ 64), three) (omega arith)

pub triangle_next : (m : ℕ) → (m + 1) * (m + 1 + 1) / 2 ≡ m * (m + 1) / 2 + (m + 1)
unfolding triangle
triangle_next m = rw (halved (m + 1), halved m, add-one) refl

pub pyramid_next : (m : ℕ) → (m + 1) * (m + 1 + 1) * (m + 1 + 2) / 6 ≡ m * (m + 1) * (m + 2) / 6 + (m + 1) * (m + 1 + 1) / 2
unfolding pyramid
pyramid_next m = rw (sixth (m + 1), sixth m, halved (m + 1), add-one) refl
