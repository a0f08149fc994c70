-- The sums of two texts, by the sums of each.
use Rattle.std.proofs.Common.{◌≡◌, ℕ, ◌+◌, ◌*◌, ◌%◌, ◌^◌, List, [], ◌∷◌, ◌++◌, length, refl, ap, ◌∙◌, arith, length-append}
use Rattle.std.proofs.Math.Nat.{add-mod-mod, mod-add-mod}
use Rattle.std.proofs.lemmas.Nat.{mul-mod_first, mul-mod_second}
use Rattle.zst_fletcher.specs.declared.sum.Sum.{Sum}
use Rattle.zst_fletcher.specs.WeightSum.{weighted, sums_of}
use Rattle.zst_fletcher.proofs.Triangles.{triangle, pyramid, triangle-twice, pyramid-six}
use Rattle.zst_fletcher.proofs.LastWord.{sums_of-by}

-- the weight of a place m with n places after it
triangle-add : (m n : ℕ) → triangle (m + n) ≡ triangle m + n * m + triangle n
triangle-add m n = omega (arith, triangle-twice (m + n), triangle-twice m, triangle-twice n)

pyramid-add : (m n : ℕ) → pyramid (m + n) ≡ pyramid m + n * triangle m + triangle n * m + pyramid n
pyramid-add m n =
    omega (arith, pyramid-six (m + n), pyramid-six m, pyramid-six n, ap (λ t. n * t) (triangle-twice m), ap (λ t. m * t) (triangle-twice n))

weighted-append : (w v : ℕ → ℕ) (ys : List ℕ) → ((m : ℕ) → w (m + length ys) ≡ v m) → (xs : List ℕ) → weighted w (xs ++ ys) ≡ weighted v xs + weighted w ys
weighted-append w v ys e [] = omega arith
weighted-append w v ys e (x ∷ xs) =
    let place : length (xs ++ ys) + 1 ≡ length xs + 1 + length ys = omega (arith, length-append xs ys) in
    let weight : w (length (xs ++ ys) + 1) ≡ v (length xs + 1) = ap w place ∙ e (length xs + 1) in
    rw weight (omega (arith, weighted-append w v ys e xs))

weighted-plus : (f g : ℕ → ℕ) (xs : List ℕ) → weighted (λ m. f m + g m) xs ≡ weighted f xs + weighted g xs
weighted-plus f g [] = refl
weighted-plus f g (x ∷ xs) = omega (arith, weighted-plus f g xs)

weighted-times : (k : ℕ) (f : ℕ → ℕ) (xs : List ℕ) → weighted (λ m. k * f m) xs ≡ k * weighted f xs
weighted-times k f [] = omega arith
weighted-times k f (x ∷ xs) = omega (arith, weighted-times k f xs)

second_sum-append : (xs ys : List ℕ) → weighted (λ m. m) (xs ++ ys) ≡ weighted (λ m. m) xs + length ys * weighted (λ m. 1) xs + weighted (λ m. m) ys
second_sum-append xs ys =
    let n = length ys in
    weighted-append (λ m. m) (λ m. m + n * 1) ys (λ m. omega arith) xs
    ∙ omega (arith, weighted-plus (λ m. m) (λ m. n * 1) xs, weighted-times n (λ m. 1) xs)

third_sum-append : (xs ys : List ℕ) → weighted triangle (xs ++ ys)
    ≡ weighted triangle xs + (length ys * weighted (λ m. m) xs + triangle (length ys) * weighted (λ m. 1) xs) + weighted triangle ys
third_sum-append xs ys =
    let n = length ys in
    weighted-append triangle (λ m. triangle m + (n * m + triangle n * 1)) ys (λ m. omega (arith, triangle-add m n)) xs
    ∙ omega (
      arith,
      weighted-plus triangle (λ m. n * m + triangle n * 1) xs,
      weighted-plus (λ m. n * m) (λ m. triangle n * 1) xs,
      weighted-times n (λ m. m) xs,
      weighted-times (triangle n) (λ m. 1) xs,
    )

fourth_sum-append : (xs ys : List ℕ) → weighted pyramid (xs ++ ys)
    ≡ weighted pyramid xs + (length ys * weighted triangle xs + triangle (length ys) * weighted (λ m. m) xs + pyramid (length ys) * weighted (λ m. 1) xs) + weighted pyramid ys
fourth_sum-append xs ys =
    let n = length ys in
    weighted-append pyramid (λ m. pyramid m + (n * triangle m + (triangle n * m + pyramid n * 1))) ys (λ m. omega (arith, pyramid-add m n)) xs
    ∙ omega (
      arith,
      weighted-plus pyramid (λ m. n * triangle m + (triangle n * m + pyramid n * 1)) xs,
      weighted-plus (λ m. n * triangle m) (λ m. triangle n * m + pyramid n * 1) xs,
      weighted-plus (λ m. triangle n * m) (λ m. pyramid n * 1) xs,
      weighted-times n triangle xs,
      weighted-times (triangle n) (λ m. m) xs,
      weighted-times (pyramid n) (λ m. 1) xs,
    )

-- the sums of both, as the code joins them; n is the number of later words, and v and w its weights
pub sums_of-append : (xs ys : List ℕ) (s t : Sum) (n v w : ℕ) → s ≡ sums_of xs → t ≡ sums_of ys → n ≡ length ys
    → v ≡ triangle n % 2 ^ 64 → w ≡ pyramid n % 2 ^ 64
    → record {
      a = (s.a + t.a) % 2 ^ 64;
      b = ((s.b + n * s.a % 2 ^ 64) % 2 ^ 64 + t.b) % 2 ^ 64;
      c = ((s.c + (n * s.b % 2 ^ 64 + v * s.a % 2 ^ 64) % 2 ^ 64) % 2 ^ 64 + t.c) % 2 ^ 64;
      d = ((s.d + ((n * s.c % 2 ^ 64 + v * s.b % 2 ^ 64) % 2 ^ 64 + w * s.a % 2 ^ 64) % 2 ^ 64) % 2 ^ 64 + t.d) % 2 ^ 64;
    } ≡ sums_of (xs ++ ys)
sums_of-append xs ys s t n v w is js count second third =
    rw (is, js, count, second, third) (rw count (rw (sums_of-by xs, sums_of-by ys, sums_of-by (xs ++ ys)) (simp (
      weighted-append (λ m. 1) (λ m. 1) ys (λ m. refl) xs,
      second_sum-append xs ys,
      third_sum-append xs ys,
      fourth_sum-append xs ys,
      add-mod-mod,
      mod-add-mod,
      mul-mod_first,
      mul-mod_second,
    ) refl)))
