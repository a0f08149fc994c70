-- The sums of words in pairs, by those of the pairs' totals and those of their second words.
use Rattle.std.proofs.Common.{◌≡◌, ℕ, ◌+◌, ◌*◌, ◌-◌, ◌/◌, ◌%◌, ◌^◌, List, ◌∷◌, length, refl, ap, sym, arith}
use Rattle.zst_fletcher.specs.declared.sum.Sum.{Sum}
use Rattle.zst_fletcher.specs.Pairs.{totals_of, seconds_of}
use Rattle.zst_fletcher.specs.WeightSum.{weighted, sums_of}
use Rattle.zst_fletcher.proofs.Triangles.{triangle, pyramid, triangle-twice, pyramid-six}
use Rattle.zst_fletcher.proofs.LastWord.{sums_of-by}
use Rattle.zst_fletcher.proofs.Pairs.{by_pairs, length-totals, length-seconds}

-- the weights of the places of a pair with k pairs after it, by its own place k + 1 among the pairs
third_sum_places : (k : ℕ) → (triangle (2 * k + 2) + (k + 1) ≡ 4 * triangle (k + 1)) × (triangle (2 * k + 1) + 3 * (k + 1) ≡ 4 * triangle (k + 1))
third_sum_places k = (
  omega (arith, triangle-twice (2 * k + 2), triangle-twice (k + 1)),
  omega (arith, triangle-twice (2 * k + 1), triangle-twice (k + 1)),
)

fourth_sum_places : (k : ℕ) → (pyramid (2 * k + 2) + 4 * triangle (k + 1) ≡ 8 * pyramid (k + 1))
    × (pyramid (2 * k + 1) + 8 * triangle (k + 1) ≡ 8 * pyramid (k + 1) + (k + 1))
fourth_sum_places k = (
  omega (arith, pyramid-six (2 * k + 2), pyramid-six (k + 1), triangle-twice (k + 1)),
  omega (arith, pyramid-six (2 * k + 1), pyramid-six (k + 1), triangle-twice (k + 1)),
)

-- a pair at the front, with k pairs after it
weighted-pair : (w : ℕ → ℕ) (a b k : ℕ) (later : List ℕ) → length later ≡ 2 * k
    → weighted w (a ∷ b ∷ later) ≡ w (2 * k + 2) * a + w (2 * k + 1) * b + weighted w later
weighted-pair w a b k later h =
    let e2 : length (b ∷ later) + 1 ≡ 2 * k + 2 = omega arith in
    let e1 : length later + 1 ≡ 2 * k + 1 = omega arith in
    omega (arith, ap (λ n. w n * a) e2, ap (λ n. w n * b) e1)

weighted-total : (w : ℕ → ℕ) (a b k : ℕ) (later : List ℕ) → length later % 2 ≡ 0 → length later ≡ 2 * k
    → weighted w (totals_of (a ∷ b ∷ later)) ≡ w (k + 1) * (a + b) + weighted w (totals_of later)
weighted-total w a b k later whole h =
    let e : length (totals_of later) ≡ k = omega (arith, length-totals later whole) in
    ap (λ n. w (n + 1) * (a + b) + weighted w (totals_of later)) e

weighted-second : (w : ℕ → ℕ) (a b k : ℕ) (later : List ℕ) → length later % 2 ≡ 0 → length later ≡ 2 * k
    → weighted w (seconds_of (a ∷ b ∷ later)) ≡ w (k + 1) * b + weighted w (seconds_of later)
weighted-second w a b k later whole h =
    let e : length (seconds_of later) ≡ k = omega (arith, length-seconds later whole) in
    ap (λ n. w (n + 1) * b + weighted w (seconds_of later)) e

-- each of the four sums
first_sum-parted : (ws : List ℕ) → length ws % 2 ≡ 0 → weighted (λ m. 1) ws ≡ weighted (λ m. 1) (totals_of ws)
first_sum-parted = by_pairs (λ ws. weighted (λ m. 1) ws ≡ weighted (λ m. 1) (totals_of ws)) refl (λ a b later whole ih. omega (arith, ih))

abbrev pub SecondSum : List ℕ → Type 0
SecondSum ws = weighted (λ m. m) ws + weighted (λ m. 1) (seconds_of ws) ≡ 2 * weighted (λ m. m) (totals_of ws)

second_sum-parted : (ws : List ℕ) → length ws % 2 ≡ 0 → SecondSum ws
second_sum-parted = by_pairs SecondSum refl (λ a b later whole ih.
    let k = length later / 2 in
    let h : length later ≡ 2 * k = omega arith in
    omega (arith, ih, weighted-pair (λ m. m) a b k later h, weighted-total (λ m. m) a b k later whole h))

abbrev pub ThirdSum : List ℕ → Type 0
ThirdSum ws =
    weighted triangle ws + weighted (λ m. m) (totals_of ws) + 2 * weighted (λ m. m) (seconds_of ws) ≡ 4 * weighted triangle (totals_of ws)

third_sum-parted : (ws : List ℕ) → length ws % 2 ≡ 0 → ThirdSum ws
third_sum-parted = by_pairs ThirdSum refl (λ a b later whole ih.
    let k = length later / 2 in
    let h : length later ≡ 2 * k = omega arith in
    let e = third_sum_places k in
    omega (
      arith,
      ih,
      weighted-pair triangle a b k later h,
      weighted-total triangle a b k later whole h,
      weighted-total (λ m. m) a b k later whole h,
      weighted-second (λ m. m) a b k later whole h,
      ap (λ t. t * a) e.0,
      ap (λ t. t * b) e.1,
    ))

abbrev pub FourthSum : List ℕ → Type 0
FourthSum ws =
    weighted pyramid ws + 4 * weighted triangle (totals_of ws) + 4 * weighted triangle (seconds_of ws)
    ≡ 8 * weighted pyramid (totals_of ws) + weighted (λ m. m) (seconds_of ws)

fourth_sum-parted : (ws : List ℕ) → length ws % 2 ≡ 0 → FourthSum ws
fourth_sum-parted = by_pairs FourthSum refl (λ a b later whole ih.
    let k = length later / 2 in
    let h : length later ≡ 2 * k = omega arith in
    let e = fourth_sum_places k in
    omega (
      arith,
      ih,
      weighted-pair pyramid a b k later h,
      weighted-total pyramid a b k later whole h,
      weighted-total triangle a b k later whole h,
      weighted-second triangle a b k later whole h,
      weighted-second (λ m. m) a b k later whole h,
      ap (λ t. t * a) e.0,
      ap (λ t. t * b) e.1,
    ))

-- each sum as the code wraps it: of a word's sum w, the totals' sums x and y and the seconds' sums m, n and k
second_sum-wrapped : (w x n : ℕ) → w + n ≡ 2 * x → (x % 2 ^ 64 * 2 % 2 ^ 64 + (2 ^ 64 - n % 2 ^ 64)) % 2 ^ 64 ≡ w % 2 ^ 64
second_sum-wrapped w x n h = omega (arith, h)

third_sum-wrapped : (w x y n : ℕ) → w + y + 2 * n ≡ 4 * x
    → ((x % 2 ^ 64 * 4 % 2 ^ 64 + (2 ^ 64 - y % 2 ^ 64)) % 2 ^ 64 + (2 ^ 64 - n % 2 ^ 64 * 2 % 2 ^ 64)) % 2 ^ 64 ≡ w % 2 ^ 64
third_sum-wrapped w x y n h = omega (arith, h)

fourth_sum-wrapped : (w x y n k : ℕ) → w + 4 * y + 4 * n ≡ 8 * x + k
    → (((x % 2 ^ 64 * 8 % 2 ^ 64 + (2 ^ 64 - y % 2 ^ 64 * 4 % 2 ^ 64)) % 2 ^ 64 + (2 ^ 64 - n % 2 ^ 64 * 4 % 2 ^ 64)) % 2 ^ 64 + k % 2 ^ 64) % 2 ^ 64 ≡ w % 2 ^ 64
fourth_sum-wrapped w x y n k h = omega (arith, h)

-- the sums, as the code parts them
pub sums_of-parted : (ws : List ℕ) (s t : Sum) → length ws % 2 ≡ 0 → s ≡ sums_of (totals_of ws) → t ≡ sums_of (seconds_of ws)
    → record {
      a = s.a;
      b = (s.b * 2 % 2 ^ 64 + (2 ^ 64 - t.a)) % 2 ^ 64;
      c = ((s.c * 4 % 2 ^ 64 + (2 ^ 64 - s.b)) % 2 ^ 64 + (2 ^ 64 - t.b * 2 % 2 ^ 64)) % 2 ^ 64;
      d = (((s.d * 8 % 2 ^ 64 + (2 ^ 64 - s.c * 4 % 2 ^ 64)) % 2 ^ 64 + (2 ^ 64 - t.c * 4 % 2 ^ 64)) % 2 ^ 64 + t.b) % 2 ^ 64;
    } ≡ sums_of ws
sums_of-parted ws s t whole is js =
    let totals = totals_of ws in
    let seconds = seconds_of ws in
    rw (is, js, sums_of-by totals, sums_of-by seconds, sums_of-by ws) (λ i. record {
      a = ap (λ n. n % 2 ^ 64) (sym (first_sum-parted ws whole)) i;
      b = second_sum-wrapped (weighted (λ m. m) ws) (weighted (λ m. m) totals) (weighted (λ m. 1) seconds) (second_sum-parted ws whole) i;
      c = third_sum-wrapped (weighted triangle ws) (weighted triangle totals) (weighted (λ m. m) totals) (weighted (λ m. m) seconds) (third_sum-parted ws whole) i;
      d = fourth_sum-wrapped (weighted pyramid ws) (weighted pyramid totals) (weighted triangle totals) (weighted triangle seconds) (weighted (λ m. m) seconds) (fourth_sum-parted ws whole) i;
    })
