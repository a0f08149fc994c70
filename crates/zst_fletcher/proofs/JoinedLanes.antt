-- The sums of all words, by the sums of the four lanes that take turns at them.
use Rattle.std.proofs.Common.{◌≡◌, ℕ, zero, suc, ◌+◌, ◌*◌, ◌/◌, ◌%◌, ◌^◌, List, [], ◌∷◌, length, slice_index, refl, ap, arith}
use Rattle.std.proofs.Math.Nat.{add-mod-mod, mod-add-mod}
use Rattle.std.proofs.lemmas.Nat.{mul-mod_first}
use Rattle.std.specs.Simd.Lanes.{zip2, fold_l}
use Rattle.zst_fletcher.specs.WeightSum.{weighted}
use Rattle.zst_fletcher.specs.Lanes.{lane, weighted_by_later, pairs, triples}
use Rattle.zst_fletcher.proofs.Triangles.{triangle, pyramid, triangle-twice, pyramid-six}
use Rattle.zst_fletcher.proofs.LaneRows.{by_rows, length-lane}

-- the weights of the places of a row by the number of rows after it
pairs-twice : (n : ℕ) → 2 * pairs n + n ≡ n * n
pairs-twice zero = refl
pairs-twice (suc n) = omega (arith, pairs-twice n)

triples-six : (n : ℕ) → 6 * triples n + 3 * (n * n) ≡ n * n * n + 2 * n
triples-six zero = refl
triples-six (suc n) = omega (arith, triples-six n, pairs-twice n)

third_sum_places : (n : ℕ) → (triangle (4 * n + 4) ≡ 16 * pairs n + 26 * n + 10) × (triangle (4 * n + 3) ≡ 16 * pairs n + 22 * n + 6)
    × (triangle (4 * n + 2) ≡ 16 * pairs n + 18 * n + 3) × (triangle (4 * n + 1) ≡ 16 * pairs n + 14 * n + 1)
third_sum_places n = (
  omega (arith, triangle-twice (4 * n + 4), pairs-twice n),
  omega (arith, triangle-twice (4 * n + 3), pairs-twice n),
  omega (arith, triangle-twice (4 * n + 2), pairs-twice n),
  omega (arith, triangle-twice (4 * n + 1), pairs-twice n),
)

fourth_sum_places : (n : ℕ) → (pyramid (4 * n + 4) ≡ 64 * triples n + 144 * pairs n + 100 * n + 20)
    × (pyramid (4 * n + 3) ≡ 64 * triples n + 128 * pairs n + 74 * n + 10)
    × (pyramid (4 * n + 2) ≡ 64 * triples n + 112 * pairs n + 52 * n + 4)
    × (pyramid (4 * n + 1) ≡ 64 * triples n + 96 * pairs n + 34 * n + 1)
fourth_sum_places n = (
  omega (arith, pyramid-six (4 * n + 4), triples-six n, pairs-twice n),
  omega (arith, pyramid-six (4 * n + 3), triples-six n, pairs-twice n),
  omega (arith, pyramid-six (4 * n + 2), triples-six n, pairs-twice n),
  omega (arith, pyramid-six (4 * n + 1), triples-six n, pairs-twice n),
)

-- the weights of a row at the front, with k rows after it
weighted-row : (w : ℕ → ℕ) (a b c d k : ℕ) (later : List ℕ) → length later ≡ 4 * k
    → weighted w (a ∷ b ∷ c ∷ d ∷ later) ≡ w (4 * k + 4) * a + w (4 * k + 3) * b + w (4 * k + 2) * c + w (4 * k + 1) * d + weighted w later
weighted-row w a b c d k later h =
    let e4 : length (b ∷ c ∷ d ∷ later) + 1 ≡ 4 * k + 4 = omega arith in
    let e3 : length (c ∷ d ∷ later) + 1 ≡ 4 * k + 3 = omega arith in
    let e2 : length (d ∷ later) + 1 ≡ 4 * k + 2 = omega arith in
    let e1 : length later + 1 ≡ 4 * k + 1 = omega arith in
    omega (arith, ap (λ n. w n * a) e4, ap (λ n. w n * b) e3, ap (λ n. w n * c) e2, ap (λ n. w n * d) e1)

-- each lane's part of that row
weighted_by_later-row : (w : ℕ → ℕ) (j a b c d k : ℕ) (later : List ℕ) → length later % 4 ≡ 0 → length later ≡ 4 * k
    → weighted_by_later w (lane j (a ∷ b ∷ c ∷ d ∷ later)) ≡ w k * slice_index (a ∷ b ∷ c ∷ d ∷ []) j + weighted_by_later w (lane j later)
weighted_by_later-row w j a b c d k later whole h =
    let e : length (lane j later) ≡ k = omega (arith, length-lane j later whole) in
    ap (λ n. w n * slice_index (a ∷ b ∷ c ∷ d ∷ []) j + weighted_by_later w (lane j later)) e

-- the lanes, each times its weight
abbrev pub weighed_lanes : ℕ → ℕ → ℕ → ℕ → (ℕ → ℕ) → List ℕ → ℕ
weighed_lanes k0 k1 k2 k3 w ws =
    k0 * weighted_by_later w (lane 0 ws) + k1 * weighted_by_later w (lane 1 ws) + k2 * weighted_by_later w (lane 2 ws) + k3 * weighted_by_later w (lane 3 ws)

weighed_lanes-row : (k0 k1 k2 k3 : ℕ) (w : ℕ → ℕ) (a b c d k : ℕ) (later : List ℕ) → length later % 4 ≡ 0 → length later ≡ 4 * k
    → weighed_lanes k0 k1 k2 k3 w (a ∷ b ∷ c ∷ d ∷ later) ≡ w k * (k0 * a + k1 * b + k2 * c + k3 * d) + weighed_lanes k0 k1 k2 k3 w later
weighed_lanes-row k0 k1 k2 k3 w a b c d k later whole h =
    rw (weighted_by_later-row w 0 a b c d k later whole h, weighted_by_later-row w 1 a b c d k later whole h, weighted_by_later-row w 2 a b c d k later whole h, weighted_by_later-row w 3 a b c d k later whole h)
    (omega arith)

-- each of the four sums of all words, by those of the lanes
pub first_sum-joined : (ws : List ℕ) → length ws % 4 ≡ 0 → weighted (λ m. 1) ws ≡ weighed_lanes 1 1 1 1 (λ n. 1) ws
first_sum-joined = by_rows (λ ws. weighted (λ m. 1) ws ≡ weighed_lanes 1 1 1 1 (λ n. 1) ws) refl (λ a b c d later whole ih.
    let k = length later / 4 in
    let h : length later ≡ 4 * k = omega arith in
    omega (arith, ih, weighted-row (λ m. 1) a b c d k later h, weighed_lanes-row 1 1 1 1 (λ n. 1) a b c d k later whole h))

abbrev pub SecondSum : List ℕ → Type 0
SecondSum ws = weighted (λ m. m) ws ≡ weighed_lanes 4 4 4 4 (λ n. n) ws + weighed_lanes 4 3 2 1 (λ n. 1) ws

pub second_sum-joined : (ws : List ℕ) → length ws % 4 ≡ 0 → SecondSum ws
second_sum-joined = by_rows SecondSum refl (λ a b c d later whole ih.
    let k = length later / 4 in
    let h : length later ≡ 4 * k = omega arith in
    omega (
      arith,
      ih,
      weighted-row (λ m. m) a b c d k later h,
      weighed_lanes-row 4 4 4 4 (λ n. n) a b c d k later whole h,
      weighed_lanes-row 4 3 2 1 (λ n. 1) a b c d k later whole h,
    ))

abbrev pub ThirdSum : List ℕ → Type 0
ThirdSum ws = weighted triangle ws ≡ weighed_lanes 16 16 16 16 pairs ws + weighed_lanes 26 22 18 14 (λ n. n) ws + weighed_lanes 10 6 3 1 (λ n. 1) ws

pub third_sum-joined : (ws : List ℕ) → length ws % 4 ≡ 0 → ThirdSum ws
third_sum-joined = by_rows ThirdSum refl (λ a b c d later whole ih.
    let k = length later / 4 in
    let h : length later ≡ 4 * k = omega arith in
    let e = third_sum_places k in
    omega (
      arith,
      ih,
      weighted-row triangle a b c d k later h,
      weighed_lanes-row 16 16 16 16 pairs a b c d k later whole h,
      weighed_lanes-row 26 22 18 14 (λ n. n) a b c d k later whole h,
      weighed_lanes-row 10 6 3 1 (λ n. 1) a b c d k later whole h,
      ap (λ t. t * a) e.0,
      ap (λ t. t * b) e.1,
      ap (λ t. t * c) e.2,
      ap (λ t. t * d) e.3,
    ))

abbrev pub FourthSum : List ℕ → Type 0
FourthSum ws =
    weighted pyramid ws
    ≡ weighed_lanes 64 64 64 64 triples ws + weighed_lanes 144 128 112 96 pairs ws + weighed_lanes 100 74 52 34 (λ n. n) ws + weighed_lanes 20 10 4 1 (λ n. 1) ws

pub fourth_sum-joined : (ws : List ℕ) → length ws % 4 ≡ 0 → FourthSum ws
fourth_sum-joined = by_rows FourthSum refl (λ a b c d later whole ih.
    let k = length later / 4 in
    let h : length later ≡ 4 * k = omega arith in
    let e = fourth_sum_places k in
    omega (
      arith,
      ih,
      weighted-row pyramid a b c d k later h,
      weighed_lanes-row 64 64 64 64 triples a b c d k later whole h,
      weighed_lanes-row 144 128 112 96 pairs a b c d k later whole h,
      weighed_lanes-row 100 74 52 34 (λ n. n) a b c d k later whole h,
      weighed_lanes-row 20 10 4 1 (λ n. 1) a b c d k later whole h,
      ap (λ t. t * a) e.0,
      ap (λ t. t * b) e.1,
      ap (λ t. t * c) e.2,
      ap (λ t. t * d) e.3,
    ))

-- the weighed sum of four lanes
pub weigh-sums : (ks : List ℕ) (p q r s : ℕ) → length ks ≡ 4
    → fold_l (λ a b. (a + b) % 2 ^ 64) 0 (zip2 (λ a b. a * b % 2 ^ 64) (p % 2 ^ 64 ∷ q % 2 ^ 64 ∷ r % 2 ^ 64 ∷ s % 2 ^ 64 ∷ []) ks)
    ≡ (slice_index ks 0 * p + slice_index ks 1 * q + slice_index ks 2 * r + slice_index ks 3 * s) % 2 ^ 64
weigh-sums [] p q r s h = absurd (omega arith)
weigh-sums (a ∷ []) p q r s h = absurd (omega arith)
weigh-sums (a ∷ b ∷ []) p q r s h = absurd (omega arith)
weigh-sums (a ∷ b ∷ c ∷ []) p q r s h = absurd (omega arith)
weigh-sums (a ∷ b ∷ c ∷ d ∷ []) p q r s h =
    simp (add-mod-mod, mod-add-mod, mul-mod_first) (ap (λ n. n % 2 ^ 64) (omega arith))
weigh-sums (a ∷ b ∷ c ∷ d ∷ e ∷ ks) p q r s h = absurd (omega arith)
