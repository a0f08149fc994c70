-- Ranges of bytes: what stands in them, what a write puts there, and what one that is torn may leave.
use Rattle.std.specs.Prelude.{◌≡◌, ℕ, ◌+◌, ◌-◌, ◌≤◌, List, ◌++◌, length, take, drop, refl}
use Rattle.std.proofs.Common.{sym, ◌∙◌, ap, arith, length-append, length-drop, append_assoc, take-append-drop}
use Rattle.std.proofs.lemmas.List.{take-append-le, drop-append-le, drop-drop, length-take-le}
use Rattle.std.proofs.Math.Seq.{drop-append-add, take-append_seam, drop-append_seam}

-- the bytes of a range
unfoldable pub bytes_at : List ℕ → ℕ → ℕ → List ℕ
bytes_at bytes place count = take count (drop place bytes)

-- these bytes at this place, and elsewhere the old ones
unfoldable pub overwritten : List ℕ → ℕ → List ℕ → List ℕ
overwritten old place bytes = take place old ++ bytes ++ drop (place + length bytes) old

-- every range that doesn't touch this one is as before
pub record Torn (place count : ℕ) (old new : List ℕ) : Type 0 where
  pub size : length new ≡ length old
  pub below : (p n : ℕ) → p + n ≤ place → bytes_at new p n ≡ bytes_at old p n
  pub above : (p n : ℕ) → place + count ≤ p → bytes_at new p n ≡ bytes_at old p n

-- a range inside has its length
pub length-bytes_at : (xs : List ℕ) (p n : ℕ) → p + n ≤ length xs → length (bytes_at xs p n) ≡ n
unfolding bytes_at
length-bytes_at xs p n le = length-take-le n (drop p xs) (omega (arith, length-drop p xs))

-- what follows changes no range before it
pub bytes_at-append : (xs ys : List ℕ) (p n : ℕ) → p + n ≤ length xs → bytes_at (xs ++ ys) p n ≡ bytes_at xs p n
unfolding bytes_at
bytes_at-append xs ys p n le = ap (λ (l : List ℕ). take n l) (drop-append-le p xs ys (omega arith)) ∙ take-append-le n (drop p xs) ys (omega (arith, length-drop p xs))

-- nor does what is cut off behind it
bytes_at-take : (xs : List ℕ) (k p n : ℕ) → k ≤ length xs → p + n ≤ k → bytes_at (take k xs) p n ≡ bytes_at xs p n
bytes_at-take xs k p n inside le =
    sym (bytes_at-append (take k xs) (drop k xs) p n (omega (arith, length-take-le k xs inside))) ∙ ap (λ (l : List ℕ). bytes_at l p n) (take-append-drop k xs)

-- a range of a range
pub bytes_at-bytes_at : (xs : List ℕ) (p n q m : ℕ) → p + n ≤ length xs → q + m ≤ n → bytes_at (bytes_at xs p n) q m ≡ bytes_at xs (p + q) m
unfolding bytes_at
bytes_at-bytes_at xs p n q m inside le =
    bytes_at-take (drop p xs) n q m (omega (arith, length-drop p xs)) le ∙ ap (λ (l : List ℕ). take m l) (drop-drop q p xs)

-- what was written is what stands there
pub bytes_at-overwritten : (old : List ℕ) (place : ℕ) (bytes : List ℕ) → place + length bytes ≤ length old → bytes_at (overwritten old place bytes) place (length bytes) ≡ bytes
unfolding bytes_at overwritten
bytes_at-overwritten old place bytes le =
    let front = length-take-le place old (omega arith) in
    let rest = bytes ++ drop (place + length bytes) old in
    ap (λ (l : List ℕ). take (length bytes) (drop place l)) (append_assoc (take place old) bytes (drop (place + length bytes) old))
    ∙ ap (λ (k : ℕ). take (length bytes) (drop k (take place old ++ rest))) (sym front)
    ∙ ap (λ (l : List ℕ). take (length bytes) l) (drop-append_seam (take place old) rest)
    ∙ take-append_seam bytes (drop (place + length bytes) old)

-- a write inside changes no length
pub length-overwritten : (old : List ℕ) (place : ℕ) (bytes : List ℕ) → place + length bytes ≤ length old → length (overwritten old place bytes) ≡ length old
unfolding overwritten
length-overwritten old place bytes le =
    omega (arith, length-append (take place old ++ bytes) (drop (place + length bytes) old), length-append (take place old) bytes, length-drop (place + length bytes) old, length-take-le place old (omega arith))

-- what stands behind a write is as before
above-overwritten : (old : List ℕ) (place : ℕ) (bytes : List ℕ) (p : ℕ) → place + length bytes ≤ length old → place + length bytes ≤ p → drop p (overwritten old place bytes) ≡ drop p old
unfolding overwritten
above-overwritten old place bytes p inside le =
    let end = place + length bytes in
    let front = take place old ++ bytes in
    let size : length front ≡ end = omega (arith, length-append (take place old) bytes, length-take-le place old (omega arith)) in
    let same : p ≡ length front + (p - end) = omega arith in
    let same_end : end + (p - end) ≡ p = omega arith in
    ap (λ (k : ℕ). drop k (front ++ drop end old)) same ∙ drop-append-add front (drop end old) (p - end) ∙ drop-drop (p - end) end old ∙ ap (λ (k : ℕ). drop k old) same_end

-- a write tears no more than its range
pub Torn-overwritten : (old : List ℕ) (place : ℕ) (bytes : List ℕ) → place + length bytes ≤ length old → Torn place (length bytes) old (overwritten old place bytes)
unfolding bytes_at overwritten
Torn-overwritten old place bytes inside = record {
  size = length-overwritten old place bytes inside;
  below = λ p n le.
      ap (λ (l : List ℕ). take n (drop p l)) (append_assoc (take place old) bytes (drop (place + length bytes) old))
      ∙ bytes_at-append (take place old) (bytes ++ drop (place + length bytes) old) p n (omega (arith, length-take-le place old (omega arith)))
      ∙ bytes_at-take old place p n (omega arith) le;
  above = λ p n le. ap (λ (l : List ℕ). take n l) (above-overwritten old place bytes p inside le);
}

-- nothing at all tears any range
pub Torn-same : (place count : ℕ) (bytes : List ℕ) → Torn place count bytes bytes
Torn-same place count bytes = record { size = refl; below = λ p n le. refl; above = λ p n le. refl }

-- a range that is torn twice is torn
pub Torn-then : (place count : ℕ) (old mid new : List ℕ) → Torn place count old mid → Torn place count mid new → Torn place count old new
Torn-then place count old mid new first second = record {
  size = second.size ∙ first.size;
  below = λ p n le. second.below p n le ∙ first.below p n le;
  above = λ p n le. second.above p n le ∙ first.above p n le;
}

-- torn in a part of the range
pub Torn-wider : (place count p n : ℕ) (old new : List ℕ) → place ≤ p → p + n ≤ place + count → Torn p n old new → Torn place count old new
Torn-wider place count p n old new starts ends torn = record {
  size = torn.size;
  below = λ q m le. torn.below q m (omega arith);
  above = λ q m le. torn.above q m (omega arith);
}
