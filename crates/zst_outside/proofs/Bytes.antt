-- Bytes one by one.
use Rattle.std.proofs.Common.{◌≡◌, ◌⊎◌, inl, inr, ℕ, ◌+◌, ◌-◌, ◌<◌, ◌≤◌, List, ◌++◌, length, take, drop, get_or, sym, ◌∙◌, ap, arith, length-append, length-drop}
use Rattle.std.proofs.lemmas.List.{ext_get_or, get_or-take, get_or-drop, get_or-append_right, length-take, length-take-le}
use Rattle.std.proofs.lemmas.Bool.{cases_lt}
use Rattle.std.proofs.Math.ListN.{get_or-append}
use Rattle.zst_outside.specs.Ranges.{bytes_at, overwritten, Torn}
use Rattle.zst_outside.specs.Ranges.{length-overwritten}

pub get_or-bytes_at : (xs : List ℕ) (p n k : ℕ) → k < n → get_or (bytes_at xs p n) k 0 ≡ get_or xs (p + k) 0
unfolding bytes_at
get_or-bytes_at xs p n k lt = get_or-take n (drop p xs) k 0 lt ∙ get_or-drop p xs k 0

-- the bytes outside a range are alike
pub record AlikeOutside (place count : ℕ) (old new : List ℕ) : Type 0 where
  pub size : length new ≡ length old
  pub at : (k : ℕ) → (k < place) ⊎ (place + count ≤ k) → get_or new k 0 ≡ get_or old k 0

module _ (old : List ℕ) (place : ℕ) (bytes : List ℕ) (inside : place + length bytes ≤ length old) where
  front : length (take place old) ≡ place
  front = length-take-le place old (omega arith)

  front_length : length (take place old ++ bytes) ≡ place + length bytes
  front_length = omega (arith, length-append (take place old) bytes, front)

  pub overwritten_below : (k : ℕ) → k < place → get_or (overwritten old place bytes) k 0 ≡ get_or old k 0
  unfolding overwritten
  overwritten_below k lt =
      get_or-append (take place old ++ bytes) (drop (place + length bytes) old) 0 k (omega (arith, front_length))
      ∙ get_or-append (take place old) bytes 0 k (omega (arith, front)) ∙ get_or-take place old k 0 lt

  pub overwritten_in : (k : ℕ) → place ≤ k → k < place + length bytes → get_or (overwritten old place bytes) k 0 ≡ get_or bytes (k - place) 0
  unfolding overwritten
  overwritten_in k le lt =
      get_or-append (take place old ++ bytes) (drop (place + length bytes) old) 0 k (omega (arith, front_length))
      ∙ get_or-append_right (take place old) bytes place k 0 front le

  pub overwritten_above : (k : ℕ) → place + length bytes ≤ k → get_or (overwritten old place bytes) k 0 ≡ get_or old k 0
  unfolding overwritten
  overwritten_above k le =
      let end = place + length bytes in
      let same : end + (k - end) ≡ k = omega arith in
      get_or-append_right (take place old ++ bytes) (drop end old) end k 0 front_length le ∙ get_or-drop end old (k - end) 0 ∙ ap (λ (j : ℕ). get_or old j 0) same

  pub alike-overwritten : AlikeOutside place (length bytes) old (overwritten old place bytes)
  alike-overwritten = record {
    size = length-overwritten old place bytes inside;
    at = λ k out. elim out [ inl lt ↦ overwritten_below k lt | inr le ↦ overwritten_above k le ];
  }

same_ranges : (old new : List ℕ) (p n : ℕ) → length new ≡ length old → ((k : ℕ) → p ≤ k → k < p + n → get_or new k 0 ≡ get_or old k 0) → bytes_at new p n ≡ bytes_at old p n
unfolding bytes_at
same_ranges old new p n size at =
    ext_get_or 0 _ _ (omega (arith, length-take n (drop p new), length-take n (drop p old), length-drop p new, length-drop p old, size))
    (λ i lt.
    let lt_n : i < n = omega (arith, lt, length-take n (drop p new)) in
    get_or-bytes_at new p n i lt_n ∙ at (p + i) (omega arith) (omega arith) ∙ sym (get_or-bytes_at old p n i lt_n))

pub torn_from_alike : (place count : ℕ) (old new : List ℕ) → AlikeOutside place count old new → Torn place count old new
torn_from_alike place count old new alike = record {
  size = alike.size;
  below = λ p n le. same_ranges old new p n alike.size (λ k low high. alike.at k (inl (omega arith)));
  above = λ p n le. same_ranges old new p n alike.size (λ k low high. alike.at k (inr (omega arith)));
}

-- what stood there, put back
pub put_back : (place : ℕ) (bytes old new : List ℕ) → place + length bytes ≤ length old → AlikeOutside place (length bytes) old new → bytes ≡ bytes_at old place (length bytes) → overwritten new place bytes ≡ old
put_back place bytes old new inside alike is =
    let fits : place + length bytes ≤ length new = omega (arith, alike.size) in
    ext_get_or 0 _ _ (length-overwritten new place bytes fits ∙ alike.size) (λ k lt.
    elim (cases_lt k place) [
      | inl low ↦ overwritten_below new place bytes fits k low ∙ alike.at k (inl low)
      | inr from ↦ elim (cases_lt k (place + length bytes)) [
        | inl high ↦
            let same : place + (k - place) ≡ k = omega arith in
            overwritten_in new place bytes fits k from high ∙ ap (λ (l : List ℕ). get_or l (k - place) 0) is ∙ get_or-bytes_at old place (length bytes) (k - place) (omega arith) ∙ ap (λ (j : ℕ). get_or old j 0) same
        | inr past ↦ overwritten_above new place bytes fits k past ∙ alike.at k (inr past)
      ]
    ])
