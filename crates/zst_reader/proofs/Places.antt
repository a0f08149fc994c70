-- The place behind a record.
use Rattle.std.proofs.Common.{◌≡◌, ℕ, ◌+◌, ◌/◌, ◌%◌, ◌^◌, ◌≤◌, List, [], ◌++◌, length, take, drop, refl, sym, ap, ◌∙◌, arith, length-append}
use Rattle.std.proofs.lemmas.List.{take-append-drop, take-append-le, nil_from_length, length-take-le}
use Rattle.zst_bytes.specs.Bytes.{bytes_at, number_at}
use Rattle.zst_fletcher.specs.WeightSum.{weight_sum}
use Rattle.zst_record.specs.Decoding.{features_in}
use Rattle.zst_stream.proofs.Growth.{number-grown}
use Rattle.zst_reader.specs.Place.{IsPlaceAfter, IsAhead, IsWithin}
use Rattle.zst_reader.specs.declared.place.Place.{Place}

-- nothing stands before BEGIN
pub place-first : (place : Place) → place.at ≡ 0 → place.sum ≡ weight_sum [] → place.ahead.sum ≡ weight_sum [] → place.ahead.count ≡ 0
    → place.features ≡ 0 → place.to ≡ 0 → IsPlaceAfter [] [] place
unfolding number_at bytes_at
place-first place at sum ahead count features to = record {
  words = refl;
  at = at;
  sum = sum;
  ahead = record { there = omega arith; sum = rw count ahead };
  features = features;
  to = to;
}

-- more follows
pub place-grown : (before rest further : List ℕ) (place : Place) → IsPlaceAfter before rest place → IsPlaceAfter before (rest ++ further) place
place-grown before rest further place is = record {
  words = is.words;
  at = is.at;
  sum = is.sum;
  ahead = record {
    there = let there = is.ahead.there in omega (arith, length-append rest further);
    sum = is.ahead.sum ∙ ap (λ (t : List ℕ). weight_sum (before ++ t)) (sym (take-append-le place.ahead.count rest further is.ahead.there));
  };
  features = is.features;
  to = is.to;
}

-- what stands in the front of a text
front-number : (held : List ℕ) (size at width : ℕ) → at + width ≤ size → size ≤ length held → number_at (take size held) at width ≡ number_at held at width
front-number held size at width inside there =
    sym (number-grown (take size held) (drop size held) at width (omega (arith, length-take-le size held there)))
    ∙ ap (λ (t : List ℕ). number_at t at width) (take-append-drop size held)

-- behind BEGIN
pub place-begun : (old new : Place) (before held : List ℕ) (size : ℕ) → old.at ≡ 0 → 312 ≤ size → IsWithin (length held) size
    → new.at ≡ old.at + size → new.sum ≡ weight_sum (before ++ take size held) → new.features ≡ features_in held → new.to ≡ number_at held 40 8
    → IsAhead (before ++ take size held) (drop size held) new.ahead
    → IsPlaceAfter before held old → IsPlaceAfter (before ++ take size held) (drop size held) new
place-begun old new before held size zero header within at sum features to ahead is =
    let none : before ≡ [] = nil_from_length before (sym is.at ∙ zero) in
    let len : length (take size held) ≡ size = length-take-le size held within.there in
    let long = length-append before (take size held) in
    let words = is.words in
    let whole = within.words in
    let same : (a w : ℕ) → a + w ≤ size → number_at (before ++ take size held) a w ≡ number_at held a w =
    λ a w inside. ap (λ (t : List ℕ). number_at (t ++ take size held) a w) none ∙ front-number held size a w inside within.there in
    record {
      words = omega arith;
      at = let e = is.at in omega arith;
      sum = sum;
      ahead = ahead;
      features = features ∙ ap (λ n. n / 4 % 2 ^ 30) (sym (same 16 8 (omega arith)));
      to = to ∙ sym (same 40 8 (omega arith));
    }

-- behind a later record
pub place-later : (old new : Place) (before held : List ℕ) (size : ℕ) → 312 ≤ old.at → IsWithin (length held) size
    → new.at ≡ old.at + size → new.sum ≡ weight_sum (before ++ take size held) → new.features ≡ old.features → new.to ≡ old.to
    → IsAhead (before ++ take size held) (drop size held) new.ahead
    → IsPlaceAfter before held old → IsPlaceAfter (before ++ take size held) (drop size held) new
place-later old new before held size later within at sum features to ahead is =
    let len : length (take size held) ≡ size = length-take-le size held within.there in
    let long = length-append before (take size held) in
    let words = is.words in
    let whole = within.words in
    let place = is.at in
    record {
      words = omega arith;
      at = omega arith;
      sum = sum;
      ahead = ahead;
      features = features ∙ is.features ∙ ap (λ n. n / 4 % 2 ^ 30) (sym (number-grown before (take size held) 16 8 (omega arith)));
      to = to ∙ is.to ∙ sym (number-grown before (take size held) 40 8 (omega arith));
    }
