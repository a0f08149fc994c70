-- A text and its parts.
use Rattle.std.proofs.Common.{◌≡◌, inl, inr, ℕ, zero, suc, ◌+◌, ◌-◌, ◌*◌, ◌<◌, ◌≤◌, min, List, [], ◌++◌, length, take, drop, refl, sym, ◌∙◌, ap, add-one, arith, length-drop}
use Rattle.std.proofs.Math.Nat.{mul-le-mul_right}
use Rattle.std.proofs.Math.Seq.{take-append-add}
use Rattle.std.proofs.lemmas.Bool.{cases_lt}
use Rattle.std.proofs.lemmas.List.{take_all, drop_all, drop_at, take-append-drop, take-append-le, drop-append-le, append-nil, length-take, length-take-le}
use Rattle.zst_bytes.specs.Bytes.{bytes_at}
use Rattle.zst_leaves.specs.Leaves.{part, part_length}

pub length-part : (size : ℕ) (text : List ℕ) (k : ℕ) → length (part size text k) ≡ part_length size (length text) k
unfolding part bytes_at
length-part size text k = omega (arith, length-take size (drop (k * size) text), length-drop (k * size) text)

none_taken : (count : ℕ) → take {A = ℕ} count [] ≡ []
none_taken zero = refl
none_taken (suc count) = refl

-- how many bytes the first parts have, and one more
pub front_more : (size long k : ℕ) → min ((k + 1) * size) long ≡ min (k * size) long + part_length size long k
front_more size long k = let end : (k + 1) * size ≡ k * size + size = omega arith in omega (arith, end)

-- a text of one part, from its front on
take_more : (size from : ℕ) (text : List ℕ) → take (from + size) text ≡ take from text ++ take size (drop from text)
take_more size from text = elim (cases_lt from (length text)) [
  | inl inside ↦ (
      let front : length (take from text) ≡ from = length-take-le from text (omega arith) in
      ap (λ (n : ℕ). take (n + size) text) (sym front)
      ∙ ap (take (length (take from text) + size)) (sym (take-append-drop from text))
      ∙ take-append-add (take from text) (drop from text) size)
  | inr behind ↦ (
      let none : drop from text ≡ [] = drop_all from text behind in
      rw (none, none_taken size, take_all (from + size) text (omega arith), take_all from text behind) (sym (append-nil text)))
]

-- the first parts, and one more
pub take-part : (size : ℕ) (text : List ℕ) (k : ℕ) → take ((k + 1) * size) text ≡ take (k * size) text ++ part size text k
unfolding part bytes_at
take-part size text k = let more : (k + 1) * size ≡ k * size + size = omega arith in rw more (take_more size (k * size) text)

-- texts with the same parts are the same as far as these
pub parts_same : (size : ℕ) (one other : List ℕ) (count : ℕ) → ((k : ℕ) → k < count → part size one k ≡ part size other k) → take (count * size) one ≡ take (count * size) other
parts_same size one other zero each = let none : 0 * size ≡ 0 = omega arith in rw none refl
parts_same size one other (suc count) each =
    let front : take (count * size) one ≡ take (count * size) other = parts_same size one other count (λ k less. each k (omega arith)) in
    let last : part size one count ≡ part size other count = each count (omega arith) in
    rw (← add-one count, take-part size one count, take-part size other count, front, last) refl

-- a part inside a text doesn't change by what follows
pub part_before : (size : ℕ) (text more : List ℕ) (k count : ℕ) → k < count → length text ≡ count * size → part size (text ++ more) k ≡ part size text k
unfolding part bytes_at
part_before size text more k count less long =
    let le : (k + 1) * size ≤ count * size = mul-le-mul_right size (omega arith) in
    let inside : k * size + size ≤ length text = omega arith in
    rw (drop-append-le (k * size) text more (omega arith), take-append-le size (drop (k * size) text) more (omega (arith, length-drop (k * size) text))) refl

-- what follows so many parts is the next one, if it is no longer than a part
pub part_last : (size : ℕ) (text last : List ℕ) (count : ℕ) → length text ≡ count * size → length last ≤ size → part size (text ++ last) count ≡ last
unfolding part bytes_at
part_last size text last count long short = ap (take size) (drop_at text last (count * size) long) ∙ take_all size last short

-- behind the end of a text there is nothing
pub part_none : (size : ℕ) (text : List ℕ) (k : ℕ) → length text ≤ k * size → part size text k ≡ []
unfolding part bytes_at
part_none size text k behind = ap (take size) (drop_all (k * size) text behind) ∙ none_taken size

-- a part by its ends in the text
pub part_ends : (size : ℕ) (text : List ℕ) (k start end : ℕ) → start ≡ min (length text) (k * size) → end ≡ min (length text) (start + size) → take (end - start) (drop start text) ≡ part size text k
unfolding part bytes_at
part_ends size text k start end start_is end_is = elim (cases_lt (k * size) (length text)) [
  | inl inside ↦ (
      let same : start ≡ k * size = omega arith in
      let here : take (end - start) (drop start text) ≡ take size (drop start text) = elim (cases_lt size (length text - start)) [
        | inl more ↦ (let all : end - start ≡ size = omega arith in ap (λ (n : ℕ). take n (drop start text)) all)
        | inr last ↦ (
            let long = length-drop start text in
            take_all (end - start) (drop start text) (omega arith) ∙ sym (take_all size (drop start text) (omega arith)))
      ] in
      here ∙ ap (λ (n : ℕ). take size (drop n text)) same)
  | inr behind ↦ (
      let first : drop start text ≡ [] = drop_all start text (omega arith) in
      let second : drop (k * size) text ≡ [] = drop_all (k * size) text behind in
      rw (first, second, none_taken (end - start), none_taken size) refl)
]
