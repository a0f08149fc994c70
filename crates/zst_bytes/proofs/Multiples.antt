-- The next multiple of a size, as a count and the zeros that fill it up.
use Rattle.std.proofs.Common.{◌≡◌, ℕ, ◌+◌, ◌-◌, ◌*◌, ◌/◌, ◌%◌, ◌<◌, List, ◌++◌, length, take, replicate, inl, inr, ap, ◌∙◌, Result, Ok, Err, is_ok, OnOk, if◌then◌else◌, arith}
use Rattle.std.proofs.Math.Nat.{mod-eq_of_lt, mod_self}
use Rattle.std.proofs.lemmas.Nat.{div-mul-add, div-add-mod', mod_below}
use Rattle.std.proofs.lemmas.Bool.{cases_eq}
use Rattle.std.proofs.lemmas.List.{take_all}
use Rattle.std.specs.Int.{next_multiple_of}
use Rattle.zst_bytes.specs.Words.{filling}

-- a quotient, by its product and what is over
quotient : (n q size over : ℕ) → n ≡ q * size + over → over < size → n / size ≡ q
quotient n q size over is small = ap (λ (m : ℕ). m / size) is ∙ div-mul-add q size over small

-- the next multiple is so many zeros away
pub next_multiple : (count size : ℕ) → 0 < size → next_multiple_of count size - count ≡ filling size count
next_multiple count size some =
    let q = count / size in
    let whole : q * size + count % size ≡ count = div-add-mod' count size in
    let below : count % size < size = mod_below count size some in
    elim (cases_eq (count % size) 0) [
      | inl none ↦ (
          let up : (count + (size - 1)) / size ≡ q = quotient (count + (size - 1)) q size (size - 1) (omega arith) (omega arith) in
          let stay : (size - count % size) % size ≡ 0 = ap (λ (m : ℕ). m % size) (omega arith) ∙ mod_self size in
          rw (stay, up) (omega arith))
      | inr over ↦ (
          let up : (count + (size - 1)) / size ≡ q + 1 = quotient (count + (size - 1)) (q + 1) size (count % size - 1) (omega arith) (omega arith) in
          let step : (size - count % size) % size ≡ size - count % size = mod-eq_of_lt (omega arith) in
          rw (step, up) (omega arith))
    ]

-- a list that is resized to the next multiple has the old items, and so many zeros
resized : (old : List ℕ) (len size to : ℕ) → len ≡ length old → 0 < size → to ≡ next_multiple_of len size → take to old ++ replicate (to - len) 0 ≡ old ++ replicate (filling size (length old)) 0
resized old len size to long some is =
    let count : to - len ≡ filling size (length old) = ap (λ (n : ℕ). n - len) is ∙ next_multiple len size some ∙ ap (filling size) long in
    ap (λ (l : List ℕ). l ++ replicate (to - len) 0) (take_all to old (omega (arith, is))) ∙ ap (λ (n : ℕ). old ++ replicate n 0) count

-- the same, where there was memory for it
pub filled : {T E : Type 0} (result : Result T E) (old new : List ℕ) (len size to : ℕ) → len ≡ length old → 0 < size → to ≡ next_multiple_of len size
    → new ≡ (if is_ok result then take to old ++ replicate (to - len) 0 else old) → OnOk result (new ≡ old ++ replicate (filling size (length old)) 0)
filled (Ok done) old new len size to long some is grown = grown ∙ resized old len size to long some is
filled (Err failed) old new len size to long some is grown = tt
