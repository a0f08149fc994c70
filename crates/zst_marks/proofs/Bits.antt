-- The bits of words, and which of them one more bit turns.
use Rattle.std.proofs.Common.{◌≡◌, ◌≢◌, ◌⊎◌, ◌↔◌, inl, inr, ⊎_elim, ℕ, ◌*◌, ◌/◌, ◌%◌, ◌^◌, ◌<◌, List, length, get_or, set, sym, ◌∙◌, ap, subst, arith, bit_and, bit_or, w64, nat_eq, IsTrue, replicate}
use Rattle.std.proofs.lemmas.List.{get_or-set_same, get_or-set_other, get_or-replicate, get_or_default, get_or_past, length-replicate}
use Rattle.std.proofs.lemmas.Bool.{cases_eq, cases_lt, eqb-true, eq-eqb}
use Rattle.std.proofs.lemmas.Nat.{and_mask}
use Rattle.std.proofs.lemmas.Nat.Bits.{bit_at_set_same, bit_at_set_other, bit_at-zero}
use Rattle.std.specs.Int.{bit_at}
use Rattle.zst_marks.specs.Marks.{IsMarked}

-- the words with the bit of one sector set
abbrev pub with_bit : List ℕ → ℕ → List ℕ
with_bit words sector = set words (sector / 64) (bit_or (get_or words (sector / 64) 0) (1 * 2 ^ (sector % 64) % 2 ^ 64))

set_here : (words : List ℕ) (sector : ℕ) → sector / 64 < length words → IsMarked (with_bit words sector) sector
unfolding IsMarked
set_here words sector inside =
    let word = get_or-set_same words (sector / 64) (bit_or (get_or words (sector / 64) 0) (1 * 2 ^ (sector % 64) % 2 ^ 64)) 0 inside in
    ap (λ (w : ℕ). bit_at w (sector % 64)) word ∙ bit_at_set_same w64 (get_or words (sector / 64) 0) (sector % 64) (omega arith)

-- every other bit is as it was
set_other : (words : List ℕ) (sector other : ℕ) → sector / 64 < length words → (other ≡ sector → ⊥)
    → bit_at (get_or (with_bit words sector) (other / 64) 0) (other % 64) ≡ bit_at (get_or words (other / 64) 0) (other % 64)
set_other words sector other inside apart =
    let made = bit_or (get_or words (sector / 64) 0) (1 * 2 ^ (sector % 64) % 2 ^ 64) in
    elim (cases_eq (other / 64) (sector / 64)) [
      | inl same ↦
          let rest : other % 64 ≢ sector % 64 = λ alike. apart (omega (arith, same, alike)) in
          let word : get_or (with_bit words sector) (other / 64) 0 ≡ made = ap (λ (i : ℕ). get_or (with_bit words sector) i 0) same ∙ get_or-set_same words (sector / 64) made 0 inside in
          ap (λ (w : ℕ). bit_at w (other % 64)) word ∙ bit_at_set_other w64 (get_or words (sector / 64) 0) (sector % 64) (omega arith) (other % 64) rest ∙ ap (λ (i : ℕ). bit_at (get_or words i 0) (other % 64)) (sym same)
      | inr different ↦ ap (λ (w : ℕ). bit_at w (other % 64)) (get_or-set_other words (sector / 64) (other / 64) made 0 different)
    ]

-- so a sector is marked where it is this one, or was marked
after_bit : (words : List ℕ) (sector other : ℕ) → sector / 64 < length words → IsMarked (with_bit words sector) other ↔ ((other ≡ sector) ⊎ IsMarked words other)
unfolding IsMarked
after_bit words sector other inside = (
  (λ marked. elim (cases_eq other sector) [ inl same ↦ inl same | inr apart ↦ inr (sym (set_other words sector other inside apart) ∙ marked) ]),
  (λ was. elim (cases_eq other sector) [
    | inl same ↦ subst (λ (s : ℕ). IsMarked (with_bit words sector) s) (sym same) (set_here words sector inside)
    | inr apart ↦ ⊎_elim (λ same. absurd (apart same)) (λ marked. set_other words sector other inside apart ∙ marked) was
  ]),
)

-- the word that is looked up is the sector's
pub word_is : (words : List ℕ) (i word : ℕ) → i < length words → word ≡ get_or words i word → word ≡ get_or words i 0
word_is words i word inside is = is ∙ get_or_default words i word 0 inside

pub tests_bit : (words : List ℕ) (sector word : ℕ) → sector / 64 < length words → word ≡ get_or words (sector / 64) word
    → IsTrue (nat_eq (bit_and (word / 2 ^ (sector % 64)) 1) 1) ↔ IsMarked words sector
unfolding IsMarked
tests_bit words sector word inside is =
    let here = word_is words (sector / 64) word inside is in
    let bit : bit_and (word / 2 ^ (sector % 64)) 1 ≡ bit_at (get_or words (sector / 64) 0) (sector % 64) = and_mask (word / 2 ^ (sector % 64)) 1 ∙ ap (λ (w : ℕ). w / 2 ^ (sector % 64) % 2) here in
    ((λ test. sym bit ∙ eqb-true _ _ test), (λ marked. eq-eqb _ _ (bit ∙ marked)))

-- no sector is marked in words of zeros
pub none_marked : (n sector : ℕ) (words : List ℕ) → words ≡ replicate n 0 → IsMarked words sector → ⊥
unfolding IsMarked
none_marked n sector words zeros marked =
    let i = sector / 64 in
    let word : get_or words i 0 ≡ 0 = elim (cases_lt i n) [
      | inl inside ↦ ap (λ (w : List ℕ). get_or w i 0) zeros ∙ get_or-replicate n i 0 0 inside
      | inr past ↦ get_or_past words i 0 (omega (arith, past, ap length zeros, length-replicate {A = ℕ} n 0))
    ] in
    let bit : bit_at (get_or words i 0) (sector % 64) ≡ 0 = ap (λ (w : ℕ). bit_at w (sector % 64)) word ∙ bit_at-zero (sector % 64) in
    omega (arith, bit, marked)

pub marked_after : (words : List ℕ) (sector other word : ℕ) → sector / 64 < length words → word ≡ get_or words (sector / 64) word
    → IsMarked (set words (sector / 64) (bit_or word (1 * 2 ^ (sector % 64) % 2 ^ 64))) other ↔ ((other ≡ sector) ⊎ IsMarked words other)
marked_after words sector other word inside is =
    subst (λ (w : ℕ). IsMarked (set words (sector / 64) (bit_or w (1 * 2 ^ (sector % 64) % 2 ^ 64))) other ↔ ((other ≡ sector) ⊎ IsMarked words other)) (sym (word_is words (sector / 64) word inside is)) (after_bit words sector other inside)
