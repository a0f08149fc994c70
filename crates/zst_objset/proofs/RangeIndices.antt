-- Which indices a range has, and at which bytes they stand.
use Rattle.std.proofs.Common.{◌≡◌, ◌⊎◌, inl, inr, ℕ, ◌+◌, ◌*◌, ◌<◌, ◌≤◌, ◌&&◌, nat_lt, nat_le, true, false, refl, sym, ap, ◌∙◌, arith, mul-le-mul_right}
use Rattle.std.proofs.Math.Nat.{zero-mul}
use Rattle.std.proofs.lemmas.Bool.{cases_lt, le-leb, lt-leb, lt-ltb}
use Rattle.std.proofs.lemmas.Bool.Decides.{nat_tests}
use Rattle.zst_block.specs.declared.ptr.Ptr.{Ptr}
use Rattle.zst_model.specs.states.AppliedItems.{within}
use Rattle.zst_tree.specs.Indices.{Map, Puts}
use Rattle.zst_objset.specs.Ranges.{put_range}

-- a greater number of blocks takes more bytes
times_below : (a b size : ℕ) → 0 < size → a < b → a * size < b * size
times_below a b size some below = let more : (a + 1) * size ≤ b * size = mul-le-mul_right size (omega arith) in omega (arith, more)

pub le_times : (a b size : ℕ) → 0 < size → nat_le (a * size) (b * size) ≡ nat_le a b
le_times a b size some = elim (cases_lt b a) [
  | inl above ↦ lt-leb _ _ (times_below b a size some above) ∙ sym (lt-leb _ _ above)
  | inr below ↦ le-leb _ _ (mul-le-mul_right size below) ∙ sym (le-leb _ _ below)
]

pub lt_times : (a b size : ℕ) → 0 < size → nat_lt (a * size) (b * size) ≡ nat_lt a b
lt_times a b size some = elim (cases_lt a b) [
  | inl below ↦ lt-ltb _ _ (times_below a b size some below) ∙ sym (lt-ltb _ _ below)
  | inr above ↦ grind (arith, nat_tests, mul-le-mul_right size above)
]

-- the indices of a range stand at its byte places
pub within_times : (first count size i : ℕ) → 0 < size → within (first * size) (count * size) (i * size) ≡ within first count i
within_times first count size i some =
    let total : first * size + count * size ≡ (first + count) * size = omega arith in
    ap (λ b. b && nat_lt (i * size) (first * size + count * size)) (le_times first i size some)
    ∙ ap (λ n. nat_le first i && nat_lt (i * size) n) total
    ∙ ap (λ b. nat_le first i && b) (lt_times i (first + count) size some)

-- a range of bytes has some, and has more than a block, where the range of blocks has some, and an index over 0
pub some_times : (count size : ℕ) → 0 < size → nat_lt 0 (count * size) ≡ nat_lt 0 count
some_times count size some = ap (λ n. nat_lt n (count * size)) (sym (zero-mul size)) ∙ lt_times 0 count size some

pub one_times : (first count size : ℕ) → 0 < size → nat_lt size (first * size + count * size) ≡ nat_lt 1 (first + count)
one_times first count size some =
    let total : first * size + count * size ≡ (first + count) * size = omega arith in
    let one : size ≡ 1 * size = omega arith in
    ap (λ n. nat_lt size n) total ∙ ap (λ n. nat_lt n ((first + count) * size)) one ∙ lt_times 1 (first + count) size some

module _ {X : Type 0} (first count : ℕ) (x : X) (f : ℕ → X) where
  -- each index of a range has what is put there, and each other what it had
  pub put_range-inside : (i : ℕ) → first ≤ i → i < first + count → put_range first count x f i ≡ x
  put_range-inside i from under = let test : within first count i ≡ true = grind (arith, nat_tests) in rw test refl

  pub put_range-outside : (i : ℕ) → (i < first) ⊎ (first + count ≤ i) → put_range first count x f i ≡ f i
  put_range-outside i (inl before) = let test : within first count i ≡ false = grind (arith, nat_tests) in rw test refl
  put_range-outside i (inr behind) = let test : within first count i ≡ false = grind (arith, nat_tests) in rw test refl

-- so a map with a leaf at each index of a range has it put there
pub Puts-range : (first count : ℕ) (leaf : Ptr) (map : Map) → Puts map (put_range first count leaf map) first (first + count) leaf
Puts-range first count leaf map = record {
  inside = record { is = put_range-inside first count leaf map };
  beside = record {
    before = λ i from less. put_range-outside first count leaf map i (inl less);
    behind = λ i over less. put_range-outside first count leaf map i (inr over);
  };
}
