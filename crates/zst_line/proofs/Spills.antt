-- The halves of a spill block's word.
use Rattle.std.proofs.Common.{IsSome, ◌≡◌, ◌≢◌, ℕ, ◌^◌, ◌<◌, ◌≤◌, List, length, get_or, ◌++◌, ◌-◌, take, replicate, true, Ok, Option, Some, None, Bor, sym, ◌∙◌, ap, decimal, arith, lit<, refl, subst}
use Rattle.std.proofs.lemmas.Fmt.{decimal_is_IsNumeral}
use Rattle.std.proofs.lemmas.Str.Parse.{digit_at}
use Rattle.std.proofs.lemmas.Str.Pattern.{IsSplitOnceResult, split_after}
use Rattle.std.proofs.lemmas.Fmt.{decimal_injective}
use Rattle.std.proofs.lemmas.List.{take_all, length-append, length-replicate}
use Rattle.std.proofs.lemmas.List.Elements.{All-append, All-from_get_or, All-replicate}
use Rattle.hex.specs.Hex.{decode_of}
use Rattle.hex.proofs.HexLemmas.{decode_of-ok}
use Rattle.zst_model.specs.states.State.{AreBytes, is_spill_size}
use Rattle.zst_line.specs.Line.{IsBlockOf}
use Rattle.zst_line.specs.Words.{IsSpill}
use Rattle.zst_line.proofs.Sizes.{spill_size_below}

pub no_colon : (n : ℕ) → n < 2 ^ 64 → (i : ℕ) → i < length (decimal n) → get_or (decimal n) i 0 ≢ 58
no_colon n small i below e =
    let digit = digit_at (decimal n) i (decimal_is_IsNumeral n small).0.1 below in
    absurd (omega (arith, digit.0, digit.1, e))

pub spill_halves : (word : List ℕ) (x : Bor (List ℕ) × Bor (List ℕ)) → IsSplitOnceResult 58 word (Some x) → (s : IsSpill word) → (x.0.now ≡ decimal s.size) × (x.1.now ≡ s.bytes)
spill_halves word x h s =
    let small = spill_size_below s.size s.block in
    split_after 58 word (decimal s.size) s.bytes (Some x) h (lit< tt) s.spelled (no_colon s.size (omega arith))

pub no_halves : (word : List ℕ) → IsSplitOnceResult 58 word None → IsSpill word → ⊥
no_halves word h s =
    let small = spill_size_below s.size s.block in
    split_after 58 word (decimal s.size) s.bytes None h (lit< tt) s.spelled (no_colon s.size (omega arith))

pub some_halves : (word : List ℕ) (halves : Option (Bor (List ℕ) × Bor (List ℕ))) → IsSplitOnceResult 58 word halves → IsSpill word → IsSome halves
some_halves word None h s = absurd (no_halves word h s)
some_halves word (Some x) h s = refl

pub halves_of : (word : List ℕ) (halves : Option (Bor (List ℕ) × Bor (List ℕ))) (x : Bor (List ℕ) × Bor (List ℕ)) → IsSplitOnceResult 58 word halves → halves ≡ Some x → (s : IsSpill word)
    → (x.0.now ≡ decimal s.size) × (x.1.now ≡ s.bytes)
halves_of word halves x h e s = spill_halves word x (rw e at h) s

-- what is decoded is bytes
pub decoded_bytes : (word bytes : List ℕ) → decode_of word ≡ Ok bytes → AreBytes bytes
decoded_bytes word bytes decoded = All-from_get_or (λ byte. byte < 2 ^ 8) bytes 0 (λ k within. (decode_of-ok word bytes decoded).3 k)

-- a spill block in its whole length, of what its word has
pub record Filled (word block : List ℕ) : Type 0 where
  pub is : IsBlockOf block word
  pub size : is_spill_size (length block) ≡ true
  pub bytes : AreBytes block

pub block_filled : (word : List ℕ) (s : IsSpill word) (n : ℕ) (front digits bytes block : List ℕ) → front ≡ decimal s.size → digits ≡ s.bytes → front ≡ decimal n → n < 2 ^ 64 → decode_of digits ≡ Ok bytes
    → block ≡ take n bytes ++ replicate (n - length bytes) 0 → Filled word block
block_filled word s n front digits bytes block of_size of_bytes of_n fit decoded made =
    let small = spill_size_below s.size s.block in
    let same : n ≡ s.size = decimal_injective n s.size fit (omega arith) (sym of_n ∙ of_size) in
    let twice = (decode_of-ok digits bytes decoded).2 in
    let room = s.digits.room in
    let long : length digits ≡ length s.bytes = ap length of_bytes in
    let short : length bytes ≤ n = omega arith in
    let whole : block ≡ bytes ++ replicate (n - length bytes) 0 = made ∙ rw take_all refl in
    let size : length block ≡ n = omega (arith, simp (length-append, length-replicate) at (ap length whole)) in
    let spelled = s.spelled in
    let of_length : decimal (length block) ≡ decimal s.size = ap decimal (size ∙ same) in
    record {
      is = record {
        digits = digits;
        bytes = bytes;
        spelled = rw (of_length, of_bytes) spelled;
        decoded = decoded;
        filled = rw size whole;
        small = omega arith;
      };
      size = rw (size, same) s.block;
      bytes = subst AreBytes (sym whole)
          (All-append (λ byte. byte < 2 ^ 8) bytes (replicate (n - length bytes) 0) (decoded_bytes digits bytes decoded) (All-replicate (λ byte. byte < 2 ^ 8) (n - length bytes) 0 (omega arith)));
    }
