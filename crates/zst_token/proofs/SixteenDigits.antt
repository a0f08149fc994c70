-- Sixteen digits and the number that they write.
use Rattle.std.proofs.Common.{◌≡◌, ℕ, zero, suc, ◌+◌, ◌*◌, ◌/◌, ◌%◌, ◌<◌, ◌^◌, ◌==◌, ◌&&◌, not, ◌||◌, Bool, true, nat_le, List, [], ◌∷◌, length, slice_index, Option, Some, None, unwrap_or, Result, Ok, Err, is_some, inl, inr, refl, sym, ap, ◌∙◌, arith}
use Rattle.std.proofs.lemmas.Bool.{and_parts, cases_lt, eqb-true, leb-true, or_cases}
use Rattle.std.proofs.lemmas.List.Elements.{All-cons, All-head, All-nil, All-tail, All-weaker}
use Rattle.std.proofs.lemmas.Nat.{le_bytes_8, from_le_bytes-to_le_bytes_8}
use Rattle.std.specs.Int.{w64, from_le_bytes, to_le_bytes, to_be_bytes}
use Rattle.std.specs.List.{AllPass}
use Rattle.std.specs.Result.{result_unwrap_or}
use Rattle.hex.proofs.HexLemmas.{decode_of-digits, decode_of-encode_lower, decode_of-even, decode_of-ok}
use Rattle.hex.specs.Hex.{IsBytes, decode_of, decode_pairs, digit_or_error, encode_lower, encode_with, hex_digit_value, is_hex_digit, lower_digits, pair_value, value_at, ◌>>=◌}
use Rattle.hex.specs.declared.error.FromHexError.{FromHexError}
use Rattle.zst_bytes.specs.Words.{word}
use Rattle.zst_token.specs.Parser.{is_digit, number_of}
use Rattle.zst_token.proofs.Numbers.{word-to_le_bytes}

-- a digit has a value, which leads back to it
abbrev leads_back : ℕ → Bool
leads_back c = not (is_digit c) || (is_some (hex_digit_value c) && (slice_index lower_digits (unwrap_or (hex_digit_value c) 99) == c))

abbrev all_lead_back : ℕ → Bool
all_lead_back zero = true
all_lead_back (suc n) = leads_back n && all_lead_back n

back-at : (n c : ℕ) → all_lead_back n ≡ true → c < n → leads_back c ≡ true
back-at zero c all below = absurd (omega arith)
back-at (suc n) c all below =
    let parts = and_parts (leads_back n) (all_lead_back n) all in
    elim (cases_lt c n) [
      | inl lower ↦ back-at n c parts.1 lower
      | inr top ↦
          let e : c ≡ n = omega arith in
          rw e parts.0
    ]

each_leads_back : all_lead_back 103 ≡ true
unfolding is_digit
each_leads_back = refl

digit_below : (c : ℕ) → is_digit c ≡ true → c < 103
unfolding is_digit
digit_below c digit = elim (or_cases (nat_le 48 c && nat_le c 57) (nat_le 97 c && nat_le c 102) digit) [
  | inl low ↦ (let le = leb-true c 57 (and_parts (nat_le 48 c) (nat_le c 57) low).1 in omega arith)
  | inr high ↦ (let le = leb-true c 102 (and_parts (nat_le 97 c) (nat_le c 102) high).1 in omega arith)
]

digit_back : (c : ℕ) → is_digit c ≡ true → (is_hex_digit c ≡ true) × (slice_index lower_digits (unwrap_or (hex_digit_value c) 99) ≡ c)
digit_back c digit =
    let back = rw digit at (back-at 103 c each_leads_back (digit_below c digit)) in
    let parts = and_parts (is_some (hex_digit_value c)) (slice_index lower_digits (unwrap_or (hex_digit_value c) 99) == c) back in
    (parts.0, eqb-true _ c parts.1)

-- the two kinds of digits
abbrev IsDigit : ℕ → Type 0
IsDigit c = is_digit c ≡ true

abbrev IsHexDigit : ℕ → Type 0
IsHexDigit c = is_hex_digit c ≡ true

pub hex_digits : (digits : List ℕ) → AllPass is_digit digits → AllPass is_hex_digit digits
hex_digits digits pass = All-weaker IsDigit IsHexDigit (λ c digit. (digit_back c digit).0) digits pass

-- what an `Ok` after `>>=` shows
bind_ok : {A B : Type 0} (r : Result A FromHexError) (f : A → Result B FromHexError) (y : B)
    → (r >>= f) ≡ Ok y → (x : A) × (r ≡ Ok x) × (f x ≡ Ok y)
bind_ok (Ok x) f y h = (x, refl, h)
bind_ok (Err e) f y h = cc h

-- the value of a digit that was read
value_read : (c i : ℕ) (o : Option ℕ) (v : ℕ) → digit_or_error c i o ≡ Ok v → o ≡ Some v
value_read c i (Some w) v h = cc h
value_read c i None v h = cc h

value_small : (c v : ℕ) → hex_digit_value c ≡ Some v → v < 16
value_small c v h = grind (arith)

-- a digit stands at its value
digit_at_value : (c v : ℕ) → is_digit c ≡ true → hex_digit_value c ≡ Some v → slice_index lower_digits v ≡ c
digit_at_value c v digit value = rw value at ((digit_back c digit).1)

-- what digits are decoded to is encoded as these digits
encode-decoded : (i : ℕ) (digits bytes : List ℕ) → AllPass is_digit digits → decode_pairs i digits ≡ Ok bytes → encode_lower bytes ≡ digits
unfolding decode_pairs encode_with
encode-decoded i [] bytes pass is = let none : [] ≡ bytes = cc is in rw (← none) refl
encode-decoded i (a ∷ []) bytes pass is = cc is
encode-decoded i (a ∷ b ∷ rest) bytes pass is =
    let p0 = bind_ok (pair_value a b i) _ bytes is in
    let p1 = bind_ok (value_at a i) _ p0.0 p0.1 in
    let p2 = bind_ok (value_at b (i + 1)) _ p0.0 p1.2 in
    let p3 = bind_ok (decode_pairs (i + 2) rest) _ bytes p0.2 in
    let later = All-tail IsDigit a (b ∷ rest) pass in
    let again = encode-decoded (i + 2) rest p3.0 (All-tail IsDigit b rest later) p3.1 in
    let high = value_read a i (hex_digit_value a) p1.0 p1.1 in
    let low = value_read b (i + 1) (hex_digit_value b) p2.0 p2.1 in
    let high_small = value_small a p1.0 high in
    let low_small = value_small b p2.0 low in
    let byte : p1.0 * 16 + p2.0 ≡ p0.0 = cc p2.2 in
    let all : p0.0 ∷ p3.0 ≡ bytes = cc p3.2 in
    let above : p0.0 / 16 ≡ p1.0 = omega arith in
    let below : p0.0 % 16 ≡ p2.0 = omega arith in
    let first = digit_at_value a p1.0 (All-head IsDigit a (b ∷ rest) pass) high in
    let second = digit_at_value b p2.0 (All-head IsDigit b rest later) low in
    rw (← all, above, below, first, second, again) refl

-- eight bytes are a number of 64 bits
bytes_small : (bytes : List ℕ) → length bytes ≡ 8 → IsBytes bytes → from_le_bytes w64 bytes < 2 ^ 64
bytes_small [] long small = absurd (omega arith)
bytes_small (a ∷ []) long small = absurd (omega arith)
bytes_small (a ∷ b ∷ []) long small = absurd (omega arith)
bytes_small (a ∷ b ∷ c ∷ []) long small = absurd (omega arith)
bytes_small (a ∷ b ∷ c ∷ d ∷ []) long small = absurd (omega arith)
bytes_small (a ∷ b ∷ c ∷ d ∷ e ∷ []) long small = absurd (omega arith)
bytes_small (a ∷ b ∷ c ∷ d ∷ e ∷ f ∷ []) long small = absurd (omega arith)
bytes_small (a ∷ b ∷ c ∷ d ∷ e ∷ f ∷ g ∷ []) long small = absurd (omega arith)
bytes_small (a ∷ b ∷ c ∷ d ∷ e ∷ f ∷ g ∷ h ∷ []) long small = omega (arith, small 0, small 1, small 2, small 3, small 4, small 5, small 6, small 7)
bytes_small (a ∷ b ∷ c ∷ d ∷ e ∷ f ∷ g ∷ h ∷ i ∷ rest) long small = absurd (omega arith)

-- the bytes of sixteen digits
record Decoded (digits : List ℕ) : Type 0 where
  bytes : List ℕ
  long : length bytes ≡ 8
  small : IsBytes bytes
  number : number_of digits ≡ from_le_bytes w64 bytes
  again : encode_lower bytes ≡ digits

decoded : (digits : List ℕ) → length digits ≡ 16 → AllPass is_digit digits → Decoded digits
unfolding number_of
decoded digits sixteen pass =
    let even : length digits % 2 ≡ 0 = omega arith in
    let r = decode_of-digits digits even (hex_digits digits pass) in
    let ok = decode_of-ok digits r.0 r.1 in
    record {
      bytes = r.0;
      long = omega (arith, ok.2);
      small = ok.3;
      number = ap (λ (d : Result (List ℕ) FromHexError). from_le_bytes w64 (result_unwrap_or d [])) r.1;
      again = encode-decoded 0 digits r.0 pass (sym (decode_of-even digits even) ∙ r.1);
    }

-- the number of sixteen digits has 64 bits
pub number_of-small : (digits : List ℕ) → length digits ≡ 16 → AllPass is_digit digits → number_of digits < 2 ^ 64
number_of-small digits sixteen pass = let d = decoded digits sixteen pass in rw d.number (bytes_small d.bytes d.long d.small)

-- and is written in these
pub digits-of_number : (digits : List ℕ) → length digits ≡ 16 → AllPass is_digit digits → encode_lower (word (number_of digits)) ≡ digits
digits-of_number digits sixteen pass =
    let d = decoded digits sixteen pass in
    ap encode_lower (sym (word-to_le_bytes (number_of digits)) ∙ le_bytes_8 d.bytes (number_of digits) d.long d.small d.number) ∙ d.again

-- the bytes of a number, in both orders
pub IsBytes-word : (n : ℕ) → IsBytes (to_le_bytes w64 n)
IsBytes-word n zero = omega arith
IsBytes-word n (suc zero) = omega arith
IsBytes-word n (suc (suc zero)) = omega arith
IsBytes-word n (suc (suc (suc zero))) = omega arith
IsBytes-word n (suc (suc (suc (suc zero)))) = omega arith
IsBytes-word n (suc (suc (suc (suc (suc zero))))) = omega arith
IsBytes-word n (suc (suc (suc (suc (suc (suc zero)))))) = omega arith
IsBytes-word n (suc (suc (suc (suc (suc (suc (suc zero))))))) = omega arith
IsBytes-word n (suc (suc (suc (suc (suc (suc (suc (suc i)))))))) = omega arith

pub IsBytes-big : (n : ℕ) → IsBytes (to_be_bytes w64 n)
IsBytes-big n zero = omega arith
IsBytes-big n (suc zero) = omega arith
IsBytes-big n (suc (suc zero)) = omega arith
IsBytes-big n (suc (suc (suc zero))) = omega arith
IsBytes-big n (suc (suc (suc (suc zero)))) = omega arith
IsBytes-big n (suc (suc (suc (suc (suc zero))))) = omega arith
IsBytes-big n (suc (suc (suc (suc (suc (suc zero)))))) = omega arith
IsBytes-big n (suc (suc (suc (suc (suc (suc (suc zero))))))) = omega arith
IsBytes-big n (suc (suc (suc (suc (suc (suc (suc (suc i)))))))) = omega arith

-- a number is read again
pub number_of-word : (n : ℕ) → n < 2 ^ 64 → number_of (encode_lower (word n)) ≡ n
unfolding number_of
number_of-word n small =
    ap (λ (l : List ℕ). from_le_bytes w64 (result_unwrap_or (decode_of (encode_lower l)) [])) (sym (word-to_le_bytes n))
    ∙ ap (λ (d : Result (List ℕ) FromHexError). from_le_bytes w64 (result_unwrap_or d [])) (decode_of-encode_lower (to_le_bytes w64 n) (IsBytes-word n))
    ∙ from_le_bytes-to_le_bytes_8 n small

-- what is encoded is digits
abbrev all_digits : ℕ → Bool
all_digits zero = true
all_digits (suc n) = is_digit (slice_index lower_digits n) && all_digits n

each_digit : all_digits 16 ≡ true
unfolding is_digit
each_digit = refl

digit-at : (n k : ℕ) → all_digits n ≡ true → k < n → is_digit (slice_index lower_digits k) ≡ true
digit-at zero k all below = absurd (omega arith)
digit-at (suc n) k all below =
    let parts = and_parts (is_digit (slice_index lower_digits n)) (all_digits n) all in
    elim (cases_lt k n) [
      | inl lower ↦ digit-at n k parts.1 lower
      | inr top ↦
          let e : k ≡ n = omega arith in
          rw e parts.0
    ]

pub digits-encoded : (bytes : List ℕ) → IsBytes bytes → AllPass is_digit (encode_lower bytes)
unfolding encode_with
digits-encoded [] small = All-nil IsDigit
digits-encoded (b ∷ rest) small =
    let fits : b < 256 = small 0 in
    let high : b / 16 < 16 = omega arith in
    let low : b % 16 < 16 = omega arith in
    All-cons IsDigit (slice_index lower_digits (b / 16)) (slice_index lower_digits (b % 16) ∷ encode_lower rest) (digit-at 16 (b / 16) each_digit high)
    (All-cons IsDigit (slice_index lower_digits (b % 16)) (encode_lower rest) (digit-at 16 (b % 16) each_digit low) (digits-encoded rest (λ i. small (suc i))))
