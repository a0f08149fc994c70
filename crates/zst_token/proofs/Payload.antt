-- The payload of a token, and its check.
use Rattle.std.proofs.Common.{◌≡◌, ℕ, zero, suc, ◌*◌, ◌/◌, ◌%◌, ◌<◌, ◌^◌, ◌==◌, true, List, [], ◌∷◌, ◌++◌, length, take, drop, flat_map, Some, inl, inr, refl, sym, ap, ◌∙◌, arith, length-drop}
use Rattle.std.proofs.lemmas.Bool.{cases_Bool, eq-eqb, eqb-true}
use Rattle.std.proofs.lemmas.List.{append-nil, drop_at, length-take-le, take-append-drop, take_at}
use Rattle.std.proofs.lemmas.List.Elements.{All-append, All-cons, All-drop, All-from_recursion, All-head, All-nil, All-tail, All-take, recursion_from_All}
use Rattle.std.specs.Int.{w64, to_be_bytes, to_le_bytes}
use Rattle.std.specs.List.{All, AllPass}
use Rattle.hex.proofs.HexLemmas.{length-encode_with}
use Rattle.hex.specs.Hex.{encode_lower, encode_with, lower_digits}
use Rattle.zst_bytes.specs.Words.{word}
use Rattle.zst_fletcher.specs.WeightSum.{weight_sum}
use Rattle.zst_model.specs.refusals.Texts.{guid_text}
use Rattle.zst_model.specs.states.State.{number_bound}
use Rattle.zst_token.specs.Parser.{is_digit, number_of, numbers_in, token_of_digits}
use Rattle.zst_token.specs.Spelling.{IsToken, check_text, numbers_of, payload_text, token_bytes}
use Rattle.zst_token.specs.declared.token.Token.{Token}
use Rattle.zst_token.proofs.FieldLaws.{fields_exact, fields_found, flags_le}
use Rattle.zst_token.proofs.Numbers.{encode-append, length-digits, word-to_le_bytes}
use Rattle.zst_token.proofs.SixteenDigits.{IsBytes-big, IsBytes-word, digits-encoded, digits-of_number, number_of-small, number_of-word}

abbrev Small : ℕ → Type 0
Small n = n < 2 ^ 64

abbrev IsDigit : ℕ → Type 0
IsDigit c = is_digit c ≡ true

-- the digits of a number are sixteen digits
digits_word : (n : ℕ) → AllPass is_digit (encode_lower (word n))
digits_word n = let pass = digits-encoded (to_le_bytes w64 n) (IsBytes-word n) in rw (word-to_le_bytes n) at pass

length-digits_word : (n : ℕ) → length (encode_lower (word n)) ≡ 16
length-digits_word n = omega (arith, length-digits (n ∷ []), ap (λ (l : List ℕ). length (encode_lower l)) (append-nil (word n)))

-- the digits of numbers
pub digits_words : (numbers : List ℕ) → AllPass is_digit (encode_lower (flat_map word numbers))
unfolding encode_with
digits_words [] = All-nil IsDigit
digits_words (n ∷ numbers) =
    rw (encode-append (word n) (flat_map word numbers))
    (All-append IsDigit (encode_lower (word n)) (encode_lower (flat_map word numbers)) (digits_word n) (digits_words numbers))

-- numbers are read from their digits
numbers-read : (numbers : List ℕ) → All (λ n. n < 2 ^ 64) numbers → numbers_in (length numbers) (encode_lower (flat_map word numbers)) ≡ numbers
numbers-read [] fit = refl
numbers-read (n ∷ numbers) fit =
    let first : List ℕ = encode_lower (word n) in
    let later : List ℕ = encode_lower (flat_map word numbers) in
    let parts : encode_lower (flat_map word (n ∷ numbers)) ≡ first ++ later = encode-append (word n) (flat_map word numbers) in
    let front : take 16 (encode_lower (flat_map word (n ∷ numbers))) ≡ first = ap (take 16) parts ∙ take_at first later 16 (length-digits_word n) in
    let back : drop 16 (encode_lower (flat_map word (n ∷ numbers))) ≡ later = ap (drop 16) parts ∙ drop_at first later 16 (length-digits_word n) in
    let number : number_of (take 16 (encode_lower (flat_map word (n ∷ numbers)))) ≡ n = ap number_of front ∙ number_of-word n (All-head Small n numbers fit) in
    let rest : numbers_in (length numbers) (drop 16 (encode_lower (flat_map word (n ∷ numbers)))) ≡ numbers =
    ap (numbers_in (length numbers)) back ∙ numbers-read numbers (All-tail Small n numbers fit) in
    ap (λ (x : ℕ). x ∷ numbers_in (length numbers) (drop 16 (encode_lower (flat_map word (n ∷ numbers))))) number ∙ ap (λ (l : List ℕ). n ∷ l) rest

-- digits are those of their numbers
numbers-spelled : (count : ℕ) (digits : List ℕ) → length digits ≡ 16 * count → AllPass is_digit digits → encode_lower (flat_map word (numbers_in count digits)) ≡ digits
unfolding encode_with
numbers-spelled zero [] long pass = refl
numbers-spelled zero (c ∷ digits) long pass = absurd (omega arith)
numbers-spelled (suc count) digits long pass =
    let sixteen : length (take 16 digits) ≡ 16 = length-take-le 16 digits (omega arith) in
    let first = digits-of_number (take 16 digits) sixteen (All-take IsDigit 16 digits pass) in
    let later = numbers-spelled count (drop 16 digits) (omega (arith, length-drop 16 digits)) (All-drop IsDigit 16 digits pass) in
    encode-append (word (number_of (take 16 digits))) (flat_map word (numbers_in count (drop 16 digits)))
    ∙ ap (λ (l : List ℕ). l ++ encode_lower (flat_map word (numbers_in count (drop 16 digits)))) first
    ∙ ap (λ (l : List ℕ). take 16 digits ++ l) later
    ∙ take-append-drop 16 digits

-- and these fit 64 bits
numbers-small : (count : ℕ) (digits : List ℕ) → length digits ≡ 16 * count → AllPass is_digit digits → All (λ n. n < 2 ^ 64) (numbers_in count digits)
numbers-small zero digits long pass = All-nil Small
numbers-small (suc count) digits long pass =
    let sixteen : length (take 16 digits) ≡ 16 = length-take-le 16 digits (omega arith) in
    All-cons Small (number_of (take 16 digits)) (numbers_in count (drop 16 digits)) (number_of-small (take 16 digits) sixteen (All-take IsDigit 16 digits pass))
    (numbers-small count (drop 16 digits) (omega (arith, length-drop 16 digits)) (All-drop IsDigit 16 digits pass))

-- the numbers of a token fit 64 bits
numbers_of-small : (token : Token) → IsToken token → All (λ n. n < 2 ^ 64) (numbers_of token)
unfolding number_bound
numbers_of-small token lawful =
    let guids : List ℕ = token.redact ++ token.from_redact in
    let each = recursion_from_All Small guids (All-append Small token.redact token.from_redact lawful.redact.fit lawful.from_redact.fit) in
    let flag = flags_le token.large in
    All-from_recursion Small (numbers_of token)
    (omega arith, (lawful.to, (lawful.from, (omega (arith, lawful.object), (lawful.offset, (omega (arith, lawful.redact.few), (omega (arith, lawful.from_redact.few), each)))))))

-- what is read of digits has them as its payload
pub payload_found : (digits : List ℕ) (token : Token) → AllPass is_digit digits → token_of_digits digits ≡ Some token → IsToken token × (payload_text token ≡ digits)
unfolding token_of_digits payload_text
payload_found digits token pass is = elim (cases_Bool (length digits % 16 == 0)) [
  | inl whole ↦
      let count = length digits / 16 in
      let even = eqb-true (length digits % 16) 0 whole in
      let long : length digits ≡ 16 * count = omega arith in
      let found = fields_found (numbers_in count digits) token (numbers-small count digits long pass) (rw whole at is) in
      (found.0, ap (λ (l : List ℕ). encode_lower (flat_map word l)) (sym found.1) ∙ numbers-spelled count digits long pass)
  | inr odd ↦ absurd (let none = rw odd at is in cc none)
]

-- the payload of a token is read as that token
pub payload_exact : (token : Token) → IsToken token → token_of_digits (payload_text token) ≡ Some token
unfolding token_of_digits payload_text
payload_exact token lawful =
    let numbers = numbers_of token in
    let digits : List ℕ = encode_lower (flat_map word numbers) in
    let long = length-digits numbers in
    let count : length digits / 16 ≡ length numbers = omega arith in
    rw (eq-eqb (length digits % 16) 0 (omega arith), count, numbers-read numbers (numbers_of-small token lawful)) (fields_exact token lawful)

-- the check is sixteen digits
pub check_digits : (token : Token) → AllPass is_digit (check_text token)
unfolding check_text guid_text
check_digits token = digits-encoded (to_be_bytes w64 (weight_sum (token_bytes token)).b) (IsBytes-big (weight_sum (token_bytes token)).b)

pub length-check : (token : Token) → length (check_text token) ≡ 16
unfolding check_text guid_text
length-check token = length-encode_with lower_digits (to_be_bytes w64 (weight_sum (token_bytes token)).b)

pub payload_digits : (token : Token) → AllPass is_digit (payload_text token)
unfolding payload_text
payload_digits token = digits_words (numbers_of token)

-- and the payload has some
pub length-payload : (token : Token) → 0 < length (payload_text token)
unfolding payload_text
length-payload token = omega (arith, length-digits (numbers_of token))
