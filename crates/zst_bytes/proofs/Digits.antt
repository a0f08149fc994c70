-- What a parse of a text that begins bare gives.
use Rattle.std.proofs.Common.{◌≡◌, ℕ, zero, suc, ◌<◌, ◌≤◌, ◌^◌, List, [], ◌∷◌, length, get_or, ◌⊎◌, inl, inr, Result, Ok, Err, Some, IfSome, sym, ap, ◌∙◌, arith}
use Rattle.std.specs.Fmt.{decimal}
use Rattle.std.specs.Result.{result_ok}
use Rattle.std.specs.Str.Parse.{ParsesUnsigned, AllDigits, digits_value}
use Rattle.std.proofs.lemmas.Fmt.{decimal-digits_value, first_decimal, decimal_digit, parse-decimal}
use Rattle.std.proofs.lemmas.Str.Parse.{IsNumeralModel, numerals_by_value, tells_digits, parse_plain}

own : IsNumeralModel (AllDigits 10) (digits_value 10)
own = numerals_by_value (AllDigits 10) tells_digits

-- a bare text that parses is how its number is written
pub parsed_is_written : {E : Type 0} (text : List ℕ) (r : Result ℕ E) → ParsesUnsigned 64 10 text r → 48 ≤ get_or text 0 0 → (get_or text 0 0 ≡ 48 → length text ≡ 1) → IfSome (result_ok r) (λ n. text ≡ decimal n)
parsed_is_written text (Err e) parses digit alone = tt
parsed_is_written {E = E} text (Ok m) parses digit alone =
    let plain = parse_plain own {E = E} 64 text (Ok m) parses (λ plus. absurd (omega arith)) in
    sym (decimal-digits_value own text plain.0.0 plain.0.1 alone plain.0.2) ∙ ap decimal (sym plain.1)

-- a number's text parses as that number
pub written_is_parsed : {E : Type 0} (text : List ℕ) (r : Result ℕ E) (n : ℕ) → ParsesUnsigned 64 10 text r → n < 2 ^ 64 → text ≡ decimal n → result_ok r ≡ Some n
written_is_parsed text r n parses fits is = ap result_ok (parse-decimal 64 n text r fits fits is parses)

-- how a number is written is `0`, or begins with another digit
pub written_is_bare : (n : ℕ) → n < 2 ^ 64 → (decimal n ≡ 48 ∷ []) ⊎ (48 < get_or (decimal n) 0 0)
written_is_bare zero fits = inl (decimal_digit 0 (omega arith))
written_is_bare (suc m) fits = inr (first_decimal (suc m) (omega arith) fits)
