-- The token that a text is, or the place at which it is none.
use Rattle.std.specs.Prelude.{ℕ, zero, suc, ◌+◌, ◌/◌, ◌%◌, ◌==◌, ◌&&◌, ◌||◌, nat_eq, nat_lt, nat_le, bytes_eq, Bool, if◌then◌else◌, Option, Some, None, Result, Ok, Err, List, [], ◌∷◌, length, take, drop, slice_index, codes}
use Rattle.std.specs.Int.{w64, from_le_bytes}
use Rattle.std.specs.List.{prefix_len, common_prefix_len}
use Rattle.std.specs.Result.{result_unwrap_or}
use Rattle.hex.specs.Hex.{decode_of}
use Rattle.zst_model.specs.fields.Guids.{is_rising}
use Rattle.zst_model.specs.states.State.{number_bound}
use Rattle.zst_token.specs.Spelling.{check_text}
use Rattle.zst_token.specs.declared.fault.TokenFault.{TokenFault}
use Rattle.zst_token.specs.declared.token.Token.{Token}

-- E16 at a place
abbrev pub stops : ℕ → Result Token TokenFault
stops place = Err (record { place = place })

-- `0` to `9` and `a` to `f`
unfoldable pub is_digit : ℕ → Bool
is_digit c = (nat_le 48 c && nat_le c 57) || (nat_le 97 c && nat_le c 102)

-- the place of the first character that is no digit, or the text's length
abbrev pub digits_in_front : List ℕ → ℕ
digits_in_front text = prefix_len is_digit text

-- the number of sixteen digits, its lowest byte first
unfoldable pub number_of : List ℕ → ℕ
number_of digits = from_le_bytes w64 (result_unwrap_or (decode_of digits) [])

-- so many numbers, of sixteen digits each
abbrev pub numbers_in : ℕ → List ℕ → List ℕ
numbers_in zero digits = []
numbers_in (suc count) digits = number_of (take 16 digits) ∷ numbers_in count (drop 16 digits)

-- at most sixteen guids that rise
abbrev pub is_set : List ℕ → Bool
is_set guids = nat_le (length guids) 16 && is_rising guids

-- whether fields are a token's: a to guid, an object of at most 2 ^ 48, and two sets of guids
unfoldable pub is_lawful : Token → Bool
is_lawful token = nat_lt 0 token.to && (nat_le token.point.object number_bound && (is_set token.redact && is_set token.from_redact))

-- the token of such fields, where no flag but the first is set, and the guids are as many as the counts say
abbrev pub token_with_counts : ℕ → ℕ → ℕ → Token → Option Token
token_with_counts flags count from_count token =
    if nat_le flags 1 && ((length token.redact == count) && ((length token.from_redact == from_count) && is_lawful token))
    then Some token
    else None

-- the token of these numbers
unfoldable pub token_of_numbers : List ℕ → Option Token
token_of_numbers (flags ∷ to ∷ from ∷ object ∷ offset ∷ count ∷ from_count ∷ guids) =
    token_with_counts flags count from_count (record {
      large = flags == 1;
      to = to;
      from = from;
      point = record { object = object; offset = offset };
      redact = take count guids;
      from_redact = drop count guids;
    })
token_of_numbers numbers = None

-- the token whose bytes these digits are
unfoldable pub token_of_digits : List ℕ → Option Token
token_of_digits digits = if length digits % 16 == 0 then token_of_numbers (numbers_in (length digits / 16) digits) else None

-- a text with digits where they must stand: E16 at its payload, at its check, or behind that
abbrev pub verdict_on : List ℕ → List ℕ → List ℕ → Option Token → Result Token TokenFault
verdict_on payload check behind None = stops 5
verdict_on payload check behind (Some token) =
    if bytes_eq check (check_text token)
    then (if length behind == 0 then Ok token else stops (length payload + 22))
    else stops (length payload + 6)

-- what follows the `-` behind the payload: sixteen digits
unfoldable pub token_behind_dash : List ℕ → List ℕ → Result Token TokenFault
token_behind_dash payload rest =
    if nat_lt (digits_in_front rest) 16
    then stops (length payload + 6 + digits_in_front rest)
    else verdict_on payload (take 16 rest) (drop 16 rest) (token_of_digits payload)

-- what follows `zst1-`: digits, at least one, and a `-`
unfoldable pub token_behind_front : List ℕ → Result Token TokenFault
token_behind_front rest =
    let count = digits_in_front rest in
    if nat_lt 0 count && (slice_index rest count == 45)
    then token_behind_dash (take count rest) (drop (count + 1) rest)
    else stops (count + 5)

-- the token that a text is, or E16 where it first differs from `zst1-`, and where what follows is none
unfoldable pub token_of : List ℕ → Result Token TokenFault
token_of text =
    let same = common_prefix_len nat_eq text (codes "zst1-") in
    if nat_lt same 5 then stops same else token_behind_front (drop 5 text)
