-- A token, and its text.
use Rattle.std.specs.Prelude.{ℕ, ◌^◌, ◌<◌, ◌≤◌, Bool, if◌then◌else◌, List, ◌∷◌, ◌++◌, length, flat_map, codes}
use Rattle.hex.specs.Hex.{encode_lower}
use Rattle.zst_bytes.specs.Words.{word}
use Rattle.zst_fletcher.specs.WeightSum.{weight_sum}
use Rattle.zst_model.specs.fields.Guids.{IsGuidSet}
use Rattle.zst_model.specs.refusals.Texts.{guid_text}
use Rattle.zst_model.specs.states.State.{number_bound}
use Rattle.zst_token.specs.declared.token.Token.{Token}

-- a token: there is a to guid, an object's number is at most 2 ^ 48, and what is a number fits 64 bits
pub record IsToken (token : Token) : Type 0 where
  pub some_to : 0 < token.to
  pub to : token.to < 2 ^ 64
  pub from : token.from < 2 ^ 64
  pub object : token.point.object ≤ number_bound
  pub offset : token.point.offset < 2 ^ 64
  pub redact : IsGuidSet token.redact
  pub from_redact : IsGuidSet token.from_redact

-- the flags: bit 0 for large blocks
abbrev pub flags_of : Bool → ℕ
flags_of large = if large then 1 else 0

-- the numbers of a token: its fields, the counts of both sets, and their guids
abbrev pub numbers_of : Token → List ℕ
numbers_of token =
    flags_of token.large ∷ token.to ∷ token.from ∷ token.point.object ∷ token.point.offset
    ∷ length token.redact ∷ length token.from_redact ∷ (token.redact ++ token.from_redact)

-- its bytes: each number as a word, the lowest byte first
abbrev pub token_bytes : Token → List ℕ
token_bytes token = flat_map word (numbers_of token)

-- the bytes in hexadecimal
unfoldable pub payload_text : Token → List ℕ
payload_text token = encode_lower (token_bytes token)

-- the check: the second of the four sums of the bytes, in sixteen digits
unfoldable pub check_text : Token → List ℕ
check_text token = guid_text (weight_sum (token_bytes token)).b

-- the text of a token
unfoldable pub token_text : Token → List ℕ
token_text token = codes "zst1-" ++ (payload_text token ++ (codes "-" ++ check_text token))
