-- The fields of a token, and the numbers that are one's.
use Rattle.std.proofs.Common.{◌≡◌, ℕ, zero, suc, ◌<◌, ◌≤◌, ◌^◌, ◌==◌, ◌&&◌, Bool, true, false, nat_le, nat_lt, List, [], ◌∷◌, ◌++◌, length, take, drop, get_or, Some, None, inl, inr, refl, sym, ap, subst, ◌∙◌, arith, length-append, length-take, length-drop}
use Rattle.std.proofs.lemmas.Bool.{and_parts, and_from, cases_Bool, leb-true, ltb-true, eqb-true, lt-ltb, le-leb, eq-eqb, cond-true, cond-false}
use Rattle.std.proofs.lemmas.List.{take-append-drop, take_at, drop_at}
use Rattle.std.proofs.lemmas.List.Elements.{All-drop, All-get_or, All-take}
use Rattle.std.specs.List.{All}
use Rattle.zst_model.specs.fields.Guids.{IsGuidSet}
use Rattle.zst_model.specs.states.State.{number_bound}
use Rattle.zst_model.proofs.GuidLists.{IsSet, set_from_test, test_from_set}
use Rattle.zst_token.specs.Parser.{token_of_numbers, is_lawful, is_set, token_with_counts}
use Rattle.zst_token.specs.Spelling.{IsToken, flags_of, numbers_of}
use Rattle.zst_token.specs.declared.token.Token.{Token}

-- fields that go with these counts
pub record AreRight (flag_bits count_one count_two : ℕ) (token : Token) : Type 0 where
  pub flags : flag_bits ≤ 1
  pub count : length token.redact ≡ count_one
  pub from_count : length token.from_redact ≡ count_two
  pub some_to : 0 < token.to
  pub object : token.point.object ≤ number_bound
  pub redact : IsSet token.redact
  pub from_redact : IsSet token.from_redact

-- the test of them
abbrev test : ℕ → ℕ → ℕ → Token → Bool
test flags count from_count token = nat_le flags 1 && ((length token.redact == count) && ((length token.from_redact == from_count) && is_lawful token))

right_from_test : (flags count from_count : ℕ) (token : Token) → test flags count from_count token ≡ true → AreRight flags count from_count token
unfolding is_lawful
right_from_test flags count from_count token passed =
    let a = and_parts (nat_le flags 1) _ passed in
    let b = and_parts (length token.redact == count) _ a.1 in
    let c = and_parts (length token.from_redact == from_count) (is_lawful token) b.1 in
    let d = and_parts (nat_lt 0 token.to) _ c.1 in
    let e = and_parts (nat_le token.point.object number_bound) _ d.1 in
    let f = and_parts (is_set token.redact) (is_set token.from_redact) e.1 in
    record {
      flags = leb-true flags 1 a.0;
      count = eqb-true (length token.redact) count b.0;
      from_count = eqb-true (length token.from_redact) from_count c.0;
      some_to = ltb-true 0 token.to d.0;
      object = leb-true token.point.object number_bound e.0;
      redact = set_from_test token.redact f.0;
      from_redact = set_from_test token.from_redact f.1;
    }

test_from_right : (flags count from_count : ℕ) (token : Token) → AreRight flags count from_count token → test flags count from_count token ≡ true
unfolding is_lawful
test_from_right flags count from_count token right =
    and_from (nat_le flags 1) _ (le-leb flags 1 right.flags)
    (and_from (length token.redact == count) _ (eq-eqb (length token.redact) count right.count)
    (and_from (length token.from_redact == from_count) (is_lawful token) (eq-eqb (length token.from_redact) from_count right.from_count)
    (and_from (nat_lt 0 token.to) _ (lt-ltb 0 token.to right.some_to)
    (and_from (nat_le token.point.object number_bound) _ (le-leb token.point.object number_bound right.object)
    (and_from (is_set token.redact) (is_set token.from_redact) (test_from_set token.redact right.redact) (test_from_set token.from_redact right.from_redact))))))

-- right fields are a token
pub counts_some : (flags count from_count : ℕ) (token : Token) → AreRight flags count from_count token → Some token ≡ token_with_counts flags count from_count token
counts_some flags count from_count token right = sym (cond-true (test flags count from_count token) (Some token) None (test_from_right flags count from_count token right))

-- others are none
pub counts_none : (flags count from_count : ℕ) (token : Token) → (AreRight flags count from_count token → ⊥) → None ≡ token_with_counts flags count from_count token
counts_none flags count from_count token wrong = elim (cases_Bool (test flags count from_count token)) [
  | inl passed ↦ absurd (wrong (right_from_test flags count from_count token passed))
  | inr failed ↦ sym (cond-false (test flags count from_count token) (Some token) None failed)
]

-- what is a token is right
counts_right : (flags count from_count : ℕ) (token found : Token) → token_with_counts flags count from_count token ≡ Some found → AreRight flags count from_count token × (token ≡ found)
counts_right flags count from_count token found is = elim (cases_Bool (test flags count from_count token)) [
  | inl passed ↦ (right_from_test flags count from_count token passed, cc (sym (cond-true (test flags count from_count token) (Some token) None passed) ∙ is))
  | inr failed ↦ absurd (cc (sym (cond-false (test flags count from_count token) (Some token) None failed) ∙ is))
]

-- the token that seven numbers and guids say
abbrev pub token_in : List ℕ → Token
token_in numbers = record {
  large = get_or numbers 0 0 == 1;
  to = get_or numbers 1 0;
  from = get_or numbers 2 0;
  point = record { object = get_or numbers 3 0; offset = get_or numbers 4 0 };
  redact = take (get_or numbers 5 0) (drop 7 numbers);
  from_redact = drop (get_or numbers 5 0) (drop 7 numbers);
}

pub fields_at : (numbers : List ℕ) → 7 ≤ length numbers → token_of_numbers numbers ≡ token_with_counts (get_or numbers 0 0) (get_or numbers 5 0) (get_or numbers 6 0) (token_in numbers)
unfolding token_of_numbers
fields_at [] long = absurd (omega arith)
fields_at (a ∷ []) long = absurd (omega arith)
fields_at (a ∷ b ∷ []) long = absurd (omega arith)
fields_at (a ∷ b ∷ c ∷ []) long = absurd (omega arith)
fields_at (a ∷ b ∷ c ∷ d ∷ []) long = absurd (omega arith)
fields_at (a ∷ b ∷ c ∷ d ∷ e ∷ []) long = absurd (omega arith)
fields_at (a ∷ b ∷ c ∷ d ∷ e ∷ f ∷ []) long = absurd (omega arith)
fields_at (a ∷ b ∷ c ∷ d ∷ e ∷ f ∷ g ∷ guids) long = refl

-- fewer numbers are no token
pub fields_short : (numbers : List ℕ) → length numbers < 7 → None ≡ token_of_numbers numbers
unfolding token_of_numbers
fields_short [] few = refl
fields_short (a ∷ []) few = refl
fields_short (a ∷ b ∷ []) few = refl
fields_short (a ∷ b ∷ c ∷ []) few = refl
fields_short (a ∷ b ∷ c ∷ d ∷ []) few = refl
fields_short (a ∷ b ∷ c ∷ d ∷ e ∷ []) few = refl
fields_short (a ∷ b ∷ c ∷ d ∷ e ∷ f ∷ []) few = refl
fields_short (a ∷ b ∷ c ∷ d ∷ e ∷ f ∷ g ∷ guids) few = absurd (omega arith)

-- numbers whose fields aren't right are no token
pub fields_none : (numbers : List ℕ) → 7 ≤ length numbers → (AreRight (get_or numbers 0 0) (get_or numbers 5 0) (get_or numbers 6 0) (token_in numbers) → ⊥) → None ≡ token_of_numbers numbers
fields_none numbers long wrong = counts_none (get_or numbers 0 0) (get_or numbers 5 0) (get_or numbers 6 0) (token_in numbers) wrong ∙ sym (fields_at numbers long)

-- numbers whose fields are right are that token
pub fields_some : (numbers redact from_redact : List ℕ) → 7 ≤ length numbers → get_or numbers 0 0 ≤ 1 → 0 < get_or numbers 1 0 → get_or numbers 3 0 ≤ number_bound
    → redact ≡ take (get_or numbers 5 0) (drop 7 numbers) → from_redact ≡ drop (get_or numbers 5 0) (drop 7 numbers)
    → get_or numbers 5 0 ≤ length (drop 7 numbers) → length from_redact ≡ get_or numbers 6 0 → IsGuidSet redact → IsGuidSet from_redact
    → Some (record (token_in numbers) { redact = redact; from_redact = from_redact }) ≡ token_of_numbers numbers
fields_some numbers redact from_redact long flags to object redact_is from_redact_is inside count set from_set =
    let token : Token = record (token_in numbers) { redact = redact; from_redact = from_redact } in
    let same : token ≡ token_in numbers =
    ap (λ (set : List ℕ). record (token_in numbers) { redact = set; from_redact = from_redact }) redact_is
    ∙ ap (λ (set : List ℕ). record (token_in numbers) { from_redact = set }) from_redact_is in
    counts_some (get_or numbers 0 0) (get_or numbers 5 0) (get_or numbers 6 0) token (record {
      flags = flags;
      count = omega (arith, ap length redact_is, length-take (get_or numbers 5 0) (drop 7 numbers));
      from_count = count;
      some_to = to;
      object = object;
      redact = record { few = set.few; rising = set.rising };
      from_redact = record { few = from_set.few; rising = from_set.rising };
    })
    ∙ ap (token_with_counts (get_or numbers 0 0) (get_or numbers 5 0) (get_or numbers 6 0)) same
    ∙ sym (fields_at numbers long)

-- more than two full sets are no token
pub fields_long : (numbers : List ℕ) → 39 < length numbers → None ≡ token_of_numbers numbers
fields_long numbers many =
    let guids = drop 7 numbers in
    fields_none numbers (omega arith) (λ right. omega (
      arith,
      right.redact.few,
      right.from_redact.few,
      length-drop 7 numbers,
      length-append (take (get_or numbers 5 0) guids) (drop (get_or numbers 5 0) guids),
      ap length (take-append-drop (get_or numbers 5 0) guids),
    ))

-- the sets of numbers that fit
pub redact_set : (numbers : List ℕ) → All (λ n. n < 2 ^ 64) numbers → IsSet (token_in numbers).redact → IsGuidSet (token_in numbers).redact
redact_set numbers fit set = record {
  few = set.few;
  rising = set.rising;
  fit = All-take (λ n. n < 2 ^ 64) (get_or numbers 5 0) (drop 7 numbers) (All-drop (λ n. n < 2 ^ 64) 7 numbers fit);
}

pub from_redact_set : (numbers : List ℕ) → All (λ n. n < 2 ^ 64) numbers → IsSet (token_in numbers).from_redact → IsGuidSet (token_in numbers).from_redact
from_redact_set numbers fit set = record {
  few = set.few;
  rising = set.rising;
  fit = All-drop (λ n. n < 2 ^ 64) (get_or numbers 5 0) (drop 7 numbers) (All-drop (λ n. n < 2 ^ 64) 7 numbers fit);
}

-- the flags are those of their bit
flags_back : (flags : ℕ) → flags ≤ 1 → flags ≡ flags_of (flags == 1)
flags_back zero le = refl
flags_back (suc zero) le = refl
flags_back (suc (suc n)) le = absurd (omega arith)

-- numbers that are a token are those of a token that has a text
pub fields_found : (numbers : List ℕ) (token : Token) → All (λ n. n < 2 ^ 64) numbers → token_of_numbers numbers ≡ Some token → IsToken token × (numbers ≡ numbers_of token)
unfolding token_of_numbers
fields_found [] token fit is = cc is
fields_found (a ∷ []) token fit is = cc is
fields_found (a ∷ b ∷ []) token fit is = cc is
fields_found (a ∷ b ∷ c ∷ []) token fit is = cc is
fields_found (a ∷ b ∷ c ∷ d ∷ []) token fit is = cc is
fields_found (a ∷ b ∷ c ∷ d ∷ e ∷ []) token fit is = cc is
fields_found (a ∷ b ∷ c ∷ d ∷ e ∷ f ∷ []) token fit is = cc is
fields_found (flags ∷ to ∷ from ∷ object ∷ offset ∷ count ∷ from_count ∷ guids) token fit is =
    let numbers : List ℕ = flags ∷ to ∷ from ∷ object ∷ offset ∷ count ∷ from_count ∷ guids in
    let fits : (i : ℕ) → i < length numbers → get_or numbers i 0 < 2 ^ 64 = λ i below. All-get_or (λ n. n < 2 ^ 64) numbers i 0 below fit in
    let read : Token = token_in numbers in
    let found = counts_right flags count from_count read token is in
    let right = found.0 in
    let lawful : IsToken read = record {
      some_to = right.some_to;
      to = fits 1 (omega arith);
      from = fits 2 (omega arith);
      object = right.object;
      offset = fits 4 (omega arith);
      redact = redact_set numbers fit right.redact;
      from_redact = from_redact_set numbers fit right.from_redact;
    } in
    let spelled : numbers ≡ numbers_of read =
    cc (flags_back flags right.flags, right.count, right.from_count, take-append-drop count guids) in
    (subst IsToken found.1 lawful, spelled ∙ ap numbers_of found.1)

-- the bit of the flags
flag_back : (large : Bool) → (flags_of large == 1) ≡ large
flag_back true = refl
flag_back false = refl

pub flags_le : (large : Bool) → flags_of large ≤ 1
flags_le true = omega arith
flags_le false = omega arith

-- the numbers of a token are that token
pub fields_exact : (token : Token) → IsToken token → token_of_numbers (numbers_of token) ≡ Some token
fields_exact token lawful =
    let count = length token.redact in
    let guids : List ℕ = token.redact ++ token.from_redact in
    sym (fields_some (numbers_of token) token.redact token.from_redact (omega arith) (flags_le token.large) lawful.some_to lawful.object
    (sym (take_at token.redact token.from_redact count refl)) (sym (drop_at token.redact token.from_redact count refl))
    (omega (arith, length-append token.redact token.from_redact)) refl lawful.redact lawful.from_redact)
    ∙ ap (λ (large : Bool). Some (record token { large = large })) (flag_back token.large)
