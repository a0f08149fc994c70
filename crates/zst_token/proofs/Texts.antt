-- The text of a token, and its reading.
use Rattle.std.proofs.Common.{◌≡◌, ℕ, ◌+◌, ◌<◌, ◌==◌, ◌&&◌, Bool, true, false, cond, nat_eq, nat_lt, bytes_eq, codes, List, [], ◌∷◌, ◌++◌, length, take, drop, slice_index, Option, Some, None, Result, Ok, Err, IfOk, inl, inr, refl, sym, ap, ◌∙◌, arith, append_assoc, length-append}
use Rattle.std.proofs.Math.Seq.{get_or-append_seam}
use Rattle.std.proofs.lemmas.Bool.{and_from, and_parts, cases_lt, cond-false, cond-true, eq-eqb, eqb-true, le-ltb, lt-ltb, ltb-false}
use Rattle.std.proofs.lemmas.List.{append-nil, drop_all, drop_at, drop_more, get_or_past, take-append-drop, take_all, take_at, nil_from_length}
use Rattle.std.proofs.lemmas.Slice.Eq.{bytes_eq-Decides}
use Rattle.std.specs.List.{AllPass, common_prefix_len}
use Rattle.zst_token.specs.Parser.{token_behind_dash, digits_in_front, is_digit, verdict_on, token_of_digits, token_behind_front, stops, token_of}
use Rattle.zst_token.specs.Spelling.{IsToken, check_text, payload_text, token_text}
use Rattle.zst_token.specs.declared.fault.TokenFault.{TokenFault}
use Rattle.zst_token.specs.declared.token.Token.{Token}
use Rattle.zst_token.proofs.Fronts.{common_prefix-all, common_prefix-front, front_passes, prefix_len-all, prefix_len-up_to}
use Rattle.zst_token.proofs.Payload.{check_digits, length-check, length-payload, payload_digits, payload_exact, payload_found}

-- a text that is put together part by part
pub text_of_parts : (empty first second third all payload check : List ℕ) → empty ≡ [] → first ≡ empty ++ codes "zst1-" → second ≡ first ++ payload → third ≡ second ++ codes "-" → all ≡ third ++ check
    → all ≡ codes "zst1-" ++ (payload ++ (codes "-" ++ check))
text_of_parts empty first second third all payload check none front digits dash end =
    let begun : first ≡ codes "zst1-" = front ∙ ap (λ (l : List ℕ). l ++ codes "zst1-") none in
    let with_digits : second ≡ codes "zst1-" ++ payload = digits ∙ ap (λ (l : List ℕ). l ++ payload) begun in
    let with_dash : third ≡ (codes "zst1-" ++ payload) ++ codes "-" = dash ∙ ap (λ (l : List ℕ). l ++ codes "-") with_digits in
    end ∙ ap (λ (l : List ℕ). l ++ check) with_dash ∙ append_assoc (codes "zst1-" ++ payload) (codes "-") check ∙ append_assoc (codes "zst1-") payload (codes "-" ++ check)

-- a result is ok only by the branch that doesn't stop
passed : (b : Bool) (r : Result Token TokenFault) (place : ℕ) (token : Token) → cond b r (stops place) ≡ Ok token → (b ≡ true) × (r ≡ Ok token)
passed true r place token is = (refl, is)
passed false r place token is = cc is

went_on : (b : Bool) (r : Result Token TokenFault) (place : ℕ) (token : Token) → cond b (stops place) r ≡ Ok token → (b ≡ false) × (r ≡ Ok token)
went_on true r place token is = cc is
went_on false r place token is = (refl, is)

-- the verdict is a token only where it has this payload and this check, and nothing stands behind
verdict_found : (payload check behind : List ℕ) (o : Option Token) (token : Token) → verdict_on payload check behind o ≡ Ok token → (o ≡ Some token) × (check ≡ check_text token) × (behind ≡ [])
verdict_found payload check behind None token is = cc is
verdict_found payload check behind (Some read) token is =
    let checked = passed (bytes_eq check (check_text read)) _ (length payload + 6) token is in
    let ended = passed (length behind == 0) (Ok read) (length payload + 22) token checked.1 in
    let same : read ≡ token = cc ended.1 in
    (ap Some same, (bytes_eq-Decides check (check_text read)).0 checked.0 ∙ ap check_text same, nil_from_length behind (eqb-true (length behind) 0 ended.0))

check_found : (payload rest : List ℕ) (token : Token) → token_behind_dash payload rest ≡ Ok token → (token_of_digits payload ≡ Some token) × (rest ≡ check_text token)
unfolding token_behind_dash
check_found payload rest token is =
    let long = went_on (nat_lt (digits_in_front rest) 16) (verdict_on payload (take 16 rest) (drop 16 rest) (token_of_digits payload)) (length payload + 6 + digits_in_front rest) token is in
    let found = verdict_found payload (take 16 rest) (drop 16 rest) (token_of_digits payload) token long.1 in
    (found.0, sym (take-append-drop 16 rest) ∙ ap (λ (l : List ℕ). take 16 rest ++ l) found.2 ∙ append-nil (take 16 rest) ∙ found.1)

rest_found : (rest : List ℕ) (token : Token) → token_behind_front rest ≡ Ok token → IsToken token × (rest ≡ payload_text token ++ (codes "-" ++ check_text token))
unfolding token_behind_front
rest_found rest token is =
    let count = digits_in_front rest in
    let shape = passed (nat_lt 0 count && (slice_index rest count == 45)) (token_behind_dash (take count rest) (drop (count + 1) rest)) (count + 5) token is in
    let found = check_found (take count rest) (drop (count + 1) rest) token shape.1 in
    let dash = eqb-true (slice_index rest count) 45 (and_parts (nat_lt 0 count) (slice_index rest count == 45) shape.0).1 in
    let read = payload_found (take count rest) token (front_passes is_digit rest count (omega arith)) found.0 in
    let inside = elim (cases_lt count (length rest)) as (λ o. count < length rest) [
      | inl below ↦ below
      | inr past ↦ absurd (omega (arith, dash, get_or_past rest count 0 past))
    ] in
    let cut : rest ≡ take count rest ++ (slice_index rest count ∷ drop (count + 1) rest) =
    sym (take-append-drop count rest) ∙ ap (λ (l : List ℕ). take count rest ++ l) (drop_more rest count 0 inside) in (
      read.0,
      cut ∙ ap (λ (c : ℕ). take count rest ++ (c ∷ drop (count + 1) rest)) dash
          ∙ ap (λ (l : List ℕ). l ++ (45 ∷ drop (count + 1) rest)) (sym read.1) ∙ ap (λ (l : List ℕ). payload_text token ++ (45 ∷ l)) found.1,
    )

-- what is read is a token, and has this text
pub token_found : (text : List ℕ) (token : Token) → token_of text ≡ Ok token → IsToken token × (token_text token ≡ text)
unfolding token_of token_text
token_found text token is =
    let front : List ℕ = codes "zst1-" in
    let same = common_prefix_len nat_eq text front in
    let begun = went_on (nat_lt same 5) (token_behind_front (drop 5 text)) same token is in
    let found = rest_found (drop 5 text) token begun.1 in
    (found.0, ap (λ (l : List ℕ). front ++ l) (sym found.1) ∙ sym (common_prefix-all text front (ltb-false same 5 begun.0)))

-- on the payload and the check of a token the verdict is that token
verdict_exact : (payload check behind : List ℕ) (o : Option Token) (token : Token) → o ≡ Some token → check ≡ check_text token → behind ≡ [] → verdict_on payload check behind o ≡ Ok token
verdict_exact payload check behind o token read same none =
    rw (read, same, none, (bytes_eq-Decides (check_text token) (check_text token)).1 refl) refl

check_exact : (payload : List ℕ) (token : Token) → token_of_digits payload ≡ Some token → token_behind_dash payload (check_text token) ≡ Ok token
unfolding token_behind_dash
check_exact payload token read =
    let check = check_text token in
    let count = prefix_len-all is_digit check (check_digits token) in
    let sixteen = length-check token in
    cond-false (nat_lt (digits_in_front check) 16) (stops (length payload + 6 + digits_in_front check)) (verdict_on payload (take 16 check) (drop 16 check) (token_of_digits payload))
    (le-ltb (digits_in_front check) 16 (omega arith))
    ∙ verdict_exact payload (take 16 check) (drop 16 check) (token_of_digits payload) token read (take_all 16 check (omega arith)) (drop_all 16 check (omega arith))

-- digits up to a dash, and what follows it
rest_cut : (payload after : List ℕ) → AllPass is_digit payload → 0 < length payload → token_behind_front (payload ++ (45 ∷ after)) ≡ token_behind_dash payload after
unfolding token_behind_front is_digit
rest_cut payload after pass some =
    let rest : List ℕ = payload ++ (45 ∷ after) in
    let count : digits_in_front rest ≡ length payload = prefix_len-up_to is_digit payload 45 after pass refl in
    let dash : slice_index rest (digits_in_front rest) ≡ 45 = ap (slice_index rest) count ∙ get_or-append_seam payload 45 after 0 in
    let behind : drop (digits_in_front rest + 1) rest ≡ after =
    ap (drop (digits_in_front rest + 1)) (sym (append_assoc payload (codes "-") after))
    ∙ drop_at (payload ++ codes "-") after (digits_in_front rest + 1) (omega (arith, length-append payload (codes "-"))) in
    cond-true (nat_lt 0 (digits_in_front rest) && (slice_index rest (digits_in_front rest) == 45)) (token_behind_dash (take (digits_in_front rest) rest) (drop (digits_in_front rest + 1) rest)) (stops (digits_in_front rest + 5))
    (and_from (nat_lt 0 (digits_in_front rest)) (slice_index rest (digits_in_front rest) == 45) (lt-ltb 0 (digits_in_front rest) (omega arith)) (eq-eqb (slice_index rest (digits_in_front rest)) 45 dash))
    ∙ ap (λ (l : List ℕ). token_behind_dash l (drop (digits_in_front rest + 1) rest)) (take_at payload (45 ∷ after) (digits_in_front rest) (sym count))
    ∙ ap (token_behind_dash payload) behind

-- the text of a token is read as that token
pub token_exact : (token : Token) → IsToken token → token_of (token_text token) ≡ Ok token
unfolding token_of token_text
token_exact token lawful =
    let front : List ℕ = codes "zst1-" in
    let payload = payload_text token in
    let rest : List ℕ = payload ++ (codes "-" ++ check_text token) in
    let same = common_prefix_len nat_eq (front ++ rest) front in
    cond-false (nat_lt same 5) (stops same) (token_behind_front (drop 5 (front ++ rest))) (le-ltb same 5 (omega (arith, common_prefix-front front rest)))
    ∙ rest_cut payload (check_text token) (payload_digits token) (length-payload token)
    ∙ check_exact payload token (payload_exact token lawful)

-- what the read of a text says, where it is a token
pub printed : (text : List ℕ) (r : Result Token TokenFault) → r ≡ token_of text → IfOk r (λ token. IsToken token × (token_text token ≡ text))
printed text (Ok token) is = token_found text token (sym is)
printed text (Err fault) is = tt
