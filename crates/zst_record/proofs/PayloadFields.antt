-- The content of a payload: what is right of it, and the header that it says.
use Rattle.std.proofs.Common.{◌≡◌, ℕ, ◌<◌, ◌≤◌, ◌==◌, ◌&&◌, Bool, true, false, List, [], ◌∷◌, length, take, drop, get_or, Ok, Err, refl, ap, ◌∙◌, arith, length-append, length-drop}
use Rattle.std.proofs.lemmas.Bool.{and_parts, and_from, eqb-true, eq-eqb}
use Rattle.std.proofs.lemmas.List.{take-append-drop}
use Rattle.zst_model.specs.declared.refusals.stream_fault.StreamFault.{StreamFault}
use Rattle.zst_model.specs.declared.sends.header.Header.{Header}
use Rattle.zst_model.specs.declared.sends.header.Point.{Point}
use Rattle.zst_model.proofs.GuidLists.{IsSet, set_from_test, test_from_set}
use Rattle.zst_record.specs.Payload.{Opened, content_of, content_with, goes_with_redacted, goes_with_resuming, goes_with_source, is_set, require, said_beside, wrong}

-- ---- tests in a row

pub require-true : (b : Bool) (fault : StreamFault) (next : Opened) → b ≡ true → require b fault next ≡ next
require-true true fault next is = refl
require-true false fault next is = absurd (cc is)

-- where all that comes next has the same fault
pub require-same : (b : Bool) (fault : StreamFault) (next : Opened) → (b ≡ true → next ≡ Err fault) → require b fault next ≡ Err fault
require-same true fault next same = same refl
require-same false fault next same = refl

-- what is answered passed the test
pub require-ok : (b : Bool) (fault : StreamFault) (next : Opened) (header : Header) → require b fault next ≡ Ok header → (b ≡ true) × (next ≡ Ok header)
require-ok true fault next header is = (refl, is)
require-ok false fault next header is = absurd (cc is)

-- ---- right content

-- content that goes with its counts and with what BEGIN says
pub record IsRight (header : Header) (point : Point) (count_one count_two : ℕ) (redact from_redact : List ℕ) : Type 0 where
  pub count : length redact ≡ count_one
  pub from_count : length from_redact ≡ count_two
  pub redact_set : IsSet redact
  pub from_set : IsSet from_redact
  pub redacted : goes_with_redacted header.features redact ≡ true
  pub resumed : goes_with_resuming header.features point ≡ true
  pub source : goes_with_source header.from from_redact ≡ true

-- it is the header that it says
pub content_right : (header : Header) (point : Point) (count from_count : ℕ) (redact from_redact : List ℕ) → IsRight header point count from_count redact from_redact
    → content_with header point count from_count redact from_redact ≡ Ok (said_beside header point redact from_redact)
unfolding content_with is_set
content_right header point count from_count redact from_redact right =
    require-true _ wrong _ (and_from (length redact == count) (length from_redact == from_count) (eq-eqb (length redact) count right.count) (eq-eqb (length from_redact) from_count right.from_count))
    ∙ require-true _ wrong _ (and_from (is_set redact) (is_set from_redact) (test_from_set redact right.redact_set) (test_from_set from_redact right.from_set))
    ∙ require-true _ wrong _ right.redacted ∙ require-true _ wrong _ right.resumed ∙ require-true _ wrong _ right.source

-- and the tests tell it
tested : (header : Header) (point : Point) (count from_count : ℕ) (redact from_redact : List ℕ)
    → ((length redact == count) && (length from_redact == from_count)) ≡ true → (is_set redact && is_set from_redact) ≡ true
    → goes_with_redacted header.features redact ≡ true → goes_with_resuming header.features point ≡ true → goes_with_source header.from from_redact ≡ true
    → IsRight header point count from_count redact from_redact
unfolding is_set
tested header point count from_count redact from_redact counts sets redacted resumed source =
    let c = and_parts (length redact == count) (length from_redact == from_count) counts in
    let s = and_parts (is_set redact) (is_set from_redact) sets in
    record {
      count = eqb-true (length redact) count c.0;
      from_count = eqb-true (length from_redact) from_count c.1;
      redact_set = set_from_test redact s.0;
      from_set = set_from_test from_redact s.1;
      redacted = redacted;
      resumed = resumed;
      source = source;
    }

-- other content is wrong
pub content_wrong : (header : Header) (point : Point) (count from_count : ℕ) (redact from_redact : List ℕ) → (IsRight header point count from_count redact from_redact → ⊥)
    → content_with header point count from_count redact from_redact ≡ Err wrong
unfolding content_with
content_wrong header point count from_count redact from_redact other =
    require-same _ wrong _ (λ counts. require-same _ wrong _ (λ sets. require-same _ wrong _ (λ redacted. require-same _ wrong _ (λ resumed. require-same _ wrong _ (λ source.
    absurd (other (tested header point count from_count redact from_redact counts sets redacted resumed source)))))))

-- what is answered is right
pub content_found : (header found : Header) (point : Point) (count from_count : ℕ) (redact from_redact : List ℕ)
    → content_with header point count from_count redact from_redact ≡ Ok found → IsRight header point count from_count redact from_redact × (said_beside header point redact from_redact ≡ found)
unfolding content_with
content_found header found point count from_count redact from_redact is =
    let a = require-ok _ wrong _ found is in
    let b = require-ok _ wrong _ found a.1 in
    let c = require-ok _ wrong _ found b.1 in
    let d = require-ok _ wrong _ found c.1 in
    let e = require-ok _ wrong _ found d.1 in
    (tested header point count from_count redact from_redact a.0 b.0 c.0 d.0 e.0, cc e.1)

-- ---- numbers

-- the point of numbers, and the sets of those behind the first four
abbrev pub point_in : List ℕ → Point
point_in numbers = record { object = get_or numbers 0 0; offset = get_or numbers 1 0 }

abbrev pub redact_in : List ℕ → List ℕ
redact_in numbers = take (get_or numbers 2 0) (drop 4 numbers)

abbrev pub from_redact_in : List ℕ → List ℕ
from_redact_in numbers = drop (get_or numbers 2 0) (drop 4 numbers)

abbrev pub AreRight : Header → List ℕ → Type 0
AreRight header numbers = IsRight header (point_in numbers) (get_or numbers 2 0) (get_or numbers 3 0) (redact_in numbers) (from_redact_in numbers)

pub content_at : (header : Header) (numbers : List ℕ) → 4 ≤ length numbers
    → content_of header numbers ≡ content_with header (point_in numbers) (get_or numbers 2 0) (get_or numbers 3 0) (redact_in numbers) (from_redact_in numbers)
unfolding content_of
content_at header [] long = absurd (omega arith)
content_at header (a ∷ []) long = absurd (omega arith)
content_at header (a ∷ b ∷ []) long = absurd (omega arith)
content_at header (a ∷ b ∷ c ∷ []) long = absurd (omega arith)
content_at header (a ∷ b ∷ c ∷ d ∷ guids) long = refl

-- fewer numbers are wrong
pub numbers_short : (header : Header) (numbers : List ℕ) → length numbers < 4 → content_of header numbers ≡ Err wrong
unfolding content_of
numbers_short header [] few = refl
numbers_short header (a ∷ []) few = refl
numbers_short header (a ∷ b ∷ []) few = refl
numbers_short header (a ∷ b ∷ c ∷ []) few = refl
numbers_short header (a ∷ b ∷ c ∷ d ∷ guids) few = absurd (omega arith)

-- numbers that aren't right are wrong
pub numbers_wrong : (header : Header) (numbers : List ℕ) → 4 ≤ length numbers → (AreRight header numbers → ⊥) → content_of header numbers ≡ Err wrong
numbers_wrong header numbers long other =
    content_at header numbers long ∙ content_wrong header (point_in numbers) (get_or numbers 2 0) (get_or numbers 3 0) (redact_in numbers) (from_redact_in numbers) other

-- right numbers are the header that they say
pub numbers_right : (header : Header) (numbers : List ℕ) → 4 ≤ length numbers → AreRight header numbers
    → content_of header numbers ≡ Ok (said_beside header (point_in numbers) (redact_in numbers) (from_redact_in numbers))
numbers_right header numbers long right =
    content_at header numbers long ∙ content_right header (point_in numbers) (get_or numbers 2 0) (get_or numbers 3 0) (redact_in numbers) (from_redact_in numbers) right

-- more than two full sets are wrong
pub numbers_long : (header : Header) (numbers : List ℕ) → 36 < length numbers → content_of header numbers ≡ Err wrong
numbers_long header numbers many =
    let guids = drop 4 numbers in
    numbers_wrong header numbers (omega arith) (λ right. omega (
      arith,
      right.redact_set.few,
      right.from_set.few,
      length-drop 4 numbers,
      length-append (take (get_or numbers 2 0) guids) (drop (get_or numbers 2 0) guids),
      ap length (take-append-drop (get_or numbers 2 0) guids),
    ))
