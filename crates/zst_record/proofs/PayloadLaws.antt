-- A payload is read as the header that it was written for, and written as it was read.
use Rattle.std.proofs.Common.{◌≡◌, ℕ, ◌+◌, ◌*◌, ◌/◌, ◌%◌, ◌<◌, ◌≤◌, ◌^◌, ◌==◌, ◌&&◌, true, false, not, cond, nat_le, nat_lt, List, [], ◌∷◌, ◌++◌, length, take, drop, flat_map, Option, Some, None, Ok, inl, inr, refl, sym, ap, subst, ◌∙◌, arith, length-append}
use Rattle.std.specs.Prelude.{bit_and}
use Rattle.std.proofs.lemmas.Bool.{and_parts, and_from, cases_Bool, cases_eq, cond-true, cond-false, eq-eqb, ne_eqb, eqb-true, le-leb, leb-true, lt-ltb, ltb-true, not-true, or_cases}
use Rattle.std.proofs.lemmas.List.{drop_at, nil_from_length, take-append-drop, take_at}
use Rattle.std.proofs.lemmas.List.Elements.{All-append, All-cons, All-drop, All-head, All-tail, All-take}
use Rattle.std.proofs.lemmas.Slice.Eq.{bytes_eq-Decides}
use Rattle.std.specs.List.{All}
use Rattle.zst_bytes.specs.Words.{word}
use Rattle.zst_bytes.proofs.WordLists.{length-words}
use Rattle.zst_model.specs.declared.sends.header.Header.{Header}
use Rattle.zst_model.specs.declared.sends.header.Point.{Point}
use Rattle.zst_model.specs.sends.Features.{redacts, resuming}
use Rattle.zst_model.specs.states.State.{AreBytes, number_bound}
use Rattle.zst_record.specs.Decoding.{is_payload_len, needs_payload}
use Rattle.zst_record.specs.Laws.{HasPayload, PayloadFits}
use Rattle.zst_record.specs.Payload.{StatesPayload, StatesResume, bare, begin_payload, behind_magic, content_of, content_with, foreign, goes_with_redacted, goes_with_resuming, goes_with_source, has_magic, has_payload, numbers_in, opened, payload_bytes, payload_fields, payload_magic, said_beside, stated_point, wrong}
use Rattle.zst_record.proofs.PayloadFields.{IsRight, content_found, content_right, require-ok, require-true}
use Rattle.zst_record.proofs.PayloadNumbers.{numbers-read, numbers-small, words-back}
use Rattle.zst_record.proofs.StatedHeaders.{no_guids, not-redacted, not-resumed}

abbrev Small : ℕ → Type 0
Small n = n < 2 ^ 64

-- ---- what is written, and its length

pub begin-some : (header : Header) → has_payload header ≡ true → begin_payload header ≡ payload_bytes header
unfolding begin_payload
begin-some header has = cond-true (has_payload header) (payload_bytes header) [] has

pub begin-none : (header : Header) → has_payload header ≡ false → begin_payload header ≡ []
unfolding begin_payload
begin-none header none = cond-false (has_payload header) (payload_bytes header) [] none

pub length-payload : (header : Header) → length (payload_bytes header) ≡ 40 + 8 * (length header.redact + length header.from_redact)
unfolding payload_bytes
length-payload header =
    omega (arith, length-append payload_magic (flat_map word (payload_fields header)), length-words (payload_fields header), length-append header.redact header.from_redact)

-- a stream that has no payload needs none, and has no guids of its source
none-needed : (header : Header) → has_payload header ≡ false → (needs_payload header.features ≡ false) × (length header.from_redact ≡ 0)
unfolding has_payload
none-needed header none = elim (cases_Bool (needs_payload header.features)) [
  | inl needs ↦ absurd (cc (rw needs at none))
  | inr free ↦ elim (cases_eq (length header.from_redact) 0) [
    | inl empty ↦ (free, empty)
    | inr some ↦
        let more : 0 < length header.from_redact = omega arith in
        absurd (cc (rw (free, lt-ltb 0 (length header.from_redact) more) at none))
  ]
]

len-fits : (len : ℕ) → 40 ≤ len → len ≤ 296 → len % 8 ≡ 0 → is_payload_len len ≡ true
unfolding is_payload_len
len-fits len low high whole =
    let some : (len == 0) ≡ false = ne_eqb len 0 (omega arith) in
    rw some
    (and_from (nat_le 40 len && nat_le len 296) ((len % 8) == 0) (and_from (nat_le 40 len) (nat_le len 296) (le-leb 40 len low) (le-leb len 296 high)) (eq-eqb (len % 8) 0 whole))

none-fits : is_payload_len 0 ≡ true
unfolding is_payload_len
none-fits = refl

pub payload-fits : (header : Header) → StatesPayload header → PayloadFits header
payload-fits header states = elim (cases_Bool (has_payload header)) [
  | inl has ↦
      let len = length-payload header in
      let few = states.redact.few in
      let from_few = states.from_redact.few in
      record {
        len = ap (λ (l : List ℕ). is_payload_len (length l)) (begin-some header has) ∙ len-fits (length (payload_bytes header)) (omega arith) (omega arith) (omega arith);
        none = ap (λ (l : List ℕ). length l == 0) (begin-some header has) ∙ ne_eqb (length (payload_bytes header)) 0 (omega arith) ∙ sym (ap not has);
      }
  | inr none ↦ record {
    len = ap (λ (l : List ℕ). is_payload_len (length l)) (begin-none header none) ∙ none-fits;
    none = ap (λ (l : List ℕ). length l == 0) (begin-none header none) ∙ sym (ap not none);
  }
]

-- ---- the resume point

resume-again : (features : ℕ) (resume : Option Point) → StatesResume features resume → cond (bit_and features resuming == 0) None (Some (stated_point resume)) ≡ resume
resume-again features None states = rw states refl
resume-again features (Some point) states = rw states.resumed refl

resume-none : (features : ℕ) (resume : Option Point) → StatesResume features resume → (bit_and features resuming == 0) ≡ true → resume ≡ None
resume-none features None states none = refl
resume-none features (Some point) states none = absurd (cc (sym none ∙ states.resumed))

resume-goes : (features : ℕ) (resume : Option Point) → StatesResume features resume → goes_with_resuming features (stated_point resume) ≡ true
unfolding goes_with_resuming
resume-goes features None states = rw states refl
resume-goes features (Some point) states = rw states.resumed (le-leb point.object number_bound states.object)

point-small : (features : ℕ) (resume : Option Point) → StatesResume features resume → (Small (stated_point resume).object) × (Small (stated_point resume).offset)
unfolding number_bound
point-small features None states = (omega arith, omega arith)
point-small features (Some point) states = (let object = states.object in omega arith, states.offset)

-- what goes with the features is stated
resume-states : (features : ℕ) (point : Point) → Small point.offset → goes_with_resuming features point ≡ true → StatesResume features (cond (bit_and features resuming == 0) None (Some point))
unfolding goes_with_resuming
resume-states features point small goes = elim (cases_Bool (bit_and features resuming == 0)) [
  | inl none ↦ subst (StatesResume features) (sym (cond-true (bit_and features resuming == 0) None (Some point) none)) none
  | inr some ↦ subst (StatesResume features) (sym (cond-false (bit_and features resuming == 0) None (Some point) some))
      (record { resumed = some; object = leb-true point.object number_bound (rw some at goes); offset = small })
]

-- and again that point
point-again : (features : ℕ) (point : Point) → goes_with_resuming features point ≡ true → stated_point (cond (bit_and features resuming == 0) None (Some point)) ≡ point
unfolding goes_with_resuming
point-again features point goes = elim (cases_Bool (bit_and features resuming == 0)) [
  | inl none ↦
      let parts = and_parts (point.object == 0) (point.offset == 0) (rw none at goes) in
      let object = eqb-true point.object 0 parts.0 in
      let offset = eqb-true point.offset 0 parts.1 in
      ap stated_point (cond-true (bit_and features resuming == 0) None (Some point) none)
      ∙ sym (ap (λ (n : ℕ). record { object = n; offset = point.offset }) object ∙ ap (λ (n : ℕ). record { object = 0; offset = n }) offset)
  | inr some ↦ ap stated_point (cond-false (bit_and features resuming == 0) None (Some point) some)
]

-- ---- the guids

redacted-goes : (features : ℕ) (guids : List ℕ) → (bit_and features redacts == 0) ≡ (length guids == 0) → goes_with_redacted features guids ≡ true
unfolding goes_with_redacted
redacted-goes features guids same = elim (cases_eq (length guids) 0) [
  | inl none ↦ rw (same, eq-eqb (length guids) 0 none) refl
  | inr some ↦
      let more : 0 < length guids = omega arith in
      rw (same, ne_eqb (length guids) 0 some) (lt-ltb 0 (length guids) more)
]

redacted-states : (features : ℕ) (guids : List ℕ) → goes_with_redacted features guids ≡ true → (bit_and features redacts == 0) ≡ (length guids == 0)
unfolding goes_with_redacted
redacted-states features guids goes = elim (cases_Bool (bit_and features redacts == 0)) [
  | inl none ↦ none ∙ sym (rw none at goes)
  | inr some ↦
      let more : 0 < length guids = ltb-true 0 (length guids) (rw some at goes) in
      some ∙ sym (ne_eqb (length guids) 0 (omega arith))
]

source-goes : (from : ℕ) (guids : List ℕ) → (0 < length guids → 0 < from) → goes_with_source from guids ≡ true
unfolding goes_with_source
source-goes from guids source = elim (cases_eq (length guids) 0) [
  | inl none ↦ rw (eq-eqb (length guids) 0 none) refl
  | inr some ↦ rw (ne_eqb (length guids) 0 some) (lt-ltb 0 from (source (omega arith)))
]

source-states : (from : ℕ) (guids : List ℕ) → goes_with_source from guids ≡ true → 0 < length guids → 0 < from
unfolding goes_with_source
source-states from guids goes more = elim (or_cases (length guids == 0) (nat_lt 0 from) goes) [
  | inl none ↦ absurd (let empty = eqb-true (length guids) 0 none in omega arith)
  | inr some ↦ ltb-true 0 from some
]

-- ---- the numbers

-- the numbers of a header that can be stated fit 64 bits
fields-small : (header : Header) → StatesPayload header → All (λ n. n < 2 ^ 64) (payload_fields header)
fields-small header states =
    let point = point-small header.features header.resume states.resume in
    let few = states.redact.few in
    let from_few = states.from_redact.few in
    let count : Small (length header.redact) = omega arith in
    let from_count : Small (length header.from_redact) = omega arith in
    let guids : List ℕ = header.redact ++ header.from_redact in
    let stated : Point = stated_point header.resume in
    let counts : List ℕ = length header.redact ∷ length header.from_redact ∷ guids in
    All-cons Small stated.object (stated.offset ∷ counts) point.0
    (All-cons Small stated.offset counts point.1
    (All-cons Small (length header.redact) (length header.from_redact ∷ guids) count
    (All-cons Small (length header.from_redact) guids from_count
    (All-append Small header.redact header.from_redact states.redact.fit states.from_redact.fit))))

-- and are right
fields-right : (header : Header) → StatesPayload header
    → IsRight (bare header) (stated_point header.resume) (length header.redact) (length header.from_redact) header.redact header.from_redact
unfolding bare
fields-right header states = record {
  count = refl;
  from_count = refl;
  redact_set = record { few = states.redact.few; rising = states.redact.rising };
  from_set = record { few = states.from_redact.few; rising = states.from_redact.rising };
  redacted = redacted-goes header.features header.redact states.redacted;
  resumed = resume-goes header.features header.resume states.resume;
  source = source-goes header.from header.from_redact states.source;
}

-- they say that header
said-again : (header : Header) → StatesPayload header → said_beside (bare header) (stated_point header.resume) header.redact header.from_redact ≡ header
unfolding said_beside bare
said-again header states = ap (λ (resume : Option Point). record header { resume = resume }) (resume-again header.features header.resume states.resume)

content-read : (header : Header) → StatesPayload header → content_of (bare header) (payload_fields header) ≡ Ok header
unfolding content_of
content-read header states =
    let count = length header.redact in
    let from_count = length header.from_redact in
    let guids : List ℕ = header.redact ++ header.from_redact in
    let point : Point = stated_point header.resume in
    ap (λ (set : List ℕ). content_with (bare header) point count from_count set (drop count guids)) (take_at header.redact header.from_redact count refl)
    ∙ ap (λ (set : List ℕ). content_with (bare header) point count from_count header.redact set) (drop_at header.redact header.from_redact count refl)
    ∙ content_right (bare header) point count from_count header.redact header.from_redact (fields-right header states)
    ∙ ap (λ (h : Header). Ok h) (said-again header states)

-- ---- the bytes

opened-none : (header : Header) → needs_payload header.features ≡ false → opened header [] ≡ Ok header
unfolding opened
opened-none header none = rw none refl

magic-first : (rest : List ℕ) → has_magic (payload_magic ++ rest) ≡ true
unfolding has_magic
magic-first rest = refl

opened-some : (header : Header) (rest : List ℕ) → opened header (payload_magic ++ rest) ≡ behind_magic header rest
unfolding opened
opened-some header rest =
    let some : (length (payload_magic ++ rest) == 0) ≡ false = ne_eqb (length (payload_magic ++ rest)) 0 (omega (arith, length-append payload_magic rest)) in
    rw (some, magic-first rest) refl

behind-words : (header : Header) (numbers : List ℕ) → All (λ n. n < 2 ^ 64) numbers → behind_magic header (flat_map word numbers) ≡ content_of header numbers
unfolding behind_magic
behind-words header numbers small =
    let bytes : List ℕ = flat_map word numbers in
    let long = length-words numbers in
    let whole : length bytes % 8 ≡ 0 = omega arith in
    let count : length bytes / 8 ≡ length numbers = omega arith in
    require-true (length bytes % 8 == 0) wrong (content_of header (numbers_in (length bytes / 8) bytes)) (eq-eqb (length bytes % 8) 0 whole)
    ∙ ap (λ (n : ℕ). content_of header (numbers_in n bytes)) count ∙ ap (content_of header) (numbers-read numbers small)

-- a header without what a payload says is bare
pub bare-same : (header : Header) → header.resume ≡ None → header.redact ≡ [] → header.from_redact ≡ [] → bare header ≡ header
unfolding bare
bare-same header resume redact from_redact =
    let no_resume = sym resume in
    let no_redact = sym redact in
    let no_from_redact = sym from_redact in
    λ i. record {
      kind = header.kind;
      flags = header.flags;
      features = header.features;
      time = header.time;
      to = header.to;
      from = header.from;
      name = header.name;
      resume = no_resume i;
      redact = no_redact i;
      from_redact = no_from_redact i;
    }

-- what is written is read again
pub payload-read : (header : Header) → StatesPayload header → opened (bare header) (begin_payload header) ≡ Ok header
unfolding payload_bytes bare
payload-read header states = elim (cases_Bool (has_payload header)) [
  | inl has ↦
      ap (opened (bare header)) (begin-some header has) ∙ opened-some (bare header) (flat_map word (payload_fields header))
      ∙ behind-words (bare header) (payload_fields header) (fields-small header states) ∙ content-read header states
  | inr none ↦
      let free = none-needed header none in
      let no_resume = resume-none header.features header.resume states.resume (eq-eqb (bit_and header.features resuming) 0 (not-resumed header.features free.0)) in
      let empty : (length header.redact == 0) ≡ true = sym states.redacted ∙ eq-eqb (bit_and header.features redacts) 0 (not-redacted header.features free.0) in
      ap (opened (bare header)) (begin-none header none) ∙ opened-none (bare header) free.0
      ∙ ap (λ (h : Header). Ok h) (bare-same header no_resume (nil_from_length header.redact (eqb-true (length header.redact) 0 empty)) (nil_from_length header.from_redact free.1))
]

-- ---- what is read

-- a header that was read of numbers
record IsRead (begun : Header) (numbers : List ℕ) (header : Header) : Type 0 where
  stated : StatesPayload header
  over : bare header ≡ bare begun
  fields : numbers ≡ payload_fields header

numbers-stated : (begun : Header) (point : Point) (count from_count : ℕ) (guids : List ℕ) → Small point.offset → All (λ n. n < 2 ^ 64) guids
    → IsRight (bare begun) point count from_count (take count guids) (drop count guids)
    → IsRead begun (point.object ∷ point.offset ∷ count ∷ from_count ∷ guids) (said_beside (bare begun) point (take count guids) (drop count guids))
unfolding said_beside bare
numbers-stated begun point count from_count guids small fit right =
    let again : Point = stated_point (cond (bit_and begun.features resuming == 0) None (Some point)) in
    let same : again ≡ point = point-again begun.features point right.resumed in
    record {
      stated = record {
        resume = resume-states begun.features point small right.resumed;
        redact = record { few = right.redact_set.few; rising = right.redact_set.rising; fit = All-take Small count guids fit };
        from_redact = record { few = right.from_set.few; rising = right.from_set.rising; fit = All-drop Small count guids fit };
        redacted = redacted-states begun.features (take count guids) right.redacted;
        source = source-states begun.from (drop count guids) right.source;
      };
      over = refl;
      fields = cc (same, right.count, right.from_count, take-append-drop count guids);
    }

numbers-found : (begun header : Header) (numbers : List ℕ) → All (λ n. n < 2 ^ 64) numbers → content_of (bare begun) numbers ≡ Ok header → IsRead begun numbers header
unfolding content_of
numbers-found begun header [] fit is = cc is
numbers-found begun header (a ∷ []) fit is = cc is
numbers-found begun header (a ∷ b ∷ []) fit is = cc is
numbers-found begun header (a ∷ b ∷ c ∷ []) fit is = cc is
numbers-found begun header (a ∷ b ∷ c ∷ d ∷ guids) fit is =
    let point : Point = record { object = a; offset = b } in
    let found = content_found (bare begun) header point c d (take c guids) (drop c guids) is in
    let fit_b = All-tail Small a (b ∷ c ∷ d ∷ guids) fit in
    let fit_c = All-tail Small b (c ∷ d ∷ guids) fit_b in
    let fit_guids = All-tail Small d guids (All-tail Small c (d ∷ guids) fit_c) in
    subst (IsRead begun (a ∷ b ∷ c ∷ d ∷ guids)) found.1 (numbers-stated begun point c d guids (All-head Small b (c ∷ d ∷ guids) fit_b) fit_guids found.0)

-- the bytes behind the magic are those of their numbers
behind-found : (begun header : Header) (rest : List ℕ) → AreBytes rest → behind_magic (bare begun) rest ≡ Ok header
    → (numbers : List ℕ) × (flat_map word numbers ≡ rest) × IsRead begun numbers header
unfolding behind_magic
behind-found begun header rest all is =
    let numbers : List ℕ = numbers_in (length rest / 8) rest in
    let whole = require-ok (length rest % 8 == 0) wrong (content_of (bare begun) numbers) header is in
    let none = eqb-true (length rest % 8) 0 whole.0 in
    let long : length rest ≡ 8 * (length rest / 8) = omega arith in
    (numbers, words-back (length rest / 8) rest long all, numbers-found begun header numbers (numbers-small (length rest / 8) rest all) whole.1)

magic-is : (bytes : List ℕ) → has_magic bytes ≡ true → take 8 bytes ≡ payload_magic
unfolding has_magic
magic-is bytes has = sym ((bytes_eq-Decides payload_magic (take 8 bytes)).0 has)

-- without a payload the header is what the 312 bytes say
none-read : (begun : Header) → needs_payload begun.features ≡ false → HasPayload begun [] (bare begun)
unfolding bare has_payload
none-read begun none = record {
  stated = record {
    resume = eq-eqb (bit_and begun.features resuming) 0 (not-resumed begun.features none);
    redact = no_guids;
    from_redact = no_guids;
    redacted = eq-eqb (bit_and begun.features redacts) 0 (not-redacted begun.features none);
    source = λ some. absurd (omega arith);
  };
  over = refl;
  written = inl (sym (begin-none (bare begun) (rw none refl)));
}

some-read : (begun header : Header) (bytes numbers : List ℕ) → take 8 bytes ≡ payload_magic → flat_map word numbers ≡ drop 8 bytes → IsRead begun numbers header → HasPayload begun bytes header
unfolding payload_bytes
some-read begun header bytes numbers magic words read =
    let all : bytes ≡ payload_bytes header =
    sym (take-append-drop 8 bytes) ∙ ap (λ (l : List ℕ). l ++ drop 8 bytes) magic
    ∙ ap (λ (l : List ℕ). payload_magic ++ l) (sym words ∙ ap (flat_map word) read.fields) in
    record {
      stated = read.stated;
      over = read.over;
      written = elim (cases_Bool (has_payload header)) [ inl has ↦ inl (all ∙ sym (begin-some header has)) | inr none ↦ inr (none, all) ];
    }

-- what is accepted is what is written
pub payload-written : (begun header : Header) (bytes : List ℕ) → AreBytes bytes → opened (bare begun) bytes ≡ Ok header → HasPayload begun bytes header
unfolding opened bare
payload-written begun header bytes all is = elim (cases_eq (length bytes) 0) [
  | inl empty ↦
      let was = rw (eq-eqb (length bytes) 0 empty) at is in
      let none = require-ok (not (needs_payload begun.features)) _ (Ok (bare begun)) header was in
      let same : bare begun ≡ header = cc none.1 in
      subst (λ (h : Header). HasPayload begun bytes h) same
      (subst (λ (l : List ℕ). HasPayload begun l (bare begun)) (sym (nil_from_length bytes empty)) (none-read begun (not-true (needs_payload begun.features) none.0)))
  | inr some ↦
      let was = rw (ne_eqb (length bytes) 0 some) at is in
      let magic = require-ok (has_magic bytes) foreign (behind_magic (bare begun) (drop 8 bytes)) header was in
      let found = behind-found begun header (drop 8 bytes) (All-drop (λ (byte : ℕ). byte < 2 ^ 8) 8 bytes all) magic.1 in
      some-read begun header bytes found.0 (magic-is bytes magic.0) found.1 found.2
]
