-- Writes one behind the other.
use Rattle.std.proofs.Common.{◌≡◌, ℕ, ◌+◌, ◌*◌, ◌<◌, ◌≤◌, List, [], ◌∷◌, ◌++◌, length, get_or, take, drop, flat_map, refl, sym, ap, ◌∙◌, arith, append_assoc, length-append}
use Rattle.std.proofs.Math.Seq.{drop-append-add}
use Rattle.std.proofs.lemmas.List.{drop-drop, length-take-le, take_at, take_all}
use Rattle.std.proofs.lemmas.List.Concat.{flat_map-append}
use Rattle.zst_bytes.specs.Bytes.{written}
use Rattle.zst_bytes.specs.Words.{word}
use Rattle.zst_bytes.proofs.WordLists.{length-words, words-more}
use Rattle.zst_model.specs.declared.sends.header.Header.{Header}
use Rattle.zst_model.specs.declared.sends.header.Point.{Point}
use Rattle.zst_record.specs.Payload.{payload_bytes, payload_magic, stated_point}
use Rattle.zst_record.proofs.PayloadLaws.{length-payload}

-- a write behind a front replaces what stood there
written_behind : (front bytes rest : List ℕ) (place width : ℕ) → length front ≡ place → written place width bytes (front ++ rest) ≡ front ++ (bytes ++ drop width rest)
unfolding written
written_behind front bytes rest place width long =
    let ahead : drop (place + width) (front ++ rest) ≡ drop width rest =
    ap (λ (k : ℕ). drop (k + width) (front ++ rest)) (sym long) ∙ drop-append-add front rest width in
    ap (λ (l : List ℕ). l ++ (bytes ++ drop (place + width) (front ++ rest))) (take_at front rest place long)
    ∙ ap (λ (l : List ℕ). front ++ (bytes ++ l)) ahead

-- the front grows by each write at its end
pub front_grows : (front bytes old into new : List ℕ) (place width : ℕ) → length front ≡ place → into ≡ front ++ drop place old → new ≡ written place width bytes into
    → new ≡ (front ++ bytes) ++ drop (place + width) old
front_grows front bytes old into new place width long was is =
    is ∙ ap (written place width bytes) was ∙ written_behind front bytes (drop place old) place width long
    ∙ ap (λ (l : List ℕ). front ++ (bytes ++ l)) (drop-drop width place old) ∙ sym (append_assoc front bytes (drop (place + width) old))

-- one number more
pub number_written : (numbers old into new : List ℕ) (at place i : ℕ) → at + 8 * length numbers ≤ length old → i < length numbers → place ≡ at + 8 * i
    → into ≡ (take at old ++ flat_map word (take i numbers)) ++ drop (at + 8 * i) old → new ≡ written place 8 (word (get_or numbers i 0)) into
    → new ≡ (take at old ++ flat_map word (take (i + 1) numbers)) ++ drop (at + 8 * (i + 1)) old
number_written numbers old into new at place i room inside here was is =
    let done : List ℕ = flat_map word (take i numbers) in
    let one : List ℕ = word (get_or numbers i 0) in
    let front : List ℕ = take at old ++ done in
    let long : length front ≡ at + 8 * i =
    omega (arith, length-append (take at old) done, length-take-le at old (omega arith), length-words (take i numbers), length-take-le i numbers (omega arith)) in
    let next : at + 8 * i + 8 ≡ at + 8 * (i + 1) = omega arith in
    front_grows front one old into new (at + 8 * i) 8 long was (is ∙ ap (λ (k : ℕ). written k 8 one into) here)
    ∙ ap (λ (k : ℕ). (front ++ one) ++ drop k old) next
    ∙ ap (λ (l : List ℕ). l ++ drop (at + 8 * (i + 1)) old)
    (append_assoc (take at old) done one ∙ ap (λ (l : List ℕ). take at old ++ l) (sym (words-more numbers i inside)))

-- all of them
pub numbers_written : (numbers old into : List ℕ) (at i : ℕ) → length numbers ≤ i → i ≤ length numbers
    → into ≡ (take at old ++ flat_map word (take i numbers)) ++ drop (at + 8 * i) old → into ≡ written at (8 * length numbers) (flat_map word numbers) old
unfolding written
numbers_written numbers old into at i above below is =
    let end : at + 8 * i ≡ at + 8 * length numbers = omega arith in
    is ∙ ap (λ (k : ℕ). (take at old ++ flat_map word (take i numbers)) ++ drop k old) end
    ∙ ap (λ (l : List ℕ). (take at old ++ flat_map word l) ++ drop (at + 8 * length numbers) old) (take_all i numbers above)
    ∙ append_assoc (take at old) (flat_map word numbers) (drop (at + 8 * length numbers) old)

-- the numbers that stand before the guids
abbrev pub counts_behind : Point → List ℕ → List ℕ → List ℕ
counts_behind point redact from_redact = point.object ∷ point.offset ∷ length redact ∷ length from_redact ∷ []

abbrev front_fields : Header → List ℕ
front_fields header = counts_behind (stated_point header.resume) header.redact header.from_redact

-- a payload by what is written at once
payload_parts : (header : Header)
    → payload_bytes header ≡ ((payload_magic ++ flat_map word (front_fields header)) ++ flat_map word header.redact) ++ flat_map word header.from_redact
unfolding payload_bytes
payload_parts header =
    let guids : List ℕ = flat_map word header.redact ++ flat_map word header.from_redact in
    let front : List ℕ = flat_map word (front_fields header) in
    let words : flat_map word (front_fields header ++ (header.redact ++ header.from_redact)) ≡ front ++ guids =
    flat_map-append word (front_fields header) (header.redact ++ header.from_redact)
    ∙ ap (λ (l : List ℕ). front ++ l) (flat_map-append word header.redact header.from_redact) in
    ap (λ (l : List ℕ). payload_magic ++ l) words
    ∙ sym (append_assoc payload_magic front guids)
    ∙ sym (append_assoc (payload_magic ++ front) (flat_map word header.redact) (flat_map word header.from_redact))

-- what four writes in a row make: the magic, the numbers before the guids, and both sets
pub payload_stands : (header : Header) (point : Point) (redact from_redact old magic front first second : List ℕ) (end end_of_first : ℕ)
    → point ≡ stated_point header.resume → redact ≡ header.redact → from_redact ≡ header.from_redact
    → magic ≡ written 0 8 payload_magic old
    → front ≡ written 8 32 (flat_map word (counts_behind point redact from_redact)) magic → end ≡ 40
    → first ≡ written end (8 * length redact) (flat_map word redact) front → end_of_first ≡ end + 8 * length redact
    → second ≡ written end_of_first (8 * length from_redact) (flat_map word from_redact) first
    → second ≡ payload_bytes header ++ drop (length (payload_bytes header)) old
payload_stands header point redact from_redact old magic front first second end end_of_first point_is redact_is from_is magic_is front_is end_is first_is end_of_first_is second_is =
    let words : List ℕ = flat_map word (counts_behind point redact from_redact) in
    let has_magic = front_grows [] payload_magic old old magic 0 8 refl refl magic_is in
    let has_front = front_grows payload_magic words old magic front 8 32 refl has_magic front_is in
    let has_first =
    front_grows (payload_magic ++ words) (flat_map word redact) old front first end (8 * length redact)
    (omega (arith, length-append payload_magic words, length-words (counts_behind point redact from_redact)))
    (has_front ∙ ap (λ (k : ℕ). (payload_magic ++ words) ++ drop k old) (sym end_is)) first_is in
    let before : List ℕ = (payload_magic ++ words) ++ flat_map word redact in
    let has_second =
    front_grows before (flat_map word from_redact) old first second end_of_first (8 * length from_redact)
    (omega (
      arith,
      length-append (payload_magic ++ words) (flat_map word redact),
      length-append payload_magic words,
      length-words (counts_behind point redact from_redact),
      length-words redact,
    ))
    (has_first ∙ ap (λ (k : ℕ). before ++ drop k old) (sym end_of_first_is)) second_is in
    let all : before ++ flat_map word from_redact ≡ payload_bytes header =
    ap (λ (p : Point). ((payload_magic ++ flat_map word (counts_behind p redact from_redact)) ++ flat_map word redact) ++ flat_map word from_redact) point_is
    ∙ ap (λ (l : List ℕ). ((payload_magic ++ flat_map word (counts_behind (stated_point header.resume) l from_redact)) ++ flat_map word l) ++ flat_map word from_redact) redact_is
    ∙ ap (λ (l : List ℕ). ((payload_magic ++ flat_map word (counts_behind (stated_point header.resume) header.redact l)) ++ flat_map word header.redact) ++ flat_map word l) from_is
    ∙ sym (payload_parts header) in
    let long : end_of_first + 8 * length from_redact ≡ length (payload_bytes header) =
    omega (arith, length-payload header, ap length redact_is, ap length from_is) in
    has_second ∙ ap (λ (l : List ℕ). l ++ drop (end_of_first + 8 * length from_redact) old) all
    ∙ ap (λ (k : ℕ). payload_bytes header ++ drop k old) long
