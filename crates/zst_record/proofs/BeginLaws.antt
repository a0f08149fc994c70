-- What BEGIN's record says is that BEGIN.
use Rattle.std.proofs.Common.{◌≡◌, ℕ, ◌+◌, ◌-◌, ◌*◌, ◌/◌, ◌%◌, ◌^◌, ◌<◌, ◌==◌, ◌&&◌, ◌||◌, inl, inr, true, false, ltb, leb, List, [], ◌∷◌, ◌++◌, length, take, replicate, Some, Ok, refl, sym, ◌∙◌, ap, arith, suc}
use Rattle.std.proofs.lemmas.Bool.{cases_eq, eq-eqb, ne_eqb, leb-true, lt-ltb, and_parts, eqb-true}
use Rattle.std.proofs.lemmas.List.{take_at, length-append}
use Rattle.std.specs.Option.{option_map}
use Rattle.std.specs.List.{position, position_or_len}
use Rattle.zst_bytes.specs.Fields.{Fills}
use Rattle.zst_bytes.proofs.FieldsLaws.{number-back, text-back}
use Rattle.zst_model.specs.declared.sends.header.Header.{Header}
use Rattle.zst_record.specs.declared.head.Head.TheVariants as heads
use Rattle.zst_record.specs.Table.{fields_of, head_bytes, padded}
use Rattle.zst_record.specs.Decoding.{Decoded, decoded, begin_of, begin_with, snapshot_with, named, name_in, header_with, is_payload_len, needs_payload}
use Rattle.zst_record.specs.RecordValues.{BeginFits}
use Rattle.zst_record.proofs.TableLaws.{length-padded}

-- the first zero byte after a name
zero-after : (name rest : List ℕ) → position_or_len (λ b. b == 0) name ≡ length name → position_or_len (λ b. b == 0) (name ++ 0 ∷ rest) ≡ length name
zero-after [] rest none = refl
zero-after (x ∷ xs) rest none =
    elim (cases_eq x 0) [
      | inl zero ↦ absurd (let e : 0 ≡ length (x ∷ xs) = rw (eq-eqb x 0 zero) at none in omega arith)
      | inr some ↦ rw (ne_eqb x 0 some) (
          let e : 1 + position_or_len (λ b. b == 0) xs ≡ length (x ∷ xs) = rw (ne_eqb x 0 some) at none in
          let h : position_or_len (λ b. b == 0) (xs ++ 0 ∷ rest) ≡ length xs = zero-after xs rest (omega arith) in
          omega arith)
    ]

one_zero : (n : ℕ) → 0 < n → replicate {A = ℕ} n 0 ≡ 0 ∷ replicate (n - 1) 0
one_zero n h = let e : n ≡ suc (n - 1) = omega arith in ap (λ (k : ℕ). replicate {A = ℕ} k 0) e

pub name-back : (name : List ℕ) → length name < 256 → position_or_len (λ b. b == 0) name ≡ length name → name_in (padded 256 name) ≡ Some name
unfolding name_in padded
name-back name short none =
    let some = one_zero (256 - length name) (omega arith) in
    let rest = replicate {A = ℕ} (256 - length name - 1) 0 in
    let place = zero-after name rest none in
    let inside : ltb (length name) (length (name ++ 0 ∷ rest)) ≡ true = lt-ltb _ _ (omega (arith, length-append name (0 ∷ rest))) in
    let found : position (λ b. b == 0) (name ++ 0 ∷ rest) ≡ Some (length name) = rw (place, inside) refl in
    rw some (ap (option_map (λ n. take n (name ++ 0 ∷ rest))) found ∙ ap (λ (l : List ℕ). Some l) (take_at name (0 ∷ rest) (length name) refl))

len-small : (len : ℕ) → is_payload_len len ≡ true → len < 256 ^ 4
unfolding is_payload_len
len-small len is =
    elim (cases_eq len 0) [
      | inl none ↦ omega arith
      | inr some ↦
          let rest = rw (ne_eqb len 0 some) at is in
          let below = leb-true _ _ (and_parts (leb 40 len) (leb len 296) (and_parts (leb 40 len && leb len 296) ((len % 8) == 0) rest).0).1 in omega arith
    ]

kind-small : (kind : ℕ) → ((kind == 2) || (kind == 3)) ≡ true → kind < 256 ^ 4
kind-small kind is =
    elim (cases_eq kind 2) [
      | inl two ↦ omega arith
      | inr other ↦ let e = eqb-true kind 3 (rw (ne_eqb kind 2 other) at is) in omega arith
    ]

-- no payload where none is needed
stated : (header : Header) (len : ℕ) → BeginFits header len → ((len == 0) && needs_payload header.features) ≡ false
stated header len f =
    elim (cases_eq len 0) [
      | inl none ↦ rw (eq-eqb len 0 none) (f.stated (eq-eqb len 0 none))
      | inr some ↦ rw (ne_eqb len 0 some) refl
    ]

-- a header without what a payload says
pub header-again : (header : Header) (len : ℕ) → BeginFits header len
    → header_with header.features header.kind header.flags header.time header.to header.from header.name ≡ header
unfolding header_with
header-again header len f =
    let resume = sym f.no_resume in
    let redact = sym f.no_redact in
    let from_redact = sym f.no_from_redact in
    λ i. record {
      kind = header.kind;
      flags = header.flags;
      features = header.features;
      time = header.time;
      to = header.to;
      from = header.from;
      name = header.name;
      resume = resume i;
      redact = redact i;
      from_redact = from_redact i;
    }

abbrev begun : Header → ℕ → Decoded
begun header len = Ok (heads.Begin header len)

pub begin-back : (features : ℕ) (header : Header) (len : ℕ) → BeginFits header len → decoded 0 features (head_bytes (heads.Begin header len)) ≡ Ok (heads.Begin header len)
unfolding decoded begin_of begin_with snapshot_with named head_bytes
begin-back features header len f =
    let fields = fields_of (heads.Begin header len) in
    let small = f.features in
    let short = f.name in
    let fills : Fills fields = (length-padded 256 header.name (omega arith), tt) in
    let version : 4 * header.features + 1 < 256 ^ 8 = omega arith in
    let form : (4 * header.features + 1) % 4 ≡ 1 = omega arith in
    let is : (4 * header.features + 1) / 4 % 2 ^ 30 ≡ header.features = omega arith in
    rw (
      number-back 312 fields 0 4 0 refl fills refl refl (omega arith),
      number-back 312 fields 4 4 len refl fills refl refl (len-small len f.len),
      number-back 312 fields 8 8 0x2f5bacbac refl fills refl refl (omega arith),
      number-back 312 fields 16 8 (4 * header.features + 1) refl fills refl refl version,
      number-back 312 fields 24 8 header.time refl fills refl refl f.time,
      number-back 312 fields 32 4 header.kind refl fills refl refl (kind-small header.kind f.kind),
      number-back 312 fields 36 4 header.flags refl fills refl refl f.flags,
      number-back 312 fields 40 8 header.to refl fills refl refl f.to,
      number-back 312 fields 48 8 header.from refl fills refl refl f.from,
      text-back 312 fields 56 256 (padded 256 header.name) refl fills refl refl,
      name-back header.name f.name f.no_zero,
      form,
      is,
      f.accepted,
      f.small_blocks,
      f.kind,
      f.to_there,
      f.len,
      stated header len f,
    ) (ap (λ (h : Header). begun h len) (header-again header len f))
