-- How a reading ends, by the tables of checks.
use Rattle.std.proofs.Common.{◌≡◌, inl, inr, ℕ, zero, suc, ◌+◌, ◌<◌, ◌≤◌, ◌==◌, Bool, true, false, cond, List, [], ◌∷◌, ◌++◌, length, take, drop, Option, Some, None, Ok, Err, nat_lt, refl, sym, ap, ◌∙◌, subst, arith, append_assoc, length-append}
use Rattle.std.specs.Prelude.{◌⊎◌, is_some, if◌then◌else◌}
use Rattle.std.proofs.lemmas.Bool.{cases_lt, ne_eqb, lt-ltb, le-ltb}
use Rattle.std.proofs.lemmas.List.{take-append-drop, length-take-le, length-drop}
use Rattle.std.proofs.Math.Seq.{take-append-add}
use Rattle.zst_bytes.specs.Bytes.{number_at}
use Rattle.zst_fletcher.specs.WeightSum.{weight_sum, parts_of}
use Rattle.zst_model.specs.declared.refusals.faults.Flaw.TheVariants as flaws
use Rattle.zst_model.specs.declared.refusals.stream_fault.StreamFault.{StreamFault}
use Rattle.zst_model.specs.declared.refusals.stream_fault.StreamFault.TheVariants as faults
use Rattle.zst_record.specs.Decoding.{Decoded, decoded, features_in, sums_at}
use Rattle.zst_record.specs.Heads.{payload_len, size_of}
use Rattle.zst_record.specs.declared.head.Head.{Head}
use Rattle.zst_stream.specs.CheckedOutcomes.{IsPassed, Reaches, Front, Behind, EndsBy}
use Rattle.zst_stream.specs.Checks.{Check, Form, begin_form, checks_at, checks_behind, end_checks, first_fault, form_at, later_form, payload_checks, sealed, size_at, summed, wrong}
use Rattle.zst_stream.specs.Reading.{Reading, Ruling, Closing, wait, refuse, last, more, unless, same_sums, compared, sum_fault, opened, other_guid, sealed_next, next_by, cover, finish, rule_by, closing, judged, ruling, after, reading_from, reading}
use Rattle.zst_stream.proofs.CheckLaws.{IsSaid, Says, OpensBy, ClosesWith, told_of, none_behind, says-begin, says-typed}
use Rattle.zst_stream.proofs.ImageReadings.{number-beyond}

-- ---- first faults

-- the first of two, where there is one
abbrev or_else : Option StreamFault → Option StreamFault → Option StreamFault
or_else None told = told
or_else (Some fault) told = Some fault

or_else-cond : (b : Bool) (x y z : Option StreamFault) (fault : StreamFault) → x ≡ or_else y z → cond b x (Some fault) ≡ or_else (cond b y (Some fault)) z
or_else-cond true x y z fault h = h
or_else-cond false x y z fault h = refl

first-append : (xs ys : List Check) → first_fault (xs ++ ys) ≡ or_else (first_fault xs) (first_fault ys)
unfolding first_fault
first-append [] ys = refl
first-append (c ∷ cs) ys = or_else-cond c.passes (first_fault (cs ++ ys)) (first_fault cs) (first_fault ys) c.told (first-append cs ys)

summed-cond : (b : Bool) (told : Option StreamFault) (fault : StreamFault) → cond b told (Some fault) ≡ or_else (cond b None (Some fault)) told
summed-cond true told fault = refl
summed-cond false told fault = refl

-- a wrong sum stands before all else
first-summed : (before rest : List ℕ) (n place : ℕ) (cs : List Check) → first_fault (summed before rest n place ∷ cs) ≡ or_else (sum_fault before rest n place) (first_fault cs)
unfolding first_fault sum_fault
first-summed before rest n place cs =
    let found = parts_of (weight_sum (before ++ take n rest)) in
    summed-cond (same_sums found (sums_at rest place)) (first_fault cs) (faults.Checksum (length before + place) (sums_at rest place) found)

-- ---- the record at the front of the rest

-- its checksum, where it has one, is right
abbrev IsSealed : List ℕ → List ℕ → Type 0
IsSealed before rest = 0 < length before → sum_fault before rest 280 280 ≡ None

-- what is told of its payload, when these are its bytes
abbrev behind_at : List ℕ → List ℕ → List ℕ → Option StreamFault
behind_at before rest payload = first_fault (checks_behind before rest payload)

-- what its 312 bytes say is what its table tells
abbrev IsTold : List ℕ → List ℕ → Decoded → Type 0
IsTold before rest d =
    Says (number_at (take 312 rest) 40 8) (first_fault (end_checks before rest)) (behind_at before rest) (first_fault (form_at before rest).checks)
    (form_at before rest).payload (form_at before rest).last d

told-by : (before rest : List ℕ) (b : Bool) (begun later : Form) (xs : List ℕ → List Check) (x y : Decoded)
    → (b ≡ true → Says (number_at (take 312 rest) 40 8) (first_fault (end_checks before rest)) (λ payload. first_fault (xs payload)) (first_fault begun.checks) begun.payload begun.last x)
    → (b ≡ false → Says (number_at (take 312 rest) 40 8) (first_fault (end_checks before rest)) none_behind (first_fault later.checks) later.payload later.last y)
    → Says (number_at (take 312 rest) 40 8) (first_fault (end_checks before rest)) (λ payload. first_fault (cond b (xs payload) []))
    (first_fault (cond b begun later).checks) (cond b begun later).payload (cond b begun later).last (cond b x y)
unfolding first_fault
told-by before rest true begun later xs x y h k = h refl
told-by before rest false begun later xs x y h k = k refl

told-sealed : (before rest : List ℕ) (f : Form) (d : Decoded) → sum_fault before rest 280 280 ≡ None
    → Says (number_at (take 312 rest) 40 8) (first_fault (end_checks before rest)) none_behind (first_fault f.checks) f.payload f.last d
    → Says (number_at (take 312 rest) 40 8) (first_fault (end_checks before rest)) none_behind (first_fault (summed before rest 280 280 ∷ f.checks)) f.payload f.last d
told-sealed before rest f d right h =
    let same : first_fault f.checks ≡ first_fault (summed before rest 280 280 ∷ f.checks) =
    sym (first-summed before rest 280 280 f.checks ∙ ap (λ (o : Option StreamFault). or_else o (first_fault f.checks)) right) in
    subst (λ (told : Option StreamFault). Says (number_at (take 312 rest) 40 8) (first_fault (end_checks before rest)) none_behind told f.payload f.last d) same h

-- nothing stands before a text's first record alone
some-before : (before : List ℕ) → (length before == 0) ≡ false → 0 < length before
some-before [] is = absurd cc
some-before (b ∷ bs) is = omega arith

told : (before rest : List ℕ) → IsSealed before rest → IsTold before rest (decoded (length before) (features_in before) (take 312 rest))
unfolding form_at checks_behind decoded
told before rest right =
    let bytes = take 312 rest in
    let to = number_at bytes 40 8 in
    let ends = end_checks before rest in
    let later = later_form (number_at bytes 0 4) (features_in before) (length before) bytes ends in
    told-by before rest (length before == 0) (begin_form bytes) (sealed (summed before rest 280 280) later) (payload_checks (features_in bytes) (number_at bytes 48 8)) _ _
    (λ first. says-begin to (first_fault ends) bytes)
    (λ is. told-sealed before rest later _ (right (some-before before is)) (says-typed (number_at bytes 0 4) (features_in before) (length before) bytes ends))

-- ---- where its checks stand

-- the checks of its payload, once that is whole
abbrev behind_checks : List ℕ → List ℕ → List Check
behind_checks before rest =
    if nat_lt (length rest) (size_at before rest) then [] else checks_behind before rest (take (form_at before rest).payload (drop 312 rest))

-- a fault of its 312 bytes is the first
field-fault : (before rest : List ℕ) (fault : StreamFault) → first_fault (form_at before rest).checks ≡ Some fault → first_fault (checks_at before rest) ≡ Some fault
unfolding checks_at
field-fault before rest fault is =
    first-append (form_at before rest).checks (behind_checks before rest) ∙ ap (λ (o : Option StreamFault). or_else o (first_fault (behind_checks before rest))) is

-- where these pass and its payload isn't whole, nothing more is checked
fields-alone : (before rest : List ℕ) → first_fault (form_at before rest).checks ≡ None → length rest < size_at before rest → first_fault (checks_at before rest) ≡ None
unfolding checks_at first_fault
fields-alone before rest is short =
    first-append (form_at before rest).checks (behind_checks before rest) ∙ ap (λ (o : Option StreamFault). or_else o (first_fault (behind_checks before rest))) is
    ∙ rw (lt-ltb (length rest) (size_at before rest) short) refl

-- where it is, the payload's checks come next
fields-and-payload : (before rest : List ℕ) → first_fault (form_at before rest).checks ≡ None → size_at before rest ≤ length rest
    → first_fault (checks_at before rest) ≡ behind_at before rest (take (form_at before rest).payload (drop 312 rest))
unfolding checks_at
fields-and-payload before rest is whole =
    first-append (form_at before rest).checks (behind_checks before rest) ∙ ap (λ (o : Option StreamFault). or_else o (first_fault (behind_checks before rest))) is
    ∙ rw (le-ltb (length rest) (size_at before rest) whole) refl

-- ---- the next record's sum

number-behind : (size : ℕ) (rest : List ℕ) (at width : ℕ) → size ≤ length rest → number_at rest (size + at) width ≡ number_at (drop size rest) at width
number-behind size rest at width inside =
    let len : length (take size rest) ≡ size = length-take-le size rest inside in
    ap (λ (t : List ℕ). number_at t (size + at) width) (sym (take-append-drop size rest))
    ∙ ap (λ (n : ℕ). number_at (take size rest ++ drop size rest) (n + at) width) (sym len)
    ∙ number-beyond (take size rest) (drop size rest) at width

summed-behind : (size : ℕ) (before rest : List ℕ) (n : ℕ) → size ≤ length rest → before ++ take (size + n) rest ≡ (before ++ take size rest) ++ take n (drop size rest)
summed-behind size before rest n inside =
    let len : length (take size rest) ≡ size = length-take-le size rest inside in
    ap (λ (t : List ℕ). before ++ take (size + n) t) (sym (take-append-drop size rest))
    ∙ ap (λ (k : ℕ). before ++ take (k + n) (take size rest ++ drop size rest)) (sym len)
    ∙ ap (λ (t : List ℕ). before ++ t) (take-append-add (take size rest) (drop size rest) n)
    ∙ sym (append_assoc before (take size rest) (take n (drop size rest)))

sums-behind : (size : ℕ) (rest : List ℕ) (place : ℕ) → size ≤ length rest → sums_at rest (size + place) ≡ sums_at (drop size rest) place
sums-behind size rest place inside =
    let b : size + place + 8 ≡ size + (place + 8) = omega arith in
    let c : size + place + 16 ≡ size + (place + 16) = omega arith in
    let d : size + place + 24 ≡ size + (place + 24) = omega arith in
    rw (
      b,
      c,
      d,
      number-behind size rest place 8 inside,
      number-behind size rest (place + 8) 8 inside,
      number-behind size rest (place + 16) 8 inside,
      number-behind size rest (place + 24) 8 inside,
    ) refl

-- it is that of the record that stands behind this one
sum-behind : (size : ℕ) (before rest : List ℕ) → size ≤ length rest
    → sum_fault before rest (size + 280) (size + 280) ≡ sum_fault (before ++ take size rest) (drop size rest) 280 280
unfolding sum_fault
sum-behind size before rest inside =
    let len : length (before ++ take size rest) + 280 ≡ length before + (size + 280) = omega (arith, length-append before (take size rest), length-take-le size rest inside) in
    let text = (before ++ take size rest) ++ take 280 (drop size rest) in
    ap (λ (t : List ℕ). compared (length before + (size + 280)) (sums_at rest (size + 280)) (parts_of (weight_sum t))) (summed-behind size before rest 280 inside)
    ∙ ap (λ (stated : List ℕ). compared (length before + (size + 280)) stated (parts_of (weight_sum text))) (sums-behind size rest 280 inside)
    ∙ ap (λ (n : ℕ). compared n (sums_at (drop size rest) 280) (parts_of (weight_sum text))) (sym len)

-- a wrong one is the first fault of that record
sum-first : (before rest : List ℕ) (fault : StreamFault) → 0 < length before → sum_fault before rest 280 280 ≡ Some fault → first_fault (form_at before rest).checks ≡ Some fault
unfolding form_at
sum-first before rest fault some is =
    let none : (length before == 0) ≡ false = ne_eqb (length before) 0 (λ e. omega arith) in
    let bytes = take 312 rest in
    let later = later_form (number_at bytes 0 4) (features_in before) (length before) bytes (end_checks before rest) in
    rw none (first-summed before rest 280 280 later.checks ∙ ap (λ (o : Option StreamFault). or_else o (first_fault later.checks)) is)

-- ---- rulings

-- what stands before the record behind this one, and the rest from there on
abbrev before_next : List ℕ → List ℕ → List ℕ
before_next before rest = before ++ take (size_at before rest) rest

abbrev next_rest : List ℕ → List ℕ → List ℕ
next_rest before rest = drop (size_at before rest) rest

-- it isn't whole, and what there is of it passes
abbrev IsShort : List ℕ → List ℕ → Type 0
IsShort before rest = (length rest < 312) ⊎ ((first_fault (checks_at before rest) ≡ None) × (length rest < size_at before rest))

-- its first check that fails tells this
abbrev Tells : List ℕ → List ℕ → StreamFault → Type 0
Tells before rest fault = (312 ≤ length rest) × (first_fault (checks_at before rest) ≡ Some fault)

-- it is END and passes
record IsLast (before rest : List ℕ) : Type 0 where
  whole : 312 ≤ length rest
  passes : first_fault (checks_at before rest) ≡ None
  final : (form_at before rest).last ≡ true

-- it passes, and so does the sum of the record behind it
record GoesOn (before rest : List ℕ) (head : Head) : Type 0 where
  passed : IsPassed before rest
  size : size_at before rest ≡ size_of head
  next : sum_fault (before_next before rest) (next_rest before rest) 280 280 ≡ None

abbrev Rules : List ℕ → List ℕ → Ruling → Type 0
Rules before rest wait = IsShort before rest ⊎ (IsPassed before rest × (length (next_rest before rest) < 312))
Rules before rest (refuse fault) = Tells before rest fault ⊎ (IsPassed before rest × Tells (before_next before rest) (next_rest before rest) fault)
Rules before rest (last head) = IsLast before rest
Rules before rest (more head) = GoesOn before rest head

-- the record behind one that is passed, by its sum
module _ (before rest : List ℕ) (passed : IsPassed before rest) where
  next-sum : (head : Head) (o : Option StreamFault) → size_at before rest ≡ size_of head → size_at before rest + 312 ≤ length rest
      → sum_fault (before_next before rest) (next_rest before rest) 280 280 ≡ o → Rules before rest (unless o (more head))
  next-sum head None size room is = record { passed = passed; size = size; next = is }
  next-sum head (Some fault) size room is =
      let n = size_at before rest in
      let some : 0 < length (before_next before rest) = omega (arith, length-append before (take n rest), length-take-le n rest passed.whole) in
      inr (passed, (omega (arith, length-drop n rest), field-fault (before_next before rest) (next_rest before rest) fault (sum-first (before_next before rest) (next_rest before rest) fault some is)))

  next-sealed : (head : Head) → size_at before rest ≡ size_of head → Rules before rest (sealed_next before rest head)
  unfolding sealed_next
  next-sealed head size =
      let n = size_at before rest in
      elim (cases_lt (length rest) (size_of head + 312)) [
        | inl short ↦ rw (lt-ltb (length rest) (size_of head + 312) short) (inr (passed, omega (arith, length-drop n rest)))
        | inr room ↦
            let o = sum_fault before rest (n + 280) (n + 280) in
            let here : n + 312 ≤ length rest = omega arith in
            rw (le-ltb (length rest) (size_of head + 312) room, ← size) (next-sum head o size here (sym (sum-behind n before rest passed.whole)))
      ]

module _ (before rest : List ℕ) (there : 312 ≤ length rest) where
  -- a record behind which its payload is whole
  ruled-next : (d : Decoded) → first_fault (form_at before rest).checks ≡ None → (form_at before rest).last ≡ false → size_at before rest ≤ length rest
      → OpensBy (behind_at before rest (take (form_at before rest).payload (drop 312 rest))) (form_at before rest).payload d → Rules before rest (next_by before rest d)
  ruled-next (Ok head) fields middle whole opens =
      let passed : IsPassed before rest = record { whole = whole; passes = fields-and-payload before rest fields whole ∙ opens.0; middle = middle } in
      next-sealed before rest passed head (ap (λ (n : ℕ). 312 + n) (sym opens.1))
  ruled-next (Err fault) fields middle whole opens = inl (there, fields-and-payload before rest fields whole ∙ opens)

  ruled-cover : (head : Head) → first_fault (form_at before rest).checks ≡ None → (form_at before rest).last ≡ false → payload_len head ≡ (form_at before rest).payload
      → OpensBy (behind_at before rest (take (form_at before rest).payload (drop 312 rest))) (form_at before rest).payload (opened head (take (payload_len head) (drop 312 rest)))
      → Rules before rest (cover before rest head)
  unfolding cover
  ruled-cover head fields middle len opens =
      let size : size_of head ≡ size_at before rest = ap (λ (n : ℕ). 312 + n) len in
      elim (cases_lt (length rest) (size_of head)) [
        | inl short ↦
            let less : length rest < size_at before rest = omega arith in
            rw (lt-ltb (length rest) (size_of head) short) (inl (inr (fields-alone before rest fields less, less)))
        | inr room ↦
            rw (le-ltb (length rest) (size_of head) room)
            (ruled-next (opened head (take (payload_len head) (drop 312 rest))) fields middle (omega arith) opens)
      ]

  -- END
  ruled-guid : (head : Head) (b : Bool) → (form_at before rest).last ≡ true → (form_at before rest).payload ≡ 0 → ((payload : List ℕ) → behind_at before rest payload ≡ None)
      → first_fault (form_at before rest).checks ≡ cond b None (Some (other_guid before)) → Rules before rest (cond b (last head) (refuse (other_guid before)))
  ruled-guid head true final size behind is =
      let whole : size_at before rest ≤ length rest = omega arith in
      record { whole = there; passes = fields-and-payload before rest is whole ∙ behind _; final = final }
  ruled-guid head false final size behind is = inl (there, field-fault before rest (other_guid before) is)

  ruled-sums : (head : Head) (o : Option StreamFault) (b : Bool) → (form_at before rest).last ≡ true → (form_at before rest).payload ≡ 0
      → ((payload : List ℕ) → behind_at before rest payload ≡ None) → first_fault (form_at before rest).checks ≡ or_else o (cond b None (Some (other_guid before)))
      → Rules before rest (unless o (cond b (last head) (refuse (other_guid before))))
  ruled-sums head None b final size behind is = ruled-guid head b final size behind is
  ruled-sums head (Some fault) b final size behind is = inl (there, field-fault before rest fault is)

  guid-first : (guid : ℕ) → guid ≡ number_at (take 312 rest) 40 8
      → first_fault (end_checks before rest) ≡ or_else (sum_fault before rest 0 8) (cond (guid == number_at before 40 8) None (Some (other_guid before)))
  unfolding first_fault
  guid-first guid same =
      rw same (first-summed before rest 0 8 (wrong (length before + 40) flaws.Guid (number_at (take 312 rest) 40 8 == number_at before 40 8) ∷ []))

  ruled-finish : (head : Head) (c : Closing) → (form_at before rest).last ≡ true → ClosesWith (number_at (take 312 rest) 40 8) (behind_at before rest) (form_at before rest).payload (Some c)
      → first_fault (form_at before rest).checks ≡ first_fault (end_checks before rest) → Rules before rest (finish before rest head c)
  unfolding finish
  ruled-finish head c final closes is =
      ruled-sums head (sum_fault before rest 0 8) (c.to == number_at before 40 8) final closes.1 closes.2 (is ∙ guid-first c.to closes.0)

  ruled-by : (head : Head) (o : Option Closing) → closing head ≡ o
      → IsSaid (number_at (take 312 rest) 40 8) (first_fault (end_checks before rest)) (behind_at before rest) (first_fault (form_at before rest).checks)
      (form_at before rest).payload (form_at before rest).last head → Rules before rest (rule_by before rest head o)
  ruled-by head None is said =
      let payload = take (form_at before rest).payload (drop 312 rest) in
      ruled-cover head (said.passes ∙ ap (told_of (first_fault (end_checks before rest))) is) (said.final ∙ ap is_some is) said.len
      (subst (λ (n : ℕ). OpensBy (behind_at before rest payload) (form_at before rest).payload (opened head (take n (drop 312 rest)))) (sym said.len) (said.opens payload))
  ruled-by head (Some c) is said =
      ruled-finish head c (said.final ∙ ap is_some is)
      (subst (ClosesWith (number_at (take 312 rest) 40 8) (behind_at before rest) (form_at before rest).payload) is said.closes)
      (said.passes ∙ ap (told_of (first_fault (end_checks before rest))) is)

  ruled-judged : (d : Decoded) → IsTold before rest d → Rules before rest (judged before rest d)
  ruled-judged (Ok head) h = ruled-by head (closing head) refl h
  ruled-judged (Err fault) h = inl (there, field-fault before rest fault h)

ruled : (before rest : List ℕ) → IsSealed before rest → Rules before rest (ruling before rest)
unfolding ruling
ruled before rest right =
    elim (cases_lt (length rest) 312) [
      | inl short ↦ rw (lt-ltb (length rest) 312 short) (inl (inl short))
      | inr room ↦ rw (le-ltb (length rest) 312 room) (ruled-judged before rest room (decoded (length before) (features_in before) (take 312 rest)) (told before rest right))
    ]

-- ---- readings

module _ (text before rest : List ℕ) (reached : Reaches text before rest) where
  ends-after : (index : ℕ) (r : Ruling) (next : Head → Reading) → Rules before rest r → ((head : Head) → GoesOn before rest head → EndsBy text (next head).outcome)
      → EndsBy text (after index before rest r next).outcome
  unfolding after
  ends-after index wait next (inl short) k = record { place = record { before = before; rest = rest; reached = reached }; short = short }
  ends-after index wait next (inr h) k = record {
    place = record { before = before_next before rest; rest = next_rest before rest; reached = Behind before rest reached h.0 };
    short = inl h.1;
  }
  ends-after index (refuse fault) next (inl h) k = record { place = record { before = before; rest = rest; reached = reached }; there = h.0; first = h.1 }
  ends-after index (refuse fault) next (inr h) k = record {
    place = record { before = before_next before rest; rest = next_rest before rest; reached = Behind before rest reached h.0 };
    there = h.1.0;
    first = h.1.1;
  }
  ends-after index (last head) next h k = record {
    place = record { before = before; rest = rest; reached = reached };
    whole = h.whole;
    passes = h.passes;
    last = h.final;
  }
  ends-after index (more head) next h k = k head h

-- behind a record that goes on
record IsBehind (text : List ℕ) (fuel : ℕ) (before rest : List ℕ) : Type 0 where
  reached : Reaches text before rest
  right : IsSealed before rest
  bounded : length rest < fuel

goes-behind : (text : List ℕ) (fuel : ℕ) (before rest : List ℕ) (head : Head) → IsBehind text (suc fuel) before rest → GoesOn before rest head
    → IsBehind text fuel (before ++ take (size_of head) rest) (drop (size_of head) rest)
goes-behind text fuel before rest head is on =
    let whole = on.passed.whole in
    let bounded = is.bounded in
    subst (λ (n : ℕ). IsBehind text fuel (before ++ take n rest) (drop n rest)) on.size (record {
      reached = Behind before rest is.reached on.passed;
      right = λ some. on.next;
      bounded = omega (arith, length-drop (size_at before rest) rest);
    })

ends-from : (text : List ℕ) (fuel index : ℕ) (before rest : List ℕ) → IsBehind text fuel before rest → EndsBy text (reading_from fuel index before rest).outcome
unfolding reading_from
ends-from text zero index before rest is = let bounded = is.bounded in absurd (omega arith)
ends-from text (suc fuel) index before rest is =
    ends-after text before rest is.reached index (ruling before rest)
    (λ head. reading_from fuel (index + 1) (before ++ take (size_of head) rest) (drop (size_of head) rest))
    (ruled before rest is.right)
    (λ head on. ends-from text fuel (index + 1) (before ++ take (size_of head) rest) (drop (size_of head) rest) (goes-behind text fuel before rest head is on))

-- each reading ends by the tables
pub ends-checked : (text : List ℕ) → EndsBy text (reading text).outcome
unfolding reading
ends-checked text = ends-from text (length text + 1) 0 [] text (record { reached = Front; right = λ some. absurd (omega arith); bounded = omega arith })
