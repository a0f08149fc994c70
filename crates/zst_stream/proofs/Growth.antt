-- What stays of a reading where more bytes follow.
use Rattle.std.proofs.Common.{◌≡◌, ℕ, zero, suc, ◌+◌, ◌≤◌, ◌==◌, inl, inr, Bool, true, false, List, [], ◌∷◌, ◌++◌, length, take, drop, Option, Some, None, Ok, Err, nat_lt, refl, sym, ap, ◌∙◌, cond, arith, length-append}
use Rattle.std.proofs.lemmas.List.{take-append-le, drop-append-le, length-drop}
use Rattle.std.proofs.lemmas.Bool.{cases_lt, lt-ltb, le-ltb}
use Rattle.byteorder.specs.Endian.{little_number}
use Rattle.zst_bytes.specs.Bytes.{bytes_at, number_at}
use Rattle.zst_record.specs.Heads.{Covered, payload_len, size_of}
use Rattle.zst_record.specs.Decoding.{Decoded, decoded, features_in}
use Rattle.zst_record.specs.declared.head.Head.{Head}
use Rattle.zst_model.specs.declared.refusals.stream_fault.StreamFault.{StreamFault}
use Rattle.zst_stream.specs.Reading.{Reading, Ruling, Closing, FrontOf, wait, refuse, last, more, sum_fault, cover, finish, rule_by, judged, ruling, closing, opened, covered_at, after, reading_from, reading, prepend, unless, sealed_next, next_by}

-- ---- what is read from the bytes that are there

-- a range that is there
pub part-grown : (rest m : List ℕ) (n k : ℕ) → n + k ≤ length rest → take k (drop n (rest ++ m)) ≡ take k (drop n rest)
part-grown rest m n k h =
    ap (take k) (drop-append-le n rest m (omega arith)) ∙ take-append-le k (drop n rest) m (omega (arith, length-drop n rest))

-- a number that is there
pub number-grown : (rest m : List ℕ) (at width : ℕ) → at + width ≤ length rest → number_at (rest ++ m) at width ≡ number_at rest at width
unfolding number_at bytes_at
number-grown rest m at width h = ap (little_number width) (part-grown rest m at width h)

-- a checksum that is there, over bytes that are there
pub sum_fault-grown : (before rest m : List ℕ) (n place : ℕ) → n ≤ length rest → place + 32 ≤ length rest → sum_fault before (rest ++ m) n place ≡ sum_fault before rest n place
unfolding sum_fault
sum_fault-grown before rest m n place h k =
    rw (take-append-le n rest m h, number-grown rest m place 8 (omega arith), number-grown rest m (place + 8) 8 (omega arith), number-grown rest m (place + 16) 8 (omega arith), number-grown rest m (place + 24) 8 (omega arith)) refl

length-grown : (rest m : List ℕ) (n : ℕ) → n ≤ length rest → nat_lt (length (rest ++ m)) n ≡ false
length-grown rest m n h = le-ltb (length (rest ++ m)) n (omega (arith, length-append rest m))

-- ---- a ruling other than "wait" stays

next-grown : (before rest m : List ℕ) (head : Head) → (sealed_next before rest head ≡ wait → ⊥) → sealed_next before (rest ++ m) head ≡ sealed_next before rest head
unfolding sealed_next
next-grown before rest m head ready =
    elim (cases_lt (length rest) (size_of head + 312)) [
      | inl short ↦ absurd (ready (rw (lt-ltb (length rest) (size_of head + 312) short) refl))
      | inr room ↦ rw (
        length-grown rest m (size_of head + 312) room,
        le-ltb (length rest) (size_of head + 312) room,
        sum_fault-grown before rest m (size_of head + 280) (size_of head + 280) (omega arith) (omega arith),
      ) refl
    ]

next_by-grown : (before rest m : List ℕ) (d : Decoded) → (next_by before rest d ≡ wait → ⊥) → next_by before (rest ++ m) d ≡ next_by before rest d
next_by-grown before rest m (Ok head) ready = next-grown before rest m head ready
next_by-grown before rest m (Err fault) ready = refl

cover-grown : (before rest m : List ℕ) (head : Head) → (cover before rest head ≡ wait → ⊥) → cover before (rest ++ m) head ≡ cover before rest head
unfolding cover
cover-grown before rest m head ready =
    elim (cases_lt (length rest) (size_of head)) [
      | inl short ↦ absurd (ready (rw (lt-ltb (length rest) (size_of head) short) refl))
      | inr room ↦
          let here = le-ltb (length rest) (size_of head) room in
          rw (length-grown rest m (size_of head) room, here, part-grown rest m 312 (payload_len head) room)
          (next_by-grown before rest m (opened head (take (payload_len head) (drop 312 rest))) (λ w. ready (rw here w)))
    ]

finish-grown : (before rest m : List ℕ) (head : Head) (c : Closing) → 312 ≤ length rest → finish before (rest ++ m) head c ≡ finish before rest head c
unfolding finish
finish-grown before rest m head c h = rw (sum_fault-grown before rest m 0 8 (omega arith) (omega arith)) refl

rule-grown : (before rest m : List ℕ) (head : Head) (o : Option Closing) → 312 ≤ length rest → (rule_by before rest head o ≡ wait → ⊥) → rule_by before (rest ++ m) head o ≡ rule_by before rest head o
rule-grown before rest m head None h ready = cover-grown before rest m head ready
rule-grown before rest m head (Some c) h ready = finish-grown before rest m head c h

judged-grown : (before rest m : List ℕ) (d : Decoded) → 312 ≤ length rest → (judged before rest d ≡ wait → ⊥) → judged before (rest ++ m) d ≡ judged before rest d
judged-grown before rest m (Ok head) h ready = rule-grown before rest m head (closing head) h ready
judged-grown before rest m (Err fault) h ready = refl

-- a ruling other than "wait" stays where more bytes follow
pub ruling-grown : (before rest m : List ℕ) → (ruling before rest ≡ wait → ⊥) → ruling before (rest ++ m) ≡ ruling before rest
unfolding ruling
ruling-grown before rest m ready =
    elim (cases_lt (length rest) 312) [
      | inl short ↦ absurd (ready (rw (lt-ltb (length rest) 312 short) refl))
      | inr room ↦
          let here = le-ltb (length rest) 312 room in
          rw (length-grown rest m 312 room, here, take-append-le 312 rest m room)
          (judged-grown before rest m (decoded (length before) (features_in before) (take 312 rest)) room (λ w. ready (rw here w)))
    ]

-- ---- a record that is covered is whole

unless-more : (o : Option StreamFault) (x : Ruling) (head : Head) → unless o x ≡ more head → x ≡ more head
unless-more None x head e = e
unless-more (Some f) x head e = absurd cc

more-is : (head other : Head) → more head ≡ more other → head ≡ other
more-is head other e = cc

next-more : (before rest : List ℕ) (other head : Head) → sealed_next before rest other ≡ more head → size_of head + 312 ≤ length rest
unfolding sealed_next
next-more before rest other head e =
    elim (cases_lt (length rest) (size_of other + 312)) [
      | inl short ↦ absurd (let d : wait ≡ more head = rw (lt-ltb (length rest) (size_of other + 312) short) at e in (cc))
      | inr room ↦
          let d = rw (le-ltb (length rest) (size_of other + 312) room) at e in
          let same = more-is other head (unless-more (sum_fault before rest (size_of other + 280) (size_of other + 280)) (more other) head d) in
          rw (← same) room
    ]

next_by-more : (before rest : List ℕ) (d : Decoded) (head : Head) → next_by before rest d ≡ more head → size_of head + 312 ≤ length rest
next_by-more before rest (Ok other) head e = next-more before rest other head e
next_by-more before rest (Err f) head e = absurd cc

cover-more : (before rest : List ℕ) (other head : Head) → cover before rest other ≡ more head → size_of head + 312 ≤ length rest
unfolding cover
cover-more before rest other head e =
    elim (cases_lt (length rest) (size_of other)) [
      | inl short ↦ absurd (let d : wait ≡ more head = rw (lt-ltb (length rest) (size_of other) short) at e in (cc))
      | inr room ↦ next_by-more before rest (opened other (take (payload_len other) (drop 312 rest))) head (rw (le-ltb (length rest) (size_of other) room) at e)
    ]

last-no : (o : Option StreamFault) (head other : Head) (f : StreamFault) (same : Bool) → unless o (cond same (last head) (refuse f)) ≡ more other → ⊥
last-no None head other f true e = cc
last-no None head other f false e = cc
last-no (Some g) head other f same e = cc

rule-more : (before rest : List ℕ) (other head : Head) (o : Option Closing) → rule_by before rest other o ≡ more head → size_of head + 312 ≤ length rest
unfolding finish
rule-more before rest other head None e = cover-more before rest other head e
rule-more before rest other head (Some c) e = absurd (last-no (sum_fault before rest 0 8) other head _ (c.to == number_at before 40 8) e)

judged-more : (before rest : List ℕ) (d : Decoded) (head : Head) → judged before rest d ≡ more head → size_of head + 312 ≤ length rest
judged-more before rest (Ok other) head e = rule-more before rest other head (closing other) e
judged-more before rest (Err f) head e = absurd cc

-- a record that is covered is whole, and the next 312 bytes are there
pub more-fits : (before rest : List ℕ) (head : Head) → ruling before rest ≡ more head → size_of head + 312 ≤ length rest
unfolding ruling
more-fits before rest head e =
    elim (cases_lt (length rest) 312) [
      | inl short ↦ absurd (let d : wait ≡ more head = rw (lt-ltb (length rest) 312 short) at e in (cc))
      | inr room ↦ judged-more before rest (decoded (length before) (features_in before) (take 312 rest)) head (rw (le-ltb (length rest) 312 room) at e)
    ]

-- ---- readings

front_after : (c : Covered) (r s : Reading) → FrontOf r s → FrontOf (prepend (c ∷ []) r) (prepend (c ∷ []) s)
front_after c r s f = record { others = f.others; covered = ap (λ (l : List Covered). c ∷ l) f.covered; outcome = f.outcome }

by_ruling : (f g index : ℕ) (before rest m : List ℕ) (r : Ruling) → ruling before rest ≡ r
    → ((index : ℕ) (before rest m : List ℕ) → FrontOf (reading_from f index before rest) (reading_from g index before (rest ++ m)))
    → FrontOf (reading_from (suc f) index before rest) (reading_from (suc g) index before (rest ++ m))
unfolding reading_from after
by_ruling f g index before rest m wait is later = rw is (record { others = _; covered = refl; outcome = inl refl })
by_ruling f g index before rest m (refuse x) is later =
    rw (ruling-grown before rest m (λ w. let e : refuse x ≡ wait = sym is ∙ w in (cc)), is) (record { others = []; covered = refl; outcome = inr (refl, refl) })
by_ruling f g index before rest m (last head) is later =
    rw (ruling-grown before rest m (λ w. let e : last head ≡ wait = sym is ∙ w in (cc)), is) (record { others = []; covered = refl; outcome = inr (refl, refl) })
by_ruling f g index before rest m (more head) is later =
    let room = more-fits before rest head is in
    let inside : size_of head ≤ length rest = omega arith in
    rw (
      ruling-grown before rest m (λ w. let e : more head ≡ wait = sym is ∙ w in (cc)),
      is,
      take-append-le (size_of head) rest m inside,
      drop-append-le (size_of head) rest m inside,
      part-grown rest m 312 (payload_len head) inside,
    )
    (front_after (covered_at index before rest head) _ _ (later (index + 1) (before ++ take (size_of head) rest) (drop (size_of head) rest) m))

front_from : (f g index : ℕ) (before rest m : List ℕ) → f ≤ g → FrontOf (reading_from f index before rest) (reading_from g index before (rest ++ m))
unfolding reading_from
front_from zero g index before rest m le = record { others = _; covered = refl; outcome = inl refl }
front_from (suc f) zero index before rest m le = absurd (omega arith)
front_from (suc f) (suc g) index before rest m le =
    by_ruling f g index before rest m (ruling before rest) refl (λ index before rest m. front_from f g index before rest m (omega arith))

-- the reading of a front of a text is a front of its reading
pub front : (text m : List ℕ) → FrontOf (reading text) (reading (text ++ m))
unfolding reading
front text m = front_from (length text + 1) (length (text ++ m) + 1) 0 [] text m (omega (arith, length-append text m))
