-- END stands last among the covered records of a text, exactly where its reading is complete; and BEGIN stands first.
use Rattle.std.proofs.Common.{◌≡◌, ◌⊎◌, inl, inr, ℕ, zero, suc, ◌+◌, ◌==◌, ◌&&◌, ◌||◌, not, Bool, true, false, cond, List, [], ◌∷◌, ◌++◌, length, take, drop, Option, Some, None, Ok, Err, nat_lt, refl}
use Rattle.std.specs.Prelude.{◌%◌, bit_and}
use Rattle.zst_bytes.specs.Bytes.{number_at}
use Rattle.zst_model.specs.declared.refusals.stream_fault.StreamFault.{StreamFault}
use Rattle.zst_model.specs.declared.sends.header.Header.{Header}
use Rattle.zst_record.specs.declared.head.Head.{Head}
use Rattle.zst_record.specs.declared.head.Head.TheVariants as heads
use Rattle.zst_record.specs.Decoding.{Decoded, check, named, needs_payload, is_payload_len, snapshot_with, snapshot_of, begin_with, begin_of, decoded, features_in, others_of}
use Rattle.zst_record.specs.Formats.{begin_type, compound_stream, large_blocks, reversed_magic, stream_magic, substream}
use Rattle.zst_record.specs.Heads.{Covered, payload_len, size_of}
use Rattle.zst_record.specs.Payload as payloads
use Rattle.zst_record.specs.Payload.{Opened}
use Rattle.zst_stream.specs.Reading.{Outcome, waiting, faulty, complete, Reading, Ruling, Closing, wait, refuse, last, more, unless, sum_fault, begun, next_by, opened, other_guid, sealed_next, cover, finish, rule_by, closing, judged, ruling, after, reading_from, reading}
use Rattle.zst_recv.specs.Stages.{is_begin, is_end}

-- END is the last of these where all is covered, and else none of them
abbrev pub EndsBy : List Covered → Outcome → Type 0
EndsBy [] waiting = Unit {0}
EndsBy [] (faulty fault) = Unit {0}
EndsBy [] complete = ⊥
EndsBy (c ∷ rest) outcome = ((is_end c.head ≡ true) × (rest ≡ []) × (outcome ≡ complete)) ⊎ ((is_end c.head ≡ false) × EndsBy rest outcome)

-- the first of these, where there is one, is BEGIN
abbrev pub FirstBegins : List Covered → Type 0
FirstBegins [] = Unit {0}
FirstBegins (c ∷ rest) = is_begin c.head ≡ true

-- ---- what a ruling covers

abbrev Rules : Ruling → Type 0
Rules wait = Unit {0}
Rules (refuse fault) = Unit {0}
Rules (last head) = is_end head ≡ true
Rules (more head) = is_end head ≡ false

rules-cond : (b : Bool) (x y : Ruling) → Rules x → Rules y → Rules (cond b x y)
rules-cond true x y h k = h
rules-cond false x y h k = k

rules-unless : (o : Option StreamFault) (r : Ruling) → Rules r → Rules (unless o r)
rules-unless None r h = h
rules-unless (Some fault) r h = tt

pub no_end : (head : Head) → closing head ≡ None → is_end head ≡ false
no_end (heads.Begin header len) is = refl
no_end (heads.Object object kind bonus_kind block_size bonus_len max_block to) is = refl
no_end (heads.FreeObjects first count to) is = refl
no_end (heads.Write object kind offset size to) is = refl
no_end (heads.Free object offset size to) is = refl
no_end (heads.End sums to) is = absurd cc
no_end (heads.Spill object size to) is = refl
no_end (heads.Redact object offset size to) is = refl

an_end : (head : Head) (c : Closing) → closing head ≡ Some c → is_end head ≡ true
an_end (heads.Begin header len) c is = absurd cc
an_end (heads.Object object kind bonus_kind block_size bonus_len max_block to) c is = absurd cc
an_end (heads.FreeObjects first count to) c is = absurd cc
an_end (heads.Write object kind offset size to) c is = absurd cc
an_end (heads.Free object offset size to) c is = absurd cc
an_end (heads.End sums to) c is = refl
an_end (heads.Spill object size to) c is = absurd cc
an_end (heads.Redact object offset size to) c is = absurd cc

-- what a record says with its payload is END no more than the record
abbrev OkNoEnd : Decoded → Type 0
OkNoEnd (Ok head) = is_end head ≡ false
OkNoEnd (Err fault) = Unit {0}

no_end-begun : (len : ℕ) (o : Opened) → OkNoEnd (begun len o)
no_end-begun len (Ok header) = refl
no_end-begun len (Err fault) = tt

no_end-opened : (head : Head) (payload : List ℕ) → closing head ≡ None → OkNoEnd (opened head payload)
unfolding opened
no_end-opened (heads.Begin header len) payload is = no_end-begun len (payloads.opened header payload)
no_end-opened (heads.Object object kind bonus_kind block_size bonus_len max_block to) payload is = refl
no_end-opened (heads.FreeObjects first count to) payload is = refl
no_end-opened (heads.Write object kind offset size to) payload is = refl
no_end-opened (heads.Free object offset size to) payload is = refl
no_end-opened (heads.End sums to) payload is = absurd cc
no_end-opened (heads.Spill object size to) payload is = refl
no_end-opened (heads.Redact object offset size to) payload is = refl

rules-next : (before rest : List ℕ) (d : Decoded) → OkNoEnd d → Rules (next_by before rest d)
unfolding sealed_next
rules-next before rest (Ok head) is =
    let end = size_of head + 280 in
    rules-cond (nat_lt (length rest) (size_of head + 312)) wait _ tt (rules-unless (sum_fault before rest end end) (more head) is)
rules-next before rest (Err fault) is = tt

rules-by : (before rest : List ℕ) (head : Head) (o : Option Closing) → closing head ≡ o → Rules (rule_by before rest head o)
unfolding cover finish
rules-by before rest head None is =
    let payload = take (payload_len head) (drop 312 rest) in
    rules-cond (nat_lt (length rest) (size_of head)) wait _ tt (rules-next before rest (opened head payload) (no_end-opened head payload is))
rules-by before rest head (Some c) is =
    rules-unless (sum_fault before rest 0 8) _ (rules-cond (c.to == number_at before 40 8) (last head) (refuse (other_guid before)) (an_end head c is) tt)

rules-judged : (before rest : List ℕ) (d : Decoded) → Rules (judged before rest d)
rules-judged before rest (Ok head) = rules-by before rest head (closing head) refl
rules-judged before rest (Err fault) = tt

rules : (before rest : List ℕ) → Rules (ruling before rest)
unfolding ruling
rules before rest =
    rules-cond (nat_lt (length rest) 312) wait _ tt (rules-judged before rest (decoded (length before) (features_in before) (take 312 rest)))

-- ---- readings

abbrev Ends : Reading → Type 0
Ends r = EndsBy r.covered r.outcome

ends-after : (index : ℕ) (before rest : List ℕ) (next : Head → Reading) (r : Ruling) → Rules r → ((head : Head) → Ends (next head)) → Ends (after index before rest r next)
unfolding after
ends-after index before rest next wait is later = tt
ends-after index before rest next (refuse fault) is later = tt
ends-after index before rest next (last head) is later = inl (is, refl, refl)
ends-after index before rest next (more head) is later = inr (is, later head)

ends-from : (fuel index : ℕ) (before rest : List ℕ) → Ends (reading_from fuel index before rest)
unfolding reading_from
ends-from zero index before rest = tt
ends-from (suc fuel) index before rest =
    ends-after index before rest _ (ruling before rest) (rules before rest) (λ head. ends-from fuel (index + 1) (before ++ take (size_of head) rest) (drop (size_of head) rest))

-- END is the last record of a text that is complete, and of no other
pub ends_last : (text : List ℕ) → EndsBy (reading text).covered (reading text).outcome
unfolding reading
ends_last text = ends-from (length text + 1) 0 [] text

-- records behind others of which none is END
pub ends_behind : (front rest : List Covered) (outcome : Outcome) → EndsBy front waiting → EndsBy (front ++ rest) outcome → EndsBy rest outcome
ends_behind [] rest outcome none ends = ends
ends_behind (c ∷ front) rest outcome (inl was) ends = absurd cc
ends_behind (c ∷ front) rest outcome (inr was) (inl is) = absurd cc
ends_behind (c ∷ front) rest outcome (inr was) (inr is) = ends_behind front rest outcome was.1 is.1

-- ---- BEGIN

abbrev OkBegins : Decoded → Type 0
OkBegins (Ok head) = is_begin head ≡ true
OkBegins (Err fault) = Unit {0}

record IsOpening (d : Decoded) : Type 0 where
  begins : OkBegins d

begins-check : (b : Bool) (fault : StreamFault) (next : Decoded) → IsOpening next → IsOpening (check b fault next)
begins-check true fault next is = is
begins-check false fault next is = record { begins = tt }

begins-named : (next : Header → Decoded) (make : List ℕ → Header) (name : Option (List ℕ)) → ((header : Header) → IsOpening (next header)) → IsOpening (named next make name)
unfolding named
begins-named next make None is = record { begins = tt }
begins-named next make (Some name) is = is (make name)

begins-snapshot : (features : ℕ) (bytes : List ℕ) → IsOpening (snapshot_of features bytes)
unfolding snapshot_with
begins-snapshot features bytes =
    let kind = number_at bytes 32 4 in
    let len = number_at bytes 4 4 in
    begins-check ((kind == 2) || (kind == 3)) _ _
    (begins-check (not (number_at bytes 40 8 == 0)) _ _
    (begins-named _ _ _ (λ header. begins-check (is_payload_len len) _ _ (begins-check (not ((len == 0) && needs_payload features)) _ _ (record { begins = refl })))))

begins-decoded : (features : ℕ) (bytes : List ℕ) → IsOpening (decoded 0 features bytes)
unfolding decoded begin_of begin_with
begins-decoded features bytes =
    let magic = number_at bytes 8 8 in
    let kind = number_at bytes 16 8 % 4 in
    begins-check (number_at bytes 0 4 == begin_type) _ _
    (begins-check (not (magic == reversed_magic)) _ _
    (begins-check (magic == stream_magic) _ _
    (begins-check (not (kind == compound_stream)) _ _
    (begins-check (kind == substream) _ _
    (begins-check (others_of (features_in bytes) == 0) _ _
    (begins-check (bit_and (features_in bytes) large_blocks == 0) _ _ (begins-snapshot (features_in bytes) bytes)))))))

-- what a ruling of a text's front covers is BEGIN
abbrev Opens : Ruling → Type 0
Opens wait = Unit {0}
Opens (refuse fault) = Unit {0}
Opens (last head) = is_begin head ≡ true
Opens (more head) = is_begin head ≡ true

opens-cond : (b : Bool) (x y : Ruling) → Opens x → Opens y → Opens (cond b x y)
opens-cond true x y h k = h
opens-cond false x y h k = k

opens-unless : (o : Option StreamFault) (r : Ruling) → Opens r → Opens (unless o r)
opens-unless None r h = h
opens-unless (Some fault) r h = tt

begins-begun : (len : ℕ) (o : Opened) → OkBegins (begun len o)
begins-begun len (Ok header) = refl
begins-begun len (Err fault) = tt

begins-opened : (head : Head) (payload : List ℕ) → is_begin head ≡ true → OkBegins (opened head payload)
unfolding opened
begins-opened (heads.Begin header len) payload is = begins-begun len (payloads.opened header payload)
begins-opened (heads.Object object kind bonus_kind block_size bonus_len max_block to) payload is = is
begins-opened (heads.FreeObjects first count to) payload is = is
begins-opened (heads.Write object kind offset size to) payload is = is
begins-opened (heads.Free object offset size to) payload is = is
begins-opened (heads.End sums to) payload is = is
begins-opened (heads.Spill object size to) payload is = is
begins-opened (heads.Redact object offset size to) payload is = is

opens-next : (before rest : List ℕ) (d : Decoded) → OkBegins d → Opens (next_by before rest d)
unfolding sealed_next
opens-next before rest (Ok head) is =
    let end = size_of head + 280 in
    opens-cond (nat_lt (length rest) (size_of head + 312)) wait _ tt (opens-unless (sum_fault before rest end end) (more head) is)
opens-next before rest (Err fault) is = tt

opens-by : (before rest : List ℕ) (head : Head) (o : Option Closing) → is_begin head ≡ true → Opens (rule_by before rest head o)
unfolding cover finish
opens-by before rest head None is =
    let payload = take (payload_len head) (drop 312 rest) in
    opens-cond (nat_lt (length rest) (size_of head)) wait _ tt (opens-next before rest (opened head payload) (begins-opened head payload is))
opens-by before rest head (Some c) is =
    opens-unless (sum_fault before rest 0 8) _ (opens-cond (c.to == number_at before 40 8) (last head) (refuse (other_guid before)) is tt)

opens-judged : (before rest : List ℕ) (d : Decoded) → OkBegins d → Opens (judged before rest d)
opens-judged before rest (Ok head) is = opens-by before rest head (closing head) is
opens-judged before rest (Err fault) is = tt

opens : (text : List ℕ) → Opens (ruling [] text)
unfolding ruling
opens text =
    opens-cond (nat_lt (length text) 312) wait _ tt (opens-judged [] text (decoded 0 (features_in []) (take 312 text)) (let is = begins-decoded (features_in []) (take 312 text) in is.begins))

first-after : (text : List ℕ) (next : Head → Reading) (r : Ruling) → Opens r → FirstBegins (after 0 [] text r next).covered
unfolding after
first-after text next wait is = tt
first-after text next (refuse fault) is = tt
first-after text next (last head) is = is
first-after text next (more head) is = is

first-from : (fuel : ℕ) (text : List ℕ) → FirstBegins (reading_from fuel 0 [] text).covered
unfolding reading_from
first-from zero text = tt
first-from (suc fuel) text = first-after text _ (ruling [] text) (opens text)

-- the first record of a text is BEGIN
pub begins_first : (text : List ℕ) → FirstBegins (reading text).covered
unfolding reading
begins_first text = first-from (length text + 1) text

-- nothing is covered of the empty text
pub nothing_read : reading [] ≡ record { covered = []; outcome = waiting }
unfolding reading reading_from ruling after
nothing_read = refl
