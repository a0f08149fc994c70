-- What the covered records of a text have passed, and in which places they stand.
use Rattle.std.proofs.Common.{◌≡◌, inl, inr, ℕ, zero, suc, ◌+◌, ◌/◌, ◌%◌, ◌^◌, ◌<◌, ◌≤◌, ◌==◌, Bool, true, false, cond, List, [], ◌∷◌, ◌++◌, length, take, drop, Option, Some, None, Ok, Err, nat_lt, refl, sym, ap, ◌∙◌, subst, arith, length-append, length-take}
use Rattle.std.specs.Prelude.{slice_get}
use Rattle.std.specs.List.{All}
use Rattle.std.proofs.lemmas.Bool.{cases_lt}
use Rattle.std.proofs.lemmas.List.{take-append-drop, take_all, length-take-le, length-drop}
use Rattle.std.proofs.lemmas.List.Elements.{All-nil, All-cons, All-take, All-drop}
use Rattle.zst_bytes.specs.Bytes.{number_at}
use Rattle.zst_model.specs.declared.refusals.stream_fault.StreamFault.{StreamFault}
use Rattle.zst_model.specs.declared.sends.header.Header.{Header}
use Rattle.zst_model.specs.states.State.{AreBytes}
use Rattle.zst_record.specs.Payload as payloads
use Rattle.zst_record.specs.Payload.{bare}
use Rattle.zst_record.proofs.PayloadLaws.{bare-same, payload-written}
use Rattle.zst_record.specs.declared.head.Head.{Head}
use Rattle.zst_record.specs.declared.head.Head.TheVariants as heads
use Rattle.zst_record.specs.Decoding.{Decoded, decoded, features_in}
use Rattle.zst_record.specs.RecordValues.{Fits, IsLater, BeginFits}
use Rattle.zst_record.specs.Heads.{Covered, payload_len, size_of}
use Rattle.zst_record.specs.Laws.{Begins, Follows}
use Rattle.zst_record.proofs.RecordValueLaws.{begins, follows}
use Rattle.zst_record.proofs.StatedHeaders.{said-stated}
use Rattle.zst_stream.specs.Reading.{Reading, Ruling, Closing, wait, refuse, last, more, unless, sum_fault, begun, next_by, opened, other_guid, sealed_next, cover, finish, rule_by, closing, judged, ruling, covered_at, covered_last, after, reading_from, reading}
use Rattle.zst_stream.specs.PassedRecords.{StatesHeader, bare_head, HasPassed, IsBegin, IsInPlace}
use Rattle.zst_stream.proofs.Growth.{number-grown, more-fits}

-- ---- what a ruling covers

-- what holds of the record that a ruling covers, by whether it is the last
abbrev Rules : (Head → Type 0) → (Head → Type 0) → Ruling → Type 0
Rules M L wait = Unit {0}
Rules M L (refuse fault) = Unit {0}
Rules M L (last head) = L head
Rules M L (more head) = M head

-- what was decoded is a record but END, and is this one with its payload
record IsMiddle (rest : List ℕ) (d : Decoded) (head : Head) : Type 0 where
  bare : Head
  is : d ≡ Ok bare
  middle : closing bare ≡ None
  whole : opened bare (take (payload_len bare) (drop 312 rest)) ≡ Ok head

-- or END
abbrev IsFinal : Decoded → Head → Type 0
IsFinal d head = (d ≡ Ok head) × ((c : Closing) × (closing head ≡ Some c))

abbrev IsRuled : List ℕ → Decoded → Ruling → Type 0
IsRuled rest d r = Rules (IsMiddle rest d) (IsFinal d) r

ruled-cond : (rest : List ℕ) (d : Decoded) (b : Bool) (x y : Ruling) → IsRuled rest d x → IsRuled rest d y → IsRuled rest d (cond b x y)
ruled-cond rest d true x y h k = h
ruled-cond rest d false x y h k = k

ruled-unless : (rest : List ℕ) (d : Decoded) (o : Option StreamFault) (r : Ruling) → IsRuled rest d r → IsRuled rest d (unless o r)
ruled-unless rest d None r h = h
ruled-unless rest d (Some fault) r h = tt

ruled-next : (before rest : List ℕ) (bare : Head) (d : Decoded) → closing bare ≡ None → opened bare (take (payload_len bare) (drop 312 rest)) ≡ d
    → IsRuled rest (Ok bare) (next_by before rest d)
unfolding sealed_next
ruled-next before rest bare (Ok head) middle whole =
    let end = size_of head + 280 in
    ruled-cond rest (Ok bare) (nat_lt (length rest) (size_of head + 312)) wait _ tt
    (ruled-unless rest (Ok bare) (sum_fault before rest end end) (more head) (record { bare = bare; is = refl; middle = middle; whole = whole }))
ruled-next before rest bare (Err fault) middle whole = tt

ruled-by : (before rest : List ℕ) (head : Head) (o : Option Closing) → closing head ≡ o → IsRuled rest (Ok head) (rule_by before rest head o)
unfolding cover finish
ruled-by before rest head None is =
    ruled-cond rest (Ok head) (nat_lt (length rest) (size_of head)) wait _ tt
    (ruled-next before rest head (opened head (take (payload_len head) (drop 312 rest))) is refl)
ruled-by before rest head (Some c) is =
    ruled-unless rest (Ok head) (sum_fault before rest 0 8) _
    (ruled-cond rest (Ok head) (c.to == number_at before 40 8) (last head) (refuse (other_guid before)) (refl, (c, is)) tt)

ruled-judged : (before rest : List ℕ) (d : Decoded) → IsRuled rest d (judged before rest d)
ruled-judged before rest (Ok head) = ruled-by before rest head (closing head) refl
ruled-judged before rest (Err fault) = tt

-- what is covered was decoded from its 312 bytes
is-ruled : (before rest : List ℕ) (r : Ruling) → ruling before rest ≡ r → IsRuled rest (decoded (length before) (features_in before) (take 312 rest)) r
unfolding ruling
is-ruled before rest r is =
    let d = decoded (length before) (features_in before) (take 312 rest) in
    subst (IsRuled rest d) is (ruled-cond rest d (nat_lt (length rest) 312) wait (judged before rest d) tt (ruled-judged before rest d))

-- ---- what was decoded

-- a BEGIN whose name is bytes
abbrev HasName : Head → Type 0
HasName (heads.Begin header len) = AreBytes header.name
HasName head = Unit {0}

-- a record that fits by its 312 bytes, in its place
record IsSound (features place : ℕ) (head : Head) : Type 0 where
  fits : Fits features head
  name : HasName head
  first : place ≡ 0 → IsBegin head
  later : 0 < place → IsLater head

later-name : (head : Head) → IsLater head → HasName head
later-name (heads.Begin header len) is = absurd is
later-name (heads.Object object kind bonus_kind block_size bonus_len max_block to) is = tt
later-name (heads.FreeObjects first count to) is = tt
later-name (heads.Write object kind offset size to) is = tt
later-name (heads.Free object offset size to) is = tt
later-name (heads.End sums to) is = tt
later-name (heads.Spill object size to) is = tt
later-name (heads.Redact object offset size to) is = tt

sound-later : (features place : ℕ) (head : Head) → 0 < place → Follows features head → IsSound features place head
sound-later features place head some f =
    record { fits = f.1; name = later-name head f.0; first = λ none. absurd (omega arith); later = λ also. f.0 }

sound-begin : (features : ℕ) (head : Head) → Begins features head → IsSound features 0 head
sound-begin features (heads.Begin header len) b = record { fits = b.0; name = b.1; first = λ none. tt; later = λ some. absurd (omega arith) }
sound-begin features (heads.Object object kind bonus_kind block_size bonus_len max_block to) b = absurd b
sound-begin features (heads.FreeObjects first count to) b = absurd b
sound-begin features (heads.Write object kind offset size to) b = absurd b
sound-begin features (heads.Free object offset size to) b = absurd b
sound-begin features (heads.End sums to) b = absurd b
sound-begin features (heads.Spill object size to) b = absurd b
sound-begin features (heads.Redact object offset size to) b = absurd b

-- ---- with its payload

-- a record that has passed, in its place
record IsWhole (features place : ℕ) (head : Head) : Type 0 where
  fits : Fits features (bare_head head)
  stated : StatesHeader head
  first : place ≡ 0 → IsBegin head
  later : 0 < place → IsLater head
  middle : closing head ≡ None

whole-begin : (features place len : ℕ) (header said : Header) (payload : List ℕ) → AreBytes payload → length payload ≤ len → IsSound features place (heads.Begin header len)
    → payloads.opened header payload ≡ Ok said → IsWhole features place (heads.Begin said len)
unfolding bare
whole-begin features place len header said payload all short sound is =
    let fits = sound.fits.1 in
    let alone : bare header ≡ header = bare-same header fits.no_resume fits.no_redact fits.no_from_redact in
    let has = payload-written header said payload all (ap (λ (h : Header). payloads.opened h payload) alone ∙ is) in
    let same : bare said ≡ header = has.over ∙ alone in
    record {
      fits = subst (λ (h : Header). (features ≡ h.features) × BeginFits h len) (sym same) sound.fits;
      stated = record {
        payload = has.stated;
        kept = λ none. said-stated header said len fits sound.name same has.stated none;
      };
      first = λ none. tt;
      later = λ some. sound.later some;
      middle = refl;
    }

begun-is : (features place len : ℕ) (whole : Head) (o : payloads.Opened) → begun len o ≡ Ok whole
    → ((said : Header) → o ≡ Ok said → IsWhole features place (heads.Begin said len)) → IsWhole features place whole
begun-is features place len whole (Ok said) is each = let same : heads.Begin said len ≡ whole = cc is in subst (IsWhole features place) same (each said refl)
begun-is features place len whole (Err fault) is each = absurd (cc is)

-- a record other than BEGIN says with its payload what it says without
whole-later : (features place : ℕ) (head whole : Head) → bare_head head ≡ head → StatesHeader head → IsSound features place head → closing head ≡ None
    → head ≡ whole → IsWhole features place whole
whole-later features place head whole alone states sound middle same =
    subst (IsWhole features place) same (record {
      fits = subst (Fits features) (sym alone) sound.fits;
      stated = states;
      first = sound.first;
      later = sound.later;
      middle = middle;
    })

is-whole : (features place : ℕ) (head whole : Head) (payload : List ℕ) → AreBytes payload → length payload ≤ payload_len head → IsSound features place head
    → closing head ≡ None → opened head payload ≡ Ok whole → IsWhole features place whole
unfolding opened
is-whole features place (heads.Begin header len) whole payload all short sound middle is =
    begun-is features place len whole (payloads.opened header payload) is (λ said e. whole-begin features place len header said payload all short sound e)
is-whole features place (heads.Object object kind bonus_kind block_size bonus_len max_block to) whole payload all short sound middle is =
    whole-later features place _ whole refl tt sound middle (cc is)
is-whole features place (heads.FreeObjects first count to) whole payload all short sound middle is = whole-later features place _ whole refl tt sound middle (cc is)
is-whole features place (heads.Write object kind offset size to) whole payload all short sound middle is = whole-later features place _ whole refl tt sound middle (cc is)
is-whole features place (heads.Free object offset size to) whole payload all short sound middle is = whole-later features place _ whole refl tt sound middle (cc is)
is-whole features place (heads.End sums to) whole payload all short sound middle is = absurd cc
is-whole features place (heads.Spill object size to) whole payload all short sound middle is = whole-later features place _ whole refl tt sound middle (cc is)
is-whole features place (heads.Redact object offset size to) whole payload all short sound middle is = whole-later features place _ whole refl tt sound middle (cc is)

-- END says with nothing what it says
final : (head : Head) (c : Closing) → closing head ≡ Some c → (bare_head head ≡ head) × StatesHeader head
final (heads.Begin header len) c is = absurd cc
final (heads.Object object kind bonus_kind block_size bonus_len max_block to) c is = absurd cc
final (heads.FreeObjects first count to) c is = absurd cc
final (heads.Write object kind offset size to) c is = absurd cc
final (heads.Free object offset size to) c is = absurd cc
final (heads.End sums to) c is = (refl, tt)
final (heads.Spill object size to) c is = absurd cc
final (heads.Redact object offset size to) c is = absurd cc

-- END has no payload
last-empty : (head : Head) (c : Closing) → closing head ≡ Some c → 0 ≡ payload_len head
last-empty (heads.Begin header len) c is = absurd cc
last-empty (heads.Object object kind bonus_kind block_size bonus_len max_block to) c is = absurd cc
last-empty (heads.FreeObjects first count to) c is = absurd cc
last-empty (heads.Write object kind offset size to) c is = absurd cc
last-empty (heads.Free object offset size to) c is = absurd cc
last-empty (heads.End sums to) c is = refl
last-empty (heads.Spill object size to) c is = absurd cc
last-empty (heads.Redact object offset size to) c is = absurd cc

-- ---- readings

-- a covered record that has passed, in its place
record Stands (features place count : ℕ) (c : Covered) : Type 0 where
  passed : HasPassed features c
  in_place : IsInPlace place count c

module _ (features index : ℕ) (before rest : List ℕ) (all : AreBytes rest) (sound : (head : Head) → decoded (length before) (features_in before) (take 312 rest) ≡ Ok head → IsSound features index head) where
  last-stands : (head : Head) (count place : ℕ) → ruling before rest ≡ last head → count ≡ index + 1 → place ≡ index → Stands features place count (covered_last index before head)
  last-stands head count place is counted at =
      let f = is-ruled before rest (last head) is in
      let s = sound head f.0 in
      let end = final head f.1.0 f.1.1 in
      record {
        passed = record { fits = subst (Fits features) (sym end.0) s.fits; len = last-empty head f.1.0 f.1.1; bytes = All-nil (λ byte. byte < 2 ^ 8); stated = end.1 };
        in_place = record { index = sym at; first = λ none. s.first (omega arith); later = λ some. s.later (omega arith); last = inr (omega arith) };
      }

  more-stands : (head : Head) (count place : ℕ) → ruling before rest ≡ more head → place ≡ index → Stands features place count (covered_at index before rest head)
  more-stands head count place is at =
      let f = is-ruled before rest (more head) is in
      let payload = take (payload_len f.bare) (drop 312 rest) in
      let bytes : AreBytes payload =
      All-take (λ byte. byte < 2 ^ 8) (payload_len f.bare) (drop 312 rest) (All-drop (λ byte. byte < 2 ^ 8) 312 rest all) in
      let short : length payload ≤ payload_len f.bare = omega (arith, length-take (payload_len f.bare) (drop 312 rest)) in
      let s = is-whole features index f.bare head payload bytes short (sound f.bare f.is) f.middle f.whole in
      let room = more-fits before rest head is in
      record {
        passed = record {
          fits = s.fits;
          len = length-take-le (payload_len head) (drop 312 rest) (omega (arith, length-drop 312 rest));
          bytes = All-take (λ byte. byte < 2 ^ 8) (payload_len head) (drop 312 rest) (All-drop (λ byte. byte < 2 ^ 8) 312 rest all);
          stated = s.stated;
        };
        in_place = record { index = sym at; first = λ none. s.first (omega arith); later = λ some. s.later (omega arith); last = inl s.middle };
      }

  after-stands : (next : Head → Reading) (count k place : ℕ) (c : Covered) (r : Ruling) → ruling before rest ≡ r → count ≡ index + length (after index before rest r next).covered → place ≡ index + k
      → slice_get (after index before rest r next).covered k ≡ Some c
      → ((head : Head) (j : ℕ) → ruling before rest ≡ more head → count ≡ index + 1 + length (next head).covered → place ≡ index + 1 + j → slice_get (next head).covered j ≡ Some c → Stands features place count c)
      → Stands features place count c
  unfolding after
  after-stands next count k place c wait is counted at there later = absurd cc
  after-stands next count k place c (refuse fault) is counted at there later = absurd cc
  after-stands next count zero place c (last head) is counted at there later =
      let same : covered_last index before head ≡ c = cc in
      subst (Stands features place count) same (last-stands head count place is counted (omega arith))
  after-stands next count (suc k) place c (last head) is counted at there later = absurd cc
  after-stands next count zero place c (more head) is counted at there later =
      let same : covered_at index before rest head ≡ c = cc in
      subst (Stands features place count) same (more-stands head count place is (omega arith))
  after-stands next count (suc k) place c (more head) is counted at there later = later head k is (omega arith) (omega arith) there

-- the features stand in a stream's first bytes
features-grown : (before m : List ℕ) → 24 ≤ length before → features_in (before ++ m) ≡ features_in before
features-grown before m long = ap (λ (n : ℕ). n / 4 % 2 ^ 30) (number-grown before m 16 8 (omega arith))

features-front : (n : ℕ) (text : List ℕ) → 24 ≤ n → features_in (take n text) ≡ features_in text
features-front n text wide =
    elim (cases_lt (length text) n) [
      | inl short ↦ ap features_in (take_all n text (omega arith))
      | inr long ↦ sym (features-grown (take n text) (drop n text) (omega (arith, length-take-le n text long))) ∙ ap features_in (take-append-drop n text)
    ]

stands-from : (features fuel index : ℕ) (before rest : List ℕ) (count k place : ℕ) (c : Covered) → 0 < index → 312 ≤ length before → features_in before ≡ features → AreBytes rest
    → count ≡ index + length (reading_from fuel index before rest).covered → place ≡ index + k → slice_get (reading_from fuel index before rest).covered k ≡ Some c → Stands features place count c
unfolding reading_from
stands-from features zero index before rest count k place c some long is all counted at there = absurd cc
stands-from features (suc fuel) index before rest count k place c some long is all counted at there =
    let front : AreBytes (take 312 rest) = All-take (λ byte. byte < 2 ^ 8) 312 rest all in
    after-stands features index before rest all
    (λ head d. sound-later features index head some
    (follows (length before) features (take 312 rest) head front (omega arith) (subst (λ (n : ℕ). decoded (length before) n (take 312 rest) ≡ Ok head) is d)))
    (λ head. reading_from fuel (index + 1) (before ++ take (size_of head) rest) (drop (size_of head) rest)) count k place c (ruling before rest) refl counted at there
    (λ head j ruled counted at there. stands-from features fuel (index + 1) (before ++ take (size_of head) rest) (drop (size_of head) rest) count j place c (omega arith)
    (omega (arith, length-append before (take (size_of head) rest))) (features-grown before (take (size_of head) rest) (omega arith) ∙ is)
    (All-drop (λ byte. byte < 2 ^ 8) (size_of head) rest all) counted at there)

stands-first : (fuel : ℕ) (text : List ℕ) (count k : ℕ) (c : Covered) → AreBytes text → count ≡ length (reading_from fuel 0 [] text).covered
    → slice_get (reading_from fuel 0 [] text).covered k ≡ Some c → Stands (features_in text) k count c
unfolding reading_from
stands-first zero text count k c all counted there = absurd cc
stands-first (suc fuel) text count k c all counted there =
    let features = features_in text in
    let front : AreBytes (take 312 text) = All-take (λ byte. byte < 2 ^ 8) 312 text all in
    after-stands features 0 [] text all
    (λ head d. sound-begin features head (subst (λ (n : ℕ). Begins n head) (features-front 312 text (omega arith)) (begins (features_in []) (take 312 text) head front d)))
    (λ head. reading_from fuel 1 (take (size_of head) text) (drop (size_of head) text)) count k k c (ruling [] text) refl (omega arith) (omega arith) there
    (λ head j ruled counted at there.
    let room = more-fits [] text head ruled in
    stands-from features fuel 1 (take (size_of head) text) (drop (size_of head) text) count j k c (omega arith) (omega (arith, length-take-le (size_of head) text (omega arith)))
    (features-front (size_of head) text (omega arith)) (All-drop (λ byte. byte < 2 ^ 8) (size_of head) text all) counted at there)

all-from_each : (P : Covered → Type 0) (cs : List Covered) → ((k : ℕ) (c : Covered) → slice_get cs k ≡ Some c → P c) → All P cs
all-from_each P [] each = All-nil P
all-from_each P (c ∷ cs) each = All-cons P c cs (each 0 c refl) (all-from_each P cs (λ k other there. each (suc k) other there))

-- what is covered of bytes has passed its checks
pub passed : (text : List ℕ) → AreBytes text → All (HasPassed (features_in text)) (reading text).covered
unfolding reading
passed text all =
    let cs = (reading_from (length text + 1) 0 [] text).covered in
    all-from_each (HasPassed (features_in text)) cs (λ k c there. let s = stands-first (length text + 1) text (length cs) k c all refl there in s.passed)

-- the covered records of bytes stand in their places
pub in_order : (text : List ℕ) (place : ℕ) (c : Covered) → AreBytes text → slice_get (reading text).covered place ≡ Some c → IsInPlace place (length (reading text).covered) c
unfolding reading
in_order text place c all there =
    let s = stands-first (length text + 1) text (length (reading_from (length text + 1) 0 [] text).covered) place c all refl there in s.in_place
