-- The reading of an image is the records that it was made of.
use Rattle.std.proofs.Common.{◌≡◌, ℕ, zero, suc, ◌+◌, ◌/◌, ◌%◌, ◌^◌, ◌<◌, ◌≤◌, true, List, [], ◌∷◌, ◌++◌, length, take, drop, slice_index, None, Ok, refl, sym, ap, ◌∙◌, arith, append_assoc, length-append, add-one, subst, map, inl, inr}
use Rattle.std.specs.Prelude.{◌⊎◌}
use Rattle.std.proofs.lemmas.List.{take-append-le, take_at, drop_at, append-nil, map-append}
use Rattle.std.proofs.lemmas.Bool.{eq-eqb, le-ltb}
use Rattle.std.proofs.Math.Seq.{take-append-add, drop-append-add}
use Rattle.byteorder.specs.Endian.{little_number}
use Rattle.zst_fletcher.specs.WeightSum.{weight_sum, sums_of, parts_of}
use Rattle.zst_bytes.specs.Bytes.{number_at, bytes_at}
use Rattle.zst_model.specs.declared.sends.header.Header.{Header}
use Rattle.zst_record.specs.declared.head.Head.{Head}
use Rattle.zst_record.specs.declared.head.Head.TheVariants as heads
use Rattle.zst_record.specs.Heads.{payload_len, size_of}
use Rattle.zst_record.specs.Table.{head_bytes, sealed_bytes}
use Rattle.zst_record.specs.RecordValues.{BeginFits, Fits, IsLater, SumsFit}
use Rattle.zst_record.specs.Payload.{StatesPayload, bare, begin_payload}
use Rattle.zst_record.proofs.PayloadLaws.{payload-read}
use Rattle.zst_record.specs.Decoding.{sums_at, decoded, features_in}
use Rattle.zst_record.proofs.TableLaws.{length-head, length-end, length-sealed, sealed-front, sealed-sums, end-states, begin-features, begin-to}
use Rattle.zst_record.proofs.DecodingLaws.{later-back}
use Rattle.zst_record.proofs.BeginLaws.{begin-back}
use Rattle.zst_stream.specs.Reading.{Reading, FrontOf, last, more, waiting, complete, same_sums, sum_fault, cover, finish, ruling, closing, begun, opened, after, reading_from, reading, prepend, sealed_next}
use Rattle.zst_stream.specs.Image.{Piece, record_after, piece_after, end_after, image_after, front_of, begin_head, image, covers_after, covers, PiecesFit, IsStream}
use Rattle.zst_stream.proofs.Growth.{number-grown, front}
use Rattle.zst_stream.specs.Laws.{piece_of, all_pieces}

-- ---- sums

-- the sums of a text are four numbers of 64 bits
pub sums-fit : (text : List ℕ) → SumsFit (parts_of (weight_sum text))
unfolding sums_of
sums-fit text = record { four = refl; a = omega arith; b = omega arith; c = omega arith; d = omega arith }

same-same : (sums : List ℕ) → same_sums sums sums ≡ true
same-same sums =
    rw (
      eq-eqb (slice_index sums 0) (slice_index sums 0) refl,
      eq-eqb (slice_index sums 1) (slice_index sums 1) refl,
      eq-eqb (slice_index sums 2) (slice_index sums 2) refl,
      eq-eqb (slice_index sums 3) (slice_index sums 3) refl,
    ) refl

-- a record with the right checksum stands in front of the rest
pub record Opens (before rest : List ℕ) : Type 0 where
  pub long : 312 ≤ length rest
  pub right : parts_of (weight_sum (before ++ take 280 rest)) ≡ sums_at rest 280

sums_at-grown : (rest m : List ℕ) (at : ℕ) → at + 32 ≤ length rest → sums_at (rest ++ m) at ≡ sums_at rest at
sums_at-grown rest m at h =
    rw (
      number-grown rest m at 8 (omega arith),
      number-grown rest m (at + 8) 8 (omega arith),
      number-grown rest m (at + 16) 8 (omega arith),
      number-grown rest m (at + 24) 8 (omega arith),
    ) refl

opens-grown : (before rest m : List ℕ) → Opens before rest → Opens before (rest ++ m)
opens-grown before rest m o =
    let long = o.long in
    record {
      long = omega (arith, length-append rest m);
      right = ap (λ (t : List ℕ). parts_of (weight_sum (before ++ t))) (take-append-le 280 rest m (omega arith)) ∙ o.right ∙ sym (sums_at-grown rest m 280 (omega arith));
    }

-- a record after a text has 312 bytes
pub length-record : (before : List ℕ) (head : Head) → length (head_bytes head) ≡ 312 → length (record_after before head) ≡ 312
unfolding record_after
length-record before head size = length-sealed head (parts_of (weight_sum (before ++ take 280 (head_bytes head)))) size

record-opens : (before : List ℕ) (head : Head) → length (head_bytes head) ≡ 312 → Opens before (record_after before head)
unfolding record_after
record-opens before head size =
    let sums = parts_of (weight_sum (before ++ take 280 (head_bytes head))) in
    record {
      long = let e = length-sealed head sums size in omega arith;
      right = ap (λ (t : List ℕ). parts_of (weight_sum (before ++ t))) (sealed-front head sums size) ∙ sym (sealed-sums head sums size (sums-fit (before ++ take 280 (head_bytes head))));
    }

pub number-beyond : (r rest : List ℕ) (at width : ℕ) → number_at (r ++ rest) (length r + at) width ≡ number_at rest at width
unfolding number_at bytes_at
number-beyond r rest at width = ap (λ (t : List ℕ). little_number width (take width t)) (drop-append-add r rest at)

-- the checksum of the record that follows
sum-none : (before r rest : List ℕ) → Opens (before ++ r) rest → sum_fault before (r ++ rest) (length r + 280) (length r + 280) ≡ None
unfolding sum_fault
sum-none before r rest o =
    let found : parts_of (weight_sum (before ++ take (length r + 280) (r ++ rest))) ≡ sums_at rest 280 =
    ap (λ (t : List ℕ). parts_of (weight_sum (before ++ t))) (take-append-add r rest 280) ∙ ap (λ (t : List ℕ). parts_of (weight_sum t)) (sym (append_assoc before r (take 280 rest))) ∙ o.right in
    let b : length r + 280 + 8 ≡ length r + 288 = omega arith in
    let c : length r + 280 + 16 ≡ length r + 296 = omega arith in
    let d : length r + 280 + 24 ≡ length r + 304 = omega arith in
    let stated : sums_at (r ++ rest) (length r + 280) ≡ sums_at rest 280 =
    rw (b, c, d, number-beyond r rest 280 8, number-beyond r rest 288 8, number-beyond r rest 296 8, number-beyond r rest 304 8) refl in
    let right : same_sums (parts_of (weight_sum (before ++ take (length r + 280) (r ++ rest)))) (sums_at (r ++ rest) (length r + 280)) ≡ true =
    ap (λ (s : List ℕ). same_sums s (sums_at (r ++ rest) (length r + 280))) found ∙ ap (same_sums (sums_at rest 280)) stated ∙ same-same (sums_at rest 280) in
    rw right refl

-- ---- rulings

ruling-piece : (before bytes payload rest : List ℕ) (head whole : Head) → length bytes ≡ 312 → decoded (length before) (features_in before) bytes ≡ Ok head
    → closing head ≡ None → length payload ≡ payload_len head → opened head payload ≡ Ok whole → payload_len whole ≡ payload_len head
    → Opens (before ++ (bytes ++ payload)) rest → ruling before ((bytes ++ payload) ++ rest) ≡ more whole
unfolding ruling cover sealed_next
ruling-piece before bytes payload rest head whole size is middle len sound same o =
    let r = bytes ++ payload in
    let text = r ++ rest in
    let long = o.long in
    let all_of : length r ≡ size_of head = omega (arith, length-append bytes payload) in
    let all = length-append r rest in
    let first : take 312 text ≡ bytes = ap (take 312) (append_assoc bytes payload rest) ∙ take_at bytes (payload ++ rest) 312 size in
    let body : take (payload_len head) (drop 312 text) ≡ payload =
    ap (λ (t : List ℕ). take (payload_len head) (drop 312 t)) (append_assoc bytes payload rest)
    ∙ ap (take (payload_len head)) (drop_at bytes (payload ++ rest) 312 size) ∙ take_at payload rest (payload_len head) len in
    let fine : sum_fault before text (size_of head + 280) (size_of head + 280) ≡ None =
    ap (λ (n : ℕ). sum_fault before text (n + 280) (n + 280)) (sym all_of) ∙ sum-none before r rest o in
    rw (
      le-ltb (length text) 312 (omega arith),
      first,
      is,
      middle,
      le-ltb (length text) (size_of head) (omega arith),
      body,
      sound,
      same,
      le-ltb (length text) (size_of head + 312) (omega arith),
      fine,
    ) refl

-- what later records are judged by
pub record Begun (before : List ℕ) (features to : ℕ) : Type 0 where
  pub long : 48 ≤ length before
  pub features_is : features_in before ≡ features
  pub to_is : number_at before 40 8 ≡ to

begun-on : (before m : List ℕ) (features to : ℕ) → Begun before features to → Begun (before ++ m) features to
begun-on before m features to b =
    let long = b.long in
    record {
      long = omega (arith, length-append before m);
      features_is = ap (λ (n : ℕ). n / 4 % 2 ^ 30) (number-grown before m 16 8 (omega arith)) ∙ b.features_is;
      to_is = number-grown before m 40 8 (omega arith) ∙ b.to_is;
    }

later-decoded : (before : List ℕ) (features to : ℕ) (head : Head) (sums : List ℕ) → Begun before features to → IsLater head → Fits features head
    → decoded (length before) (features_in before) (sealed_bytes head sums) ≡ Ok head
later-decoded before features to head sums b later fits =
    let long = b.long in
    ap (λ (f : ℕ). decoded (length before) f (sealed_bytes head sums)) b.features_is ∙ later-back (length before) features head sums (omega arith) later fits

record-decoded : (before : List ℕ) (features to : ℕ) (head : Head) → Begun before features to → IsLater head → Fits features head
    → decoded (length before) (features_in before) (record_after before head) ≡ Ok head
unfolding record_after
record-decoded before features to head b later fits = later-decoded before features to head (parts_of (weight_sum (before ++ take 280 (head_bytes head)))) b later fits

ruling-end : (before : List ℕ) (features to : ℕ) → Begun before features to → to < 2 ^ 64
    → ruling before (record_after before (end_after before to)) ≡ last (end_after before to)
unfolding ruling finish sum_fault record_after
ruling-end before features to b small =
    let stated = parts_of (weight_sum before) in
    let head = end_after before to in
    let sums = parts_of (weight_sum (before ++ take 280 (head_bytes head))) in
    let fits : Fits features head = (sums-fit before, small) in
    let size = length-sealed head sums (length-head features head fits) in
    let is = end-states stated to sums (sums-fit before) in
    let right : same_sums (parts_of (weight_sum (before ++ []))) (sums_at (sealed_bytes head sums) 8) ≡ true =
    ap (λ (t : List ℕ). same_sums (parts_of (weight_sum t)) (sums_at (sealed_bytes head sums) 8)) (append-nil before) ∙ ap (same_sums stated) is ∙ same-same stated in
    let all : take 312 (sealed_bytes head sums) ≡ sealed_bytes head sums = ap (take 312) (sym (append-nil (sealed_bytes head sums))) ∙ take_at (sealed_bytes head sums) [] 312 size in
    rw (
      le-ltb (length (sealed_bytes head sums)) 312 (omega arith),
      all,
      later-decoded before features to head sums b tt fits,
      right,
      b.to_is,
      eq-eqb to to refl,
    ) refl

-- ---- readings

image-opens : (before : List ℕ) (ps : List Piece) (features to : ℕ) → PiecesFit features ps → to < 2 ^ 64 → Opens before (image_after before ps to)
unfolding image_after
image-opens before [] features to fit small = record-opens before (end_after before to) (length-end (parts_of (weight_sum before)) to)
image-opens before (p ∷ ps) features to fit small =
    opens-grown before (piece_after before p) (image_after (before ++ piece_after before p) ps to)
    (opens-grown before (record_after before p.head) p.payload (record-opens before p.head (length-head features p.head fit.0.fits)))

few_pieces : (before : List ℕ) (ps : List Piece) (features to : ℕ) → PiecesFit features ps → length ps ≤ length (image_after before ps to)
unfolding image_after
few_pieces before [] features to fit = omega arith
few_pieces before (p ∷ ps) features to fit =
    let size = length-record before p.head (length-head features p.head fit.0.fits) in
    let later = few_pieces (before ++ piece_after before p) ps features to fit.1 in
    omega (arith, length-append (piece_after before p) (image_after (before ++ piece_after before p) ps to), length-append (record_after before p.head) p.payload)

whole-from : (ps : List Piece) (fuel index : ℕ) (before : List ℕ) (features to : ℕ) → length ps < fuel → Begun before features to → to < 2 ^ 64 → PiecesFit features ps
    → reading_from fuel index before (image_after before ps to) ≡ record { covered = covers_after index before ps to; outcome = complete }
unfolding reading_from after image_after covers_after
whole-from [] zero index before features to room b small fit = absurd (omega arith)
whole-from [] (suc fuel) index before features to room b small fit = rw (ruling-end before features to b small) refl
whole-from (p ∷ ps) zero index before features to room b small fit = absurd (omega arith)
whole-from (p ∷ ps) (suc fuel) index before features to room b small fit =
    let f = fit.0 in
    let bytes = record_after before p.head in
    let r = bytes ++ p.payload in
    let rest = image_after (before ++ r) ps to in
    let size = length-record before p.head (length-head features p.head f.fits) in
    let len = f.len in
    let all : length r ≡ size_of p.head = omega (arith, length-append bytes p.payload) in
    let ruled = ruling-piece before bytes p.payload rest p.head p.head size (record-decoded before features to p.head b f.later f.fits) f.not_end f.len f.sound refl (image-opens (before ++ r) ps features to fit.1 small) in
    let body : take (payload_len p.head) (drop 312 (r ++ rest)) ≡ p.payload =
    ap (λ (t : List ℕ). take (payload_len p.head) (drop 312 t)) (append_assoc bytes p.payload rest)
    ∙ ap (take (payload_len p.head)) (drop_at bytes (p.payload ++ rest) 312 size) ∙ take_at p.payload rest (payload_len p.head) f.len in
    rw (ruled, body, take_at r rest (size_of p.head) all, drop_at r rest (size_of p.head) all)
    (ap (prepend (record { head = p.head; at = length before; index = index; payload = p.payload } ∷ []))
    (whole-from ps fuel (index + 1) (before ++ r) features to (omega arith) (begun-on before r features to b) small fit.1))

-- BEGIN says with its payload the whole header
begin-opened : (header : Header) (len : ℕ) → StatesPayload header → opened (heads.Begin (bare header) len) (begin_payload header) ≡ Ok (heads.Begin header len)
unfolding opened
begin-opened header len states = ap (begun len) (payload-read header states)

-- its 312 bytes say no more of it than the bare header
begin-bare : (header : Header) (len : ℕ) → head_bytes (heads.Begin (bare header) len) ≡ head_bytes (heads.Begin header len)
unfolding head_bytes bare
begin-bare header len = refl

begin-decoded : (features : ℕ) (header : Header) (len : ℕ) → BeginFits (bare header) len → decoded 0 features (head_bytes (heads.Begin header len)) ≡ Ok (heads.Begin (bare header) len)
begin-decoded features header len fits =
    ap (decoded 0 features) (sym (begin-bare header len)) ∙ begin-back features (bare header) len fits

-- what later records are judged by stands in BEGIN
begin-begun : (header : Header) (len : ℕ) (payload : List ℕ) → BeginFits (bare header) len → Begun (head_bytes (heads.Begin header len) ++ payload) header.features header.to
unfolding bare
begin-begun header len payload fits =
    let bytes = head_bytes (heads.Begin (bare header) len) in
    let size = length-head (bare header).features (heads.Begin (bare header) len) (refl, fits) in
    subst (λ (bytes : List ℕ). Begun (bytes ++ payload) header.features header.to) (begin-bare header len) (begun-on bytes payload header.features header.to (record {
      long = omega arith;
      features_is = begin-features (bare header) len fits;
      to_is = begin-to (bare header) len fits;
    }))

pub small-to : (header : Header) (len : ℕ) → BeginFits (bare header) len → header.to < 2 ^ 64
unfolding bare
small-to header len fits = fits.to

-- an image is read as its records
pub whole : (header : Header) (ps : List Piece) → IsStream header ps → reading (image header ps) ≡ record { covered = covers header ps; outcome = complete }
unfolding reading reading_from after image covers front_of
whole header ps s =
    let payload = begin_payload header in
    let len = length payload in
    let fits = s.begins.begins in
    let small : header.to < 2 ^ 64 = small-to header len fits in
    let head = begin_head header in
    let alone = heads.Begin (bare header) len in
    let bytes = head_bytes head in
    let r = bytes ++ payload in
    let rest = image_after r ps header.to in
    let size : length bytes ≡ 312 = ap length (sym (begin-bare header len)) ∙ length-head (bare header).features alone (refl, fits) in
    let all : length r ≡ size_of head = omega (arith, length-append bytes payload) in
    let begun : Begun r header.features header.to = begin-begun header len payload fits in
    let ruled : ruling [] (r ++ rest) ≡ more head =
    ruling-piece [] bytes payload rest alone head size (begin-decoded (features_in []) header len fits) refl refl
    (begin-opened header len s.begins.payload) refl (image-opens r ps header.features header.to s.pieces_fit small) in
    let body : take (payload_len head) (drop 312 (r ++ rest)) ≡ payload =
    ap (λ (t : List ℕ). take (payload_len head) (drop 312 t)) (append_assoc bytes payload rest)
    ∙ ap (take (payload_len head)) (drop_at bytes (payload ++ rest) 312 size) ∙ take_at payload rest (payload_len head) refl in
    let few = few_pieces r ps header.features header.to s.pieces_fit in
    let room : length ps < length (r ++ rest) = omega (arith, length-append r rest) in
    rw (add-one, ruled, body, take_at r rest (size_of head) all, drop_at r rest (size_of head) all)
    (ap (prepend (record { head = head; at = 0; index = 0; payload = payload } ∷ []))
    (whole-from ps (length (r ++ rest)) 1 r header.features header.to room begun small s.pieces_fit))

-- a front of an image
pub front_whole : (header : Header) (ps : List Piece) (text later : List ℕ) → IsStream header ps → text ++ later ≡ image header ps
    → FrontOf (reading text) (record { covered = covers header ps; outcome = complete })
front_whole header ps text later s is =
    subst (λ (r : Reading). FrontOf (reading text) r) (ap reading is ∙ whole header ps s) (front text later)

after_pieces : (index : ℕ) (before : List ℕ) (ps : List Piece) (to : ℕ)
    → (sums : List ℕ) × (map piece_of (covers_after index before ps to) ≡ ps ++ record { head = heads.End sums to; payload = [] } ∷ [])
unfolding covers_after
after_pieces index before [] to = (parts_of (weight_sum before), refl)
after_pieces index before (p ∷ ps) to =
    let rest = after_pieces (index + 1) (before ++ piece_after before p) ps to in
    (rest.0, ap (λ (l : List Piece). p ∷ l) rest.1)

-- the records of an image are its pieces
pub pieces : (header : Header) (ps : List Piece) → (sums : List ℕ) × (map piece_of (covers header ps) ≡ all_pieces header ps sums)
unfolding covers
pieces header ps =
    let rest = after_pieces 1 (front_of header) ps header.to in
    (rest.0, ap (λ (l : List Piece). record { head = begin_head header; payload = begin_payload header } ∷ l) rest.1)

-- the records of a front of an image are the first pieces
pub first_pieces : (header : Header) (ps : List Piece) (text later : List ℕ) → IsStream header ps → text ++ later ≡ image header ps
    → (sums : List ℕ) × (others : List Piece) × (all_pieces header ps sums ≡ map piece_of (reading text).covered ++ others)
    × (((reading text).outcome ≡ waiting) ⊎ (((reading text).outcome ≡ complete) × (others ≡ [])))
first_pieces header ps text later s is =
    let f = front_whole header ps text later s is in
    let all = pieces header ps in (
      all.0,
      map piece_of f.others,
      sym all.1 ∙ ap (map piece_of) f.covered ∙ map-append piece_of (reading text).covered f.others,
      elim f.outcome [
        | inl w ↦ inl w
        | inr c ↦ inr (c.0, ap (map piece_of) c.1)
      ],
    )

-- what is left to write after a piece
pub piece_goes_on : (header : Header) (text : List ℕ) (p : Piece) (later all : List Piece) → text ++ image_after text (p ∷ later) header.to ≡ image header all
    → (text ++ piece_after text p) ++ image_after (text ++ piece_after text p) later header.to ≡ image header all
unfolding image_after
piece_goes_on header text p later all is = append_assoc text (piece_after text p) (image_after (text ++ piece_after text p) later header.to) ∙ is
