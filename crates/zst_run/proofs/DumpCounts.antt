-- What was counted of a stream is small.
use Rattle.std.proofs.Common.{◌≡◌, ℕ, ◌+◌, ◌*◌, ◌^◌, ◌<◌, ◌==◌, List, [], ◌∷◌, ◌++◌, length, sum_by, cond, refl, arith, length-append}
use Rattle.std.proofs.lemmas.List.Sums.{sum_by-append}
use Rattle.zst_record.specs.Heads.{Covered, payload_len, size_of}
use Rattle.zst_record.specs.declared.head.Head.{Head}
use Rattle.zst_record.specs.declared.head.Head.TheVariants as heads
use Rattle.zst_reader.specs.StandsFor.{StandsFor}
use Rattle.zst_reader.specs.declared.reader.Reader.{Reader}
use Rattle.zst_dump.specs.Summary.{counts_of, count_of, records_of, HasRoom, type_of}
use Rattle.zst_dump.specs.declared.counts.Counts.{Counts}

-- each record has 312 bytes besides its payload
sizes-are : (cs : List Covered) → sum_by (λ c. size_of c.head) cs ≡ 312 * length cs + sum_by (λ c. payload_len c.head) cs
sizes-are [] = omega arith
sizes-are (c ∷ cs) =
    let first = sum_by-append (λ (c : Covered). payload_len c.head) (c ∷ []) cs in
    let second = sum_by-append (λ (c : Covered). size_of c.head) (c ∷ []) cs in
    omega (arith, sizes-are cs)

total : (cs : List Covered) → records_of (counts_of cs) ≡ count_of 0 cs + count_of 1 cs + count_of 2 cs + count_of 3 cs + count_of 4 cs + count_of 5 cs + count_of 7 cs + count_of 10 cs
total cs = refl

count-more : (type : ℕ) (c : Covered) (cs : List Covered) → count_of type (c ∷ cs) ≡ cond (type_of c.head == type) 1 0 + count_of type cs
count-more type c cs = let e = sum_by-append (λ (c : Covered). cond (type_of c.head == type) 1 0) (c ∷ []) cs in omega arith

one-type : (head : Head)
    → cond (type_of head == 0) 1 0 + cond (type_of head == 1) 1 0 + cond (type_of head == 2) 1 0 + cond (type_of head == 3) 1 0
    + cond (type_of head == 4) 1 0 + cond (type_of head == 5) 1 0 + cond (type_of head == 7) 1 0 + cond (type_of head == 10) 1 0 ≡ 1
one-type (heads.Begin header len) = refl
one-type (heads.Object object kind bonus_kind block_size bonus_len max_block to) = refl
one-type (heads.FreeObjects first count to) = refl
one-type (heads.Write object kind offset size to) = refl
one-type (heads.Free object offset size to) = refl
one-type (heads.End sums to) = refl
one-type (heads.Spill object size to) = refl
one-type (heads.Redact object offset size to) = refl

one-more : (c : Covered) (cs : List Covered) → records_of (counts_of (c ∷ cs)) ≡ records_of (counts_of cs) + 1
one-more c cs =
    rw (total (c ∷ cs), total cs, count-more 0 c cs, count-more 1 c cs, count-more 2 c cs, count-more 3 c cs, count-more 4 c cs, count-more 5 c cs, count-more 7 c cs, count-more 10 c cs)
    (let e = one-type c.head in omega arith)

-- each record is of one type
records-are : (cs : List Covered) → records_of (counts_of cs) ≡ length cs
records-are [] = omega arith
records-are (c ∷ cs) = omega (arith, one-more c cs, records-are cs)

pub has_room : (n : Counts) (r : Reader) (text : List ℕ) (handed : List Covered) (c : Covered)
    → n ≡ counts_of handed → StandsFor r text (handed ++ c ∷ []) → HasRoom n c.head
has_room n r text handed c counted s =
    let e = sizes-are (handed ++ c ∷ []) in
    let b = s.bounded in
    let z = s.sizes in
    let p = sum_by-append (λ (c : Covered). payload_len c.head) handed (c ∷ []) in
    let q = sum_by-append (λ (c : Covered). size_of c.head) handed (c ∷ []) in
    let l = length-append handed (c ∷ []) in
    let k = records-are handed in
    rw counted (omega arith, omega arith, omega arith)

pub few_records : (n : Counts) (r : Reader) (text : List ℕ) (handed : List Covered) → n ≡ counts_of handed → StandsFor r text handed → records_of n < 2 ^ 64
few_records n r text handed counted s =
    let e = sizes-are handed in
    let b = s.bounded in
    let z = s.sizes in
    let k = records-are handed in
    rw counted (omega arith)
