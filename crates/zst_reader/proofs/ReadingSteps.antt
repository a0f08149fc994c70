-- Each ruling but "wait" stays where more bytes follow, and gives one step of the reading.
use Rattle.std.proofs.Common.{◌≡◌, ℕ, ◌+◌, ◌≤◌, append_assoc, List, [], ◌∷◌, ◌++◌, length, take, drop, refl, sym, ap, ◌∙◌, arith, add-one}
use Rattle.std.proofs.lemmas.List.{take-append-le, drop-append-le}
use Rattle.zst_record.specs.Heads.{Covered, payload_len, size_of}
use Rattle.zst_record.specs.declared.head.Head.{Head}
use Rattle.zst_model.specs.declared.refusals.stream_fault.StreamFault.{StreamFault}
use Rattle.zst_stream.specs.Reading.{Reading, wait, refuse, last, more, waiting, faulty, complete, ruling, covered_at, covered_last, after, reading_from, prepend, ends}
use Rattle.zst_stream.proofs.Growth.{ruling-grown, more-fits, part-grown}

pub reading-wait : (fuel index : ℕ) (before rest : List ℕ) → ruling before rest ≡ wait → reading_from (fuel + 1) index before rest ≡ ends waiting
unfolding reading_from after
reading-wait fuel index before rest is = rw (add-one, is) refl

pub reading-refuse : (fuel index : ℕ) (before rest m : List ℕ) (fault : StreamFault) → ruling before rest ≡ refuse fault → reading_from (fuel + 1) index before (rest ++ m) ≡ ends (faulty fault)
unfolding reading_from after
reading-refuse fuel index before rest m fault is = rw (add-one, ruling-grown before rest m (λ w. let e : refuse fault ≡ wait = sym is ∙ w in (cc)), is) refl

pub reading-last : (fuel index : ℕ) (before rest m : List ℕ) (head : Head) → ruling before rest ≡ last head
    → reading_from (fuel + 1) index before (rest ++ m) ≡ prepend (covered_last index before head ∷ []) (ends complete)
unfolding reading_from after
reading-last fuel index before rest m head is = rw (add-one, ruling-grown before rest m (λ w. let e : last head ≡ wait = sym is ∙ w in (cc)), is) refl

pub reading-more : (fuel index : ℕ) (before rest m : List ℕ) (head : Head) → ruling before rest ≡ more head
    → reading_from (fuel + 1) index before (rest ++ m)
    ≡ prepend (covered_at index before rest head ∷ []) (reading_from fuel (index + 1) (before ++ take (size_of head) rest) (drop (size_of head) rest ++ m))
unfolding reading_from after
reading-more fuel index before rest m head is =
    let room = more-fits before rest head is in
    let inside : size_of head ≤ length rest = omega arith in
    rw (
      add-one,
      ruling-grown before rest m (λ w. let e : more head ≡ wait = sym is ∙ w in (cc)),
      is,
      take-append-le (size_of head) rest m inside,
      drop-append-le (size_of head) rest m inside,
      part-grown rest m 312 (payload_len head) inside,
    ) refl

pub prepend-prepend : (cs ds : List Covered) (r : Reading) → prepend cs (prepend ds r) ≡ prepend (cs ++ ds) r
prepend-prepend cs ds r = ap (λ (t : List Covered). record { covered = t; outcome = r.outcome }) (sym (append_assoc cs ds r.covered))
