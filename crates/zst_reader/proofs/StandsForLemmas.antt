-- What a reader stands for after each of its steps.
use Rattle.std.proofs.Common.{subst, ◌≡◌, ℕ, ◌+◌, ◌-◌, ◌≤◌, List, [], ◌∷◌, ◌++◌, length, sum_by, take, drop, refl, sym, ap, ◌∙◌, arith, append_assoc, length-append, length-drop, zero-add}
use Rattle.std.proofs.lemmas.List.{append-nil, take-append-drop}
use Rattle.std.proofs.lemmas.List.Sums.{sum_by-append}
use Rattle.zst_record.specs.Heads.{Covered, payload_len, size_of}
use Rattle.zst_record.specs.declared.head.Head.{Head}
use Rattle.zst_model.specs.declared.refusals.stream_fault.StreamFault.{StreamFault}
use Rattle.zst_stream.specs.Reading.{Reading, Outcome, waiting, faulty, complete, wait, refuse, last, more, covered_at, covered_last, ends, prepend, ruling, reading_from, reading}
use Rattle.zst_reader.specs.Window.{items}
use Rattle.zst_reader.specs.Place.{IsPlaceAfter, IsWithin}
use Rattle.zst_reader.specs.StandsFor.{StandsFor, GoesOn, ReadsOn, HandsOut, held, goes_on}
use Rattle.zst_reader.specs.Steps.{covered_in, Counts}
use Rattle.zst_reader.specs.declared.mark.Mark.{Mark}
use Rattle.zst_reader.specs.declared.mark.Mark.TheVariants.{Open, Failed, Ended}
use Rattle.zst_reader.specs.declared.reader.Reader.{Reader}
use Rattle.zst_reader.proofs.Places.{place-grown}
use Rattle.zst_reader.proofs.ReadingSteps.{reading-refuse, reading-wait, reading-last, reading-more, prepend-prepend}

-- ---- the facts that follow from how the reading goes on

pub text-length : (r : Reader) (text : List ℕ) (handed : List Covered) → GoesOn r text handed → r.pushed ≡ length text
text-length r text handed s =
    let parts : length text ≡ length s.before + length (held r) = ap length s.text_is ∙ length-append s.before (held r) in
    let at = s.place.at in
    let counted = r.counted in
    omega (arith, length-drop r.taken (items r.window))

-- the reading of the text and more, with as much fuel as it has
pub reading-on : (r : Reader) (text further : List ℕ) (handed : List Covered) (s : GoesOn r text handed)
    → (fuel : ℕ) × (reading (text ++ further) ≡ prepend handed (goes_on r.mark (reading_from (fuel + 1) r.handed s.before (held r ++ further))))
unfolding reading
reading-on r text further handed s =
    let long = length-append text further in
    let parts : length text ≡ length s.before + length (held r) = ap length s.text_is ∙ length-append s.before (held r) in
    let fits : r.handed ≤ length (text ++ further) = let numbered = r.numbered in let at = s.place.at in omega arith in
    let fuel = length (text ++ further) - r.handed in
    let turns : length (text ++ further) + 1 ≡ r.handed + (fuel + 1) = omega arith in
    (fuel, ap (λ n. reading_from n 0 [] (text ++ further)) turns ∙ s.read further fuel)

abbrev pub stands_by : (r : Reader) (text : List ℕ) (handed : List Covered) → r.handed ≡ length handed → GoesOn r text handed → StandsFor r text handed
stands_by r text handed number s =
    let long = text-length r text handed s in
    let counted = r.counted in
    let bounded = r.bounded in
    let at = s.at in
    record {
      pushed = long;
      bounded = omega arith;
      number = number;
      sizes = omega arith;
      front = λ further. (_, ap (λ (r : Reading). r.covered) (reading-on r text further handed s).1);
      inner = s;
    }

-- ---- how the reading goes on, over plain values

pub reads-same : (mark mark' : Mark) (count count' : ℕ) (before rest rest' text : List ℕ) (handed : List Covered) → mark ≡ mark' → count ≡ count' → rest ≡ rest'
    → ReadsOn mark' count' before rest' text handed → ReadsOn mark count before rest text handed
reads-same mark mark' count count' before rest rest' text handed em ec er reads = λ further fuel. rw (em, ec, er) (reads further fuel)

reads-first : ReadsOn Open 0 [] [] [] []
reads-first = λ further fuel. rw zero-add refl

reads-grown : (mark : Mark) (count : ℕ) (before rest text piece : List ℕ) (handed : List Covered) → ReadsOn mark count before rest text handed → ReadsOn mark count before (rest ++ piece) (text ++ piece) handed
reads-grown mark count before rest text piece handed reads = λ further fuel.
    rw (append_assoc text piece further, append_assoc rest piece further) (reads (piece ++ further) fuel)

reads-failed : (count : ℕ) (before rest text : List ℕ) (handed : List Covered) (fault : StreamFault) → ruling before rest ≡ refuse fault
    → ReadsOn Open count before rest text handed → ReadsOn (Failed fault) count before rest text handed
reads-failed count before rest text handed fault is reads = λ further fuel.
    reads further fuel ∙ ap (prepend handed) (reading-refuse fuel count before rest further fault is)

reads-next : (mark : Mark) (count : ℕ) (before front rest rest' text : List ℕ) (handed : List Covered) (c : Covered)
    → ((further : List ℕ) (fuel : ℕ) → reading_from (fuel + 1 + 1) count before (rest ++ further) ≡ prepend (c ∷ []) (goes_on mark (reading_from (fuel + 1) (count + 1) (before ++ front) (rest' ++ further))))
    → ReadsOn Open count before rest text handed → ReadsOn mark (count + 1) (before ++ front) rest' text (handed ++ c ∷ [])
reads-next mark count before front rest rest' text handed c step reads = λ further fuel.
    let turns : count + 1 + (fuel + 1) ≡ count + (fuel + 1 + 1) = omega arith in
    ap (λ n. reading_from n 0 [] (text ++ further)) turns ∙ reads further (fuel + 1) ∙ ap (prepend handed) (step further fuel) ∙ prepend-prepend handed _ _

-- ---- opening, pushing, settling

pub opened : (r : Reader) → held r ≡ [] → IsPlaceAfter [] [] r.place → r.place.at ≡ 0 → r.handed ≡ 0 → r.mark ≡ Open → StandsFor r [] []
opened r empty place at handed mark = stands_by r [] [] handed (record {
  before = [];
  text_is = sym empty;
  place = rw empty place;
  at = at;
  read = reads-same r.mark Open r.handed 0 [] (held r) [] [] [] mark handed empty reads-first;
})

-- the reader keeps its place, its count and its mark
pub record SamePlace (old new : Reader) : Type 0 where
  pub place : new.place ≡ old.place
  pub handed : new.handed ≡ old.handed
  pub mark : new.mark ≡ old.mark

pub pushed : (old new : Reader) (piece text : List ℕ) (handed : List Covered) → SamePlace old new → held new ≡ held old ++ piece
    → StandsFor old text handed → StandsFor new (text ++ piece) handed
pushed old new piece text handed same grown stands =
    let s = stands.inner in
    stands_by new (text ++ piece) handed (same.handed ∙ stands.number) (record {
      before = s.before;
      text_is = rw grown (ap (λ (t : List ℕ). t ++ piece) s.text_is ∙ append_assoc s.before (held old) piece);
      place = rw (same.place, grown) (place-grown s.before (held old) piece old.place s.place);
      at = rw same.place s.at;
      read = reads-same new.mark old.mark new.handed old.handed s.before (held new) (held old ++ piece) (text ++ piece) handed same.mark same.handed grown
          (reads-grown old.mark old.handed s.before (held old) text piece handed s.read);
    })

abbrev pub settled : (old new : Reader) (text : List ℕ) (handed : List Covered) → SamePlace old new → held new ≡ held old → StandsFor old text handed → StandsFor new text handed
settled old new text handed same kept stands =
    let s = stands.inner in
    stands_by new text handed (same.handed ∙ stands.number) (record {
      before = s.before;
      text_is = rw kept s.text_is;
      place = rw (same.place, kept) s.place;
      at = rw same.place s.at;
      read = reads-same new.mark old.mark new.handed old.handed s.before (held new) (held old) text handed same.mark same.handed kept s.read;
    })

-- a reader that holds all of its window
pub record AtFront (r : Reader) (text : List ℕ) (handed : List Covered) : Type 0 where
  pub kept : held r ≡ items r.window
  pub stands : StandsFor r text handed
  pub place : IsPlaceAfter stands.inner.before (items r.window) r.place

pub at_front : (old mid : Reader) (text : List ℕ) (handed : List Covered) → mid.taken ≡ 0 → SamePlace old mid → items mid.window ≡ held old → StandsFor old text handed → AtFront mid text handed
at_front old mid text handed none same window stands =
    let kept : held mid ≡ items mid.window = rw none refl in
    let now = settled old mid text handed same (kept ∙ window) stands in
    let P : List ℕ → Type 0 = λ l. IsPlaceAfter now.inner.before l mid.place in
    record { kept = kept; stands = now; place = subst P kept now.inner.place }

-- ---- the end of a reading

-- where the reading of what is held is at its end, that of the text is what was handed out
whole : (r : Reader) (text : List ℕ) (handed : List Covered) (stands : StandsFor r text handed) (o : Outcome)
    → ((fuel : ℕ) → goes_on r.mark (reading_from (fuel + 1) r.handed stands.inner.before (held r ++ [])) ≡ ends o)
    → HandsOut r text handed o
whole r text handed stands o end =
    let on = reading-on r text [] handed stands.inner in
    record {
      stands = stands;
      whole = ap reading (sym (append-nil text)) ∙ on.1 ∙ ap (prepend handed) (end on.0)
          ∙ ap (λ (t : List Covered). record { covered = t; outcome = o }) (append-nil handed);
    }

pub has_failed : (r : Reader) (text : List ℕ) (handed : List Covered) (fault : StreamFault) → r.mark ≡ Failed fault → StandsFor r text handed → HandsOut r text handed (faulty fault)
has_failed r text handed fault mark stands = whole r text handed stands (faulty fault) (λ fuel. rw mark refl)

pub has_ended : (r : Reader) (text : List ℕ) (handed : List Covered) → r.mark ≡ Ended → StandsFor r text handed → HandsOut r text handed complete
has_ended r text handed mark stands = whole r text handed stands complete (λ fuel. rw mark refl)

pub waits : (r : Reader) (text : List ℕ) (handed : List Covered) (stands : StandsFor r text handed) → r.mark ≡ Open → ruling stands.inner.before (held r) ≡ wait → HandsOut r text handed waiting
waits r text handed stands mark is =
    whole r text handed stands waiting (λ fuel. rw (mark, append-nil (held r)) (reading-wait fuel r.handed stands.inner.before (held r) is))

pub refused : (old new : Reader) (text : List ℕ) (handed : List Covered) (fault : StreamFault) (stands : StandsFor old text handed) → old.mark ≡ Open
    → ruling stands.inner.before (held old) ≡ refuse fault → new.place ≡ old.place → new.handed ≡ old.handed → held new ≡ held old → new.mark ≡ Failed fault
    → HandsOut new text handed (faulty fault)
refused old new text handed fault stands live is place count kept mark =
    let s = stands.inner in
    has_failed new text handed fault mark (stands_by new text handed (count ∙ stands.number) (record {
      before = s.before;
      text_is = rw kept s.text_is;
      place = rw (place, kept) s.place;
      at = rw place s.at;
      read = reads-same new.mark (Failed fault) new.handed old.handed s.before (held new) (held old) text handed mark count kept
          (reads-failed old.handed s.before (held old) text handed fault is
          (reads-same Open old.mark old.handed old.handed s.before (held old) (held old) text handed (sym live) refl refl s.read));
    }))

-- ---- a record that is handed out

-- the reader has gone on by a record of this size
record GoesBehind (old new : Reader) (before : List ℕ) (size : ℕ) : Type 0 where
  pub within : IsWithin (length (held old)) size
  pub rest : held new ≡ drop size (held old)
  pub at : new.place.at ≡ old.place.at + size
  pub handed : new.handed ≡ old.handed + 1
  pub place : IsPlaceAfter (before ++ take size (held old)) (drop size (held old)) new.place

moved : (old new : Reader) (mark : Mark) (text : List ℕ) (handed : List Covered) (c : Covered) (stands : StandsFor old text handed) → old.mark ≡ Open → new.mark ≡ mark
    → GoesBehind old new stands.inner.before (size_of c.head)
    → ((further : List ℕ) (fuel : ℕ) → reading_from (fuel + 1 + 1) old.handed stands.inner.before (held old ++ further)
    ≡ prepend (c ∷ []) (goes_on mark (reading_from (fuel + 1) (old.handed + 1) (stands.inner.before ++ take (size_of c.head) (held old)) (drop (size_of c.head) (held old) ++ further))))
    → StandsFor new text (handed ++ c ∷ [])
moved old new mark text handed c stands live is m step =
    let s = stands.inner in
    let size = size_of c.head in
    let front = take size (held old) in
    let rest = drop size (held old) in
    let count = m.handed in
    let number = stands.number in
    let moved = m.at in
    let at = s.at in
    let sizes : sum_by (λ (c : Covered). size_of c.head) (handed ++ c ∷ []) ≡ sum_by (λ (c : Covered). size_of c.head) handed + sum_by (λ (c : Covered). size_of c.head) (c ∷ []) =
    sum_by-append (λ (c : Covered). size_of c.head) handed (c ∷ []) in
    stands_by new text (handed ++ c ∷ []) (omega (arith, length-append handed (c ∷ []))) (record {
      before = s.before ++ front;
      text_is = s.text_is ∙ ap (λ (t : List ℕ). s.before ++ t) (sym (take-append-drop size (held old)))
          ∙ rw m.rest (sym (append_assoc s.before front rest));
      place = rw m.rest m.place;
      at = omega arith;
      read = reads-same new.mark mark new.handed (old.handed + 1) (s.before ++ front) (held new) rest text (handed ++ c ∷ []) is count m.rest
          (reads-next mark old.handed s.before front (held old) rest text handed c step
          (reads-same Open old.mark old.handed old.handed s.before (held old) (held old) text handed (sym live) refl refl s.read));
    })

hands_more : (old new : Reader) (text : List ℕ) (handed : List Covered) (head : Head) (stands : StandsFor old text handed) → old.mark ≡ Open
    → ruling stands.inner.before (held old) ≡ more head → GoesBehind old new stands.inner.before (size_of head) → new.mark ≡ Open
    → StandsFor new text (handed ++ covered_at old.handed stands.inner.before (held old) head ∷ [])
hands_more old new text handed head stands live is m mark =
    moved old new Open text handed (covered_at old.handed stands.inner.before (held old) head) stands live mark m
    (λ further fuel. reading-more (fuel + 1) old.handed stands.inner.before (held old) further head is)

hands_last : (old new : Reader) (text : List ℕ) (handed : List Covered) (head : Head) (stands : StandsFor old text handed) → old.mark ≡ Open
    → ruling stands.inner.before (held old) ≡ last head → GoesBehind old new stands.inner.before (size_of head) → new.mark ≡ Ended
    → StandsFor new text (handed ++ covered_last old.handed stands.inner.before head ∷ [])
hands_last old new text handed head stands live is m mark =
    moved old new Ended text handed (covered_last old.handed stands.inner.before head) stands live mark m
    (λ further fuel. reading-last (fuel + 1) old.handed stands.inner.before (held old) further head is)

-- ---- the same by what the code does: the window begins with the next record, and a record of it is taken

-- what was done to a reader whose window begins with the next record
pub record Advances (old new : Reader) (before : List ℕ) (size : ℕ) (mark : Mark) : Type 0 where
  pub settled : held old ≡ items old.window
  pub within : IsWithin (length (items old.window)) size
  pub taken : new.taken ≡ size
  pub window : new.window ≡ old.window
  pub counts : Counts old new 1 mark
  pub at : new.place.at ≡ old.place.at + size
  pub place : IsPlaceAfter (before ++ take size (items old.window)) (drop size (items old.window)) new.place

goes_behind : (old new : Reader) (before : List ℕ) (size : ℕ) (mark : Mark) → Advances old new before size mark → GoesBehind old new before size
goes_behind old new before size mark a = record {
  within = let P : List ℕ → Type 0 = λ l. IsWithin (length l) size in subst P (sym a.settled) a.within;
  rest = ap (λ n. drop n (items new.window)) a.taken ∙ ap (λ w. drop size (items w)) a.window ∙ ap (drop size) (sym a.settled);
  at = a.at;
  handed = a.counts.handed;
  place = let P : List ℕ → Type 0 = λ l. IsPlaceAfter (before ++ take size l) (drop size l) new.place in subst P (sym a.settled) a.place;
}

-- a record whose payload stands behind its 312 bytes
abbrev covered_here : Head → ℕ → ℕ → List ℕ → Covered
covered_here head at index rest = record { head = head; at = at; index = index; payload = take (payload_len head) (drop 312 rest) }

abbrev covered_bare : Head → ℕ → ℕ → Covered
covered_bare head at index = record { head = head; at = at; index = index; payload = [] }

covered-same : (head head' : Head) (at at' index : ℕ) (rest rest' : List ℕ) → head ≡ head' → at ≡ at' → rest ≡ rest' → covered_here head at index rest ≡ covered_here head' at' index rest'
covered-same head head' at at' index rest rest' same_head same_at same = rw (same_head, same_at, same) refl

covered-bare : (head head' : Head) (at at' index : ℕ) (rest : List ℕ) → head ≡ head' → at ≡ at' → payload_len head' ≡ 0 → covered_here head at index rest ≡ covered_bare head' at' index
covered-bare head head' at at' index rest same_head same_at none = rw (same_head, same_at, none) refl

pub finds_more : (old new : Reader) (text : List ℕ) (handed : List Covered) (head : Head) (stands : StandsFor old text handed) → old.mark ≡ Open
    → ruling stands.inner.before (items old.window) ≡ more head → new.head ≡ head → Advances old new stands.inner.before (size_of head) Open
    → StandsFor new text (handed ++ covered_in new old.place.at old.handed ∷ [])
finds_more old new text handed head stands live is kept a =
    let P : Covered → Type 0 = λ c. StandsFor new text (handed ++ c ∷ []) in
    let before = stands.inner.before in
    subst P (sym (covered-same new.head head old.place.at (length before) old.handed (items new.window) (held old) kept stands.inner.place.at (ap items a.window ∙ sym a.settled)))
    (hands_more old new text handed head stands live (ap (ruling before) a.settled ∙ is) (goes_behind old new before (size_of head) Open a) a.counts.mark)

pub finds_last : (old new : Reader) (text : List ℕ) (handed : List Covered) (head : Head) (stands : StandsFor old text handed) → old.mark ≡ Open
    → ruling stands.inner.before (items old.window) ≡ last head → new.head ≡ head → payload_len head ≡ 0 → Advances old new stands.inner.before (size_of head) Ended
    → StandsFor new text (handed ++ covered_in new old.place.at old.handed ∷ [])
finds_last old new text handed head stands live is kept bare a =
    let P : Covered → Type 0 = λ c. StandsFor new text (handed ++ c ∷ []) in
    let before = stands.inner.before in
    subst P (sym (covered-bare new.head head old.place.at (length before) old.handed (items new.window) kept stands.inner.place.at bare))
    (hands_last old new text handed head stands live (ap (ruling before) a.settled ∙ is) (goes_behind old new before (size_of head) Ended a) a.counts.mark)
