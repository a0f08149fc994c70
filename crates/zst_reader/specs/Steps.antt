-- What a step does.
use Rattle.std.specs.Prelude.{ℕ, ◌+◌, ◌<◌, ◌≡◌, List, [], ◌∷◌, ◌++◌, length, take, drop, Result, Ok, Err}
use Rattle.std.specs.Borrow.{MutBor, Fml}
use Rattle.std.specs.Io.BufRead.{Rests}
use Rattle.zst_record.specs.Formats.{record_len}
use Rattle.zst_record.specs.Heads.{Covered, payload_len, size_of, covered_of}
use Rattle.zst_model.specs.declared.refusals.stream_fault.StreamFault.{StreamFault}
use Rattle.zst_stream.specs.Reading.{waiting, faulty, complete}
use Rattle.zst_reader.specs.Window.{items}
use Rattle.zst_reader.specs.Mark.{mark_after}
use Rattle.zst_reader.specs.Place.{IsWithin}
use Rattle.zst_reader.specs.StandsFor.{StandsFor, HandsOut, held, pushed_of, handed_of, mark_of, room_of}
use Rattle.zst_reader.specs.declared.mark.Mark.{Mark}
use Rattle.zst_reader.specs.declared.place.Place.{Place}
use Rattle.zst_reader.specs.declared.mark.Mark.TheVariants.{Open, Failed, Ended}
use Rattle.zst_reader.specs.declared.reader.Reader.{Reader}
use Rattle.zst_reader.specs.declared.reader.Step.{Step}
use Rattle.zst_reader.specs.declared.reader.Step.TheVariants as steps
use Rattle.zst_reader.specs.declared.reader.ReadResult.{ReadResult}
use Rattle.zst_reader.specs.declared.reader.ReadResult.TheVariants as founds
use Rattle.zst_reader.specs.contracts.reader.Reader.{the_row}

-- what a step did in a text: it handed out one more record, or the reading of the text ends so
abbrev pub StepsTo : Reader → List ℕ → List Covered → Result Step StreamFault → Type 0
StepsTo new text handed (Ok (steps.Record r)) = StandsFor new text (handed ++ covered_of r ∷ [])
StepsTo new text handed (Ok steps.NeedMore) = HandsOut new text handed waiting
StepsTo new text handed (Ok steps.End) = HandsOut new text handed complete
StepsTo new text handed (Err fault) = HandsOut new text handed (faulty fault)

-- no byte came in, so many records were handed out, and the reader stands at this mark
pub record Counts (old new : Reader) (count : ℕ) (stand : Mark) : Type 0 where
  pub pushed : pushed_of new ≡ pushed_of old
  pub handed : handed_of new ≡ handed_of old + count
  pub mark : mark_of new ≡ stand

-- what it lent was given back, and the rest of the window stands at its front
pub record GivesBack (old new : Reader) : Type 0 where
  pub taken : new.taken ≡ 0
  pub items : items new.window ≡ held old
  pub place : new.place ≡ old.place
  pub handed : new.handed ≡ old.handed
  pub pushed : new.pushed ≡ old.pushed
  pub mark : new.mark ≡ old.mark

-- the record at the front is there, and this is the place behind it
pub record StandsBehind (r : Reader) (place : Place) : Type 0 where
  pub settled : r.taken ≡ 0
  pub within : IsWithin (length (items r.window)) (size_of r.head)
  pub at : place.at ≡ r.place.at + size_of r.head

-- the record at the front was taken as handed out, so that this place is next
pub record TakesRecord (old new : Reader) (place : Place) (stand : Mark) : Type 0 where
  pub head : new.head ≡ old.head
  pub taken : new.taken ≡ size_of old.head
  pub window : new.window ≡ old.window
  pub counts : Counts old new 1 stand
  pub next : new.place ≡ place

-- all but its head is the same
pub record IsSameBut (old new : Reader) : Type 0 where
  pub window : new.window ≡ old.window
  pub taken : new.taken ≡ old.taken
  pub place : new.place ≡ old.place
  pub handed : new.handed ≡ old.handed
  pub pushed : new.pushed ≡ old.pushed
  pub mark : new.mark ≡ old.mark

-- what a step did to the reader, whatever the text
abbrev pub Moves : Reader → Reader → Result Step StreamFault → Type 0
Moves old new (Ok (steps.Record r)) = Counts old new 1 (mark_after r.head.now)
Moves old new (Ok steps.NeedMore) = Counts old new 0 Open × (0 < room_of new)
Moves old new (Ok steps.End) = Counts old new 0 Ended
Moves old new (Err fault) = Counts old new 0 (Failed fault)

-- Once the record that it lent is given back, the reader has moved on, and for whatever text and records it stood for it
-- has stepped on in that text.
abbrev pub StepsOn : MutBor Reader → Result Step StreamFault → Fml
StepsOn r result =
    Rests the_row r
    (λ new. Moves r.now new result × ((text : List ℕ) (handed : List Covered) → StandsFor r.now text handed → StepsTo new text handed result))

-- ---- the same, while the record still lies in the reader

abbrev pub covered_in : Reader → ℕ → ℕ → Covered
covered_in new at index = record { head = new.head; at = at; index = index; payload = take (payload_len new.head) (drop record_len (items new.window)) }

abbrev pub FindsIn : Reader → List ℕ → List Covered → Result ReadResult StreamFault → Type 0
FindsIn new text handed (Ok (founds.Record at index)) = StandsFor new text (handed ++ covered_in new at index ∷ [])
FindsIn new text handed (Ok founds.NeedMore) = HandsOut new text handed waiting
FindsIn new text handed (Ok founds.End) = HandsOut new text handed complete
FindsIn new text handed (Err fault) = HandsOut new text handed (faulty fault)

-- the record's bytes are the first of the window
abbrev pub Finds : Reader → Reader → Result ReadResult StreamFault → Type 0
Finds old new (Ok (founds.Record at index)) = Counts old new 1 (mark_after new.head) × (new.taken ≡ size_of new.head)
Finds old new (Ok founds.NeedMore) = Counts old new 0 Open × (0 < room_of new)
Finds old new (Ok founds.End) = Counts old new 0 Ended
Finds old new (Err fault) = Counts old new 0 (Failed fault)
