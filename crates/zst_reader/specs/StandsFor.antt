-- What a reader stands for: a text, of which it has handed out some records.
use Rattle.std.specs.Prelude.{ℕ, ◌+◌, ◌-◌, ◌^◌, ◌≤◌, ◌≡◌, List, [], ◌++◌, length, sum_by, drop}
use Rattle.zst_record.specs.Heads.{Covered, size_of}
use Rattle.zst_stream.specs.Reading.{Reading, Outcome, faulty, complete, ends, prepend, reading_from, reading}
use Rattle.zst_reader.specs.Window.{items}
use Rattle.zst_reader.specs.Place.{IsPlaceAfter}
use Rattle.zst_reader.specs.declared.TheConstants.{CAPACITY}
use Rattle.zst_reader.specs.declared.place.Place.{Place}
use Rattle.zst_reader.specs.declared.mark.Mark.{Mark}
use Rattle.zst_reader.specs.declared.mark.Mark.TheVariants.{Open, Failed, Ended}
use Rattle.zst_reader.specs.declared.reader.Reader.{Reader}

-- how many bytes it has taken
abbrev pub pushed_of : Reader → ℕ
pushed_of r = r.pushed

-- how many records it has handed out
abbrev pub handed_of : Reader → ℕ
handed_of r = r.handed

-- how far it is
abbrev pub mark_of : Reader → Mark
mark_of r = r.mark

-- the place of the next record
abbrev pub place_of : Reader → Place
place_of r = r.place

-- the bytes that it holds, from the next record on
abbrev pub held : Reader → List ℕ
held r = drop r.taken (items r.window)

-- how many more bytes it can take
abbrev pub room_of : Reader → ℕ
room_of r = CAPACITY - length (held r)

-- how the reading goes on at this mark, where it would go on so from the next record
abbrev pub goes_on : Mark → Reading → Reading
goes_on Open next = next
goes_on (Failed fault) next = ends (faulty fault)
goes_on Ended next = ends complete

-- However the text goes on, its reading is what was handed out, and then what is read from here: from the rest, before which
-- stand these bytes and so many records.
abbrev pub ReadsOn : Mark → ℕ → (before rest text : List ℕ) → List Covered → Type 0
ReadsOn mark count before rest text handed =
    (further : List ℕ) (fuel : ℕ) → reading_from (count + (fuel + 1)) 0 [] (text ++ further)
    ≡ prepend handed (goes_on mark (reading_from (fuel + 1) count before (rest ++ further)))

-- what stands before the next record, and how the reading goes on from it
pub record GoesOn (r : Reader) (text : List ℕ) (handed : List Covered) : Type 0 where
  pub before : List ℕ
  pub text_is : text ≡ before ++ held r
  pub place : IsPlaceAfter before (held r) (place_of r)
  pub at : (place_of r).at ≡ sum_by (λ c. size_of c.head) handed
  pub read : ReadsOn (mark_of r) (handed_of r) before (held r) text handed

-- The reader was pushed this text, and has handed out these records of it.
pub record StandsFor (r : Reader) (text : List ℕ) (handed : List Covered) : Type 0 where
  pub pushed : pushed_of r ≡ length text
  pub bounded : length text ≤ 2 ^ 62
  pub number : handed_of r ≡ length handed
  pub sizes : sum_by (λ c. size_of c.head) handed ≤ length text
  -- however the text goes on, the records that it covers begin with those that were handed out
  pub front : (further : List ℕ) → (rest : List Covered) × ((reading (text ++ further)).covered ≡ handed ++ rest)
  pub inner : GoesOn r text handed

-- a reader of the empty text, of which it has handed out nothing
pub record IsUnread (r : Reader) : Type 0 where
  pub stands : StandsFor r [] []
  pub mark : mark_of r ≡ Open

-- all that the text covers was handed out, and its reading ends so
pub record HandsOut (r : Reader) (text : List ℕ) (handed : List Covered) (outcome : Outcome) : Type 0 where
  pub stands : StandsFor r text handed
  pub whole : reading text ≡ record { covered = handed; outcome = outcome }
