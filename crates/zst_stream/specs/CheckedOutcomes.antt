-- How a reading ends, by the tables of checks alone: the fault that it tells is that of the first check that fails, at the first record that
-- fails one, and of a text of which it tells none each record passes all.
use Rattle.std.specs.Prelude.{ℕ, ◌<◌, ◌≤◌, ◌≡◌, ◌⊎◌, true, false, List, [], ◌++◌, length, take, drop, Some, None}
use Rattle.zst_model.specs.declared.refusals.stream_fault.StreamFault.{StreamFault}
use Rattle.zst_stream.specs.Checks.{checks_at, first_fault, form_at, size_at}
use Rattle.zst_stream.specs.Reading.{Outcome, waiting, faulty, complete, reading}

-- a record at the front of the rest that is whole, passes each of its checks and isn't END
pub record IsPassed (before rest : List ℕ) : Type 0 where
  pub whole : size_at before rest ≤ length rest
  pub passes : first_fault (checks_at before rest) ≡ None
  pub middle : (form_at before rest).last ≡ false

-- the places where a record of a text may begin: its front, and behind each record that is passed
pub data Reaches (text : List ℕ) : List ℕ → List ℕ → Type 0 where
  Front : Reaches text [] text
  Behind : (before rest : List ℕ) → Reaches text before rest → IsPassed before rest
      → Reaches text (before ++ take (size_at before rest) rest) (drop (size_at before rest) rest)

-- such a place, as what stands before it and the rest
pub record Place (text : List ℕ) : Type 0 where
  pub before : List ℕ
  pub rest : List ℕ
  pub reached : Reaches text before rest

-- the record there isn't whole, and what there is of it passes: it is judged once its 312 bytes are there
pub record Wants (text : List ℕ) : Type 0 where
  pub place : Place text
  pub short : (length place.rest < 312) ⊎ ((first_fault (checks_at place.before place.rest) ≡ None) × (length place.rest < size_at place.before place.rest))

-- the record there fails a check, and this is told of the first one
pub record Fails (text : List ℕ) (fault : StreamFault) : Type 0 where
  pub place : Place text
  pub there : 312 ≤ length place.rest
  pub first : first_fault (checks_at place.before place.rest) ≡ Some fault

-- the record there is END, and passes each of its checks
pub record Closes (text : List ℕ) : Type 0 where
  pub place : Place text
  pub whole : 312 ≤ length place.rest
  pub passes : first_fault (checks_at place.before place.rest) ≡ None
  pub last : (form_at place.before place.rest).last ≡ true

abbrev pub EndsBy : List ℕ → Outcome → Type 0
EndsBy text waiting = Wants text
EndsBy text (faulty fault) = Fails text fault
EndsBy text complete = Closes text

-- Each reading ends so.
abbrev pub OutcomesAreChecked : Type 0
OutcomesAreChecked = (text : List ℕ) → EndsBy text (reading text).outcome
