-- The loop that reads the runs of a list: it begins, goes on, stops and ends.
use Rattle.std.proofs.Common.{◌≡◌, ℕ, ◌+◌, ◌<◌, ◌≤◌, List, [], ◌∷◌, ◌++◌, Some, None, length, get_or, take, drop, sym, ap, ◌∙◌, arith, add-one, drop-cons, length-append}
use Rattle.std.specs.List.{All}
use Rattle.std.proofs.lemmas.List.{take_all, take_more}
use Rattle.zst_model.specs.declared.states.cell.Run.{Run}
use Rattle.zst_model.specs.fields.Lists.{Runs}
use Rattle.zst_list.specs.RunReads.{FitsWords, ReadsRun}
use Rattle.zst_list.specs.Spelling.{list_bytes, placed_bytes, runs_bytes}

-- before this place: so many have been read, and where the bytes are a list these are its first, and the rest stands as it was spelled
pub record Reading (count : ℕ) (bytes : List ℕ) (place : ℕ) (read : Runs) (cursor : List ℕ) : Type 0 where
  pub long : length read ≡ place
  pub stands : (runs : Runs) → All FitsWords runs → length runs ≡ count → bytes ≡ list_bytes runs → (read ≡ take place runs) × (cursor ≡ runs_bytes place (drop place runs))

pub reading_first : (count : ℕ) (bytes : List ℕ) (read : Runs) (cursor : List ℕ) → read ≡ [] → cursor ≡ bytes → Reading count bytes 0 read cursor
reading_first count bytes read cursor none all = record { long = ap length none; stands = λ runs fit long spelled. (none, all ∙ spelled) }

-- the run at this place, with those behind it
behind : (runs : Runs) (place : ℕ) (d : Run) → place < length runs → drop place runs ≡ get_or runs place d ∷ drop (place + 1) runs
behind runs place d inside = rw add-one (drop-cons runs place d inside)

at_place : (runs : Runs) (place : ℕ) (d : Run) → place < length runs → runs_bytes place (drop place runs) ≡ placed_bytes place (get_or runs place d) ++ runs_bytes (place + 1) (drop (place + 1) runs)
unfolding runs_bytes
at_place runs place d inside = ap (runs_bytes place) (behind runs place d inside)

-- where a run is given, it is the one at this place
pub reading_more : (count : ℕ) (bytes : List ℕ) (place : ℕ) (read : Runs) (cursor after : List ℕ) (run : Run) → Reading count bytes place read cursor → place < count → ReadsRun place cursor after (Some run)
    → Reading count bytes (place + 1) (read ++ run ∷ []) after
reading_more count bytes place read cursor after run reading below back = record {
  long = omega (arith, reading.long, length-append read (run ∷ []));
  stands = λ runs fit long spelled.
      let stood = reading.stands runs fit long spelled in
      let inside : place < length runs = omega (arith, below, long) in
      let given = back (get_or runs place run) (runs_bytes (place + 1) (drop (place + 1) runs)) (fit place run inside) (stood.1 ∙ at_place runs place run inside) in
      let same : run ≡ get_or runs place run = cc given.0 in
      (ap (λ (l : Runs). l ++ run ∷ []) stood.0 ∙ ap (λ (x : Run). take place runs ++ x ∷ []) same ∙ sym (take_more runs place run inside), given.1);
}

-- where none is, the bytes are no list
pub reading_stops : (count : ℕ) (bytes : List ℕ) (place : ℕ) (read : Runs) (cursor after : List ℕ) → Reading count bytes place read cursor → place < count → ReadsRun place cursor after None
    → (runs : Runs) → All FitsWords runs → length runs ≡ count → bytes ≡ list_bytes runs → (d : Run) → ⊥
reading_stops count bytes place read cursor after reading below back runs fit long spelled d =
    let stood = reading.stands runs fit long spelled in
    let inside : place < length runs = omega (arith, below, long) in
    let given = back (get_or runs place d) (runs_bytes (place + 1) (drop (place + 1) runs)) (fit place d inside) (stood.1 ∙ at_place runs place d inside) in
    cc given.0

pub reading_last : (count : ℕ) (bytes : List ℕ) (place : ℕ) (read : Runs) (cursor : List ℕ) → Reading count bytes place read cursor → count ≤ place
    → (runs : Runs) → All FitsWords runs → length runs ≡ count → bytes ≡ list_bytes runs → read ≡ runs
reading_last count bytes place read cursor reading all runs fit long spelled = (reading.stands runs fit long spelled).0 ∙ take_all place runs (omega (arith, all, long))
