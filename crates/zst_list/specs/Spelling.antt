-- The bytes of a list of redacted blocks, as they stand in leaves of 8,192 bytes.
use Rattle.std.specs.Prelude.{◌≡◌, ◌==◌, ◌%◌, ◌+◌, ℕ, List, [], ◌∷◌, ◌++◌, length, if◌then◌else◌}
use Rattle.zst_bytes.specs.Fields.{zeros}
use Rattle.zst_bytes.specs.Words.{word}
use Rattle.zst_model.specs.declared.states.cell.Run.{Run}
use Rattle.zst_model.specs.fields.Lists.{Runs, IsRunList}

-- a run: its object, its first index, and how many blocks it has
unfoldable pub run_bytes : Run → List ℕ
run_bytes run = word run.object ++ (word run.first ++ word run.count)

-- a leaf has 341 runs: the last of them has 8 zeros behind it
abbrev pub gap_bytes : ℕ → List ℕ
gap_bytes place = if place % 341 == 340 then zeros 8 else []

-- a run at this place of a list, and what stands behind it
abbrev pub placed_bytes : ℕ → Run → List ℕ
placed_bytes place run = run_bytes run ++ gap_bytes place

-- the runs of a list from this place on
unfoldable pub runs_bytes : ℕ → Runs → List ℕ
runs_bytes place [] = []
runs_bytes place (run ∷ rest) = placed_bytes place run ++ runs_bytes (place + 1) rest

-- a list: its runs from the first place on
abbrev pub list_bytes : Runs → List ℕ
list_bytes runs = runs_bytes 0 runs

-- these bytes are a list of so many runs
pub record IsList (count : ℕ) (runs : Runs) (bytes : List ℕ) : Type 0 where
  pub lawful : IsRunList runs
  pub count_is : length runs ≡ count
  pub spelled : bytes ≡ list_bytes runs
