-- What a reader of a list's runs gives.
use Rattle.std.specs.Prelude.{◌≡◌, ◌<◌, ◌^◌, ℕ, List, ◌++◌, length, Bool, true, Option, Some, Result, IfOk, All}
use Rattle.zst_model.specs.declared.states.cell.Run.{Run}
use Rattle.zst_model.specs.fields.Lists.{Runs}
use Rattle.zst_list.specs.Spelling.{list_bytes, placed_bytes}

-- the numbers of a run fit words
pub record FitsWords (run : Run) : Type 0 where
  pub object : run.object < 2 ^ 64
  pub first : run.first < 2 ^ 64
  pub count : run.count < 2 ^ 64

-- where such a run stands in front, it is given, and what follows it is left
abbrev pub ReadsRun : ℕ → List ℕ → List ℕ → Option Run → Type 0
ReadsRun place old new result = (run : Run) (rest : List ℕ) → FitsWords run → old ≡ placed_bytes place run ++ rest → (result ≡ Some run) × (new ≡ rest)

-- where the bytes are of so many such runs, and there is memory, these are read
abbrev pub ReadsRuns : {E : Type 0} → ℕ → List ℕ → Runs → Result Bool E → Type 0
ReadsRuns count bytes read result = (runs : Runs) → All FitsWords runs → length runs ≡ count → bytes ≡ list_bytes runs → IfOk result (λ done. (done ≡ true) × (read ≡ runs))
