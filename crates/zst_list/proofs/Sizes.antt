-- How many bytes a list has.
use Rattle.std.proofs.Common.{◌≡◌, ℕ, ◌+◌, ◌*◌, ◌/◌, ◌%◌, [], ◌∷◌, ◌++◌, length, inl, inr, arith, length-append}
use Rattle.std.proofs.lemmas.Bool.Decides.{eqb_tells}
use Rattle.zst_bytes.specs.Words.{word}
use Rattle.zst_bytes.specs.Fields.{zeros}
use Rattle.zst_bytes.proofs.BytesLaws.{length-number_bytes}
use Rattle.zst_model.specs.declared.states.cell.Run.{Run}
use Rattle.zst_model.specs.fields.Lists.{Runs}
use Rattle.zst_list.specs.Spelling.{gap_bytes, list_bytes, placed_bytes, run_bytes, runs_bytes}
use Rattle.zst_list.specs.StoredLists.{list_length}

run_length : (run : Run) → length (run_bytes run) ≡ 24
unfolding run_bytes
run_length run =
    omega (
      arith,
      length-append (word run.object) (word run.first ++ word run.count),
      length-append (word run.first) (word run.count),
      length-number_bytes 8 run.object,
      length-number_bytes 8 run.first,
      length-number_bytes 8 run.count,
    )

gap_length : (place : ℕ) → length (gap_bytes place) + 8 * (place / 341) ≡ 8 * ((place + 1) / 341)
unfolding zeros
gap_length place = elim (eqb_tells (place % 341) 340) [
  | inl last ↦ rw last.0 (omega (arith, last.1))
  | inr not ↦ rw not.0 (omega (arith, not.1))
]

runs_length : (place : ℕ) (runs : Runs) → length (runs_bytes place runs) + 8 * (place / 341) ≡ 24 * length runs + 8 * ((place + length runs) / 341)
unfolding runs_bytes
runs_length place [] = omega arith
runs_length place (run ∷ rest) =
    omega (
      arith,
      length-append (placed_bytes place run) (runs_bytes (place + 1) rest),
      length-append (run_bytes run) (gap_bytes place),
      run_length run,
      gap_length place,
      runs_length (place + 1) rest,
    )

-- of so many runs
pub length-list : (runs : Runs) → length (list_bytes runs) ≡ list_length (length runs)
length-list runs = omega (arith, runs_length 0 runs)
