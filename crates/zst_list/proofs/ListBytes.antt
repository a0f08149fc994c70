-- The bytes of a list, run by run.
use Rattle.std.proofs.Common.{◌≡◌, ℕ, ◌+◌, ◌<◌, true, List, [], ◌∷◌, ◌++◌, length, get_or, take, sym, ap, ◌∙◌, arith, append_assoc, length-take}
use Rattle.std.specs.List.{All}
use Rattle.std.proofs.lemmas.Bool.{and_parts}
use Rattle.std.proofs.lemmas.Bool.Decides.{nat_tests}
use Rattle.std.proofs.lemmas.List.{append-nil, take_more}
use Rattle.std.proofs.lemmas.List.Elements.{All-nil, All-cons}
use Rattle.zst_model.specs.declared.states.cell.Run.{Run}
use Rattle.zst_model.specs.fields.Lists.{Runs, IsRunList, is_run}
use Rattle.zst_model.specs.states.State.{index_bound, number_bound}
use Rattle.zst_list.specs.RunReads.{FitsWords}
use Rattle.zst_list.specs.Spelling.{list_bytes, placed_bytes, runs_bytes}

-- one more run stands behind those before it
pub runs_bytes-more : (place : ℕ) (xs : Runs) (x : Run) → runs_bytes place (xs ++ x ∷ []) ≡ runs_bytes place xs ++ placed_bytes (place + length xs) x
unfolding runs_bytes
runs_bytes-more place [] x = append-nil (placed_bytes place x) ∙ ap (λ (n : ℕ). placed_bytes n x) (omega arith)
runs_bytes-more place (y ∷ xs) x =
    ap (λ (l : List ℕ). placed_bytes place y ++ l) (runs_bytes-more (place + 1) xs x)
    ∙ sym (append_assoc (placed_bytes place y) (runs_bytes (place + 1) xs) (placed_bytes (place + 1 + length xs) x))
    ∙ ap (λ (n : ℕ). (placed_bytes place y ++ runs_bytes (place + 1) xs) ++ placed_bytes n x) (omega arith)

-- the runs up to a place, and the run there
pub spelled-more : (runs : Runs) (place : ℕ) (run : Run) (before after : List ℕ) → place < length runs → run ≡ get_or runs place run → before ≡ list_bytes (take place runs)
    → after ≡ before ++ placed_bytes place run → after ≡ list_bytes (take (place + 1) runs)
spelled-more runs place run before after inside is spelled more =
    more ∙ ap (λ (l : List ℕ). l ++ placed_bytes place run) spelled
    ∙ ap (λ (n : ℕ). list_bytes (take place runs) ++ placed_bytes n run) (omega (arith, inside, length-take place runs))
    ∙ sym (runs_bytes-more 0 (take place runs) run)
    ∙ ap (λ (x : Run). list_bytes (take place runs ++ x ∷ [])) is
    ∙ ap list_bytes (sym (take_more runs place run inside))

-- the numbers of a lawful run fit words
fits : (run : Run) → is_run run ≡ true → FitsWords run
unfolding index_bound number_bound
fits run is = record { object = grind (arith, nat_tests, is); first = grind (arith, nat_tests, is); count = grind (arith, nat_tests, is) }

pub each_fits : (runs : Runs) → IsRunList runs → All FitsWords runs
each_fits [] lawful = All-nil FitsWords
each_fits (run ∷ []) lawful = All-cons FitsWords run [] (fits run lawful) (All-nil FitsWords)
each_fits (run ∷ next ∷ rest) lawful =
    let parts = and_parts _ _ lawful in
    All-cons FitsWords run (next ∷ rest) (fits run parts.0) (each_fits (next ∷ rest) (and_parts _ _ parts.1).1)
