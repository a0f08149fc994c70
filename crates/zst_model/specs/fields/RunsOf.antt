-- The runs of a set of pairs: each as long as it can be.
use Rattle.std.specs.Prelude.{◌≡◌, ℕ, suc, pred, ◌+◌, ◌<◌, Bool, true, false, [], ◌∷◌, length, flat_map, Option, Some, None, if◌then◌else◌, nat_lt, ◌==◌, ◌&&◌, ◌||◌}
use Rattle.zst_model.specs.declared.states.cell.Run.{Run}
use Rattle.zst_model.specs.states.State.{is_number, number_bound, index_bound}
use Rattle.zst_model.specs.fields.Lists.{Runs, has_pair, IsRunList}
use Rattle.zst_model.specs.sends.Inclusion.{Pairs}
use Rattle.zst_model.specs.sends.Items.{rising}

-- two runs as one, where they touch
abbrev pub join_runs : Run → Run → Option Run
join_runs run next =
    if run.object == next.object && run.first + run.count == next.first
    then Some (record { object = run.object; first = run.first; count = run.count + next.count })
    else None

-- the run in front of the others, or what it and the first of them are together
abbrev pub before_run : Run → Option Run → Run → Runs → Runs
before_run run (Some both) next rest = both ∷ rest
before_run run None next rest = run ∷ next ∷ rest

-- the run in front of the others, joined with the first where they touch
abbrev pub run_before : Run → Runs → Runs
run_before run [] = run ∷ []
run_before run (next ∷ rest) = before_run run (join_runs run next) next rest

-- the runs with all neighbours joined that touch
unfoldable pub joined_runs : Runs → Runs
joined_runs [] = []
joined_runs (run ∷ rest) = run_before run (joined_runs rest)

-- a pair as a run, where the set has it
abbrev pub run_at : Pairs → ℕ → ℕ → Runs
run_at pairs k i = if pairs k i then record { object = k; first = i; count = 1 } ∷ [] else []

-- the pairs of a number as runs of one
abbrev pub runs_at : Pairs → ℕ → Runs
runs_at pairs k = flat_map (run_at pairs k) (rising 0 index_bound)

-- the runs of a set of pairs, by rising number and index
unfoldable pub runs_of : Pairs → Runs
runs_of pairs = joined_runs (flat_map (runs_at pairs) (rising 1 (pred number_bound)))

-- these runs are a lawful list, which has exactly the pairs of the set
pub record IsListOf (pairs : Pairs) (runs : Runs) : Type 0 where
  pub lawful : IsRunList runs
  pub same : (k i : ℕ) → is_number k ≡ true → i < index_bound → has_pair runs k i ≡ pairs k i

-- the runs of a set of pairs are such a list
abbrev pub RunsArePairs : Type 0
RunsArePairs = (pairs : Pairs) → IsListOf pairs (runs_of pairs)

-- a set of pairs has no other
abbrev pub OneList : Type 0
OneList = (pairs : Pairs) (runs other : Runs) → IsListOf pairs runs → IsListOf pairs other → runs ≡ other

-- a pair stands before another, by object, then by index
abbrev pub is_earlier : ℕ → ℕ → ℕ → ℕ → Bool
is_earlier k i l j = nat_lt k l || (k == l && nat_lt i j)

-- these runs are a lawful list of the pairs that stand before this one
pub record IsListBefore (pairs : Pairs) (l j : ℕ) (runs : Runs) : Type 0 where
  pub list : IsListOf (λ k i. pairs k i && is_earlier k i l j) runs

-- where it touches none of them, a pair of the set makes the list of all longer
abbrev pub MoreRuns : Type 0
MoreRuns =
    (pairs : Pairs) (runs : Runs) (l j : ℕ) → IsListBefore pairs l j runs → is_number l ≡ true → j < index_bound → pairs l j ≡ true
    → ((i : ℕ) → suc i ≡ j → has_pair runs l i ≡ false) → length runs < length (runs_of pairs)
