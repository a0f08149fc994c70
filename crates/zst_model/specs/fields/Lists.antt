-- Lists of redacted blocks: sets of pairs, which a redaction bookmark keeps as runs.
use Rattle.std.specs.Prelude.{◌≡◌, ℕ, ◌+◌, ◌≤◌, ◌<◌, Bool, true, false, List, [], ◌∷◌, nat_lt, nat_le, ◌==◌, ◌&&◌, ◌||◌, ◌⊎◌}
use Rattle.std.specs.List.{list_any}
use Rattle.zst_model.specs.declared.states.cell.Run.{Run}
use Rattle.zst_model.specs.states.State.{is_number, index_bound}
use Rattle.zst_model.specs.sends.Inclusion.{Pairs}

-- the runs of a list
abbrev pub Runs : Type 0
Runs = List Run

-- the pairs of a run: its object, with each index from its first up to its end
abbrev pub is_in_run : Run → Pairs
is_in_run run k i = run.object == k && (nat_le run.first i && nat_lt i (run.first + run.count))

-- a pair is in a list where it is in one of its runs
abbrev pub has_pair : Runs → Pairs
has_pair runs k i = list_any (λ run. is_in_run run k i) runs

-- a run that a list may have: of an object that may be, not empty, and ending at or below the bound of indices
abbrev pub is_run : Run → Bool
is_run run = is_number run.object && (nat_lt 0 run.count && nat_le (run.first + run.count) index_bound)

-- a run stands before another without touching it: its object is lower, or in one object an index lies between them
abbrev pub stands_before : Run → Run → Bool
stands_before run next = nat_lt run.object next.object || (run.object == next.object && nat_lt (run.first + run.count) next.first)

-- each run is one that a list may have, and stands before the next without touching it
abbrev pub is_run_list : Runs → Bool
is_run_list [] = true
is_run_list (run ∷ []) = is_run run
is_run_list (run ∷ next ∷ rest) = is_run run && (stands_before run next && is_run_list (next ∷ rest))

-- the runs of a lawful list
abbrev pub IsRunList : Runs → Type 0
IsRunList runs = is_run_list runs ≡ true

-- a run ends by a pair: its own pairs all stand before it, by object, then by index
abbrev pub ends_by : Run → ℕ → ℕ → Bool
ends_by run object block = nat_lt run.object object || (run.object == object && nat_le (run.first + run.count) block)

-- a pair (k, i) stands at or after another, by object, then by index
abbrev pub IsAtOrAfter : ℕ → ℕ → ℕ → ℕ → Type 0
IsAtOrAfter object block k i = (object < k) ⊎ ((object ≡ k) × (block ≤ i))

-- (k, i) is the least pair of a set at or after (object, block)
pub record IsLeastFrom (pairs : Pairs) (object block k i : ℕ) : Type 0 where
  pub has : pairs k i ≡ true
  pub after : IsAtOrAfter object block k i
  pub least : (l j : ℕ) → pairs l j ≡ true → IsAtOrAfter object block l j → IsAtOrAfter k i l j

-- a set has no pair at or after (object, block)
abbrev pub HasNoneFrom : Pairs → ℕ → ℕ → Type 0
HasNoneFrom pairs object block = (k i : ℕ) → IsAtOrAfter object block k i → pairs k i ≡ false
