-- What a search among the runs of a list finds.
use Rattle.std.proofs.Common.{◌≡◌, ◌⊎◌, ℕ, ◌+◌, ◌≤◌, ◌<◌, Bool, true, false, not, cond, [], ◌∷◌, Option, Some, None, inl, inr, refl, sym, ap, ◌∙◌, zero, suc, max, find, MatchOption, get_or, slice_get, length, drop, add-one, drop-cons, nat_le, ◌==◌, ◌&&◌, arith}
use Rattle.std.proofs.lemmas.Bool.{false≢true, true≢false, and_parts, or_cases, or_left, or_right, or_from, false_from_ne_true, not_from_true, not_from_false}
use Rattle.std.proofs.lemmas.Bool.Decides.{nat_tests}
use Rattle.std.proofs.lemmas.List.Folds.{find_at}
use Rattle.std.proofs.lemmas.List.Sums.{position_or_len_is}
use Rattle.std.specs.List.{position_or_len}
use Rattle.std.specs.List.Sorted.{IsPartitionedBy, IsPartitionPoint}
use Rattle.zst_model.specs.declared.states.cell.Run.{Run}
use Rattle.zst_model.specs.sends.Inclusion.{Pairs}
use Rattle.zst_model.specs.fields.Lists.{Runs, is_in_run, has_pair, is_run, stands_before, is_run_list, IsRunList, ends_by, IsAtOrAfter, IsLeastFrom, HasNoneFrom}

-- the rest of a lawful list is lawful
pub rest_is_lawful : (run : Run) (rest : Runs) → is_run_list (run ∷ rest) ≡ true → is_run_list rest ≡ true
rest_is_lawful run [] lawful = refl
rest_is_lawful run (next ∷ rest) lawful = (and_parts _ _ (and_parts _ _ lawful).1).1

-- its first run is lawful
pub first_is_lawful : (run : Run) (rest : Runs) → is_run_list (run ∷ rest) ≡ true → is_run run ≡ true
first_is_lawful run [] lawful = lawful
first_is_lawful run (next ∷ rest) lawful = (and_parts _ _ lawful).0

-- its first run stands before the second
pub next_is_apart : (run next : Run) (rest : Runs) → is_run_list (run ∷ next ∷ rest) ≡ true → stands_before run next ≡ true
next_is_apart run next rest lawful = (and_parts _ _ (and_parts _ _ lawful).1).0

-- a lawful list from a place on: the run in front, and that it stands before the run at the place
pub run_list_step : (last : Run) (rest : Runs) (i : ℕ) (d : Run) → i < length rest
    → is_run_list (last ∷ drop i rest) ≡ (is_run last && (stands_before last (get_or rest i d) && is_run_list (get_or rest i d ∷ drop (i + 1) rest)))
run_list_step last rest i d inside = rw (add-one, drop-cons rest i d) refl

-- a pair stands past a run, and doesn't touch it
abbrev pub IsPast : Run → ℕ → ℕ → Type 0
IsPast run l j = (run.object < l) ⊎ ((run.object ≡ l) × (run.first + run.count < j))

-- a pair of a run stands past a run that stands before it
past_in_next : (run next : Run) (l j : ℕ) → stands_before run next ≡ true → is_in_run next l j ≡ true → IsPast run l j
past_in_next run next l j before here = grind (arith, nat_tests)

-- and so does a pair past it
past_next : (run next : Run) (l j : ℕ) → stands_before run next ≡ true → IsPast next l j → IsPast run l j
past_next run next l j before after = grind (arith, nat_tests)

-- the pairs of the rest of a list stand past its first run
pub past_first : (run : Run) (rest : Runs) (l j : ℕ) → is_run_list (run ∷ rest) ≡ true → has_pair rest l j ≡ true → IsPast run l j
past_first run [] l j lawful has = absurd (false≢true has)
past_first run (next ∷ rest) l j lawful has =
    elim (or_cases (is_in_run next l j) _ has) [
      | inl here ↦ past_in_next run next l j (next_is_apart run next rest lawful) here
      | inr later ↦ past_next run next l j (next_is_apart run next rest lawful) (past_first next rest l j (rest_is_lawful run (next ∷ rest) lawful) later)
    ]

-- a pair of a run that ends by a pair stands before it
before_end : (object block : ℕ) (run : Run) (l j : ℕ) → ends_by run object block ≡ true → IsAtOrAfter object block l j → is_in_run run l j ≡ false
before_end object block run l j ends after = grind (arith, nat_tests)

-- a pair of a run stands at or after its first
past_start : (run : Run) (l j : ℕ) → is_in_run run l j ≡ true → IsAtOrAfter run.object run.first l j
past_start run l j here = grind (arith, nat_tests)

-- and so does a pair past it
past_end : (run : Run) (l j : ℕ) → IsPast run l j → IsAtOrAfter run.object run.first l j
past_end run l j after = grind arith

-- a run has its first pair
pub has_start : (run : Run) → is_run run ≡ true → is_in_run run run.object run.first ≡ true
has_start run lawful = grind (arith, nat_tests)

-- the first run of a list begins at the least pair
pub least_first : (run : Run) (rest : Runs) (l j : ℕ) → is_run_list (run ∷ rest) ≡ true → has_pair (run ∷ rest) l j ≡ true → IsAtOrAfter run.object run.first l j
least_first run rest l j lawful has =
    elim (or_cases (is_in_run run l j) _ has) [
      | inl here ↦ past_start run l j here
      | inr later ↦ past_end run l j (past_first run rest l j lawful later)
    ]

-- what is known of the first run that doesn't end by a pair: the list has its pairs, and no pair at or after the pair stands before it
pub record IsFound (runs : Runs) (object block : ℕ) (run : Run) : Type 0 where
  pub lawful : is_run run ≡ true
  pub behind : ends_by run object block ≡ false
  pub has : (l j : ℕ) → is_in_run run l j ≡ true → has_pair runs l j ≡ true
  pub least : (l j : ℕ) → has_pair runs l j ≡ true → IsAtOrAfter object block l j → IsAtOrAfter run.object run.first l j

-- a search finds the first run that doesn't end by a pair, or that no pair at or after it is there
search_finds : (object block : ℕ) (runs : Runs) → IsRunList runs
    → MatchOption (find (λ run. not (ends_by run object block)) runs) (HasNoneFrom (has_pair runs) object block) (IsFound runs object block)
search_finds object block [] lawful = λ k i after. refl
search_finds object block (run ∷ rest) lawful = by_end (ends_by run object block) refl (search_finds object block rest (rest_is_lawful run rest lawful))
  where
    no_more : ends_by run object block ≡ true → (found : Option Run)
        → MatchOption found (HasNoneFrom (has_pair rest) object block) (IsFound rest object block)
        → MatchOption found (HasNoneFrom (has_pair (run ∷ rest)) object block) (IsFound (run ∷ rest) object block)
    no_more ends None none = λ k i after. or_from _ _ (before_end object block run k i ends after) (none k i after)
    no_more ends (Some next) found = record {
      lawful = found.lawful;
      behind = found.behind;
      has = λ l j here. or_right (is_in_run run l j) _ (found.has l j here);
      least = λ l j has after. found.least l j (elim (or_cases (is_in_run run l j) _ has) [
        | inl here ↦ absurd (false≢true (sym (before_end object block run l j ends after) ∙ here))
        | inr later ↦ later
      ]) after;
    }

    by_end : (ends : Bool) → ends_by run object block ≡ ends
        → MatchOption (find (λ next. not (ends_by next object block)) rest) (HasNoneFrom (has_pair rest) object block) (IsFound rest object block)
        → MatchOption (cond (not ends) (Some run) (find (λ next. not (ends_by next object block)) rest)) (HasNoneFrom (has_pair (run ∷ rest)) object block) (IsFound (run ∷ rest) object block)
    by_end true ends found = no_more ends _ found
    by_end false ends found = record {
      lawful = first_is_lawful run rest lawful;
      behind = ends;
      has = λ l j here. or_left (is_in_run run l j) _ here;
      least = λ l j has after. least_first run rest l j lawful has;
    }

-- the same of what a search gave
pub searched : (object block : ℕ) (runs : Runs) (found : Option Run) → found ≡ find (λ run. not (ends_by run object block)) runs → IsRunList runs
    → MatchOption found (HasNoneFrom (has_pair runs) object block) (IsFound runs object block)
searched object block runs found e lawful = rw e (search_finds object block runs lawful)

-- a run that stands before one that ends by a pair ends by it too
ends_before : (object block : ℕ) (run next : Run) → stands_before run next ≡ true → ends_by next object block ≡ true → ends_by run object block ≡ true
ends_before object block run next before ends = grind (arith, nat_tests)

-- the first run ends by a pair where a later one does
first_ends : (object block : ℕ) (run : Run) (rest : Runs) (j : ℕ) (d : Run) → is_run_list (run ∷ rest) ≡ true → j < length rest → ends_by (get_or rest j d) object block ≡ true → ends_by run object block ≡ true
first_ends object block run [] j d lawful inside ends = absurd (omega arith)
first_ends object block run (next ∷ rest) zero d lawful inside ends = ends_before object block run next (next_is_apart run next rest lawful) ends
first_ends object block run (next ∷ rest) (suc j) d lawful inside ends =
    ends_before object block run next (next_is_apart run next rest lawful)
    (first_ends object block next rest j d (rest_is_lawful run (next ∷ rest) lawful) (omega arith) ends)

-- the runs that end by a pair stand before those that don't
pub ends_are_first : (object block : ℕ) (runs : Runs) → IsRunList runs → IsPartitionedBy (λ run. ends_by run object block) runs
ends_are_first object block [] lawful i j d le inside ends = absurd (omega arith)
ends_are_first object block (run ∷ rest) lawful zero zero d le inside ends = ends
ends_are_first object block (run ∷ rest) lawful zero (suc j) d le inside ends = first_ends object block run rest j d lawful (omega arith) ends
ends_are_first object block (run ∷ rest) lawful (suc i) zero d le inside ends = absurd (omega arith)
ends_are_first object block (run ∷ rest) lawful (suc i) (suc j) d le inside ends =
    ends_are_first object block rest (rest_is_lawful run rest lawful) i j d (omega arith) (omega arith) ends

-- what stands at the place that parts a list is the first element that fails the test
pub find_at_point : (test : Run → Bool) (runs : Runs) (place : ℕ) → place ≤ length runs → IsPartitionPoint (λ run. test run ≡ true) (λ run. test run ≡ false) runs place
    → slice_get runs place ≡ find (λ run. not (test run)) runs
find_at_point test runs place bound point = sym (find_at (λ run. not (test run)) runs ∙ ap (slice_get runs) here)
  where
    d : Run
    d = record { object = 0; first = 0; count = 0 }

    here : position_or_len (λ run. not (test run)) runs ≡ place
    here =
        position_or_len_is (λ run. not (test run)) runs place d bound
        (λ k below. not_from_true _ (point.0 k d (omega arith) below))
        (λ inside. not_from_false _ (point.1 place d (omega arith) inside))

-- the first run that doesn't end by a pair alone may have it
pub found_has : (runs : Runs) (object block : ℕ) (run : Run) → IsFound runs object block run → (run.object == object && nat_le run.first block) ≡ has_pair runs object block
found_has runs object block run found = by_test (run.object == object && nat_le run.first block) refl
  where
    here : (run.object == object && nat_le run.first block) ≡ true → is_in_run run object block ≡ true
    here starts = let behind : ends_by run object block ≡ false = found.behind in grind (arith, nat_tests)

    starts : IsAtOrAfter run.object run.first object block → (run.object == object && nat_le run.first block) ≡ true
    starts after = let behind : ends_by run object block ≡ false = found.behind in grind (arith, nat_tests)

    by_test : (test : Bool) → (run.object == object && nat_le run.first block) ≡ test → test ≡ has_pair runs object block
    by_test true e = sym (found.has object block (here e))
    by_test false e = sym (false_from_ne_true _ (λ has. true≢false (sym (starts (found.least object block has (inr (refl, omega arith)))) ∙ e)))

-- where no pair at or after a pair is in a list, the pair isn't
pub none_has : (runs : Runs) (object block : ℕ) → HasNoneFrom (has_pair runs) object block → has_pair runs object block ≡ false
none_has runs object block none = none object block (inr (refl, omega arith))

-- the least pair at or after a pair in the object of the run that is found: the pair itself, or the first of the run
pub least_here : (runs : Runs) (object block : ℕ) (run : Run) → IsFound runs object block run → run.object ≡ object
    → IsLeastFrom (has_pair runs) object block run.object (max run.first block)
least_here runs object block run found same = record {
  has = found.has run.object (max run.first block) here;
  after = inr (sym same, omega arith);
  least = λ l j has after. past l j (found.least l j has after) after;
}
  where
    here : is_in_run run run.object (max run.first block) ≡ true
    here = let lawful : is_run run ≡ true = found.lawful in let behind : ends_by run object block ≡ false = found.behind in grind (arith, nat_tests)

    past : (l j : ℕ) → IsAtOrAfter run.object run.first l j → IsAtOrAfter object block l j → IsAtOrAfter run.object (max run.first block) l j
    past l j from_run from_pair = grind arith

-- and where that run is of a higher object, its first
pub least_later : (runs : Runs) (object block : ℕ) (run : Run) → IsFound runs object block run → (run.object ≡ object → ⊥)
    → IsLeastFrom (has_pair runs) object block run.object run.first
least_later runs object block run found other = record {
  has = found.has run.object run.first (has_start run found.lawful);
  after = inl higher;
  least = λ l j has after. found.least l j has after;
}
  where
    higher : object < run.object
    higher = let behind : ends_by run object block ≡ false = found.behind in grind (arith, nat_tests)

-- a set that has a least pair from a pair on isn't without one
pub some_from : (pairs : Pairs) (object block k i : ℕ) → IsLeastFrom pairs object block k i → HasNoneFrom pairs object block → ⊥
some_from pairs object block k i least none = false≢true (sym (none k i least.after) ∙ least.has)
