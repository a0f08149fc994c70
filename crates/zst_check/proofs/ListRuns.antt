-- A run of a list from a pair on.
use Rattle.std.proofs.Common.{◌≡◌, ◌⊎◌, inl, inr, ℕ, ◌+◌, ◌-◌, ◌<◌, ◌≤◌, Bool, true, false, not, cond, [], ◌∷◌, Option, Some, refl, subst, find, MatchOption, arith}
use Rattle.std.proofs.lemmas.Bool.{false_from_ne_true, or_from}
use Rattle.std.proofs.lemmas.Bool.Decides.{nat_tests}
use Rattle.zst_model.specs.declared.states.cell.Run.{Run}
use Rattle.zst_model.specs.fields.Lists.{HasNoneFrom, IsAtOrAfter, IsRunList, Runs, ends_by, has_pair, is_in_run, is_run}
use Rattle.zst_model.specs.states.State.{index_bound, number_bound}
use Rattle.zst_model.proofs.RunLists.{IsFound, IsPast, has_start, past_first, rest_is_lawful, searched}
use Rattle.zst_redact.specs.Passes.{IsRunFrom, RunFits}

-- a run doesn't have the pair behind its end
own_end : (run : Run) → is_in_run run run.object (run.first + run.count) ≡ false
own_end run = grind (arith, nat_tests)

-- nor a pair past it
not_past : (run : Run) (l j : ℕ) → IsPast run l j → is_in_run run l j ≡ false
not_past run l j past = grind (arith, nat_tests)

-- what stands behind a pair past a run is past it too
past_on : (run : Run) (l i n : ℕ) → IsPast run l i → IsPast run l (i + n)
past_on run l i n past = grind arith

not_at_end : (run : Run) → IsPast run run.object (run.first + run.count) → ⊥
not_at_end run (inl above) = omega (arith, above)
not_at_end run (inr same) = let over = same.1 in omega (arith, over)

-- the run that a search finds is whole: the list hasn't the pair behind its end
pub end_apart : (object block : ℕ) (runs : Runs) → IsRunList runs → (found : Run) → find (λ run. not (ends_by run object block)) runs ≡ Some found
    → has_pair runs found.object (found.first + found.count) ≡ false
end_apart object block [] lawful found is = absurd (cc)
end_apart object block (run ∷ rest) lawful found is = go (ends_by run object block) (end_apart object block rest (rest_is_lawful run rest lawful) found) is
  where
    go : (ends : Bool) → (find (λ next. not (ends_by next object block)) rest ≡ Some found → has_pair rest found.object (found.first + found.count) ≡ false)
        → cond (not ends) (Some run) (find (λ next. not (ends_by next object block)) rest) ≡ Some found → has_pair (run ∷ rest) found.object (found.first + found.count) ≡ false
    go false apart here =
        let same : run ≡ found = cc in
        subst (λ (next : Run). has_pair (run ∷ rest) next.object (next.first + next.count) ≡ false) same
        (or_from _ _ (own_end run) (false_from_ne_true _ (λ has. not_at_end run (past_first run rest run.object (run.first + run.count) lawful has))))
    go true apart later =
        let there : IsFound rest object block found =
        subst (λ (o : Option Run). MatchOption o (HasNoneFrom (has_pair rest) object block) (IsFound rest object block)) later (searched object block rest _ refl (rest_is_lawful run rest lawful)) in
        let past = past_first run rest found.object found.first lawful (there.has found.object found.first (has_start found there.lawful)) in
        or_from _ _ (not_past run found.object (found.first + found.count) (past_on run found.object found.first found.count past)) (apart later)

-- a lawful run's numbers are within their bounds
record IsSized (run : Run) : Type 0 where
  number : run.object < 281474976710656
  some : 0 < run.count
  end : run.first + run.count ≤ 8796093022208

sized : (run : Run) → is_run run ≡ true → IsSized run
unfolding number_bound index_bound
sized run lawful = record { number = grind (arith, nat_tests); some = grind (arith, nat_tests); end = grind (arith, nat_tests) }

module _ (runs : Runs) (object block : ℕ) (run : Run) (found : IsFound runs object block run) where
  module _ (ahead : (run.object ≡ object → ⊥) ⊎ (block ≤ run.first)) where
    after : IsAtOrAfter object block run.object run.first
    after = let behind : ends_by run object block ≡ false = found.behind in grind (arith, nat_tests)

    -- the run that is found, where it begins at or after the pair
    pub whole_run : IsRunFrom (has_pair runs) object block run
    whole_run = record {
      least = record { has = found.has run.object run.first (has_start run found.lawful); after = after; least = found.least };
      all = found.has;
    }

    pub whole_fits : RunFits (object, block) run
    whole_fits = let is = sized run found.lawful in record { after = after; number = is.number; some = is.some; end = is.end }

  module _ (same : run.object ≡ object) (before : run.first < block) where
    -- the pair is one of the run that is found, where that begins before it
    pub reaches : block < run.first + run.count
    reaches = let behind : ends_by run object block ≡ false = found.behind in grind (arith, nat_tests)

    abbrev rest : Run
    rest = record { object = object; first = block; count = run.count - (block - run.first) }

    here : is_in_run run object block ≡ true
    here = let over = reaches in grind (arith, nat_tests)

    inside : (l j : ℕ) → is_in_run rest l j ≡ true → is_in_run run l j ≡ true
    inside l j is = let over = reaches in grind (arith, nat_tests)

    -- what is left of it from the pair on
    pub rest_run : IsRunFrom (has_pair runs) object block rest
    rest_run = record {
      least = record { has = found.has object block here; after = inr (refl, omega arith); least = λ l j has behind. behind };
      all = λ l j is. found.has l j (inside l j is);
    }

    pub rest_fits : RunFits (object, block) rest
    rest_fits =
        let is = sized run found.lawful in
        let number = is.number in
        let end = is.end in
        let over = reaches in
        record { after = inr (refl, omega arith); number = omega (arith, number, same); some = omega (arith, over); end = omega (arith, over, end) }

    -- it ends where the whole run does
    pub rest_end : block + (run.count - (block - run.first)) ≡ run.first + run.count
    rest_end = let over = reaches in omega (arith, over)
