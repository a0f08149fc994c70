-- A set of pairs has one list.
use Rattle.std.proofs.Common.{◌≡◌, ℕ, ◌+◌, ◌≤◌, ◌<◌, Bool, true, false, [], ◌∷◌, inl, inr, refl, sym, ◌∙◌, subst, ◌||◌, arith}
use Rattle.std.proofs.lemmas.Bool.{false≢true, true≢false, and_parts, or_cases, or_left, or_from, false_from_ne_true, cases_lt}
use Rattle.std.proofs.lemmas.Bool.Decides.{nat_tests}
use Rattle.zst_model.specs.declared.states.cell.Run.{Run}
use Rattle.zst_model.specs.states.State.{is_number, index_bound}
use Rattle.zst_model.specs.fields.Lists.{Runs, is_in_run, has_pair, is_run, IsRunList, IsAtOrAfter}
use Rattle.zst_model.specs.fields.RunsOf.{OneList}
use Rattle.zst_model.proofs.RunLists.{IsPast, first_is_lawful, has_start, least_first, past_first, rest_is_lawful}

-- a pair past a run isn't in it
past_out : (run : Run) (l j : ℕ) → IsPast run l j → is_in_run run l j ≡ false
past_out run l j past = grind (arith, nat_tests)

-- a list has the first pair of its first run
pub has_first : (run : Run) (rest : Runs) → IsRunList (run ∷ rest) → has_pair (run ∷ rest) run.object run.first ≡ true
has_first run rest lawful = or_left (is_in_run run run.object run.first) _ (has_start run (first_is_lawful run rest lawful))

-- behind the first run's end its object has no pair
end_out : (run : Run) (rest : Runs) → IsRunList (run ∷ rest) → has_pair (run ∷ rest) run.object (run.first + run.count) ≡ false
end_out run rest lawful = or_from _ _ (own run) (false_from_ne_true _ (λ later. far run (past_first run rest run.object (run.first + run.count) lawful later)))
  where
    own : (run : Run) → is_in_run run run.object (run.first + run.count) ≡ false
    own run = grind (arith, nat_tests)

    far : (run : Run) → IsPast run run.object (run.first + run.count) → ⊥
    far run past = grind arith

-- a longer run from the same pair has it
within_longer : (run other : Run) → run.object ≡ other.object → run.first ≡ other.first → run.count < other.count → is_in_run other run.object (run.first + run.count) ≡ true
within_longer run other o f l = grind (arith, nat_tests)

-- pairs that stand at or after one another are one
starts_same : (run other : Run) → IsAtOrAfter run.object run.first other.object other.first → IsAtOrAfter other.object other.first run.object run.first → (run.object ≡ other.object) × (run.first ≡ other.first)
starts_same run other a b = (grind arith, grind arith)

-- runs that have the same pairs
abbrev SameIn : Runs → Runs → Type 0
SameIn runs other = (k i : ℕ) → has_pair runs k i ≡ has_pair other k i

-- so of two lists with the same pairs no first run is longer than the other
not_longer : (run other : Run) (rest later : Runs) → IsRunList (run ∷ rest) → SameIn (run ∷ rest) (other ∷ later)
    → run.object ≡ other.object → run.first ≡ other.first → other.count ≤ run.count
not_longer run other rest later lawful same o f = elim (cases_lt run.count other.count) [
  | inl less ↦ absurd (true≢false (sym (or_left (is_in_run other run.object (run.first + run.count)) _ (within_longer run other o f less)) ∙ sym (same run.object (run.first + run.count)) ∙ end_out run rest lawful))
  | inr most ↦ most
]

-- nor do they differ in anything else
pub same_run : (run other : Run) → run.object ≡ other.object → run.first ≡ other.first → run.count ≡ other.count → run ≡ other
same_run run other o f c = λ p. record { object = o p; first = f p; count = c p }

-- without a run that both begin with, the pairs are the same
rest_same : (run : Run) (rest later : Runs) → IsRunList (run ∷ rest) → IsRunList (run ∷ later) → SameIn (run ∷ rest) (run ∷ later) → SameIn rest later
rest_same run rest later a b same k i = go (is_in_run run k i) refl (same k i)
  where
    none : (runs : Runs) → IsRunList (run ∷ runs) → is_in_run run k i ≡ true → has_pair runs k i ≡ false
    none runs lawful here = false_from_ne_true _ (λ has. true≢false (sym here ∙ past_out run k i (past_first run runs k i lawful has)))

    go : (t : Bool) → is_in_run run k i ≡ t → (t || has_pair rest k i) ≡ (t || has_pair later k i) → has_pair rest k i ≡ has_pair later k i
    go true e h = none rest a e ∙ sym (none later b e)
    go false e h = h

-- so they are one, run by run
pub same_runs : (runs other : Runs) → IsRunList runs → IsRunList other → SameIn runs other → runs ≡ other
same_runs [] [] a b same = refl
same_runs [] (run ∷ rest) a b same = absurd (true≢false (sym (has_first run rest b) ∙ sym (same run.object run.first)))
same_runs (run ∷ rest) [] a b same = absurd (true≢false (sym (has_first run rest a) ∙ same run.object run.first))
same_runs (run ∷ rest) (other ∷ later) a b same =
    let forth = least_first run rest other.object other.first a (same other.object other.first ∙ has_first other later b) in
    let back = least_first other later run.object run.first b (sym (same run.object run.first) ∙ has_first run rest a) in
    let starts = starts_same run other forth back in
    let up : other.count ≤ run.count = not_longer run other rest later a same starts.0 starts.1 in
    let down : run.count ≤ other.count = not_longer other run later rest b (λ k i. sym (same k i)) (sym starts.0) (sym starts.1) in
    let one = same_run run other starts.0 starts.1 (omega arith) in
    let lawful : IsRunList (run ∷ later) = subst (λ x. IsRunList (x ∷ later)) (sym one) b in
    let alike : SameIn (run ∷ rest) (run ∷ later) = subst (λ x. SameIn (run ∷ rest) (x ∷ later)) (sym one) same in
    let tails = same_runs rest later (rest_is_lawful run rest a) (rest_is_lawful other later b) (rest_same run rest later a lawful alike) in
    λ p. one p ∷ tails p

-- a lawful list has pairs of numbers and indices alone
run_bounded : (run : Run) (k i : ℕ) → is_run run ≡ true → is_in_run run k i ≡ true → (is_number k ≡ true) × (i < index_bound)
run_bounded run k i lawful here = (number, grind (arith, nat_tests))
  where
    same : run.object ≡ k
    same = grind (arith, nat_tests)

    number : is_number k ≡ true
    number = subst (λ n. is_number n ≡ true) same (and_parts (is_number run.object) _ lawful).0

pub pair_bounded : (runs : Runs) (k i : ℕ) → IsRunList runs → has_pair runs k i ≡ true → (is_number k ≡ true) × (i < index_bound)
pair_bounded [] k i lawful has = absurd (false≢true has)
pair_bounded (run ∷ rest) k i lawful has = elim (or_cases (is_in_run run k i) _ has) [
  | inl here ↦ run_bounded run k i (first_is_lawful run rest lawful) here
  | inr later ↦ pair_bounded rest k i (rest_is_lawful run rest lawful) later
]

-- and it is enough that they have the same pairs of numbers and indices
pub same_list : OneList
same_list pairs runs other a b = same_runs runs other a.lawful b.lawful (λ k i. both k i (has_pair runs k i) (has_pair other k i) refl refl)
  where
    both : (k i : ℕ) (t u : Bool) → has_pair runs k i ≡ t → has_pair other k i ≡ u → t ≡ u
    both k i false false e f = refl
    both k i true u e f = let at = pair_bounded runs k i a.lawful e in sym e ∙ a.same k i at.0 at.1 ∙ sym (b.same k i at.0 at.1) ∙ f
    both k i false true e f = let at = pair_bounded other k i b.lawful f in sym e ∙ a.same k i at.0 at.1 ∙ sym (b.same k i at.0 at.1) ∙ f
