-- A run that is put behind all pairs of a list.
use Rattle.std.proofs.Common.{◌≡◌, ℕ, ◌+◌, ◌-◌, ◌≤◌, Bool, true, false, [], ◌∷◌, ◌++◌, length, set, get_or, inl, inr, refl, sym, ap, ◌∙◌, subst, zero, suc, ◌||◌, arith}
use Rattle.std.proofs.lemmas.Bool.{and_from, cases_lt, or_from, or_parts, or_right, true≢false}
use Rattle.std.proofs.lemmas.Bool.Decides.{nat_tests}
use Rattle.std.proofs.lemmas.List.Folds.{list_any-append}
use Rattle.zst_model.specs.declared.states.cell.Run.{Run}
use Rattle.zst_model.specs.states.State.{index_bound}
use Rattle.zst_model.specs.fields.Lists.{Runs, is_in_run, has_pair, is_run, stands_before, IsRunList, IsAtOrAfter, HasNoneFrom}
use Rattle.zst_model.specs.fields.PushedRuns.{ends_at, last_ends_at}
use Rattle.zst_model.proofs.RunLists.{IsPast, first_is_lawful, has_start, next_is_apart, past_first, rest_is_lawful}
use Rattle.zst_model.proofs.RunsOf.{apart, joins_in, last_in, last_of, or_assoc, touching}

-- the last of some runs, in front of which others stand
pub last_of_all : (front : Runs) (last : Run) (k i : ℕ) → last_ends_at (front ++ last ∷ []) k i ≡ ends_at last k i
last_of_all [] last k i = refl
last_of_all (run ∷ []) last k i = refl
last_of_all (run ∷ next ∷ rest) last k i = last_of_all (next ∷ rest) last k i

-- where the last of some runs ends at a pair, there is a last
pub ends_last : (runs : Runs) (k i : ℕ) → last_ends_at runs k i ≡ true → suc (length runs - 1) ≡ length runs
ends_last [] k i ends = absurd (true≢false (sym ends))
ends_last (run ∷ rest) k i ends = omega arith

-- where one pair doesn't stand at or after another, the other stands at or after the next of its number
next_after : (o e k i : ℕ) → (IsAtOrAfter k i o e → ⊥) → IsAtOrAfter o (suc e) k i
next_after o e k i isnt = elim (cases_lt o k) [
  | inl less ↦ inl less
  | inr over ↦ elim (cases_lt k o) [
    | inl above ↦ absurd (isnt (inl above))
    | inr most ↦ elim (cases_lt e i) [
      | inl before ↦ inr (omega arith, omega arith)
      | inr behind ↦ absurd (isnt (inr (omega arith, behind)))
    ]
  ]
]

or_none : (a : Bool) → (a || false) ≡ a
or_none true = refl
or_none false = refl

module _ (pushed : Run) (fits : is_run pushed ≡ true) where
  -- a run with the indices of the other at its end
  abbrev pub longer : Run → Run
  longer run = record { object = run.object; first = run.first; count = run.count + pushed.count }

  -- ---- where the last run ends at the one that is put in

  -- there is a last, and both together have no more indices than there are
  pub last_bound : (runs : Runs) (n : ℕ) (last : Run) → suc n ≡ length runs → last ≡ get_or runs n last → last_ends_at runs pushed.object pushed.first ≡ true → last.count + pushed.count ≤ index_bound
  last_bound [] n last long is ends = absurd (omega arith)
  last_bound (run ∷ []) zero last long is ends = subst (λ (r : Run). r.count + pushed.count ≤ index_bound) (sym is) (small run pushed ends fits)
    where
      small : (run pushed : Run) → ends_at run pushed.object pushed.first ≡ true → is_run pushed ≡ true → run.count + pushed.count ≤ index_bound
      small run pushed ends fits = grind (arith, nat_tests)
  last_bound (run ∷ []) (suc n) last long is ends = absurd (omega arith)
  last_bound (run ∷ next ∷ rest) zero last long is ends = absurd (omega arith)
  last_bound (run ∷ next ∷ rest) (suc n) last long is ends = last_bound (next ∷ rest) n last (omega arith) is ends

  -- the runs of a list, of which the last is longer by it, are a list
  pub longer_list : (runs : Runs) (n : ℕ) (last : Run) → suc n ≡ length runs → last ≡ get_or runs n last → last_ends_at runs pushed.object pushed.first ≡ true → IsRunList runs → IsRunList (set runs n (longer last))
  longer_list [] n last long is ends lawful = absurd (omega arith)
  longer_list (run ∷ []) zero last long is ends lawful = subst (λ (r : Run). is_run (longer r) ≡ true) (sym is) (touching run pushed lawful fits ends)
  longer_list (run ∷ []) (suc n) last long is ends lawful = absurd (omega arith)
  longer_list (run ∷ next ∷ rest) zero last long is ends lawful = absurd (omega arith)
  longer_list (run ∷ next ∷ []) (suc zero) last long is ends lawful =
      subst (λ (r : Run). IsRunList (run ∷ longer r ∷ [])) (sym is)
      (and_from (is_run run) _ (first_is_lawful run (next ∷ []) lawful)
      (and_from (stands_before run next) _ (next_is_apart run next [] lawful) (touching next pushed (rest_is_lawful run (next ∷ []) lawful) fits ends)))
  longer_list (run ∷ next ∷ []) (suc (suc n)) last long is ends lawful = absurd (omega arith)
  longer_list (run ∷ next ∷ third ∷ rest) (suc zero) last long is ends lawful = absurd (omega arith)
  longer_list (run ∷ next ∷ third ∷ rest) (suc (suc n)) last long is ends lawful =
      and_from (is_run run) _ (first_is_lawful run (next ∷ third ∷ rest) lawful)
      (and_from (stands_before run next) _ (next_is_apart run next (third ∷ rest) lawful)
      (longer_list (next ∷ third ∷ rest) (suc n) last (omega arith) is ends (rest_is_lawful run (next ∷ third ∷ rest) lawful)))

  -- and have its pairs too, and no others more
  pub longer_pairs : (runs : Runs) (n : ℕ) (last : Run) → suc n ≡ length runs → last ≡ get_or runs n last → last_ends_at runs pushed.object pushed.first ≡ true → (l j : ℕ) → has_pair (set runs n (longer last)) l j ≡ (has_pair runs l j || is_in_run pushed l j)
  longer_pairs [] n last long is ends l j = absurd (omega arith)
  longer_pairs (run ∷ []) zero last long is ends l j =
      subst (λ (r : Run). has_pair (longer r ∷ []) l j ≡ (has_pair (run ∷ []) l j || is_in_run pushed l j)) (sym is)
      (ap (λ t. t || false) (joins_in run pushed l j ends) ∙ last_test (is_in_run run l j) (is_in_run pushed l j))
    where
      last_test : (a b : Bool) → ((a || b) || false) ≡ ((a || false) || b)
      last_test true b = refl
      last_test false true = refl
      last_test false false = refl
  longer_pairs (run ∷ []) (suc n) last long is ends l j = absurd (omega arith)
  longer_pairs (run ∷ next ∷ rest) zero last long is ends l j = absurd (omega arith)
  longer_pairs (run ∷ next ∷ rest) (suc n) last long is ends l j =
      ap (λ t. is_in_run run l j || t) (longer_pairs (next ∷ rest) n last (omega arith) is ends l j)
      ∙ sym (or_assoc (is_in_run run l j) (has_pair (next ∷ rest) l j) (is_in_run pushed l j))

  -- ---- where it doesn't

  -- a run whose pairs stand before it stands apart from it
  before_pushed : (run : Run) → is_run run ≡ true → ends_at run pushed.object pushed.first ≡ false → ((l j : ℕ) → IsAtOrAfter pushed.object pushed.first l j → is_in_run run l j ≡ false) → stands_before run pushed ≡ true
  before_pushed run lawful ends none =
      let last = last_of run lawful in
      apart run pushed ends
      (subst (λ (end : ℕ). IsAtOrAfter run.object end pushed.object pushed.first) last.1
      (next_after run.object last.0 pushed.object pushed.first (λ after. true≢false (sym (last_in run last.0 lawful last.1) ∙ none run.object last.0 after))))

  rest_none : (run : Run) (rest : Runs) → HasNoneFrom (has_pair (run ∷ rest)) pushed.object pushed.first → HasNoneFrom (has_pair rest) pushed.object pushed.first
  rest_none run rest none l j after = (or_parts (is_in_run run l j) (has_pair rest l j) (none l j after)).1

  -- so it is one run more
  pub pushed_list : (runs : Runs) → IsRunList runs → last_ends_at runs pushed.object pushed.first ≡ false → HasNoneFrom (has_pair runs) pushed.object pushed.first → IsRunList (runs ++ pushed ∷ [])
  pushed_list [] lawful ends none = fits
  pushed_list (run ∷ []) lawful ends none =
      and_from (is_run run) _ lawful
      (and_from (stands_before run pushed) _ (before_pushed run lawful ends (λ l j after. (or_parts (is_in_run run l j) false (none l j after)).0)) fits)
  pushed_list (run ∷ next ∷ rest) lawful ends none =
      and_from (is_run run) _ (first_is_lawful run (next ∷ rest) lawful)
      (and_from (stands_before run next) _ (next_is_apart run next rest lawful)
      (pushed_list (next ∷ rest) (rest_is_lawful run (next ∷ rest) lawful) ends (rest_none run (next ∷ rest) none)))

  pub pushed_pairs : (runs : Runs) (l j : ℕ) → has_pair (runs ++ pushed ∷ []) l j ≡ (has_pair runs l j || is_in_run pushed l j)
  pushed_pairs runs l j = list_any-append (λ run. is_in_run run l j) runs (pushed ∷ []) ∙ ap (λ t. has_pair runs l j || t) (or_none (is_in_run pushed l j))

  -- and then the list doesn't have the pair before its first
  pub pushed_alone : (runs : Runs) → IsRunList (runs ++ pushed ∷ []) → (e : ℕ) → suc e ≡ pushed.first → has_pair runs pushed.object e ≡ false
  pushed_alone [] lawful e next = refl
  pushed_alone (run ∷ rest) lawful e next =
      or_from (is_in_run run pushed.object e) (has_pair rest pushed.object e)
      (own run pushed.object pushed.first e next
      (past_first run (rest ++ pushed ∷ []) pushed.object pushed.first lawful (pushed_pairs rest pushed.object pushed.first ∙ or_right (has_pair rest pushed.object pushed.first) (is_in_run pushed pushed.object pushed.first) (has_start pushed fits))))
      (pushed_alone rest (rest_is_lawful run (rest ++ pushed ∷ []) lawful) e next)
    where
      own : (run : Run) (k i e : ℕ) → suc e ≡ i → IsPast run k i → is_in_run run k e ≡ false
      own run k i e next past = grind (arith, nat_tests)
