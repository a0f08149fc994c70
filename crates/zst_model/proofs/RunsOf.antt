-- The runs of a set of pairs are its list.
use Rattle.std.proofs.Common.{◌≡◌, ◌⊎◌, ℕ, ◌+◌, ◌≤◌, ◌<◌, Bool, true, false, [], ◌∷◌, ◌++◌, length, flat_map, Option, Some, None, inl, inr, refl, sym, ap, ◌∙◌, subst, zero, suc, pred, nat_le, nat_lt, if◌then◌else◌, ◌==◌, ◌&&◌, ◌||◌, length-append, arith}
use Rattle.std.proofs.lemmas.Bool.{false≢true, true≢false, and_parts, and_from, or_left, or_right, cases_eq}
use Rattle.std.proofs.lemmas.Bool.Decides.{nat_tests}
use Rattle.std.proofs.lemmas.List.Folds.{list_any-append}
use Rattle.zst_model.specs.declared.states.cell.Run.{Run}
use Rattle.zst_model.specs.states.State.{is_number, number_bound, index_bound}
use Rattle.zst_model.specs.sends.Inclusion.{Pairs}
use Rattle.zst_model.specs.sends.Items.{rising}
use Rattle.zst_model.specs.fields.Lists.{Runs, is_in_run, has_pair, is_run, stands_before, IsRunList, IsAtOrAfter}
use Rattle.zst_model.specs.fields.RunsOf.{before_run, run_before, joined_runs, run_at, runs_at, runs_of, IsListOf, RunsArePairs, is_earlier, IsListBefore, MoreRuns}
use Rattle.zst_model.proofs.OneList.{has_first, pair_bounded, same_list}
use Rattle.zst_model.proofs.RunLists.{first_is_lawful, next_is_apart, rest_is_lawful}

-- ---- runs that follow one another, and may touch

-- runs that a list may have, from a pair on, each at or past the end of the one before
abbrev Follow : ℕ → ℕ → Runs → Type 0
Follow k i [] = Unit {0}
Follow k i (run ∷ rest) = (is_run run ≡ true) × IsAtOrAfter k i run.object run.first × Follow run.object (run.first + run.count) rest

-- what stands after a pair that stands after another stands after that one too
later_start : (k i l j m n : ℕ) → IsAtOrAfter k i l j → IsAtOrAfter l j m n → IsAtOrAfter k i m n
later_start k i l j m n a b = grind arith

follow_from : (k i l j : ℕ) (runs : Runs) → IsAtOrAfter k i l j → Follow l j runs → Follow k i runs
follow_from k i l j [] before f = tt
follow_from k i l j (run ∷ rest) before f = (f.0, later_start k i l j run.object run.first before f.1, f.2)

-- a list whose runs begin at or past a pair
abbrev ListFrom : ℕ → ℕ → Runs → Type 0
ListFrom k i [] = Unit {0}
ListFrom k i (run ∷ rest) = IsRunList (run ∷ rest) × IsAtOrAfter k i run.object run.first

from_lawful : (k i : ℕ) (runs : Runs) → ListFrom k i runs → IsRunList runs
from_lawful k i [] h = refl
from_lawful k i (run ∷ rest) h = h.0

-- two runs that touch are one run that a list may have
pub touching : (run next : Run) → is_run run ≡ true → is_run next ≡ true → (run.object == next.object && run.first + run.count == next.first) ≡ true
    → is_run (record { object = run.object; first = run.first; count = run.count + next.count }) ≡ true
touching run next a b touch = record_run run next a b touch
  where
    record_run : (run next : Run) → is_run run ≡ true → is_run next ≡ true → (run.object == next.object && run.first + run.count == next.first) ≡ true
        → (is_number run.object && (nat_lt 0 (run.count + next.count) && nat_le (run.first + (run.count + next.count)) index_bound)) ≡ true
    record_run run next a b touch = and_from (is_number run.object) _ (and_parts (is_number run.object) _ a).0 (parts run next (and_parts (is_number run.object) _ a).1 (and_parts (is_number next.object) _ b).1 touch)
      where
        parts : (run next : Run) → (nat_lt 0 run.count && nat_le (run.first + run.count) index_bound) ≡ true → (nat_lt 0 next.count && nat_le (next.first + next.count) index_bound) ≡ true
            → (run.object == next.object && run.first + run.count == next.first) ≡ true
            → (nat_lt 0 (run.count + next.count) && nat_le (run.first + (run.count + next.count)) index_bound) ≡ true
        parts run next a b touch = grind (arith, nat_tests)

-- two runs that don't touch stand apart
pub apart : (run next : Run) → (run.object == next.object && run.first + run.count == next.first) ≡ false → IsAtOrAfter run.object (run.first + run.count) next.object next.first
    → stands_before run next ≡ true
apart run next touch after = grind (arith, nat_tests)

-- what stands apart from the second of two that touch stands apart from both as one
over : (run next third : Run) → (run.object == next.object && run.first + run.count == next.first) ≡ true → stands_before next third ≡ true
    → stands_before (record { object = run.object; first = run.first; count = run.count + next.count }) third ≡ true
over run next third touch before = go run.object run.first run.count touch
  where
    go : (o f c : ℕ) → (o == next.object && f + c == next.first) ≡ true → (nat_lt o third.object || (o == third.object && nat_lt (f + (c + next.count)) third.first)) ≡ true
    go o f c touch = grind (arith, nat_tests)

-- so a run in front of a list, joined with its first where they touch, makes a list
list_of : (run : Run) (rest : Runs) → is_run run ≡ true → ListFrom run.object (run.first + run.count) rest → (t : Option Run) → IsRunList (run_before run rest)
list_of run [] a h t = a
list_of run (next ∷ rest) a h t = go (run.object == next.object && run.first + run.count == next.first) refl
  where
    both : Run
    both = record { object = run.object; first = run.first; count = run.count + next.count }

    merged : (rest : Runs) → IsRunList (next ∷ rest) → (run.object == next.object && run.first + run.count == next.first) ≡ true → IsRunList (record { object = run.object; first = run.first; count = run.count + next.count } ∷ rest)
    merged [] b touch = touching run next a b touch
    merged (third ∷ rest) b touch = and_from _ _ (touching run next a (first_is_lawful next (third ∷ rest) b) touch) (and_from _ _ (over run next third touch (next_is_apart next third rest b)) (rest_is_lawful next (third ∷ rest) b))

    go : (touch : Bool) → (run.object == next.object && run.first + run.count == next.first) ≡ touch
        → IsRunList (before_run run (if touch then Some (record { object = run.object; first = run.first; count = run.count + next.count }) else None) next rest)
    go true e = merged rest h.0 e
    go false e = and_from (is_run run) _ a (and_from (stands_before run next) _ (apart run next e h.1) h.0)

from_of : (k i : ℕ) (run : Run) (rest : Runs) → IsAtOrAfter k i run.object run.first → is_run run ≡ true → ListFrom run.object (run.first + run.count) rest → ListFrom k i (run_before run rest)
from_of k i run [] at a h = (a, at)
from_of k i run (next ∷ rest) at a h = go (run.object == next.object && run.first + run.count == next.first) (list_of run (next ∷ rest) a h None)
  where
    go : (touch : Bool) → IsRunList (before_run run (if touch then Some (record { object = run.object; first = run.first; count = run.count + next.count }) else None) next rest)
        → ListFrom k i (before_run run (if touch then Some (record { object = run.object; first = run.first; count = run.count + next.count }) else None) next rest)
    go true lawful = (lawful, at)
    go false lawful = (lawful, at)

-- runs that follow one another, joined, are a list
joined_list : (k i : ℕ) (runs : Runs) → Follow k i runs → ListFrom k i (joined_runs runs)
unfolding joined_runs
joined_list k i [] f = tt
joined_list k i (run ∷ rest) f = from_of k i run (joined_runs rest) f.1 f.0 (joined_list run.object (run.first + run.count) rest f.2)

-- two runs that touch have as one the pairs of both
pub joins_in : (run next : Run) (l j : ℕ) → (run.object == next.object && run.first + run.count == next.first) ≡ true
    → (run.object == l && (nat_le run.first j && nat_lt j (run.first + (run.count + next.count)))) ≡ (is_in_run run l j || is_in_run next l j)
joins_in run next l j touch = grind (arith, nat_tests)

pub or_assoc : (a b c : Bool) → ((a || b) || c) ≡ (a || (b || c))
or_assoc true b c = refl
or_assoc false b c = refl

before_pairs : (run : Run) (rest : Runs) (l j : ℕ) → has_pair (run_before run rest) l j ≡ (is_in_run run l j || has_pair rest l j)
before_pairs run [] l j = refl
before_pairs run (next ∷ rest) l j = go (run.object == next.object && run.first + run.count == next.first) refl
  where
    go : (touch : Bool) → (run.object == next.object && run.first + run.count == next.first) ≡ touch
        → has_pair (before_run run (if touch then Some (record { object = run.object; first = run.first; count = run.count + next.count }) else None) next rest) l j
        ≡ (is_in_run run l j || (is_in_run next l j || has_pair rest l j))
    go true e = ap (λ t. t || has_pair rest l j) (joins_in run next l j e) ∙ or_assoc (is_in_run run l j) (is_in_run next l j) (has_pair rest l j)
    go false e = refl

-- and they have the same pairs
joined_pairs : (runs : Runs) (l j : ℕ) → has_pair (joined_runs runs) l j ≡ has_pair runs l j
unfolding joined_runs
joined_pairs [] l j = refl
joined_pairs (run ∷ rest) l j = before_pairs run (joined_runs rest) l j ∙ ap (λ t. is_in_run run l j || t) (joined_pairs rest l j)

-- ---- the pairs one by one

-- a pair of a number and an index is a run that a list may have
pub unit_run : (k i : ℕ) → is_number k ≡ true → i < index_bound → (is_number k && (nat_lt 0 1 && nat_le (i + 1) index_bound)) ≡ true
unit_run k i n l = and_from (is_number k) _ n (go i l)
  where
    go : (i : ℕ) → i < index_bound → (nat_lt 0 1 && nat_le (i + 1) index_bound) ≡ true
    go i l = grind (arith, nat_tests)

number_in : (k n : ℕ) → 0 < k → k + suc n ≤ number_bound → is_number k ≡ true
number_in k n some most = grind (arith, nat_tests)

number_some : 0 < number_bound
unfolding number_bound
number_some = omega arith

all_numbers : (n : ℕ) → 0 < n → 1 + pred n ≤ n
all_numbers zero some = absurd (omega arith)
all_numbers (suc n) some = omega arith

inside : (n k i b : ℕ) → (nat_lt 0 k && nat_lt k n) ≡ true → i < b → ((nat_le 1 k && nat_lt k (1 + pred n)) && nat_lt i b) ≡ true
inside zero k i b number l = grind (arith, nat_tests)
inside (suc n) k i b number l = grind (arith, nat_tests)

both_same : (k a l j : ℕ) → (k == l && a == j) ≡ true → (k ≡ l) × (a ≡ j)
both_same k a l j e = (grind (arith, nat_tests), grind (arith, nat_tests))

-- tests that share a part
share : (x y p : Bool) → ((x && p) || (y && p)) ≡ ((x || y) && p)
share true true true = refl
share true true false = refl
share true false true = refl
share true false false = refl
share false true true = refl
share false true false = refl
share false false p = refl

-- which pairs a range of indices has, and one of numbers
none_at : (k a l j : ℕ) → (k == l && (nat_le a j && nat_lt j (a + 0))) ≡ false
none_at k a l j = grind (arith, nat_tests)

one_more : (k a n l j : ℕ) → ((k == l && a == j) || (k == l && (nat_le (suc a) j && nat_lt j (suc a + n)))) ≡ (k == l && (nat_le a j && nat_lt j (a + suc n)))
one_more k a n l j = grind (arith, nat_tests)

none_number : (k l j b : ℕ) → ((nat_le k l && nat_lt l (k + 0)) && nat_lt j b) ≡ false
none_number k l j b = grind (arith, nat_tests)

number_more : (k n l j b : ℕ) → ((k == l && (nat_le 0 j && nat_lt j (0 + b))) || ((nat_le (suc k) l && nat_lt l (suc k + n)) && nat_lt j b)) ≡ ((nat_le k l && nat_lt l (k + suc n)) && nat_lt j b)
number_more k n l j b = grind (arith, nat_tests)

module _ (pairs : Pairs) where
  -- the runs of one of a number's indices follow one another, and so do those of all numbers
  follow_at : (k a n : ℕ) (rest : Runs) → is_number k ≡ true → a + n ≤ index_bound → Follow (suc k) 0 rest → Follow k a (flat_map (run_at pairs k) (rising a n) ++ rest)
  unfolding rising
  follow_at k a zero rest number most f = follow_from k a (suc k) 0 rest (inl (omega arith)) f
  follow_at k a (suc n) rest number most f = go (pairs k a) (follow_at k (suc a) n rest number (omega arith) f)
    where
      go : (t : Bool) → Follow k (suc a) (flat_map (run_at pairs k) (rising (suc a) n) ++ rest)
          → Follow k a (((if t then record { object = k; first = a; count = 1 } ∷ [] else []) ++ flat_map (run_at pairs k) (rising (suc a) n)) ++ rest)
      go true g = (unit_run k a number (omega arith), inr (refl, omega arith), follow_from k (a + 1) k (suc a) _ (inr (refl, omega arith)) g)
      go false g = follow_from k a k (suc a) _ (inr (refl, omega arith)) g

  follow_all : (k n : ℕ) → 0 < k → k + n ≤ number_bound → Follow k 0 (flat_map (runs_at pairs) (rising k n))
  unfolding rising
  follow_all k zero some most = tt
  follow_all k (suc n) some most = follow_at k 0 index_bound (flat_map (runs_at pairs) (rising (suc k) n)) (number_in k n some most) (omega arith) (follow_all (suc k) n (omega arith) (omega arith))

  -- lists one behind the other have the pairs of both
  append_pairs : (runs rest : Runs) (l j : ℕ) → has_pair (runs ++ rest) l j ≡ (has_pair runs l j || has_pair rest l j)
  append_pairs runs rest l j = list_any-append (λ run. is_in_run run l j) runs rest

  in_unit : (k a l j : ℕ) → (k == l && (nat_le a j && nat_lt j (a + 1))) ≡ (k == l && (a == j))
  in_unit k a l j = grind (arith, nat_tests)

  -- which pairs they have: of a pair, of a number, of all numbers
  unit_pairs : (k a l j : ℕ) → has_pair (run_at pairs k a) l j ≡ ((k == l && a == j) && pairs l j)
  unit_pairs k a l j = go (k == l && a == j) refl (pairs k a) refl
    where
      same : (k == l && a == j) ≡ true → pairs k a ≡ pairs l j
      same e = let found = both_same k a l j e in ap (λ n. pairs n a) found.0 ∙ ap (λ n. pairs l n) found.1

      go : (t : Bool) → (k == l && a == j) ≡ t → (u : Bool) → pairs k a ≡ u
          → has_pair (if u then record { object = k; first = a; count = 1 } ∷ [] else []) l j ≡ (t && pairs l j)
      go true e true f = ap (λ t. t || false) (in_unit k a l j ∙ e) ∙ sym f ∙ same e
      go true e false f = sym f ∙ same e
      go false e true f = ap (λ t. t || false) (in_unit k a l j ∙ e)
      go false e false f = refl

  number_pairs : (k a n l j : ℕ) → has_pair (flat_map (run_at pairs k) (rising a n)) l j ≡ ((k == l && (nat_le a j && nat_lt j (a + n))) && pairs l j)
  unfolding rising
  number_pairs k a zero l j = ap (λ t. t && pairs l j) (sym (none_at k a l j))
  number_pairs k a (suc n) l j =
      append_pairs (run_at pairs k a) (flat_map (run_at pairs k) (rising (suc a) n)) l j
      ∙ ap (λ t. t || has_pair (flat_map (run_at pairs k) (rising (suc a) n)) l j) (unit_pairs k a l j)
      ∙ ap (λ t. ((k == l && a == j) && pairs l j) || t) (number_pairs k (suc a) n l j)
      ∙ share (k == l && a == j) (k == l && (nat_le (suc a) j && nat_lt j (suc a + n))) (pairs l j)
      ∙ ap (λ t. t && pairs l j) (one_more k a n l j)

  all_pairs : (k n l j : ℕ) → has_pair (flat_map (runs_at pairs) (rising k n)) l j ≡ (((nat_le k l && nat_lt l (k + n)) && nat_lt j index_bound) && pairs l j)
  unfolding rising
  all_pairs k zero l j = ap (λ t. t && pairs l j) (sym (none_number k l j index_bound))
  all_pairs k (suc n) l j =
      append_pairs (runs_at pairs k) (flat_map (runs_at pairs) (rising (suc k) n)) l j
      ∙ ap (λ t. t || has_pair (flat_map (runs_at pairs) (rising (suc k) n)) l j) (number_pairs k 0 index_bound l j)
      ∙ ap (λ t. ((k == l && (nat_le 0 j && nat_lt j (0 + index_bound))) && pairs l j) || t) (all_pairs (suc k) n l j)
      ∙ share (k == l && (nat_le 0 j && nat_lt j (0 + index_bound))) ((nat_le (suc k) l && nat_lt l (suc k + n)) && nat_lt j index_bound) (pairs l j)
      ∙ ap (λ t. t && pairs l j) (number_more k n l j index_bound)

  list_is : IsListOf pairs (runs_of pairs)
  unfolding runs_of
  list_is = record {
    lawful = from_lawful 1 0 _ (joined_list 1 0 _ (follow_all 1 (pred number_bound) (omega arith) (all_numbers number_bound number_some)));
    same = λ k i n l. joined_pairs _ k i ∙ all_pairs 1 (pred number_bound) k i ∙ ap (λ t. t && pairs k i) (inside number_bound k i index_bound n l);
  }

pub runs_list : RunsArePairs
runs_list pairs = list_is pairs

-- ---- a longer list

-- lists one behind the other, where the pairs of the one stand before the first of the other and don't touch it
appended : (runs : Runs) (first : Run) (later : Runs) → IsRunList runs → IsRunList (first ∷ later)
    → ((run : Run) → is_run run ≡ true → ((k i : ℕ) → is_in_run run k i ≡ true → has_pair runs k i ≡ true) → stands_before run first ≡ true)
    → IsRunList (runs ++ first ∷ later)
appended [] first later a b before = b
appended (run ∷ []) first later a b before = and_from (is_run run) _ a (and_from (stands_before run first) _ (before run a (λ k i h. or_left (is_in_run run k i) false h)) b)
appended (run ∷ next ∷ rest) first later a b before =
    and_from (is_run run) _ (first_is_lawful run (next ∷ rest) a)
    (and_from (stands_before run next) _ (next_is_apart run next rest a)
    (appended (next ∷ rest) first later (rest_is_lawful run (next ∷ rest) a) b
    (λ one lawful h. before one lawful (λ k i e. or_right (is_in_run run k i) (has_pair (next ∷ rest) k i) (h k i e)))))

-- the last pair of a run
pub last_in : (run : Run) (i : ℕ) → is_run run ≡ true → suc i ≡ run.first + run.count → is_in_run run run.object i ≡ true
last_in run i lawful e = grind (arith, nat_tests)

-- which it has
pub last_of : (run : Run) → is_run run ≡ true → (i : ℕ) × (suc i ≡ run.first + run.count)
last_of run lawful = go (run.first + run.count) refl (grind (arith, nat_tests))
  where
    go : (n : ℕ) → n ≡ run.first + run.count → 0 < run.first + run.count → (i : ℕ) × (suc i ≡ run.first + run.count)
    go zero e some = absurd (omega arith)
    go (suc n) e some = (n, e)

-- a run whose last pair stands before a pair that it doesn't touch stands apart from a run that doesn't begin before that pair
stands_apart : (run first : Run) (l j i : ℕ) → is_run run ≡ true → suc i ≡ run.first + run.count → is_earlier run.object i l j ≡ true → (run.object ≡ l → suc i ≡ j → ⊥)
    → is_earlier first.object first.first l j ≡ false → stands_before run first ≡ true
stands_apart run first l j i lawful e earlier gap late = go (cases_eq run.object l) (cases_eq (suc i) j)
  where
    go : (run.object ≡ l) ⊎ (run.object ≡ l → ⊥) → (suc i ≡ j) ⊎ (suc i ≡ j → ⊥) → stands_before run first ≡ true
    go (inl o) (inl n) = absurd (gap o n)
    go (inl o) (inr n) = grind (arith, nat_tests)
    go (inr o) n = grind (arith, nat_tests)

-- what passes a test, and what doesn't
parted : (p e : Bool) → ((p && e) || (p && (if e then false else true))) ≡ p
parted true true = refl
parted true false = refl
parted false e = refl

module _ (pairs : Pairs) (runs : Runs) (l j : ℕ) (before : IsListBefore pairs l j runs) (number : is_number l ≡ true) (index : j < index_bound) (has : pairs l j ≡ true)
    (gap : (i : ℕ) → suc i ≡ j → has_pair runs l i ≡ false)
  where
    -- the pairs that don't stand before this one, which it is one of
    abbrev late : Pairs
    late k i = pairs k i && (if is_earlier k i l j then false else true)

    late_itself : (t : Bool) → is_earlier l j l j ≡ t → t ≡ false
    late_itself t e = sym e ∙ never l j
      where
        never : (l j : ℕ) → is_earlier l j l j ≡ false
        never l j = grind (arith, nat_tests)

    has_late : late l j ≡ true
    has_late = and_from (pairs l j) _ has (ap (λ t. if t then false else true) (late_itself (is_earlier l j l j) refl))

    -- the pairs of the list stand before it, and those of a list of the others don't
    early : (k i : ℕ) → has_pair runs k i ≡ true → is_earlier k i l j ≡ true
    early k i h =
        let at = pair_bounded runs k i before.list.lawful h in
        (and_parts (pairs k i) _ (sym (before.list.same k i at.0 at.1) ∙ h)).1

    not_early : (k i : ℕ) (rest : Runs) → IsListOf late rest → has_pair rest k i ≡ true → is_earlier k i l j ≡ false
    not_early k i rest list h =
        let at = pair_bounded rest k i list.lawful h in
        flip (is_earlier k i l j) (and_parts (pairs k i) _ (sym (list.same k i at.0 at.1) ∙ h)).1
      where
        flip : (t : Bool) → (if t then false else true) ≡ true → t ≡ false
        flip true e = absurd (false≢true e)
        flip false e = refl

    -- so both lists are the list of all, which is longer than the first of them
    whole : (first : Run) (later : Runs) → IsListOf late (first ∷ later) → IsListOf pairs (runs ++ first ∷ later)
    whole first later list = record {
      lawful = appended runs first later before.list.lawful list.lawful (λ run lawful inside.
          let last = last_of run lawful in
          let there = inside run.object last.0 (last_in run last.0 lawful last.1) in
          stands_apart run first l j last.0 lawful last.1 (early run.object last.0 there)
          (λ o n. true≢false (sym (subst (λ k. has_pair runs k last.0 ≡ true) o there) ∙ gap last.0 n))
          (not_early first.object first.first (first ∷ later) list (has_first first later list.lawful)));
      same = λ k i n m.
          append_pairs pairs runs (first ∷ later) k i
          ∙ ap (λ t. t || has_pair (first ∷ later) k i) (before.list.same k i n m)
          ∙ ap (λ t. (pairs k i && is_earlier k i l j) || t) (list.same k i n m)
          ∙ parted (pairs k i) (is_earlier k i l j);
    }

    longer : (rest : Runs) → IsListOf late rest → length runs < length (runs_of pairs)
    longer [] list = absurd (false≢true (list.same l j number index ∙ has_late))
    longer (first ∷ later) list =
        let one : runs ++ first ∷ later ≡ runs_of pairs = same_list pairs _ _ (whole first later list) (runs_list pairs) in
        subst (λ all. length runs < length all) one (omega (arith, length-append runs (first ∷ later)))

pub longer_list : MoreRuns
longer_list pairs runs l j before number index has gap = longer pairs runs l j before number index has gap (runs_of (late pairs runs l j before number index has gap)) (runs_list (late pairs runs l j before number index has gap))
