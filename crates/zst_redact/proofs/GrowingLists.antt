-- A list that grows by runs of a set's pairs, one after another.
use Rattle.std.proofs.Common.{◌≡◌, ◌⊎◌, inl, inr, ℕ, ◌+◌, ◌-◌, ◌*◌, ◌^◌, ◌<◌, ◌≤◌, Bool, true, false, refl, sym, ap, ◌∙◌, ⊎_elim, arith, [], length, nat_le, nat_lt, ◌==◌, ◌&&◌, ◌||◌}
use Rattle.std.specs.Prelude.{Err}
use Rattle.std.proofs.lemmas.Bool.{and_from, cases_Bool, false≢true, le-leb, lt-ltb, or_from}
use Rattle.std.proofs.lemmas.Bool.Decides.{nat_tests}
use Rattle.zst_model.specs.declared.states.cell.Run.{Run}
use Rattle.zst_model.specs.fields.Lists.{HasNoneFrom, IsAtOrAfter, IsLeastFrom, IsRunList, Runs, has_pair, is_in_run, is_run}
use Rattle.zst_model.specs.fields.PushedRuns.{IsFull}
use Rattle.zst_model.specs.fields.RunsOf.{IsListBefore, is_earlier, runs_of}
use Rattle.zst_model.specs.pools.Limits.{most_runs}
use Rattle.zst_model.specs.sends.Inclusion.{Pairs}
use Rattle.zst_model.specs.states.State.{index_bound, is_number}
use Rattle.zst_model.proofs.OneList.{same_list}
use Rattle.zst_model.proofs.RunsOf.{longer_list, runs_list}
use Rattle.zst_tree.specs.declared.or_memory.OrMemory.{OrMemory}
use Rattle.zst_tree.specs.declared.or_memory.OrMemory.TheVariants.{Fault, Memory}
use Rattle.zst_objset.proofs.LeafLaws.{is_number_at}
use Rattle.zst_redact.specs.BuiltLists.{BuildsList, PutsRun}
use Rattle.zst_redact.specs.Passes.{IsRunFrom, RunFits}
use Rattle.zst_redact.specs.declared.fault.RedactFault.{RedactFault}
use Rattle.zst_redact.specs.declared.fault.RedactFault.TheVariants.{Limit, Block}
use Rattle.zst_redact.proofs.LeastPairs.{AreBounded, after_both}

-- a pair is earlier than another, or at or after it
earlier_or : (k i l j : ℕ) → (is_earlier l j k i ≡ true) ⊎ (IsAtOrAfter k i l j)
earlier_or k i l j = ⊎_elim (λ before. inl before) (λ isnt. inr (at k i l j isnt)) (cases_Bool (is_earlier l j k i))
  where
    at : (k i l j : ℕ) → is_earlier l j k i ≡ false → IsAtOrAfter k i l j
    at k i l j isnt = grind (arith, nat_tests)

not_earlier : (k i l j : ℕ) → IsAtOrAfter k i l j → is_earlier l j k i ≡ false
not_earlier k i l j after = grind (arith, nat_tests)

-- what is earlier than a pair is earlier than what stands at or after it
earlier_on : (k i m n l j : ℕ) → IsAtOrAfter k i m n → is_earlier l j k i ≡ true → is_earlier l j m n ≡ true
earlier_on k i m n l j after earlier = grind (arith, nat_tests)

-- behind a run's pairs they and all before them are earlier
earlier_behind : (k i n l j : ℕ) → is_earlier l j k (i + n) ≡ (is_earlier l j k i || (k == l && (nat_le i j && nat_lt j (i + n))))
earlier_behind k i n l j = grind (arith, nat_tests)

behind_first : (k i n l j : ℕ) → IsAtOrAfter k (i + n) l j → IsAtOrAfter k i l j
behind_first k i n l j after = grind arith

not_inside : (k i n l j : ℕ) → IsAtOrAfter k (i + n) l j → (k == l && (nat_le i j && nat_lt j (i + n))) ≡ false
not_inside k i n l j after = grind (arith, nat_tests)

-- the first pair is a number's
start_late : (l j : ℕ) → is_number l ≡ true → is_earlier l j 1 0 ≡ false
start_late l j is = grind (arith, nat_tests)

-- no pair of a list stands at or after one where none stands there after another
pub none_after : (runs : Runs) (k i l j : ℕ) → IsAtOrAfter k i l j → HasNoneFrom (has_pair runs) k i → HasNoneFrom (has_pair runs) l j
none_after runs k i l j after none m n at = none m n (after_both k i l j m n after at)

-- nor behind a run that is put in
pub none_behind : (old new : Runs) (run : Run) → ((l j : ℕ) → has_pair new l j ≡ (has_pair old l j || is_in_run run l j)) → HasNoneFrom (has_pair old) run.object run.first → HasNoneFrom (has_pair new) run.object (run.first + run.count)
none_behind old new run puts none l j at =
    puts l j ∙ or_from (has_pair old l j) (is_in_run run l j) (none l j (behind_first run.object run.first run.count l j at)) (not_inside run.object run.first run.count l j at)

module _ (pairs : Pairs) where
  -- nothing is before the first pair
  pub list_begins : IsListBefore pairs 1 0 []
  list_begins = record {
    list = record {
      lawful = refl;
      same = λ l j is under. sym (none (pairs l j) (is_earlier l j 1 0) (start_late l j is));
    };
  }
    where
      none : (p e : Bool) → e ≡ false → (p && e) ≡ false
      none true e is = is
      none false e is = refl

  -- where no pair stands between, the list of those before the one is that of those before the other
  moved : (runs : Runs) (k i m n : ℕ) → IsListBefore pairs k i runs → IsLeastFrom pairs k i m n → IsListBefore pairs m n runs
  moved runs k i m n before least = record {
    list = record {
      lawful = before.list.lawful;
      same = λ l j is under. before.list.same l j is under ∙ go l j (pairs l j) refl;
    };
  }
    where
      go : (l j : ℕ) (p : Bool) → pairs l j ≡ p → (p && is_earlier l j k i) ≡ (p && is_earlier l j m n)
      go l j false has = refl
      go l j true has = ⊎_elim
          (λ earlier. earlier ∙ sym (earlier_on k i m n l j least.after earlier))
          (λ after. not_earlier k i l j after ∙ sym (not_earlier m n l j (least.least l j has after)))
          (earlier_or k i l j)

  -- with the next run put in it is that of those before the pair behind the run
  pub list_grows : (old new : Runs) (k i : ℕ) (run : Run) → IsListBefore pairs k i old → IsRunFrom pairs k i run → IsRunList new → ((l j : ℕ) → has_pair new l j ≡ (has_pair old l j || is_in_run run l j))
      → IsListBefore pairs run.object (run.first + run.count) new
  list_grows old new k i run before next lawful puts = record {
    list = record {
      lawful = lawful;
      same = λ l j is under.
          puts l j
          ∙ ap (λ t. t || is_in_run run l j) ((moved old k i run.object run.first before next.least).list.same l j is under)
          ∙ go l j (pairs l j) refl (is_in_run run l j) refl;
    };
  }
    where
      go : (l j : ℕ) (p : Bool) → pairs l j ≡ p → (t : Bool) → is_in_run run l j ≡ t → ((p && is_earlier l j run.object run.first) || t) ≡ (p && is_earlier l j run.object (run.first + run.count))
      go l j true has t here = ap (λ u. is_earlier l j run.object run.first || u) (sym here) ∙ sym (earlier_behind run.object run.first run.count l j)
      go l j false has false here = refl
      go l j false has true here = absurd (false≢true (sym has ∙ next.all l j here))

  -- where it is full, the list of all is too long
  pub too_long : (old new : Runs) (k i m n : ℕ) → AreBounded pairs → IsListBefore pairs k i old → IsLeastFrom pairs k i m n → IsFull old new m n → most_runs < length (runs_of pairs)
  too_long old new k i m n bounded before least full =
      let many = full.many in
      let more = longer_list pairs old m n (moved old k i m n before least) (bounded.number m n least.has) (bounded.index m n least.has) least.has full.alone in
      omega (arith, many, more)

  -- where no pair is left, it is the list of all
  pub list_ends : (runs : Runs) (k i : ℕ) → IsListBefore pairs k i runs → HasNoneFrom pairs k i → runs ≡ runs_of pairs
  list_ends runs k i before none = same_list pairs runs (runs_of pairs) (record { lawful = before.list.lawful; same = λ l j is under. before.list.same l j is under ∙ go l j (pairs l j) refl }) (runs_list pairs)
    where
      go : (l j : ℕ) (p : Bool) → pairs l j ≡ p → (p && is_earlier l j k i) ≡ p
      go l j false has = refl
      go l j true has = ⊎_elim
          (λ earlier. earlier)
          (λ after. absurd (false≢true (sym (none l j after) ∙ has)))
          (earlier_or k i l j)

-- a number at or after a pair's isn't 0 where that isn't
pub later_number : (k i l j : ℕ) → 0 < k → IsAtOrAfter k i l j → 0 < l
later_number k i l j some after = ⊎_elim (λ above. omega (arith, some, above)) (λ same. let e = same.0 in omega (arith, some, e)) after

-- the search goes on, and numbers and indices have bounds
pub measure_falls : (start : ℕ × ℕ) (run : Run) → RunFits start run
    → (281474976710656 - run.object) * 17592186044416 + (17592186044416 - (run.first + run.count)) < (281474976710656 - start.0) * 17592186044416 + (17592186044416 - start.1)
measure_falls start run fits = go start.0 start.1 run.object run.first run.count fits.after fits.number fits.some fits.end
  where
    go : (k i l j n : ℕ) → IsAtOrAfter k i l j → l < 2 ^ 48 → 0 < n → j + n ≤ 2 ^ 43
        → (281474976710656 - l) * 17592186044416 + (17592186044416 - (j + n)) < (281474976710656 - k) * 17592186044416 + (17592186044416 - i)
    go k i l j n after number some end = ⊎_elim (λ above. omega (arith, number, some, end, above)) (λ same. let e = same.0 in let on = same.1 in omega (arith, number, some, end, e, on)) after

-- some indices below the bound
sizes : (i n : ℕ) → 0 < n → i + n ≤ 2 ^ 43 → (nat_lt 0 n && nat_le (i + n) index_bound) ≡ true
unfolding index_bound
sizes i n some end = and_from (nat_lt 0 n) (nat_le (i + n) index_bound) (lt-ltb 0 n some) (le-leb (i + n) index_bound end)

-- a run at or after a pair of some number is one that a list may have
pub found_run : (start : ℕ × ℕ) (run : Run) → 0 < start.0 → RunFits start run → is_run run ≡ true
found_run start run some fits =
    and_from (is_number run.object) (nat_lt 0 run.count && nat_le (run.first + run.count) index_bound)
    (is_number_at run.object (later_number start.0 start.1 run.object run.first some fits.after) fits.number)
    (sizes run.first run.count fits.some fits.end)

-- a run is refused where the list of all is too long
pub put_refused : (pairs : Pairs) (old new : Runs) (k i : ℕ) (run : Run) → AreBounded pairs → IsListBefore pairs k i old → IsLeastFrom pairs k i run.object run.first → (fault : OrMemory RedactFault) → PutsRun old new run (Err fault)
    → BuildsList (runs_of pairs) (Err fault)
put_refused pairs old new k i run bounded before least (Fault Limit) full = too_long pairs old new k i run.object run.first bounded before least full
put_refused pairs old new k i run bounded before least (Fault (Block fault)) told = absurd told
put_refused pairs old new k i run bounded before least Memory told = tt
