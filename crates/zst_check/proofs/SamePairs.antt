-- A list that has the same pairs as a set.
use Rattle.std.proofs.Common.{◌≡◌, ◌⊎◌, inl, inr, ℕ, zero, suc, ◌+◌, ◌-◌, ◌*◌, ◌^◌, ◌<◌, ◌≤◌, true, false, List, [], ◌∷◌, refl, sym, ◌∙◌, ap, ⊎_elim, arith, nat_lt}
use Rattle.std.specs.Prelude.{Option}
use Rattle.std.specs.List.{list_all}
use Rattle.std.proofs.lemmas.Bool.{and_left, cases_Bool, or_from}
use Rattle.std.proofs.lemmas.Bool.Decides.{nat_tests}
use Rattle.zst_model.specs.declared.states.cell.Run.{Run}
use Rattle.zst_model.specs.fields.Lists.{HasNoneFrom, IsAtOrAfter, IsRunList, Runs, has_pair, is_in_run, is_run}
use Rattle.zst_model.specs.fields.RunsOf.{is_earlier}
use Rattle.zst_model.specs.pools.RedSet.{is_user_block, red_set}
use Rattle.zst_model.specs.sends.Inclusion.{Pairs}
use Rattle.zst_model.specs.states.DatedState.{DatedState}
use Rattle.zst_model.specs.states.State.{IsState, Object, State, is_number}
use Rattle.zst_model.proofs.ObjectNumbers.{absent_outside}
use Rattle.zst_model.proofs.RunLists.{first_is_lawful, rest_is_lawful}
use Rattle.zst_check.specs.ListPairs.{MovesTo}

-- before a pair two sets have the same pairs of the objects from 1 on
pub record AreSameBefore (wanted listed : Pairs) (object block : ℕ) : Type 0 where
  pub same : (k i : ℕ) → 0 < k → is_earlier k i object block ≡ true → listed k i ≡ wanted k i

-- none stands before the first
pub same_none : (wanted listed : Pairs) → AreSameBefore wanted listed 1 0
same_none wanted listed = record { same = λ k i some early. absurd (none k i some early) }
  where
    none : (k i : ℕ) → 0 < k → is_earlier k i 1 0 ≡ true → ⊥
    none k i some early = grind (arith, nat_tests)

-- a pair is earlier than another, or at or after it
earlier_or : (k i l j : ℕ) → (is_earlier l j k i ≡ true) ⊎ (IsAtOrAfter k i l j)
earlier_or k i l j = ⊎_elim (λ before. inl before) (λ isnt. inr (at k i l j isnt)) (cases_Bool (is_earlier l j k i))
  where
    at : (k i l j : ℕ) → is_earlier l j k i ≡ false → IsAtOrAfter k i l j
    at k i l j isnt = grind (arith, nat_tests)

module _ (wanted listed : Pairs) (object block : ℕ) (was : AreSameBefore wanted listed object block) where
  -- they have the same further on
  pub same_on : (to index : ℕ) → ((k i : ℕ) → IsAtOrAfter object block k i → is_earlier k i to index ≡ true → listed k i ≡ wanted k i) → AreSameBefore wanted listed to index
  same_on to index alike = record { same = λ k i some early. ⊎_elim (λ before. was.same k i some before) (λ after. alike k i after early) (earlier_or object block k i) }

  -- and all the same, where neither has any more, or any of the object 0
  pub same_all : HasNoneFrom wanted object block → HasNoneFrom listed object block → ((i : ℕ) → listed 0 i ≡ wanted 0 i) → (k i : ℕ) → listed k i ≡ wanted k i
  same_all none neither first zero i = first i
  same_all none neither first (suc k) i =
      ⊎_elim (λ before. was.same (suc k) i (omega arith) before) (λ after. neither (suc k) i after ∙ sym (none (suc k) i after)) (earlier_or object block (suc k) i)

no_number : is_number 0 ≡ false
no_number = refl

-- a list has no pair of the object 0
pub none_listed : (runs : Runs) (i : ℕ) → IsRunList runs → has_pair runs 0 i ≡ false
none_listed [] i lawful = refl
none_listed (run ∷ rest) i lawful = or_from _ _ (not_zero run i (first_is_lawful run rest lawful)) (none_listed rest i (rest_is_lawful run rest lawful))
  where
    not_zero : (run : Run) (i : ℕ) → is_run run ≡ true → is_in_run run 0 i ≡ false
    not_zero run i lawful = grind (arith, nat_tests)

-- nor does a snapshot lose one
pub none_lost : (state : State) (number : ℕ) (kept : List DatedState) (i : ℕ) → IsState state → red_set state number kept 0 i ≡ false
none_lost state number kept i lawful =
    and_left (is_user_block (state 0) i) (list_all (λ redaction. nat_lt number (redaction.index_date 0 i)) kept) (ap (λ (o : Option Object). is_user_block o i) (absent_outside state lawful 0 no_number))

-- the search moves on, and numbers and indices have bounds
pub later_number : (start : ℕ × ℕ) (object block : ℕ) → 0 < start.0 → MovesTo start object block → 0 < object
later_number start object block some moves = let later = moves.later in go start.0 start.1 some later
  where
    go : (k i : ℕ) → 0 < k → is_earlier k i object block ≡ true → 0 < object
    go k i some later = grind (arith, nat_tests)

pub measure_falls : (start : ℕ × ℕ) (object block : ℕ) → MovesTo start object block
    → (281474976710656 - object) * 17592186044416 + (17592186044416 - block) < (281474976710656 - start.0) * 17592186044416 + (17592186044416 - start.1)
measure_falls start object block moves = go start.0 start.1 (parts start.0 start.1 moves.later) moves.number moves.some moves.end
  where
    parts : (k i : ℕ) → is_earlier k i object block ≡ true → (k < object) ⊎ ((k ≡ object) × (i < block))
    parts k i later = grind (arith, nat_tests)

    go : (k i : ℕ) → (k < object) ⊎ ((k ≡ object) × (i < block)) → object < 2 ^ 48 → 0 < block → block ≤ 2 ^ 43
        → (281474976710656 - object) * 17592186044416 + (17592186044416 - block) < (281474976710656 - k) * 17592186044416 + (17592186044416 - i)
    go k i later number some end = ⊎_elim (λ above. omega (arith, number, some, end, above)) (λ same. let e = same.0 in let on = same.1 in omega (arith, number, some, end, e, on)) later
