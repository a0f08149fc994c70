-- Which pairs two clones list, and how their list is sent.
use Rattle.std.proofs.Common.{inl, inr, ◌⊎◌, ◌≡◌, ℕ, zero, suc, ◌<◌, ◌≤◌, false, List, [], ◌∷◌, Some, refl, sym, ap, ◌∙◌, arith, subst, ◌==◌, if◌then◌else◌, ne_eqb}
use Rattle.std.proofs.Math.Path.{fun_ext}
use Rattle.std.proofs.lemmas.Bool.{cases_eq, cond-false, and_left}
use Rattle.zst_model.specs.declared.sends.header.Header.{Header}
use Rattle.zst_model.specs.declared.states.item.Change.TheVariants.{FreeFrom, Redact, Write}
use Rattle.zst_model.specs.declared.states.item.Item.{Item}
use Rattle.zst_model.specs.declared.states.item.Item.TheVariants.{At}
use Rattle.zst_model.specs.states.State.{Block, Hole, Redacted, Data, index_bound, past_last}
use Rattle.zst_model.specs.pools.RedSet.{is_user_block, is_data}
use Rattle.zst_model.specs.sends.View.{View, ObjectView, Left, There, object_view, view_of}
use Rattle.zst_model.specs.sends.Items.{before, items, joined, origin}
use Rattle.zst_laws.specs.ExactSends.{full}
use Rattle.zst_laws.specs.Walk.{walk_left}
use Rattle.zst_laws.specs.FileExample.{file_of, file_put, padded, rest_gone}
use Rattle.zst_laws.specs.RedactExample.{of_three, three, middle, listed, TwoClonesList, RedactedItems}
use Rattle.zst_laws.proofs.examples.FileExamples.{none_outside, opening_is, full_own, full_gone, full_block}
use Rattle.zst_laws.proofs.examples.OneObject.{one_is, end_is, from_start, ends_gone}
use Rattle.zst_laws.proofs.sends.Walk.{block_run_next}
use Rattle.zst_laws.proofs.examples.SentObjects.{only}

-- nothing is listed of what is no data
unlisted : (k i : ℕ) → is_user_block (three.state k) i ≡ false → listed k i ≡ false
unlisted k i h = and_left (is_user_block (three.state k) i) _ h

-- past the three indices
other_three : {A : Type 0} (a b c other : A) (i : ℕ) → 3 ≤ i → of_three a b c other i ≡ other
other_three a b c other i l =
    cond-false (i == 0) _ _ (ne_eqb i 0 (λ e. omega (arith, e)))
    ∙ cond-false (i == 1) _ _ (ne_eqb i 1 (λ e. omega (arith, e)))
    ∙ cond-false (i == 2) _ _ (ne_eqb i 2 (λ e. omega (arith, e)))

in_file : (i : ℕ) → listed 1 i ≡ (i == 1)
unfolding index_bound
in_file zero = refl
in_file (suc zero) = refl
in_file (suc (suc zero)) = refl
in_file (suc (suc (suc i))) =
    let far : 3 ≤ suc (suc (suc i)) = omega arith in
    unlisted 1 (suc (suc (suc i))) (ap is_data (other_three _ _ _ Hole (suc (suc (suc i))) far)) ∙ sym (ne_eqb (suc (suc (suc i))) 1 (λ e. omega (arith, e)))

pub two_clones_list : TwoClonesList
two_clones_list k i = go (cases_eq k 1)
  where
    go : (k ≡ 1) ⊎ (k ≡ 1 → ⊥) → listed k i ≡ middle k i
    go (inl e) = subst (λ j. listed j i ≡ middle j i) (sym e) (in_file i)
    go (inr e) =
        let other : (k == 1) ≡ false = ne_eqb k 1 e in
        unlisted k i (ap (λ o. is_user_block o i) (cond-false (k == 1) _ _ other)) ∙ sym (and_left (k == 1) (i == 1) other)

-- the stream
abbrev three_blocks : ℕ → Block
three_blocks = of_three (Data (padded 160)) (Data (padded 161)) (Data (padded 162)) Hole

index_far : 2 < index_bound
unfolding index_bound
index_far = omega arith

three_end : past_last three_blocks index_bound ≡ 3
three_end = end_is three_blocks 2 index_bound index_far refl (λ i l. other_three _ _ _ Hole i (omega arith))

module _ (header : Header) where
  abbrev v : View
  v = view_of header three (full middle)

  abbrev o : ObjectView
  o = object_view three (full middle) 1 (file_of three_blocks)

  abbrev left_from : ℕ → List Item
  left_from offset = walk_left v (record { object = 1; offset = offset }) false

  own : v.shown 1 ≡ There o
  own = full_own header three_blocks three.number_date three.index_date middle

  out : v.shown 0 ≡ Left
  out = none_outside header three_blocks three.number_date three.index_date (full middle)

  block : (i : ℕ) → i < 3 → o.blocks i ≡ Some (if middle 1 i then Redacted else three_blocks i)
  block i l = full_block header three_blocks three.number_date three.index_date middle i (omega (arith, three_end))

  first : joined (left_from 0) ≡ joined (At 1 (Write 0 19 (padded 160)) ∷ left_from 512)
  first = block_run_next v (record { object = 1; offset = 0 }) o 0 1 (Data (padded 160)) one_is own (omega arith) (omega arith) (omega (arith, three_end)) (omega arith)
      (λ j l h. absurd (omega arith))
      (λ j a l. subst (λ i. o.blocks i ≡ Some (Data (padded 160))) (only 0 j a l) (block 0 (omega arith))) (λ b e. refl)

  second : joined (left_from 512) ≡ joined (At 1 (Redact 512 512) ∷ left_from 1024)
  second = block_run_next v (record { object = 1; offset = 512 }) o 1 1 Redacted one_is own (omega arith) (omega arith) (omega (arith, three_end)) (omega arith)
      (λ j l h. absurd (omega arith))
      (λ j a l. subst (λ i. o.blocks i ≡ Some Redacted) (only 1 j a l) (block 1 (omega arith))) (λ b e. refl)

  third : joined (left_from 1024) ≡ joined (At 1 (Write 1024 19 (padded 162)) ∷ left_from 1536)
  third = block_run_next v (record { object = 1; offset = 1024 }) o 2 1 (Data (padded 162)) one_is own (omega arith) (omega arith) (omega (arith, three_end)) (omega arith)
      (λ j l h. absurd (omega arith))
      (λ j a l. subst (λ i. o.blocks i ≡ Some (Data (padded 162))) (only 2 j a l) (block 2 (omega arith))) (λ b e. refl)

  ended : joined (left_from 1536) ≡ rest_gone ∷ []
  ended = ends_gone v o out own 1536 (λ j l h. absurd (omega (arith, three_end))) (full_gone header three_blocks three.number_date three.index_date middle)

  middle_items : items v origin
      ≡ file_put 2 ∷ At 1 (FreeFrom 1536) ∷ At 1 (Write 0 19 (padded 160)) ∷ At 1 (Redact 512 512) ∷ At 1 (Write 1024 19 (padded 162)) ∷ rest_gone ∷ []
  middle_items =
      from_start v o out own
      ∙ opening_is header three_blocks three.number_date three.index_date (full middle) 2 three_end (left_from 0)
      ∙ ap (λ l. before (file_put 2) (before (At 1 (FreeFrom 1536)) l)) (first
      ∙ ap (before (At 1 (Write 0 19 (padded 160)))) (second
      ∙ ap (before (At 1 (Redact 512 512))) (third
      ∙ ap (before (At 1 (Write 1024 19 (padded 162)))) ended)))

pub redacted_items : RedactedItems
redacted_items header =
    ap (λ pairs. items (view_of header three (full pairs)) origin) (fun_ext (λ k. fun_ext (λ i. two_clones_list k i))) ∙ middle_items header
