-- The items of whole objects and of an increment.
use Rattle.std.proofs.Common.{inl, inr, ◌⊎◌, ◌≡◌, ℕ, ◌+◌, ◌*◌, ◌<◌, ◌≤◌, true, false, List, [], ◌∷◌, ◌++◌, map, Option, Some, None, refl, sym, ap, ◌∙◌, arith, subst, nat_lt, nat_le, ◌==◌, if◌then◌else◌, replicate, ne_eqb}
use Rattle.std.proofs.lemmas.Bool.{cases_order, and_from, and_right, or_left, or_from, cond-true, cond-false, lt-ltb, lt-leb}
use Rattle.zst_model.specs.declared.sends.header.Header.{Header}
use Rattle.zst_model.specs.declared.states.item.Change.TheVariants.{Put, Spill, FreeFrom, Free, Write}
use Rattle.zst_model.specs.declared.states.item.Item.{Item}
use Rattle.zst_model.specs.declared.states.item.Item.TheVariants.{FreeObjects, At}
use Rattle.zst_model.specs.states.State.{Block, Hole, Data, Object, end_of, end_at, index_bound, number_bound, past_last}
use Rattle.zst_model.specs.states.DatedState.{DatedState}
use Rattle.zst_model.specs.sends.Inclusion.{Choice, no_pairs, is_after, includes_pair, includes_number}
use Rattle.zst_model.specs.sends.View.{View, ObjectView, Left, Gone, There, object_view, shown_object, view_of}
use Rattle.zst_model.specs.sends.Items.{before, change_at, joined, number_items, opening}
use Rattle.zst_model.proofs.ObjectNumbers.{number_from}
use Rattle.zst_laws.specs.ExactSends.{full}
use Rattle.zst_laws.specs.Walk.{run_change, number_rest, left_at, walk_left}
use Rattle.zst_laws.specs.FileExample.{file_of, first_block, padded, since, rest_gone}
use Rattle.zst_laws.specs.LineExample.{whole_object}
use Rattle.zst_laws.specs.SendExample.{whole, third_block, later, file_at, WholeItems, ChangedItems}
use Rattle.zst_laws.proofs.sends.ExactSends.{full_number, outside_left, pair_number}
use Rattle.zst_laws.proofs.examples.LineExamples.{whole_end}
use Rattle.zst_laws.proofs.examples.Meanings.{dated_number_is_included, equal_dates_are_left}
use Rattle.zst_laws.proofs.examples.OneObject.{one_is, end_is, from_start, ends_gone, done_below}
use Rattle.zst_laws.proofs.sends.Walk.{all_none, left_below, left_own, left_above, walk_stops, object_next, gone_next, block_run_next}

index_far : 2 < index_bound
unfolding index_bound
index_far = omega arith

number_far : 4 < number_bound
unfolding number_bound
number_far = omega arith

first_end : past_last first_block index_bound ≡ 1
first_end = end_is first_block 0 index_bound (omega (arith, index_far)) refl (λ i l. cond-false (i == 0) _ _ (ne_eqb i 0 (λ e. omega (arith, e))))

third_end : past_last third_block index_bound ≡ 3
third_end = end_is third_block 2 index_bound index_far refl (λ i l. cond-false (i == 2) _ _ (ne_eqb i 2 (λ e. omega (arith, e))))

pub only : (i j : ℕ) → i ≤ j → j < i + 1 → i ≡ j
only i j a l = omega arith

-- a stream without lists
module _ (header : Header) (snap : DatedState) (from : Option ℕ) where
  abbrev choice : Choice
  choice = record { from = from; source = no_pairs; redact = no_pairs }

  abbrev view : View
  view = view_of header snap choice

  outside : view.shown 0 ≡ Left
  outside = ap (λ t. if t then shown_object snap choice 0 (snap.state 0) else Left) (outside_left snap choice 0 refl)

  shown_is : (k : ℕ) → includes_number snap choice k ≡ true → view.shown k ≡ shown_object snap choice k (snap.state k)
  shown_is k h = ap (λ t. if t then shown_object snap choice k (snap.state k) else Left) h

  shown_left : (k : ℕ) → includes_number snap choice k ≡ false → view.shown k ≡ Left
  shown_left k h = ap (λ t. if t then shown_object snap choice k (snap.state k) else Left) h

  module _ (k : ℕ) (object : Object) (stands : snap.state k ≡ Some object) where
    abbrev object_shown : ObjectView
    object_shown = object_view snap choice k object

    included : (i : ℕ) → i < end_of object → is_after from (snap.index_date k i) ≡ true → includes_pair snap choice k i ≡ true
    included i l d = and_from (nat_lt i (end_at (snap.state k))) _ (ap (λ o. nat_lt i (end_at o)) stands ∙ lt-ltb _ _ l) (or_left (is_after from (snap.index_date k i)) _ d)

    block_there : (i : ℕ) → i < end_of object → is_after from (snap.index_date k i) ≡ true → object_shown.blocks i ≡ Some (object.blocks i)
    block_there i l d = cond-true (includes_pair snap choice k i) _ _ (included i l d)

    block_left : (i : ℕ) → is_after from (snap.index_date k i) ≡ false → object_shown.blocks i ≡ None
    block_left i d = cond-false (includes_pair snap choice k i) _ _ (and_right (nat_lt i (end_at (snap.state k))) _ (or_from (is_after from (snap.index_date k i)) _ d refl))

-- the opening of an object whose end is known
opened : (k : ℕ) (object : ObjectView) (end : ℕ) → object.end ≡ end → (rest : List Item)
    → joined (map (At k) (opening object) ++ rest) ≡ joined (map (At k) (opening (record object { end = end })) ++ rest)
opened k object end e rest = ap (λ n. joined (map (At k) (opening (record object { end = n })) ++ rest)) e

-- one block of an object
one_block : (view : View) (k offset : ℕ) (object : ObjectView) (i : ℕ) (block : Block) → 0 < k → k < number_bound → view.shown k ≡ There object
    → 0 < object.attr.block_size → i < object.end → offset ≤ i * object.attr.block_size
    → ((j : ℕ) → j < i → offset ≤ j * object.attr.block_size → object.blocks j ≡ None) → object.blocks i ≡ Some block
    → joined (walk_left view (record { object = k; offset = offset }) false)
    ≡ joined (At k (run_change object.attr i 1 block) ∷ walk_left view (record { object = k; offset = (i + 1) * object.attr.block_size }) false)
one_block view k offset object i block low high own size l place none is =
    block_run_next view (record { object = k; offset = offset }) object i 1 block (number_from k low high) own size (omega arith) (omega arith) place none
    (λ j a m. subst (λ n. object.blocks n ≡ Some block) (only i j a m) is) (λ b e. refl)

module _ (header : Header) where
  abbrev all : View
  all = view_of header whole (full no_pairs)

  abbrev body : ObjectView
  body = object_view whole (full no_pairs) 1 whole_object

  body_shown : all.shown 1 ≡ There body
  body_shown = shown_is header whole None 1 (full_number whole no_pairs 1 true one_is)

  rest_is_gone : (k : ℕ) → 2 ≤ k → k < number_bound → all.shown k ≡ Gone
  rest_is_gone k low high =
      shown_is header whole None k (full_number whole no_pairs k true (number_from k (omega arith) high))
      ∙ ap (shown_object whole (full no_pairs) k) (cond-false (k == 1) _ _ (ne_eqb k 1 (λ e. omega (arith, e))))

  abbrev all_left : ℕ → List Item
  all_left offset = walk_left all (record { object = 1; offset = offset }) false

  hole_sent : joined (all_left 0) ≡ joined (At 1 (Free 0 1024) ∷ all_left 1024)
  hole_sent = one_block all 1 0 body 0 Hole (omega arith) (omega (arith, number_far)) body_shown (omega arith) (omega (arith, whole_end)) (omega arith)
      (λ j l h. absurd (omega arith)) (block_there header whole None 1 whole_object refl 0 (omega (arith, whole_end)) refl)

  block_sent : joined (all_left 1024) ≡ joined (At 1 (Write 1024 20 (replicate 1024 1)) ∷ all_left 2048)
  block_sent = one_block all 1 1024 body 1 (Data (replicate 1024 1)) (omega arith) (omega (arith, number_far)) body_shown (omega arith) (omega (arith, whole_end)) (omega arith)
      (λ j l h. absurd (omega arith)) (block_there header whole None 1 whole_object refl 1 (omega (arith, whole_end)) refl)

  all_ended : joined (all_left 2048) ≡ rest_gone ∷ []
  all_ended = ends_gone all body (outside header whole None) body_shown 2048 (λ j l h. absurd (omega (arith, whole_end))) rest_is_gone

pub whole_items : WholeItems
whole_items header =
    from_start (all header) (body header) (outside header whole None) (body_shown header)
    ∙ opened 1 (body header) 2 whole_end (all_left header 0)
    ∙ ap (λ l. before (At 1 (Put (record { type_ = 20; bonus_type = 44; block_size = 1024 }) (1 ∷ 2 ∷ 3 ∷ []) false 1)) (before (At 1 (Spill (replicate 512 9))) (before (At 1 (FreeFrom 2048)) l)))
    (hole_sent header ∙ ap (before (At 1 (Free 0 1024))) (block_sent header ∙ ap (before (At 1 (Write 1024 20 (replicate 1024 1)))) (all_ended header)))

module _ (header : Header) where
  abbrev since_five : View
  since_five = view_of header later (since 5)

  abbrev first_file : ObjectView
  first_file = object_view later (since 5) 1 (file_of third_block)

  abbrev third_file : ObjectView
  third_file = object_view later (since 5) 3 (file_of first_block)

  first_shown : since_five.shown 1 ≡ There first_file
  first_shown =
      shown_is header later (Some 5) 1 (pair_number later (since 5) 1 0 one_is (omega (arith, index_far))
      (included header later (Some 5) 1 (file_of third_block) refl 0 (omega (arith, third_end)) refl))

  freed_shown : since_five.shown 2 ≡ Gone
  freed_shown = shown_is header later (Some 5) 2 (dated_number_is_included later (since 5) 5 2 refl (number_from 2 (omega arith) (omega (arith, number_far))) (omega arith))

  third_shown : since_five.shown 3 ≡ There third_file
  third_shown = shown_is header later (Some 5) 3 (dated_number_is_included later (since 5) 5 3 refl (number_from 3 (omega arith) (omega (arith, number_far))) (omega arith))

  -- nothing is dated of the numbers from 4 on
  undated : {A : Type 0} (a b c none : A) (k : ℕ) → 4 ≤ k → (if k == 1 then a else (if k == 2 then b else (if k == 3 then c else none))) ≡ none
  undated a b c none k l =
      cond-false (k == 1) _ _ (ne_eqb k 1 (λ e. omega (arith, e)))
      ∙ cond-false (k == 2) _ _ (ne_eqb k 2 (λ e. omega (arith, e)))
      ∙ cond-false (k == 3) _ _ (ne_eqb k 3 (λ e. omega (arith, e)))

  others_left : (k : ℕ) → 4 ≤ k → since_five.shown k ≡ Left
  others_left k l =
      let number : later.number_date k ≡ 0 = undated 3 8 9 0 k l in
      shown_left header later (Some 5) k (equal_dates_are_left later (since 5) 5 k refl (omega (arith, number))
      (λ i. let index : later.index_date k i ≡ 0 = undated _ 8 _ 0 k l in (omega (arith, index), refl, refl)))

  abbrev left_from : ℕ → ℕ → List Item
  left_from k offset = walk_left since_five (record { object = k; offset = offset }) false

  punched : joined (left_from 1 0) ≡ joined (At 1 (Free 0 512) ∷ left_from 1 512)
  punched = one_block since_five 1 0 first_file 0 Hole (omega arith) (omega (arith, number_far)) first_shown (omega arith) (omega (arith, third_end)) (omega arith)
      (λ j l h. absurd (omega arith)) (block_there header later (Some 5) 1 (file_of third_block) refl 0 (omega (arith, third_end)) refl)

  unsent : (j : ℕ) → j < 2 → 512 ≤ j * 512 → first_file.blocks j ≡ None
  unsent j l h =
      let second : 1 ≡ j = omega arith in
      subst (λ i. first_file.blocks i ≡ None) second (block_left header later (Some 5) 1 (file_of third_block) refl 1 refl)

  written : joined (left_from 1 512) ≡ joined (At 1 (Write 1024 19 (padded 187)) ∷ left_from 1 1536)
  written = one_block since_five 1 512 first_file 2 (Data (padded 187)) (omega arith) (omega (arith, number_far)) first_shown (omega arith) (omega (arith, third_end)) (omega arith)
      unsent (block_there header later (Some 5) 1 (file_of third_block) refl 2 (omega (arith, third_end)) refl)

  freed : left_from 1 1536 ≡ FreeObjects 2 1 ∷ walk_left since_five (record { object = 3; offset = 0 }) true
  freed = gone_next since_five (record { object = 1; offset = 1536 }) false 2 (number_from 2 (omega arith) (omega (arith, number_far)))
      (done_below since_five first_file (outside header later (Some 5)) first_shown 1536 (λ j l h. absurd (omega (arith, third_end)))) (omega arith) (λ e. omega arith) freed_shown

  made : walk_left since_five (record { object = 3; offset = 0 }) true ≡ map (At 3) (opening third_file) ++ left_from 3 0
  made = object_next since_five (record { object = 3; offset = 0 }) true 3 third_file (number_from 3 (omega arith) (omega (arith, number_far)))
      (left_below since_five (record { object = 3; offset = 0 }) true) (omega arith) (λ e. absurd (cc)) third_shown

  filled : joined (left_from 3 0) ≡ joined (At 3 (Write 0 19 (padded 170)) ∷ left_from 3 512)
  filled = one_block since_five 3 0 third_file 0 (Data (padded 170)) (omega arith) (omega (arith, number_far)) third_shown (omega arith) (omega (arith, first_end)) (omega arith)
      (λ j l h. absurd (omega arith)) (block_there header later (Some 5) 3 (file_of first_block) refl 0 (omega (arith, first_end)) refl)

  ended : left_from 3 512 ≡ []
  ended = walk_stops since_five (record { object = 3; offset = 512 }) false (λ j l. go j (cases_order j 3))
    where
      past : (j : ℕ) → j < third_file.end → change_at third_file 512 j ≡ []
      past j l = cond-false (nat_le 512 (j * 512)) _ _ (lt-leb _ _ (omega (arith, first_end)))

      go : (j : ℕ) → (j ≡ 3) ⊎ ((j < 3) ⊎ (3 < j)) → left_at since_five (record { object = 3; offset = 512 }) false j ≡ []
      go j (inl e) = subst (λ k. left_at since_five (record { object = 3; offset = 512 }) false k ≡ []) (sym e)
          (left_own since_five (record { object = 3; offset = 512 }) false ∙ ap (number_rest 3 512) third_shown
          ∙ ap (map (At 3)) (all_none (change_at third_file 512) third_file.end 0 (λ i l. past i (omega arith))))
      go j (inr (inl l)) = left_below since_five (record { object = 3; offset = 512 }) false j l
      go j (inr (inr l)) = left_above since_five (record { object = 3; offset = 512 }) false j l ∙ ap (number_items j 0) (others_left j l)

pub changed_items : ChangedItems
changed_items header =
    from_start (since_five header) (first_file header) (outside header later (Some 5)) (first_shown header)
    ∙ opened 1 (first_file header) 3 third_end (left_from header 1 0)
    ∙ ap (λ l. before (file_at 1 2) (before (At 1 (FreeFrom 1536)) l)) (punched header
    ∙ ap (before (At 1 (Free 0 512))) (written header
    ∙ ap (λ l. before (At 1 (Write 1024 19 (padded 187))) (joined l)) (freed header)
    ∙ ap (λ l. before (At 1 (Write 1024 19 (padded 187))) (before (FreeObjects 2 1) (joined l))) (made header)
    ∙ ap (λ l. before (At 1 (Write 1024 19 (padded 187))) (before (FreeObjects 2 1) l)) (opened 3 (third_file header) 1 first_end (left_from header 3 0)
    ∙ ap (λ l. before (file_at 3 0) (before (At 3 (FreeFrom 512)) l)) (filled header
    ∙ ap (λ l. before (At 3 (Write 0 19 (padded 170))) (joined l)) (ended header)))))
