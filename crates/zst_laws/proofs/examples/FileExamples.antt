-- The items of snapshots of one file.
use Rattle.std.proofs.Common.{◌≡◌, ℕ, suc, ◌*◌, ◌<◌, ◌≤◌, Bool, true, false, List, [], ◌∷◌, ◌++◌, map, Some, None, refl, ap, ◌∙◌, arith, subst, nat_lt, nat_le, ◌==◌, ◌||◌, if◌then◌else◌, ne_eqb}
use Rattle.std.proofs.lemmas.Bool.{cond-true, cond-false, lt-ltb, le-ltb, and_from, and_left, and_right, or_from, or_left, or_right, le-leb}
use Rattle.zst_model.specs.declared.sends.header.Header.{Header}
use Rattle.zst_model.specs.declared.states.item.Change.TheVariants.{FreeFrom, Free, Write}
use Rattle.zst_model.specs.declared.states.item.Item.{Item}
use Rattle.zst_model.specs.declared.states.item.Item.TheVariants.{At}
use Rattle.zst_model.specs.states.State.{Block, Hole, Redacted, Data, number_bound, index_bound, is_number, past_last, end_at}
use Rattle.zst_model.specs.states.DatedState.{DatedState}
use Rattle.zst_model.specs.sends.Inclusion.{Pairs, Choice, no_pairs, is_late_pair, includes_pair, includes_number}
use Rattle.zst_model.specs.sends.View.{View, ObjectView, Left, Gone, There, object_view, shown_object, view_of}
use Rattle.zst_model.specs.sends.Items.{before, joined, opening}
use Rattle.zst_model.proofs.IndexTests.{any_passes}
use Rattle.zst_model.proofs.ObjectNumbers.{number_from}
use Rattle.zst_laws.specs.ExactSends.{full}
use Rattle.zst_laws.specs.Walk.{walk_left}
use Rattle.zst_laws.specs.FileExample.{file_of, file_put, one_file, padded, rest_gone, since, first_block, second_block, distant_blocks, small, rewritten, shortened, reallocated, distant, SmallItems, SmallPoints, RewrittenItems, ShortenedItems, ReallocatedItems, DistantItems}
use Rattle.zst_laws.proofs.sends.ExactSends.{full_number, outside_left, pair_number, below_bound}
use Rattle.zst_laws.proofs.sends.Walk.{block_run_next}
use Rattle.zst_laws.proofs.examples.OneObject.{one_is, end_is, none_passes, from_start, from_inside, ends_gone, ends_left}

index_far : 1073741825 < index_bound
unfolding index_bound
index_far = omega arith

module _ (header : Header) (blocks : ℕ → Block) (number_date : ℕ → ℕ) (index_date : ℕ → ℕ → ℕ) where
  abbrev snap : DatedState
  snap = record { state = one_file blocks; number_date = number_date; index_date = index_date }

  absent : (k : ℕ) → 2 ≤ k → one_file blocks k ≡ None
  absent k l = cond-false (k == 1) _ _ (ne_eqb k 1 (λ e. omega (arith, e)))

  module _ (choice : Choice) where
    abbrev view : View
    view = view_of header snap choice

    abbrev object : ObjectView
    object = object_view snap choice 1 (file_of blocks)

    pub none_outside : view.shown 0 ≡ Left
    none_outside = ap (λ t. if t then shown_object snap choice 0 (snap.state 0) else Left) (outside_left snap choice 0 refl)

    -- the opening of a file whose end is known
    pub opening_is : (last : ℕ) → past_last blocks index_bound ≡ suc last → (rest : List Item)
        → joined (map (At 1) (opening object) ++ rest) ≡ before (file_put last) (before (At 1 (FreeFrom (suc last * 512))) (joined rest))
    opening_is last ends rest = ap (λ e. joined (map (At 1) (opening (record object { end = e })) ++ rest)) ends

  -- the full stream, with these pairs redacted
  module _ (redact : Pairs) where
    pub full_own : (view (full redact)).shown 1 ≡ There (object (full redact))
    full_own = ap (λ t. if t then shown_object snap (full redact) 1 (snap.state 1) else Left) (full_number snap redact 1 true one_is)

    pub full_gone : (k : ℕ) → 2 ≤ k → k < number_bound → (view (full redact)).shown k ≡ Gone
    full_gone k low high =
        ap (λ t. if t then shown_object snap (full redact) k (snap.state k) else Left) (full_number snap redact k true (number_from k (omega arith) high))
        ∙ ap (shown_object snap (full redact) k) (absent k low)

    pub full_block : (i : ℕ) → i < past_last blocks index_bound → (object (full redact)).blocks i ≡ Some (if redact 1 i then Redacted else blocks i)
    full_block i l = cond-true (includes_pair snap (full redact) 1 i) _ _ (and_from (nat_lt i (past_last blocks index_bound)) _ (lt-ltb _ _ l) refl)

  -- an increment
  module _ (number : ℕ) where
    since_block : (i : ℕ) → i < past_last blocks index_bound → nat_lt number (index_date 1 i) ≡ true → (object (since number)).blocks i ≡ Some (blocks i)
    since_block i l d = cond-true (includes_pair snap (since number) 1 i) _ _ (and_from (nat_lt i (past_last blocks index_bound)) _ (lt-ltb _ _ l) (or_left (nat_lt number (index_date 1 i)) _ d))

    since_own : (i : ℕ) → i < past_last blocks index_bound → nat_lt number (index_date 1 i) ≡ true → (view (since number)).shown 1 ≡ There (object (since number))
    since_own i l d =
        ap (λ t. if t then shown_object snap (since number) 1 (snap.state 1) else Left)
        (pair_number snap (since number) 1 i one_is (below_bound (Some (file_of blocks)) i l)
        (and_from (nat_lt i (past_last blocks index_bound)) _ (lt-ltb _ _ l) (or_left (nat_lt number (index_date 1 i)) _ d)))

    since_left : ((k : ℕ) → 2 ≤ k → number_date k ≡ 0) → ((k i : ℕ) → 2 ≤ k → index_date k i ≡ 0) → (k : ℕ) → 2 ≤ k → (view (since number)).shown k ≡ Left
    unfolding includes_number
    since_left numbers indices k l =
        cond-false (includes_number snap (since number) k) _ _
        (and_right (is_number k) _ (or_from (nat_lt number (number_date k)) _ (ap (nat_lt number) (numbers k l) ∙ le-ltb number 0 (omega arith)) (none_passes _ index_bound (λ i. or_from (includes_pair snap (since number) k i) _ (pair i) (late i)))))
      where
        pair : (i : ℕ) → includes_pair snap (since number) k i ≡ false
        pair i = and_left (nat_lt i (end_at (one_file blocks k))) _ (ap (λ o. nat_lt i (end_at o)) (absent k l) ∙ le-ltb i 0 (omega arith))

        late : (i : ℕ) → is_late_pair snap (since number) k i ≡ false
        late i = and_right (nat_le (end_at (one_file blocks k)) i) _ (ap (nat_lt number) (indices k i l) ∙ le-ltb number 0 (omega arith))

only_zero : (j : ℕ) → j < 1 → 0 ≡ j
only_zero j l = omega arith

first_end : past_last first_block index_bound ≡ 1
first_end = end_is first_block 0 index_bound (omega (arith, index_far)) refl (λ i l. cond-false (i == 0) _ _ (ne_eqb i 0 (λ e. omega (arith, e))))

pub small_items : SmallItems
small_items header = (
  from_start v o out own ∙ opened ∙ ap (λ l. before (file_put 0) (before (At 1 (FreeFrom 512)) l)) (written ∙ ap (before (At 1 (Write 0 19 (padded 170)))) ended),
  from_inside v o out own 0 ∙ opened ∙ ap (λ l. before (file_put 0) (before (At 1 (FreeFrom 512)) l)) (written ∙ ap (before (At 1 (Write 0 19 (padded 170)))) ended),
  from_inside v o out own 512 ∙ opening_is header first_block small.number_date small.index_date (full no_pairs) 0 first_end (walk_left v (record { object = 1; offset = 512 }) false)
      ∙ ap (λ l. before (file_put 0) (before (At 1 (FreeFrom 512)) l)) ended,
)
  where
    v : View
    v = view_of header small (full no_pairs)

    o : ObjectView
    o = object_view small (full no_pairs) 1 (file_of first_block)

    out : v.shown 0 ≡ Left
    out = none_outside header first_block small.number_date small.index_date (full no_pairs)

    own : v.shown 1 ≡ There o
    own = full_own header first_block small.number_date small.index_date no_pairs

    opened : joined (map (At 1) (opening o) ++ walk_left v (record { object = 1; offset = 0 }) false)
        ≡ before (file_put 0) (before (At 1 (FreeFrom 512)) (joined (walk_left v (record { object = 1; offset = 0 }) false)))
    opened = opening_is header first_block small.number_date small.index_date (full no_pairs) 0 first_end (walk_left v (record { object = 1; offset = 0 }) false)

    block : (i : ℕ) → i < past_last first_block index_bound → o.blocks i ≡ Some (first_block i)
    block = full_block header first_block small.number_date small.index_date no_pairs

    written : joined (walk_left v (record { object = 1; offset = 0 }) false) ≡ before (At 1 (Write 0 19 (padded 170))) (joined (walk_left v (record { object = 1; offset = 512 }) false))
    written = block_run_next v (record { object = 1; offset = 0 }) o 0 1 (Data (padded 170)) one_is own (omega arith) (omega arith) (omega (arith, first_end)) (omega arith)
        (λ j l h. absurd (omega arith))
        (λ j a l. subst (λ i. o.blocks i ≡ Some (Data (padded 170))) (only_zero j l) (block 0 (omega (arith, first_end)))) (λ b e. refl)

    ended : joined (walk_left v (record { object = 1; offset = 512 }) false) ≡ rest_gone ∷ []
    ended = ends_gone v o out own 512 (λ j l h. absurd (omega (arith, first_end))) (full_gone header first_block small.number_date small.index_date no_pairs)

pub small_points : SmallPoints
unfolding padded number_bound
small_points = (refl, refl, refl, refl, refl)

-- dates of no other number
one_number : (date k : ℕ) → 2 ≤ k → ◌≡◌ {A = ℕ} (if k == 1 then date else 0) 0
one_number date k l = cond-false (k == 1) _ _ (ne_eqb k 1 (λ e. omega (arith, e)))

pub rewritten_items : RewrittenItems
unfolding index_bound
rewritten_items header =
    from_start v o out own
    ∙ opening_is header first_block rewritten.number_date rewritten.index_date (since 5) 0 first_end (walk_left v (record { object = 1; offset = 0 }) false)
    ∙ ap (λ l. before (file_put 0) (before (At 1 (FreeFrom 512)) l)) (written ∙ ap (λ l. before (At 1 (Write 0 19 (padded 170))) (joined l)) ended)
  where
    v : View
    v = view_of header rewritten (since 5)

    o : ObjectView
    o = object_view rewritten (since 5) 1 (file_of first_block)

    out : v.shown 0 ≡ Left
    out = none_outside header first_block rewritten.number_date rewritten.index_date (since 5)

    own : v.shown 1 ≡ There o
    own = since_own header first_block rewritten.number_date rewritten.index_date 5 0 (omega (arith, first_end)) refl

    written : joined (walk_left v (record { object = 1; offset = 0 }) false) ≡ before (At 1 (Write 0 19 (padded 170))) (joined (walk_left v (record { object = 1; offset = 512 }) false))
    written = block_run_next v (record { object = 1; offset = 0 }) o 0 1 (Data (padded 170)) one_is own (omega arith) (omega arith) (omega (arith, first_end)) (omega arith)
        (λ j l h. absurd (omega arith))
        (λ j a l. subst (λ i. o.blocks i ≡ Some (Data (padded 170))) (only_zero j l) (since_block header first_block rewritten.number_date rewritten.index_date 5 0 (omega (arith, first_end)) refl)) (λ b e. refl)

    ended : walk_left v (record { object = 1; offset = 512 }) false ≡ []
    ended = ends_left v o out own 512 (λ j l h. absurd (omega (arith, first_end)))
        (since_left header first_block rewritten.number_date rewritten.index_date 5 (λ k l. one_number 3 k l) (λ k i l. one_number (if nat_lt i index_bound then (if i == 0 then 6 else 3) else 0) k l))

pub shortened_items : ShortenedItems
unfolding index_bound includes_number
shortened_items header =
    from_start v o out own
    ∙ opening_is header first_block shortened.number_date shortened.index_date (since 5) 0 first_end (walk_left v (record { object = 1; offset = 0 }) false)
    ∙ ap (λ l. before (file_put 0) (before (At 1 (FreeFrom 512)) (joined l))) ended
  where
    v : View
    v = view_of header shortened (since 5)

    o : ObjectView
    o = object_view shortened (since 5) 1 (file_of first_block)

    out : v.shown 0 ≡ Left
    out = none_outside header first_block shortened.number_date shortened.index_date (since 5)

    late : is_late_pair shortened (since 5) 1 1 ≡ true
    late = and_from (nat_le (end_at (Some (file_of first_block))) 1) _ (le-leb _ _ (omega (arith, first_end))) refl

    passes : ℕ → Bool
    passes i = includes_pair shortened (since 5) 1 i || is_late_pair shortened (since 5) 1 i

    own : v.shown 1 ≡ There o
    own =
        ap (λ t. if t then shown_object shortened (since 5) 1 (Some (file_of first_block)) else Left)
        (and_from (is_number 1) _ one_is (or_right (nat_lt 5 (shortened.number_date 1)) _ (any_passes passes index_bound 1 (omega (arith, index_far)) (or_right (includes_pair shortened (since 5) 1 1) _ late))))

    old : (j : ℕ) → j < 1 → o.blocks j ≡ None
    old j l = subst (λ i. o.blocks i ≡ None) (only_zero j l) (cond-false (includes_pair shortened (since 5) 1 0) _ _ (and_right (nat_lt 0 (end_at (Some (file_of first_block)))) _ refl))

    ended : walk_left v (record { object = 1; offset = 0 }) false ≡ []
    ended = ends_left v o out own 0 (λ j l h. old j (omega (arith, first_end)))
        (since_left header first_block shortened.number_date shortened.index_date 5 (λ k l. one_number 3 k l)
        (λ k i l. one_number (if nat_lt i index_bound then (if i == 0 then 4 else (if i == 1 then 6 else 3)) else 0) k l))

second_end : past_last second_block index_bound ≡ 2
second_end = end_is second_block 1 index_bound (omega (arith, index_far)) refl (λ i l. cond-false (i == 1) _ _ (ne_eqb i 1 (λ e. omega (arith, e))))

pub reallocated_items : ReallocatedItems
unfolding index_bound
reallocated_items header =
    from_start v o out own
    ∙ opening_is header second_block reallocated.number_date reallocated.index_date (since 8) 1 second_end (walk_left v (record { object = 1; offset = 0 }) false)
    ∙ ap (λ l. before (file_put 1) (before (At 1 (FreeFrom 1024)) l)) (punched
    ∙ ap (before (At 1 (Free 0 512))) (written ∙ ap (λ l. before (At 1 (Write 512 19 (padded 187))) (joined l)) ended))
  where
    v : View
    v = view_of header reallocated (since 8)

    o : ObjectView
    o = object_view reallocated (since 8) 1 (file_of second_block)

    out : v.shown 0 ≡ Left
    out = none_outside header second_block reallocated.number_date reallocated.index_date (since 8)

    block : (i : ℕ) → i < past_last second_block index_bound → nat_lt 8 (reallocated.index_date 1 i) ≡ true → o.blocks i ≡ Some (second_block i)
    block = since_block header second_block reallocated.number_date reallocated.index_date 8

    own : v.shown 1 ≡ There o
    own = since_own header second_block reallocated.number_date reallocated.index_date 8 0 (omega (arith, second_end)) refl

    punched : joined (walk_left v (record { object = 1; offset = 0 }) false) ≡ before (At 1 (Free 0 512)) (joined (walk_left v (record { object = 1; offset = 512 }) false))
    punched = block_run_next v (record { object = 1; offset = 0 }) o 0 1 Hole one_is own (omega arith) (omega arith) (omega (arith, second_end)) (omega arith)
        (λ j l h. absurd (omega arith))
        (λ j a l. subst (λ i. o.blocks i ≡ Some Hole) (only_zero j l) (block 0 (omega (arith, second_end)) refl)) (λ b e. refl)

    only_one : (j : ℕ) → 1 ≤ j → j < 2 → 1 ≡ j
    only_one j a l = omega arith

    written : joined (walk_left v (record { object = 1; offset = 512 }) false) ≡ before (At 1 (Write 512 19 (padded 187))) (joined (walk_left v (record { object = 1; offset = 1024 }) false))
    written = block_run_next v (record { object = 1; offset = 512 }) o 1 1 (Data (padded 187)) one_is own (omega arith) (omega arith) (omega (arith, second_end)) (omega arith)
        (λ j l h. absurd (omega arith))
        (λ j a l. subst (λ i. o.blocks i ≡ Some (Data (padded 187))) (only_one j a l) (block 1 (omega (arith, second_end)) refl)) (λ b e. refl)

    ended : walk_left v (record { object = 1; offset = 1024 }) false ≡ []
    ended = ends_left v o out own 1024 (λ j l h. absurd (omega (arith, second_end)))
        (since_left header second_block reallocated.number_date reallocated.index_date 8 (λ k l. one_number 10 k l) (λ k i l. one_number (if nat_lt i index_bound then (if i == 1 then 11 else 10) else 0) k l))

distant_hole : (i : ℕ) → (i ≡ 0 → ⊥) → (i ≡ 1073741825 → ⊥) → distant_blocks i ≡ Hole
distant_hole i a b = cond-false (i == 0) _ _ (ne_eqb i 0 a) ∙ cond-false (i == 1073741825) _ _ (ne_eqb i 1073741825 b)

distant_end : past_last distant_blocks index_bound ≡ 1073741826
distant_end = end_is distant_blocks 1073741825 index_bound index_far refl (λ i l. distant_hole i (λ e. omega (arith, e)) (λ e. omega (arith, e)))

pub distant_items : DistantItems
distant_items header =
    from_start v o out own
    ∙ opening_is header distant_blocks distant.number_date distant.index_date (full no_pairs) 1073741825 distant_end (walk_left v (record { object = 1; offset = 0 }) false)
    ∙ ap (λ l. before (file_put 1073741825) (before (At 1 (FreeFrom 549755814912)) l)) (first
    ∙ ap (before (At 1 (Write 0 19 (padded 170)))) (punched
    ∙ ap (before (At 1 (Free 512 549755813888))) (last
    ∙ ap (before (At 1 (Write 549755814400 19 (padded 187)))) ended)))
  where
    v : View
    v = view_of header distant (full no_pairs)

    o : ObjectView
    o = object_view distant (full no_pairs) 1 (file_of distant_blocks)

    out : v.shown 0 ≡ Left
    out = none_outside header distant_blocks distant.number_date distant.index_date (full no_pairs)

    own : v.shown 1 ≡ There o
    own = full_own header distant_blocks distant.number_date distant.index_date no_pairs

    block : (i : ℕ) → i < past_last distant_blocks index_bound → o.blocks i ≡ Some (distant_blocks i)
    block = full_block header distant_blocks distant.number_date distant.index_date no_pairs

    first : joined (walk_left v (record { object = 1; offset = 0 }) false) ≡ before (At 1 (Write 0 19 (padded 170))) (joined (walk_left v (record { object = 1; offset = 512 }) false))
    first = block_run_next v (record { object = 1; offset = 0 }) o 0 1 (Data (padded 170)) one_is own (omega arith) (omega arith) (omega (arith, distant_end)) (omega arith)
        (λ j l h. absurd (omega arith))
        (λ j a l. subst (λ i. o.blocks i ≡ Some (Data (padded 170))) (only_zero j l) (block 0 (omega (arith, distant_end)))) (λ b e. refl)

    punched : joined (walk_left v (record { object = 1; offset = 512 }) false) ≡ before (At 1 (Free 512 549755813888)) (joined (walk_left v (record { object = 1; offset = 549755814400 }) false))
    punched = block_run_next v (record { object = 1; offset = 512 }) o 1 1073741824 Hole one_is own (omega arith) (omega arith) (omega (arith, distant_end)) (omega arith)
        (λ j l h. absurd (omega arith))
        (λ j a l. block j (omega (arith, distant_end)) ∙ ap (λ b. Some b) (distant_hole j (λ e. omega (arith, e)) (λ e. omega (arith, e)))) (λ b e. absurd (cc))

    only_last : (j : ℕ) → 1073741825 ≤ j → j < 1073741826 → 1073741825 ≡ j
    only_last j a l = omega arith

    last : joined (walk_left v (record { object = 1; offset = 549755814400 }) false) ≡ before (At 1 (Write 549755814400 19 (padded 187))) (joined (walk_left v (record { object = 1; offset = 549755814912 }) false))
    last = block_run_next v (record { object = 1; offset = 549755814400 }) o 1073741825 1 (Data (padded 187)) one_is own (omega arith) (omega arith) (omega (arith, distant_end)) (omega arith)
        (λ j l h. absurd (omega arith))
        (λ j a l. subst (λ i. o.blocks i ≡ Some (Data (padded 187))) (only_last j a l) (block 1073741825 (omega (arith, distant_end)))) (λ b e. refl)

    ended : joined (walk_left v (record { object = 1; offset = 549755814912 }) false) ≡ rest_gone ∷ []
    ended = ends_gone v o out own 549755814912 (λ j l h. absurd (omega (arith, distant_end))) (full_gone header distant_blocks distant.number_date distant.index_date no_pairs)
