-- What commands make of a pool with one file.
use Rattle.std.proofs.Common.{◌≡◌, ℕ, suc, zero, ◌*◌, ◌<◌, ◌≤◌, inl, inr, ◌⊎◌, Bool, true, false, List, [], ◌∷◌, ◌++◌, flat_map, Option, Some, None, Ok, refl, sym, ap, ◌∙◌, arith, codes, pred, ◌==◌, nat_lt, ◌&&◌, if◌then◌else◌, ne_eqb, eq-eqb}
use Rattle.std.specs.Fmt.{digits}
use Rattle.std.specs.List.{concat}
use Rattle.std.proofs.Math.Nat.{mul-mod_left}
use Rattle.std.proofs.Math.Path.{fun_ext}
use Rattle.std.proofs.lemmas.Bool.{cond-false, cond-true, cases_eq}
use Rattle.std.proofs.lemmas.Bool.Decides.{nat_tests}
use Rattle.zst_model.specs.declared.pools.command.Command.TheVariants as commands
use Rattle.zst_model.specs.declared.refusals.subjects.Name.TheVariants as names
use Rattle.zst_model.specs.declared.refusals.apply_fault.ApplyFault.TheVariants.{Unaligned}
use Rattle.zst_model.specs.declared.states.item.Change.{Change}
use Rattle.zst_model.specs.declared.states.item.Change.TheVariants.{Put, Free, Write}
use Rattle.zst_model.specs.declared.states.item.Item.TheVariants.{FreeObjects, At}
use Rattle.zst_model.specs.states.State.{State, Object, Block, Hole, Data, is_number, index_bound, number_bound, past_last}
use Rattle.zst_model.specs.states.AppliedItems.{apply, apply_change, within, is_unaligned, put_at, ◌>>=◌}
use Rattle.zst_model.specs.states.DatedState.{DatedState, apply_all_dated, dates_number, dates_index, touches_number, touches_index}
use Rattle.zst_model.specs.sends.Items.{rising}
use Rattle.zst_model.specs.pools.Sessions.{Held}
use Rattle.zst_model.specs.pools.AnswerLines.{object_lines, object_line, line_of, word}
use Rattle.zst_model.specs.pools.Pool.{Pool, Snapshot, Bookmark, inserted, untouched}
use Rattle.zst_model.specs.pools.Step.{stepped, last_number, last_guid, most_datasets, most_snapshots, answered, with_head, committed, of_applying, filled, in_indices}
use Rattle.zst_laws.specs.FileExample.{file, padded, small, rewritten, one_file, file_of, file_dates, first_block}
use Rattle.zst_laws.specs.StepExample.{new_pool, with_tank, gives, allocated, small_snapshot, after_snapshot, put_again, made_anew, zeroed_block, zeroed, fourth_block, punched_file, is_freed, freed, SmallSteps, RewrittenStep, PutSteps, ChangedSteps, ChangedReads}
use Rattle.zst_laws.proofs.sends.Blocks.{same_place, within_block}
use Rattle.zst_laws.proofs.examples.OneObject.{end_is}
use Rattle.zst_laws.proofs.sends.AppliedItemLemmas.{unless_from, aligned_from}
use Rattle.zst_laws.proofs.examples.Meanings.{kept_date}

-- dated states with equal parts are equal
same_dated : (a b : DatedState) → a.state ≡ b.state → a.number_date ≡ b.number_date → a.index_date ≡ b.index_date → a ≡ b
same_dated a b s n i =
    ap (λ x. record a { state = x }) s
    ∙ ap (λ x. record { state = b.state; number_date = x; index_date = a.index_date }) n
    ∙ ap (λ x. record b { index_date = x }) i

-- what is put in the place of the file is the file
file_again : (blocks others : ℕ → Block) (k : ℕ) → (if k == 1 then Some (file_of blocks) else one_file others k) ≡ one_file blocks k
file_again blocks others k = go (k == 1)
  where
    go : (t : Bool) → (if t then Some (file_of blocks) else (if t then Some (file_of others) else None)) ≡ (if t then Some (file_of blocks) else None)
    go true = refl
    go false = refl

-- dates of what is touched, within the bound
touched : (one below this : Bool) (number date : ℕ)
    → (if (one && this) && below then number else (if one then (if below then date else 0) else 0))
    ≡ (if one then (if below then (if this then number else date) else 0) else 0)
touched true true true number date = refl
touched true true false number date = refl
touched true false true number date = refl
touched true false false number date = refl
touched false below this number date = refl

made : (held : List Held) (now : ℕ) → stepped held now (commands.Fs (codes "tank/a")) (new_pool 1) ≡ gives (codes "ok 2") (with_tank 2 untouched)
unfolding stepped inserted last_number most_datasets digits
made held now = refl

snapped : (held : List Held) (now : ℕ) → stepped held now (commands.Snapshot (codes "tank/a@s")) (with_tank 4 small) ≡ gives (codes "ok 5") (after_snapshot now 5 small)
unfolding stepped inserted last_number last_guid most_snapshots digits
snapped held now = refl

-- OBJECT of the file in the empty head
put_applied : apply_all_dated 3 (At 1 (Put (record { type_ = 19; bonus_type = 0; block_size = 512 }) [] false 0) ∷ []) untouched ≡ Ok allocated
unfolding apply apply_change
put_applied =
    ap (λ d. Ok d) (same_dated _ allocated refl (fun_ext (λ k. numbered (k == 1)))
    (fun_ext (λ k. fun_ext (λ i. indexed (k == 1) (nat_lt i index_bound)))))
  where
    numbered : (one : Bool) → ◌≡◌ {A = ℕ} (if one && true then 3 else 0) (if one then 3 else 0)
    numbered true = refl
    numbered false = refl

    indexed : (one below : Bool) → ◌≡◌ {A = ℕ} (if (one && true) && below then 3 else 0) (if one then (if below then 3 else 0) else 0)
    indexed true true = refl
    indexed true false = refl
    indexed false below = refl

put : (held : List Held) (now : ℕ) → stepped held now (commands.Object (codes "tank/a") 1 (record { type_ = 19; bonus_type = 0; block_size = 512 }) [] None) (with_tank 2 untouched) ≡ gives (codes "ok 3") (with_tank 3 allocated)
unfolding stepped last_number number_bound digits
put held now =
    let pool = with_tank 2 untouched in
    ap (λ r. of_applying r >>= λ head. committed (record pool { datasets = with_head (codes "tank/a") head pool.datasets })) put_applied

-- a change of the file's blocks in a commit, which dates the indices that it touches
module _ (number : ℕ) (change : Change) (blocks others : ℕ → Block) (this : ℕ → Bool) (number_date dates : ℕ → ℕ)
    (gives_others : apply_change change (Some (file_of blocks)) ≡ Ok (Some (file_of others))) (no_number : dates_number change ≡ false)
    (touches : (i : ℕ) → dates_index change (Some (file_of blocks)) i ≡ this i)
  where
    abbrev before_change : DatedState
    before_change = record { state = one_file blocks; number_date = number_date; index_date = file_dates dates }

    abbrev after_change : DatedState
    after_change = record { state = one_file others; number_date = number_date; index_date = file_dates (λ i. if this i then number else dates i) }

    abbrev dated_change : State → DatedState
    dated_change state = record {
      state = state;
      number_date = λ k. if touches_number (At 1 change) k then number else number_date k;
      index_date = λ k i. if touches_index (At 1 change) (one_file blocks) k i then number else file_dates dates k i;
    }

    change_applied : apply_all_dated number (At 1 change ∷ []) before_change ≡ Ok after_change
    unfolding apply
    change_applied =
        ap (λ r. ((r >>= λ object. Ok (put_at (one_file blocks) 1 object)) >>= λ state. Ok (dated_change state)) >>= apply_all_dated number []) gives_others
        ∙ ap (λ d. Ok d) (same_dated (dated_change (put_at (one_file blocks) 1 (Some (file_of others)))) after_change (fun_ext (file_again others blocks))
        (fun_ext (λ k. ap (λ t. if k == 1 && t then number else number_date k) no_number ∙ kept_date (k == 1) number (number_date k)))
        (fun_ext (λ k. fun_ext (λ i.
        ap (λ t. if (k == 1 && t) && nat_lt i index_bound then number else file_dates dates k i) (touches i)
        ∙ touched (k == 1) (nat_lt i index_bound) (this i) number (dates i)))))

-- a block of the file is written
write_gives : (i byte : ℕ) (blocks : ℕ → Block)
    → apply_change (Write (i * 512) 0 (filled 512 (byte ∷ []))) (Some (file_of blocks)) ≡ Ok (Some (file_of (λ j. if j == i then Data (padded byte) else blocks j)))
unfolding apply_change padded lib.Count.ones
write_gives i byte blocks =
    unless_from (is_unaligned 512 (i * 512)) Unaligned _ (aligned_from 512 (i * 512) (mul-mod_left i 512))
    ∙ ap (λ f. Ok (Some (file_of f))) (fun_ext (λ j. ap (λ t. if t then Data (padded byte) else blocks j) (same_place 512 i j (omega arith))))

written : (held : List Held) (now : ℕ) → stepped held now (commands.Write (codes "tank/a") 1 0 (170 ∷ [])) (with_tank 3 allocated) ≡ gives (codes "ok 4") (with_tank 4 small)
unfolding stepped last_number index_bound digits
written held now =
    let pool = with_tank 3 allocated in
    ap (λ r. (of_applying r >>= λ after. in_indices 1 (Ok after)) >>= λ head. committed (record pool { datasets = with_head (codes "tank/a") head pool.datasets }))
    (change_applied 4 (Write 0 0 (filled 512 (170 ∷ []))) (λ i. Hole) first_block (λ i. i == 0) allocated.number_date (λ i. 3)
    (write_gives 0 170 (λ i. Hole)) refl (λ i. same_place 512 0 i (omega arith)))

pub small_steps : SmallSteps
small_steps held now = (made held now, put held now, written held now, snapped held now)

-- block 0 is written again
rewritten_dates : (first : Bool) → ◌≡◌ {A = ℕ} (if first then 6 else (if first then 4 else 3)) (if first then 6 else 3)
rewritten_dates true = refl
rewritten_dates false = refl

rewritten_block : (i : ℕ) → (if i == 0 then Data (padded 170) else first_block i) ≡ first_block i
rewritten_block i = go (i == 0)
  where
    go : (t : Bool) → (if t then Data (padded 170) else (if t then Data (padded 170) else Hole)) ≡ (if t then Data (padded 170) else Hole)
    go true = refl
    go false = refl

-- whatever snapshots and bookmarks there are
pub written_again : (held : List Held) (now guids : ℕ) (snapshots : List Snapshot) (bookmarks : List Bookmark)
    → stepped held now (commands.Write (codes "tank/a") 1 0 (170 ∷ [])) (record (with_tank 5 small) { guids = guids; snapshots = snapshots; bookmarks = bookmarks })
    ≡ gives (codes "ok 6") (record (with_tank 6 rewritten) { guids = guids; snapshots = snapshots; bookmarks = bookmarks })
unfolding stepped last_number index_bound digits
written_again held now guids snapshots bookmarks =
    let pool : Pool = record (with_tank 5 small) { guids = guids; snapshots = snapshots; bookmarks = bookmarks } in
    ap (λ r. (of_applying r >>= λ after. in_indices 1 (Ok after)) >>= λ head. committed (record pool { datasets = with_head (codes "tank/a") head pool.datasets }))
    (change_applied 6 (Write 0 0 (filled 512 (170 ∷ []))) first_block first_block (λ i. i == 0) small.number_date (λ i. if i == 0 then 4 else 3)
    (write_gives 0 170 first_block ∙ ap (λ f. Ok (Some (file_of f))) (fun_ext rewritten_block)) refl (λ i. same_place 512 0 i (omega arith))
    ∙ ap (λ dates. Ok (record rewritten { index_date = file_dates dates })) (fun_ext (λ i. rewritten_dates (i == 0))))

pub rewritten_step : RewrittenStep
rewritten_step held now made = written_again held now 1 (small_snapshot made ∷ []) []

-- the file is put again
dated_again : (one : Bool) → ◌≡◌ {A = ℕ} (if one && true then 6 else (if one then 3 else 0)) (if one then 6 else 0)
dated_again true = refl
dated_again false = refl

unmoved : (one below : Bool) (date : ℕ) → (if (one && false) && below then 6 else date) ≡ date
unmoved true below date = refl
unmoved false below date = refl

all_moved : (one below : Bool) (date : ℕ) → (if (one && true) && below then 6 else (if one then (if below then date else 0) else 0)) ≡ (if one then (if below then 6 else 0) else 0)
all_moved true true date = refl
all_moved true false date = refl
all_moved false below date = refl

again_applied : apply_all_dated 6 (At 1 (Put (record { type_ = 19; bonus_type = 0; block_size = 512 }) [] false 0) ∷ []) small ≡ Ok put_again
unfolding apply apply_change
again_applied =
    ap (λ d. Ok d) (same_dated _ put_again (fun_ext (file_again first_block first_block)) (fun_ext (λ k. dated_again (k == 1)))
    (fun_ext (λ k. fun_ext (λ i. unmoved (k == 1) (nat_lt i index_bound) (small.index_date k i)))))

anew_applied : apply_all_dated 6 (At 1 (Put (record { type_ = 19; bonus_type = 0; block_size = 1024 }) [] false 0) ∷ []) small ≡ Ok made_anew
unfolding apply apply_change
anew_applied =
    ap (λ d. Ok d) (same_dated _ made_anew (fun_ext (λ k. placed (k == 1))) (fun_ext (λ k. dated_again (k == 1)))
    (fun_ext (λ k. fun_ext (λ i. all_moved (k == 1) (nat_lt i index_bound) (if i == 0 then 4 else 3)))))
  where
    anew : Option Object
    anew = Some (record { attr = record file { block_size = 1024 }; blocks = λ i. Hole })

    placed : (t : Bool) → (if t then anew else (if t then Some (file_of first_block) else None)) ≡ (if t then anew else None)
    placed true = refl
    placed false = refl

pub put_steps : PutSteps
unfolding stepped last_number number_bound digits
put_steps held now made =
    let pool = after_snapshot made 5 small in (
      ap (λ r. of_applying r >>= λ head. committed (record pool { datasets = with_head (codes "tank/a") head pool.datasets })) again_applied,
      ap (λ r. of_applying r >>= λ head. committed (record pool { datasets = with_head (codes "tank/a") head pool.datasets })) anew_applied,
    )

-- the block 3 of zeros
zero_written : (held : List Held) (now made : ℕ) → stepped held now (commands.Write (codes "tank/a") 1 3 (0 ∷ [])) (after_snapshot made 5 small) ≡ gives (codes "ok 6") (after_snapshot made 6 zeroed)
unfolding stepped last_number index_bound digits
zero_written held now made =
    let pool = after_snapshot made 5 small in
    ap (λ r. (of_applying r >>= λ after. in_indices 4 (Ok after)) >>= λ head. committed (record pool { datasets = with_head (codes "tank/a") head pool.datasets }))
    (change_applied 6 (Write 1536 0 (filled 512 (0 ∷ []))) first_block zeroed_block (λ i. i == 3) small.number_date (λ i. if i == 0 then 4 else 3)
    (write_gives 3 0 first_block) refl (λ i. same_place 512 3 i (omega arith)))

-- block 0 is punched
punch_gives : apply_change (Free 0 512) (Some (file_of zeroed_block)) ≡ Ok (Some (file_of fourth_block))
unfolding apply_change
punch_gives = ap (λ f. Ok (Some (file_of f))) (fun_ext (λ i. ap (λ t. if t then Hole else zeroed_block i) (within_block 512 0 i (omega arith)) ∙ go i (cases_eq i 0)))
  where
    go : (i : ℕ) → (i ≡ 0) ⊎ (i ≡ 0 → ⊥) → (if i == 0 then Hole else zeroed_block i) ≡ fourth_block i
    go i (inl e) = cond-true (i == 0) _ _ (eq-eqb i 0 e) ∙ sym (cond-false (i == 3) _ _ (ne_eqb i 3 (λ f. omega (arith, e, f))))
    go i (inr e) =
        let other : (i == 0) ≡ false = ne_eqb i 0 e in
        cond-false (i == 0) _ _ other ∙ ap (λ t. if i == 3 then Data (padded 0) else (if t then Data (padded 170) else Hole)) other

punched_dates : (first fourth : Bool) → ◌≡◌ {A = ℕ} (if first then 7 else (if fourth then 6 else (if first then 4 else 3))) (if first then 7 else (if fourth then 6 else 3))
punched_dates true fourth = refl
punched_dates false fourth = refl

punched : (held : List Held) (now made : ℕ) → stepped held now (commands.Punch (codes "tank/a") 1 0 1) (after_snapshot made 6 zeroed) ≡ gives (codes "ok 7") (after_snapshot made 7 punched_file)
unfolding stepped last_number index_bound digits
punched held now made =
    let pool = after_snapshot made 6 zeroed in
    ap (λ r. (of_applying r >>= λ after. in_indices 1 (Ok after)) >>= λ head. committed (record pool { datasets = with_head (codes "tank/a") head pool.datasets }))
    (change_applied 7 (Free 0 512) zeroed_block fourth_block (λ i. i == 0) small.number_date (λ i. if i == 3 then 6 else (if i == 0 then 4 else 3))
    punch_gives refl (λ i. within_block 512 0 i (omega arith))
    ∙ ap (λ dates. Ok (record punched_file { index_date = file_dates dates })) (fun_ext (λ i. punched_dates (i == 0) (i == 3))))

-- what stands at 7 and 8 is cut nowhere
freed_numbers : (k : ℕ) → within 7 2 k ≡ is_freed k
freed_numbers k = grind (arith, nat_tests)

in_numbers : (k : ℕ) → (is_freed k && is_number k) ≡ is_freed k
unfolding number_bound
in_numbers k = grind (arith, nat_tests)

not_file : (k : ℕ) → (if is_freed k then None else one_file fourth_block k) ≡ one_file fourth_block k
not_file k = go (cases_eq k 1)
  where
    go : (k ≡ 1) ⊎ (k ≡ 1 → ⊥) → (if is_freed k then None else one_file fourth_block k) ≡ one_file fourth_block k
    go (inl e) = ap (λ j. if is_freed j then None else one_file fourth_block j) e ∙ ap (one_file fourth_block) (sym e)
    go (inr e) = ap (λ o. if is_freed k then None else o) (absent e) ∙ same (is_freed k) ∙ sym (absent e)
      where
        absent : (k ≡ 1 → ⊥) → one_file fourth_block k ≡ None
        absent e = cond-false (k == 1) _ _ (ne_eqb k 1 e)

        same : (t : Bool) → ◌≡◌ {A = Option Object} (if t then None else None) None
        same true = refl
        same false = refl

free_applied : apply_all_dated 8 (FreeObjects 7 2 ∷ []) punched_file ≡ Ok freed
unfolding apply
free_applied =
    ap (λ d. Ok d) (same_dated _ freed
    (fun_ext (λ k. ap (λ t. if t then None else one_file fourth_block k) (freed_numbers k) ∙ not_file k))
    (fun_ext (λ k. ap (λ t. if t then 8 else small.number_date k) (ap (λ t. t && is_number k) (freed_numbers k) ∙ in_numbers k)))
    (fun_ext (λ k. fun_ext (λ i. ap (λ t. if t && nat_lt i index_bound then 8 else punched_file.index_date k i) (ap (λ t. t && is_number k) (freed_numbers k) ∙ in_numbers k)))))

numbers_freed : (held : List Held) (now made : ℕ) → stepped held now (commands.Free (codes "tank/a") 7 2) (after_snapshot made 7 punched_file) ≡ gives (codes "ok 8") (after_snapshot made 8 freed)
unfolding stepped last_number number_bound digits
numbers_freed held now made =
    let pool = after_snapshot made 7 punched_file in
    ap (λ r. of_applying r >>= λ head. committed (record pool { datasets = with_head (codes "tank/a") head pool.datasets })) free_applied

pub changed_steps : ChangedSteps
changed_steps held now made = (zero_written held now made, punched held now made, numbers_freed held now made)

index_far : 3 < index_bound
unfolding index_bound
index_far = omega arith

first_end : past_last first_block index_bound ≡ 1
first_end = end_is first_block 0 index_bound (omega (arith, index_far)) refl (λ i l. cond-false (i == 0) _ _ (ne_eqb i 0 (λ e. omega (arith, e))))

fourth_end : past_last fourth_block index_bound ≡ 4
fourth_end = end_is fourth_block 3 index_bound index_far refl (λ i l. cond-false (i == 3) _ _ (ne_eqb i 3 (λ e. omega (arith, e))))

-- nothing stands in a pass over numbers that gives nothing
pub none_given : {A : Type 0} (f : ℕ → List A) (first count : ℕ) → ((k : ℕ) → first ≤ k → f k ≡ []) → flat_map f (rising first count) ≡ []
unfolding rising
none_given f first zero none = refl
none_given f first (suc count) none = ap (λ l. l ++ flat_map f (rising (suc first) count)) (none first (omega arith)) ∙ none_given f (suc first) count (λ k l. none k (omega arith))

pub rising_first : {A : Type 0} (f : ℕ → List A) (first count : ℕ) → flat_map f (rising first (suc count)) ≡ f first ++ flat_map f (rising (suc first) count)
unfolding rising
rising_first f first count = refl

all_but_one : pred number_bound ≡ suc 281474976710654
unfolding number_bound
all_but_one = refl

-- a state of one file has its line alone
one_line : (blocks : ℕ → Block) (number_date : ℕ → ℕ) (index_date : ℕ → ℕ → ℕ)
    → object_lines (record { state = one_file blocks; number_date = number_date; index_date = index_date }) ≡ object_line 1 (file_of blocks) ∷ []
unfolding object_lines
one_line blocks number_date index_date = ap (λ n. flat_map line (rising 1 n)) all_but_one ∙ first
  where
    line : ℕ → List (List ℕ)
    line k = line_of (object_line k) (one_file blocks k)

    first : flat_map line (rising 1 (suc 281474976710654)) ≡ object_line 1 (file_of blocks) ∷ []
    first = rising_first line 1 281474976710654 ∙ ap (λ l. object_line 1 (file_of blocks) ∷ l)
        (none_given line 2 281474976710654 (λ k l. ap (line_of (object_line k)) (cond-false (k == 1) _ _ (ne_eqb k 1 (λ e. omega (arith, e))))))

-- the line of a file with this end
abbrev file_line : ℕ → List ℕ
file_line end = concat (
    codes "object" ∷ word 1 ∷ codes " type" ∷ word 19 ∷ codes " size" ∷ word 512 ∷ codes " bonustype" ∷ word 0
    ∷ codes " bonus" ∷ word 0 ∷ codes " spill" ∷ codes " none" ∷ codes " end" ∷ word end ∷ [])

-- the lines of a state of one file whose end is known
lines_are : (blocks : ℕ → Block) (end : ℕ) (number_date : ℕ → ℕ) (index_date : ℕ → ℕ → ℕ) → past_last blocks index_bound ≡ end
    → object_lines (record { state = one_file blocks; number_date = number_date; index_date = index_date }) ≡ file_line end ∷ []
lines_are blocks end number_date index_date e = one_line blocks number_date index_date ∙ ap (λ n. file_line n ∷ []) e

line_of_four : file_line 4 ≡ codes "object 1 type 19 size 512 bonustype 0 bonus 0 spill none end 4"
unfolding digits
line_of_four = refl

line_of_one : file_line 1 ≡ codes "object 1 type 19 size 512 bonustype 0 bonus 0 spill none end 1"
unfolding digits
line_of_one = refl

hole_read : (held : List Held) (now made : ℕ) → let pool = after_snapshot made 8 freed in stepped held now (commands.Read (names.Dataset (codes "tank/a")) 1 0) pool ≡ gives (codes "hole") pool
unfolding stepped index_bound
hole_read held now made = refl

last_read : (held : List Held) (now made : ℕ) → let pool = after_snapshot made 8 freed in stepped held now (commands.Read (names.Dataset (codes "tank/a")) 1 8796093022207) pool ≡ gives (codes "hole") pool
unfolding stepped index_bound
last_read held now made = refl

pub changed_reads : ChangedReads
unfolding stepped
changed_reads held now made = (
  hole_read held now made,
  last_read held now made,
  ap (answered pool) (lines_are fourth_block 4 freed.number_date freed.index_date fourth_end ∙ ap (λ line. line ∷ []) line_of_four),
  ap (answered pool) (lines_are first_block 1 small.number_date small.index_date first_end ∙ ap (λ line. line ∷ []) line_of_one),
)
  where
    pool : Pool
    pool = after_snapshot made 8 freed
