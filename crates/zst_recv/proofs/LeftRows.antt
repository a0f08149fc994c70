-- What a receive leaves of the rows of partial states.
use Rattle.std.proofs.Common.{◌≡◌, ◌≢◌, ◌⊎◌, inl, inr, ℕ, ◌&&◌, Bool, true, false, cond, not, List, [], ◌∷◌, filter, find, Option, Some, None, Result, Ok, refl, sym, ap, ◌∙◌, subst}
use Rattle.std.specs.Prelude.{OnOk}
use Rattle.std.proofs.lemmas.Bool.{false_from_ne_true}
use Rattle.zst_model.specs.pools.Pool.{is_before, inserted}
use Rattle.zst_model.proofs.OrderLaws.{bytes_same, same_bytes}
use Rattle.zst_dir.specs.Rows.{Rows, is_for, is_unkept_for}
use Rattle.zst_dir.specs.declared.rows.Partial.{Partial as Row}
use Rattle.zst_pool.specs.FinishedRows.{rows_with_finished}
use Rattle.zst_pool.specs.PartialRows.{rows_with_partial}
use Rattle.zst_pool.specs.declared.fault.PoolFault.{PoolFault}
use Rattle.zst_recv.specs.Commits.{CommitsRows}
use Rattle.zst_recv.specs.GoingOn.{EndsLeaveRows, IsRow}
use Rattle.zst_recv.specs.Stages.{CanPutFor, StageFits, stage_behind, waits_at}
use Rattle.zst_recv.specs.declared.batch.Batch as batches
use Rattle.zst_recv.specs.declared.received_snapshot.ReceivedSnapshot.{ReceivedSnapshot}
use Rattle.zst_recv.specs.declared.stage.Stage as coded
use Rattle.zst_recv.specs.declared.stage.Stage.TheVariants as stages

-- ---- what is found

-- where all that pass a test pass another too, the same is found behind that
found_behind : {A : Type 0} (t k : A → Bool) → ((x : A) → t x ≡ true → k x ≡ true) → (xs : List A) → find t (filter k xs) ≡ find t xs
found_behind t k passes [] = refl
found_behind {A = A} t k passes (x ∷ xs) = go (t x) (k x) refl refl (passes x) (found_behind t k passes xs)
  where
    go : (a b : Bool) → t x ≡ a → k x ≡ b → (t x ≡ true → k x ≡ true) → find t (filter k xs) ≡ find t xs → find t (cond b (x ∷ filter k xs) (filter k xs)) ≡ cond a (Some x) (find t xs)
    go true true is also pass rest = ap (λ (c : Bool). cond c (Some x) (find t (filter k xs))) is
    go true false is also pass rest = absurd (let kept = pass is in cc)
    go false true is also pass rest = ap (λ (c : Bool). cond c (Some x) (find t (filter k xs))) is ∙ rest
    go false false is also pass rest = rest

-- where those that pass a test are left out, none does
none_left : {A : Type 0} (t : A → Bool) (xs : List A) → find t (filter (λ x. not (t x)) xs) ≡ None
none_left t [] = refl
none_left {A = A} t (x ∷ xs) = go (t x) refl (none_left t xs)
  where
    go : (b : Bool) → t x ≡ b → find t (filter (λ y. not (t y)) xs) ≡ None → find t (cond (not b) (x ∷ filter (λ y. not (t y)) xs) (filter (λ y. not (t y)) xs)) ≡ None
    go true is rest = rest
    go false is rest = ap (λ (b : Bool). cond b (Some x) (find t (filter (λ y. not (t y)) xs))) is ∙ rest

-- one that is put in and fails a test changes nothing of what is found
found_past : {A : Type 0} (t : A → Bool) (before : A → A → Bool) (row : A) (xs : List A) → t row ≡ false → find t (inserted before row xs) ≡ find t xs
unfolding inserted
found_past t before row [] fails = ap (λ (b : Bool). cond b (Some row) None) fails
found_past {A = A} t before row (x ∷ xs) fails = go (before row x) (found_past t before row xs fails)
  where
    go : (b : Bool) → find t (inserted before row xs) ≡ find t xs → find t (cond b (row ∷ x ∷ xs) (x ∷ inserted before row xs)) ≡ find t (x ∷ xs)
    go true rest = ap (λ (b : Bool). cond b (Some row) (find t (x ∷ xs))) fails
    go false rest = ap (λ (o : Option A). cond (t x) (Some x) o) rest

-- one that passes it is found, where no other does
found_put : {A : Type 0} (t : A → Bool) (before : A → A → Bool) (row : A) (xs : List A) → t row ≡ true → find t xs ≡ None → find t (inserted before row xs) ≡ Some row
unfolding inserted
found_put t before row [] own none = ap (λ (b : Bool). cond b (Some row) None) own
found_put {A = A} t before row (x ∷ xs) own none = go (before row x) (t x) refl none (found_put t before row xs own)
  where
    go : (b a : Bool) → t x ≡ a → cond a (Some x) (find t xs) ≡ None → (find t xs ≡ None → find t (inserted before row xs) ≡ Some row) → find t (cond b (row ∷ x ∷ xs) (x ∷ inserted before row xs)) ≡ Some row
    go true a is none rest = ap (λ (c : Bool). cond c (Some row) (find t (x ∷ xs))) own
    go false true is none rest = absurd cc
    go false false is none rest = ap (λ (c : Bool). cond c (Some x) (find t (inserted before row xs))) is ∙ rest none

-- ---- the rows of other targets

-- a row of a target isn't one of another
not_for : (target other : List ℕ) (row : Row) → row.target ≡ target → other ≢ target → is_for other row ≡ false
not_for target other row of apart = false_from_ne_true (is_for other row) (λ is. apart (sym (same_bytes row.target other is) ∙ of))

-- nor the other way round
not_own : (target other : List ℕ) (row : Row) → other ≢ target → is_for other row ≡ true → is_for target row ≡ false
not_own target other row apart is = not_for other target row (same_bytes row.target other is) (λ same. apart (sym same))

-- where those of a target are left out, those of others are as they were
others_left : (target other : List ℕ) (partials : List Row) → other ≢ target → find (is_for other) (filter (λ row. not (is_for target row)) partials) ≡ find (is_for other) partials
others_left target other partials apart = found_behind (is_for other) (λ (row : Row). not (is_for target row)) (λ row is. ap not (not_own target other row apart is)) partials

-- so they are where one of the target is put in its place, which then stands there
others_put : (roll : Bool) (row : Row) (rows : Rows) (target other : List ℕ) → row.target ≡ target → other ≢ target → find (is_for other) (rows_with_partial roll row rows).partials ≡ find (is_for other) rows.partials
others_put roll row rows target other of apart =
    found_past (is_for other) (λ (a b : Row). is_before a.target b.target) row (filter (λ (x : Row). not (is_for row.target x)) rows.partials) (not_for target other row of apart)
    ∙ others_left row.target other rows.partials (λ same. apart (same ∙ of))

own_put : (roll : Bool) (row : Row) (rows : Rows) (target : List ℕ) → row.target ≡ target → find (is_for target) (rows_with_partial roll row rows).partials ≡ Some row
own_put roll row rows target of =
    subst (λ (t : List ℕ). find (is_for t) (rows_with_partial roll row rows).partials ≡ Some row) of
    (found_put (is_for row.target) (λ (a b : Row). is_before a.target b.target) row (filter (λ (x : Row). not (is_for row.target x)) rows.partials) (bytes_same row.target row.target refl) (none_left (is_for row.target) rows.partials))

-- and so they are where only one that isn't kept is left out
pub ends_leave : EndsLeaveRows
ends_leave true target other kept apart = found_behind (is_for other) (λ (row : Row). not (is_unkept_for target row)) (λ row is. ap (λ (b : Bool). not (b && not row.keep)) (not_own target other row apart is)) kept.dir.partials
ends_leave false target other kept apart = refl

-- ---- what a commit leaves

-- nothing was committed
pub rows_kept : {A : Type 0} (target : List ℕ) (old new : Rows) (batch : batches.Batch) (result : Result A PoolFault) → new ≡ old → (batch.taken ≡ true → OnOk result (IsRow new target batch.stage)) → CommitsRows target old new batch result
rows_kept target old new batch result same own = record { others = λ other apart. ap (λ (r : Rows). find (is_for other) r.partials) same; own = own }

-- a partial state was put in its target's place
pub rows_put : (target : List ℕ) (old new : Rows) (batch : batches.Batch) (flags : ℕ) (row : Row) → batch.stage ≡ stages.Lives flags row → StageFits old target batch.stage → new ≡ rows_with_partial batch.rolls row old
    → CommitsRows {A = Unit {0}} target old new batch (Ok tt)
rows_put target old new batch flags row at fits is =
    let can : CanPutFor old target row = subst (StageFits old target) at fits in
    record {
      others = λ other apart. ap (λ (r : Rows). find (is_for other) r.partials) is ∙ others_put batch.rolls row old target other can.of_target apart;
      own = λ taken. subst (IsRow new target) (sym at) (ap (λ (r : Rows). find (is_for target) r.partials) is ∙ own_put batch.rolls row old target can.of_target);
    }

-- a partial state became its snapshot
pub rows_finished : (target : List ℕ) (old new : Rows) (batch : batches.Batch) (number : ℕ) (row : Row) → batch.stage ≡ stages.Ends row → StageFits old target batch.stage → new ≡ rows_with_finished number row old
    → CommitsRows {A = Unit {0}} target old new batch (Ok tt)
rows_finished target old new batch number row at fits is =
    let can : CanPutFor old target row = subst (StageFits old target) at fits in
    record {
      others = λ other apart. ap (λ (r : Rows). find (is_for other) r.partials) is ∙ others_left row.target other old.partials (λ same. apart (same ∙ can.of_target));
      own = λ taken. subst (IsRow new target) (sym at) tt;
    }

-- ---- stages without a row

-- a stage that commits nothing has none
pub no_row : (rows : Rows) (target : List ℕ) (stage : coded.Stage) → (stage ≡ stages.Waits) ⊎ (((received : ReceivedSnapshot) × (stage ≡ stages.Done received)) ⊎ (stage ≡ stages.Over)) → IsRow rows target stage
no_row rows target stage (inl waits) = subst (IsRow rows target) (sym waits) tt
no_row rows target stage (inr (inl done)) = subst (IsRow rows target) (sym done.1) tt
no_row rows target stage (inr (inr over)) = subst (IsRow rows target) (sym over) tt

-- and where it can be committed it is that before BEGIN
pub commits_at_begin : (rows : Rows) (target : List ℕ) (stage : coded.Stage) → (stage ≡ stages.Waits) ⊎ (((received : ReceivedSnapshot) × (stage ≡ stages.Done received)) ⊎ (stage ≡ stages.Over))
    → StageFits rows target stage → waits_at stage ≡ true
commits_at_begin rows target stage (inl waits) fits = ap waits_at waits
commits_at_begin rows target stage (inr (inl done)) fits = absurd (subst (StageFits rows target) done.1 fits)
commits_at_begin rows target stage (inr (inr over)) fits = absurd (subst (StageFits rows target) over fits)

-- the row of a receive is there behind a commit too
pub row_behind : (rows : Rows) (target : List ℕ) (stage : coded.Stage) → IsRow rows target stage → IsRow rows target (stage_behind stage)
row_behind rows target stages.Waits is = tt
row_behind rows target (stages.Lives flags row) is = is
row_behind rows target (stages.Ends row) is = tt
row_behind rows target (stages.Done received) is = tt
row_behind rows target stages.Over is = tt
