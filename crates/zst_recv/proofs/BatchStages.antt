-- Where a receive stands behind records in their order: it has ended with END exactly where all is covered, and waits only while nothing is.
use Rattle.std.proofs.Common.{◌≡◌, ◌⊎◌, inl, inr, ℕ, ◌+◌, Bool, true, false, List, [], ◌∷◌, None, Result, Ok, Err, refl, sym, ap, subst}
use Rattle.zst_model.specs.declared.refusals.plan_fault.PlanFault.{PlanFault}
use Rattle.zst_model.specs.declared.refusals.refusal.Refusal.{Refusal}
use Rattle.zst_model.specs.declared.sends.header.Header.{Header}
use Rattle.zst_model.specs.pools.Pool.{Pool, Partial}
use Rattle.zst_model.specs.states.AppliedItems.{◌>>=◌}
use Rattle.zst_plan.specs.RecvPlan.{RecvPlan, Resumes, Begins, recv_plan}
use Rattle.zst_plan.specs.declared.receive.RecvAsk.{RecvAsk}
use Rattle.zst_record.specs.declared.head.Head.{Head}
use Rattle.zst_record.specs.declared.head.Head.TheVariants as heads
use Rattle.zst_record.specs.Heads.{Covered}
use Rattle.zst_stream.specs.Reading.{Outcome, waiting, faulty, complete}
use Rattle.zst_recv.specs.ReceiveSteps.{Stage, Waits, Lives, Ends, Batch, EndedBatch, batch_of, batch_by, began, moved_by, of_plan, opened, taken, taken_at, went_on, with_applied}
use Rattle.zst_recv.specs.Stages.{is_begin, is_end}
use Rattle.zst_recv.proofs.RecordOrder.{EndsBy, FirstBegins}

-- whether all is covered
abbrev pub is_complete : Outcome → Bool
is_complete waiting = false
is_complete (faulty fault) = false
is_complete complete = true

-- where a receive stands behind a partial state that is under way
abbrev pub IsBehind : Outcome → Stage → Type 0
IsBehind outcome Waits = ⊥
IsBehind outcome (Lives flags partial) = is_complete outcome ≡ false
IsBehind outcome (Ends partial) = is_complete outcome ≡ true

none_left : (outcome : Outcome) → EndsBy [] outcome → is_complete outcome ≡ false
none_left waiting ends = refl
none_left (faulty fault) ends = refl
none_left complete ends = absurd ends

-- a feed whose receive stands here
abbrev batch_at : Stage → Bool → Bool → ℕ → Batch
batch_at stage rolls taken applied = record { stage = stage; rolls = rolls; taken = taken; applied = applied }

-- what later records make of a feed that goes on so
abbrev GoesSo : Outcome → List Covered → (Batch → EndedBatch) → Type 0
GoesSo outcome rest next =
    (flags : ℕ) (partial : Partial) (rolls taken : Bool) (applied : ℕ) → EndsBy rest outcome → (next (batch_at (Lives flags partial) rolls taken applied)).fault ≡ None
    → IsBehind outcome (next (batch_at (Lives flags partial) rolls taken applied)).batch.stage

-- how a record and those behind it end
abbrev Last : Head → List Covered → Outcome → Type 0
Last head rest outcome = ((is_end head ≡ true) × (rest ≡ []) × (outcome ≡ complete)) ⊎ ((is_end head ≡ false) × EndsBy rest outcome)

goes_on : (head : Head) (rest : List Covered) (outcome : Outcome) → is_end head ≡ false → Last head rest outcome → EndsBy rest outcome
goes_on head rest outcome none (inl ends) = absurd cc
goes_on head rest outcome none (inr ends) = ends.1

module _ (number flags : ℕ) (c : Covered) (partial : Partial) (rolls has : Bool) (applied : ℕ) (rest : List Covered) (outcome : Outcome) (next : Batch → EndedBatch) (later : GoesSo outcome rest next) where
  moved_so : (moved : Result Partial Refusal) → EndsBy rest outcome → (batch_by (moved >>= λ after. Ok (with_applied flags after (batch_at (Lives flags partial) rolls has applied))) (batch_at (Lives flags partial) rolls has applied) next).fault ≡ None
      → IsBehind outcome (batch_by (moved >>= λ after. Ok (with_applied flags after (batch_at (Lives flags partial) rolls has applied))) (batch_at (Lives flags partial) rolls has applied) next).batch.stage
  moved_so (Err refusal) ends none = absurd cc
  moved_so (Ok after) ends none = later flags after rolls true (applied + 1) ends none

  by_head : (head : Head) → Last head rest outcome → ((plain : Batch) → rest ≡ [] → (next plain).batch.stage ≡ plain.stage)
      → (batch_by (went_on number c flags partial (batch_at (Lives flags partial) rolls has applied) head) (batch_at (Lives flags partial) rolls has applied) next).fault ≡ None
      → IsBehind outcome (batch_by (went_on number c flags partial (batch_at (Lives flags partial) rolls has applied) head) (batch_at (Lives flags partial) rolls has applied) next).batch.stage
  by_head (heads.Begin header len) ends stays none = later flags partial rolls has applied (goes_on (heads.Begin header len) rest outcome refl ends) none
  by_head (heads.Object object kind bonus_kind block_size bonus_len max_block to) ends stays none =
      moved_so (moved_by number c flags partial) (goes_on (heads.Object object kind bonus_kind block_size bonus_len max_block to) rest outcome refl ends) none
  by_head (heads.FreeObjects first count to) ends stays none = moved_so (moved_by number c flags partial) (goes_on (heads.FreeObjects first count to) rest outcome refl ends) none
  by_head (heads.Write object kind offset size to) ends stays none = moved_so (moved_by number c flags partial) (goes_on (heads.Write object kind offset size to) rest outcome refl ends) none
  by_head (heads.Free object offset size to) ends stays none = moved_so (moved_by number c flags partial) (goes_on (heads.Free object offset size to) rest outcome refl ends) none
  by_head (heads.End sums to) (inr goes) stays none = absurd cc
  by_head (heads.End sums to) (inl ends) stays none =
      subst (IsBehind outcome) (sym (stays (batch_at (Ends partial) rolls true applied) ends.1)) (ap is_complete ends.2)
  by_head (heads.Spill object size to) ends stays none = moved_so (moved_by number c flags partial) (goes_on (heads.Spill object size to) rest outcome refl ends) none
  by_head (heads.Redact object offset size to) ends stays none = moved_so (moved_by number c flags partial) (goes_on (heads.Redact object offset size to) rest outcome refl ends) none

stays_without : (ask : RecvAsk) (pool : Pool) (rest : List Covered) (plain : Batch) → rest ≡ [] → (batch_of ask pool rest plain).batch.stage ≡ plain.stage
unfolding batch_of
stays_without ask pool rest plain none = ap (λ (l : List Covered). (batch_of ask pool l plain).batch.stage) none

-- behind records of a stream that is under way
pub lives : (ask : RecvAsk) (pool : Pool) (records : List Covered) (outcome : Outcome) (flags : ℕ) (partial : Partial) (rolls has : Bool) (applied : ℕ) → EndsBy records outcome
    → (batch_of ask pool records (batch_at (Lives flags partial) rolls has applied)).fault ≡ None → IsBehind outcome (batch_of ask pool records (batch_at (Lives flags partial) rolls has applied)).batch.stage
unfolding batch_of
lives ask pool [] outcome flags partial rolls has applied ends none = none_left outcome ends
lives ask pool (c ∷ rest) outcome flags partial rolls has applied ends none =
    by_head (pool.number + 1) flags c partial rolls has applied rest outcome (batch_of ask pool rest) (λ f p r t a. lives ask pool rest outcome f p r t a) c.head ends (stays_without ask pool rest) none

-- where a receive stands behind records that came while it waited
abbrev pub IsBegun : List Covered → Outcome → Stage → Type 0
IsBegun records outcome Waits = (records ≡ []) × (is_complete outcome ≡ false)
IsBegun records outcome (Lives flags partial) = is_complete outcome ≡ false
IsBegun records outcome (Ends partial) = is_complete outcome ≡ true

pub begun_behind : (records : List Covered) (outcome : Outcome) (stage : Stage) → IsBehind outcome stage → IsBegun records outcome stage
begun_behind records outcome Waits is = absurd is
begun_behind records outcome (Lives flags partial) is = is
begun_behind records outcome (Ends partial) is = is

module _ (ask : RecvAsk) (pool : Pool) (records rest : List Covered) (outcome : Outcome) (before : Batch) where
  opened_so : (header : Header) (plan : Result RecvPlan PlanFault) → EndsBy rest outcome → (batch_by (of_plan plan >>= λ p. Ok (opened ask header p)) before (batch_of ask pool rest)).fault ≡ None
      → IsBegun records outcome (batch_by (of_plan plan >>= λ p. Ok (opened ask header p)) before (batch_of ask pool rest)).batch.stage
  opened_so header (Err fault) ends none = absurd cc
  opened_so header (Ok (Resumes partial)) ends none = begun_behind records outcome _ (lives ask pool rest outcome _ _ _ _ _ ends none)
  opened_so header (Ok (Begins component base)) ends none = begun_behind records outcome _ (lives ask pool rest outcome _ _ _ _ _ ends none)

  by_begin : (head : Head) → is_begin head ≡ true → Last head rest outcome → (batch_by (began ask pool before head) before (batch_of ask pool rest)).fault ≡ None
      → IsBegun records outcome (batch_by (began ask pool before head) before (batch_of ask pool rest)).batch.stage
  by_begin (heads.Begin header len) is ends none = opened_so header (recv_plan ask header pool) (goes_on (heads.Begin header len) rest outcome refl ends) none
  by_begin (heads.Object object kind bonus_kind block_size bonus_len max_block to) is ends none = absurd cc
  by_begin (heads.FreeObjects first count to) is ends none = absurd cc
  by_begin (heads.Write object kind offset size to) is ends none = absurd cc
  by_begin (heads.Free object offset size to) is ends none = absurd cc
  by_begin (heads.End sums to) is ends none = absurd cc
  by_begin (heads.Spill object size to) is ends none = absurd cc
  by_begin (heads.Redact object offset size to) is ends none = absurd cc

-- behind records that came while it waited for BEGIN
pub begins : (ask : RecvAsk) (pool : Pool) (records : List Covered) (outcome : Outcome) (rolls has : Bool) (applied : ℕ) → FirstBegins records → EndsBy records outcome
    → (batch_of ask pool records (batch_at Waits rolls has applied)).fault ≡ None → IsBegun records outcome (batch_of ask pool records (batch_at Waits rolls has applied)).batch.stage
unfolding batch_of
begins ask pool [] outcome rolls has applied first ends none = (refl, none_left outcome ends)
begins ask pool (c ∷ rest) outcome rolls has applied first ends none = by_begin ask pool (c ∷ rest) rest outcome (batch_at Waits rolls has applied) c.head first ends none

-- ---- nothing taken

module _ (ask : RecvAsk) (pool : Pool) (rest : List Covered) (plain : Batch) (later : (after : Batch) → (batch_of ask pool rest after).batch.taken ≡ false → (batch_of ask pool rest after).batch ≡ after) where
  taken_by : (after : Batch) → after.taken ≡ true → (batch_of ask pool rest after).batch.taken ≡ false → (batch_of ask pool rest after).batch ≡ plain
  taken_by after is none = let same : (batch_of ask pool rest after).batch ≡ after = later after none in absurd cc

  moved_none : (flags : ℕ) (moved : Result Partial Refusal) → (batch_by (moved >>= λ after. Ok (with_applied flags after plain)) plain (batch_of ask pool rest)).batch.taken ≡ false
      → (batch_by (moved >>= λ after. Ok (with_applied flags after plain)) plain (batch_of ask pool rest)).batch ≡ plain
  moved_none flags (Err refusal) none = refl
  moved_none flags (Ok after) none = taken_by (with_applied flags after plain) refl none

  opened_none : (header : Header) (plan : Result RecvPlan PlanFault) → (batch_by (of_plan plan >>= λ p. Ok (opened ask header p)) plain (batch_of ask pool rest)).batch.taken ≡ false
      → (batch_by (of_plan plan >>= λ p. Ok (opened ask header p)) plain (batch_of ask pool rest)).batch ≡ plain
  opened_none header (Err fault) none = refl
  opened_none header (Ok (Resumes partial)) none = taken_by (opened ask header (Resumes partial)) refl none
  opened_none header (Ok (Begins component base)) none = taken_by (opened ask header (Begins component base)) refl none

  begun_none : (head : Head) → (batch_by (began ask pool plain head) plain (batch_of ask pool rest)).batch.taken ≡ false → (batch_by (began ask pool plain head) plain (batch_of ask pool rest)).batch ≡ plain
  begun_none (heads.Begin header len) none = opened_none header (recv_plan ask header pool) none
  begun_none (heads.Object object kind bonus_kind block_size bonus_len max_block to) none = later plain none
  begun_none (heads.FreeObjects first count to) none = later plain none
  begun_none (heads.Write object kind offset size to) none = later plain none
  begun_none (heads.Free object offset size to) none = later plain none
  begun_none (heads.End sums to) none = later plain none
  begun_none (heads.Spill object size to) none = later plain none
  begun_none (heads.Redact object offset size to) none = later plain none

  went_none : (c : Covered) (flags : ℕ) (partial : Partial) (head : Head) → (batch_by (went_on (pool.number + 1) c flags partial plain head) plain (batch_of ask pool rest)).batch.taken ≡ false
      → (batch_by (went_on (pool.number + 1) c flags partial plain head) plain (batch_of ask pool rest)).batch ≡ plain
  went_none c flags partial (heads.Begin header len) none = later plain none
  went_none c flags partial (heads.Object object kind bonus_kind block_size bonus_len max_block to) none = moved_none flags (moved_by (pool.number + 1) c flags partial) none
  went_none c flags partial (heads.FreeObjects first count to) none = moved_none flags (moved_by (pool.number + 1) c flags partial) none
  went_none c flags partial (heads.Write object kind offset size to) none = moved_none flags (moved_by (pool.number + 1) c flags partial) none
  went_none c flags partial (heads.Free object offset size to) none = moved_none flags (moved_by (pool.number + 1) c flags partial) none
  went_none c flags partial (heads.End sums to) none = taken_by (record plain { stage = Ends partial; taken = true }) refl none
  went_none c flags partial (heads.Spill object size to) none = moved_none flags (moved_by (pool.number + 1) c flags partial) none
  went_none c flags partial (heads.Redact object offset size to) none = moved_none flags (moved_by (pool.number + 1) c flags partial) none

  taken_none : (c : Covered) (stage : Stage) → (batch_by (taken_at ask pool c plain stage) plain (batch_of ask pool rest)).batch.taken ≡ false → (batch_by (taken_at ask pool c plain stage) plain (batch_of ask pool rest)).batch ≡ plain
  taken_none c Waits none = begun_none c.head none
  taken_none c (Lives flags partial) none = went_none c flags partial c.head none
  taken_none c (Ends partial) none = later plain none

-- where no record was taken, a feed has made nothing
pub untaken : (ask : RecvAsk) (pool : Pool) (records : List Covered) (plain : Batch) → (batch_of ask pool records plain).batch.taken ≡ false → (batch_of ask pool records plain).batch ≡ plain
unfolding batch_of
untaken ask pool [] plain none = refl
untaken ask pool (c ∷ rest) plain none = taken_none ask pool rest plain (untaken ask pool rest) c plain.stage none
