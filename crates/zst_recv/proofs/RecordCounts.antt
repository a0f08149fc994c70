-- A feed applies no more records than a stream can have.
use Rattle.std.proofs.Common.{ℕ, ◌+◌, ◌≤◌, true, List, [], ◌∷◌, length, Result, Ok, Err, arith}
use Rattle.std.specs.Prelude.{sum_by}
use Rattle.std.proofs.lemmas.List.Sums.{sum_by-cons}
use Rattle.zst_model.specs.declared.refusals.plan_fault.PlanFault.{PlanFault}
use Rattle.zst_model.specs.declared.refusals.refusal.Refusal.{Refusal}
use Rattle.zst_model.specs.declared.sends.header.Header.{Header}
use Rattle.zst_model.specs.pools.Pool.{Pool, Partial}
use Rattle.zst_model.specs.states.AppliedItems.{◌>>=◌}
use Rattle.zst_plan.specs.RecvPlan.{RecvPlan, Resumes, Begins, recv_plan}
use Rattle.zst_plan.specs.declared.receive.RecvAsk.{RecvAsk}
use Rattle.zst_record.specs.declared.head.Head.{Head}
use Rattle.zst_record.specs.declared.head.Head.TheVariants as heads
use Rattle.zst_record.specs.Heads.{Covered, size_of}
use Rattle.zst_recv.specs.ReceiveSteps.{Stage, Waits, Lives, Ends, Batch, batch_of, batch_by, began, moved_by, of_plan, opened, taken_at, went_on, with_applied}

module _ (ask : RecvAsk) (pool : Pool) (rest : List Covered) (plain : Batch) (later : (after : Batch) → (batch_of ask pool rest after).batch.applied ≤ after.applied + length rest) where
  abbrev Within : Result Batch Refusal → Type 0
  Within r = (batch_by r plain (batch_of ask pool rest)).batch.applied ≤ plain.applied + (length rest + 1)

  moved_within : (flags : ℕ) (moved : Result Partial Refusal) → Within (moved >>= λ after. Ok (with_applied flags after plain))
  moved_within flags (Err refusal) = omega arith
  moved_within flags (Ok after) = let h = later (with_applied flags after plain) in omega (arith, h)

  opened_within : (header : Header) (plan : Result RecvPlan PlanFault) → Within (of_plan plan >>= λ p. Ok (opened ask header p))
  opened_within header (Err fault) = omega arith
  opened_within header (Ok (Resumes partial)) = let h = later (opened ask header (Resumes partial)) in omega (arith, h)
  opened_within header (Ok (Begins component base)) = let h = later (opened ask header (Begins component base)) in omega (arith, h)

  stays_within : Within (Ok plain)
  stays_within = let h = later plain in omega (arith, h)

  begun_within : (head : Head) → Within (began ask pool plain head)
  begun_within (heads.Begin header len) = opened_within header (recv_plan ask header pool)
  begun_within (heads.Object object kind bonus_kind block_size bonus_len max_block to) = stays_within
  begun_within (heads.FreeObjects first count to) = stays_within
  begun_within (heads.Write object kind offset size to) = stays_within
  begun_within (heads.Free object offset size to) = stays_within
  begun_within (heads.End sums to) = stays_within
  begun_within (heads.Spill object size to) = stays_within
  begun_within (heads.Redact object offset size to) = stays_within

  went_within : (c : Covered) (flags : ℕ) (partial : Partial) (head : Head) → Within (went_on (pool.number + 1) c flags partial plain head)
  went_within c flags partial (heads.Begin header len) = stays_within
  went_within c flags partial (heads.Object object kind bonus_kind block_size bonus_len max_block to) = moved_within flags (moved_by (pool.number + 1) c flags partial)
  went_within c flags partial (heads.FreeObjects first count to) = moved_within flags (moved_by (pool.number + 1) c flags partial)
  went_within c flags partial (heads.Write object kind offset size to) = moved_within flags (moved_by (pool.number + 1) c flags partial)
  went_within c flags partial (heads.Free object offset size to) = moved_within flags (moved_by (pool.number + 1) c flags partial)
  went_within c flags partial (heads.End sums to) = let h = later (record plain { stage = Ends partial; taken = true }) in omega (arith, h)
  went_within c flags partial (heads.Spill object size to) = moved_within flags (moved_by (pool.number + 1) c flags partial)
  went_within c flags partial (heads.Redact object offset size to) = moved_within flags (moved_by (pool.number + 1) c flags partial)

  taken_within : (c : Covered) (stage : Stage) → Within (taken_at ask pool c plain stage)
  taken_within c Waits = begun_within c.head
  taken_within c (Lives flags partial) = went_within c flags partial c.head
  taken_within c (Ends partial) = stays_within

-- no more records are applied than came
pub applied_within : (ask : RecvAsk) (pool : Pool) (records : List Covered) (plain : Batch) → (batch_of ask pool records plain).batch.applied ≤ plain.applied + length records
unfolding batch_of
applied_within ask pool [] plain = omega arith
applied_within ask pool (c ∷ rest) plain = let h = taken_within ask pool rest plain (applied_within ask pool rest) c plain.stage in omega (arith, h)

-- and each has a byte at least
pub few_records : (records : List Covered) → length records ≤ sum_by (λ c. size_of c.head) records
few_records [] = omega arith
few_records (c ∷ rest) = let h = few_records rest in omega (arith, h, sum_by-cons (λ (x : Covered). size_of x.head) c rest)
