-- What the line `token` tells, from what opening the pool and asking it say.
use Rattle.std.proofs.Common.{◌≡◌, inl, inr, ℕ, ◌≤◌, Bool, false, List, Option, Result, Ok, Err, IfErr, refl, sym, ap, subst, None}
use Rattle.std.specs.Result.{result_map_both}
use Rattle.zst_outside.specs.Images.{DiskState, OnlyReads}
use Rattle.zst_block.specs.Blocks.{Has}
use Rattle.zst_image.specs.Bodies.{Body, free_by}
use Rattle.zst_model.specs.declared.refusals.plan_fault.PlanFault.{PlanFault}
use Rattle.zst_model.specs.declared.refusals.plan_fault.PlanFault.TheVariants.{NoPartial}
use Rattle.zst_model.specs.declared.refusals.refusal.Refusal.{Refusal}
use Rattle.zst_model.specs.pools.Pool.{Pool}
use Rattle.zst_model.specs.refusals.Refusal.{refusal_of}
use Rattle.zst_dir.specs.RowNames.{AreNamed}
use Rattle.zst_dir.specs.Rows.{Rows}
use Rattle.zst_space.specs.FreeSectors.{FreeSectors}
use Rattle.zst_image.specs.Faults.{open_refusal}
use Rattle.zst_uber.specs.DiskCalls as disk_calls
use Rattle.zst_image.specs.OpenAnswers.{GivesPool, OpenAnswers, ReadFault}
use Rattle.zst_image.specs.Reads.{ReadsAs, RunsBy}
use Rattle.zst_image.specs.declared.pool_state.PoolState.{PoolState}
use Rattle.zst_image.specs.declared.open_fault.OpenFault.{OpenFault}
use Rattle.zst_image.specs.declared.open_fault.OpenFault.TheVariants as opens
use Rattle.zst_recv.specs.Tokens.{token_told}
use Rattle.zst_token.specs.declared.token.Token.{Token}
use Rattle.zst_run.specs.Commands.{IsPoolRefusal}
use Rattle.zst_run.specs.Tokens.{AnswersBy, OfToken, TellsToken, TokenOpened, TokenRan}
use Rattle.zst_run.proofs.CommandLemmas.{open_alive, open_disk}

-- ---- where the pool can't be opened

-- where the image reads as a pool, the disk failed or no memory was left
unopened_answers : (told : Result Token PlanFault) (fault : OpenFault) → ReadFault fault → AnswersBy told (Err (open_refusal fault))
unopened_answers told opens.DiskFault is = tt
unopened_answers told opens.OutOfMemory is = tt
unopened_answers told (opens.Damaged sector stated found) is = absurd is
unopened_answers told opens.NoPool is = absurd is
unopened_answers told (opens.BadVersion version) is = absurd is

unopened_says : (dataset : List ℕ) (here : DiskState) (fault : OpenFault) → OpenAnswers here (Err fault) → TokenOpened dataset here (Err (open_refusal fault))
unopened_says dataset here (opens.Damaged sector stated found) is = is
unopened_says dataset here opens.NoPool is = is
unopened_says dataset here (opens.BadVersion version) is = record { body = is.0; there = is.1; version = is.2; other = is.3 }
unopened_says dataset here opens.DiskFault is = tt
unopened_says dataset here opens.OutOfMemory is = tt

pub unopened : (dataset : List ℕ) (here here' : DiskState) (fault : OpenFault)
    → ((tight : Bool) (body : Body) (rows : Rows) (pool : Pool) → here'.honest → ReadsAs tight body rows pool here.seen → GivesPool body rows (Err fault))
    → (here'.honest → OpenAnswers here (Err fault)) → OnlyReads here here' → disk_calls.HasDiskCause {T = PoolState} opens.DiskFault here.faults here'.faults (Err fault)
    → TellsToken dataset here here' (Err (open_refusal fault))
unopened dataset here here' fault there answer reads cause = record {
  reads = reads;
  answers = λ pool told is. unopened_answers (token_told dataset pool) fault (there false is.0 is.1 pool told is.2);
  opened = λ told. unopened_says dataset here fault (answer told);
  refused = record { one = inl (fault, refl); alive = open_alive fault; cause = λ is. cause.fault (ap (λ (f : OpenFault). Err f) (open_disk fault is)) };
  later = cause.later;
}

-- ---- where it is opened

-- what a pool tells, its fault as a refusal
abbrev pub as_answer : Result Token PlanFault → Result Token Refusal
as_answer told = result_map_both (λ token. token) refusal_of told

-- a pool that tells no token tells E14
abbrev pub IsMissing : List ℕ → Result Token PlanFault → Type 0
IsMissing dataset told = IfErr told (λ fault. fault ≡ NoPartial dataset)

found_answers : (told found : Result Token PlanFault) → found ≡ told → (dataset : List ℕ) → IsMissing dataset found → AnswersBy told (as_answer found)
found_answers told (Ok token) same dataset missing = ap as_answer same
found_answers told (Err fault) same dataset missing =
    subst (λ (f : PlanFault). AnswersBy told (Err (refusal_of f))) (sym missing) (subst (λ (f : PlanFault). Err (refusal_of f) ≡ as_answer told) missing (ap as_answer same))

found_says : (dataset : List ℕ) (here : DiskState) (found : Result Token PlanFault) → IsMissing dataset found → ((body : Body) × (rows : Rows) × TokenRan dataset here (as_answer found) body rows)
    → TokenOpened dataset here (as_answer found)
found_says dataset here (Ok token) missing has = has
found_says dataset here (Err fault) missing has =
    subst (λ (f : PlanFault). TokenOpened dataset here (Err (refusal_of f))) (sym missing)
    (subst (λ (f : PlanFault). (body : Body) × (rows : Rows) × TokenRan dataset here (Err (refusal_of f)) body rows) missing has)

found_refused : (dataset : List ℕ) (here here' : DiskState) (found : Result Token PlanFault) → IsMissing dataset found → IfErr (as_answer found) (IsPoolRefusal (OfToken dataset) here here')
found_refused dataset here here' (Ok token) missing = tt
found_refused dataset here here' (Err fault) missing =
    subst (λ (f : PlanFault). IsPoolRefusal (OfToken dataset) here here' (refusal_of f)) (sym missing)
    (record { one = inr refl; alive = λ is. absurd (cc is); cause = λ is. absurd (cc is) })

pub opened : (dataset : List ℕ) (here here' : DiskState) (kept : PoolState) (found : Result Token PlanFault)
    → ((tight : Bool) (body : Body) (rows : Rows) (pool : Pool) → here'.honest → ReadsAs tight body rows pool here.seen → GivesPool body rows (Ok kept))
    → (here'.honest → OpenAnswers here (Ok kept)) → OnlyReads here here' → here.faults ≤ here'.faults
    → ((pool : Pool) → AreNamed kept.dir pool → found ≡ token_told dataset pool)
    → ((bound : Option ℕ) (image : List ℕ) (space : FreeSectors) (pool : Pool) → RunsBy bound (Has image space) kept.dir pool → found ≡ token_told dataset pool) → IsMissing dataset found
    → TellsToken dataset here here' (as_answer found)
opened dataset here here' kept found there answer reads later named runs missing = record {
  reads = reads;
  answers = λ pool told is.
      let gives = there false is.0 is.1 pool told is.2 in
      found_answers (token_told dataset pool) found
      (runs None here.seen (free_by is.0) pool (subst (λ (r : Rows). RunsBy None (Has here.seen (free_by is.0)) r pool) (sym gives.1) is.2.described.rows_are)) dataset missing;
  opened = λ told. let was = answer told in
      found_says dataset here found missing (
        kept.body,
        was.1,
        record { opens = (was.0, was.2, was.3); told = λ pool names. ap as_answer (named pool (subst (λ (r : Rows). AreNamed r pool) (sym was.4) names.are_named)) },
      );
  refused = found_refused dataset here here' found missing;
  later = later;
}
