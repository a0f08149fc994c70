-- A receive leaves a pool within its limits.
use Rattle.std.proofs.Common.{◌≡◌, inl, inr, ℕ, ◌+◌, Bool, true, false, not, ◌&&◌, List, [], ◌∷◌, ◌++◌, length, nat_lt, Option, Result, Ok, refl, sym, subst, cond, arith}
use Rattle.std.specs.Prelude.{bytes_eq, filter}
use Rattle.std.proofs.lemmas.Bool.{ltb-false}
use Rattle.zst_model.specs.declared.refusals.faults.Quantity.TheVariants as quantities
use Rattle.zst_model.specs.declared.refusals.refusal.Refusal.{Refusal}
use Rattle.zst_model.specs.declared.refusals.refusal.Refusal.TheVariants as refusals
use Rattle.zst_model.specs.pools.Limits.{last_number, most_datasets, most_partials, most_snapshots}
use Rattle.zst_model.specs.pools.Pool.{Partial, Pool}
use Rattle.zst_model.specs.pools.Step.{count_datasets, limited}
use Rattle.zst_model.proofs.Results.{ok_parts, unless_ok}
use Rattle.zst_plan.specs.declared.receive.RecvAsk.{RecvAsk}
use Rattle.zst_pool.specs.Partials.{next_commit, with_finished, with_partial}
use Rattle.zst_record.specs.Heads.{Covered}
use Rattle.zst_recv.proofs.CommitLemmas.{commit_is}
use Rattle.zst_recv.specs.Feeds.{and_feed, fault_of, fed_piece, feeds, new_records, receives}
use Rattle.zst_recv.specs.ReceiveSteps.{Stage, Waits, Lives, Ends, Batch, Fed, Goes, Stops, at_stage, batch_of, fed, left_by, pool_of, put, put_at}
use Rattle.zst_stream.specs.Reading.{reading}
use Rattle.zst_replication.specs.TakenSends.{IsInLimits, ReceivesStayInLimits}
use Rattle.zst_replication.proofs.CountedRows.{fewer_left, fewer_of_fewer}
use Rattle.zst_replication.proofs.FeedSteps.{goes_on, stops_by}
use Rattle.zst_replication.proofs.RoomyReceives.{counted, counts_among}

-- a commit looks at them
committed_limits : (pool next : Pool) → next_commit pool ≡ Ok next → IsInLimits next
committed_limits pool next e =
    let last : Result Pool Refusal = Ok (record pool { number = pool.number + 1 }) in
    let numbered = limited quantities.Number last_number (pool.number + 1) last in
    let snapshots = limited quantities.Snapshots most_snapshots (length pool.snapshots + length pool.partials) numbered in
    let datasets = limited quantities.Datasets most_datasets (count_datasets pool) snapshots in
    let a = unless_ok (nat_lt most_partials (length pool.partials)) (refusals.Limit quantities.Partials most_partials) datasets next e in
    let b = unless_ok (nat_lt most_datasets (count_datasets pool)) (refusals.Limit quantities.Datasets most_datasets) snapshots next a.1 in
    let c = unless_ok (nat_lt most_snapshots (length pool.snapshots + length pool.partials)) (refusals.Limit quantities.Snapshots most_snapshots) numbered next b.1 in
    let now : IsInLimits (record pool { number = pool.number + 1 }) =
    record {
      partials = ltb-false most_partials (length pool.partials) a.0;
      datasets = ltb-false most_datasets (count_datasets pool) b.0;
      snapshots = ltb-false most_snapshots (length pool.snapshots + length pool.partials) c.0;
    } in
    subst IsInLimits (sym (commit_is pool next e)) now

-- fewer partial states pass none
fewer_limits : (pool : Pool) (k : Partial → Bool) → IsInLimits pool → IsInLimits (record pool { partials = filter k pool.partials })
fewer_limits pool k is =
    let n = fewer_left k pool.partials in
    let c = fewer_of_fewer (counts_among pool.datasets) k pool.partials in
    let all = counted pool in
    let now = counted (record pool { partials = filter k pool.partials }) in
    record {
      partials = omega (arith, n, is.partials);
      datasets = omega (arith, c, all, now, is.datasets);
      snapshots = omega (arith, n, is.snapshots);
    }

left_limits : (stage : Stage) (pool : Pool) → IsInLimits pool → IsInLimits (left_by stage pool)
left_limits Waits pool is = is
left_limits (Lives flags partial) pool is = fewer_limits pool (λ p. not (bytes_eq p.target partial.target && not p.keep)) is
left_limits (Ends partial) pool is = is

put_limits : (batch : Batch) (pool next : Pool) → IsInLimits pool → put batch pool ≡ Ok next → IsInLimits next
put_limits batch pool next is e = go batch.taken e
  where
    as_is : ◌≡◌ {A = Result Pool Refusal} (Ok pool) (Ok next) → IsInLimits next
    as_is e = subst IsInLimits (ok_parts pool next e) is

    at : (s : Stage) → put_at batch.rolls s pool ≡ Ok next → IsInLimits next
    at Waits e = as_is e
    at (Lives flags partial) e = committed_limits (with_partial batch.rolls partial pool) next e
    at (Ends partial) e = committed_limits (with_finished partial pool) next e

    go : (t : Bool) → cond t (put_at batch.rolls batch.stage pool) (Ok pool) ≡ Ok next → IsInLimits next
    go true e = at batch.stage e
    go false e = as_is e

-- ---- feeds

fed_limits : (ask : RecvAsk) (records : List Covered) (fault : Option Refusal) (stage : Stage) (pool : Pool) → IsInLimits pool → (f : Fed) → fed ask records fault stage pool ≡ f → IsInLimits (pool_of f)
fed_limits ask records fault stage pool is (Goes next after) e =
    put_limits (batch_of ask pool records (at_stage stage)).batch pool next is (goes_on ask records fault stage after pool next e).put_is
fed_limits ask records fault stage pool is (Stops next refusal) e = elim (stops_by ask records fault stage pool next refusal e) [
  | inl left ↦ subst IsInLimits (sym left) (left_limits stage pool is)
  | inr taken ↦ put_limits (batch_of ask pool records (at_stage stage)).batch pool next is taken.1
]

feeds_limits : (ask : RecvAsk) (text : List ℕ) (pieces : List (List ℕ)) (stage : Stage) (pool : Pool) → IsInLimits pool → IsInLimits (pool_of (feeds ask text pieces stage pool))
unfolding feeds
feeds_limits ask text [] stage pool is = is
feeds_limits ask text (piece ∷ rest) stage pool is =
    go (fed_piece ask text piece stage pool) (fed_limits ask (new_records text piece) (fault_of (reading (text ++ piece)).outcome) stage pool is (fed_piece ask text piece stage pool) refl)
    (λ next after more. feeds_limits ask (text ++ piece) rest after next more)
  where
    go : (f : Fed) → IsInLimits (pool_of f) → ((next : Pool) (after : Stage) → IsInLimits next → IsInLimits (pool_of (feeds ask (text ++ piece) rest after next)))
        → IsInLimits (pool_of (and_feed f (feeds ask (text ++ piece) rest)))
    go (Goes next after) now on = on next after now
    go (Stops next refusal) now on = now

pub receives_limited : ReceivesStayInLimits
receives_limited ask pool pieces is =
    let now = feeds_limits ask [] pieces Waits pool is in
    (now, fewer_limits (pool_of (receives ask pool pieces)) (λ p. p.keep) now)
