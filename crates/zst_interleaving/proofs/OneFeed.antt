-- One feed of a receive, from the pool that it finds.
use Rattle.std.proofs.Common.{◌≡◌, ◌⊎◌, inl, inr, ℕ, Bool, true, false, not, List, [], ◌∷◌, ◌++◌, All, AllPairs, Option, Some, None, Ok, refl, sym, ap, ◌∙◌, subst, cond, find, ◌&&◌}
use Rattle.std.specs.Prelude.{bytes_eq, filter, nat_lt, ◌+◌, length}
use Rattle.std.specs.Option.{option_map_or}
use Rattle.std.proofs.lemmas.List.Elements.{All-contains}
use Rattle.zst_laws.specs.ReceivedRecords.{ReceivedIsApplied}
use Rattle.zst_model.specs.declared.refusals.faults.Quantity.TheVariants as quantities
use Rattle.zst_model.specs.declared.refusals.refusal.Refusal.{Refusal}
use Rattle.zst_model.specs.declared.refusals.refusal.Refusal.TheVariants as refusals
use Rattle.zst_model.specs.pools.KeptPool.{kept_of}
use Rattle.zst_model.specs.pools.Pool.{HasSnapshot, IsPool, Partial, Pool, Snapshot, is_before, partial_of, snapshot_named}
use Rattle.zst_model.proofs.FoundElements.{found_passes, own_target}
use Rattle.zst_model.proofs.InsertedLaws.{AllPairs-head, AllPairs-tail}
use Rattle.zst_model.proofs.OrderLaws.{not_before_itself, same_bytes}
use Rattle.zst_model.proofs.Results.{ok_parts}
use Rattle.zst_plan.specs.RecvPlan.{snapshot_name}
use Rattle.zst_plan.specs.declared.receive.RecvAsk.{RecvAsk}
use Rattle.zst_pool.specs.Partials.{partials_of_others}
use Rattle.zst_reader.specs.InputReads.{stream_limit}
use Rattle.zst_record.specs.Heads.{Covered}
use Rattle.zst_stream.specs.Laws.{FrontsAgree}
use Rattle.zst_stream.specs.Reading.{reading}
use Rattle.zst_recv.specs.Answers.{is_done}
use Rattle.zst_recv.specs.Feeds.{fault_of, fed_piece, new_records}
use Rattle.zst_recv.specs.ReceiveSteps.{Stage, Waits, Lives, Ends, Batch, Fed, Goes, Stops, at_stage, batch_of, committed, fed, keeps_front, left_by, pool_of, put, put_at}
use Rattle.zst_replication.specs.Outcomes.{HasNothing}
use Rattle.zst_replication.proofs.AppliedRecords.{Applied, batch_applied}
use Rattle.zst_replication.proofs.FeedSequences.{feed_worked, stands_first}
use Rattle.zst_replication.proofs.FeedSteps.{goes_on, new_are}
use Rattle.zst_replication.proofs.FirstRecords.{FirstIsBegin, first_is_begin}
use Rattle.zst_replication.proofs.Rows.{filter_inserted, others_all}
use Rattle.zst_replication.proofs.RunningPools.{AddsPartial, IsAsked, Runs, Worked, batch_runs, batch_worked, nothing_worked, row_before}
use Rattle.zst_replication.proofs.StoppedReceives.{untouched}
use Rattle.zst_sessions.specs.Lawfulness.{IsStanding}
use Rattle.zst_sessions.specs.Moves.{feeding}

-- ---- a piece within the limit of a stream

pub goes_parts : (a b : Pool) (s t : Stage) → Goes a s ≡ Goes b t → (a ≡ b) × (s ≡ t)
goes_parts a b s t e = (cc, cc)

-- a feed that goes on is one of a piece within the limit
pub within : (ask : RecvAsk) (text piece : List ℕ) (stage after : Stage) (pool next : Pool) → feeding ask text piece stage pool ≡ Goes next after → fed_piece ask text piece stage pool ≡ Goes next after
within ask text piece stage after pool next e = go (nat_lt stream_limit (length text + length piece)) e
  where
    go : (t : Bool) → cond t (Stops (left_by stage pool) (refusals.Limit quantities.Stream stream_limit)) (fed_piece ask text piece stage pool) ≡ Goes next after → fed_piece ask text piece stage pool ≡ Goes next after
    go true e = absurd cc
    go false e = e

-- ---- what is committed

module _ (ask : RecvAsk) (pool : Pool) where
  -- the partial state that stands in the pool is one of the receive
  standing_asked : (flags : ℕ) (partial : Partial) → IsStanding ask (Lives flags partial) pool → IsAsked ask pool partial
  standing_asked flags partial there = record {
    target = own_target ask.target pool partial there;
    keep = sym (ap (λ (o : Option Partial). option_map_or (λ old. old.keep) o ask.keep) there);
  }

  living_worked : (flags : ℕ) (partial : Partial) (records : List Covered) → IsStanding ask (Lives flags partial) pool
      → Worked ask pool (Lives flags partial) (batch_of ask pool records (at_stage (Lives flags partial))).batch
  living_worked flags partial records there =
      batch_worked ask pool pool (Lives flags partial) (λ waits. absurd (let e = waits in cc)) records (at_stage (Lives flags partial))
      (nothing_worked ask pool (Lives flags partial) (standing_asked flags partial there))

  -- what a batch of a feed has of the receive
  pub worked_here : (stage : Stage) (records : List Covered) → is_done stage ≡ false → IsStanding ask stage pool → Worked ask pool stage (batch_of ask pool records (at_stage stage)).batch
  worked_here Waits records unended there = feed_worked ask pool Waits pool records (stands_first ask pool)
  worked_here (Lives flags partial) records unended there = living_worked flags partial records there
  worked_here (Ends partial) records unended there = absurd cc

  -- one commit was made in the pool that was found, or nothing was taken
  abbrev pub CommitsOnce : (stage : Stage) → Batch → Pool → Type 0
  CommitsOnce stage batch next = ((next ≡ pool) × (batch.stage ≡ stage)) ⊎ Runs ask pool batch.stage next

  living_commits : (flags : ℕ) (partial : Partial) (batch : Batch) (next : Pool) → Worked ask pool (Lives flags partial) batch → put batch pool ≡ Ok next → CommitsOnce (Lives flags partial) batch next
  living_commits flags partial batch next worked e = go batch.taken refl e
    where
      anew : batch.taken ≡ true → Worked ask pool Waits batch
      anew is = record {
        asked = worked.asked;
        rolls = λ r. absurd (let both = (worked.rolls r).1 in cc);
        idle = λ i. absurd (let both = sym is ∙ i in cc);
        waits = λ w. refl;
      }

      go : (t : Bool) → batch.taken ≡ t → cond t (put_at batch.rolls batch.stage pool) (Ok pool) ≡ Ok next → CommitsOnce (Lives flags partial) batch next
      go true is k = inr (batch_runs ask pool Waits pool next batch refl refl tt (anew is) e)
      go false is k = inl (sym (ok_parts _ _ k), worked.idle is)

  pub commits_once : (stage : Stage) (records : List Covered) (next : Pool) → is_done stage ≡ false → IsStanding ask stage pool
      → put (batch_of ask pool records (at_stage stage)).batch pool ≡ Ok next → CommitsOnce stage (batch_of ask pool records (at_stage stage)).batch next
  commits_once Waits records next unended there e = inr (batch_runs ask pool Waits pool next (batch_of ask pool records (at_stage Waits)).batch refl refl tt (worked_here Waits records unended there) e)
  commits_once (Lives flags partial) records next unended there e =
      living_commits flags partial (batch_of ask pool records (at_stage (Lives flags partial))).batch next (worked_here (Lives flags partial) records unended there) e
  commits_once (Ends partial) records next unended there e = absurd cc

-- ---- what is applied

-- the records of a longer text begin with BEGIN
pub begins_so : FrontsAgree → (text piece : List ℕ) → FirstIsBegin ((reading text).covered ++ new_records text piece)
begins_so agree text piece = subst (λ (cs : List Covered). FirstIsBegin cs) (new_are agree text piece) (first_is_begin (text ++ piece))

-- a feed that goes on stands behind all that its text covers
pub fed_applied : ReceivedIsApplied → FrontsAgree → (ask : RecvAsk) (began pool next : Pool) (text piece : List ℕ) (stage after : Stage) → Applied ask began pool stage (reading text).covered
    → fed_piece ask text piece stage pool ≡ Goes next after → Applied ask began pool after (reading (text ++ piece)).covered
fed_applied law agree ask began pool next text piece stage after applied e =
    let on = goes_on ask (new_records text piece) (fault_of (reading (text ++ piece)).outcome) stage after pool next e in
    subst (λ (s : Stage). Applied ask began pool s (reading (text ++ piece)).covered) on.after_is
    (subst (λ (cs : List Covered). Applied ask began pool (batch_of ask pool (new_records text piece) (at_stage stage)).batch.stage cs) (sym (new_are agree text piece))
    (batch_applied law ask began pool (reading text).covered (new_records text piece) (at_stage stage) (begins_so agree text piece) applied on.none_refused))

-- ---- a partial state that isn't kept

none_behind : (target : List ℕ) (p : Partial) (ps : List Partial) → bytes_eq p.target target ≡ true → All (λ q. is_before p.target q.target ≡ true) ps → find (λ q. bytes_eq q.target target) ps ≡ None
none_behind target p ps own before = go (find (λ (q : Partial). bytes_eq q.target target) ps) refl
  where
    go : (o : Option Partial) → find (λ (q : Partial). bytes_eq q.target target) ps ≡ o → o ≡ None
    go None e = refl
    go (Some q) e =
        let found = found_passes (λ (q : Partial). bytes_eq q.target target) ps q e in
        let same : q.target ≡ p.target = same_bytes q.target target found.1 ∙ sym (same_bytes p.target target own) in
        let less : is_before p.target q.target ≡ true = All-contains (λ (q : Partial). is_before p.target q.target ≡ true) ps q before found.0 in
        absurd (not_before_itself p.target (subst (λ (t : List ℕ). is_before p.target t ≡ true) same less))

-- those of others that are kept are all that are kept
others_unkept : (target : List ℕ) (ps : List Partial) → AllPairs (λ a b. is_before a.target b.target ≡ true) ps → ((p : Partial) → find (λ q. bytes_eq q.target target) ps ≡ Some p → p.keep ≡ false)
    → filter (λ p. p.keep) (filter (λ p. not (bytes_eq p.target target)) ps) ≡ filter (λ p. p.keep) ps
others_unkept target [] rise unkept = refl
others_unkept target (p ∷ ps) rise unkept = go (bytes_eq p.target target) p.keep refl refl unkept (others_unkept target ps (AllPairs-tail (λ (a b : Partial). is_before a.target b.target ≡ true) p ps rise))
  where
    others : List Partial
    others = filter (λ q. not (bytes_eq q.target target)) ps

    all : bytes_eq p.target target ≡ true → others ≡ ps
    all own = others_all (λ (q : Partial). bytes_eq q.target target) ps (none_behind target p ps own (AllPairs-head (λ (a b : Partial). is_before a.target b.target ≡ true) p ps rise))

    go : (t k : Bool) → bytes_eq p.target target ≡ t → p.keep ≡ k → ((q : Partial) → cond t (Some p) (find (λ q. bytes_eq q.target target) ps) ≡ Some q → q.keep ≡ false)
        → (((q : Partial) → find (λ q. bytes_eq q.target target) ps ≡ Some q → q.keep ≡ false) → filter (λ q. q.keep) others ≡ filter (λ q. q.keep) ps)
        → filter (λ q. q.keep) (cond (not t) (p ∷ others) others) ≡ cond k (p ∷ filter (λ q. q.keep) ps) (filter (λ q. q.keep) ps)
    go true true own kept none rest = absurd (let fleeting = sym kept ∙ none p refl in cc)
    go true false own kept none rest = ap (λ (qs : List Partial). filter (λ q. q.keep) qs) (all own)
    go false true own kept none rest = ap (λ (b : Bool). cond b (p ∷ filter (λ q. q.keep) others) (filter (λ q. q.keep) others)) kept ∙ ap (λ (qs : List Partial). p ∷ qs) (rest none)
    go false false own kept none rest = ap (λ (b : Bool). cond b (p ∷ filter (λ q. q.keep) others) (filter (λ q. q.keep) others)) kept ∙ rest none

-- of a receive that isn't kept the image has nothing
pub unkept_nothing : (ask : RecvAsk) (pool next : Pool) (partial : Partial) → IsPool pool → IsAsked ask pool partial → AddsPartial ask pool next partial → partial.keep ≡ false
    → HasNothing ask (kept_of pool) (kept_of next)
unkept_nothing ask pool next partial lawful asked under fleeting = record {
  untouched = untouched ask pool next partial asked under;
  partials =
      ap (λ (p : Pool). (kept_of p).partials) under.pool_is ∙ filter_inserted (λ (p : Partial). p.keep) row_before partial (partials_of_others ask.target pool) fleeting
      ∙ others_unkept ask.target pool.partials lawful.named.partials (λ old there. ap (λ (o : Option Partial). option_map_or (λ old. old.keep) o ask.keep) (sym there) ∙ sym asked.keep ∙ fleeting);
}

-- ---- the name of the snapshot that is to be

-- no snapshot of the target has the component of its partial state
pub component_is_new : (ask : RecvAsk) (pool : Pool) (partial : Partial) → IsPool pool → partial_of ask.target pool ≡ Some partial → snapshot_named (snapshot_name ask.target partial.component) pool ≡ None
component_is_new ask pool partial lawful there = go (snapshot_named (snapshot_name ask.target partial.component) pool) refl
  where
    free : HasSnapshot pool (snapshot_name ask.target partial.component) → ⊥
    free =
        subst (λ (t : List ℕ). HasSnapshot pool (snapshot_name t partial.component) → ⊥) (own_target ask.target pool partial there)
        (All-contains (λ (p : Partial). HasSnapshot pool (p.target ++ 64 ∷ p.component) → ⊥) pool.partials partial lawful.linked.components
        (found_passes (λ (p : Partial). bytes_eq p.target ask.target) pool.partials partial there).0)

    go : (o : Option Snapshot) → snapshot_named (snapshot_name ask.target partial.component) pool ≡ o → o ≡ None
    go None e = refl
    go (Some snapshot) e =
        let found = found_passes (λ (s : Snapshot). bytes_eq s.name (snapshot_name ask.target partial.component)) pool.snapshots snapshot e in
        absurd (free (snapshot, found.0, same_bytes snapshot.name (snapshot_name ask.target partial.component) found.1))

-- ---- a piece behind which nothing is covered

abbrev pub waiting_feed : Pool → Option Refusal → Fed
waiting_feed pool None = Goes pool Waits
waiting_feed pool (Some refusal) = Stops pool refusal

nothing_taken : (ask : RecvAsk) (fault : Option Refusal) (pool : Pool) → fed ask [] fault Waits pool ≡ waiting_feed pool fault
unfolding fed batch_of
nothing_taken ask None pool = refl
nothing_taken ask (Some refusal) pool = go (keeps_front refusal)
  where
    go : (t : Bool) → cond (t && false) (committed Waits pool (put (at_stage Waits) pool) (λ next. Stops next refusal)) (Stops pool refusal) ≡ Stops pool refusal
    go true = refl
    go false = refl

none_new : (few others : List Covered) → [] ≡ few ++ others → others ≡ []
none_new [] others e = sym e
none_new (c ∷ few) others e = absurd cc

pub nothing_covered : FrontsAgree → (ask : RecvAsk) (text piece : List ℕ) (pool : Pool) → (reading (text ++ piece)).covered ≡ [] → fed_piece ask text piece Waits pool ≡ waiting_feed pool (fault_of (reading (text ++ piece)).outcome)
nothing_covered agree ask text piece pool none =
    let new = none_new (reading text).covered (new_records text piece) (sym none ∙ new_are agree text piece) in
    ap (λ (cs : List Covered). fed ask cs (fault_of (reading (text ++ piece)).outcome) Waits pool) new ∙ nothing_taken ask (fault_of (reading (text ++ piece)).outcome) pool

pub waiting_pool : (pool : Pool) (fault : Option Refusal) → pool_of (waiting_feed pool fault) ≡ pool
waiting_pool pool None = refl
waiting_pool pool (Some refusal) = refl

pub still_waits : (pool next : Pool) (fault : Option Refusal) (after : Stage) → waiting_feed pool fault ≡ Goes next after → Waits ≡ after
still_waits pool next None after e = (goes_parts pool next Waits after e).1
still_waits pool next (Some refusal) after e = absurd cc

-- a receive that has begun waits no more
pub begun_stays : (ask : RecvAsk) (pool next : Pool) (text piece : List ℕ) (flags : ℕ) (partial : Partial) → IsStanding ask (Lives flags partial) pool
    → fed_piece ask text piece (Lives flags partial) pool ≡ Goes next Waits → ⊥
begun_stays ask pool next text piece flags partial there e =
    let on = goes_on ask (new_records text piece) (fault_of (reading (text ++ piece)).outcome) (Lives flags partial) Waits pool next e in
    let waits = (worked_here ask pool (Lives flags partial) (new_records text piece) refl there).waits on.after_is in cc
