-- What a receive makes is its own.
use Rattle.std.proofs.Common.{◌≡◌, ◌⊎◌, inl, inr, ℕ, ◌+◌, Bool, true, false, List, [], ◌∷◌, ◌++◌, Option, Some, None, Result, Ok, Err, refl, sym, ap, subst, cond, ◌&&◌, nat_lt, length}
use Rattle.zst_model.specs.declared.refusals.faults.Quantity.TheVariants as quantities
use Rattle.zst_model.specs.declared.refusals.refusal.Refusal.{Refusal}
use Rattle.zst_model.specs.declared.refusals.refusal.Refusal.TheVariants as refusals
use Rattle.zst_model.specs.declared.refusals.plan_fault.PlanFault.{PlanFault}
use Rattle.zst_model.specs.declared.sends.header.Header.{Header}
use Rattle.zst_model.specs.pools.Pool.{Pool, Partial, Snapshot}
use Rattle.zst_model.specs.pools.Limits.{most_partials}
use Rattle.zst_model.specs.pools.Step.{count_datasets, last_number, most_datasets, most_snapshots}
use Rattle.zst_model.specs.refusals.Refusal.{refusal_of}
use Rattle.zst_model.specs.states.AppliedItems.{unless, ◌>>=◌}
use Rattle.zst_model.proofs.Results.{bind_ok, ok_parts}
use Rattle.zst_plan.specs.Places.{AnswerAlike}
use Rattle.zst_plan.specs.RecvPlan.{Base, RecvPlan, Resumes, Begins, recv_plan}
use Rattle.zst_plan.specs.declared.receive.RecvAsk.{RecvAsk}
use Rattle.zst_pool.specs.Partials.{next_commit, with_finished, with_partial}
use Rattle.zst_record.specs.declared.head.Head.{Head}
use Rattle.zst_record.specs.declared.head.Head.TheVariants as heads
use Rattle.zst_record.specs.Heads.{Covered}
use Rattle.zst_recv.specs.Feeds.{fault_of, fed_piece, new_records}
use Rattle.zst_recv.specs.ReceiveSteps.{Stage, Waits, Lives, Ends, Batch, EndedBatch, Fed, Goes, Stops, at_stage, batch_of, batch_by, began, begun, committed, fed, first_fault, is_kept, keeps_front, left_by, moved_by, of_plan, opened, put, put_at, settled, taken, taken_at, went_on, with_applied}
use Rattle.zst_stream.specs.Reading.{reading}
use Rattle.zst_sessions.proofs.SameContents.{alike_on, moved_alike}
use Rattle.zst_sessions.specs.Isolation.{SamePartial, SameStage, SameBase, SamePlan, PlannedAlike, SameFed, IsPoolLimit, StopsAtLimit, FeedsAreOwn, GoesBy, Here, Then, IsPlanned, ReceivesAreOwn}

-- ---- a stage behind BEGIN stays behind it

-- what holds of each stage behind BEGIN, and of all where it holds of one that waits, goes on to hold
module _ (ask : RecvAsk) (pool : Pool) (Is : Stage → Type 0) (lives : (flags : ℕ) (partial : Partial) → Is (Lives flags partial)) (ends : (partial : Partial) → Is (Ends partial)) (any : Is Waits → (stage : Stage) → Is stage) where
  same_stage : (batch after : Batch) → ◌≡◌ {A = Result Batch Refusal} (Ok batch) (Ok after) → Is batch.stage → Is after.stage
  same_stage batch after e is = subst (λ (w : Batch). Is w.stage) (ok_parts batch after e) is

  moved_stage : (c : Covered) (flags : ℕ) (partial : Partial) (batch after : Batch) → (moved_by (pool.number + 1) c flags partial >>= λ moved. Ok (with_applied flags moved batch)) ≡ Ok after → Is after.stage
  moved_stage c flags partial batch after e =
      let found = bind_ok (moved_by (pool.number + 1) c flags partial) (λ moved. Ok (with_applied flags moved batch)) after e in
      subst (λ (w : Batch). Is w.stage) (ok_parts (with_applied flags found.0 batch) after found.2) (lives flags found.0)

  went_stage : (c : Covered) (flags : ℕ) (partial : Partial) (batch after : Batch) → Is batch.stage → (head : Head) → went_on (pool.number + 1) c flags partial batch head ≡ Ok after → Is after.stage
  went_stage c flags partial batch after is (heads.Begin header len) e = same_stage batch after e is
  went_stage c flags partial batch after is (heads.Object object kind bonus_kind block_size bonus_len max_block to) e = moved_stage c flags partial batch after e
  went_stage c flags partial batch after is (heads.FreeObjects first many to) e = moved_stage c flags partial batch after e
  went_stage c flags partial batch after is (heads.Write object kind offset size to) e = moved_stage c flags partial batch after e
  went_stage c flags partial batch after is (heads.Free object offset size to) e = moved_stage c flags partial batch after e
  went_stage c flags partial batch after is (heads.End sums to) e = subst (λ (w : Batch). Is w.stage) (ok_parts _ after e) (ends partial)
  went_stage c flags partial batch after is (heads.Spill object size to) e = moved_stage c flags partial batch after e
  went_stage c flags partial batch after is (heads.Redact object offset size to) e = moved_stage c flags partial batch after e

  taken_is : (c : Covered) (batch after : Batch) (stage : Stage) → batch.stage ≡ stage → taken_at ask pool c batch stage ≡ Ok after → Is stage → Is after.stage
  taken_is c batch after Waits at e is = any is after.stage
  taken_is c batch after (Lives flags partial) at e is = went_stage c flags partial batch after (subst Is (sym at) is) c.head e
  taken_is c batch after (Ends partial) at e is = same_stage batch after e (subst Is (sym at) is)

  batch_is : (records : List Covered) (batch : Batch) → Is batch.stage → Is (batch_of ask pool records batch).batch.stage
  unfolding batch_of
  batch_is [] batch is = is
  batch_is (c ∷ rest) batch is = go (taken ask pool c batch) refl (λ after more. batch_is rest after more)
    where
      go : (r : Result Batch Refusal) → taken ask pool c batch ≡ r → ((after : Batch) → Is after.stage → Is (batch_of ask pool rest after).batch.stage) → Is (batch_by r batch (batch_of ask pool rest)).batch.stage
      go (Ok after) e on = on after (taken_is c batch after batch.stage refl e is)
      go (Err refusal) e on = is

-- ---- batches

-- two feeds so far made the same
pub record SameBatch (one other : Batch) : Type 0 where
  pub stage : SameStage one.stage other.stage
  pub taken : one.taken ≡ other.taken
  pub applied : one.applied ≡ other.applied

module _ (ask : RecvAsk) (pool other : Pool) where
  -- the plan of a header is alike in both pools
  abbrev Alike : Type 0
  Alike = (header : Header) → AnswerAlike SamePlan (recv_plan ask header pool) (recv_plan ask header other)

  of_plans : (r s : Result RecvPlan PlanFault) → AnswerAlike SamePlan r s → AnswerAlike SamePlan (of_plan r) (of_plan s)
  of_plans (Ok plan) (Ok also) alike = alike
  of_plans (Ok plan) (Err fault) alike = absurd alike
  of_plans (Err fault) (Ok also) alike = absurd alike
  of_plans (Err fault) (Err also) alike = ap refusal_of alike

  begun_alike : (header : Header) (component : List ℕ) (base also : Base) → SameBase base.snapshot also.snapshot → SamePartial (begun ask header component base) (begun ask header component also)
  begun_alike header component base also same = go base.snapshot also.snapshot base.rolls also.rolls same
    where
      go : (a b : Option Snapshot) (s t : Bool) → SameBase a b
          → SamePartial (begun ask header component (record { snapshot = a; rolls = s })) (begun ask header component (record { snapshot = b; rolls = t }))
      go None None s t same = record { content = refl; rest = refl }
      go None (Some b) s t same = absurd same
      go (Some a) None s t same = absurd same
      go (Some a) (Some b) s t same = record {
        content = same.1;
        rest = ap (λ (name : List ℕ). record (begun ask header component (record { snapshot = Some b; rolls = t })) { base = Some name; objects = a.objects }) same.0;
      }

  opened_alike : (header : Header) (plan also : RecvPlan) → SamePlan plan also → SameBatch (opened ask header plan) (opened ask header also)
  opened_alike header (Resumes one) (Resumes two) same = record { stage = (refl, same); taken = refl; applied = refl }
  opened_alike header (Resumes one) (Begins component base) same = absurd same
  opened_alike header (Begins component base) (Resumes two) same = absurd same
  opened_alike header (Begins component base) (Begins too also) same = record {
    stage = (refl, subst (λ (name : List ℕ). SamePartial (begun ask header component base) (begun ask header name also)) same.0 (begun_alike header component base also same.1));
    taken = refl;
    applied = refl;
  }

  began_alike : Alike → (batch also : Batch) → SameBatch batch also → (head : Head) → AnswerAlike SameBatch (began ask pool batch head) (began ask other also head)
  began_alike alike batch also same (heads.Begin header len) =
      alike_on SamePlan SameBatch (of_plan (recv_plan ask header pool)) (of_plan (recv_plan ask header other))
      (λ plan. Ok (opened ask header plan)) (λ plan. Ok (opened ask header plan))
      (of_plans (recv_plan ask header pool) (recv_plan ask header other) (alike header)) (λ x y same. opened_alike header x y same)
  began_alike alike batch also same (heads.Object object kind bonus_kind block_size bonus_len max_block to) = same
  began_alike alike batch also same (heads.FreeObjects first many to) = same
  began_alike alike batch also same (heads.Write object kind offset size to) = same
  began_alike alike batch also same (heads.Free object offset size to) = same
  began_alike alike batch also same (heads.End sums to) = same
  began_alike alike batch also same (heads.Spill object size to) = same
  began_alike alike batch also same (heads.Redact object offset size to) = same

  moving_alike : (c : Covered) (flags stated : ℕ) (one two : Partial) (batch also : Batch) → flags ≡ stated → SamePartial one two → SameBatch batch also
      → AnswerAlike SameBatch (moved_by (pool.number + 1) c flags one >>= λ moved. Ok (with_applied flags moved batch)) (moved_by (other.number + 1) c stated two >>= λ moved. Ok (with_applied stated moved also))
  moving_alike c flags stated one two batch also is same works =
      subst (λ (n : ℕ). AnswerAlike SameBatch (moved_by (pool.number + 1) c flags one >>= λ moved. Ok (with_applied flags moved batch)) (moved_by (other.number + 1) c n two >>= λ moved. Ok (with_applied n moved also))) is
      (alike_on SamePartial SameBatch (moved_by (pool.number + 1) c flags one) (moved_by (other.number + 1) c flags two)
      (λ moved. Ok (with_applied flags moved batch)) (λ moved. Ok (with_applied flags moved also))
      (moved_alike (pool.number + 1) (other.number + 1) c flags one two same)
      (λ x y alike. record { stage = (refl, alike); taken = refl; applied = ap (λ (n : ℕ). n + 1) works.applied }))

  went_alike : (c : Covered) (flags stated : ℕ) (one two : Partial) (batch also : Batch) → flags ≡ stated → SamePartial one two → SameBatch batch also → (head : Head)
      → AnswerAlike SameBatch (went_on (pool.number + 1) c flags one batch head) (went_on (other.number + 1) c stated two also head)
  went_alike c flags stated one two batch also is same works (heads.Begin header len) = works
  went_alike c flags stated one two batch also is same works (heads.Object object kind bonus_kind block_size bonus_len max_block to) = moving_alike c flags stated one two batch also is same works
  went_alike c flags stated one two batch also is same works (heads.FreeObjects first many to) = moving_alike c flags stated one two batch also is same works
  went_alike c flags stated one two batch also is same works (heads.Write object kind offset size to) = moving_alike c flags stated one two batch also is same works
  went_alike c flags stated one two batch also is same works (heads.Free object offset size to) = moving_alike c flags stated one two batch also is same works
  went_alike c flags stated one two batch also is same works (heads.End sums to) = record { stage = same; taken = refl; applied = works.applied }
  went_alike c flags stated one two batch also is same works (heads.Spill object size to) = moving_alike c flags stated one two batch also is same works
  went_alike c flags stated one two batch also is same works (heads.Redact object offset size to) = moving_alike c flags stated one two batch also is same works

  -- the plans are asked only of a receive that waits
  abbrev AlikeAt : Stage → Type 0
  AlikeAt stage = PlannedAlike ask stage pool other

  taken_alike : (c : Covered) (batch also : Batch) (stage too : Stage) → SameStage stage too → SameBatch batch also → AlikeAt stage
      → AnswerAlike SameBatch (taken_at ask pool c batch stage) (taken_at ask other c also too)
  taken_alike c batch also Waits Waits same works plans = began_alike plans batch also works c.head
  taken_alike c batch also Waits (Lives stated two) same works plans = absurd same
  taken_alike c batch also Waits (Ends two) same works plans = absurd same
  taken_alike c batch also (Lives flags one) Waits same works plans = absurd same
  taken_alike c batch also (Lives flags one) (Lives stated two) same works plans = went_alike c flags stated one two batch also same.0 same.1 works c.head
  taken_alike c batch also (Lives flags one) (Ends two) same works plans = absurd same
  taken_alike c batch also (Ends one) Waits same works plans = absurd same
  taken_alike c batch also (Ends one) (Lives stated two) same works plans = absurd same
  taken_alike c batch also (Ends one) (Ends two) same works plans = works

  -- where all plans are alike, they are at each stage
  any_stage : Alike → (stage : Stage) → AlikeAt stage
  any_stage plans Waits = plans
  any_stage plans (Lives flags partial) = tt
  any_stage plans (Ends partial) = tt

  later : (c : Covered) (batch after : Batch) (stage : Stage) → batch.stage ≡ stage → taken_at ask pool c batch stage ≡ Ok after → AlikeAt stage → AlikeAt after.stage
  later c batch after stage is e plans = taken_is ask pool AlikeAt (λ flags partial. tt) (λ partial. tt) any_stage c batch after stage is e plans

  -- what is taken of the records is the same, and so is the first refusal
  pub record SameEndedBatch (one two : EndedBatch) : Type 0 where
    pub batch : SameBatch one.batch two.batch
    pub fault : one.fault ≡ two.fault

  pub batch_alike : (records : List Covered) (batch also : Batch) → SameBatch batch also → AlikeAt batch.stage → SameEndedBatch (batch_of ask pool records batch) (batch_of ask other records also)
  unfolding batch_of
  batch_alike [] batch also works plans = record { batch = works; fault = refl }
  batch_alike (c ∷ rest) batch also works plans =
      go (taken ask pool c batch) (taken ask other c also) refl (taken_alike c batch also batch.stage also.stage works.stage works plans)
      (λ after too more plans. batch_alike rest after too more plans)
    where
      go : (r s : Result Batch Refusal) → taken ask pool c batch ≡ r → AnswerAlike SameBatch r s
          → ((after too : Batch) → SameBatch after too → AlikeAt after.stage → SameEndedBatch (batch_of ask pool rest after) (batch_of ask other rest too))
          → SameEndedBatch (batch_by r batch (batch_of ask pool rest)) (batch_by s also (batch_of ask other rest))
      go (Ok after) (Ok too) e alike on = on after too alike (later c batch after batch.stage refl e plans)
      go (Ok after) (Err refusal) e alike on = absurd alike
      go (Err refusal) (Ok too) e alike on = absurd alike
      go (Err refusal) (Err fault) e alike on = record { batch = works; fault = ap (λ (f : Refusal). Some f) alike }

-- ---- commits

-- a commit is refused for a limit of the pool alone
abbrev RefusedAtLimit : Result Pool Refusal → Type 0
RefusedAtLimit (Ok next) = Unit {0}
RefusedAtLimit (Err refusal) = IsPoolLimit refusal

all_limits : (a b c d : Bool) (p q r s : ℕ) (next : Pool)
    → RefusedAtLimit (unless a (refusals.Limit quantities.Partials p) (unless b (refusals.Limit quantities.Datasets q) (unless c (refusals.Limit quantities.Snapshots r) (unless d (refusals.Limit quantities.Number s) (Ok next)))))
all_limits true b c d p q r s next = tt
all_limits false true c d p q r s next = tt
all_limits false false true d p q r s next = tt
all_limits false false false true p q r s next = tt
all_limits false false false false p q r s next = tt

next_limited : (pool : Pool) → RefusedAtLimit (next_commit pool)
next_limited pool =
    all_limits (nat_lt most_partials (length pool.partials)) (nat_lt most_datasets (count_datasets pool)) (nat_lt most_snapshots (length pool.snapshots + length pool.partials)) (nat_lt last_number (pool.number + 1))
    most_partials most_datasets most_snapshots last_number (record pool { number = pool.number + 1 })

put_limited : (batch : Batch) (pool : Pool) → RefusedAtLimit (put batch pool)
put_limited batch pool = go batch.taken batch.stage
  where
    go : (t : Bool) (stage : Stage) → RefusedAtLimit (cond t (put_at batch.rolls stage pool) (Ok pool))
    go true Waits = tt
    go true (Lives flags partial) = next_limited (with_partial batch.rolls partial pool)
    go true (Ends partial) = next_limited (with_finished partial pool)
    go false stage = tt

-- ---- feeds

kept_alike : (stage also : Stage) → SameStage stage also → is_kept stage ≡ is_kept also
kept_alike Waits Waits same = refl
kept_alike Waits (Lives stated two) same = absurd same
kept_alike Waits (Ends two) same = absurd same
kept_alike (Lives flags one) Waits same = absurd same
kept_alike (Lives flags one) (Lives stated two) same = ap (λ (p : Partial). p.keep) same.1.rest
kept_alike (Lives flags one) (Ends two) same = absurd same
kept_alike (Ends one) Waits same = absurd same
kept_alike (Ends one) (Lives stated two) same = absurd same
kept_alike (Ends one) (Ends two) same = refl

abbrev Either : Fed → Fed → Type 0
Either f g = StopsAtLimit f ⊎ (StopsAtLimit g ⊎ SameFed f g)

-- two commits, of which each may come to a limit, and what follows them
committed_alike : (before also : Stage) (pool other : Pool) (r s : Result Pool Refusal) (f g : Pool → Fed) → RefusedAtLimit r → RefusedAtLimit s → ((x y : Pool) → SameFed (f x) (g y))
    → Either (committed before pool r f) (committed also other s g)
committed_alike before also pool other (Ok x) (Ok y) f g one two on = inr (inr (on x y))
committed_alike before also pool other (Ok x) (Err refusal) f g one two on = inr (inl two)
committed_alike before also pool other (Err refusal) s f g one two on = inl one

settled_alike : (before also : Stage) (pool other : Pool) (batch too : Batch) → SameBatch batch too → (fault : Option Refusal) → Either (settled before pool batch fault) (settled also other too fault)
settled_alike before also pool other batch too works None =
    committed_alike before also pool other (put batch pool) (put too other) (λ next. Goes next batch.stage) (λ next. Goes next too.stage) (put_limited batch pool) (put_limited too other) (λ x y. works.stage)
settled_alike before also pool other batch too works (Some refusal) = go (keeps_front refusal) (is_kept batch.stage) (is_kept too.stage) (kept_alike batch.stage too.stage works.stage)
  where
    go : (front one two : Bool) → one ≡ two
        → Either (cond (front && one) (committed before pool (put batch pool) (λ next. Stops next refusal)) (Stops (left_by before pool) refusal))
        (cond (front && two) (committed also other (put too other) (λ next. Stops next refusal)) (Stops (left_by also other) refusal))
    go true true true is = committed_alike before also pool other (put batch pool) (put too other) (λ next. Stops next refusal) (λ next. Stops next refusal) (put_limited batch pool) (put_limited too other) (λ x y. refl)
    go true true false is = absurd cc
    go true false true is = absurd cc
    go true false false is = inr (inr refl)
    go false one two is = inr (inr refl)

fed_alike : (ask : RecvAsk) (records : List Covered) (fault : Option Refusal) (stage also : Stage) (pool other : Pool) → SameStage stage also → PlannedAlike ask stage pool other
    → ((batch_of ask pool records (at_stage stage)).batch.applied ≡ (batch_of ask other records (at_stage also)).batch.applied) × Either (fed ask records fault stage pool) (fed ask records fault also other)
unfolding fed
fed_alike ask records fault stage also pool other same plans =
    let start : SameBatch (at_stage stage) (at_stage also) = record { stage = same; taken = refl; applied = refl } in
    let done = batch_alike ask pool other records (at_stage stage) (at_stage also) start plans in
    let one = batch_of ask pool records (at_stage stage) in
    let two = batch_of ask other records (at_stage also) in (
      done.batch.applied,
      subst (λ (f : Option Refusal). Either (settled stage pool one.batch (first_fault one.fault fault)) (settled also other two.batch (first_fault f fault))) done.fault
          (settled_alike stage also pool other one.batch two.batch done.batch (first_fault one.fault fault)),
    )

pub feeds_own : FeedsAreOwn
feeds_own ask text piece stage also pool other same plans = fed_alike ask (new_records text piece) (fault_of (reading (text ++ piece)).outcome) stage also pool other same plans

-- ---- one after another

planned : (stage : Stage) → IsPlanned stage → (ask : RecvAsk) (pool other : Pool) → PlannedAlike ask stage pool other
planned Waits is ask pool other = absurd is
planned (Lives flags partial) is ask pool other = tt
planned (Ends partial) is ask pool other = tt

-- a feed that goes on stands where its records led
led : (before : Stage) (pool next : Pool) (batch : Batch) (fault : Option Refusal) (after : Stage) → settled before pool batch fault ≡ Goes next after → batch.stage ≡ after
led before pool next batch None after e = go (put batch pool) e
  where
    go : (r : Result Pool Refusal) → committed before pool r (λ now. Goes now batch.stage) ≡ Goes next after → batch.stage ≡ after
    go (Ok now) e = cc
    go (Err refusal) e = absurd cc
led before pool next batch (Some refusal) after e = go (keeps_front refusal && is_kept batch.stage) (put batch pool) e
  where
    go : (t : Bool) (r : Result Pool Refusal) → cond t (committed before pool r (λ now. Stops now refusal)) (Stops (left_by before pool) refusal) ≡ Goes next after → batch.stage ≡ after
    go true (Ok now) e = absurd cc
    go true (Err other) e = absurd cc
    go false r e = absurd cc

still_planned : (ask : RecvAsk) (records : List Covered) (fault : Option Refusal) (stage after : Stage) (pool next : Pool) → IsPlanned stage → fed ask records fault stage pool ≡ Goes next after → IsPlanned after
unfolding fed
still_planned ask records fault stage after pool next is e =
    let done = batch_of ask pool records (at_stage stage) in
    subst IsPlanned (led stage pool next done.batch (first_fault done.fault fault) after e)
    (batch_is ask pool IsPlanned (λ flags partial. tt) (λ partial. tt) (λ none. absurd none) records (at_stage stage) is)

record Next (ask : RecvAsk) (text piece : List ℕ) (pieces : List (List ℕ)) (stage last : Stage) : Type 0 where
  after : Stage
  pool : Pool
  next : Pool
  fed_is : fed_piece ask text piece stage pool ≡ Goes next after
  rest : GoesBy ask (text ++ piece) after pieces last

first : (ask : RecvAsk) (text piece : List ℕ) (pieces : List (List ℕ)) (stage last : Stage) → GoesBy ask text stage (piece ∷ pieces) last → Next ask text piece pieces stage last
first ask text piece pieces stage last (Then _ _ _ after _ _ pool next e rest) = record { after = after; pool = pool; next = next; fed_is = e; rest = rest }

none_fed : (ask : RecvAsk) (text : List ℕ) (stage last : Stage) → GoesBy ask text stage [] last → stage ≡ last
none_fed ask text stage last (Here _ _) = refl

both_go : (pool other : Pool) (stage also : Stage) (f g : Fed) → f ≡ Goes pool stage → g ≡ Goes other also → Either f g → SameStage stage also
both_go pool other stage also f g e d is = go (subst (λ (h : Fed). Either (Goes pool stage) h) d (subst (λ (h : Fed). Either h g) e is))
  where
    go : Either (Goes pool stage) (Goes other also) → SameStage stage also
    go (inl limit) = absurd limit
    go (inr (inl limit)) = absurd limit
    go (inr (inr same)) = same

pub receives_own : ReceivesAreOwn
receives_own ask text [] stage also last end is same one two =
    subst (λ (s : Stage). SameStage s end) (none_fed ask text stage last one) (subst (λ (s : Stage). SameStage stage s) (none_fed ask text also end two) same)
receives_own ask text (piece ∷ pieces) stage also last end is same one two =
    let a = first ask text piece pieces stage last one in
    let b = first ask text piece pieces also end two in
    let fed = feeds_own ask text piece stage also a.pool b.pool same (planned stage is ask a.pool b.pool) in
    receives_own ask (text ++ piece) pieces a.after b.after last end
    (still_planned ask (new_records text piece) (fault_of (reading (text ++ piece)).outcome) stage a.after a.pool a.next is a.fed_is)
    (both_go a.next b.next a.after b.after (fed_piece ask text piece stage a.pool) (fed_piece ask text piece also b.pool) a.fed_is b.fed_is fed.1) a.rest b.rest
