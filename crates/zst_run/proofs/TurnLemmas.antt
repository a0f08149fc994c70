-- What one turn of a receive leaves, from what a feed says.
use Rattle.std.specs.Prelude.{min, ◌-◌, ◌^◌, Option, Some, None, Result, Ok, Err}
use Rattle.std.proofs.Common.{◌≡◌, ◌⊎◌, inl, inr, ℕ, ◌+◌, ◌<◌, ◌≤◌, zero, suc, Bool, true, false, cond, List, [], ◌∷◌, ◌++◌, length, take, drop, refl, sym, ap, ◌∙◌, subst, arith, length-append}
use Rattle.std.specs.List.{concat}
use Rattle.zst_outside.specs.Images.{DiskState, Leaves, Leaves-none, Leaves-weaker}
use Rattle.zst_outside.specs.States.{SourceState}
use Rattle.zst_block.specs.Blocks.{Has}
use Rattle.zst_image.specs.Bodies.{free_by, Body}
use Rattle.zst_image.specs.Reads.{Reads, Rests, bound_of}
use Rattle.zst_image.specs.declared.pool_state.PoolState.{PoolState}
use Rattle.zst_model.specs.declared.refusals.faults.Quantity.{Quantity}
use Rattle.zst_model.specs.declared.refusals.faults.Quantity.TheVariants as quantities
use Rattle.zst_model.specs.declared.refusals.plan_fault.PlanFault.{PlanFault}
use Rattle.zst_model.specs.declared.refusals.plan_fault.PlanFault.TheVariants as plans
use Rattle.zst_model.specs.declared.refusals.refusal.Refusal.{Refusal}
use Rattle.zst_model.specs.declared.refusals.refusal.Refusal.TheVariants as refusals
use Rattle.zst_model.specs.declared.refusals.stream_fault.StreamFault.{StreamFault}
use Rattle.zst_model.specs.declared.refusals.stream_fault.StreamFault.TheVariants as stream
use Rattle.zst_model.specs.pools.KeptPool.{kept_of}
use Rattle.zst_model.specs.pools.Pool.{Pool}
use Rattle.zst_model.specs.states.State.{AreBytes}
use Rattle.zst_plan.specs.declared.receive.RecvAsk.{RecvAsk}
use Rattle.zst_pool.specs.Calls.{IsAtRest}
use Rattle.zst_pool.specs.Faults.{pool_refusal}
use Rattle.zst_pool.specs.declared.fault.PoolFault.{PoolFault}
use Rattle.zst_pool.specs.declared.fault.PoolFault.TheVariants as pools
use Rattle.zst_reader.specs.InputReads.{stream_limit}
use Rattle.zst_record.specs.Heads.{Covered, size_of}
use Rattle.zst_record.specs.declared.head.Head.{Head}
use Rattle.zst_stream.specs.Findings.{IsFound}
use Rattle.zst_stream.specs.Reading.{Reading, Ruling, after, last, more, reading, reading_from, refuse, ruling, wait}
use Rattle.zst_send.proofs.SetDates.{rows_tell}
use Rattle.zst_recv.specs.Answers.{FeedFault, Feeds, GoesOn, IsStopped, applied_of, is_done}
use Rattle.zst_recv.specs.Faults.{IsFeedFault, recv_refusal}
use Rattle.zst_recv.specs.Feeds.{fed_piece, new_records, receives}
use Rattle.zst_recv.specs.ReceiveSteps.{Stage, Waits, Lives, Ends, Batch, Fed, Goes, Stops, at_stage, batch_of, committed, fed, left_by, pool_of, put, put_at, settled}
use Rattle.zst_recv.specs.Stages as standing
use Rattle.zst_recv.specs.Stages.{TellsBefore}
use Rattle.zst_recv.specs.TakenRecords.{fault_in}
use Rattle.zst_recv.specs.declared.fault.RecvFault.{RecvFault}
use Rattle.zst_recv.specs.declared.fault.RecvFault.TheVariants as faults
use Rattle.zst_recv.specs.declared.recv.FeedReport as coded
use Rattle.zst_recv.specs.declared.recv.Recv.{Recv}
use Rattle.zst_replication.specs.RecordCounts.{Counts, RecordsAreCounted}
use Rattle.zst_run.specs.Receives.{IsOpen, IsTightOrNew, LastFindsNoRoom, ReceiveEnds, Refused, Stopped, piece_size}
use Rattle.zst_run.specs.ReceiveTurns.{ReadsAlong, IsReceived, MayPlan, Turned, WaitsForMore, Wanted, with_piece}
use Rattle.zst_run.specs.declared.receive.End.{End}
use Rattle.zst_run.specs.declared.receive.Turn.TheVariants as turns
use Rattle.zst_run.proofs.FedPieces.{along_all, along_then, before_last, next_is, open_live, wanted_then}
use Rattle.zst_run.proofs.Pieces.{bytes_then, concat_with, with_some}
use Rattle.zst_run.proofs.PieceCosts.{IsShortBehind}

-- ---- waiting for BEGIN

-- what goes on at this stage came there by a commit
never_waits : (made : Result Pool Refusal) (before stage : Stage) (pool next : Pool) → (stage ≡ Waits → ⊥) → committed before pool made (λ done. Goes done stage) ≡ Goes next Waits → ⊥
never_waits (Ok done) before stage pool next not is = not (cc is)
never_waits (Err refusal) before stage pool next not is = absurd (cc is)

commits_none : (taken rolls : Bool) (before stage : Stage) (pool next : Pool) → committed before pool (cond taken (put_at rolls stage pool) (Ok pool)) (λ done. Goes done stage) ≡ Goes next Waits → next ≡ pool
commits_none true rolls before Waits pool next is = cc is
commits_none false rolls before Waits pool next is = cc is
commits_none taken rolls before (Lives flags partial) pool next is =
    absurd (never_waits (cond taken (put_at rolls (Lives flags partial) pool) (Ok pool)) before (Lives flags partial) pool next (λ e. absurd (cc e)) is)
commits_none taken rolls before (Ends partial) pool next is =
    absurd (never_waits (cond taken (put_at rolls (Ends partial) pool) (Ok pool)) before (Ends partial) pool next (λ e. absurd (cc e)) is)

stops_committed : (made : Result Pool Refusal) (before stage : Stage) (pool next : Pool) (refusal : Refusal) → committed before pool made (λ done. Stops done refusal) ≡ Goes next stage → ⊥
stops_committed (Ok done) before stage pool next refusal is = absurd (cc is)
stops_committed (Err other) before stage pool next refusal is = absurd (cc is)

stops_so : (keeps : Bool) (made : Result Pool Refusal) (before stage : Stage) (pool next : Pool) (refusal : Refusal)
    → cond keeps (committed before pool made (λ done. Stops done refusal)) (Stops (left_by before pool) refusal) ≡ Goes next stage → ⊥
stops_so true made before stage pool next refusal is = stops_committed made before stage pool next refusal is
stops_so false made before stage pool next refusal is = absurd (cc is)

settled_none : (before : Stage) (pool : Pool) (batch : Batch) (fault : Option Refusal) (next : Pool) → settled before pool batch fault ≡ Goes next Waits → next ≡ pool
settled_none before pool batch None next is = commits_none batch.taken batch.rolls before batch.stage pool next is
settled_none before pool batch (Some refusal) next is = absurd (stops_so _ (put batch pool) before Waits pool next refusal is)

-- nothing was committed where BEGIN still isn't covered
still_waits : (ask : RecvAsk) (text piece : List ℕ) (before : Stage) (pool next : Pool) → fed_piece ask text piece before pool ≡ Goes next Waits → next ≡ pool
unfolding fed
still_waits ask text piece before pool next is = settled_none before pool (batch_of ask pool (new_records text piece) (at_stage before)).batch (fault_in ask pool text piece (at_stage before)) next is

-- it waited before
waited_so : (text piece : List ℕ) (before : Stage) (n m : ℕ) → IsOpen before → Counts text before n → Counts (text ++ piece) Waits m → length (reading text).covered ≤ length (reading (text ++ piece)).covered → before ≡ Waits
waited_so text piece Waits n m live counts later fewer = refl
waited_so text piece (Lives flags partial) n m live counts later fewer =
    let none : length (reading (text ++ piece)).covered ≡ 0 = ap (λ (l : List Covered). length l) later.0 in absurd (omega (arith, none, counts, fewer))
waited_so text piece (Ends partial) n m live counts later fewer = absurd live

-- a pool at rest by tight sets tells the dates of its heads, and of a target that isn't there none are looked at
pub dates_told : (tight : Bool) (ask : RecvAsk) (stage : Stage) (now : DiskState) (kept : PoolState) (pool : Pool) → MayPlan tight ask stage pool → IsAtRest tight now kept pool → TellsBefore ask stage kept.dir pool
dates_told true ask Waits now kept pool may rests = λ there. rows_tell pool.number now.seen (free_by kept.body) kept.dir pool rests.runs_by
dates_told false ask Waits now kept pool may rests = λ there. absurd (cc (may, there))
dates_told tight ask (Lives flags partial) now kept pool may rests = tt
dates_told tight ask (Ends partial) now kept pool may rests = tt

-- ---- counting

few_after : (index fuel : ℕ) (before rest : List ℕ) (r : Ruling) (next : Head → Reading) → ((head : Head) → length (next head).covered ≤ fuel) → length (after index before rest r next).covered ≤ fuel + 1
unfolding after
few_after index fuel before rest wait next later = omega arith
few_after index fuel before rest (refuse fault) next later = omega arith
few_after index fuel before rest (last head) next later = omega arith
few_after index fuel before rest (more head) next later = let h = later head in omega (arith, h)

few_from : (fuel index : ℕ) (before rest : List ℕ) → length (reading_from fuel index before rest).covered ≤ fuel
unfolding reading_from
few_from zero index before rest = omega arith
few_from (suc fuel) index before rest =
    let h = few_after index fuel before rest (ruling before rest) (λ head. reading_from fuel (index + 1) (before ++ take (size_of head) rest) (drop (size_of head) rest))
    (λ head. few_from fuel (index + 1) (before ++ take (size_of head) rest) (drop (size_of head) rest)) in omega (arith, h)

-- no more records are covered than a text has bytes, and one
few_covered : (text : List ℕ) → length (reading text).covered ≤ length text + 1
unfolding reading
few_covered text = few_from (length text + 1) 0 [] text

few_items : (text : List ℕ) (stage : Stage) (n : ℕ) → Counts text stage n → n ≤ length text + 1
few_items text Waits n counts = let none = counts.1 in omega (arith, none)
few_items text (Lives flags partial) n counts = let few = few_covered text in omega (arith, counts, few)
few_items text (Ends partial) n counts = let few = few_covered text in omega (arith, counts, few)

-- ---- a turn without a piece

none_with : (pieces : List (List ℕ)) (piece : List ℕ) → length piece ≡ 0 → with_piece pieces piece ≡ pieces
none_with pieces [] none = refl
none_with pieces (byte ∷ rest) none = absurd (omega (arith, none))

pub turn_without : (tight : Bool) (now : DiskState) (kept : PoolState) (recv : Recv) (ask : RecvAsk) (pool : Pool) (pieces : List (List ℕ)) (piece : List ℕ) (items : ℕ) (end : End) → length piece ≡ 0
    → WaitsForMore tight now kept recv ask pool pieces items → Turned tight now now kept recv ask pool (with_piece pieces piece) items (turns.Over end)
turn_without tight now kept recv ask pool pieces piece items end none u =
    subst (λ (l : List (List ℕ)). Turned tight now now kept recv ask pool l items (turns.Over end)) (sym (none_with pieces piece none))
    (record { wanted = u.wanted; moments = Leaves-none now (ReadsAlong tight ask pool pieces); stands = u })

-- ---- a piece that is fed

module _ (law : RecordsAreCounted) (tight : Bool) (old now : DiskState) (kept kept' : PoolState) (recv recv' : Recv) (ask : RecvAsk) (pool : Pool) (pieces : List (List ℕ)) (piece : List ℕ) (items : ℕ)
    (u : WaitsForMore tight old kept recv ask pool pieces items) (some : 0 < length piece) (same : recv'.ask ≡ ask) where
  abbrev text : List ℕ
  text = concat pieces

  abbrev with_it : List (List ℕ)
  with_it = with_piece pieces piece

  -- what the definition makes of it
  abbrev made : Fed
  made = fed_piece ask text piece u.stage u.after

  made_is : receives ask pool with_it ≡ made
  made_is = next_is ask pool pieces u.after u.stage u.is piece some

  asked_is : (f : Fed) → fed_piece recv'.ask text piece u.stage u.after ≡ f → made ≡ f
  asked_is f is = ap (λ (a : RecvAsk). fed_piece a text piece u.stage u.after) (sym same) ∙ is

  wanted : Wanted ask pool with_it
  wanted = wanted_then ask pool pieces piece (u.after, u.stage, u.is, u.live) u.wanted

  between : (c : List ℕ) → Reads tight (kept_of u.after) c ⊎ Reads tight (kept_of (pool_of made)) c → ReadsAlong tight ask pool with_it c
  between c (inl reads) = along_then tight ask pool pieces piece c (along_all tight ask pool pieces (Goes u.after u.stage) c u.is reads)
  between c (inr reads) = along_all tight ask pool with_it made c made_is reads

  moments : Leaves old now (λ c. Reads tight (kept_of u.after) c ⊎ Reads tight (kept_of (pool_of (fed_piece recv'.ask text piece u.stage u.after))) c) → Leaves old now (ReadsAlong tight ask pool with_it)
  moments leaves =
      Leaves-weaker old now (λ c. Reads tight (kept_of u.after) c ⊎ Reads tight (kept_of (pool_of made)) c) (ReadsAlong tight ask pool with_it)
      (subst (λ (a : RecvAsk). Leaves old now (λ c. Reads tight (kept_of u.after) c ⊎ Reads tight (kept_of (pool_of (fed_piece a text piece u.stage u.after))) c)) same leaves) between

  text_is : concat with_it ≡ text ++ piece
  text_is = concat_with pieces piece

  module _ (told : coded.FeedReport) (f : Feeds tight old now kept' recv' text piece u.stage u.after (Ok told)) (bytes : AreBytes piece) (most : length piece ≤ piece_size) (items' : ℕ)
      (adds : items' ≡ min (items + told.applied) (2 ^ 64 - 1)) where
    applied_is : told.applied ≡ applied_of ask text piece u.stage u.after
    applied_is = f.answer.tells.applied ∙ ap (λ (a : RecvAsk). applied_of a text piece u.stage u.after) same

    all_bytes : AreBytes (text ++ piece)
    all_bytes = subst AreBytes text_is (bytes_then pieces piece u.bytes bytes)

    counts : Counts (text ++ piece) f.answer.after (items + told.applied)
    counts =
        subst (λ (n : ℕ). Counts (text ++ piece) f.answer.after (items + n)) (sym applied_is)
        (law ask text piece u.stage f.answer.after u.after f.answer.next items all_bytes (open_live u.stage u.live) u.counted (asked_is (Goes f.answer.next f.answer.after) f.answer.definition_is))

    items_are : items' ≡ items + told.applied
    items_are =
        let few = few_items (text ++ piece) f.answer.after (items + told.applied) counts in
        let long = length-append text piece in
        let bounded = u.fed.reads.stands.bounded in
        omega (arith, adds, few, long, bounded, most)

    fewer : length (reading text).covered ≤ length (reading (text ++ piece)).covered
    fewer =
        let front = u.fed.reads.stands.front piece in
        let here : (reading text).covered ≡ u.fed.handed = ap (λ (r : Reading). r.covered) u.fed.reads.whole in
        let there : length (reading (text ++ piece)).covered ≡ length u.fed.handed + length front.0 = ap (λ (l : List Covered). length l) front.1 ∙ length-append u.fed.handed front.0 in
        let count : length (reading text).covered ≡ length u.fed.handed = ap (λ (l : List Covered). length l) here in
        omega (arith, there, count)

    -- where BEGIN still isn't covered, the pool is as it was
    plans_then : (next : Pool) (stage : Stage) → made ≡ Goes next stage → Counts (text ++ piece) stage (items + told.applied) → MayPlan tight ask stage next
    plans_then next Waits is count =
        let before = waited_so text piece u.stage items (items + told.applied) u.live u.counted count fewer in
        let may : IsTightOrNew tight ask u.after = subst (λ (s : Stage). MayPlan tight ask s u.after) before u.may in
        let pool_is : next ≡ u.after = still_waits ask text piece u.stage u.after next is in
        subst (λ (p : Pool). IsTightOrNew tight ask p) (sym pool_is) may
    plans_then next (Lives flags partial) is count = tt
    plans_then next (Ends partial) is count = tt

    under_way : (next : Pool) (stage : Stage) → made ≡ Goes next stage → IsOpen stage → IsAtRest tight now kept' next → MayPlan tight ask stage next
        → standing.Receives (bound_of tight next.number) (Has now.seen (free_by kept'.body)) recv' (text ++ piece) stage → Counts (text ++ piece) stage (items + told.applied) → WaitsForMore tight now kept' recv' ask pool with_it items'
    under_way next stage is live rests may fed_all count = record {
      after = next;
      stage = stage;
      is = made_is ∙ is;
      live = live;
      rests = rests;
      may = may;
      fed = subst (λ (t : List ℕ). standing.Receives (bound_of tight next.number) (Has now.seen (free_by kept'.body)) recv' t stage) (sym text_is) fed_all;
      bytes = bytes_then pieces piece u.bytes bytes;
      counted = subst (λ (t : List ℕ). Counts t stage items') (sym text_is) (subst (λ (n : ℕ). Counts (text ++ piece) stage n) (sym items_are) count);
      wanted = wanted;
    }

    goes_at : (next : Pool) (stage : Stage) → made ≡ Goes next stage → is_done stage ≡ false → IsAtRest tight now kept' next → GoesOn (bound_of tight next.number) now kept' recv' (text ++ piece) stage
        → Counts (text ++ piece) stage (items + told.applied) → MayPlan tight ask stage next → WaitsForMore tight now kept' recv' ask pool with_it items'
    goes_at next Waits is live rests goes count may = under_way next Waits is tt rests may goes count
    goes_at next (Lives flags partial) is live rests goes count may = under_way next (Lives flags partial) is tt rests may goes count
    goes_at next (Ends partial) is live rests goes count may = absurd (cc live)

    -- more is waited for
    pub goes_then : told.done ≡ false → WaitsForMore tight now kept' recv' ask pool with_it items'
    goes_then not =
        let a = f.answer in
        let is = asked_is (Goes a.next a.after) a.definition_is in
        goes_at a.next a.after is (sym a.tells.done ∙ not) a.rests a.goes_on counts (plans_then a.next a.after is counts)

    ends_at : (next : Pool) (stage : Stage) → made ≡ Goes next stage → is_done stage ≡ true → IsAtRest tight now kept' next → GoesOn (bound_of tight next.number) now kept' recv' (text ++ piece) stage
        → Counts (text ++ piece) stage (items + told.applied) → IsReceived tight now kept' recv' ask pool with_it items'
    ends_at next Waits is over rests goes count = absurd (cc over)
    ends_at next (Lives flags partial) is over rests goes count = absurd (cc over)
    ends_at next (Ends partial) is over rests goes count = record {
      after = next;
      partial = partial;
      is = made_is ∙ is;
      rests = rests;
      snapshot = goes;
      counted = let lines = ap (λ (t : List ℕ). length (reading t).covered) text_is in omega (arith, lines, count, items_are);
    }

    -- the snapshot stands
    pub ends_then : told.done ≡ true → IsReceived tight now kept' recv' ask pool with_it items'
    ends_then over = let a = f.answer in ends_at a.next a.after (asked_is (Goes a.next a.after) a.definition_is) (sym a.tells.done ∙ over) a.rests a.goes_on counts

    pub turned_more : told.done ≡ false → Turned tight old now kept' recv' ask pool with_it items' turns.More
    turned_more not = record { wanted = wanted; moments = moments f.moments; stands = goes_then not }

    pub turned_over : (end : End) → told.done ≡ false → Turned tight old now kept' recv' ask pool with_it items' (turns.Over end)
    turned_over end not = record { wanted = wanted; moments = moments f.moments; stands = goes_then not }

    pub turned_received : told.done ≡ true → Turned tight old now kept' recv' ask pool with_it items' turns.Received
    turned_received over = record { wanted = wanted; moments = moments f.moments; stands = ends_then over }

  -- ---- refusals

  -- nothing of the piece stays
  stopped_before : IsAtRest tight now kept' (left_by u.stage u.after) → Stopped tight ask pool with_it now
  stopped_before rests =
      record { after = u.after; stage = u.stage; is = ap (receives ask pool) (before_last pieces piece some) ∙ u.is; live = u.live; keeps = (kept'.body, rests.rows, rests.rests) }

  -- where it found no room, fewer sectors were free than it costs, and the body is as it was
  abbrev pub ShortSo : RecvFault → Type 0
  ShortSo fault = (need largest : ℕ) → fault ≡ faults.Pool (pools.Full need largest) → IsShortBehind kept kept' text piece need largest

  last_short : {need largest : ℕ} → IsAtRest tight now kept' (left_by u.stage u.after) → IsShortBehind kept kept' text piece need largest → LastFindsNoRoom tight ask pool with_it now need largest
  last_short rests short = record {
    before = pieces;
    last = piece;
    are = with_some pieces piece some;
    after = u.after;
    stage = u.stage;
    is = u.is;
    kept = kept;
    image = old.seen;
    runs_by = u.rests.runs_by;
    rows = rests.rows;
    stands = subst (λ (body : Body). Rests tight now body rests.rows (kept_of (left_by u.stage u.after))) short.stays rests.rests;
    left = short.left;
    short = short.short;
  }

  refused_so : (refusal : Refusal) → IsStopped tight now kept' (fed_piece recv'.ask text piece u.stage u.after) refusal → Refused tight ask pool with_it now refusal
  refused_so refusal s = record { after = s.next; is = made_is ∙ asked_is (Stops s.next refusal) s.definition_is; keeps = (kept'.body, s.rests.rows, s.rests.rests) }

  module _ (input input' : SourceState) where
    abbrev EndsSo : Refusal → Type 0
    EndsSo refusal = ReceiveEnds tight ask pool with_it now input input' (Err refusal)

    abbrev Feeding : PoolFault → Type 0
    Feeding fault = FeedFault tight now kept' text piece u.stage u.after (fed_piece recv'.ask text piece u.stage u.after) fault

    by_limit : (which : Quantity) (number : ℕ) → Feeding (pools.Plan (plans.Limit which number)) → EndsSo (refusals.Limit which number)
    by_limit quantities.Object number is = refused_so _ is
    by_limit quantities.Block number is = refused_so _ is
    by_limit quantities.Datasets number is = refused_so _ is
    by_limit quantities.Snapshots number is = refused_so _ is
    by_limit quantities.Bookmarks number is = refused_so _ is
    by_limit quantities.Partials number is = refused_so _ is
    by_limit quantities.RedactionSnapshots number is = refused_so _ is
    by_limit quantities.Runs number is = refused_so _ is
    by_limit quantities.Sends number is = refused_so _ is
    by_limit quantities.Receives number is = refused_so _ is
    by_limit quantities.Number number is = refused_so _ is
    by_limit quantities.Guids number is = refused_so _ is
    by_limit quantities.Device number is = refused_so _ is
    by_limit quantities.Script number is = refused_so _ is
    by_limit quantities.Stream number is = (is.0, subst (λ (n : ℕ). stream_limit < n) (sym (ap (λ (l : List ℕ). length l) text_is ∙ length-append text piece)) is.1, stopped_before is.2)

    by_plan : (fault : PlanFault) → Feeding (pools.Plan fault) → EndsSo (pool_refusal (pools.Plan fault))
    by_plan (plans.BadName place) is = refused_so _ is
    by_plan (plans.NoSuch what) is = refused_so _ is
    by_plan (plans.Exists what) is = refused_so _ is
    by_plan (plans.Busy holder) is = refused_so _ is
    by_plan (plans.NotAncestor to from) is = refused_so _ is
    by_plan (plans.NotRedactionOf bookmark snapshot) is = refused_so _ is
    by_plan (plans.NotDescendant name) is = refused_so _ is
    by_plan (plans.Modified name) is = refused_so _ is
    by_plan (plans.NotLatest have want) is = refused_so _ is
    by_plan (plans.NoOrigin guid) is = refused_so _ is
    by_plan (plans.NotContained guid) is = refused_so _ is
    by_plan (plans.PartialExists name) is = refused_so _ is
    by_plan (plans.NoPartial name) is = refused_so _ is
    by_plan (plans.WrongResume have want) is = refused_so _ is
    by_plan (plans.Unsupported lack) is = refused_so _ is
    by_plan (plans.Limit which number) is = by_limit which number is

    by_pool : (fault : PoolFault) → Feeding fault → ShortSo (faults.Pool fault) → EndsSo (pool_refusal fault)
    by_pool (pools.Plan fault) is short = by_plan fault is
    by_pool (pools.CannotApply fault) is short = absurd is
    by_pool (pools.Redacted object block) is short = absurd is
    by_pool (pools.Full need largest) is short = (is.0, stopped_before is.1, last_short is.1 (short need largest refl))
    by_pool (pools.Damaged sector stated found) is short = absurd is
    by_pool pools.DiskFault is short = tt
    by_pool pools.Failed is short = absurd is
    by_pool pools.OutOfMemory is short = stopped_before is

    by_stream : (fault : StreamFault) → IsFound fault → IsStopped tight now kept' (fed_piece recv'.ask text piece u.stage u.after) (refusals.Stream fault) → EndsSo (refusals.Stream fault)
    by_stream (stream.Grammar at flaw) found is = refused_so _ is
    by_stream (stream.Checksum at stated sums) found is = refused_so _ is
    by_stream (stream.Unsupported at lack) found is = refused_so _ is
    by_stream (stream.Truncated at) found is = absurd found

    refused_by : (fault : RecvFault) → IsFeedFault fault → Feeds tight old now kept' recv' text piece u.stage u.after (Err fault) → ShortSo fault → EndsSo (recv_refusal fault)
    refused_by (faults.Pool fault) known f short = by_pool fault f.answer short
    refused_by (faults.Stream fault) known f short = by_stream fault known f.answer
    refused_by (faults.CannotApply index fault) known f short = refused_so _ f.answer

  pub turned_refused : (items' : ℕ) (fault : RecvFault) → IsFeedFault fault → Feeds tight old now kept' recv' text piece u.stage u.after (Err fault) → ShortSo fault
      → Turned tight old now kept' recv' ask pool with_it items' (turns.Refused (recv_refusal fault))
  turned_refused items' fault known f short = record { wanted = wanted; moments = moments f.moments; stands = λ input input'. refused_by input input' fault known f short }
