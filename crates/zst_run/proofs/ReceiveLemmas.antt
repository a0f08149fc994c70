-- What a receive of all pieces leaves, from what its turns say.
use Rattle.std.specs.Prelude.{Option, Some, Result, Ok, Err}
use Rattle.std.proofs.Common.{◌≡◌, ◌≢◌, inl, inr, ℕ, ◌<◌, ◌≤◌, Bool, List, [], ◌∷◌, ◌++◌, length, refl, sym, ap, ◌∙◌, subst, arith, append_assoc}
use Rattle.std.specs.List.{concat}
use Rattle.std.proofs.lemmas.List.{append-nil}
use Rattle.std.proofs.lemmas.List.Elements.{All-nil}
use Rattle.zst_outside.specs.Causes.{Rose, Rose-earlier}
use Rattle.zst_outside.specs.Images.{DiskState, Leaves-none, Leaves-then, Leaves-weaker}
use Rattle.zst_outside.specs.States.{SourceState, Gave}
use Rattle.zst_space.specs.FreeSectors.{FreeSectors}
use Rattle.zst_block.specs.Blocks.{Has}
use Rattle.zst_block.specs.IoCalls.{HasCause}
use Rattle.zst_image.specs.Bodies.{free_by}
use Rattle.zst_image.specs.Reads.{bound_of}
use Rattle.zst_image.specs.declared.pool_state.PoolState.{PoolState}
use Rattle.zst_model.specs.declared.refusals.refusal.Refusal.{Refusal}
use Rattle.zst_model.specs.declared.refusals.refusal.Refusal.TheVariants as refusals
use Rattle.zst_model.specs.declared.refusals.stream_fault.StreamFault.{StreamFault}
use Rattle.zst_model.specs.declared.refusals.stream_fault.StreamFault.TheVariants.{Truncated}
use Rattle.zst_model.specs.pools.Pool.{Pool}
use Rattle.zst_plan.specs.declared.receive.RecvAsk.{RecvAsk}
use Rattle.zst_pool.specs.Calls.{IsAtRest}
use Rattle.zst_pool.specs.declared.fault.PoolFault.TheVariants as pools
use Rattle.zst_recv.specs.Answers.{received_of}
use Rattle.zst_recv.specs.Faults.{IsFeedFault, recv_refusal, stop_at}
use Rattle.zst_recv.specs.ReceiveSteps.{Stage, Waits, left_by}
use Rattle.zst_recv.specs.Stages as standing
use Rattle.zst_recv.specs.Stages.{fed_of, received_by}
use Rattle.zst_recv.specs.declared.fault.RecvFault.{RecvFault}
use Rattle.zst_recv.specs.declared.fault.RecvFault.TheVariants as faults
use Rattle.zst_recv.specs.declared.received_snapshot.ReceivedSnapshot.{ReceivedSnapshot as Snapshot}
use Rattle.zst_recv.specs.declared.recv.Recv.{Recv}
use Rattle.zst_stream.specs.Findings.{IsFound}
use Rattle.zst_stream.specs.Reading.{Reading, complete, reading}
use Rattle.zst_reader.specs.StandsFor.{StandsFor}
use Rattle.zst_run.specs.Receives.{GrewBy, IsTightOrNew, PiecesFindNoRoom, ReceiveEnds, SaysOfText, Waited, piece_size, receipt_line}
use Rattle.zst_run.specs.ReceiveTurns.{ReadsAlong, Fed, Feeding, HasHanded, IsEnd, IsFeedRefusal, IsInputOf, IsReady, IsReceived, TurnReads, Turned, Turns, WaitsForMore, cut_refusal, line_of, told, with_piece}
use Rattle.zst_run.specs.Dumps.{NoFault}
use Rattle.zst_run.specs.declared.receive.End.{End}
use Rattle.zst_run.specs.declared.receive.End.TheVariants.{Ended, Failed}
use Rattle.zst_run.specs.declared.receive.Receipt.{Receipt}
use Rattle.zst_run.specs.declared.receive.Turn.{Turn}
use Rattle.zst_run.specs.declared.receive.Turn.TheVariants as turns
use Rattle.zst_run.proofs.CommandLemmas.{disk_fault, failed_before, full_only}
use Rattle.zst_run.proofs.FedPieces.{along_then, none_fed}
use Rattle.zst_run.proofs.Pieces.{concat_with, pieces_then, whole_then, with_some}
use Rattle.zst_run.proofs.PieceCosts.{grew_more, grew_none, short_pieces}

-- ---- refusals

recv_disk : (fault : RecvFault) → recv_refusal fault ≡ refusals.DiskFault → fault ≡ faults.Pool pools.DiskFault
recv_disk (faults.Pool fault) is = ap (λ f. faults.Pool f) (disk_fault fault is)
recv_disk (faults.Stream fault) is = absurd (cc is)
recv_disk (faults.CannotApply index fault) is = absurd (cc is)

recv_failed : (fault : RecvFault) → recv_refusal fault ≡ refusals.Failed → fault ≡ faults.Pool pools.Failed
recv_failed (faults.Pool fault) is = ap (λ f. faults.Pool f) (failed_before fault is)
recv_failed (faults.Stream fault) is = absurd (cc is)
recv_failed (faults.CannotApply index fault) is = absurd (cc is)

pub recv_full : (fault : RecvFault) (need largest : ℕ) → recv_refusal fault ≡ refusals.Full need largest → fault ≡ faults.Pool (pools.Full need largest)
recv_full (faults.Pool fault) need largest is = ap (λ f. faults.Pool f) (full_only fault need largest is)
recv_full (faults.Stream fault) need largest is = absurd (cc is)
recv_full (faults.CannotApply index fault) need largest is = absurd (cc is)

-- what a feed refuses
pub feed_refused : (old now : DiskState) (fault : RecvFault) → IsFeedFault fault → HasCause old.faults now.faults (stop_at fault) → IsFeedRefusal old now (recv_refusal fault)
feed_refused old now fault known cause = record {
  one = (fault, known, refl);
  alive = λ is. subst IsFeedFault (recv_failed fault is) known;
  cause = λ is. cause.fault (ap stop_at (recv_disk fault is));
}

-- a refusal that isn't the disk's
pub plain_refused : (old now : DiskState) (fault : RecvFault) (refusal : Refusal) → IsFeedFault fault → refusal ≡ recv_refusal fault → refusal ≢ refusals.DiskFault → refusal ≢ refusals.Failed
    → IsFeedRefusal old now refusal
plain_refused old now fault refusal known is disk alive = record {
  one = (fault, known, is);
  alive = alive;
  cause = λ e. absurd (disk e);
}

-- no memory was left
pub without_memory : (old now : DiskState) (input input' : SourceState) → IsEnd old now input input' refusals.OutOfMemory
without_memory old now input input' =
    inl (plain_refused old now (faults.Pool pools.OutOfMemory) refusals.OutOfMemory tt refl (λ e. absurd (cc e)) (λ e. absurd (cc e)))

-- it is one of a whole in which more faults were counted
pub refused_earlier : (old mid now : DiskState) (refusal : Refusal) → old.faults ≤ mid.faults → IsFeedRefusal mid now refusal → IsFeedRefusal old now refusal
refused_earlier old mid now refusal later is = record { one = is.one; alive = is.alive; cause = λ e. Rose-earlier old.faults mid.faults now.faults later (is.cause e) }

-- what cuts a receive
pub cut_refused : (old now : DiskState) (input input' : SourceState) (end : End) (count : ℕ) (refusal : Refusal) → refusal ≡ cut_refusal end count → (end ≡ Failed → Rose input.faults input'.faults)
    → IsEnd old now input input' refusal
cut_refused old now input input' Ended count refusal is rose = inr (inl (count, is))
cut_refused old now input input' Failed count refusal is rose = inr (inr (is, rose refl))

-- the input failed since the start
pub rose_behind : (input mid input' : SourceState) (end : End) → input.faults ≤ mid.faults → IsInputOf mid input' (turns.Over end) → end ≡ Failed → Rose input.faults input'.faults
rose_behind input mid input' Ended later is failed = absurd (cc failed)
rose_behind input mid input' Failed later is failed = Rose-earlier input.faults mid.faults input'.faults later is

-- ---- what an answer says of the text

says_line : (pieces : List (List ℕ)) (input input' : SourceState) (lines : List (List ℕ)) → (reading (concat pieces)).outcome ≡ complete → SaysOfText pieces input input' (Ok lines)
says_line pieces input input' lines whole = record { stream = λ fault found is. absurd (cc is); cut = λ at is. absurd (cc is); whole = λ others is. whole }

-- a refusal that isn't of a stream says nothing of it
pub says_other : (pieces : List (List ℕ)) (input input' : SourceState) (refusal : Refusal) → ((fault : StreamFault) → refusal ≢ refusals.Stream fault) → SaysOfText pieces input input' (Err refusal)
says_other pieces input input' refusal not = record { stream = λ fault found is. absurd (not fault (cc is)); cut = λ at is. absurd (not (Truncated at) (cc is)); whole = λ lines is. absurd (cc is) }

says_refused : (pieces : List (List ℕ)) (input input' : SourceState) (recv : Recv) (refusal : Refusal) → TurnReads recv (concat pieces) (turns.Refused refusal) → SaysOfText pieces input input' (Err refusal)
says_refused pieces input input' recv refusal reads = record {
  stream = λ fault found is. (reads fault (cc is)).1;
  cut = λ at is. absurd (reads (Truncated at) (cc is)).0;
  whole = λ lines is. absurd (cc is);
}

says_cut : (pieces : List (List ℕ)) (input mid input' : SourceState) (recv : Recv) (end : End) (refusal : Refusal) → refusal ≡ cut_refusal end (fed_of recv) → NoFault input mid → IsInputOf mid input' (turns.Over end)
    → HasHanded recv (concat pieces) → SaysOfText pieces input input' (Err refusal)
says_cut pieces input mid input' recv Ended refusal is none after has = record {
  stream = λ fault found e. let same : fault ≡ Truncated (fed_of recv) = cc (is, e) in absurd (subst IsFound same found);
  cut = λ at e. let same : at ≡ fed_of recv = cc (is, e) in (ap (λ (r : Reading). r.outcome) has.1.whole, same ∙ has.1.stands.pushed, after.0, after.1 ∙ none);
  whole = λ lines e. absurd (cc e);
}
says_cut pieces input mid input' recv Failed refusal is none after has = says_other pieces input input' refusal (λ fault e. cc (is, e))

-- ---- a full disk

abbrev refused : Refusal → Result (List (List ℕ)) Refusal
refused refusal = Err refusal

err_same : (one other : Refusal) → refused one ≡ refused other → one ≡ other
err_same one other is = cc

-- what cuts a receive isn't one
cut_no_full : (end : End) (count need largest : ℕ) → cut_refusal end count ≡ refusals.Full need largest → ⊥
cut_no_full Ended count need largest is = absurd (cc is)
cut_no_full Failed count need largest is = absurd (cc is)

-- ---- turns

pub gave_then : (a b c : SourceState) (text more : List ℕ) → Gave a b text → Gave b c more → Gave a c (text ++ more)
gave_then a b c text more first next = next ∙ ap (λ (t : List ℕ). t ++ more) first ∙ append_assoc a.given text more

module _ (start old now : DiskState) (first kept kept' : PoolState) (begun recv recv' : Recv) (items items' : ℕ) (input mid input' : SourceState) (turn : Turn)
    (f : Feeding start old first kept begun recv items input mid) (t : Turns old now kept kept' recv recv' items items' mid input' turn) (same : recv.ask ≡ begun.ask) (falls : now.honest → old.honest) where
  abbrev all_pieces : List (List ℕ)
  all_pieces = with_piece f.pieces t.piece

  consumed : Gave input input' (concat all_pieces)
  consumed = subst (λ (text : List ℕ). Gave input input' text) (sym (concat_with f.pieces t.piece)) (gave_then input mid input' (concat f.pieces) t.piece f.consumed t.gave)

  -- what the turn says of all that was fed
  reads : TurnReads recv' (concat all_pieces) turn
  reads = subst (λ (text : List ℕ). TurnReads recv' text turn) (sym (concat_with f.pieces t.piece)) (t.reads (concat f.pieces) f.reads)

  turned : (tight : Bool) (pool : Pool) → now.honest → WaitsForMore tight start first begun begun.ask pool [] 0 → Turned tight start now kept' recv' begun.ask pool all_pieces items' turn
  turned tight pool honest begins =
      let before = f.says tight pool (falls honest) begins in
      let here = subst (λ (a : RecvAsk). WaitsForMore tight old kept recv a pool f.pieces items) (sym same) before.stands in
      let step = subst (λ (a : RecvAsk). Turned tight old now kept' recv' a pool all_pieces items' turn) same (t.says tight pool f.pieces honest here) in
      record {
        wanted = step.wanted;
        moments =
            Leaves-then start old now (ReadsAlong tight begun.ask pool all_pieces) (ReadsAlong tight begun.ask pool all_pieces)
            (Leaves-weaker start old (ReadsAlong tight begun.ask pool f.pieces) (ReadsAlong tight begun.ask pool all_pieces) before.moments (along_then tight begun.ask pool f.pieces t.piece)) step.moments (λ c is. is);
        stands = step.stands;
      }

  -- an end by this answer, where each pool that the pieces came from ends so
  ended : (answer : Result (List (List ℕ)) Refusal) → length t.piece ≤ piece_size → SaysOfText all_pieces input input' answer
      → ((need largest : ℕ) → answer ≡ Err (refusals.Full need largest) → PiecesFindNoRoom first all_pieces need largest)
      → ((tight : Bool) (pool : Pool) → now.honest → Turned tight start now kept' recv' begun.ask pool all_pieces items' turn → ReceiveEnds tight begun.ask pool all_pieces now input input' answer)
      → Fed (λ tight pool. WaitsForMore tight start first begun begun.ask pool [] 0) first start now begun.ask input input' answer
  ended answer most text cost ends = record {
    pieces = all_pieces;
    are_pieces = pieces_then f.pieces t.piece f.whole most;
    consumed = consumed;
    text = text;
    cost = cost;
    says = λ tight pool honest begins. let done = turned tight pool honest begins in record { wanted = done.wanted; moments = done.moments; ends = ends tight pool honest done };
  }

module _ (start old now : DiskState) (first kept kept' : PoolState) (begun recv recv' : Recv) (items items' : ℕ) (input mid input' : SourceState)
    (f : Feeding start old first kept begun recv items input mid) (same : recv.ask ≡ begun.ask) (falls : now.honest → old.honest) where
  -- more is waited for
  pub more_fed : Turns old now kept kept' recv recv' items items' mid input' turns.More → Feeding start now first kept' begun recv' items' input input'
  more_fed t = record {
    pieces = with_piece f.pieces t.piece;
    whole = whole_then f.pieces t.piece f.whole t.sized;
    consumed = consumed start old now first kept kept' begun recv recv' items items' input mid input' turns.More f t same falls;
    no_fault = t.input_is ∙ f.no_fault;
    reads = reads start old now first kept kept' begun recv recv' items items' input mid input' turns.More f t same falls;
    hands = let s = t.spends (concat f.pieces) f.hands in subst (HasHanded recv') (sym (concat_with f.pieces t.piece)) s.0;
    grew =
        let s = t.spends (concat f.pieces) f.hands in
        let long : 0 < piece_size = omega arith in
        subst (λ (l : List (List ℕ)). GrewBy first kept' l) (sym (with_some f.pieces t.piece (let sized = t.sized in omega (arith, sized, long)))) (grew_more first kept kept' f.pieces t.piece f.grew s.1);
    says = turned start old now first kept kept' begun recv recv' items items' input mid input' turns.More f t same falls;
  }

  line_is : (tight : Bool) (pool : Pool) (pieces : List (List ℕ)) (receipt : Receipt) → received_by recv' ≡ Some receipt.snapshot → receipt.items ≡ items'
      → IsReceived tight now kept' recv' begun.ask pool pieces items' → ReceiveEnds tight begun.ask pool pieces now input input' (Ok (line_of receipt ∷ []))
  line_is tight pool pieces receipt snapshot count r =
      let is : Some receipt.snapshot ≡ Some (received_of r.partial) = sym snapshot ∙ r.snapshot in
      let made : receipt.snapshot ≡ received_of r.partial = cc is in
      record {
        after = r.after;
        partial = r.partial;
        is = r.is;
        line =
            ap (λ (s : Snapshot). receipt_line s.target s.component s.guid receipt.items ∷ []) made
            ∙ ap (λ (n : ℕ). receipt_line r.partial.target r.partial.component r.partial.header.to n ∷ []) (count ∙ r.counted);
        keeps = (kept'.body, r.rests.rows, r.rests.rests);
      }

  -- the snapshot stands
  pub received_fed : Turns old now kept kept' recv recv' items items' mid input' turns.Received → (receipt : Receipt) → received_by recv' ≡ Some receipt.snapshot → receipt.items ≡ items'
      → Fed (λ tight pool. WaitsForMore tight start first begun begun.ask pool [] 0) first start now begun.ask input input' (told (Ok receipt))
  received_fed t receipt snapshot count =
      ended start old now first kept kept' begun recv recv' items items' input mid input' turns.Received f t same falls (Ok (line_of receipt ∷ [])) t.sized.1
      (says_line (with_piece f.pieces t.piece) input input' (line_of receipt ∷ []) (reads start old now first kept kept' begun recv recv' items items' input mid input' turns.Received f t same falls))
      (λ need largest is. absurd (cc is))
      (λ tight pool honest done. line_is tight pool (with_piece f.pieces t.piece) receipt snapshot count done.stands)

  -- the piece was refused
  pub refused_fed : (refusal : Refusal) → Turns old now kept kept' recv recv' items items' mid input' (turns.Refused refusal)
      → Fed (λ tight pool. WaitsForMore tight start first begun begun.ask pool [] 0) first start now begun.ask input input' (told (Err refusal))
  refused_fed refusal t =
      ended start old now first kept kept' begun recv recv' items items' input mid input' (turns.Refused refusal) f t same falls (Err refusal) t.sized.1
      (says_refused (with_piece f.pieces t.piece) input input' recv' refusal (reads start old now first kept kept' begun recv recv' items items' input mid input' (turns.Refused refusal) f t same falls))
      (λ need largest is.
      let short = t.spends (concat f.pieces) f.hands need largest (err_same refusal (refusals.Full need largest) is) in
      subst (λ (l : List (List ℕ)). PiecesFindNoRoom first l need largest) (sym (with_some f.pieces t.piece t.sized.0)) (short_pieces first kept f.pieces t.piece short.0 need largest f.grew short.1))
      (λ tight pool honest done. done.stands input input')

  -- what is left of a receive that waits for more
  module _ (left : PoolState) (rests : (tight : Bool) (bound : Option ℕ) (running : Pool) (image : List ℕ) (space : FreeSectors) (stage : Stage) (text : List ℕ) → IsAtRest tight now kept' running
      → standing.Receives bound (Has image space) recv' text stage → IsAtRest tight now left (left_by stage running)) where
    waited : (tight : Bool) (pool : Pool) (pieces : List (List ℕ)) → WaitsForMore tight now kept' recv' begun.ask pool pieces items' → Waited tight begun.ask pool pieces now
    waited tight pool pieces u =
        let still = rests tight (bound_of tight u.after.number) u.after now.seen (free_by kept'.body) u.stage (concat pieces) u.rests u.fed in
        record { after = u.after; stage = u.stage; is = u.is; live = u.live; keeps = (left.body, still.rows, still.rests) }

    cut_so : (end : End) (refusal : Refusal) (t : Turns old now kept kept' recv recv' items items' mid input' (turns.Over end)) → refusal ≡ cut_refusal end (fed_of recv') → (tight : Bool) (pool : Pool) (pieces : List (List ℕ))
        → WaitsForMore tight now kept' recv' begun.ask pool pieces items' → ReceiveEnds tight begun.ask pool pieces now input input' (Err refusal)
    cut_so Ended refusal t is tight pool pieces u =
        subst (λ (r : Refusal). ReceiveEnds tight begun.ask pool pieces now input input' (Err r)) (sym is)
        (ap (λ (r : Reading). r.outcome) u.fed.reads.whole, u.fed.reads.stands.pushed, t.input_is.0, t.input_is.1 ∙ f.no_fault, waited tight pool pieces u)
    cut_so Failed refusal t is tight pool pieces u = subst (λ (r : Refusal). ReceiveEnds tight begun.ask pool pieces now input input' (Err r)) (sym is) (waited tight pool pieces u)

    -- the input gave no more
    pub cut_fed : (end : End) (refusal : Refusal) → Turns old now kept kept' recv recv' items items' mid input' (turns.Over end) → refusal ≡ cut_refusal end (fed_of recv')
        → Fed (λ tight pool. WaitsForMore tight start first begun begun.ask pool [] 0) first start now begun.ask input input' (told (Err refusal))
    cut_fed end refusal t is =
        ended start old now first kept kept' begun recv recv' items items' input mid input' (turns.Over end) f t same falls (Err refusal) t.sized
        (says_cut (with_piece f.pieces t.piece) input mid input' recv' end refusal is f.no_fault t.input_is (subst (HasHanded recv') (sym (concat_with f.pieces t.piece)) (t.spends (concat f.pieces) f.hands)))
        (λ need largest e. absurd (cut_no_full end (fed_of recv') need largest (sym is ∙ err_same refusal (refusals.Full need largest) e)))
        (λ tight pool honest done. cut_so end refusal t is tight pool (with_piece f.pieces t.piece) done.stands)

-- ---- the start

-- nothing was read yet
pub fed_none : (start : DiskState) (first : PoolState) (begun : Recv) (input : SourceState) → StandsFor begun.reader [] [] → HasHanded begun [] → Feeding start start first first begun begun 0 input input
fed_none start first begun input stands hands = record {
  pieces = [];
  whole = All-nil (λ (piece : List ℕ). length piece ≡ piece_size);
  consumed = sym (append-nil input.given);
  no_fault = refl;
  reads = ([], stands);
  hands = hands;
  grew = grew_none first;
  says = λ tight pool honest u. record { wanted = u.wanted; moments = Leaves-none start (ReadsAlong tight begun.ask pool []); stands = u };
}

-- a receive that was opened over a pool at rest
pub begins : (tight : Bool) (start : DiskState) (first : PoolState) (recv : Recv) (pool : Pool) → ((bound : Option ℕ) (image : List ℕ) (space : FreeSectors) → standing.Receives bound (Has image space) recv [] Waits)
    → (ask : RecvAsk) → recv.ask ≡ ask → IsReady ask tight start first pool → WaitsForMore tight start first recv recv.ask pool [] 0
begins tight start first recv pool opens ask same ready =
    let fed = opens (bound_of tight pool.number) start.seen (free_by first.body) in
    record {
      after = pool;
      stage = Waits;
      is = none_fed recv.ask pool;
      live = tt;
      rests = ready.0;
      may = subst (λ (a : RecvAsk). IsTightOrNew tight a pool) (sym same) ready.1;
      fed = fed;
      bytes = All-nil (λ (byte : ℕ). byte < 256);
      counted = (ap (λ (r : Reading). r.covered) fed.reads.whole ∙ fed.waits, refl);
      wanted = λ n less. absurd (omega (arith, less));
    }

pub fed_weaker : (Starts Then : (tight : Bool) → Pool → Type 0) (first : PoolState) (start now : DiskState) (ask asked : RecvAsk) (input input' : SourceState) (answer : Result (List (List ℕ)) Refusal) → ask ≡ asked → ((tight : Bool) (pool : Pool) → Then tight pool → Starts tight pool)
    → Fed Starts first start now ask input input' answer → Fed Then first start now asked input input' answer
fed_weaker Starts Then first start now ask asked input input' answer same is f =
    subst (λ (a : RecvAsk). Fed Then first start now a input input' answer) same
    (record { pieces = f.pieces; are_pieces = f.are_pieces; consumed = f.consumed; text = f.text; cost = f.cost; says = λ tight pool honest begins. f.says tight pool honest (is tight pool begins) })

-- no memory was left for it
pub unread : (start : DiskState) (first : PoolState) (ask : RecvAsk) (input : SourceState) → Fed (λ tight. IsReady ask tight start first) first start start ask input input (Err refusals.OutOfMemory)
unread start first ask input = record {
  pieces = [];
  are_pieces = tt;
  consumed = sym (append-nil input.given);
  text = says_other [] input input refusals.OutOfMemory (λ fault is. absurd (cc is));
  cost = λ need largest is. absurd (cc is);
  says = λ tight pool honest ready. record {
    wanted = λ n less. absurd (omega (arith, less));
    moments = Leaves-none start (ReadsAlong tight ask pool []);
    ends = record { after = pool; stage = Waits; is = none_fed ask pool; live = tt; keeps = (first.body, ready.0.rows, ready.0.rests) };
  };
}
