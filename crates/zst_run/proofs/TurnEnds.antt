-- How a turn of a receive ends, from what reading and feeding its piece say.
use Rattle.std.specs.Prelude.{min, ◌^◌, ◌-◌, Option, Some, None, Result, Ok, Err}
use Rattle.std.proofs.Common.{◌≡◌, ◌≢◌, ℕ, ◌+◌, ◌<◌, ◌≤◌, Bool, true, false, List, [], ◌++◌, length, take, sym, ap, ◌∙◌, subst, arith}
use Rattle.std.proofs.lemmas.List.{append-nil, length-take-le, nil_from_length}
use Rattle.zst_outside.specs.Images.{DiskState}
use Rattle.zst_outside.specs.States.{SourceState, Gave}
use Rattle.zst_block.specs.Blocks.{Has}
use Rattle.zst_image.specs.Bodies.{free_by}
use Rattle.zst_image.specs.Reads.{bound_of}
use Rattle.zst_image.specs.declared.pool_state.PoolState.{PoolState}
use Rattle.zst_model.specs.declared.refusals.refusal.Refusal.TheVariants as refusals
use Rattle.zst_model.specs.declared.refusals.stream_fault.StreamFault.{StreamFault}
use Rattle.zst_model.specs.pools.Pool.{Pool}
use Rattle.zst_model.proofs.PlanFaults.{plan_cases}
use Rattle.zst_model.specs.states.State.{AreBytes}
use Rattle.zst_pool.specs.Calls.{IsAtRest}
use Rattle.zst_pool.specs.Faults.{pool_refusal}
use Rattle.zst_pool.specs.declared.fault.PoolFault.{PoolFault}
use Rattle.zst_pool.specs.declared.fault.PoolFault.TheVariants as pools
use Rattle.zst_reader.specs.StandsFor.{HandsOut, StandsFor}
use Rattle.zst_record.specs.Heads.{Covered}
use Rattle.zst_stream.specs.Reading.{complete, faulty, reading, waiting}
use Rattle.zst_recv.specs.Answers.{Feeds}
use Rattle.zst_recv.specs.Faults.{IsFeedFault, recv_refusal}
use Rattle.zst_recv.specs.ReceiveSteps.{Stage}
use Rattle.zst_recv.specs.Stages as standing
use Rattle.zst_recv.specs.Stages.{TellsBefore}
use Rattle.zst_recv.specs.declared.fault.RecvFault.{RecvFault}
use Rattle.zst_recv.specs.declared.fault.RecvFault.TheVariants as faults
use Rattle.zst_recv.specs.declared.recv.FeedReport as coded
use Rattle.zst_recv.specs.declared.recv.Recv.{Recv}
use Rattle.zst_replication.specs.RecordCounts.{RecordsAreCounted}
use Rattle.zst_run.specs.Receives.{piece_size}
use Rattle.zst_run.specs.ReceiveTurns.{Fills, HasFed, HasHanded, IsInputOf, IsPieceOf, Turned, TurnReads, TurnSpends, Turns, WaitsForMore, turn_behind, with_piece}
use Rattle.zst_run.specs.declared.receive.End.{End}
use Rattle.zst_run.specs.declared.receive.End.TheVariants.{Ended, Failed}
use Rattle.zst_run.specs.declared.receive.Turn.TheVariants as turns
use Rattle.zst_recv.specs.Costs.{PieceGrows}
use Rattle.zst_recv.specs.Feeds.{new_records}
use Rattle.zst_run.proofs.ReceiveLemmas.{recv_full}
use Rattle.zst_run.proofs.PieceCosts.{IsShortBehind}
use Rattle.zst_run.proofs.TurnLemmas.{dates_told, turn_without, turned_more, turned_over, turned_received, turned_refused}

-- ---- faults of the stream

pool_no_stream : (fault : PoolFault) (told : StreamFault) → pool_refusal fault ≢ refusals.Stream told
pool_no_stream (pools.Plan fault) told is = plan_cases (λ f r. r ≡ refusals.Stream told → ⊥) (λ f e. absurd (cc e)) (λ which number e. absurd (cc e)) fault is
pool_no_stream (pools.CannotApply fault) told is = absurd (cc is)
pool_no_stream (pools.Redacted object block) told is = absurd (cc is)
pool_no_stream (pools.Full need largest) told is = absurd (cc is)
pool_no_stream (pools.Damaged sector stated found) told is = absurd (cc is)
pool_no_stream pools.DiskFault told is = absurd (cc is)
pool_no_stream pools.Failed told is = absurd (cc is)
pool_no_stream pools.OutOfMemory told is = absurd (cc is)

recv_stream : (fault : RecvFault) (told : StreamFault) → recv_refusal fault ≡ refusals.Stream told → fault ≡ faults.Stream told
recv_stream (faults.Pool fault) told is = absurd (pool_no_stream fault told is)
recv_stream (faults.Stream fault) told is = let same : fault ≡ told = cc is in ap (λ (f : StreamFault). faults.Stream f) same
recv_stream (faults.CannotApply index fault) told is = absurd (cc is)

-- ---- a turn

-- a receive that goes on stands for all that was fed
goes_reads : (e : Option End) (recv : Recv) (text : List ℕ) → HasFed recv text → TurnReads recv text (turn_behind e)
goes_reads None recv text has = has
goes_reads (Some end) recv text has = has

module _ (input input' : SourceState) (room : List ℕ) (count : ℕ) (end : Option End) (within : count ≤ length room) (size : length room ≡ piece_size) (gave : Gave input input' (take count room))
    (fills : Fills input input' (length room) count end) where
  long : length (take count room) ≡ count
  long = length-take-le count room within

  most : length (take count room) ≤ piece_size
  most = omega (arith, long, within, size)

  sized : (e : Option End) → Fills input input' (length room) count e → IsPieceOf (turn_behind e) (take count room)
  sized None is = long ∙ is.0 ∙ size
  sized (Some e) is = most

  input_is : (e : Option End) → Fills input input' (length room) count e → IsInputOf input input' (turn_behind e)
  input_is None is = is.1
  input_is (Some Ended) is = is
  input_is (Some Failed) is = is

  -- nothing more was there
  module _ (none : count ≡ 0) (now : DiskState) (kept : PoolState) (recv : Recv) (items : ℕ) where
    without : (e : Option End) → Fills input input' (length room) count e → (tight : Bool) (pool : Pool) (pieces : List (List ℕ)) → now.honest → WaitsForMore tight now kept recv recv.ask pool pieces items
        → Turned tight now now kept recv recv.ask pool (with_piece pieces (take count room)) items (turn_behind e)
    without None is tight pool pieces honest u = absurd (let full = is.0 in omega (arith, full, none, size))
    without (Some e) is tight pool pieces honest u = turn_without tight now kept recv recv.ask pool pieces (take count room) items e (long ∙ none) u

    -- it stands for the same text
    same_text : (text : List ℕ) → HasFed recv text → HasFed recv (text ++ take count room)
    same_text text has =
        let nothing : take count room ≡ [] = nil_from_length (take count room) (long ∙ none) in
        subst (HasFed recv) (sym (ap (λ (piece : List ℕ). text ++ piece) nothing ∙ append-nil text)) has

    -- and has handed out the same
    same_handed : (text : List ℕ) → HasHanded recv text → HasHanded recv (text ++ take count room)
    same_handed text has =
        let nothing : take count room ≡ [] = nil_from_length (take count room) (long ∙ none) in
        subst (HasHanded recv) (sym (ap (λ (piece : List ℕ). text ++ piece) nothing ∙ append-nil text)) has

    spends_none : (e : Option End) → Fills input input' (length room) count e → (text : List ℕ) → HasHanded recv text → TurnSpends kept kept recv text (take count room) (turn_behind e)
    spends_none None is text has = absurd (let full = is.0 in omega (arith, full, none, size))
    spends_none (Some e) is text has = same_handed text has

    pub turns_without : Turns now now kept kept recv recv items items input input' (turn_behind end)
    turns_without = record {
      piece = take count room;
      gave = gave;
      sized = sized end fills;
      input_is = input_is end fills;
      reads = λ text has. goes_reads end recv (text ++ take count room) (same_text text has);
      spends = λ text has. spends_none end fills text has;
      says = without end fills;
    }

  -- a piece was there, and was fed
  module _ (law : RecordsAreCounted) (some : count ≢ 0) (bytes : AreBytes (take count room)) (old now : DiskState) (kept kept' : PoolState) (recv recv' : Recv) (items : ℕ) (same : recv'.ask ≡ recv.ask) where
    has_some : 0 < length (take count room)
    has_some = omega (arith, long, some)

    -- what a feed says of it
    abbrev pub FedSo : Result coded.FeedReport RecvFault → Type 0
    FedSo result =
        (tight : Bool) (running : Pool) (text : List ℕ) (stage : Stage) → now.honest → IsAtRest tight old kept running → TellsBefore recv.ask stage kept.dir running
        → standing.Receives (bound_of tight running.number) (Has old.seen (free_by kept.body)) recv text stage → Feeds tight old now kept' recv' text (take count room) stage running result

    module _ (told : coded.FeedReport) (items' : ℕ) (adds : items' ≡ min (items + told.applied) (2 ^ 64 - 1)) (feeds : FedSo (Ok told)) where
      behind : (e : Option End) → told.done ≡ false → (tight : Bool) (pool : Pool) (pieces : List (List ℕ)) → now.honest
          → WaitsForMore tight old kept recv recv.ask pool pieces items → Turned tight old now kept' recv' recv.ask pool (with_piece pieces (take count room)) items' (turn_behind e)
      behind None not tight pool pieces honest u =
          turned_more law tight old now kept kept' recv recv' recv.ask pool pieces (take count room) items u has_some same told (feeds tight u.after _ u.stage honest u.rests (dates_told tight recv.ask u.stage old kept u.after u.may u.rests) u.fed) bytes most items' adds not
      behind (Some e) not tight pool pieces honest u =
          turned_over law tight old now kept kept' recv recv' recv.ask pool pieces (take count room) items u has_some same told (feeds tight u.after _ u.stage honest u.rests (dates_told tight recv.ask u.stage old kept u.after u.may u.rests) u.fed) bytes most items' adds e not

      spends_on : (e : Option End) (text : List ℕ) → HasHanded recv' (text ++ take count room) × PieceGrows (new_records text (take count room)) kept kept' → TurnSpends kept kept' recv' text (take count room) (turn_behind e)
      spends_on None text both = both
      spends_on (Some e) text both = both.0

      -- more is waited for
      pub turns_on : told.done ≡ false
          → ((text : List ℕ) (handed : List Covered) → StandsFor recv.reader text handed → HasFed recv' (text ++ take count room))
          → ((text : List ℕ) (has : HasHanded recv text) → HasHanded recv' (text ++ take count room) × PieceGrows (new_records text (take count room)) kept kept') → Turns old now kept kept' recv recv' items items' input input' (turn_behind end)
      turns_on not stands grows = record {
        piece = take count room;
        gave = gave;
        sized = sized end fills;
        input_is = input_is end fills;
        reads = λ text has. goes_reads end recv' (text ++ take count room) (stands text has.0 has.1);
        spends = λ text has. spends_on end text (grows text has);
        says = behind end not;
      }

      -- END was covered
      pub turns_received : told.done ≡ true → ((text : List ℕ) (handed : List Covered) → StandsFor recv.reader text handed → (reading (text ++ take count room)).outcome ≡ complete)
          → Turns old now kept kept' recv recv' items items' input input' turns.Received
      turns_received over whole = record {
        piece = take count room;
        gave = gave;
        sized = (has_some, most);
        input_is = tt;
        reads = λ text has. whole text has.0 has.1;
        spends = λ text has. tt;
        says = λ tight pool pieces honest u.
            turned_received law tight old now kept kept' recv recv' recv.ask pool pieces (take count room) items u has_some same told (feeds tight u.after _ u.stage honest u.rests (dates_told tight recv.ask u.stage old kept u.after u.may u.rests) u.fed) bytes most items' adds over;
      }

    pub turns_refused : (items' : ℕ) (fault : RecvFault) → IsFeedFault fault → FedSo (Err fault)
        → ((text : List ℕ) (handed : List Covered) (told : StreamFault) → StandsFor recv.reader text handed → fault ≡ faults.Stream told → (reading (text ++ take count room)).outcome ≡ faulty told)
        → ((text : List ℕ) (handed : List Covered) (need largest : ℕ) → HandsOut recv.reader text handed waiting → fault ≡ faults.Pool (pools.Full need largest) → IsShortBehind kept kept' text (take count room) need largest)
        → Turns old now kept kept' recv recv' items items' input input' (turns.Refused (recv_refusal fault))
    turns_refused items' fault known feeds stream short = record {
      piece = take count room;
      gave = gave;
      sized = (has_some, most);
      input_is = tt;
      reads = λ text has told is. let same = recv_stream fault told is in (subst IsFeedFault same known, stream text has.0 told has.1 same);
      spends = λ text has need largest is. let s = short text has.0 need largest has.1 (recv_full fault need largest is) in (s.left, s.short);
      says = λ tight pool pieces honest u.
          turned_refused law tight old now kept kept' recv recv' recv.ask pool pieces (take count room) items u has_some same items' fault known (feeds tight u.after _ u.stage honest u.rests (dates_told tight recv.ask u.stage old kept u.after u.may u.rests) u.fed)
          (λ need largest is. short _ u.fed.handed need largest u.fed.reads is);
    }
