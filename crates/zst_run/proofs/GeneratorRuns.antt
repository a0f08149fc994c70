-- The commands that make content, one after another on a pool that runs.
use Rattle.std.specs.Prelude.{Some, Result, Ok, Err}
use Rattle.std.specs.List.{range_with_len, slice_get}
use Rattle.std.proofs.Common.{◌≡◌, ◌≢◌, inl, inr, ℕ, zero, suc, ◌+◌, ◌<◌, ◌≤◌, Bool, false, ◌||◌, List, [], ◌∷◌, ◌++◌, All, flat_map, length, map, take, refl, sym, ap, subst, ◌∙◌, arith}
use Rattle.std.proofs.lemmas.List.{take_all}
use Rattle.std.proofs.lemmas.List.Elements.{All-append, All-cons, All-map, All-nil, All-push}
use Rattle.std.proofs.lemmas.Option.{get_or_from_slice_get, slice_get_within}
use Rattle.zst_outside.specs.Causes.{Rose-earlier}
use Rattle.zst_outside.specs.Images.{DiskState, Leaves, Leaves-none, Leaves-then, Leaves-weaker}
use Rattle.zst_outside.specs.declared.disk.Disk.{Ghosts}
use Rattle.zst_space.specs.FreeSectors.{FreeSectors}
use Rattle.zst_block.specs.IoStates.{IsHonest, disk_of, io_of}
use Rattle.zst_model.specs.declared.pools.command.Command.{Command}
use Rattle.zst_model.specs.declared.pools.command.Command.TheVariants as commands
use Rattle.zst_model.specs.declared.refusals.refusal.Refusal.{Refusal}
use Rattle.zst_model.specs.declared.refusals.refusal.Refusal.TheVariants as refusals
use Rattle.zst_model.specs.pools.Pool.{Pool}
use Rattle.zst_model.specs.pools.Step.{Stepped, stepped}
use Rattle.zst_model.specs.states.AppliedItems.{◌>>=◌}
use Rattle.zst_model.proofs.PlanFaults.{plan_cases}
use Rattle.zst_gen.specs.Generated.{fs_name, generated, object_command, object_commands, snapshot_name, write_command, written_blocks}
use Rattle.zst_image.specs.Commits.{Ready}
use Rattle.zst_image.specs.declared.pool_state.PoolState.{PoolState}
use Rattle.zst_pool.specs.Calls.{IsAtRest}
use Rattle.zst_pool.specs.Cost.{HasNoRoom, cost_of}
use Rattle.zst_pool.specs.Events.{Settles, StepDid}
use Rattle.zst_pool.specs.Faults.{HasDiskCause, StepFault, is_disk_fault, pool_refusal}
use Rattle.zst_pool.specs.PartialRows.{rows_after}
use Rattle.zst_pool.specs.StepAnswers.{BeforeOrAfter, StepAnswer}
use Rattle.zst_pool.proofs.PoolsAtRest.{rest_plain}
use Rattle.zst_pool.specs.declared.fault.PoolFault.{PoolFault}
use Rattle.zst_pool.specs.declared.fault.PoolFault.TheVariants as faults
use Rattle.zst_pool.specs.declared.pool.Pool.{Pool as OpenedPool}
use Rattle.zst_run.specs.Generating.{CommandGrew, GenEnds, GrewAlong, NextFindsNoRoom, ReadsMade, StoppedAt, first_made, gen_line, stepped_all}
use Rattle.zst_run.specs.GeneratorTurns.{IsStepRefusal, NextDid, RunsAll, RunsNext, RunsOn}
use Rattle.zst_run.proofs.CommandLemmas.{disk_fault, failed_before, full_only}
use Rattle.zst_run.proofs.LaterDisks.{later_none, later_then}

-- ---- one command more

-- the pool that a command makes
abbrev pool_after : Result Stepped Refusal → Result Pool Refusal
pool_after after = after >>= λ done. Ok done.pool

more_run : (now : ℕ) (made : List Command) (n : ℕ) (command : Command) (pool running : Pool) → slice_get made n ≡ Some command → stepped_all now (take n made) pool ≡ Ok running
    → stepped_all now (take (suc n) made) pool ≡ pool_after (stepped [] now command running)
unfolding stepped_all
more_run now [] n command pool running at is = absurd (cc at)
more_run now (first ∷ rest) zero command pool running at is =
    let same : first ≡ command = cc at in
    let here : pool ≡ running = cc is in
    ap (λ (c : Command). pool_after (stepped [] now c pool)) same ∙ ap (λ (p : Pool). pool_after (stepped [] now command p)) here
more_run now (first ∷ rest) (suc n) command pool running at is = go (stepped [] now first pool) (λ done. more_run now rest n command done.pool running at) is
  where
    go : (after : Result Stepped Refusal) → ((done : Stepped) → stepped_all now (take n rest) done.pool ≡ Ok running → stepped_all now (take (suc n) rest) done.pool ≡ pool_after (stepped [] now command running))
        → (after >>= λ done. stepped_all now (take n rest) done.pool) ≡ Ok running → (after >>= λ done. stepped_all now (take (suc n) rest) done.pool) ≡ pool_after (stepped [] now command running)
    go (Ok done) more goes = more done goes
    go (Err refusal) more goes = absurd (cc goes)

pub none_made : (now steps : ℕ) (pool : Pool) → first_made now steps 0 pool ≡ Ok pool
unfolding stepped_all
none_made now steps pool = refl

-- what stands, where there are more
abbrev pub stopped : {tight : Bool} (now steps number : ℕ) (pool running : Pool) (here' : DiskState) (kept : PoolState) → number < length (generated steps) → first_made now steps number pool ≡ Ok running
    → IsAtRest tight here' kept running → StoppedAt tight now steps pool here'
stopped now steps number pool running here' kept less is rests = record { count = number; more = less; made = record { after = running; is = is; keeps = (kept.body, rests.rows, rests.rests) } }

module _ (now steps number : ℕ) (command : Command) (pool running : Pool) (at : slice_get (generated steps) number ≡ Some command) (is : first_made now steps number pool ≡ Ok running) where
  made_next : first_made now steps (number + 1) pool ≡ pool_after (stepped [] now command running)
  made_next = let next : number + 1 ≡ suc number = omega arith in ap (λ (n : ℕ). first_made now steps n pool) next ∙ more_run now (generated steps) number command pool running at is

  accepted : (done : Stepped) → stepped [] now command running ≡ Ok done → first_made now steps (number + 1) pool ≡ Ok done.pool
  accepted done goes = made_next ∙ ap pool_after goes

  refused : (refusal : Refusal) → stepped [] now command running ≡ Err refusal → first_made now steps (number + 1) pool ≡ Err refusal
  refused refusal fails = made_next ∙ ap pool_after fails

  along : (tight : Bool) (c : List ℕ) → BeforeOrAfter tight running (stepped [] now command running) c → ReadsMade tight now steps pool c
  along tight c (inl reads) = (number, running, is, reads)
  along tight c (inr after) = (number + 1, after.0.pool, accepted after.0 after.1, after.2)

  module _ (tight : Bool) (old new : DiskState) (kept : PoolState) (step : Leaves old new (BeforeOrAfter tight running (stepped [] now command running))) where
    moments : Leaves old new (ReadsMade tight now steps pool)
    moments = Leaves-weaker old new (BeforeOrAfter tight running (stepped [] now command running)) (ReadsMade tight now steps pool) step (along tight)

    -- the command was accepted
    pub next_done : (reply : List (List ℕ)) → StepAnswer tight new kept running (stepped [] now command running) (Ok reply) → NextDid tight now steps number pool old new kept (Ok tt)
    next_done reply did = record { moments = moments; stands = (did.0.pool, accepted did.0 did.1, did.3) }

    module _ (less : number < length (generated steps)) where
      abbrev stop : IsAtRest tight new kept running → StoppedAt tight now steps pool new
      stop rests = stopped now steps number pool running new kept less is rests

      -- E24 comes only where there are too few sectors
      abbrev LacksRoom : PoolFault → Type 0
      LacksRoom fault = (need largest : ℕ) → fault ≡ faults.Full need largest
          → (left : FreeSectors) × HasNoRoom (cost_of command).cells ((cost_of command).block running) ((cost_of command).list running) kept.body kept.dir left need largest

      ends : (fault : PoolFault) → LacksRoom fault → StepFault (IsAtRest tight new kept running) (stepped [] now command running) fault
          → GenEnds tight now steps pool new (Err (pool_refusal fault))
      ends (faults.Plan fault) short did =
          plan_cases (λ f r. stepped [] now command running ≡ Err r → GenEnds tight now steps pool new (Err r)) (λ f e. (stop did.1, refused (refusals.Plan f) e)) (λ w n e. (stop did.1, refused (refusals.Limit w n) e))
          fault did.0
      ends (faults.CannotApply fault) short did = (stop did.1, refused (refusals.CannotApply 0 fault) did.0)
      ends (faults.Redacted object block) short did = (stop did.1, refused (refusals.Redacted object block) did.0)
      ends (faults.Full need largest) short did =
          let found = short need largest refl in
          let room : NextFindsNoRoom tight now steps number pool new need largest = record { command = command; is_next = at; running = running; is = is; kept = kept; rests = did.1; left = found.0; short = found.1 } in
          (stop did.1, room, (did.0.0.pool, accepted did.0.0 did.0.1))
      ends (faults.Damaged sector stated found) short did = absurd did
      ends faults.DiskFault short did = tt
      ends faults.Failed short did = absurd did
      ends faults.OutOfMemory short did = stop did

      -- it was refused
      pub next_refused : (fault : PoolFault) → LacksRoom fault → StepAnswer tight new kept running (stepped [] now command running) (Err fault)
          → NextDid tight now steps number pool old new kept (Err fault)
      next_refused fault short did = record { moments = moments; stands = ends fault short did }

-- no memory was left for it
pub next_unmade : {tight : Bool} (now steps number : ℕ) (pool running : Pool) (here : DiskState) (kept : PoolState) → number < length (generated steps) → first_made now steps number pool ≡ Ok running
    → IsAtRest tight here kept running → NextDid tight now steps number pool here here kept (Err faults.OutOfMemory)
next_unmade {tight = tight} now steps number pool running here kept less is rests = record {
  moments = Leaves-none here (ReadsMade tight now steps pool);
  stands = stopped now steps number pool running here kept less is rests;
}

-- ---- none of them is a reclaim

abbrev IsOther : Command → Type 0
IsOther command = command ≢ commands.Reclaim

objects_are : (n : ℕ) (numbers : List ℕ) → All IsOther (flat_map (object_commands n) numbers)
objects_are n [] = All-nil IsOther
objects_are n (k ∷ numbers) =
    All-append IsOther (object_commands n k) (flat_map (object_commands n) numbers)
    (All-cons IsOther (object_command n k) (map (write_command n k) written_blocks) (λ is. absurd (cc is)) (All-map IsOther (write_command n k) written_blocks (λ i block less is. absurd (cc is))))
    (objects_are n numbers)

all_are : (n : ℕ) → All IsOther (generated n)
all_are n =
    let objects = flat_map (object_commands n) (range_with_len 1 n) in
    All-cons IsOther (commands.Fs (fs_name n)) (objects ++ commands.Snapshot (snapshot_name n) ∷ []) (λ is. absurd (cc is))
    (All-push IsOther objects (commands.Snapshot (snapshot_name n)) (objects_are n (range_with_len 1 n)) (λ is. absurd (cc is)))

is_other : (steps number : ℕ) (command : Command) → slice_get (generated steps) number ≡ Some command → command ≢ commands.Reclaim
is_other steps number command at =
    subst IsOther (get_or_from_slice_get (generated steps) number command command at) (all_are steps number command (slice_get_within (generated steps) number command at))

-- ---- why it is refused

pub step_refused : {T : Type 0} → (old new : DiskState) (fault : PoolFault) → HasDiskCause {T = T} old.faults new.faults (Err fault) → fault ≢ faults.Failed → IsStepRefusal old new (pool_refusal fault)
step_refused old new fault cause alive = record {
  one = (fault, refl);
  alive = λ is. alive (failed_before fault is);
  cause = λ is. cause.fault (ap (λ f. Err f) (disk_fault fault is));
}

pub memory_refused : (here : DiskState) → IsStepRefusal here here refusals.OutOfMemory
memory_refused here = record {
  one = (faults.OutOfMemory, refl);
  alive = λ is. absurd (cc is);
  cause = λ is. absurd (cc is);
}

-- ---- what is taken

-- one more command is done behind the others
grew_more : (made : List Command) (n : ℕ) (command : Command) (first kept next : PoolState) → slice_get made n ≡ Some command → GrewAlong (take n made) first kept → CommandGrew command kept next
    → GrewAlong (take (suc n) made) first next
grew_more [] n command first kept next at grew one = absurd (cc at)
grew_more (x ∷ rest) zero command first kept next at grew one =
    let same : x ≡ command = cc at in
    (next, subst (λ (c : Command). CommandGrew c first next) (sym same) (subst (λ (k : PoolState). CommandGrew command k next) grew one), refl)
grew_more (x ∷ rest) (suc n) command first kept next at grew one = (grew.0, grew.1, grew_more rest n command grew.0 kept next at grew.2 one)

module _ {D : Type 0} {g : Ghosts D} (now steps number : ℕ) (command : Command) (at : slice_get (generated steps) number ≡ Some command) (less : number < length (generated steps))
    (old new : OpenedPool D g) (works : old.io.failed ≡ false) where
  -- where the command found no room, what is kept stayed
  left_then : (kept kept' : PoolState) (running : Pool) (left : FreeSectors) (need largest : ℕ) → kept' ≡ kept
      → HasNoRoom (cost_of command).cells ((cost_of command).block running) ((cost_of command).list running) kept.body kept.dir left need largest
      → (less : FreeSectors) × HasNoRoom (cost_of command).cells ((cost_of command).block running) ((cost_of command).list running) kept'.body kept'.dir less need largest
  left_then kept kept' running left need largest same short =
      (left, subst (λ (k : PoolState). HasNoRoom (cost_of command).cells ((cost_of command).block running) ((cost_of command).list running) k.body k.dir left need largest) (sym same) short)

  -- a step that went well
  pub step_done : (reply : List (List ℕ)) → StepDid now command [] old new (Ok reply) → Settles {T = List (List ℕ)} old new (Ok reply) → new.kept.dir.partials ≡ rows_after command old.kept.dir.partials → RunsNext now steps number old new (Ok tt)
  step_done reply did settles partials =
      let still : new.io.failed ≡ false = settles.failed ∙ ap (λ (failed : Bool). failed || false) works in
      record {
        says = λ tight pool running told is rests.
            next_done now steps number command pool running at is tight (disk_of old.io) (disk_of new.io) new.kept (did.moments tight running told rests) reply (did.answer tight running told works rests (All-nil _));
        works = still;
        ready = settles.ready still;
        blocks = λ apart. did.blocks (is_other steps number command at) (λ is. absurd (cc is));
        spends = record {
          grew =
              let spent = did.spends (is_other steps number command at) works in
              (command, at, record { block = spent.0; most = spent.1; grows = spent.2.grows; directory = spent.2.directory; partials = partials });
          short = λ need largest is. absurd (cc is);
        };
        why = tt;
        later = record { faults = settles.cause.later; honest = settles.honest; same = settles.same };
      }

  -- and one that was refused
  pub step_fails : (fault : PoolFault) → StepDid now command [] old new (Err fault) → Settles {T = List (List ℕ)} old new (Err fault) → RunsNext now steps number old new (Err fault)
  step_fails fault did settles =
      let other = is_other steps number command at in
      let room = λ (tight : Bool) (running : Pool) (told : IsHonest new.io) (rests : IsAtRest tight (disk_of old.io) old.kept running) (need largest : ℕ) (is : fault ≡ faults.Full need largest).
      left_then old.kept new.kept running new.io.space need largest settles.stays ((did.exact other running told works (rest_plain (disk_of old.io) old.kept running rests)).full need largest is) in
      record {
        says = λ tight pool running told is rests.
            next_refused now steps number command pool running at is tight (disk_of old.io) (disk_of new.io) new.kept (did.moments tight running told rests) less fault (room tight running told rests)
            (did.answer tight running told works rests (All-nil _));
        works = tt;
        ready = tt;
        blocks = λ apart. did.blocks other (λ is. let same : fault ≡ faults.DiskFault = cc is in apart (ap (λ (f : PoolFault). Err f) same));
        spends = record {
          grew = tt;
          short = λ need largest is.
              let spent = did.spends other works in
              let same : fault ≡ faults.Full need largest = cc is in
              let still : new.io.failed ≡ false = settles.failed ∙ ap (λ (failed : Bool). failed || is_disk_fault {T = List (List ℕ)} (Err fault)) works ∙ ap (λ (f : PoolFault). is_disk_fault {T = List (List ℕ)} (Err f)) same in (
                command,
                at,
                record { block = spent.0; most = spent.1; short = spent.2.full need largest same },
                subst (λ (k : PoolState). Ready (disk_of new.io) k.body) settles.stays (settles.ready still),
              );
        };
        why = step_refused (disk_of old.io) (disk_of new.io) fault settles.cause (λ is. did.open_still works (ap (λ (f : PoolFault). Err f) is));
        later = record { faults = settles.cause.later; honest = settles.honest; same = settles.same };
      }

refused_earlier : (start old new : DiskState) (refusal : Refusal) → start.faults ≤ old.faults → IsStepRefusal old new refusal → IsStepRefusal start new refusal
refused_earlier start old new refusal later why = record {
  one = why.one;
  alive = why.alive;
  cause = λ is. Rose-earlier start.faults old.faults new.faults later (why.cause is);
}

-- ---- all commands

module _ {D : Type 0} {g : Ghosts D} (now steps : ℕ) where
  -- none ran yet
  pub ran_none : (pool : OpenedPool D g) → pool.io.failed ≡ false → Ready (disk_of pool.io) pool.kept.body → RunsOn now steps 0 pool pool
  ran_none pool works ready = record {
    says = λ tight plain honest begins. record {
      running = plain;
      is = none_made now steps plain;
      rests = begins;
      moments = Leaves-none (disk_of pool.io) (ReadsMade tight now steps plain);
    };
    works = works;
    ready = ready;
    blocks = λ ptr bytes has. has;
    grew = refl;
    later = later_none (io_of pool.io);
  }

  module _ (count : ℕ) (first pool : OpenedPool D g) (on : RunsOn now steps count first pool) where
    -- one more was accepted
    pub ran_more : (next : OpenedPool D g) → RunsNext now steps count pool next (Ok tt) → RunsOn now steps (count + 1) first next
    ran_more next n = record {
      says = λ tight plain honest begins.
          let before = on.says tight plain (n.later.honest honest) begins in
          let step = n.says tight plain before.running honest before.is before.rests in
          let stands = step.stands in
          record {
            running = stands.0;
            is = stands.1;
            rests = stands.2;
            moments = Leaves-then (disk_of first.io) (disk_of pool.io) (disk_of next.io) (ReadsMade tight now steps plain) (ReadsMade tight now steps plain) before.moments step.moments (λ c is. is);
          };
      works = n.works;
      ready = n.ready;
      blocks = λ ptr bytes has. n.blocks (λ is. absurd (cc is)) ptr bytes (on.blocks ptr bytes has);
      grew =
          let done = n.spends.grew in
          let next_is : count + 1 ≡ suc count = omega arith in
          subst (λ (k : ℕ). GrewAlong (take k (generated steps)) first.kept next.kept) (sym next_is) (grew_more (generated steps) count done.0 first.kept pool.kept next.kept done.1 on.grew done.2);
      later = later_then (io_of first.io) (io_of pool.io) (io_of next.io) on.later n.later;
    }

    -- the next one is refused
    pub ran_refused : (next : OpenedPool D g) (fault : PoolFault) → RunsNext now steps count pool next (Err fault) → RunsAll now steps first next (Err (pool_refusal fault))
    ran_refused next fault n = record {
      says = λ tight plain honest begins.
          let before = on.says tight plain (n.later.honest honest) begins in
          let step = n.says tight plain before.running honest before.is before.rests in
          record {
            moments = Leaves-then (disk_of first.io) (disk_of pool.io) (disk_of next.io) (ReadsMade tight now steps plain) (ReadsMade tight now steps plain) before.moments step.moments (λ c is. is);
            ends = step.stands;
          };
      stood = λ apart ptr bytes has.
          let there = n.blocks (λ is. let same : fault ≡ faults.DiskFault = cc is in apart (ap (λ (f : PoolFault). Err (pool_refusal f)) same)) ptr bytes (on.blocks ptr bytes has) in
          record { block = there.block; behind = has.behind; taken = has.taken };
      full = λ need largest is.
          let fell = n.spends.short need largest (ap (λ (f : PoolFault). Err f) (full_only fault need largest (let same : pool_refusal fault ≡ refusals.Full need largest = cc is in same))) in
          record {
            number = count;
            command = fell.0;
            is_next = fell.1;
            kept = pool.kept;
            grew = on.grew;
            ready = fell.3;
            left = next.io.space;
            short = fell.2;
          };
      why = refused_earlier (disk_of first.io) (disk_of pool.io) (disk_of next.io) (pool_refusal fault) on.later.faults n.why;
      later = later_then (io_of first.io) (io_of pool.io) (io_of next.io) on.later n.later;
    }

    -- all were accepted
    pub ran_all : count ≡ length (generated steps) → RunsAll now steps first pool (Ok pool.kept.body.uber.number)
    ran_all all = record {
      says = λ tight plain honest begins.
          let has = on.says tight plain honest begins in
          let within : length (generated steps) ≤ count = omega (arith, all) in
          record {
            moments = has.moments;
            ends = (
              record {
                after = has.running;
                is = ap (λ (l : List Command). stepped_all now l plain) (sym (take_all count (generated steps) within)) ∙ has.is;
                keeps = (pool.kept.body, has.rests.rows, has.rests.rests);
              },
              ap (λ (n : ℕ). gen_line steps n ∷ []) (sym has.rests.rests.reads.described.number),
            );
          };
      stood = λ apart ptr bytes has. let there = on.blocks ptr bytes has in record { block = there.block; behind = has.behind; taken = has.taken };
      full = λ need largest is. absurd (cc is);
      why = tt;
      later = on.later;
    }
