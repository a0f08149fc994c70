-- How an event of a pool ends, from what its commit did and what the pool then kept.
use Rattle.std.specs.Prelude.{Result, Ok, Err, IfErr, IfOk, OnErr, OnOk}
use Rattle.std.proofs.Common.{◌≡◌, ℕ, ◌≤◌, List, [], Bool, false, true, ◌||◌, refl, sym, ap, ◌∙◌, subst, arith}
use Rattle.std.proofs.lemmas.Result.{IfOk-weaker}
use Rattle.zst_outside.specs.Images.{Leaves-none, OnlyReads, OnlyReads-none}
use Rattle.zst_outside.specs.declared.disk.Disk.{Ghosts}
use Rattle.zst_space.specs.FreeSectors.{FreeSectors}
use Rattle.zst_block.specs.Blocks.{KeepsBlocks, SparesTaken}
use Rattle.zst_block.proofs.BlocksLaws.{SparesTaken-same}
use Rattle.zst_block.specs.IoCalls.{Looks, is_damage}
use Rattle.zst_block.specs.IoStates.{IoState, disk_of, io_of}
use Rattle.zst_block.specs.declared.io.Io.{Io}
use Rattle.zst_model.specs.declared.pools.command.Command.{Command}
use Rattle.zst_model.specs.declared.refusals.refusal.Refusal.{Refusal}
use Rattle.zst_model.specs.pools.Pool.{Partial as PlainPartial, Pool as Plain}
use Rattle.zst_model.specs.pools.Step.{stepped}
use Rattle.zst_dir.specs.Rows.{Rows}
use Rattle.zst_dir.specs.declared.rows.Partial.{Partial}
use Rattle.zst_roots.specs.declared.held.HeldBlocks.{HeldBlocks}
use Rattle.zst_image.specs.Commits.{HasItsExtents, Ready}
use Rattle.zst_image.specs.Bodies.{free_by}
use Rattle.zst_image.specs.declared.pool_state.PoolState.{PoolState}
use Rattle.zst_pool.specs.Calls.{CallDid, CallGrows, CanCommit, IsCallFault, IsCallFull, keeping}
use Rattle.zst_pool.specs.CommandRuns.{CarriesOut}
use Rattle.zst_pool.specs.Cost.{FindsLess, cost_of}
use Rattle.zst_pool.specs.Events.{CommitsPartial, EndsCommit, LooksUp, PutsPartial, SameDisk, Settles, StepDid}
use Rattle.zst_pool.specs.Damage.{IsOf, TellsDamage}
use Rattle.zst_pool.specs.Faults.{is_disk_fault}
use Rattle.zst_pool.specs.Queries.{stop_of}
use Rattle.zst_pool.specs.Reclaims.{SparesReached}
use Rattle.zst_pool.specs.StepAnswers.{BeforeOrAfter, StepAnswer}
use Rattle.zst_pool.specs.declared.fault.PoolFault.{PoolFault}
use Rattle.zst_pool.specs.declared.fault.PoolFault.TheVariants.{DiskFault, Failed, OutOfMemory, Full}
use Rattle.zst_pool.specs.declared.pool.Pool.{Pool}
use Rattle.zst_pool.proofs.CallLemmas.{blocks_left, call_fell, cause_told, commits_left, fault_has, fault_made, kept_has, ready_still, tells_disk, tells_stop}
use Rattle.zst_pool.proofs.CommitAnswers.{disk_told}
use Rattle.zst_pool.proofs.CommandParts.{disk_fault_same, or_false}
use Rattle.zst_pool.proofs.PoolsAtRest.{commit_next_of}
use Rattle.zst_pool.proofs.QuerySteps.{cause_told as cause_looked, extents_read, fails_told, on_err, on_ok, ready_read, rests_read, since_read, spares_read}
use Rattle.zst_pool.proofs.StepCosts.{blocks_spared, reclaims_idle, spared_still, spends_apart}

abbrev refused_with : PoolFault → Result ℕ PoolFault
refused_with fault = Err fault

-- what a commit's refusal leaves, unless the disk failed, the call leaves that keeps what was committed
refused_apart : (P : Type 0) (kept : PoolState) (answer : Result ℕ PoolFault) (made : Result PoolState PoolFault) → keeping kept answer ≡ made → (¬ (made ≡ Err DiskFault) → OnErr made P) → ¬ (answer ≡ Err DiskFault) → OnErr answer P
refused_apart P kept (Ok number) made is holds apart = tt
refused_apart P kept (Err fault) made is holds apart =
    subst (λ (r : Result PoolState PoolFault). OnErr r P) (sym is) (holds (λ fell. let both : keeping kept (Err fault) ≡ Err DiskFault = is ∙ fell in let disk : fault ≡ DiskFault = cc both in apart (ap refused_with disk)))

module _ {D : Type 0} {g : Ghosts D} where
  -- a pool that has failed answers E31, and stays as it is
  pub settles_failed : {T : Type 0} (pool : Pool D g) → pool.io.failed ≡ true → Settles {T = T} pool pool (Err Failed)
  settles_failed {T = T} pool failed = record {
    stays = refl;
    failed_pool = λ is. refl;
    idle_disk = λ is. refl;
    space = tt;
    works = tt;
    extents = tt;
    ready = λ works. absurd (cc (failed, works));
    failed = or_false pool.io.failed;
    told = λ whole. refl;
    cause = record { later = omega arith; fault = λ is. absurd (cc (is)) };
    honest = λ told. told;
    same = refl;
  }

  pub puts_failed : (definition : PlainPartial → Plain → Result Plain Refusal) (partial : Partial) (dir : Rows) (pool : Pool D g) → pool.io.failed ≡ true → PutsPartial definition partial dir pool pool (Err Failed)
  puts_failed definition partial dir pool failed = record {
    did = λ tight start running plain told works way is. absurd (cc (failed, works));
    rows = tt;
    number = tt;
    known = λ works. absurd (cc (failed, works));
    full = λ need largest is. absurd (cc (is));
    grows = tt;
    blocks = tt;
    spares = λ apart. SparesTaken-same pool.io.space (disk_of pool.io).seen;
    size = refl;
  }

  -- an event whose commit ended so over its Io, whatever sectors it began with, once the pool kept what it committed
  module _ (old new : Pool D g) (mid : Io D g) (made : Result PoolState PoolFault) (answer : Result ℕ PoolFault) (works : old.io.failed ≡ false) (kept : keeping new.kept answer ≡ made) (over : new.io ≡ mid) where
    disk : SameDisk mid new.io
    disk = record {
      now = ap (λ (io : Io D g). io.disk.now) over;
      failed = ap (λ (io : Io D g). io.failed) over;
      checksum_errors = ap (λ (io : Io D g). io.checksum_errors) over;
      same = ap (λ (io : Io D g). io.disk.ghost_name) over;
    }

    pub settles_committed : (space : FreeSectors) → EndsCommit old.kept (record { disk = disk_of old.io; space = space; failed = old.io.failed; checksum_errors = old.io.checksum_errors; reference = old.io.disk.ghost_name }) (io_of mid) made → OnErr answer (new.kept ≡ old.kept)
        → Settles old new answer
    settles_committed space ends stays =
        let ready = ready_still new.kept answer made kept old.kept (disk_of mid) (disk_of new.io) mid.failed new.io.failed (ap (λ (d : D). g.state d) disk.now) disk.failed ends.ready ends.stays stays in
        let can = commits_left (disk_of mid) mid.space made ends.space ends.ready in
        record {
          stays = stays;
          failed_pool = λ is. absurd (cc (works, is));
          idle_disk = λ is. absurd (cc (works, is));
          space = kept_has (λ next. new.io.space ≡ free_by next.body) new.kept answer made kept (subst (λ (io : Io D g). IfOk made (λ next. io.space ≡ free_by next.body)) (sym over) ends.space);
          works = kept_has (λ next. CanCommit (disk_of new.io) new.io.space next.body) new.kept answer made kept (subst (λ (io : Io D g). IfOk made (λ next. CanCommit (disk_of io) io.space next.body)) (sym over) can);
          extents = kept_has (λ next. HasItsExtents (disk_of old.io) old.kept.body → HasItsExtents (disk_of new.io) next.body) new.kept answer made kept
              (IfOk-weaker made (λ next. HasItsExtents (disk_of mid) next.body) (λ next. HasItsExtents (disk_of old.io) old.kept.body → HasItsExtents (disk_of new.io) next.body)
              (λ next has was. subst (λ (io : Io D g). HasItsExtents (disk_of io) next.body) (sym over) has) ends.extents);
          ready = ready;
          failed = disk.failed ∙ ends.disk.failed ∙ ap (λ fell. old.io.failed || fell) (tells_disk new.kept answer made kept);
          told = λ whole. disk.checksum_errors ∙ ends.disk.told (ap is_damage (tells_stop new.kept answer made kept) ∙ whole);
          cause = cause_told new.kept answer made kept (disk_of old.io).faults (disk_of mid).faults (disk_of new.io).faults (ap (λ (d : D). (g.state d).faults) disk.now) ends.cause;
          honest = λ told. ends.disk.honest (subst (λ (d : D). (g.state d).honest) disk.now told);
          same = disk.same ∙ ends.disk.same;
        }

    -- and what a partial state's commit did, the call that keeps it did
    pub puts_committed : (definition : PlainPartial → Plain → Result Plain Refusal) (partial : Partial) (dir : Rows) → CommitsPartial definition partial dir old.kept old.io mid made
        → IfOk made (λ next. mid.space ≡ free_by next.body) → IfOk answer (λ number. number ≡ new.kept.body.uber.number) → PutsPartial definition partial dir old new answer
    puts_committed definition partial dir puts left number = record {
      did = λ tight start running plain told standing way is.
          let honest = subst (λ (d : D). (g.state d).honest) disk.now told in
          subst (λ (d : D). CallDid tight (g.state start) (g.state d) old.kept running (definition plain running) (keeping new.kept answer)) (sym disk.now)
          (subst (CallDid tight (g.state start) (disk_of mid) old.kept running (definition plain running)) (sym kept) (puts.did tight start running plain honest way is));
      rows = kept_has (λ next. next.dir ≡ dir) new.kept answer made kept puts.rows;
      number = number;
      known = λ standing. fault_has new.kept answer made kept IsCallFault puts.known;
      full = λ need largest fell.
          let same = fault_made new.kept answer made kept (Full need largest) fell in
          subst (λ (io : Io D g). IsCallFull old.io.space io.space old.kept.dir need largest) (sym over) (puts.full need largest same);
      grows = kept_has (CallGrows old.io.space old.kept) new.kept answer made kept puts.grows;
      blocks = kept_has (λ next. KeepsBlocks (disk_of old.io).seen old.io.space (disk_of new.io).seen new.io.space) new.kept answer made kept
          (subst (λ (io : Io D g). IfOk made (λ next. KeepsBlocks (disk_of old.io).seen old.io.space (disk_of io).seen io.space)) (sym over) (blocks_left (disk_of old.io).seen (disk_of mid).seen old.io.space mid.space made puts.blocks left));
      spares = λ apart.
          subst (λ (d : D). OnErr answer (SparesTaken old.io.space (disk_of old.io).seen (g.state d).seen)) (sym disk.now)
          (refused_apart (SparesTaken old.io.space (disk_of old.io).seen (disk_of mid).seen) new.kept answer made kept puts.spares apart);
      size = ap (λ (d : D). (g.state d).size) disk.now ∙ puts.size;
    }

  -- without memory nothing of a partial state was committed
  pub puts_starved : (definition : PlainPartial → Plain → Result Plain Refusal) (partial : Partial) (dir : Rows) (kept : PoolState) (io : Io D g) (result : Result PoolState PoolFault) → result ≡ Err OutOfMemory
      → CommitsPartial definition partial dir kept io io result
  puts_starved definition partial dir kept io result fell = subst (CommitsPartial definition partial dir kept io io) (sym fell) (record {
    did = λ tight start running plain told way is. call_fell (g.state start) (disk_of io) io.space kept running (definition plain running) OutOfMemory way tt;
    rows = tt;
    known = tt;
    full = λ need largest is. absurd (cc (is));
    grows = tt;
    blocks = tt;
    spares = λ apart. SparesTaken-same io.space (disk_of io).seen;
    size = refl;
  })

  -- what was carried out stands over the Io that the pool then has, as what it kept
  pub carries_settled : {now : ℕ} {command : Command} {held : List HeldBlocks} {kept : PoolState} {old : IoState} (mid new : Io D g) (made answer : Result PoolState PoolFault) → new ≡ mid → answer ≡ made
      → CarriesOut now command held kept old (io_of mid) made → CarriesOut now command held kept old (io_of new) answer
  carries_settled {now = now} {command = command} {held = held} {kept = kept} {old = old} mid new made answer over same does =
      subst (CarriesOut now command held kept old (io_of new)) (sym same) (subst (λ (io : Io D g). CarriesOut now command held kept old (io_of io) made) (sym over) does)

  -- an event that went well, or was refused so, also where it answers something else
  pub settles_ok : {T U : Type 0} (old new : Pool D g) (value : T) (reply : U) → Settles old new (Ok value) → Settles old new (Ok reply)
  settles_ok old new value reply settles = record {
    stays = tt;
    failed_pool = λ is. absurd (cc (settles.failed_pool is));
    idle_disk = settles.idle_disk;
    space = settles.space;
    works = settles.works;
    extents = settles.extents;
    ready = settles.ready;
    failed = settles.failed;
    told = settles.told;
    cause = record { later = settles.cause.later; fault = λ is. absurd (cc (is)) };
    honest = settles.honest;
    same = settles.same;
  }

  pub settles_err : {T U : Type 0} (old new : Pool D g) (fault : PoolFault) (result : Result U PoolFault) → result ≡ Err fault → Settles {T = T} old new (Err fault) → Settles old new result
  settles_err {T = T} {U = U} old new fault result fell settles = subst (Settles old new) (sym fell) same
    where
      same : Settles {T = U} old new (Err fault)
      same = record {
        stays = settles.stays;
        failed_pool = λ is. let failed : fault ≡ Failed = cc (settles.failed_pool is) in ap (λ (f : PoolFault). Err f) failed;
        idle_disk = settles.idle_disk;
        space = settles.space;
        works = settles.works;
        extents = settles.extents;
        ready = settles.ready;
        failed = settles.failed ∙ ap (λ (b : Bool). old.io.failed || b) (disk_fault_same T U fault);
        told = settles.told;
        cause = record { later = settles.cause.later; fault = λ is. let disk : fault ≡ DiskFault = cc (is) in settles.cause.fault (ap (λ (f : PoolFault). Err f) disk) };
        honest = settles.honest;
        same = settles.same;
      }

  -- one that only told something of a pool, once the sectors were free again
  pub settles_told : (pool : Pool D g) (io : Io D g) (result : Result (List (List ℕ)) PoolFault) → pool.io.failed ≡ false → (space : FreeSectors) → space ≡ free_by pool.kept.body
      → Looks (record { disk = disk_of pool.io; space = space; failed = pool.io.failed; checksum_errors = pool.io.checksum_errors; reference = pool.io.disk.ghost_name }) (io_of io) (stop_of result) → Ready (disk_of pool.io) pool.kept.body
      → Settles pool (record pool { io = io }) result
  settles_told pool io result works space free looks ready =
      let after = ready_read (disk_of pool.io) (disk_of io) pool.kept looks.reads ready in
      let space_is = looks.space ∙ free in
      record {
        stays = on_err result refl;
        failed_pool = λ is. absurd (cc (works, is));
        idle_disk = λ is. absurd (cc (works, is));
        space = on_ok result space_is;
        works = on_ok result (commit_next_of (disk_of io) io.space pool.kept.body space_is after);
        extents = on_ok result (extents_read (disk_of pool.io) (disk_of io) pool.kept looks.reads);
        ready = λ told. after;
        failed = looks.failed ∙ ap (λ (b : Bool). pool.io.failed || b) (fails_told result);
        told = looks.told;
        cause = cause_looked (disk_of pool.io).faults (disk_of io).faults result looks.cause;
        honest = looks.reads.honest;
        same = looks.same;
      }

  -- a step for which no memory was left before anything was done
  pub step_starved : (now : ℕ) (command : Command) (held : List HeldBlocks) (old new : Pool D g) (result : Result (List (List ℕ)) PoolFault) → result ≡ Err OutOfMemory → new.kept ≡ old.kept → OnlyReads (disk_of old.io) (disk_of new.io)
      → StepDid now command held old new result
  step_starved now command held old new result fell kept reads =
      let here = disk_of old.io in
      let there = disk_of new.io in
      let cost = cost_of command in
      let Is = TellsDamage command held old.kept.body old.kept.dir here in
      let spares = spares_read here there old.kept reads in
      record {
        moments = λ tight running told rested. since_read here there old.kept reads running rested (stepped [] now command running);
        answer = λ tight running told standing rested stand.
            subst (λ (k : PoolState). StepAnswer tight there k running (stepped [] now command running) result) (sym kept)
            (subst (StepAnswer tight there old.kept running (stepped [] now command running)) (sym fell) (rests_read here there old.kept reads running rested));
        open_still = λ standing is. cc (fell, is);
        spends = λ other standing. (0, omega arith, spends_apart cost.cells 0 cost.most_list old.kept new.io.space new.kept OutOfMemory result fell (λ need largest is. cc));
        exact = λ other running told standing rested. spends_apart cost.cells (cost.block running) (cost.list running) old.kept new.io.space new.kept OutOfMemory result fell (λ need largest is. cc);
        short = λ other running told standing rested.
            subst (λ (r : Result (List (List ℕ)) PoolFault). IfErr r (FindsLess cost.cells (cost.block running) (cost.list running) old.kept.body (stepped [] now command running))) (sym fell) (λ need largest is. absurd (cc));
        spares = λ other apart. on_err result spares;
        blocks = λ other apart. blocks_spared here.seen there.seen old.kept new.kept kept spares;
        reclaims = λ one told standing. reclaims_idle held here there old.kept new.kept new.io.space OutOfMemory result fell reads (λ need largest is. cc);
        spared = λ told apart. subst (λ (k : PoolState). SparesReached held here there old.kept k) (sym kept) (spared_still held here there old.kept spares);
        damaged = λ told. subst (λ (r : Result (List (List ℕ)) PoolFault). IfErr r (IsOf Is)) (sym fell) (λ sector stated found is. absurd (cc));
      }

  -- and an event
  pub settles_starved : {T : Type 0} (old new : Pool D g) (result : Result T PoolFault) → result ≡ Err OutOfMemory → old.io.failed ≡ false → Ready (disk_of old.io) old.kept.body → new.kept ≡ old.kept → SameDisk old.io new.io → Settles old new result
  settles_starved {T = T} old new result fell works ready kept disk = record {
    stays = on_err result kept;
    failed_pool = λ is. absurd (cc (is, works));
    idle_disk = λ is. disk.now;
    space = subst (λ (r : Result T PoolFault). OnOk r (new.io.space ≡ free_by new.kept.body)) (sym fell) tt;
    works = subst (λ (r : Result T PoolFault). OnOk r (CanCommit (disk_of new.io) new.io.space new.kept.body)) (sym fell) tt;
    extents = subst (λ (r : Result T PoolFault). OnOk r (HasItsExtents (disk_of old.io) old.kept.body → HasItsExtents (disk_of new.io) new.kept.body)) (sym fell) tt;
    ready = λ told. subst (λ (k : PoolState). Ready (disk_of new.io) k.body) (sym kept) (subst (λ (d : D). Ready (g.state d) old.kept.body) (sym disk.now) ready);
    failed = disk.failed ∙ or_false old.io.failed ∙ ap (λ (b : Bool). old.io.failed || b) (sym (ap is_disk_fault fell));
    told = λ whole. disk.checksum_errors;
    cause = record { later = subst (λ (d : D). (disk_of old.io).faults ≤ (g.state d).faults) (sym disk.now) (omega arith); fault = λ is. absurd (cc (fell, is)) };
    honest = λ told. subst (λ (d : D). (g.state d).honest) disk.now told;
    same = disk.same;
  }

  -- a step of a pool that has failed
  pub step_failed : (now : ℕ) (command : Command) (held : List HeldBlocks) (pool : Pool D g) → pool.io.failed ≡ true → StepDid now command held pool pool (Err Failed)
  step_failed now command held pool failed =
      let here = disk_of pool.io in
      record {
        moments = λ tight running told rested. Leaves-none here (BeforeOrAfter tight running (stepped [] now command running));
        answer = λ tight running told works. absurd (cc (failed, works));
        open_still = λ works. absurd (cc (failed, works));
        spends = λ other works. absurd (cc (failed, works));
        exact = λ other running told works. absurd (cc (failed, works));
        short = λ other running told works. absurd (cc (failed, works));
        spares = λ other apart. spares_read here here pool.kept (OnlyReads-none here);
        blocks = λ other apart ptr bytes has. has;
        reclaims = λ one told works. absurd (cc (failed, works));
        spared = λ told apart. spared_still held here here pool.kept (spares_read here here pool.kept (OnlyReads-none here));
        damaged = λ told sector stated found is. absurd (cc (is));
      }

  -- a call that found nothing out of a pool did nothing, and no disk failed it
  pub looks_idle : {T : Type 0} (pool : Pool D g) (result : Result T PoolFault) → (pool.io.failed ≡ true → result ≡ Err Failed) → is_disk_fault result ≡ false → LooksUp pool pool result
  looks_idle pool result failed_pool never = record {
    failed_pool = failed_pool;
    idle_disk = λ is. refl;
    reads_only = record {
      reads = OnlyReads-none (disk_of pool.io);
      space = refl;
      failed = or_false pool.io.failed ∙ ap (λ (b : Bool). pool.io.failed || b) (sym never);
      told = λ whole. refl;
      cause = record { later = omega arith; fault = λ is. absurd (disk_told (sym never ∙ ap is_disk_fault is)) };
      same = refl;
    };
    kept = refl;
  }
