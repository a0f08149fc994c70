use Rattle.std.specs.Prelude.{Result, Ok, Err, IfErr, IfOk, OnOk}
use Rattle.std.proofs.Common.{◌≡◌, ℕ, ◌+◌, List, [], ◌∷◌, true, false, refl, sym, ap, ◌∙◌, subst, arith}
use Rattle.zst_model.specs.pools.AnswerLines.{ok_line}
use Rattle.zst_model.specs.declared.pools.command.Command.{Command}
use Rattle.zst_model.specs.declared.pools.command.Command.TheVariants as commands
use Rattle.zst_model.specs.pools.Step.{commits, stepped}
use Rattle.zst_model.proofs.Results.{err_is}
use Rattle.zst_image.specs.declared.pool_state.PoolState.{PoolState}
use Rattle.zst_block.specs.Blocks.{FitsDisk, Has}
use Rattle.zst_block.specs.IoStates.{disk_of}
use Rattle.zst_outside.specs.Images.{OnlyReads-none}
use Rattle.zst_space.specs.FreeSectors.{FreeSectors}
use Rattle.zst_image.specs.Reads.{RunsBy, bound_of}
use Rattle.zst_pool.specs.Cost.{FindsLess, cost_of}
use Rattle.zst_pool.specs.Damage.{IsOf, TellsDamage}
use Rattle.zst_pool.specs.PartialRows.{rows_after}
use Rattle.zst_pool.specs.Plans.{Plans, indices_end, makes_list, numbers_end}
use Rattle.zst_pool.specs.Queries.{stop_of}
use Rattle.zst_pool.specs.Reclaims.{Reclaims, SparesReached}
use Rattle.zst_pool.specs.StepAnswers.{StepAnswer}
use Rattle.zst_pool.specs.declared.fault.PoolFault.{PoolFault}
use Rattle.zst_pool.specs.declared.fault.PoolFault.TheVariants.{DiskFault, Failed, OutOfMemory}
use Rattle.zst_image.proofs.PlainReads.{RunsBy-plain}
use Rattle.zst_pool.proofs.QuerySteps.{finds_none, on_err, on_ok, rests_read, since_read, spares_read, spends_none, told_rests}
use Rattle.zst_pool.proofs.PartialRows.{rows_stay}
use Rattle.zst_pool.proofs.EventEnds.{carries_settled, settles_committed, settles_err, settles_failed, settles_ok, settles_starved, settles_told, step_failed, step_starved}
use Rattle.zst_pool.proofs.PoolsAtRest.{free_by_fits}
use Rattle.zst_pool.proofs.PlanLemmas.{plans_err, plans_ok}
use Rattle.zst_pool.proofs.Replies.{step_reply}
use Rattle.zst_pool.proofs.StepCosts.{blocks_err, blocks_spared, reclaims_err, reclaims_ok, spared_still, spends_err, spends_ok, spares_err}
use Rattle.zst_uber.specs.declared.uber.Uber.{Uber}
use Rattle.zst_pool.proofs.pool.Pool.step.Goals as goal

pub returns : goal.returns
returns g c =
    let pool = c.args.self.now in
    let held = c.args.held.now in
    let settled = c.keep in
    let keeps = c.in_ok-keep.ensures.keeps in
    let over = c.in_ok-keep.ensures.io in
    let does = carries_settled c.carry_out-ran.new.io settled.new.self.io c.carry_out-ran.result (Ok settled.new.self.kept) over keeps.kept c.carry_out-ran.ensures.does in
    let plans = λ (r : Result PoolState PoolFault). Plans (λ pool. stepped [] c.args.now c.args.command pool) (numbers_end c.args.command) (indices_end c.args.command) (makes_list c.args.command) c.args.self.now.kept r in
    let cost = cost_of c.args.command in
    let commits = sym c.commits.ensures ∙ c.if-not-commits.false in
    let settles = settles_committed pool settled.new.self c.carry_out-ran.new.io c.carry_out-ran.result (Ok 0) c.if-self.false keeps.kept over c.in_ok-space.space c.carry_out-ran.ensures.does.carries.commits tt in
    record {
      did = record {
        moments = does.carries.moments;
        answer = λ tight running told standing rested stand.
            let answer = does.carries.answer tight running told rested stand in
            let is = step_reply c.args.now c.args.command running answer.0 commits answer.1 in
            let number : c.saturating_add.result ≡ running.number + 1 = omega (arith, is.below, rested.rests.reads.described.number, ap (λ (u : Uber). u.number) c.uber.ensures, c.saturating_add.ensures) in
            (answer.0, answer.1, c.in_ok-reply.ensures ∙ ap (λ (n : ℕ). ok_line n ∷ []) number ∙ sym is.line, answer.2);
        open_still = λ standing is. cc (is);
        spends = λ other standing.
            let ran = does.ran other in
            let spends = ran.spends in
            (spends.0, spends.1, spends_ok cost.cells spends.0 cost.most_list pool.kept settled.new.self.io.space settled.new.self.kept c.in_ok-reply.reply spends.2);
        exact = λ other running told standing rested.
            let ran = does.ran other in
            spends_ok cost.cells (cost.block running) (cost.list running) pool.kept settled.new.self.io.space settled.new.self.kept c.in_ok-reply.reply (ran.exact running told rested);
        short = λ other running told standing rested. tt;
        spares = λ other apart. tt;
        blocks = λ other apart. let ran = does.ran other in ran.blocks;
        reclaims = λ one told standing.
            reclaims_ok held (g.D.Disk.state pool.io.disk.now) (g.D.Disk.state settled.new.self.io.disk.now) pool.kept settled.new.self.kept settled.new.self.io.space settled.new.self.kept c.in_ok-reply.reply (does.reclaims one told);
        spared = λ told apart. does.carries.spared told (λ is. cc (is));
        damaged = λ told. tt;
      };
      planned = λ standing left. plans_ok (stepped [] c.args.now c.args.command) (numbers_end c.args.command) (indices_end c.args.command) (makes_list c.args.command) pool.kept settled.new.self.kept c.in_ok-reply.reply (subst plans (sym keeps.kept) c.carry_out-ran.ensures.does.carries.plans);
      sound = λ running done rested sound made. c.steps_keep_sound.ensures [] c.args.now c.args.command running done c.requires.command rested.lawful sound made;
      only_answers = λ idle. absurd (cc (commits, idle));
      room = λ need largest is. commits;
      partials = subst (λ (r : Result PoolState PoolFault). IfOk r (λ next. next.dir.partials ≡ rows_after c.args.command pool.kept.dir.partials)) (sym keeps.kept) c.carry_out-ran.ensures.does.carries.partials;
      settles = settles_ok pool settled.new.self 0 c.in_ok-reply.reply settles;
    }

-- where it was refused
pub returns-in_err-keep : goal.returns-in_err-keep
returns-in_err-keep g c =
    let pool = c.args.self.now in
    let held = c.args.held.now in
    let settled = c.keep in
    let keeps = c.in_err-keep.ensures.keeps in
    let over = c.in_err-keep.ensures.io in
    let fault = c.in_err-keep.field-0.0 in
    let does = carries_settled c.carry_out-ran.new.io settled.new.self.io c.carry_out-ran.result (Err fault) over keeps.kept c.carry_out-ran.ensures.does in
    let plans = λ (r : Result PoolState PoolFault). Plans (λ pool. stepped [] c.args.now c.args.command pool) (numbers_end c.args.command) (indices_end c.args.command) (makes_list c.args.command) c.args.self.now.kept r in
    let cost = cost_of c.args.command in
    let commits = sym c.commits.ensures ∙ c.if-not-commits.false in
    let fell = c.from_residual-in_err-keep in
    let same = err_is fell.result fault fell.ensures.1 in
    let here = g.D.Disk.state settled.new.self.io.disk.now in
    let before = g.D.Disk.state pool.io.disk.now in
    let Is = TellsDamage c.args.command held pool.kept.body pool.kept.dir before in
    let settles = settles_committed pool settled.new.self c.carry_out-ran.new.io c.carry_out-ran.result (Err fault) c.if-self.false keeps.kept over c.in_ok-space.space c.carry_out-ran.ensures.does.carries.commits keeps.stays in
    record {
      did = record {
        moments = does.carries.moments;
        answer = λ tight running told standing rested stand.
            subst (λ (k : PoolState). StepAnswer tight here k running (stepped [] c.args.now c.args.command running) fell.result) (sym keeps.stays)
            (subst (StepAnswer tight here pool.kept running (stepped [] c.args.now c.args.command running)) (sym same) (does.carries.answer tight running told rested stand));
        open_still = λ standing is. let failed : fault ≡ Failed = cc (same, is) in does.carries.open_still (ap (λ (f : PoolFault). Err f) failed);
        spends = λ other standing.
            let ran = does.ran other in
            let spends = ran.spends in
            (spends.0, spends.1, spends_err cost.cells spends.0 cost.most_list pool.kept settled.new.self.io.space settled.new.self.kept fault fell.result same spends.2);
        exact = λ other running told standing rested.
            let ran = does.ran other in
            spends_err cost.cells (cost.block running) (cost.list running) pool.kept settled.new.self.io.space settled.new.self.kept fault fell.result same (ran.exact running told rested);
        short = λ other running told standing rested.
            let ran = does.ran other in
            subst (λ (r : Result (List (List ℕ)) PoolFault). IfErr r (FindsLess cost.cells (cost.block running) (cost.list running) pool.kept.body (stepped [] c.args.now c.args.command running))) (sym same) (ran.short running told rested);
        spares = λ other. let ran = does.ran other in spares_err _ fault fell.result same ran.spares;
        blocks = λ other. let ran = does.ran other in blocks_err before.seen here.seen pool.kept settled.new.self.kept fault fell.result same keeps.stays ran.spares;
        reclaims = λ one told standing.
            subst (λ (k : PoolState). Reclaims held before here pool.kept k settled.new.self.io.space fell.result) (sym keeps.stays)
            (reclaims_err held before here pool.kept pool.kept settled.new.self.io.space fault fell.result same (does.reclaims one told));
        spared = λ told apart.
            subst (λ (k : PoolState). SparesReached held before here pool.kept k) (sym keeps.stays)
            (does.carries.spared told (λ is. let disk : fault ≡ DiskFault = cc in apart (same ∙ ap (λ (f : PoolFault). Err f) disk)));
        damaged = λ told. subst (λ (r : Result (List (List ℕ)) PoolFault). IfErr r (IsOf Is)) (sym same) (does.carries.damaged told);
      };
      planned = λ standing none. plans_err (stepped [] c.args.now c.args.command) (numbers_end c.args.command) (indices_end c.args.command) (makes_list c.args.command) pool.kept fault same (subst plans (sym keeps.kept) c.carry_out-ran.ensures.does.carries.plans);
      sound = λ running done rested sound made. c.steps_keep_sound.ensures [] c.args.now c.args.command running done c.requires.command rested.lawful sound made;
      only_answers = λ idle. absurd (cc (commits, idle));
      room = λ need largest is. commits;
      partials = subst (λ (r : Result (List (List ℕ)) PoolFault). OnOk r (settled.new.self.kept.dir.partials ≡ rows_after c.args.command pool.kept.dir.partials)) (sym same) tt;
      settles = settles_err pool settled.new.self fault fell.result same settles;
    }

-- where no memory was left for the free extents, or for its reply
pub returns-in_err-space : goal.returns-in_err-space
returns-in_err-space g c =
    let pool = c.args.self.now in
    let fell = c.from_residual in
    let same = err_is fell.result OutOfMemory fell.ensures.1 in
    let reads = OnlyReads-none (g.D.Disk.state pool.io.disk.now) in
    record {
      did = step_starved c.args.now c.args.command c.args.held.now pool pool fell.result same refl reads;
      planned = λ standing left. absurd (left same);
      sound = λ running done rested sound made. c.steps_keep_sound.ensures [] c.args.now c.args.command running done c.requires.command rested.lawful sound made;
      only_answers = λ idle. record { reads = reads; kept = refl };
      room = λ need largest is. absurd (cc (same, is));
      partials = subst (λ (r : Result (List (List ℕ)) PoolFault). OnOk r (pool.kept.dir.partials ≡ rows_after c.args.command pool.kept.dir.partials)) (sym same) tt;
      settles = settles_starved pool pool fell.result same c.if-self.false (c.requires.ready c.if-self.false) refl (record { now = refl; failed = refl; checksum_errors = refl; same = refl });
    }

pub returns-in_err-reply : goal.returns-in_err-reply
returns-in_err-reply g c =
    let pool = c.args.self.now in
    let commits = sym c.commits.ensures ∙ c.if-not-commits.false in
    let fell = c.from_residual-in_err-reply in
    let same = err_is fell.result OutOfMemory fell.ensures.1 in
    let reads = OnlyReads-none (g.D.Disk.state pool.io.disk.now) in
    record {
      did = step_starved c.args.now c.args.command c.args.held.now pool _ fell.result same refl reads;
      planned = λ standing left. absurd (left same);
      sound = λ running done rested sound made. c.steps_keep_sound.ensures [] c.args.now c.args.command running done c.requires.command rested.lawful sound made;
      only_answers = λ idle. absurd (cc (commits, idle));
      room = λ need largest is. commits;
      partials = subst (λ (r : Result (List (List ℕ)) PoolFault). OnOk r (pool.kept.dir.partials ≡ rows_after c.args.command pool.kept.dir.partials)) (sym same) tt;
      settles = settles_starved pool _ fell.result same c.if-self.false (c.requires.ready c.if-self.false) refl (record { now = refl; failed = refl; checksum_errors = refl; same = refl });
    }

-- where it isn't run
pub returns-then-self : goal.returns-then-self
returns-then-self g c =
    let pool = c.args.self.now in
    let here = g.D.Disk.state pool.io.disk.now in
    let reads = OnlyReads-none here in
    record {
      did = step_failed c.args.now c.args.command c.args.held.now pool c.if-self.true;
      planned = λ standing. absurd (cc (standing, c.if-self.true));
      sound = λ running done rested sound made. c.steps_keep_sound.ensures [] c.args.now c.args.command running done c.requires.command rested.lawful sound made;
      only_answers = λ idle. record { reads = reads; kept = refl };
      room = λ need largest is. absurd (cc is);
      partials = tt;
      settles = settles_failed pool c.if-self.true;
    }

-- a reclaim commits
never_told : (command : Command) → commits command ≡ false → command ≡ commands.Reclaim → ⊥
never_told command idle one = let both : true ≡ false = sym (ap commits one) ∙ idle in cc both

-- where it only answers
pub returns-then-not-commits : goal.returns-then-not-commits
returns-then-not-commits g c =
    let pool = c.args.self.now in
    let is = (c.tell.ensures.does c.args.now c.args.held.now).tells in
    let free = c.in_ok-space.ensures in
    let looks = is.looks in
    let cost = cost_of c.args.command in
    let old = g.D.Disk.state pool.io.disk.now in
    let new = g.D.Disk.state c.tell.new.io.disk.now in
    let result = c.tell.result in
    record {
      did = record {
        moments = λ tight running told rested. since_read old new pool.kept looks.reads running rested (stepped [] c.args.now c.args.command running);
        answer = λ tight running told standing rested stand.
            told_rests new pool.kept running (stepped [] c.args.now c.args.command running) result (rests_read old new pool.kept looks.reads running rested)
            (is.told running told (RunsBy-plain _ pool.kept.dir running (subst (λ (space : FreeSectors). RunsBy (bound_of tight running.number) (Has old.seen space) pool.kept.dir running) (sym free) rested.runs_by)));
        open_still = λ standing. is.open_still;
        spends = λ other standing. (0, omega arith, spends_none cost.cells 0 cost.most_list pool.kept c.tell.new.io.space result looks.never_full);
        exact = λ other running told standing rested. spends_none cost.cells (cost.block running) (cost.list running) pool.kept c.tell.new.io.space result looks.never_full;
        short = λ other running told standing rested. finds_none cost.cells (cost.block running) (cost.list running) pool.kept.body (stepped [] c.args.now c.args.command running) result looks.never_full;
        spares = λ other apart. on_err result (spares_read old new pool.kept looks.reads);
        blocks = λ other apart. blocks_spared old.seen new.seen pool.kept pool.kept refl (spares_read old new pool.kept looks.reads);
        reclaims = λ one told standing. absurd (never_told c.args.command (sym c.commits.ensures ∙ c.if-not-commits.true) one);
        spared = λ told apart. spared_still c.args.held.now old new pool.kept (spares_read old new pool.kept looks.reads);
        damaged = is.damaged;
      };
      planned = λ standing left. (c.tell.ensures.does c.args.now c.args.held.now).plans;
      sound = λ running done rested sound made. c.steps_keep_sound.ensures [] c.args.now c.args.command running done c.requires.command rested.lawful sound made;
      only_answers = λ idle. record { reads = looks.reads; kept = refl };
      room = λ need largest is. absurd (looks.never_full need largest (ap (λ (r : Result (List (List ℕ)) PoolFault). stop_of r) is));
      partials = on_ok result (sym (rows_stay c.args.command pool.kept.dir.partials (sym c.commits.ensures ∙ c.if-not-commits.true)));
      settles = settles_told pool c.tell.new.io result c.if-self.false c.in_ok-space.space free looks (c.requires.ready c.if-self.false);
    }

-- an event begins with all that is free by the body, which fits the disk
pub invariant_of-self : goal.invariant_of-self
invariant_of-self g c =
    let io = c.args.self.now.io in
    let disk = disk_of io in
    record {
      fits = subst (FitsDisk disk.size) (sym c.in_ok-space.ensures) (free_by_fits disk c.args.self.now.kept.body (c.requires.ready c.if-self.false));
      told = io.told;
      behind = io.behind;
    }
