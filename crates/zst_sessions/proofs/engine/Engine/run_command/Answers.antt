use Rattle.std.proofs.Common.{List, sym, subst}
use Rattle.zst_block.specs.IoStates.{disk_of}
use Rattle.zst_pool.specs.Reclaims.{HeldStand}
use Rattle.zst_sessions.proofs.SteppedWorlds.{Laws, step_here, step_there}
use Rattle.zst_sessions.specs.CommandSteps.{GivesUp}
use Rattle.zst_sessions.specs.EngineSteps.{KeepsHeld, held_blocks, kept_pool}
use Rattle.zst_sessions.specs.FullPools.{StepIsShort}
use Rattle.zst_sessions.specs.declared.open_sessions.OpenSend.{OpenSend}
use Rattle.zst_sessions.proofs.engine.Engine.run_command.Goals as goal

pub returns-in-Here : goal.returns-in-Here
returns-in-Here g c =
    let old = c.args.self.now in
    let did = c.step_unless_busy in
    let same = c.as_slice-sends.ensures.value in
    let beside = c.sessions_stand_beside.ensures in
    let outlast = c.sessions_outlast_reclaims.ensures in
    let laws : Laws = record {
      sends = beside.sends;
      sends_outlast = outlast.sends;
      stand = outlast.stand;
      receives = beside.receives;
      receives_outlast = outlast.receives;
      fit = beside.fit;
      worlds = c.moves_keep_worlds.ensures;
      numbers = c.numbers_rise.ensures;
    } in
    step_here laws old c.args.command c.holder_of-holder.result did.result c.lines.result c.lines.ensures c.requires.fits c.args.side c.in-Here.is did.new.pool
    c.holder_of-holder.ensures.busy c.holder_of-holder.ensures.claimed
    (λ held opened honest tells stands stand.
    did.ensures.steps held opened honest tells stands
    (λ works. subst (λ (all : List OpenSend). HeldStand (disk_of old.here.io) old.here.kept.body (held_blocks c.args.side all)) (sym same) (stand works)))
    (subst (λ (all : List OpenSend). KeepsHeld (GivesUp c.holder_of-holder.result c.args.command old.here.kept.dir) (held_blocks c.args.side all) (kept_pool {g = g.D.Disk} old.here) (kept_pool {g = g.D.Disk} did.new.pool))
    same did.ensures.held)
    did.ensures.keeps did.ensures.later did.ensures.cause did.ensures.open_still did.ensures.works
    (λ need largest is.
    subst (λ (all : List OpenSend). StepIsShort c.args.command (held_blocks c.args.side all) (kept_pool {g = g.D.Disk} old.here) (kept_pool {g = g.D.Disk} did.new.pool) did.new.pool.io.space need largest)
    same (did.ensures.full need largest is))

pub returns-in-There : goal.returns-in-There
returns-in-There g c =
    let old = c.args.self.now in
    let did = c.step_unless_busy-in-There in
    let same = c.as_slice-sends-in-There.ensures.value in
    let beside = c.sessions_stand_beside.ensures in
    let outlast = c.sessions_outlast_reclaims.ensures in
    let laws : Laws = record {
      sends = beside.sends;
      sends_outlast = outlast.sends;
      stand = outlast.stand;
      receives = beside.receives;
      receives_outlast = outlast.receives;
      fit = beside.fit;
      worlds = c.moves_keep_worlds.ensures;
      numbers = c.numbers_rise.ensures;
    } in
    step_there laws old c.args.command c.holder_of-holder.result did.result c.lines-in-There.result c.lines-in-There.ensures c.requires.fits c.args.side c.in-There.is did.new.pool
    c.holder_of-holder.ensures.busy c.holder_of-holder.ensures.claimed
    (λ held opened honest tells stands stand.
    did.ensures.steps held opened honest tells stands
    (λ works. subst (λ (all : List OpenSend). HeldStand (disk_of old.there.io) old.there.kept.body (held_blocks c.args.side all)) (sym same) (stand works)))
    (subst (λ (all : List OpenSend). KeepsHeld (GivesUp c.holder_of-holder.result c.args.command old.there.kept.dir) (held_blocks c.args.side all) (kept_pool {g = g.E.Disk} old.there) (kept_pool {g = g.E.Disk} did.new.pool))
    same did.ensures.held)
    did.ensures.keeps did.ensures.later did.ensures.cause did.ensures.open_still did.ensures.works
    (λ need largest is.
    subst (λ (all : List OpenSend). StepIsShort c.args.command (held_blocks c.args.side all) (kept_pool {g = g.E.Disk} old.there) (kept_pool {g = g.E.Disk} did.new.pool) did.new.pool.io.space need largest)
    same (did.ensures.full need largest is))
