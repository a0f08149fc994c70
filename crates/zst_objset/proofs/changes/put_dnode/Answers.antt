use Rattle.std.proofs.Common.{Result, subst, sym}
use Rattle.zst_block.specs.IoStates.{blocks_of}
use Rattle.zst_model.specs.declared.refusals.refusal.Refusal.{Refusal}
use Rattle.zst_model.specs.states.DatedState.{DatedState}
use Rattle.zst_objset.specs.Answers.{Changes}
use Rattle.zst_objset.specs.Sets.{SetHolds}
use Rattle.zst_objset.specs.TightSets.{SetIsTight}
use Rattle.zst_objset.proofs.ChangePuts.{changed_to, makes_dnode}
use Rattle.zst_objset.proofs.TightLaws.{change_rises, change_tight}
use Rattle.zst_objset.proofs.changes.put_dnode.Goals as goal

pub returns-clause-puts : goal.returns-clause-puts
returns-clause-puts g c = c.put_there.ensures.puts

pub returns-clause-changed : goal.returns-clause-changed
returns-clause-changed g c = λ number change state honest holds makes.
    let does = makes_dnode (blocks_of c.args.io.now) number c.args.object change state c.args.dnode holds.lawful holds.bounded c.applied_is_state.ensures makes in
    subst (λ (definition : Result DatedState Refusal). Changes (SetHolds (blocks_of c.put_there.new.io) c.put_there.new.set) definition c.put_there.result) (sym does.0)
    (c.put_there.ensures.changed state (changed_to number c.args.object change state makes.object) honest holds does.1)

pub returns-clause-tight : goal.returns-clause-tight
returns-clause-tight g c = λ number change state honest tight dated makes dnode_tight.
    let does = makes_dnode (blocks_of c.args.io.now) number c.args.object change state c.args.dnode tight.holds.lawful tight.holds.bounded c.applied_is_state.ensures makes in
    subst (λ (definition : Result DatedState Refusal). Changes (SetIsTight (blocks_of c.put_there.new.io) c.put_there.new.set) definition c.put_there.result) (sym does.0)
    (c.put_there.ensures.tight state (changed_to number c.args.object change state makes.object) honest tight does.1 (change_tight number c.args.object change state makes.object c.args.dnode dnode_tight)
    (change_rises number c.args.object change state makes.object dated))

pub put_there-requires-clause-object : goal.put_there-requires-clause-object
put_there-requires-clause-object g c = c.requires.object

pub put_there-requires-clause-dnode : goal.put_there-requires-clause-dnode
put_there-requires-clause-dnode g c = c.requires.dnode
