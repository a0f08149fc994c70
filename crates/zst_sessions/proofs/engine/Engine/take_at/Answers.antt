-- A take of bytes of a send, on the pool that it is of.
use Rattle.std.proofs.Common.{◌≡◌, ℕ, Err, sym, ap, ◌∙◌, subst}
use Rattle.std.specs.Prelude.{Result}
use Rattle.std.proofs.lemmas.Result.{err_from_is_err_and}
use Rattle.zst_model.specs.declared.refusals.refusal.Refusal.{Refusal}
use Rattle.zst_pool.specs.declared.fault.PoolFault.{PoolFault}
use Rattle.zst_sessions.proofs.EngineTakes.{took_here, took_there}
use Rattle.zst_sessions.proofs.PoolRefusals.{refused}
use Rattle.zst_sessions.specs.Takes.{TakesAt}
use Rattle.zst_sessions.specs.declared.engine.Engine.{Engine}
use Rattle.zst_sessions.proofs.engine.Engine.take_at.Given.{Over}
use Rattle.zst_sessions.proofs.engine.Engine.take_at.Goals.{in-Here, in-There, After-branch-taken}
use Rattle.zst_sessions.proofs.engine.Engine.take_at.Goals as goal

-- whatever it answers
took : (g : Over) (c : After-branch-taken g) → TakesAt c.args.place c.args.count c.args.self.now c.match-open.self (refused c.match-open.taken)
took g c = elim c.match-open.branch [
  | in-Here w ↦ (
      let call = w.take_from-taken in
      subst (λ (r : Result ℕ PoolFault). TakesAt c.args.place c.args.count c.args.self.now c.match-open.self (refused r)) (sym w.taken-is)
      (subst (λ (e : Engine g.row.D.Denot g.row.E.Denot g.D.Disk g.E.Disk). TakesAt c.args.place c.args.count c.args.self.now e (refused call.result)) (sym w.self-is)
      (took_here c.args.self.now c.args.place c.args.count c.index_mut-open.result.now call.new.send call.new.room call.result (sym c.index_mut-open.ensures.value) c.requires.count
      (call.auto.room ∙ w.as_mut_slice.ensures.len) c.requires.fits call.new.pool w.in-Here.is
      (record { takes = call.ensures.takes; idle = call.ensures.idle; within = call.ensures.within; send = call.ensures.send; pool = call.ensures.pool })))
      )
  | in-There w ↦ (
      let call = w.take_from-taken-in-There in
      subst (λ (r : Result ℕ PoolFault). TakesAt c.args.place c.args.count c.args.self.now c.match-open.self (refused r)) (sym w.taken-is)
      (subst (λ (e : Engine g.row.D.Denot g.row.E.Denot g.D.Disk g.E.Disk). TakesAt c.args.place c.args.count c.args.self.now e (refused call.result)) (sym w.self-is)
      (took_there c.args.self.now c.args.place c.args.count c.index_mut-open.result.now call.new.send call.new.room call.result (sym c.index_mut-open.ensures.value) c.requires.count
      (call.auto.room ∙ w.as_mut_slice-in-There.ensures.len) c.requires.fits call.new.pool w.in-There.is
      (record { takes = call.ensures.takes; idle = call.ensures.idle; within = call.ensures.within; send = call.ensures.send; pool = call.ensures.pool })))
      )
]

pub returns-in_err-taken : goal.returns-in_err-taken
returns-in_err-taken g c =
    let p = err_from_is_err_and c.from_residual.result c.from_residual.ensures.1 in
    let answer : refused c.match-open.taken ≡ c.from_residual.result = ap refused c.in_err-taken.was ∙ sym (p.1 ∙ ap (λ (r : Refusal). Err r) p.2) in
    subst (λ (r : Result ℕ Refusal). TakesAt c.args.place c.args.count c.args.self.now c.match-open.self r) answer (took g (goal.at.returns-in_err-taken g c).After-branch-taken)

pub returns : goal.returns
returns g c =
    subst (λ (r : Result ℕ PoolFault). TakesAt c.args.place c.args.count c.args.self.now c.match-open.self (refused r)) c.in_ok-taken.was (took g (goal.at.returns g c).After-branch-taken)
