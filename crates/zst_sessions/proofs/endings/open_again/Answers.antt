use Rattle.std.proofs.Common.{◌≡◌, ℕ, Ok, Err, sym, ap, ◌∙◌, subst}
use Rattle.std.specs.Prelude.{Result}
use Rattle.std.proofs.lemmas.Result.{err_from_is_err_and}
use Rattle.zst_uber.specs.declared.uber.Uber.{Uber}
use Rattle.zst_image.specs.declared.open_fault.OpenFault.{OpenFault}
use Rattle.zst_model.specs.declared.refusals.refusal.Refusal.{Refusal}
use Rattle.zst_sessions.proofs.PoolOpenings.{opened_again, told}
use Rattle.zst_sessions.specs.Endings.{OpensAgain}
use Rattle.zst_sessions.specs.EngineSteps.{kept_pool}
use Rattle.zst_sessions.proofs.endings.open_again.Goals as goal

pub returns-in_err-reopen-clause-opens : goal.returns-in_err-reopen-clause-opens
returns-in_err-reopen-clause-opens g c =
    let drop = c.drop_unkept in
    let opened = c.reopen in
    let p = err_from_is_err_and c.from_residual.result c.from_residual.ensures.1 in
    let answer : told opened.new.self.kept opened.result ≡ c.from_residual.result = ap (told opened.new.self.kept) c.in_err-reopen.was ∙ sym (p.1 ∙ ap (λ (r : Refusal). Err r) p.2) in
    subst (λ (r : Result ℕ Refusal). OpensAgain (kept_pool c.args.pool.now) (kept_pool opened.new.self) r) answer
    (opened_again c.args.pool.now drop.new.self opened.new.self drop.ensures.rests drop.ensures.rows drop.ensures.io c.requires.ready c.root_has_one_set_of_extents.ensures opened.result opened.ensures.opens opened.ensures.rests opened.ensures.reopens)

pub returns-clause-opens : goal.returns-clause-opens
returns-clause-opens g c =
    let drop = c.drop_unkept in
    let opened = c.reopen in
    subst (λ (u : Uber). OpensAgain (kept_pool c.args.pool.now) (kept_pool opened.new.self) (Ok u.number)) (sym c.uber.ensures)
    (subst (λ (r : Result (Unit {0}) OpenFault). OpensAgain (kept_pool c.args.pool.now) (kept_pool opened.new.self) (told opened.new.self.kept r)) c.in_ok-reopen.was
    (opened_again c.args.pool.now drop.new.self opened.new.self drop.ensures.rests drop.ensures.rows drop.ensures.io c.requires.ready c.root_has_one_set_of_extents.ensures opened.result opened.ensures.opens opened.ensures.rests opened.ensures.reopens))
