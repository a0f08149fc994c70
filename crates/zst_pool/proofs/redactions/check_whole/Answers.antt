use Rattle.std.proofs.Common.{◌∙◌, sym, ap}
use Rattle.zst_model.specs.pools.Step.{relayed}
use Rattle.zst_model.specs.states.AppliedItems.{unless}
use Rattle.zst_pool.proofs.redactions.check_whole.Goals as goal

pub returns-then-has_guids-clause-judged : goal.returns-then-has_guids-clause-judged
returns-then-has_guids-clause-judged c = λ rest. ap (λ b. unless b relayed rest) (sym c.has_guids.ensures ∙ c.if-has_guids.true)

pub returns-clause-judged : goal.returns-clause-judged
returns-clause-judged c = λ rest. ap (λ b. unless b relayed rest) (sym c.has_guids.ensures ∙ c.if-has_guids.false)
