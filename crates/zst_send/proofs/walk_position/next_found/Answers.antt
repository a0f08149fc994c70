use Rattle.std.proofs.Common.{◌≡◌, ap, arith, sym, ◌∙◌}
use Rattle.std.specs.Prelude.{false, if◌then◌else◌}
use Rattle.zst_send.specs.Costs.{ended, is_ended}
use Rattle.zst_send.proofs.walk_position.next_found.Goals as goal

pub returns-clause-few : goal.returns-clause-few
returns-clause-few g c = λ snap honest tight.
    let first : is_ended c.args.position.now ≡ false = sym c.is_ended.ensures ∙ c.if-is_ended.false in
    let before : ended c.args.position.now ≡ 0 = ap (λ t. if t then 1 else 0) first in
    omega (arith, before, c.counted.ensures.few snap honest tight)

pub returns-clause-finds : goal.returns-clause-finds
returns-clause-finds g c = c.counted.ensures.finds
