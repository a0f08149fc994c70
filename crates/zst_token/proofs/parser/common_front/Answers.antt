use Rattle.std.proofs.Common.{◌≡◌, nat_eq, drop, ap, ◌∙◌, arith}
use Rattle.std.proofs.lemmas.List.{drop_all}
use Rattle.std.specs.List.{common_prefix_len}
use Rattle.zst_token.proofs.Fronts.{common_prefix-none}
use Rattle.zst_token.proofs.parser.common_front.Goals as goal

pub returns-else-place-other-clause-same : goal.returns-else-place-other-clause-same
returns-else-place-other-clause-same c =
    let text = c.args.text.now in
    let other = c.args.other.now in
    let place = c.loop-place.place in
    let none : common_prefix_len nat_eq (drop place text) (drop place other) ≡ 0 =
    ap (common_prefix_len nat_eq (drop place text)) (drop_all place other c.if-place-other.false) ∙ common_prefix-none (drop place text) in
    omega arith
