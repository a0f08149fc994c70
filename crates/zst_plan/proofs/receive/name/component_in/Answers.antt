use Rattle.std.proofs.Common.{◌∙◌, ◌-◌, length, drop, arith, length-drop}
use Rattle.std.proofs.lemmas.List.{take_all}
use Rattle.zst_plan.proofs.receive.name.component_in.Goals as goal

pub returns : goal.returns
returns c =
    let name = c.args.name.now in
    let behind = c.behind_mark.result in
    take_all (length name - behind) (drop behind name) (omega (arith, length-drop behind name)) ∙ c.behind_mark.ensures.component
