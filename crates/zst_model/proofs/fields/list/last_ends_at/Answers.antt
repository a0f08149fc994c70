use Rattle.std.proofs.Common.{rules, ◌≡◌, [], ◌∷◌, ◌++◌, sym, ap, ◌∙◌}
use Rattle.zst_model.specs.fields.PushedRuns.{last_ends_at}
use Rattle.zst_model.proofs.PushedRuns.{last_of_all}
use Rattle.zst_model.proofs.fields.list.last_ends_at.Goals as goal

pub returns-in-Some : goal.returns-in-Some
returns-in-Some c =
    let whole : c.args.runs.now ≡ c.in-Some.field-0-1.now ++ c.in-Some.last.now ∷ [] = search rules in
    c.ends_at.ensures ∙ sym (ap (λ runs. last_ends_at runs c.args.object c.args.block) whole ∙ last_of_all c.in-Some.field-0-1.now c.in-Some.last.now c.args.object c.args.block)
