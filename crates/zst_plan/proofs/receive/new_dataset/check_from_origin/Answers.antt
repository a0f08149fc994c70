use Rattle.std.proofs.Common.{◌≡◌, ◌∙◌, false, if◌then◌else◌, sym, ap, subst}
use Rattle.zst_plan.specs.Places.{Judges}
use Rattle.zst_plan.specs.RecvPlan.{if_source, is_full}
use Rattle.zst_plan.proofs.receive.new_dataset.check_from_origin.Goals as goal

pub returns : goal.returns
returns c = λ snapshot rest names.
    let header = c.args.header.now in
    let own : is_full header ≡ false = sym c.is_full.ensures ∙ c.if-is_full.false in
    subst (λ d. Judges d rest c.check_source.result)
    (ap (λ guid. if_source guid header rest) (sym names.guid) ∙ sym (ap (λ full. if full then rest else if_source snapshot.guid header rest) own))
    (c.check_source.ensures rest)
