use Rattle.std.proofs.Common.{◌∙◌, ℕ, List, is_some, sym, ap, subst}
use Rattle.std.proofs.lemmas.Bool.{true≢false}
use Rattle.zst_model.specs.fields.Guids.{IsGuidSet}
use Rattle.zst_pool.proofs.RedactionGuids.{guids_lawful}
use Rattle.zst_pool.proofs.redactions.guid_set.Goals as goal

pub returns-clause-set : goal.returns-clause-set
returns-clause-set c = c.in-Some.ensures.found ∙ c.as_slice.ensures.value ∙ c.in_ok-guids.ensures

pub returns-clause-lawful : goal.returns-clause-lawful
returns-clause-lawful c =
    subst (λ (guids : List ℕ). IsGuidSet guids) (sym (c.in-Some.ensures.found ∙ c.as_slice.ensures.value ∙ c.in_ok-guids.ensures)) (guids_lawful c.args.rows.now c.requires.few c.requires.rows)

pub unreachable-requires : goal.unreachable-requires
unreachable-requires c =
    let lawful = subst (λ (guids : List ℕ). IsGuidSet guids) (sym (c.as_slice.ensures.value ∙ c.in_ok-guids.ensures)) (guids_lawful c.args.rows.now c.requires.few c.requires.rows) in
    true≢false (sym (c.from_slice.ensures.exact.1 lawful) ∙ ap is_some c.in-None.is)
