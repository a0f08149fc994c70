use Rattle.zst_model.specs.refusals.Texts.{sums_text}
use Rattle.zst_model.proofs.SpacedTexts.{appended}
use Rattle.zst_model.proofs.refusals.text.push_sums.Goals as goal

pub returns-clause-bytes : goal.returns-clause-bytes
unfolding sums_text
returns-clause-bytes c =
    appended _ _ _ _ _ _ _ _ _ _ _ _
    c.push_number.ensures.bytes c.push_str.ensures.bytes c.push_number-2.ensures.bytes c.push_str-2.ensures.bytes
    c.push_number-3.ensures.bytes c.push_str-3.ensures.bytes c.push_number-4.ensures.bytes
