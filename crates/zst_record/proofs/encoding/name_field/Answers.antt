use Rattle.std.proofs.Common.{◌∙◌, ap}
use Rattle.zst_record.specs.Table.{padded}
use Rattle.zst_record.proofs.PaddedTexts.{written-padded}
use Rattle.zst_record.proofs.encoding.name_field.Goals as goal

pub returns : goal.returns
returns c = c.put_bytes.ensures ∙ written-padded 256 c.as_bytes.result.now ∙ ap (padded 256) c.as_bytes.ensures.same
