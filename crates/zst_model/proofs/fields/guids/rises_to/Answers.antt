use Rattle.std.proofs.Common.{sym}
use Rattle.zst_model.proofs.RisingGuids.{is_rising-push}
use Rattle.zst_model.proofs.fields.guids.rises_to.Goals as goal

pub returns-in-Some : goal.returns-in-Some
returns-in-Some c =
    let item = c.in-Some.ensures.item in
    sym (is_rising-push c.args.guids.now c.args.guid c.in-Some.last.now c.requires item.3.0 item.1)
