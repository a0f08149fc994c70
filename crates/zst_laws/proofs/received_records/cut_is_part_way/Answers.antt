use Rattle.zst_laws.proofs.sends.ReceivedRecords.{begun_part_way, cut_part_way}
use Rattle.zst_laws.proofs.received_records.cut_is_part_way.Goals as goal

pub returns : goal.returns
returns c = record { begun = begun_part_way; cut = cut_part_way }
