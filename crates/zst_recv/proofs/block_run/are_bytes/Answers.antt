use Rattle.std.proofs.Common.{◌^◌, ◌<◌}
use Rattle.std.proofs.lemmas.List.Elements.{All-from_get_or}
use Rattle.zst_recv.proofs.block_run.are_bytes.Goals as goal

pub returns : goal.returns
returns c = All-from_get_or (λ byte. byte < 2 ^ 8) c.args.bytes.now 0 (λ k within. (c.type_inv.bytes k).fits)
