use Rattle.std.proofs.Common.{arith}
use Rattle.zst_script.proofs.ImagePlaces.{put_behind}
use Rattle.zst_script.proofs.pool_lines.put_behind_options.Goals as goal

pub returns : goal.returns
returns c = put_behind c.args.words.items c.insert.new.self.items c.args.image c.max-place.result (omega arith) (omega arith) c.in_ok-insert.ensures.items
