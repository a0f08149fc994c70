use Rattle.byteorder.specs.Endian.{little_bytes}
use Rattle.zst_bytes.specs.Bytes.{number_bytes}
use Rattle.zst_bytes.proofs.Tail.{put-tail}
use Rattle.zst_bytes.proofs.fields.put32.Goals as goal

pub returns : goal.returns
unfolding number_bytes
returns c = put-tail c.args.at 4 c.args.bytes.now (little_bytes 4 c.args.value) c.write_u32.new.buf c.requires c.write_u32.ensures
