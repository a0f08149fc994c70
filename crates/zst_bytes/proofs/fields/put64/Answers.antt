use Rattle.byteorder.specs.Endian.{little_bytes}
use Rattle.zst_bytes.specs.Bytes.{number_bytes}
use Rattle.zst_bytes.proofs.Tail.{put-tail}
use Rattle.zst_bytes.proofs.fields.put64.Goals as goal

pub returns : goal.returns
unfolding number_bytes
returns c = put-tail c.args.at 8 c.args.bytes.now (little_bytes 8 c.args.value) c.write_u64.new.buf c.requires c.write_u64.ensures
