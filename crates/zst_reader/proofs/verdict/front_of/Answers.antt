use Rattle.std.proofs.lemmas.List.{length-take-le}
use Rattle.zst_reader.proofs.verdict.front_of.Goals as goal

pub unreachable-requires : goal.unreachable-requires
unreachable-requires c = c.in_default.ensures.1 (length-take-le 312 c.args.held.now c.requires)
