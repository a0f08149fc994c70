use Rattle.std.proofs.Common.{◌≡◌, ◌*◌, take}
use Rattle.zst_gen.specs.Generated.{block_words}
use Rattle.zst_gen.proofs.blocks.fill.Given as goal

-- the words before this place are written
abbrev pub invariant-loop-place : goal.invariant-loop-place
invariant-loop-place l = take (l.place * 4) l.bytes ≡ block_words l.object l.index l.place
