use Rattle.std.proofs.Common.{◌≡◌, ◌+◌, ◌*◌, ◌++◌, All, length}
use Rattle.zst_extents.specs.ExtentReads.{FitsWords}
use Rattle.zst_extents.specs.StoredExtents.{extent_bytes}
use Rattle.zst_extents.proofs.spelling.decode.Given as goal

-- the bytes are those of the extents so far, and what is left
abbrev pub invariant-loop-k : goal.invariant-loop-k
invariant-loop-k l = record {
  spelled : l.bytes ≡ extent_bytes l.extents.items ++ l.rest;
  long : length l.rest + 16 * l.k ≡ 16 * l.count;
  fit : All FitsWords l.extents.items;
}
