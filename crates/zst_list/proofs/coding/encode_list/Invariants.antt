use Rattle.std.proofs.Common.{◌≡◌, take}
use Rattle.zst_list.specs.Spelling.{list_bytes}
use Rattle.zst_list.proofs.coding.encode_list.Given as goal

abbrev pub invariant-loop-place : goal.invariant-loop-place
invariant-loop-place l = l.bytes.items ≡ list_bytes (take l.place l.runs)
