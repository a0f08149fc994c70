use Rattle.zst_names.specs.Rest.{IsRest}
use Rattle.zst_names.proofs.Front.{IsAt}
use Rattle.zst_names.proofs.scan.walk.Given as goal

abbrev pub invariant-loop-place : goal.invariant-loop-place
invariant-loop-place l = IsAt l.mark (IsRest l.mark l.fn.start 0) l.text l.position l.place
