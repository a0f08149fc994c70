use Rattle.std.proofs.Common.{◌≡◌, take, false}
use Rattle.std.specs.List.{All}
use Rattle.zst_dir.specs.RowChecks.{has, name_to_be}
use Rattle.zst_dir.proofs.row_checks.components_are_free.Given as goal

abbrev pub invariant-loop-partial : goal.invariant-loop-partial
invariant-loop-partial l = All (λ partial. has l.names (name_to_be partial) ≡ false) (take l.partial-index l.partials)
