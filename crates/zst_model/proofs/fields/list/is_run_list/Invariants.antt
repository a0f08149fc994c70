use Rattle.std.proofs.Common.{◌≡◌, ◌∷◌, drop}
use Rattle.zst_model.specs.fields.Lists.{is_run_list}
use Rattle.zst_model.proofs.fields.list.is_run_list.Given as goal

abbrev pub invariant-loop-run : goal.invariant-loop-run
invariant-loop-run l = is_run_list l.runs ≡ is_run_list (l.last ∷ drop l.run-index l.rest)
