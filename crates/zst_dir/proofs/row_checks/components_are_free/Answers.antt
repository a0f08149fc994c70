use Rattle.std.proofs.Common.{◌≡◌, false, subst, arith}
use Rattle.std.proofs.lemmas.List.Elements.{All-more}
use Rattle.zst_dir.specs.RowChecks.{has, name_to_be}
use Rattle.zst_dir.specs.declared.rows.Partial.{Partial}
use Rattle.zst_dir.proofs.row_checks.components_are_free.Goals as goal

pub loop-partial-preserved : goal.loop-partial-preserved
loop-partial-preserved c =
    let IsFree : Partial → Type 0 = λ partial. has c.args.names.now (name_to_be partial) ≡ false in
    let here = subst IsFree c.partial-item.is (c.is_free.ensures.0 c.if-not-is_free.false) in
    All-more IsFree c.args.partials.now c.loop-partial.partial-index c.partial-item.result (omega arith) c.loop-partial.invariant here
