use Rattle.zst_traverse.proofs.LateObjects.{late_found}
use Rattle.zst_traverse.proofs.dates.next_late.Goals as goal

pub returns-in-Some-clause-late : goal.returns-in-Some-clause-late
returns-in-Some-clause-late g c = λ map honest is.
    late_found map c.args.source c.in-Some.number c.args.from c.args.below c.in-Some.is c.next_after.result (c.next_after.ensures.first map honest is)

pub returns-in-Some-clause-looks : goal.returns-in-Some-clause-looks
returns-in-Some-clause-looks g c = c.next_after.ensures.looks
