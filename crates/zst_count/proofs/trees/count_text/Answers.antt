use Rattle.std.proofs.Common.{refl}
use Rattle.std.specs.Prelude.{Some}
use Rattle.zst_count.proofs.MetLaws.{AreMet-flat, AreRead-flat}
use Rattle.zst_count.proofs.StandingTexts.{HasLeaves-data}
use Rattle.zst_count.proofs.trees.count_text.Goals as goal

pub returns-clause-all : goal.returns-clause-all
returns-clause-all g c = λ honest. c.count_below.ensures.all honest (AreMet-flat _ c.args.met.now.end _ 0 c.hole.result (rw c.hole.ensures refl))

pub returns-clause-read : goal.returns-clause-read
returns-clause-read g c = λ honest. c.count_below.ensures.read honest (AreRead-flat _ (Some 8192) 0 c.hole.result (rw c.hole.ensures refl))

pub returns-clause-there : goal.returns-clause-there
returns-clause-there g c = λ text honest has. c.count_below.ensures.stands honest (HasLeaves-data _ _ c.args.levels c.args.root text has)
