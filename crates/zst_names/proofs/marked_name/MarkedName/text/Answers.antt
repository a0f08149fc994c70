use Rattle.std.proofs.Common.{subst, Some}
use Rattle.zst_names.specs.Names.{IsName}
use Rattle.zst_names.proofs.MarkedNames.{joined}
use Rattle.zst_names.proofs.marked_name.MarkedName.text.Goals as goal

pub returns-clause-parts : goal.returns-clause-parts
returns-clause-parts g c = let name : IsName (Some g.M.Mark.byte) c.args.self.now = subst (IsName (Some g.M.Mark.byte)) c.self.view_is c.self.invariant in joined g.M.Mark.byte c.args.self.now name.1
