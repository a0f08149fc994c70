use Rattle.std.proofs.Common.{sym, arith}
use Rattle.std.proofs.lemmas.Bool.Decides.{nat_tests}
use Rattle.zst_model.proofs.RunLists.{searched, found_has, none_has}
use Rattle.zst_model.proofs.fields.list.List.has.Goals as goal

pub returns-then-run-object : goal.returns-then-run-object
returns-then-run-object c =
    let found = found_has c.args.self.now c.args.object c.args.block c.in-Some.run' (searched _ _ _ _ c.in-Some.ensures.first c.in-Some.ensures.lawful) in
    grind (arith, nat_tests, found)

pub returns-else-run-object : goal.returns-else-run-object
returns-else-run-object c =
    let found = found_has c.args.self.now c.args.object c.args.block c.in-Some.run' (searched _ _ _ _ c.in-Some.ensures.first c.in-Some.ensures.lawful) in
    grind (arith, nat_tests, found)

pub returns-in-None : goal.returns-in-None
returns-in-None c =
    sym (none_has c.args.self.now c.args.object c.args.block (searched c.args.object c.args.block c.args.self.now _ c.in-None.ensures.first c.in-None.ensures.lawful))
