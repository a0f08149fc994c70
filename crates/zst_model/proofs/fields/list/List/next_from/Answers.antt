use Rattle.std.proofs.Common.{sym, subst, rules}
use Rattle.zst_model.specs.fields.Lists.{IsLeastFrom, has_pair, HasNoneFrom}
use Rattle.zst_model.proofs.RunLists.{searched, least_here, least_later, some_from}
use Rattle.zst_model.proofs.fields.list.List.next_from.Goals as goal

pub returns-in_err-run-clause-none : goal.returns-in_err-run-clause-none
returns-in_err-run-clause-none c =
    let none : HasNoneFrom (has_pair c.args.self.now) c.args.object c.args.block = searched c.args.object c.args.block c.args.self.now _ c.in_err-run.ensures.first c.in_err-run.ensures.lawful in
    (λ is. none, λ h. search rules)

pub returns-then-run-object-clause-least : goal.returns-then-run-object-clause-least
returns-then-run-object-clause-least c =
    subst (IsLeastFrom (has_pair c.args.self.now) c.args.object c.args.block c.in_ok-run.run'.object) (sym c.max-index.ensures)
    (least_here c.args.self.now c.args.object c.args.block c.in_ok-run.run' (searched _ _ _ _ c.in_ok-run.ensures.first c.in_ok-run.ensures.lawful) c.if-run-object.true)

pub returns-then-run-object-clause-none : goal.returns-then-run-object-clause-none
returns-then-run-object-clause-none c =
    let least = least_here c.args.self.now c.args.object c.args.block c.in_ok-run.run' (searched _ _ _ _ c.in_ok-run.ensures.first c.in_ok-run.ensures.lawful) c.if-run-object.true in
    (λ is. absurd (cc), λ none. absurd (some_from _ _ _ _ _ least none))

pub returns-else-run-object-clause-least : goal.returns-else-run-object-clause-least
returns-else-run-object-clause-least c =
    least_later c.args.self.now c.args.object c.args.block c.in_ok-run.run' (searched _ _ _ _ c.in_ok-run.ensures.first c.in_ok-run.ensures.lawful) c.if-run-object.false

pub returns-else-run-object-clause-none : goal.returns-else-run-object-clause-none
returns-else-run-object-clause-none c =
    let least = least_later c.args.self.now c.args.object c.args.block c.in_ok-run.run' (searched _ _ _ _ c.in_ok-run.ensures.first c.in_ok-run.ensures.lawful) c.if-run-object.false in
    (λ is. absurd (cc), λ none. absurd (some_from _ _ _ _ _ least none))
