use Rattle.std.proofs.Common.{◌≡◌, ◌⊎◌, inl, inr, ℕ, ◌+◌, ◌-◌, ◌≤◌, false, sym, subst, arith}
use Rattle.zst_model.specs.fields.Lists.{HasNoneFrom, has_pair}
use Rattle.zst_model.proofs.RunLists.{searched}
use Rattle.zst_check.proofs.ListRuns.{end_apart, reaches, rest_end, rest_fits, rest_run, whole_fits, whole_run}
use Rattle.zst_check.proofs.list_pairs.run_from.Goals as goal
use Rattle.zst_check.proofs.list_pairs.run_from.Goals.{then-run-object-via-then-run-object, then-run-object-via-else-run-object+then-block-run}

pub returns-in_err-run-clause-found : goal.returns-in_err-run-clause-found
returns-in_err-run-clause-found c =
    let none : HasNoneFrom (has_pair c.args.list.now) c.args.object c.args.block = searched c.args.object c.args.block c.args.list.now _ c.in_err-run.ensures.first c.in_err-run.ensures.lawful in
    rw c.from_residual.ensures none

-- it begins at or after the pair
ahead : (c : goal.Joined-then-run-object) → (c.in_ok-run.run'.object ≡ c.args.object → ⊥) ⊎ (c.args.block ≤ c.in_ok-run.run'.first)
ahead c = elim c.then-run-object.branch [ then-run-object-via-then-run-object w ↦ inl w.if-run-object.true | then-run-object-via-else-run-object+then-block-run w ↦ inr w.if-block-run.true ]

pub returns-then-run-object-clause-found : goal.returns-then-run-object-clause-found
returns-then-run-object-clause-found c =
    whole_run c.args.list.now c.args.object c.args.block c.in_ok-run.run' (searched c.args.object c.args.block c.args.list.now _ c.in_ok-run.ensures.first c.in_ok-run.ensures.lawful) (ahead c)

pub returns-then-run-object-clause-whole : goal.returns-then-run-object-clause-whole
returns-then-run-object-clause-whole c = end_apart c.args.object c.args.block c.args.list.now c.in_ok-run.ensures.lawful c.in_ok-run.run' (sym c.in_ok-run.ensures.first)

pub returns-then-run-object-clause-range : goal.returns-then-run-object-clause-range
returns-then-run-object-clause-range c =
    whole_fits c.args.list.now c.args.object c.args.block c.in_ok-run.run' (searched c.args.object c.args.block c.args.list.now _ c.in_ok-run.ensures.first c.in_ok-run.ensures.lawful) (ahead c)

pub overflow_sub-result-2 : goal.overflow_sub-result-2
overflow_sub-result-2 c =
    let over = reaches c.args.list.now c.args.object c.args.block c.in_ok-run.run' (searched c.args.object c.args.block c.args.list.now _ c.in_ok-run.ensures.first c.in_ok-run.ensures.lawful) c.if-run-object.false c.if-block-run.false in
    omega (arith, over)

pub returns-clause-found : goal.returns-clause-found
returns-clause-found c =
    rest_run c.args.list.now c.args.object c.args.block c.in_ok-run.run' (searched c.args.object c.args.block c.args.list.now _ c.in_ok-run.ensures.first c.in_ok-run.ensures.lawful) c.if-run-object.false c.if-block-run.false

pub returns-clause-whole : goal.returns-clause-whole
returns-clause-whole c =
    let run = c.in_ok-run.run' in
    let found = searched c.args.object c.args.block c.args.list.now _ c.in_ok-run.ensures.first c.in_ok-run.ensures.lawful in
    let end = rest_end c.args.list.now c.args.object c.args.block run found c.if-run-object.false c.if-block-run.false in
    let apart = end_apart c.args.object c.args.block c.args.list.now c.in_ok-run.ensures.lawful run (sym c.in_ok-run.ensures.first) in
    subst (λ (k : ℕ). has_pair c.args.list.now k (c.args.block + (run.count - (c.args.block - run.first))) ≡ false) c.if-run-object.false
    (subst (λ (i : ℕ). has_pair c.args.list.now run.object i ≡ false) (sym end) apart)

pub returns-clause-range : goal.returns-clause-range
returns-clause-range c =
    rest_fits c.args.list.now c.args.object c.args.block c.in_ok-run.run' (searched c.args.object c.args.block c.args.list.now _ c.in_ok-run.ensures.first c.in_ok-run.ensures.lawful) c.if-run-object.false c.if-block-run.false
