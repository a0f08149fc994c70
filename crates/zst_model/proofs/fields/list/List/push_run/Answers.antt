use Rattle.std.proofs.Common.{rules, arith, ◌≡◌, ◌≤◌, ◌+◌, ◌-◌, true, false, length, ℕ, suc, Fits, w64, refl, sym, ap, subst, ◌∙◌}
use Rattle.zst_model.specs.fields.Lists.{Runs, IsRunList, HasNoneFrom, has_pair}
use Rattle.zst_model.specs.fields.PushedRuns.{last_ends_at}
use Rattle.zst_model.specs.pools.Limits.{most_runs}
use Rattle.zst_model.specs.states.State.{index_bound}
use Rattle.zst_model.proofs.PushedRuns.{ends_last, last_bound, longer_list, longer_pairs, pushed_alone, pushed_list}
use Rattle.zst_model.proofs.fields.list.List.push_run.Goals as goal

pub overflow_add-last : goal.overflow_add-last
unfolding index_bound
overflow_add-last c =
    let runs : Runs = c.self.inside.runs.items in
    let ends : last_ends_at runs c.args.run.object c.args.run.first ≡ true = search rules in
    let long : suc (c.len-count.result - 1) ≡ length runs = ap (λ n. suc (n - 1)) (c.len-count.ensures ∙ sym c.as_slice.ensures.len ∙ ap length c.as_slice.ensures.value) ∙ ends_last runs c.args.run.object c.args.run.first ends in
    let small : c.index-last.result.now.count + c.args.run.count ≤ index_bound = last_bound c.args.run c.requires.run runs (c.len-count.result - 1) c.index-last.result.now long (search rules) ends in
    fits small
  where
    fits : {n : ℕ} → n ≤ index_bound → Fits w64 n
    fits small = search (rules, arith)

pub invariant_of-self : goal.invariant_of-self
invariant_of-self c =
    let runs : Runs = c.self.inside.runs.items in
    let ends : last_ends_at runs c.args.run.object c.args.run.first ≡ true = search rules in
    let long : suc (c.len-count.result - 1) ≡ length runs = ap (λ n. suc (n - 1)) (c.len-count.ensures ∙ sym c.as_slice.ensures.len ∙ ap length c.as_slice.ensures.value) ∙ ends_last runs c.args.run.object c.args.run.first ends in
    longer_list c.args.run c.requires.run runs (c.len-count.result - 1) c.index-last.result.now long (search rules) ends c.self.invariant

pub returns-then-last_ends_at-clause-pushed : goal.returns-then-last_ends_at-clause-pushed
returns-then-last_ends_at-clause-pushed c l j =
    let runs : Runs = c.self.inside.runs.items in
    let ends : last_ends_at runs c.args.run.object c.args.run.first ≡ true = search rules in
    let long : suc (c.len-count.result - 1) ≡ length runs = ap (λ n. suc (n - 1)) (c.len-count.ensures ∙ sym c.as_slice.ensures.len ∙ ap length c.as_slice.ensures.value) ∙ ends_last runs c.args.run.object c.args.run.first ends in
    longer_pairs c.args.run c.requires.run runs (c.len-count.result - 1) c.index-last.result.now long (search rules) ends l j ∙ search rules

pub returns-then-count-ge-MOST_RUNS-clause-pushed :
    goal.returns-then-count-ge-MOST_RUNS-clause-pushed
unfolding most_runs
returns-then-count-ge-MOST_RUNS-clause-pushed c =
    let runs : Runs = c.args.self.now in
    let apart : last_ends_at runs c.args.run.object c.args.run.first ≡ false = search rules in
    let lawful : IsRunList runs = search rules in
    record {
      same = refl;
      many = search (rules, arith);
      alone = pushed_alone c.args.run c.requires.run runs (pushed_list c.args.run c.requires.run runs lawful apart c.requires.behind);
    }

pub invariant_of-self-2 : goal.invariant_of-self-2
invariant_of-self-2 c =
    let runs : Runs = c.self.inside.runs.items in
    let apart : last_ends_at runs c.args.run.object c.args.run.first ≡ false = search rules in
    let behind : HasNoneFrom (has_pair runs) c.args.run.object c.args.run.first = subst (λ (now : Runs). HasNoneFrom (has_pair now) c.args.run.object c.args.run.first) (sym c.self.view_is) c.requires.behind in
    subst IsRunList (sym c.in_ok-push.ensures.items) (pushed_list c.args.run c.requires.run runs c.self.invariant apart behind)

pub returns-then-last_ends_at-clause-lawful : goal.returns-then-last_ends_at-clause-lawful
returns-then-last_ends_at-clause-lawful c =
    let runs : Runs = c.self.inside.runs.items in
    let ends : last_ends_at runs c.args.run.object c.args.run.first ≡ true = search rules in
    let long : suc (c.len-count.result - 1) ≡ length runs = ap (λ n. suc (n - 1)) (c.len-count.ensures ∙ sym c.as_slice.ensures.len ∙ ap length c.as_slice.ensures.value) ∙ ends_last runs c.args.run.object c.args.run.first ends in
    longer_list c.args.run c.requires.run runs (c.len-count.result - 1) c.index-last.result.now long (search rules) ends c.self.invariant

pub returns-clause-lawful : goal.returns-clause-lawful
returns-clause-lawful c =
    let runs : Runs = c.self.inside.runs.items in
    let apart : last_ends_at runs c.args.run.object c.args.run.first ≡ false = search rules in
    let behind : HasNoneFrom (has_pair runs) c.args.run.object c.args.run.first = subst (λ (now : Runs). HasNoneFrom (has_pair now) c.args.run.object c.args.run.first) (sym c.self.view_is) c.requires.behind in
    subst IsRunList (sym c.in_ok-push.ensures.items) (pushed_list c.args.run c.requires.run runs c.self.invariant apart behind)
