use Rattle.std.proofs.Common.{rules, of_calls, arith, ◌≡◌, sym, ap, ◌∙◌, subst, find, not}
use Rattle.std.proofs.lemmas.Grind.{common_steps}
use Rattle.std.proofs.lemmas.Option.{gets}
use Rattle.std.specs.List.{slice_get}
use Rattle.std.specs.Option.{option_copied}
use Rattle.std.proofs.lemmas.List.Sorted.{IsPartitionPoint-from_clause}
use Rattle.zst_model.specs.fields.Lists.{ends_by, IsRunList, Runs}
use Rattle.zst_model.proofs.RunLists.{ends_are_first, find_at_point}
use Rattle.zst_model.proofs.fields.list.List.first_behind.Goals as goal

pub returns-clause-first : goal.returns-clause-first
returns-clause-first c =
    let runs : Runs = c.as_slice-runs.result.now in
    let same : runs ≡ c.args.self.now = c.as_slice-runs.ensures.value ∙ c.self.view_is in
    let lawful : IsRunList runs = subst IsRunList (sym c.as_slice-runs.ensures.value) c.self.invariant in
    let point = IsPartitionPoint-from_clause (λ run. ends_by run c.args.object c.args.block) runs _ c.partition_point-place.ensures.partitioned
    (ends_are_first c.args.object c.args.block _ lawful) (λ a r f k. search (rules, of_calls)) in
    let found = find_at_point (λ run. ends_by run c.args.object c.args.block) runs _ c.partition_point-place.ensures.bound point in
    let get : option_copied c.get.result ≡ slice_get runs c.partition_point-place.result = grind (arith, common_steps, gets, c.get.ensures.lookup) in
    c.copied.ensures ∙ get ∙ found ∙ ap (find (λ run. not (ends_by run c.args.object c.args.block))) same
