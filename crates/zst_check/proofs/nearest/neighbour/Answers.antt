use Rattle.std.proofs.Common.{List, ℕ, bytes_eq, get_or, length, ap, ◌∙◌, arith}
use Rattle.zst_dir.specs.RowNames.{NamesSnapshot}
use Rattle.zst_dir.specs.declared.rows.Snapshot.{Snapshot}
use Rattle.zst_dir.proofs.Matches.{length-Match}
use Rattle.zst_names.specs.Names.{dataset_of}
use Rattle.zst_check.proofs.NumberedPlaces.{neighbour_found}
use Rattle.zst_check.proofs.nearest.neighbour.Goals as goal

pub returns-in_err-get-clause-found : goal.returns-in_err-get-clause-found
returns-in_err-get-clause-found c = λ pool are inside.
    absurd (omega (arith, inside, c.in_err-get.ensures.lookup.3, ap length c.snapshots-rows.ensures, length-Match NamesSnapshot c.args.dir.now.snapshots pool.snapshots are.snapshots))

pub returns-clause-found : goal.returns-clause-found
returns-clause-found c = λ pool are inside.
    neighbour_found c.args.dir.now pool are c.args.place c.in_ok-before.before c.in_ok-get-2.field-0.now c.in_ok-get.field-0.now c.eq.result c.then_some.result
    c.in_ok-before.ensures.0 c.in_ok-before.ensures.1 (omega (arith, inside, length-Match NamesSnapshot c.args.dir.now.snapshots pool.snapshots are.snapshots))
    (c.in_ok-get-2.ensures.lookup.1 ∙ ap (λ (rows : List Snapshot). get_or rows c.in_ok-before.before c.in_ok-get-2.field-0.now) c.snapshots-rows.ensures)
    (c.in_ok-get.ensures.lookup.1 ∙ ap (λ (rows : List Snapshot). get_or rows c.args.place c.in_ok-get.field-0.now) c.snapshots-rows.ensures)
    (c.eq.ensures ∙ ap (λ (n : List ℕ). bytes_eq n c.dataset-dataset.result) c.dataset.ensures ∙ ap (λ (n : List ℕ). bytes_eq (dataset_of 64 c.in_ok-get-2.field-0.now.name) n) c.dataset-dataset.ensures)
    c.then_some.ensures
