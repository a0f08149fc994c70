use Rattle.std.proofs.Common.{rules, ◌≡◌, ◌∷◌, ◌++◌, sym, ap, ◌∙◌, subst}
use Rattle.std.specs.List.{All}
use Rattle.zst_model.specs.pools.Pool.{inserted}
use Rattle.zst_dir.specs.Rows.{Rows, HasDataset, HasSnapshot, snapshot_is_before}
use Rattle.zst_names.specs.Names.{dataset_of}
use Rattle.zst_dir.specs.declared.rows.Partial.{Partial}
use Rattle.zst_pool.proofs.NextPools.{none_becomes}
use Rattle.zst_pool.proofs.commands.dir_with_snapshot.Goals as goal

pub add_snapshot-requires-clause-new : goal.add_snapshot-requires-clause-new
add_snapshot-requires-clause-new c = subst (λ (r : Rows). HasSnapshot r c.args.snapshot.name → ⊥) (sym c.in_ok-next.ensures) c.requires.can.absent

pub add_snapshot-requires-clause-dataset : goal.add_snapshot-requires-clause-dataset
add_snapshot-requires-clause-dataset c = subst (λ (r : Rows). HasDataset r (dataset_of 64 c.args.snapshot.name)) (sym c.in_ok-next.ensures) c.requires.dataset

pub add_snapshot-requires-clause-component : goal.add_snapshot-requires-clause-component
add_snapshot-requires-clause-component c =
    let name = c.args.snapshot.name in
    subst (λ (r : Rows). All (λ (partial : Partial). partial.target ++ 64 ∷ partial.snapshot ≡ name → ⊥) r.partials) (sym c.in_ok-next.ensures)
    (none_becomes c.args.dir.now name c.requires.lawful.partials c.requires.can.free)

pub returns : goal.returns
returns c = record {
  makes = record {
    made =
        c.in_ok-add_snapshot.ensures.added ∙ ap (λ (r : Rows). record r { snapshots = inserted snapshot_is_before c.args.snapshot r.snapshots }) c.in_ok-next.ensures;
    grows = search rules;
  };
}
