use Rattle.std.proofs.Common.{refl, subst, sym}
use Rattle.zst_model.specs.pools.Ancestry.{IsOrigin}
use Rattle.zst_names.specs.Names.{dataset_of}
use Rattle.zst_check.proofs.Origins.{above_found}
use Rattle.zst_check.proofs.bookmarks.is_above_origin.Goals as goal

pub returns-in-Some : goal.returns-in-Some
returns-in-Some c = λ pool are.
    above_found c.args.dir.now pool are (dataset_of 35 c.args.row.now.name) c.dataset.result c.in-Some.place c.args.row.now.number c.snapshots.result.now c.index-snapshots-place.result
    c.dataset.ensures (λ origin. c.in-Some.ensures.origin pool origin are) c.in-Some.ensures.inside c.snapshots.ensures

pub returns-in-None : goal.returns-in-None
returns-in-None c = λ pool are.
    (λ passes origin is. absurd ((c.in-None.ensures.origin pool origin are).0 (subst (λ n. IsOrigin pool origin n) (sym c.dataset.ensures) is)), λ all. refl)
