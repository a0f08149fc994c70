use Rattle.std.specs.Prelude.{IfErr, Result}
use Rattle.std.specs.List.{AllZip}
use Rattle.std.proofs.Common.{◌∙◌, ◌∷◌, ℕ, List, sym, ap, subst}
use Rattle.zst_block.specs.Blocks.{Has}
use Rattle.zst_block.specs.IoCalls.{Looks}
use Rattle.zst_block.specs.IoStates.{io_of}
use Rattle.zst_block.proofs.IoCallLemmas.{Looks-none}
use Rattle.zst_model.specs.fields.Lists.{Runs}
use Rattle.zst_model.specs.fields.RunsOf.{runs_of}
use Rattle.zst_model.specs.pools.RedSet.{objects_of, red_set}
use Rattle.zst_model.proofs.Results.{err_is}
use Rattle.zst_tree.specs.Damage.{IsSeen}
use Rattle.zst_tree.specs.declared.tree.ObjSet.{ObjSet}
use Rattle.zst_objset.specs.Sets.{SetHolds}
use Rattle.zst_redact.specs.BuiltLists.{BuildsList, IfTold}
use Rattle.zst_redact.specs.Damage.{IsDamagedAmong}
use Rattle.zst_pool.specs.Damage.{IsOf}
use Rattle.zst_pool.specs.Queries.{stop_of}
use Rattle.zst_pool.specs.Redactions.{MakesList, left_of, sets_of}
use Rattle.zst_pool.specs.declared.fault.PoolFault.{PoolFault}
use Rattle.zst_pool.specs.declared.fault.PoolFault.TheVariants.{OutOfMemory}
use Rattle.zst_pool.proofs.BuiltLists.{built_damage, built_lists, built_open, built_short, built_stop, makes_built}
use Rattle.zst_pool.proofs.RedactionRows.{sets_hold}
use Rattle.zst_pool.proofs.redacts.build_list.Goals as goal

pub returns-in_err-sets-clause-list : goal.returns-in_err-sets-clause-list
returns-in_err-sets-clause-list g c = λ taken redactions told own rest.
    subst (λ (r : Result Runs PoolFault). MakesList (left_of taken redactions) r) (sym (err_is c.from_residual.result OutOfMemory c.from_residual.ensures.1)) tt

pub returns-in_err-sets-clause-limits : goal.returns-in_err-sets-clause-limits
returns-in_err-sets-clause-limits g c = λ fault is. let same = err_is c.from_residual.result OutOfMemory c.from_residual.ensures.1 in absurd (cc (same, is))

pub returns-in_err-sets-clause-open_still : goal.returns-in_err-sets-clause-open_still
returns-in_err-sets-clause-open_still g c = λ is. let same = err_is c.from_residual.result OutOfMemory c.from_residual.ensures.1 in cc (same, is)

pub returns-in_err-sets-clause-damaged : goal.returns-in_err-sets-clause-damaged
returns-in_err-sets-clause-damaged g c = λ told.
    let here = g.D.Disk.state c.args.io.now.disk.now in
    let Is = IsDamagedAmong (IsSeen here.seen) here.size (sets_of (c.args.row.now ∷ c.args.rows.now)) in
    subst (λ (r : Result Runs PoolFault). IfErr r (IsOf Is)) (sym (err_is c.from_residual.result OutOfMemory c.from_residual.ensures.1)) (λ sector stated found is. absurd (cc))

pub returns-in_err-sets-clause-looks : goal.returns-in_err-sets-clause-looks
returns-in_err-sets-clause-looks g c =
    subst (λ (r : Result Runs PoolFault). Looks (io_of c.args.io.now) (io_of c.args.io.now) (stop_of r)) (sym (err_is c.from_residual.result OutOfMemory c.from_residual.ensures.1)) (Looks-none (io_of c.args.io.now))

pub returns-clause-list : goal.returns-clause-list
returns-clause-list g c = λ taken redactions told own rest.
    let has = Has (g.D.Disk.state c.args.io.now.disk.now).seen c.args.io.now.space in
    let same = c.as_slice.ensures.value ∙ c.in_ok-sets.ensures in
    let each = subst (λ (sets : List ObjSet). AllZip (SetHolds has) sets (objects_of redactions)) (sym same) (sets_hold has c.args.rows.now redactions rest) in
    let built = c.build.ensures.list taken.objects (objects_of redactions) told (record { snapshot = own.objects; each = each }) in
    subst (λ (r : Result Runs PoolFault). MakesList (left_of taken redactions) r) (sym c.of_built.ensures)
    (makes_built (left_of taken redactions) c.build.result c.build.ensures.looks.never_full
    (subst (λ (n : ℕ). BuildsList (runs_of (red_set taken.objects.state n (objects_of redactions))) c.build.result) (sym own.named.number) built))

pub returns-clause-short : goal.returns-clause-short
returns-clause-short g c = rw c.of_built.ensures (built_short c.build.result c.build.ensures.short)

pub returns-clause-limits : goal.returns-clause-limits
returns-clause-limits g c = λ fault is. built_lists c.build.result fault (sym c.of_built.ensures ∙ is)

pub returns-clause-open_still : goal.returns-clause-open_still
returns-clause-open_still g c = λ is. built_open c.build.result (sym c.of_built.ensures ∙ is)

pub returns-clause-damaged : goal.returns-clause-damaged
returns-clause-damaged g c = λ told.
    let here = g.D.Disk.state c.args.io.now.disk.now in
    let own = c.args.row.now.objects in
    let same = c.as_slice.ensures.value ∙ c.in_ok-sets.ensures in
    let Is = IsDamagedAmong (IsSeen here.seen) here.size (sets_of (c.args.row.now ∷ c.args.rows.now)) in
    subst (λ (r : Result Runs PoolFault). IfErr r (IsOf Is)) (sym c.of_built.ensures)
    (built_damage Is c.build.result (subst (λ (sets : List ObjSet). IfTold c.build.result (IsDamagedAmong (IsSeen here.seen) here.size (own ∷ sets))) same (c.build.ensures.damaged told)))

pub returns-clause-looks : goal.returns-clause-looks
returns-clause-looks g c =
    subst (Looks (io_of c.args.io.now) (io_of c.build.new.io)) (sym (ap (λ (r : Result Runs PoolFault). stop_of r) c.of_built.ensures ∙ built_stop c.build.result)) c.build.ensures.looks
