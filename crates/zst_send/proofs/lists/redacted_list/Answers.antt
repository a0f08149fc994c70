use Rattle.std.specs.Prelude.{IfErr, Result}
use Rattle.std.proofs.Common.{◌≡◌, true, Some, ap, sym, ◌∙◌, subst}
use Rattle.zst_block.specs.IoCalls.{Looks}
use Rattle.zst_block.specs.IoStates.{io_of}
use Rattle.zst_block.proofs.IoCallLemmas.{Looks-none}
use Rattle.zst_model.specs.fields.Lists.{Runs}
use Rattle.zst_model.specs.fields.RunsOf.{runs_of}
use Rattle.zst_model.specs.pools.Ancestry.{OfSnapshot}
use Rattle.zst_model.specs.pools.RedSet.{redacted_pairs}
use Rattle.zst_model.specs.sends.SendPlan.{has_guids}
use Rattle.zst_pool.specs.Damage.{IsOf}
use Rattle.zst_pool.specs.Faults.{of_built}
use Rattle.zst_pool.specs.Queries.{stop_of}
use Rattle.zst_pool.specs.declared.fault.PoolFault.{PoolFault}
use Rattle.zst_pool.proofs.BuiltLists.{built_damage, built_stop, makes_built}
use Rattle.zst_traverse.specs.Damage.{IsDamagedCell}
use Rattle.zst_tree.specs.Damage.{IsSeen}
use Rattle.zst_send.specs.Openings.{GivesSource, IsDamagedRow, IsUnlisted}
use Rattle.zst_send.proofs.SourceLists.{built_unlisted, gives_redacted, gives_whole, tells_more}
use Rattle.zst_send.proofs.lists.redacted_list.Goals as goal

-- ---- nothing redacted it

pub returns-then-not-has_guids-clause-found : goal.returns-then-not-has_guids-clause-found
returns-then-not-has_guids-clause-found g c = λ snapshot honest names holds.
    gives_whole snapshot c.empty.result (ap has_guids names.redact ∙ sym c.has_guids.ensures ∙ c.if-not-has_guids.true) c.empty.ensures

pub returns-then-not-has_guids-clause-looks : goal.returns-then-not-has_guids-clause-looks
returns-then-not-has_guids-clause-looks g c = Looks-none _

-- ---- its list is made

pub returns-clause-found : goal.returns-clause-found
returns-clause-found g c = λ snapshot honest names holds.
    let some = ap has_guids names.redact ∙ sym c.has_guids.ensures ∙ c.if-not-has_guids.false in
    let runs = runs_of (redacted_pairs snapshot.objects.state) in
    let built = c.redacted.ensures.list snapshot.objects honest (holds some) in
    subst (λ (r : Result Runs PoolFault). GivesSource (Some (OfSnapshot snapshot)) r) (sym c.of_built.ensures)
    (gives_redacted snapshot (of_built c.redacted.result) some (makes_built runs c.redacted.result c.redacted.ensures.looks.never_full built))

pub returns-clause-unlisted : goal.returns-clause-unlisted
returns-clause-unlisted g c =
    let redacted = has_guids c.args.row.now.redact ≡ true in
    subst (λ (r : Result Runs PoolFault). IfErr r (IsUnlisted redacted)) (sym c.of_built.ensures)
    (built_unlisted redacted c.redacted.result (sym c.has_guids.ensures ∙ c.if-not-has_guids.false) c.redacted.ensures.looks.never_full)

pub returns-clause-damaged : goal.returns-clause-damaged
returns-clause-damaged g c = λ honest.
    let row = c.args.row.now in
    let disk = g.D.Disk.state c.args.io.now.disk.now in
    let some = sym c.has_guids.ensures ∙ c.if-not-has_guids.false in
    let Is = IsDamagedCell (IsSeen disk.seen) disk.size row.objects in
    subst (λ (r : Result Runs PoolFault). IfErr r (IsOf (IsDamagedRow disk.seen disk.size row))) (sym c.of_built.ensures)
    (tells_more Is (IsDamagedRow disk.seen disk.size row) (λ sector stated found damaged. record { redacted = some; tells = damaged }) (of_built c.redacted.result)
    (built_damage Is c.redacted.result (c.redacted.ensures.damaged honest)))

pub returns-clause-looks : goal.returns-clause-looks
returns-clause-looks g c =
    subst (Looks (io_of c.args.io.now) (io_of c.redacted.new.io)) (sym (ap (λ (r : Result Runs PoolFault). stop_of r) c.of_built.ensures ∙ built_stop c.redacted.result)) c.redacted.ensures.looks
