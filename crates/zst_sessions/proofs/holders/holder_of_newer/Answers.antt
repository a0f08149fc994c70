use Rattle.std.proofs.Common.{◌≡◌, ℕ, Bool, List, get_or, sym, ap, ◌∙◌}
use Rattle.zst_dir.specs.declared.removal.Removal.TheVariants as goes
use Rattle.zst_dir.specs.declared.rows.Snapshot.{Snapshot}
use Rattle.zst_model.specs.declared.pools.command.Command.TheVariants as commands
use Rattle.zst_model.specs.pools.Sessions.{least_id}
use Rattle.zst_sessions.proofs.HeldThings.{absent_free, keeping_free, newer_busy}
use Rattle.zst_sessions.specs.BusySessions.{busy_for}
use Rattle.zst_sessions.specs.EngineSteps.{coded_held}
use Rattle.zst_sessions.specs.SessionHolders.{coded_holds, has_going}
use Rattle.zst_sessions.proofs.holders.holder_of_newer.Goals as goal

pub returns-then-not-destroys : goal.returns-then-not-destroys
returns-then-not-destroys c = λ receives running are.
    let held = coded_held c.args.side c.args.sends.now receives in
    sym (ap (λ (b : Bool). busy_for held (commands.Rollback b c.args.name.now) running) c.if-not-destroys.true ∙ keeping_free c.args.dir.now running are held c.args.name.now)

pub returns-in_default : goal.returns-in_default
returns-in_default c = λ receives running are.
    let held = coded_held c.args.side c.args.sends.now receives in
    sym (ap (λ (b : Bool). busy_for held (commands.Rollback b c.args.name.now) running) c.if-not-destroys.false
    ∙ absent_free c.args.dir.now running are held c.args.name.now (sym c.snapshot.ensures ∙ c.in_default.is))

pub returns : goal.returns
returns c = λ receives running are.
    let rows = c.args.dir.now in
    let held = coded_held c.args.side c.args.sends.now receives in
    let place = c.in-Some.place in
    let row = c.index-snapshots-place.result in
    let here : get_or rows.snapshots place row ≡ row = ap (λ (xs : List Snapshot). get_or xs place row) (sym c.snapshots-snapshots.ensures) ∙ sym c.index-snapshots-place.is in
    c.least_send_of.ensures
    ∙ ap (λ (n : List ℕ). least_id (has_going (goes.Newer n row.number) rows) (coded_holds c.args.side c.args.sends.now)) c.dataset.ensures
    ∙ newer_busy rows running are c.args.side c.args.sends.now receives c.args.name.now place row (sym c.snapshot.ensures ∙ c.in-Some.is) here
    ∙ ap (λ (b : Bool). busy_for held (commands.Rollback b c.args.name.now) running) (sym c.if-not-destroys.false)
