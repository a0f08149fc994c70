use Rattle.std.proofs.Common.{ℕ, Option, sym, ap, ◌∙◌}
use Rattle.zst_model.specs.declared.refusals.subjects.Name.{Name}
use Rattle.zst_model.specs.pools.Sessions.{has_named, least_id, session_into, session_with}
use Rattle.zst_sessions.proofs.HeldThings.{dataset_of_either, no_session_has, snapshot_of_send}
use Rattle.zst_sessions.specs.EngineSteps.{coded_held}
use Rattle.zst_sessions.specs.SessionHolders.{coded_holds, lesser_of}
use Rattle.zst_sessions.proofs.holders.session_with.Goals as goal

pub returns-in-Dataset : goal.returns-in-Dataset
returns-in-Dataset c =
    let holds = coded_holds c.args.side c.args.sends.now in
    let held = coded_held c.args.side c.args.sends.now c.args.receives.now in
    c.lesser_of.ensures
    ∙ ap (λ (o : Option ℕ). lesser_of o c.session_into.result) c.least_send_with-holding.ensures
    ∙ ap (λ (o : Option ℕ). lesser_of (least_id (has_named c.args.name.now) holds) o) (c.session_into.ensures.into c.args.sends.now)
    ∙ ap (λ (n : Name). lesser_of (least_id (has_named n) holds) (session_into c.in-Dataset.target held)) c.in-Dataset.is
    ∙ sym (dataset_of_either c.args.side c.args.sends.now c.args.receives.now c.in-Dataset.target)
    ∙ ap (λ (n : Name). session_with n held) (sym c.in-Dataset.is)

pub returns-in-Snapshot : goal.returns-in-Snapshot
returns-in-Snapshot c =
    let holds = coded_holds c.args.side c.args.sends.now in
    let held = coded_held c.args.side c.args.sends.now c.args.receives.now in
    c.least_send_with-holding.ensures
    ∙ ap (λ (n : Name). least_id (has_named n) holds) c.in-Snapshot.is
    ∙ sym (snapshot_of_send c.args.side c.args.sends.now c.args.receives.now c.in-Snapshot.field-0)
    ∙ ap (λ (n : Name). session_with n held) (sym c.in-Snapshot.is)

pub returns-in-Bookmark : goal.returns-in-Bookmark
returns-in-Bookmark c =
    let held = coded_held c.args.side c.args.sends.now c.args.receives.now in
    sym (no_session_has c.in-Bookmark.field-0 held) ∙ ap (λ (n : Name). session_with n held) (sym c.in-Bookmark.is)
