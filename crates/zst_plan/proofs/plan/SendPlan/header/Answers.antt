use Rattle.std.proofs.Common.{ℕ, ◌+◌, ◌∙◌, List, sym, ap, get_or, refl}
use Rattle.zst_dir.specs.RowNames.{NamesSnapshot}
use Rattle.zst_dir.specs.declared.rows.Snapshot.{Snapshot}
use Rattle.zst_model.specs.sends.Features.{sa_spill}
use Rattle.zst_model.specs.sends.Headers.{redacted_part}
use Rattle.zst_plan.proofs.BeginHeader.{features_are}
use Rattle.zst_plan.proofs.plan.SendPlan.header.Goals as goal
use Rattle.zst_plan.proofs.AlikeAnswers.{at_names}

pub returns : goal.returns
returns c = λ pool sent are is.
    let rows = c.args.dir.now in
    let plan = c.args.self.now in
    let row = c.index-snapshots-self.result in
    let names = at_names NamesSnapshot rows.snapshots pool.snapshots plan.snap row sent.snapshot are.snapshots is.snapshot
    (c.index-snapshots-self.is ∙ ap (λ (xs : List Snapshot). get_or xs plan.snap row) c.snapshots.ensures) in
    let stated = c.stated_guids-redact.ensures pool sent.snapshot sent.redaction are names is.redaction in
    rw (
      c.kind_of.ensures pool sent.snapshot are names ∙ sym is.kind,
      is.flags,
      c.features_of.ensures ∙ ap (λ (guids : List ℕ). redacted_part guids + sa_spill) stated ∙ features_are sent,
      sym names.time,
      sym names.guid,
      is.source.guid,
      c.new.ensures.same ∙ c.as_bytes.ensures.value ∙ c.text.ensures.same ∙ sym names.name,
      stated,
      c.source_guids.ensures pool sent.source are is.source.snapshot is.source.bookmark,
    ) refl
