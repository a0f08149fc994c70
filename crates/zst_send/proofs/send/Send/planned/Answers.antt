use Rattle.std.proofs.Common.{length, List, Option, Some, get_or, refl, sym, ap, ◌∙◌, subst, []}
use Rattle.zst_block.specs.declared.ptr.Ptr.{Ptr}
use Rattle.zst_block.specs.Blocks.{Has}
use Rattle.zst_dir.specs.declared.rows.Snapshot.{Snapshot}
use Rattle.zst_model.specs.declared.sends.header.Header.{Header}
use Rattle.zst_model.specs.declared.sends.header.Point.{Point}
use Rattle.zst_model.specs.fields.Lists.{has_pair}
use Rattle.zst_model.specs.sends.Inclusion.{Pairs}
use Rattle.zst_model.specs.sends.View.{header_from}
use Rattle.zst_record.specs.Payload.{stated_point}
use Rattle.zst_send.specs.Sends.{begun_view}
use Rattle.zst_stream.specs.Image.{front_of}
use Rattle.zst_stream.specs.Records.{view_text}
use Rattle.zst_send.specs.Records.{HasPut}
use Rattle.zst_send.specs.SendState.{StandsAt}
use Rattle.zst_send.specs.PendingRecords.{HasBlock}
use Rattle.zst_objset.specs.Dnodes.{outside}
use Rattle.zst_objset.specs.Sets.{SetHoldsBut}
use Rattle.zst_objset.specs.TightSets.{SetIsTightIn}
use Rattle.zst_send.proofs.PlanRows.{plan_choice, plan_holds, set_at}
use Rattle.zst_send.proofs.SetsBut.{tight_but}
use Rattle.zst_send.proofs.StandingRows.{redaction_pairs, set_at_place}
use Rattle.zst_send.proofs.send.Send.planned.Goals as goal

pub returns-clause-sends : goal.returns-clause-sends
returns-clause-sends c = λ image space running sent named is stands lists redacts.
    let has = Has image space in
    let rows = c.args.dir.now in
    let plan = c.args.plan.now in
    let row = c.index-snapshots-plan.result in
    let header = c.header_from-header.ensures ∙ ap (λ (h : Header). header_from h c.args.start) (c.header.ensures running sent named is) in
    let here = c.index-snapshots-plan.is ∙ ap (λ (xs : List Snapshot). get_or xs plan.snap row) c.snapshots.ensures in
    let known = subst (λ (pairs : Pairs). SetHoldsBut has pairs row.objects sent.snapshot.objects) (redaction_pairs sent.redaction ∙ ap has_pair (sym redacts))
    (set_at_place has rows running sent plan.snap row stands is.snapshot here) in
    record {
      text = refl;
      holds = subst (λ (r : Snapshot). SetHoldsBut has (has_pair c.args.redact) r.objects sent.snapshot.objects) c.index-snapshots-plan.is known;
      choice = plan_choice sent plan.from_number c.args.listed c.args.redact is.source.number lists redacts;
      to = ap (λ (h : Header). h.to) header;
      stands = subst (λ (h : Header). StandsAt has sent.snapshot.objects (begun_view sent c.args.start) c.header_from-header.result.to c.start.result (view_text h (begun_view sent c.args.start) (stated_point c.args.start))) header
          (subst (λ (p : Point). StandsAt has sent.snapshot.objects (begun_view sent c.args.start) c.header_from-header.result.to c.start.result (view_text c.header_from-header.result (begun_view sent c.args.start) p)) c.stated_point-point.ensures
          (c.start.ensures.stands image space sent.snapshot.objects (begun_view sent c.args.start)));
      put = [];
      has_put = subst (λ (h : Header). HasPut has sent.snapshot.objects (begun_view sent c.args.start) (stated_point c.args.start) (length (front_of h)) [] 0 c.start.result) header
          (subst (λ (p : Point). HasPut has sent.snapshot.objects (begun_view sent c.args.start) p (length (front_of c.header_from-header.result)) [] 0 c.start.result) c.stated_point-point.ensures
          (c.start.ensures.puts image space sent.snapshot.objects (begun_view sent c.args.start)));
      loaded = subst (λ (holds : Option Ptr). HasBlock has c.args.buffer.bytes.items holds) (sym c.requires.empty) tt;
    }

pub returns-clause-set : goal.returns-clause-set
returns-clause-set c = λ test stands.
    let plan = c.args.plan.now in
    let row = c.index-snapshots-plan.result in
    set_at c.args.dir.now test plan.snap row stands (c.index-snapshots-plan.is ∙ ap (λ (xs : List Snapshot). get_or xs plan.snap row) c.snapshots.ensures)
    ∙ ap (λ (r : Snapshot). Some r.objects) c.index-snapshots-plan.is

pub returns-clause-knows : goal.returns-clause-knows
returns-clause-knows c = λ images. c.start.ensures.knows images _

pub returns-clause-tight : goal.returns-clause-tight
returns-clause-tight c = λ image space running sent number runs is.
    let has = Has image space in
    let plan = c.args.plan.now in
    let row = c.index-snapshots-plan.result in
    let here = c.index-snapshots-plan.is ∙ ap (λ (xs : List Snapshot). get_or xs plan.snap row) c.snapshots.ensures in
    let known = plan_holds has c.args.dir.now running runs plan sent is row here in
    subst (λ (r : Snapshot). SetIsTightIn has (outside (has_pair c.args.redact) has) r.objects sent.snapshot.objects) c.index-snapshots-plan.is
    (tight_but has (has_pair c.args.redact) row.objects sent.snapshot.objects known.0)
