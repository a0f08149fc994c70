use Rattle.std.proofs.Common.{◌≡◌, Result, Ok, Err, sym, ap, ◌∙◌, subst}
use Rattle.std.proofs.lemmas.Result.{err_from_is_err_and}
use Rattle.zst_model.specs.declared.refusals.refusal.Refusal.{Refusal}
use Rattle.zst_recv.specs.Answers.{goes_on}
use Rattle.zst_recv.specs.Stages.{is_live, stage_of}
use Rattle.zst_recv.specs.declared.fault.RecvFault.{RecvFault}
use Rattle.zst_recv.specs.declared.recv.FeedReport.{FeedReport}
use Rattle.zst_sessions.proofs.SettledFeeds.{leaves_settled, live_is, stands_there, stays_settled}
use Rattle.zst_sessions.specs.Pumps.{SettlesFeed, fed_reply, guid_of, standing_of}
use Rattle.zst_sessions.specs.declared.engine.Engine.{Engine}
use Rattle.zst_sessions.specs.declared.event_reply.EventReply.{EventReply}
use Rattle.zst_sessions.specs.declared.event_reply.EventReply.TheVariants.{Pumped}
use Rattle.zst_sessions.specs.declared.open_sessions.OpenReceive.{OpenReceive}
use Rattle.zst_sessions.proofs.engine.Engine.feed_and_settle.Goals.{then-not-live, else-not-live}
use Rattle.zst_sessions.proofs.engine.Engine.feed_and_settle.Goals as goal

pub returns-in_err-report : goal.returns-in_err-report
returns-in_err-report g c =
    let old = c.args.self.now in
    let mid = c.feed_at-fed.new.self in
    let fed = c.feed_at-fed.result in
    let feeds = c.feed_at-fed.ensures in
    let one = c.index-2.result.now in
    let there : one ≡ record feeds.one { recv = feeds.after } = stands_there old mid c.args.place c.args.count fed feeds c.requires.place one c.index-2.ensures in
    let lives : c.live.result ≡ goes_on fed = c.live.ensures ∙ ap (λ (r : OpenReceive). is_live (stage_of r.recv)) there ∙ live_is old mid c.args.place c.args.count fed feeds c.requires.place in
    let p = err_from_is_err_and c.from_residual.result c.from_residual.ensures.1 in
    let said : c.from_residual.result ≡ fed_reply c.args.count feeds.after fed =
    p.1 ∙ ap (λ (r : Refusal). Err r) p.2 ∙ sym (ap (λ (r : Result FeedReport RecvFault). fed_reply c.args.count feeds.after r) c.in_err-report.was) in
    elim c.if-not-live.branch [
      | then-not-live w ↦ subst (λ (e : Engine g.row.D.Denot g.row.E.Denot g.D.Disk g.E.Disk). SettlesFeed c.args.place c.args.count old e c.from_residual.result) (sym w.self-is)
          (leaves_settled old mid c.args.place c.args.count fed feeds c.requires.place w.remove.new.self c.from_residual.result (sym lives ∙ w.if-not-live.true) w.remove.ensures.items said)
      | else-not-live w ↦ subst (λ (e : Engine g.row.D.Denot g.row.E.Denot g.D.Disk g.E.Disk). SettlesFeed c.args.place c.args.count old e c.from_residual.result) (sym w.self-is)
          (stays_settled old mid c.args.place c.args.count fed feeds c.requires.place c.from_residual.result (sym lives ∙ w.if-not-live.false) said)
    ]

pub returns : goal.returns
returns g c =
    let old = c.args.self.now in
    let mid = c.feed_at-fed.new.self in
    let fed = c.feed_at-fed.result in
    let feeds = c.feed_at-fed.ensures in
    let one = c.index-2.result.now in
    let report = c.in_ok-report.report in
    let result : Result EventReply Refusal = Ok (Pumped c.args.count report.applied c.standing_of.result) in
    let there : one ≡ record feeds.one { recv = feeds.after } = stands_there old mid c.args.place c.args.count fed feeds c.requires.place one c.index-2.ensures in
    let also : c.index.result.now ≡ record feeds.one { recv = feeds.after } = stands_there old mid c.args.place c.args.count fed feeds c.requires.place c.index.result.now c.index.ensures in
    let lives : c.live.result ≡ goes_on fed = c.live.ensures ∙ ap (λ (r : OpenReceive). is_live (stage_of r.recv)) there ∙ live_is old mid c.args.place c.args.count fed feeds c.requires.place in
    let guid : c.guid_of-guid.result ≡ guid_of feeds.after = c.guid_of-guid.ensures ∙ ap (λ (r : OpenReceive). guid_of r.recv) also in
    let said : result ≡ fed_reply c.args.count feeds.after fed =
    ap (λ (s : _). Ok (Pumped c.args.count report.applied s)) (c.standing_of.ensures ∙ ap (standing_of report) guid)
    ∙ sym (ap (λ (r : Result FeedReport RecvFault). fed_reply c.args.count feeds.after r) c.in_ok-report.was) in
    elim c.if-not-live.branch [
      | then-not-live w ↦ subst (λ (e : Engine g.row.D.Denot g.row.E.Denot g.D.Disk g.E.Disk). SettlesFeed c.args.place c.args.count old e result) (sym w.self-is)
          (leaves_settled old mid c.args.place c.args.count fed feeds c.requires.place w.remove.new.self result (sym lives ∙ w.if-not-live.true) w.remove.ensures.items said)
      | else-not-live w ↦ subst (λ (e : Engine g.row.D.Denot g.row.E.Denot g.D.Disk g.E.Disk). SettlesFeed c.args.place c.args.count old e result) (sym w.self-is)
          (stays_settled old mid c.args.place c.args.count fed feeds c.requires.place result (sym lives ∙ w.if-not-live.false) said)
    ]
