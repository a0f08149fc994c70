use Rattle.std.proofs.Common.{◌≡◌, ◌∙◌, false, sym, ap, subst, refl}
use Rattle.zst_block.specs.Blocks.{Has}
use Rattle.zst_plan.specs.RecvPlan.{recv_plan}
use Rattle.zst_plan.proofs.AlikeAnswers.{err_alike}
use Rattle.zst_record.specs.declared.head.Head.TheVariants as heads
use Rattle.zst_recv.specs.ReceiveSteps.{opened}
use Rattle.zst_recv.specs.Stages.{IsBatch, IsStage, waits_at}
use Rattle.zst_recv.specs.declared.batch.Batch as batches
use Rattle.zst_recv.specs.declared.stage.Stage as coded
use Rattle.zst_recv.specs.declared.stage.Stage.TheVariants as stages
use Rattle.zst_recv.proofs.BatchMoves.{moves_begun, moves_passed, moves_refused, not_waits}
use Rattle.zst_recv.proofs.HandedRecords.{refused_begin, waits_tell}
use Rattle.zst_recv.proofs.PlanRefusals.{begun_planned, refused_planned}
use Rattle.zst_recv.specs.Damage.{StaysWith}
use Rattle.zst_recv.proofs.SetOrigins.{stays_same}
use Rattle.zst_recv.proofs.batch.Batch.begin.Goals.{in-Waits, in_default}
use Rattle.zst_recv.proofs.batch.Batch.begin.Goals as goal

pub returns-in-Err-clause-began : goal.returns-in-Err-clause-began
returns-in-Err-clause-began c = λ bound image space running plain covered len head runs tells is.
    let ask = c.args.ask.now in
    let header = c.args.header.now in
    let has = Has image space in
    let waits : c.args.self.now.stage ≡ stages.Waits = elim c.match-matches.branch [ in-Waits w ↦ w.in-Waits.is | in_default w ↦ absurd (let both = sym w.matches-is ∙ c.if-not-matches.false in cc) ] in
    let told = waits_tell ask header c.args.dir.now running bound has plain.stage (subst (λ (s : coded.Stage). IsStage bound has s plain.stage) waits is.stage) tells in
    let refused = err_alike (λ batch plan. IsBatch bound has batch (opened ask header plan)) c.in-Err.fault (recv_plan ask header running) (c.in-Err.ensures.exact bound image space running runs told.1) in
    (refused_begin ask header running covered len plain c.in-Err.fault head told.0 refused, is)

pub returns-in-Ok-clause-planned : goal.returns-in-Ok-clause-planned
returns-in-Ok-clause-planned c = λ running waits named tells.
    begun_planned c.in-Ok.batch (recv_plan c.args.ask.now c.args.header.now running) (c.in-Ok.ensures.planned running named tells)

pub returns-in-Err-clause-planned : goal.returns-in-Err-clause-planned
returns-in-Err-clause-planned c = λ running waits named tells.
    refused_planned batches.Batch c.in-Err.fault (recv_plan c.args.ask.now c.args.header.now running) (c.in-Err.ensures.planned running named tells)

pub returns-then-not-matches-clause-moves : goal.returns-then-not-matches-clause-moves
returns-then-not-matches-clause-moves c = λ len.
    let waits : waits_at c.args.self.now.stage ≡ false = elim c.match-matches.branch [ in-Waits w ↦ absurd (let both = sym w.matches-is ∙ c.if-not-matches.true in cc) | in_default w ↦ not_waits c.args.self.now.stage w.in_default.not-Waits ] in
    moves_passed c.args.dir.now c.args.ask.now.target (heads.Begin c.args.header.now len) c.args.self.now tt (λ begin. waits) (λ end. absurd (cc end))

pub returns-in-Ok-clause-moves : goal.returns-in-Ok-clause-moves
returns-in-Ok-clause-moves c = λ len.
    let waits : c.args.self.now.stage ≡ stages.Waits = elim c.match-matches.branch [ in-Waits w ↦ w.in-Waits.is | in_default w ↦ absurd (let both = sym w.matches-is ∙ c.if-not-matches.false in cc) ] in
    let e = c.in-Ok.ensures in
    moves_begun c.args.dir.now c.args.ask.now.target c.args.header.now len c.args.self.now c.in-Ok.batch tt waits e.fits e.lives e.taken

pub returns-in-Err-clause-moves : goal.returns-in-Err-clause-moves
returns-in-Err-clause-moves c = λ len. moves_refused c.args.dir.now c.args.ask.now.target (heads.Begin c.args.header.now len) c.args.self.now _ refl

pub returns-then-not-matches-clause-stays_with : goal.returns-then-not-matches-clause-stays_with
returns-then-not-matches-clause-stays_with c = λ text begins. stays_same c.args.dir.now c.args.ask.now text c.args.self.now.stage

pub returns-in-Ok-clause-stays_with : goal.returns-in-Ok-clause-stays_with
returns-in-Ok-clause-stays_with c = λ text begins.
    let waits : c.args.self.now.stage ≡ stages.Waits = elim c.match-matches.branch [ in-Waits w ↦ w.in-Waits.is | in_default w ↦ absurd (let both = sym w.matches-is ∙ c.if-not-matches.false in cc) ] in
    subst (λ (s : coded.Stage). StaysWith c.args.dir.now c.args.ask.now text s c.in-Ok.batch.stage) (sym waits) (c.in-Ok.ensures.begins text (begins (ap waits_at waits)))

pub returns-in-Err-clause-stays_with : goal.returns-in-Err-clause-stays_with
returns-in-Err-clause-stays_with c = λ text begins. stays_same c.args.dir.now c.args.ask.now text c.args.self.now.stage
