use Rattle.std.proofs.Common.{◌+◌, Ok, ap, sym, subst}
use Rattle.zst_image.specs.Reads.{bound_of}
use Rattle.zst_record.specs.Heads.{covered_of}
use Rattle.zst_record.specs.declared.head.Head.{Head}
use Rattle.zst_recv.specs.Batches.{Moves}
use Rattle.zst_recv.specs.Stages.{is_begin, waits_at}
use Rattle.zst_recv.proofs.BatchMoves.{not_begin, plans_begin, plans_none}
use Rattle.zst_block.specs.Blocks.{SparesTaken}
use Rattle.zst_recv.proofs.DamageLemmas.{told_none}
use Rattle.zst_recv.proofs.SetOrigins.{comes_none, comes_with}
use Rattle.zst_recv.proofs.RecordEffects.{next_number, runs_now}
use Rattle.std.proofs.Common.{[], ◌∷◌, refl}
use Rattle.zst_recv.proofs.CostLemmas.{spends_idle}
use Rattle.zst_recv.proofs.batch.Batch.take.Goals as goal

pub returns-in-Begin-clause-took : goal.returns-in-Begin-clause-took
returns-in-Begin-clause-took g c = λ tight start running plain honest under tells is.
    let io = c.args.io.now in
    let now = g.D.Disk.state io.disk.now in
    c.begin.ensures.began (bound_of tight (running.number + 1)) now.seen io.space running plain (covered_of c.args.covered.now) c.in-Begin.payload_len c.in-Begin.is
    (runs_now (g.D.Disk.state start) now io.space c.args.kept.now running under) tells is

pub returns-in-End-clause-took : goal.returns-in-End-clause-took
returns-in-End-clause-took g c = λ tight start running plain honest under tells is.
    let io = c.args.io.now in
    c.end.ensures.ended (bound_of tight (running.number + 1)) (g.D.Disk.state io.disk.now).seen io.space running c.args.ask.now plain (covered_of c.args.covered.now) c.in-End.sums c.in-End.to c.in-End.is is

pub returns-in_default-clause-took : goal.returns-in_default-clause-took
returns-in_default-clause-took g c = λ tight start running plain honest under tells is.
    let io = c.args.io.now in
    c.go_on.ensures.took tight running c.args.ask.now plain honest
    (next_number (g.D.Disk.state start) (g.D.Disk.state io.disk.now) io.space c.args.kept.now running under c.saturating_add.result (rw c.uber.ensures at c.saturating_add.ensures)) is

pub returns-in-Begin-clause-damaged : goal.returns-in-Begin-clause-damaged
returns-in-Begin-clause-damaged g c = λ text sector stated found honest is. absurd (told_none c.begin.result sector stated found c.begin.ensures.no_block is)

pub returns-in_default-clause-damaged : goal.returns-in_default-clause-damaged
returns-in_default-clause-damaged g c = λ text sector stated found honest is. c.go_on.ensures.damaged c.args.kept.now.dir c.args.ask.now text sector stated found honest is

pub returns-in-Begin-clause-comes : goal.returns-in-Begin-clause-comes
returns-in-Begin-clause-comes g c = λ text begins honest.
    let io = c.args.io.now in
    let now = g.D.Disk.state io.disk.now in
    comes_with c.args.kept.now.dir c.args.ask.now text (SparesTaken io.space now.seen) now.size c.args.self.now.stage c.begin.new.self.stage
    (c.begin.ensures.stays_with text (λ waits. begins waits _ c.in-Begin.payload_len c.in-Begin.is))

pub returns-in-End-clause-comes : goal.returns-in-End-clause-comes
returns-in-End-clause-comes g c = λ text begins honest.
    let io = c.args.io.now in
    let now = g.D.Disk.state io.disk.now in
    let rows = c.args.kept.now.dir in
    let target = c.args.ask.now.target in
    let images = SparesTaken io.space now.seen in
    comes_none rows c.args.ask.now text images now.size c.args.self.now.stage images c.end.new.self.stage ((c.end.ensures.moves rows target c.in-End.sums c.in-End.to).ends refl)

pub returns-in_default-clause-comes : goal.returns-in_default-clause-comes
returns-in_default-clause-comes g c = λ text begins. c.go_on.ensures.comes c.args.kept.now.dir c.args.ask.now text

pub returns-in-Begin-clause-spends : goal.returns-in-Begin-clause-spends
returns-in-Begin-clause-spends g c = spends_idle (covered_of c.args.covered.now ∷ []) c.args.io.now.space _ c.begin.ensures.no_block

pub returns-in-End-clause-spends : goal.returns-in-End-clause-spends
returns-in-End-clause-spends g c = spends_idle (covered_of c.args.covered.now ∷ []) c.args.io.now.space _ refl

pub returns-in-Begin-clause-moves : goal.returns-in-Begin-clause-moves
returns-in-Begin-clause-moves g c =
    let rows = c.args.kept.now.dir in
    let target = c.args.ask.now.target in
    subst (λ (h : Head). Moves rows target h c.args.self.now c.begin.new.self c.begin.result) (sym c.in-Begin.is) (c.begin.ensures.moves c.in-Begin.payload_len)

pub returns-in-Begin-clause-plans : goal.returns-in-Begin-clause-plans
returns-in-Begin-clause-plans g c =
    let e = c.begin.ensures in
    plans_begin c.args.kept.now.dir c.args.ask.now c.args.covered.now.head.now _ c.in-Begin.payload_len (waits_at c.args.self.now.stage) c.begin.result c.in-Begin.is e.planned e.because

pub returns-in-End-clause-moves : goal.returns-in-End-clause-moves
returns-in-End-clause-moves g c =
    let rows = c.args.kept.now.dir in
    let target = c.args.ask.now.target in
    subst (λ (h : Head). Moves {A = Unit {0}} rows target h c.args.self.now c.end.new.self (Ok tt)) (sym c.in-End.is) (c.end.ensures.moves rows target c.in-End.sums c.in-End.to)

pub returns-in-End-clause-plans : goal.returns-in-End-clause-plans
returns-in-End-clause-plans g c =
    plans_none c.args.kept.now.dir c.args.ask.now c.args.covered.now.head.now (waits_at c.args.self.now.stage) (Ok tt) (ap is_begin c.in-End.is) (λ fault is. absurd (cc is))

pub returns-in_default-clause-moves : goal.returns-in_default-clause-moves
returns-in_default-clause-moves g c = c.go_on.ensures.moves c.args.kept.now.dir c.args.ask.now.target

pub returns-in_default-clause-plans : goal.returns-in_default-clause-plans
returns-in_default-clause-plans g c =
    let head = c.args.covered.now.head.now in
    plans_none c.args.kept.now.dir c.args.ask.now head (waits_at c.args.self.now.stage) c.go_on.result (not_begin head (λ header len is. c.in_default.not-Begin header len is)) c.go_on.ensures.unplanned
