use Rattle.std.specs.List.{concat}
use Rattle.std.proofs.Common.{ℕ, List, [], ◌∷◌, ◌++◌, Ok, Err, inl, refl, sym, ap, ◌∙◌, subst, arith}
use Rattle.zst_plan.specs.declared.receive.RecvAsk.{RecvAsk}
use Rattle.zst_recv.specs.Stages.{fed_of}
use Rattle.zst_pool.specs.Calls.{IsAtRest}
use Rattle.zst_recv.specs.ReceiveSteps.{left_by}
use Rattle.zst_run.proofs.LaterDisks.{later_io, later_none, later_then}
use Rattle.zst_run.proofs.ReceiveLemmas.{cut_fed, cut_refused, fed_none, more_fed, received_fed, refused_earlier, refused_fed, rose_behind}
use Rattle.zst_run.specs.Receives.{IsDamagedReceive, SaysOfPlan}
use Rattle.zst_run.specs.ReceiveTurns.{PlansOn, Traced, line_of, told, Fed, WaitsForMore}
use Rattle.zst_image.specs.Bodies.{free_by}
use Rattle.zst_model.specs.declared.refusals.refusal.Refusal.{Refusal}
use Rattle.zst_block.specs.Blocks.{KeepsBlocks}
use Rattle.zst_model.specs.declared.refusals.refusal.Refusal.TheVariants as refusals
use Rattle.zst_recv.specs.Damage.{IsDamagedFeed, MakesStage}
use Rattle.zst_run.specs.declared.receive.Turn.TheVariants as turns
use Rattle.zst_run.proofs.ReceiveDamage.{cut_undamaged, damaged_behind, err_refused, stood_behind, traced_later, traced_on, turn_refused, unfed_traced}
use Rattle.zst_run.proofs.ReceivePlans.{cut_plans, gave_none, received_plans, so_far}
use Rattle.zst_run.proofs.receive.feed_all.Goals as goal

pub pieces-init : goal.pieces-init
pieces-init g c = record {
  feeding = fed_none _ _ _ _ c.requires.unfed.reads c.requires.unfed.hands;
  plans = λ rows text gave on. subst (λ (t : List ℕ). PlansOn rows c.args.pool.now.kept c.args.recv t) (sym (gave_none (g.S.Source.state c.args.input.now) text gave)) on;
  blocks = λ ptr bytes has. has;
  size = refl;
  traced = λ text gave honest.
      let start = g.D.Disk.state c.args.pool.now.io.disk.now in
      unfed_traced start c.args.pool.now.kept c.args.recv.ask text start.seen c.args.recv.stage c.requires.unfed.waits;
  can_feed = c.requires.can_feed;
  room = c.requires.room;
  ask = refl;
  later = later_none _;
  counts = refl;
  input_later = omega arith;
}

pub pieces-preserved : goal.pieces-preserved
pieces-preserved g c =
    let i = c.pieces.invariant in
    let e = c.in-More.ensures in
    record {
      feeding = more_fed _ _ _ _ _ _ _ _ _ _ _ _ _ _ i.feeding i.ask e.later.honest e.turns;
      plans = λ rows text gave on.
          let front = concat i.feeding.pieces in
          let is = so_far (g.S.Source.state c.args.input.now) (g.S.Source.state c.pieces.input) (g.S.Source.state c.feed_piece.new.input) front e.turns.piece text i.feeding.consumed e.turns.gave gave in
          subst (λ (t : List ℕ). PlansOn rows c.feed_piece.new.pool.kept c.feed_piece.new.recv t) (sym is) (e.plans rows front e.turns.piece e.turns.gave (i.plans rows front i.feeding.consumed on));
      blocks = λ ptr bytes has. e.blocks.blocks refl ptr bytes (i.blocks ptr bytes has);
      size = e.blocks.size ∙ i.size;
      traced = λ text gave honest.
          let start = g.D.Disk.state c.args.pool.now.io.disk.now in
          let old = g.D.Disk.state c.pieces.pool.io.disk.now in
          let new = g.D.Disk.state c.feed_piece.new.pool.io.disk.now in
          let ask = c.args.recv.ask in
          let first = c.args.pool.now.kept in
          let kept = c.pieces.pool.kept in
          let next = c.feed_piece.new.pool.kept in
          let front = concat i.feeding.pieces in
          let read = front ++ e.turns.piece in
          let is = so_far (g.S.Source.state c.args.input.now) (g.S.Source.state c.pieces.input) (g.S.Source.state c.feed_piece.new.input) front e.turns.piece text i.feeding.consumed e.turns.gave gave in
          let sets = e.sets front e.turns.piece e.turns.gave i.feeding.reads in
          let makes = subst (λ (a : RecvAsk). MakesStage kept.dir a read old.seen (free_by kept.body) old.size c.pieces.recv.stage new.seen (free_by next.body) c.feed_piece.new.recv.stage) i.ask (sets.makes honest refl) in
          let so_traced = traced_later start first ask front e.turns.piece old.seen kept c.pieces.recv.stage (i.traced front i.feeding.consumed (e.later.honest honest)) in
          subst (λ (t : List ℕ). Traced start first ask t new.seen next c.feed_piece.new.recv.stage) (sym is)
          (traced_on start first ask read old.seen old.size kept i.size i.blocks c.pieces.recv.stage so_traced new.seen next c.feed_piece.new.recv.stage e.blocks.waits makes);
      can_feed = record { live = e.leaves.ends.0; fits = e.leaves.fits; works = e.leaves.ends.1; ready = e.leaves.ready e.leaves.ends.1 };
      room = e.room ∙ i.room;
      ask = e.leaves.ask ∙ i.ask;
      later = later_then _ _ _ i.later e.later;
      counts = e.leaves.told refl ∙ i.counts;
      input_later = let first = i.input_later in let next = e.input_later in omega arith;
    }

pub pieces-smaller : goal.pieces-smaller
pieces-smaller g c =
    let leaves = c.in-More.ensures.leaves in
    let more = leaves.ends.2 in
    let within = leaves.within in
    omega arith

pub made_receipt-requires : goal.made_receipt-requires
made_receipt-requires g c = c.in-Received.ensures.leaves.ends

pub cut-requires : goal.cut-requires
cut-requires g c = let leaves = c.in-Over.ensures.leaves in record { live = leaves.ends.0; recv = leaves.fits }

pub returns-in-Received-clause-fed : goal.returns-in-Received-clause-fed
returns-in-Received-clause-fed g c =
    let i = c.pieces.invariant in
    let e = c.in-Received.ensures in
    received_fed _ _ _ _ _ _ _ _ _ _ _ _ _ _ i.feeding i.ask e.later.honest e.turns c.made_receipt.result c.made_receipt.ensures.snapshot c.made_receipt.ensures.items

pub returns-in-Over-clause-fed : goal.returns-in-Over-clause-fed
returns-in-Over-clause-fed g c =
    let i = c.pieces.invariant in
    let e = c.in-Over.ensures in
    let cut = c.cut.ensures in
    let disk = ap (λ (io : _). io.disk.now) cut.io in
    subst (λ d. Fed (λ tight pool. WaitsForMore tight (g.D.Disk.state c.args.pool.now.io.disk.now) c.args.pool.now.kept c.args.recv c.args.recv.ask pool [] 0) c.args.pool.now.kept
    (g.D.Disk.state c.args.pool.now.io.disk.now) (g.D.Disk.state d) c.args.recv.ask (g.S.Source.state c.args.input.now) (g.S.Source.state c.feed_piece.new.input) (told (Err c.cut.result))) (sym disk)
    (cut_fed _ _ _ _ _ _ _ _ _ _ _ _ _ _ i.feeding i.ask e.later.honest c.cut.new.pool.kept
    (λ tight bound running image space stage text rests has. subst (λ d. IsAtRest tight (g.D.Disk.state d) c.cut.new.pool.kept (left_by stage running)) disk (cut.rests tight bound running image space stage text rests has))
    c.in-Over.end c.cut.result e.turns cut.is)

pub returns-in-Refused-clause-fed : goal.returns-in-Refused-clause-fed
returns-in-Refused-clause-fed g c =
    let i = c.pieces.invariant in
    let e = c.in-Refused.ensures in
    refused_fed _ _ _ _ _ _ _ _ _ _ _ _ _ _ i.feeding i.ask e.later.honest c.in-Refused.refusal e.turns

pub returns-in-Received-clause-plans : goal.returns-in-Received-clause-plans
returns-in-Received-clause-plans g c = λ rows text gave on.
    let e = c.in-Received.ensures in
    let i = c.pieces.invariant in
    let front = concat i.feeding.pieces in
    let is = so_far (g.S.Source.state c.args.input.now) (g.S.Source.state c.pieces.input) (g.S.Source.state c.feed_piece.new.input) front e.turns.piece text i.feeding.consumed e.turns.gave gave in
    let turn = e.plans rows front e.turns.piece e.turns.gave (i.plans rows front i.feeding.consumed on) in
    subst (λ (t : List ℕ). SaysOfPlan rows c.args.recv.ask t (told (Ok c.made_receipt.result))) (sym is)
    (subst (λ (a : RecvAsk). SaysOfPlan rows a (front ++ e.turns.piece) (told (Ok c.made_receipt.result))) i.ask
    (received_plans rows c.pieces.recv.ask (front ++ e.turns.piece) (line_of c.made_receipt.result ∷ []) turn))

pub returns-in-Over-clause-plans : goal.returns-in-Over-clause-plans
returns-in-Over-clause-plans g c = λ rows text gave on.
    let e = c.in-Over.ensures in
    let i = c.pieces.invariant in
    let front = concat i.feeding.pieces in
    let is = so_far (g.S.Source.state c.args.input.now) (g.S.Source.state c.pieces.input) (g.S.Source.state c.feed_piece.new.input) front e.turns.piece text i.feeding.consumed e.turns.gave gave in
    let turn = e.plans rows front e.turns.piece e.turns.gave (i.plans rows front i.feeding.consumed on) in
    subst (λ (t : List ℕ). SaysOfPlan rows c.args.recv.ask t (Err c.cut.result)) (sym is)
    (cut_plans rows c.feed_piece.new.pool.kept c.feed_piece.new.recv c.args.recv.ask (front ++ e.turns.piece) c.in-Over.end (fed_of c.feed_piece.new.recv) c.cut.result (e.leaves.ask ∙ i.ask) c.cut.ensures.is turn)

pub returns-in-Refused-clause-plans : goal.returns-in-Refused-clause-plans
returns-in-Refused-clause-plans g c = λ rows text gave on.
    let e = c.in-Refused.ensures in
    let i = c.pieces.invariant in
    let front = concat i.feeding.pieces in
    let is = so_far (g.S.Source.state c.args.input.now) (g.S.Source.state c.pieces.input) (g.S.Source.state c.feed_piece.new.input) front e.turns.piece text i.feeding.consumed e.turns.gave gave in
    let turn = e.plans rows front e.turns.piece e.turns.gave (i.plans rows front i.feeding.consumed on) in
    subst (λ (t : List ℕ). SaysOfPlan rows c.args.recv.ask t (Err c.in-Refused.refusal)) (sym is)
    (subst (λ (a : RecvAsk). SaysOfPlan rows a (front ++ e.turns.piece) (Err c.in-Refused.refusal)) i.ask turn)

pub returns-in-Received-clause-why : goal.returns-in-Received-clause-why
returns-in-Received-clause-why g c =
    let i = c.pieces.invariant in
    let e = c.in-Received.ensures in
    record {
      refused = tt;
      told = λ whole. e.leaves.told refl ∙ i.counts;
      damaged = λ text gave sector stated found honest is. absurd (cc is);
      stood = λ apart. stood_behind (g.D.Disk.state c.args.pool.now.io.disk.now).seen (free_by c.args.pool.now.kept.body) (g.D.Disk.state c.pieces.pool.io.disk.now).seen (free_by c.pieces.pool.kept.body)
          (g.D.Disk.state c.feed_piece.new.pool.io.disk.now).seen i.blocks (e.blocks.stood (λ is. absurd (cc is)));
    }

pub returns-in-Over-clause-why : goal.returns-in-Over-clause-why
returns-in-Over-clause-why g c =
    let start = g.S.Source.state c.args.input.now in
    let now = g.S.Source.state c.feed_piece.new.input in
    let count = fed_of c.feed_piece.new.recv in
    let is = c.cut.ensures.is in
    record {
      refused =
          cut_refused (g.D.Disk.state c.args.pool.now.io.disk.now) (g.D.Disk.state c.cut.new.pool.io.disk.now) start now c.in-Over.end count c.cut.result is
          (rose_behind start (g.S.Source.state c.pieces.input) now c.in-Over.end c.pieces.invariant.input_later c.in-Over.ensures.turns.input_is);
      told = λ whole. ap (λ (io : _). io.checksum_errors) c.cut.ensures.io ∙ c.in-Over.ensures.leaves.told refl ∙ c.pieces.invariant.counts;
      damaged = λ text gave sector stated found honest same. absurd (cut_undamaged c.in-Over.end count sector stated found (sym is ∙ err_refused c.cut.result _ same));
      stood = λ apart.
          let i = c.pieces.invariant in
          let from = (g.D.Disk.state c.args.pool.now.io.disk.now).seen in
          let free = free_by c.args.pool.now.kept.body in
          subst (λ (io : _). KeepsBlocks from free (g.D.Disk.state io.disk.now).seen free) (sym c.cut.ensures.io)
          (stood_behind from free (g.D.Disk.state c.pieces.pool.io.disk.now).seen (free_by c.pieces.pool.kept.body) (g.D.Disk.state c.feed_piece.new.pool.io.disk.now).seen i.blocks
          (c.in-Over.ensures.blocks.stood (λ told. absurd (cc told))));
    }

pub returns-in-Refused-clause-why : goal.returns-in-Refused-clause-why
returns-in-Refused-clause-why g c =
    let i = c.pieces.invariant in
    let e = c.in-Refused.ensures in
    let old = g.D.Disk.state c.pieces.pool.io.disk.now in
    let kept = c.pieces.pool.kept in
    record {
      refused = inl (refused_earlier _ old _ c.in-Refused.refusal i.later.faults e.leaves.ends);
      told = λ whole. e.leaves.told whole ∙ i.counts;
      damaged = λ text gave sector stated found honest is.
          let start = g.D.Disk.state c.args.pool.now.io.disk.now in
          let first = c.args.pool.now.kept in
          let ask = c.args.recv.ask in
          let front = concat i.feeding.pieces in
          let read = front ++ e.turns.piece in
          let whole = so_far (g.S.Source.state c.args.input.now) (g.S.Source.state c.pieces.input) (g.S.Source.state c.feed_piece.new.input) front e.turns.piece text i.feeding.consumed e.turns.gave gave in
          let sets = e.sets front e.turns.piece e.turns.gave i.feeding.reads in
          let told = sets.damaged sector stated found honest (ap (λ (r : Refusal). turns.Refused r) (err_refused c.in-Refused.refusal _ is)) in
          let so_traced = traced_later start first ask front e.turns.piece old.seen kept c.pieces.recv.stage (i.traced front i.feeding.consumed (e.later.honest honest)) in
          subst (λ (t : List ℕ). IsDamagedReceive start.seen start.size first.body first.dir ask t sector stated found) (sym whole)
          (damaged_behind start first ask read old.seen old.size kept i.size i.blocks c.pieces.recv.stage so_traced old refl refl sector stated found
          (subst (λ (a : RecvAsk). IsDamagedFeed old (free_by kept.body) kept.dir a read c.pieces.recv.stage sector stated found) i.ask told));
      stood = λ apart.
          stood_behind (g.D.Disk.state c.args.pool.now.io.disk.now).seen (free_by c.args.pool.now.kept.body) old.seen (free_by kept.body) (g.D.Disk.state c.feed_piece.new.pool.io.disk.now).seen i.blocks
          (e.blocks.stood (λ is. apart (ap (λ (r : Refusal). Err r) (turn_refused c.in-Refused.refusal refusals.DiskFault is))));
    }

pub returns-in-Received-clause-later : goal.returns-in-Received-clause-later
returns-in-Received-clause-later g c = later_then _ _ _ c.pieces.invariant.later c.in-Received.ensures.later

pub returns-in-Over-clause-later : goal.returns-in-Over-clause-later
returns-in-Over-clause-later g c = later_io _ _ _ c.cut.ensures.io (later_then _ _ _ c.pieces.invariant.later c.in-Over.ensures.later)

pub returns-in-Refused-clause-later : goal.returns-in-Refused-clause-later
returns-in-Refused-clause-later g c = later_then _ _ _ c.pieces.invariant.later c.in-Refused.ensures.later
