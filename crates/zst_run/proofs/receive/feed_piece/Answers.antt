use Rattle.std.proofs.Common.{ℕ, ◌<◌, Err, ap, take, ◌∙◌, arith, ◌≡◌, ◌||◌, Bool, false, List, [], ◌++◌, Ok, refl, sym, subst}
use Rattle.std.specs.Prelude.{not}
use Rattle.std.proofs.lemmas.List.Elements.{All-take}
use Rattle.zst_image.specs.Bodies.{free_by}
use Rattle.zst_model.specs.declared.refusals.refusal.Refusal.{Refusal}
use Rattle.zst_pool.specs.declared.fault.PoolFault.TheVariants as pools
use Rattle.zst_recv.specs.declared.fault.RecvFault.{RecvFault}
use Rattle.zst_recv.specs.declared.fault.RecvFault.TheVariants as faults
use Rattle.zst_run.proofs.PieceCosts.{grows_behind, short_behind}
use Rattle.zst_run.proofs.TurnEnds.{turns_on, turns_received, turns_refused, turns_without}
use Rattle.zst_recv.specs.Damage.{IsDamagedFeed, MakesStage}
use Rattle.zst_recv.specs.Faults.{recv_refusal}
use Rattle.zst_recv.proofs.FeedEnds.{fits_within}
use Rattle.zst_run.specs.ReceiveTurns.{TurnPlans, is_damaged, turn_behind}
use Rattle.zst_run.specs.declared.receive.Turn.TheVariants as turns
use Rattle.zst_model.specs.declared.refusals.refusal.Refusal.TheVariants as refusals
use Rattle.zst_run.proofs.ReceiveDamage.{damage_refused, damaged_only, disk_refused, idle_makes, never_refused, turn_refused}
use Rattle.zst_run.proofs.LaterDisks.{later_none}
use Rattle.zst_run.proofs.LiveReceives.{lives_on, lives_without}
use Rattle.zst_run.proofs.ReceiveLemmas.{feed_refused}
use Rattle.zst_run.proofs.ReceivePlans.{ends_plans, gave_one, goes_plans, none_plans, refused_plans, turn_plans}
use Rattle.zst_run.proofs.receive.feed_piece.Goals as goal

pub returns-then-piece-eq0-clause-turns : goal.returns-then-piece-eq0-clause-turns
returns-then-piece-eq0-clause-turns g c =
    let p = c.read_piece-piece in
    rw c.turn_behind.ensures
    (turns_without _ _ p.new.room p.result.count p.result.end p.ensures.within (p.ensures.room ∙ c.requires.room) p.ensures.gave p.ensures.fills c.if-piece-eq0.true _ _ _ _)

pub returns-then-fed-clause-turns : goal.returns-then-fed-clause-turns
returns-then-fed-clause-turns g c =
    let p = c.read_piece-piece in
    let e = c.in-Ok.ensures in
    let bytes = All-take (λ (byte : ℕ). byte < 256) p.result.count p.new.room p.ensures.bytes in
    turns_received _ _ p.new.room p.result.count p.result.end p.ensures.within (p.ensures.room ∙ c.requires.room) p.ensures.gave p.ensures.fills c.records_are_counted.ensures (λ is. c.if-piece-eq0.false is) bytes
    _ _ _ _ _ _ _ e.leaves.receive.ask c.in-Ok.fed _ (let adds = c.saturating_add.ensures in omega (arith, adds)) (λ tight running text stage honest rests tells fed. e.feeds tight running text stage honest c.requires.can_feed.works rests tells fed) c.if-fed.true
    (λ text handed stands. (e.texts c.requires.can_feed.works (λ is. absurd (cc is)) text handed stands).whole c.requires.can_feed.live (e.leaves.receive.live ∙ ap not c.if-fed.true))

pub returns-else-fed-clause-turns : goal.returns-else-fed-clause-turns
returns-else-fed-clause-turns g c =
    let p = c.read_piece-piece in
    let e = c.in-Ok.ensures in
    let bytes = All-take (λ (byte : ℕ). byte < 256) p.result.count p.new.room p.ensures.bytes in
    let live = e.leaves.receive.live ∙ ap not c.if-fed.false in
    rw c.turn_behind-in-Ok.ensures
    (turns_on _ _ p.new.room p.result.count p.result.end p.ensures.within (p.ensures.room ∙ c.requires.room) p.ensures.gave p.ensures.fills c.records_are_counted.ensures (λ is. c.if-piece-eq0.false is) bytes
    _ _ _ _ _ _ _ e.leaves.receive.ask c.in-Ok.fed _ (let adds = c.saturating_add.ensures in omega (arith, adds)) (λ tight running text stage honest rests tells fed. e.feeds tight running text stage honest c.requires.can_feed.works rests tells fed) c.if-fed.false
    (λ text handed stands. (e.texts c.requires.can_feed.works (λ is. absurd (cc is)) text handed stands).stands live)
    (λ text has.
    ((e.texts c.requires.can_feed.works (λ is. absurd (cc is)) text has.0 has.1.stands).hands_out live has.1.whole, grows_behind c.args.recv.now text (take p.result.count p.new.room) _ _ has (e.costs text has.0 has.1.stands).grows)))

pub returns-in-Err-clause-turns : goal.returns-in-Err-clause-turns
returns-in-Err-clause-turns g c =
    let p = c.read_piece-piece in
    let e = c.in-Err.ensures in
    let bytes = All-take (λ (byte : ℕ). byte < 256) p.result.count p.new.room p.ensures.bytes in
    rw c.from.ensures
    (turns_refused _ _ p.new.room p.result.count p.result.end p.ensures.within (p.ensures.room ∙ c.requires.room) p.ensures.gave p.ensures.fills c.records_are_counted.ensures (λ is. c.if-piece-eq0.false is) bytes
    _ _ _ _ _ _ _ e.leaves.receive.ask _ c.in-Err.fault (e.leaves.pool.known c.requires.can_feed.works) (λ tight running text stage honest rests tells fed. e.feeds tight running text stage honest c.requires.can_feed.works rests tells fed)
    (λ text handed told stands is. (e.texts c.requires.can_feed.works (λ out. absurd (cc (is, out))) text handed stands).stream told (ap (λ (f : RecvFault). Err f) is))
    (λ text handed need largest hands is.
    let full = ap (λ (f : RecvFault). Err f) is in
    short_behind c.args.recv.now.reader text (take p.result.count p.new.room) handed _ _ _ need largest hands (e.leaves.pool.stays (faults.Pool (pools.Full need largest)) full refl) ((e.costs text handed hands.stands).short need largest full)))

pub returns-then-piece-eq0-clause-plans : goal.returns-then-piece-eq0-clause-plans
returns-then-piece-eq0-clause-plans g c = λ rows text piece gave on.
    let p = c.read_piece-piece in
    let old = g.S.Source.state c.args.input.now in
    let new = g.S.Source.state p.new.input in
    let given = take p.result.count p.new.room in
    let recv = c.args.recv.now in
    let kept = c.args.pool.now.kept in
    let one : piece ≡ given = gave_one old new piece given gave p.ensures.gave in
    let none : piece ≡ [] = one ∙ ap (λ (n : ℕ). take n p.new.room) c.if-piece-eq0.true in
    rw c.turn_behind.ensures (turn_plans rows recv.ask kept recv (text ++ piece) p.result.end (none_plans rows kept recv text piece none on))

pub returns-then-fed-clause-plans : goal.returns-then-fed-clause-plans
returns-then-fed-clause-plans g c = λ rows text piece gave on.
    let p = c.read_piece-piece in
    let old = g.S.Source.state c.args.input.now in
    let new = g.S.Source.state p.new.input in
    let given = take p.result.count p.new.room in
    let recv = c.args.recv.now in
    let kept = c.args.pool.now.kept in
    let one : piece ≡ given = gave_one old new piece given gave p.ensures.gave in
    let e = c.in-Ok.ensures in
    subst (λ (q : List ℕ). TurnPlans rows recv.ask c.feed.new.pool.kept c.feed.new.self (text ++ q) turns.Received) (sym one)
    (ends_plans c.fronts_agree.ensures rows kept c.feed.new.pool.kept recv c.feed.new.self text given (Ok c.in-Ok.fed) on e.leaves.receive.ask (λ memory. (e.texts c.requires.can_feed.works memory text on.fed.0 on.fed.1).planned) c.in-Ok.fed refl)

pub returns-else-fed-clause-plans : goal.returns-else-fed-clause-plans
returns-else-fed-clause-plans g c = λ rows text piece gave on.
    let p = c.read_piece-piece in
    let old = g.S.Source.state c.args.input.now in
    let new = g.S.Source.state p.new.input in
    let given = take p.result.count p.new.room in
    let recv = c.args.recv.now in
    let kept = c.args.pool.now.kept in
    let one : piece ≡ given = gave_one old new piece given gave p.ensures.gave in
    let e = c.in-Ok.ensures in
    let t = e.texts c.requires.can_feed.works (λ is. absurd (cc is)) text on.fed.0 on.fed.1 in
    rw c.turn_behind-in-Ok.ensures
    (subst (λ (q : List ℕ). TurnPlans rows recv.ask c.feed.new.pool.kept c.feed.new.self (text ++ q) (turn_behind p.result.end)) (sym one)
    (turn_plans rows recv.ask c.feed.new.pool.kept c.feed.new.self (text ++ given) p.result.end
    (goes_plans c.fronts_agree.ensures rows kept c.feed.new.pool.kept recv c.feed.new.self text given (Ok c.in-Ok.fed) on e.leaves.receive.ask (λ memory. t.planned) c.in-Ok.fed refl
    (t.stands (e.leaves.receive.live ∙ ap not c.if-fed.false)) e.leaves.kept.waits e.leaves.receive.waited t.uncovered t.still)))

pub returns-in-Err-clause-plans : goal.returns-in-Err-clause-plans
returns-in-Err-clause-plans g c = λ rows text piece gave on.
    let p = c.read_piece-piece in
    let old = g.S.Source.state c.args.input.now in
    let new = g.S.Source.state p.new.input in
    let given = take p.result.count p.new.room in
    let recv = c.args.recv.now in
    let kept = c.args.pool.now.kept in
    let one : piece ≡ given = gave_one old new piece given gave p.ensures.gave in
    let e = c.in-Err.ensures in
    rw c.from.ensures
    (subst (λ (q : List ℕ). TurnPlans rows recv.ask c.feed.new.pool.kept c.feed.new.self (text ++ q) (turns.Refused (recv_refusal c.in-Err.fault))) (sym one)
    (refused_plans c.fronts_agree.ensures rows kept c.feed.new.pool.kept recv c.feed.new.self text given (Err c.in-Err.fault) on e.leaves.receive.ask (λ memory. (e.texts c.requires.can_feed.works memory text on.fed.0 on.fed.1).planned) c.in-Err.fault refl
    (λ told planned is. (e.texts c.requires.can_feed.works (λ out. absurd (cc (is, out))) text on.fed.0 on.fed.1).because told planned is)))

pub returns-then-piece-eq0-clause-leaves : goal.returns-then-piece-eq0-clause-leaves
returns-then-piece-eq0-clause-leaves g c =
    let p = c.read_piece-piece in
    let can = c.requires.can_feed in
    let disk = g.D.Disk.state c.args.pool.now.io.disk.now in
    record {
      ends =
          rw c.turn_behind.ensures
          (lives_without disk disk c.args.recv.now c.args.pool.now.io.failed (g.S.Source.state c.args.input.now) (g.S.Source.state p.new.input) p.new.room p.result.count p.result.end c.if-piece-eq0.true
          (p.ensures.room ∙ c.requires.room) p.ensures.fills can.live can.works);
      within = fits_within _ _ can.fits;
      ask = refl;
      fits = can.fits;
      ready = λ works. can.ready;
      told = λ whole. refl;
    }

pub returns-then-fed-clause-leaves : goal.returns-then-fed-clause-leaves
returns-then-fed-clause-leaves g c =
    let e = c.in-Ok.ensures in record { ends = e.leaves.receive.received c.if-fed.true; within = e.leaves.receive.within; ask = e.leaves.receive.ask; fits = e.leaves.receive.fits; ready = e.leaves.pool.ready; told = λ whole. e.leaves.pool.told refl }

pub returns-else-fed-clause-leaves : goal.returns-else-fed-clause-leaves
returns-else-fed-clause-leaves g c =
    let p = c.read_piece-piece in
    let e = c.in-Ok.ensures in
    let goes = ap not c.if-fed.false in
    record {
      ends =
          rw c.turn_behind-in-Ok.ensures
          (lives_on (g.D.Disk.state c.args.pool.now.io.disk.now) (g.D.Disk.state c.feed.new.pool.io.disk.now) c.args.recv.now c.feed.new.self c.feed.new.pool.io.failed (g.S.Source.state c.args.input.now)
          (g.S.Source.state p.new.input) p.new.room p.result.count p.result.end p.ensures.within (p.ensures.room ∙ c.requires.room) p.ensures.fills (e.leaves.receive.live ∙ goes)
          (e.leaves.pool.failed ∙ ap (λ (b : Bool). b || false) c.requires.can_feed.works) (e.leaves.receive.fed goes));
      within = e.leaves.receive.within;
      ask = e.leaves.receive.ask;
      fits = e.leaves.receive.fits;
      ready = e.leaves.pool.ready;
      told = λ whole. e.leaves.pool.told refl;
    }

pub returns-in-Err-clause-leaves : goal.returns-in-Err-clause-leaves
returns-in-Err-clause-leaves g c =
    let e = c.in-Err.ensures in
    let can = c.requires.can_feed in
    record {
      ends =
          rw c.from.ensures
          (feed_refused (g.D.Disk.state c.args.pool.now.io.disk.now) (g.D.Disk.state c.feed.new.pool.io.disk.now) c.in-Err.fault (e.leaves.pool.known can.works) e.leaves.pool.cause);
      within = e.leaves.receive.within;
      ask = e.leaves.receive.ask;
      fits = e.leaves.receive.fits;
      ready = e.leaves.pool.ready;
      told = λ whole. e.leaves.pool.told (damage_refused c.in-Err.fault (ap is_damaged (sym c.from.ensures) ∙ whole));
    }

pub returns-then-piece-eq0-clause-later : goal.returns-then-piece-eq0-clause-later
returns-then-piece-eq0-clause-later g c = later_none _

pub returns-then-fed-clause-later : goal.returns-then-fed-clause-later
returns-then-fed-clause-later g c = let e = c.in-Ok.ensures.leaves.pool in record { faults = e.cause.later; honest = e.honest; same = e.same }

pub returns-else-fed-clause-later : goal.returns-else-fed-clause-later
returns-else-fed-clause-later g c = let e = c.in-Ok.ensures.leaves.pool in record { faults = e.cause.later; honest = e.honest; same = e.same }

pub returns-in-Err-clause-later : goal.returns-in-Err-clause-later
returns-in-Err-clause-later g c = let e = c.in-Err.ensures.leaves.pool in record { faults = e.cause.later; honest = e.honest; same = e.same }

pub returns-then-piece-eq0-clause-blocks : goal.returns-then-piece-eq0-clause-blocks
returns-then-piece-eq0-clause-blocks g c =
    record { blocks = λ more ptr bytes has. has; stood = λ apart ptr bytes has. has; size = refl; waits = λ waits. (refl, waits) }

pub returns-then-fed-clause-blocks : goal.returns-then-fed-clause-blocks
returns-then-fed-clause-blocks g c =
    let e = c.in-Ok.ensures in
    record {
      blocks = λ more. absurd (cc more);
      stood = λ apart. e.leaves.pool.stood (λ is. absurd (cc is));
      size = e.leaves.pool.size;
      waits = λ waits. (e.leaves.kept.waits waits, e.leaves.receive.waited waits);
    }

pub returns-else-fed-clause-blocks : goal.returns-else-fed-clause-blocks
returns-else-fed-clause-blocks g c =
    let e = c.in-Ok.ensures in
    record {
      blocks = λ more. e.leaves.pool.blocks (λ is. absurd (cc is));
      stood = λ apart. e.leaves.pool.stood (λ is. absurd (cc is));
      size = e.leaves.pool.size;
      waits = λ waits. (e.leaves.kept.waits waits, e.leaves.receive.waited waits);
    }

pub returns-in-Err-clause-blocks : goal.returns-in-Err-clause-blocks
returns-in-Err-clause-blocks g c =
    let e = c.in-Err.ensures in
    record {
      blocks = λ more. absurd (cc more);
      stood = λ apart. e.leaves.pool.stood (λ is. apart (ap (λ (r : Refusal). turns.Refused r) (c.from.ensures ∙ disk_refused c.in-Err.fault is)));
      size = e.leaves.pool.size;
      waits = λ waits. (e.leaves.kept.waits waits, e.leaves.receive.waited waits);
    }

-- ---- what it makes of the set

pub returns-then-piece-eq0-clause-sets : goal.returns-then-piece-eq0-clause-sets
returns-then-piece-eq0-clause-sets g c = λ text piece gave fed.
    let pool = c.args.pool.now in
    let recv = c.args.recv.now in
    let disk = g.D.Disk.state pool.io.disk.now in
    record {
      makes = λ honest more. idle_makes pool.kept.dir recv.ask (text ++ piece) disk.seen (free_by pool.kept.body) disk.size recv.stage;
      damaged = λ sector stated found honest is. absurd (never_refused c.read_piece-piece.result.end (refusals.Damaged sector stated found) (sym c.turn_behind.ensures ∙ is));
    }

pub returns-then-fed-clause-sets : goal.returns-then-fed-clause-sets
returns-then-fed-clause-sets g c = λ text piece gave fed. record { makes = λ honest more. absurd (cc more); damaged = λ sector stated found honest is. absurd (cc is) }

pub returns-else-fed-clause-sets : goal.returns-else-fed-clause-sets
returns-else-fed-clause-sets g c = λ text piece gave fed.
    let p = c.read_piece-piece in
    let given = take p.result.count p.new.room in
    let one : piece ≡ given = gave_one (g.S.Source.state c.args.input.now) (g.S.Source.state p.new.input) piece given gave p.ensures.gave in
    let pool = c.args.pool.now in
    let next = c.feed.new.pool in
    let recv = c.args.recv.now in
    let old = g.D.Disk.state pool.io.disk.now in
    let new = g.D.Disk.state next.io.disk.now in
    record {
      makes = λ honest more.
          subst (λ (q : List ℕ). MakesStage pool.kept.dir recv.ask (text ++ q) old.seen (free_by pool.kept.body) old.size recv.stage new.seen (free_by next.kept.body) c.feed.new.self.stage) (sym one)
          ((c.in-Ok.ensures.traces text fed.0 fed.1 honest).makes (ap not c.if-fed.false));
      damaged = λ sector stated found honest is. absurd (never_refused p.result.end (refusals.Damaged sector stated found) (sym c.turn_behind-in-Ok.ensures ∙ is));
    }

pub returns-in-Err-clause-sets : goal.returns-in-Err-clause-sets
returns-in-Err-clause-sets g c = λ text piece gave fed.
    let p = c.read_piece-piece in
    let given = take p.result.count p.new.room in
    let one : piece ≡ given = gave_one (g.S.Source.state c.args.input.now) (g.S.Source.state p.new.input) piece given gave p.ensures.gave in
    let pool = c.args.pool.now in
    let recv = c.args.recv.now in
    record {
      makes = λ honest more. absurd (cc more);
      damaged = λ sector stated found honest is.
          subst (λ (q : List ℕ). IsDamagedFeed (g.D.Disk.state pool.io.disk.now) (free_by pool.kept.body) pool.kept.dir recv.ask (text ++ q) recv.stage sector stated found) (sym one)
          ((c.in-Err.ensures.traces text fed.0 fed.1 honest).damaged c.requires.can_feed.works sector stated found
          (ap (λ (f : RecvFault). Err f) (damaged_only c.in-Err.fault sector stated found (sym c.from.ensures ∙ turn_refused c.from.result (refusals.Damaged sector stated found) is))));
    }
