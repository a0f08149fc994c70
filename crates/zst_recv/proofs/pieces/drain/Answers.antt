use Rattle.std.proofs.Common.{◌≡◌, ◌+◌, ◌<◌, Bool, true, false, List, [], ◌++◌, Err, Option, Result, sym, ap, ◌∙◌, subst}
use Rattle.std.specs.Prelude.{None}
use Rattle.std.proofs.lemmas.Bool.{eqb-true}
use Rattle.std.proofs.lemmas.Result.{err_from_is_err_and}
use Rattle.zst_block.specs.Blocks.{SparesTaken}
use Rattle.zst_block.specs.IoStates.{blocks_of, io_of}
use Rattle.zst_image.specs.Reads.{bound_of}
use Rattle.zst_model.specs.pools.Pool.{Pool}
use Rattle.zst_record.specs.Heads.{Covered}
use Rattle.zst_block.specs.declared.fault.BlockFault.{BlockFault}
use Rattle.zst_reader.specs.StandsFor.{StandsFor}
use Rattle.zst_recv.specs.Costs.{Spends}
use Rattle.zst_recv.specs.Faults.{Fills, stop_of}
use Rattle.zst_recv.specs.PutOffWrites.{SpendsGathered}
use Rattle.zst_recv.specs.Stages.{IsBatch, has_partial, is_live, waits_at}
use Rattle.zst_recv.specs.declared.batch.Batch as batches
use Rattle.zst_recv.specs.declared.fault.RecvFault.{RecvFault}
use Rattle.zst_recv.proofs.BatchMoves.{partial_begun, partial_lives}
use Rattle.zst_recv.proofs.DamageLemmas.{err_told, no_stream, record_known}
use Rattle.zst_recv.proofs.DrainLemmas.{Fills-then, goes_under}
use Rattle.zst_recv.proofs.DrainedRuns.{covers_put, drains_none, drains_settled, drains_stopped, empties_stopped, handed_settled, not_stopped, texts_settled}
use Rattle.zst_recv.proofs.Gatherings.{gathered_all, gathered_then}
use Rattle.zst_recv.proofs.PassedRuns.{gathers_then, never_waits}
use Rattle.zst_recv.proofs.RecordEffects.{next_number}
use Rattle.zst_recv.proofs.RunSettles.{none_is}
use Rattle.zst_recv.proofs.SetOrigins.{comes_then, damaged_then}
use Rattle.zst_recv.proofs.pieces.drain.Goals as goal

-- a fault that settling answers
abbrev refused_so : RecvFault → Result (Unit {0}) RecvFault
refused_so fault = Err fault

pub returns-then-is_empty-clause-drained : goal.returns-then-is_empty-clause-drained
returns-then-is_empty-clause-drained g c = λ tight start running plain text handed honest way tells stands is.
    let is_now = λ (t : Bool) (r : Pool). IsBatch (bound_of t (r.number + 1)) (blocks_of c.gather-outcome.new.io) c.gather-outcome.new.batch in
    drains_none c.gather-outcome.new.run (eqb-true c.gather-outcome.new.run.count 0 (sym c.is_empty.ensures ∙ c.if-is_empty.true)) c.args.ask.now running c.gather-outcome.new.reader text handed (is_now tight running) plain c.gather-outcome.result
    (c.gather-outcome.ensures.gathered tight start running plain text handed honest way tells stands is)

pub returns-then-is_empty-clause-spends : goal.returns-then-is_empty-clause-spends
returns-then-is_empty-clause-spends g c = λ text handed stands.
    gathered_all c.gather-outcome.new.run c.gather-outcome.new.reader text handed c.args.io.now.space c.gather-outcome.new.io.space _ (eqb-true c.gather-outcome.new.run.count 0 (sym c.is_empty.ensures ∙ c.if-is_empty.true)) (c.gather-outcome.ensures.spends text handed stands)

pub returns-in_err-settle : goal.returns-in_err-settle
returns-in_err-settle g c =
    let p = err_from_is_err_and c.from_residual.result c.from_residual.ensures.1 in
    let i = c.gather-outcome.ensures in
    let e = c.in_err-settle.ensures in
    let run = c.gather-outcome.new.run in
    let rows = c.args.kept.now.dir in
    let ask = c.args.ask.now in
    let some : 0 < run.count = none_is run.count c.is_empty.result c.is_empty.ensures c.if-is_empty.false in
    let has : has_partial c.gather-outcome.new.batch.stage ≡ true = i.lives some in
    let none = not_stopped run some c.gather-outcome.result i.settled in
    let first = c.args.io.now in
    let mid = c.gather-outcome.new.io in
    let last = c.settle.new.io in
    let fills : Fills (io_of first) (io_of mid) None = subst (λ (s : Option BlockFault). Fills (io_of first) (io_of mid) s) none i.writes.fills in
    let moves = e.moves rows ask.target in
    let same : c.settle.new.batch ≡ c.gather-outcome.new.batch = moves.stays in
    let told = λ (fault : RecvFault) (is : c.from_residual.result ≡ Err fault). sym p.2 ∙ err_told Bool _ _ (sym p.1 ∙ is) in
    record {
      drained = λ tight start running plain text handed honest way tells stands is.
          let was_now = λ (t : Bool) (r : Pool). IsBatch (bound_of t (r.number + 1)) (blocks_of mid) c.gather-outcome.new.batch in
          let is_now = λ (t : Bool) (r : Pool). IsBatch (bound_of t (r.number + 1)) (blocks_of last) c.settle.new.batch in
          let number = next_number (g.D.Disk.state start) (g.D.Disk.state mid.disk.now) mid.space c.args.kept.now running (goes_under c.args.kept.now running way fills) c.saturating_add.result (rw c.uber.ensures at c.saturating_add.ensures) in
          rw (p.1, p.2) (drains_stopped run some ask running c.gather-outcome.new.reader text handed (was_now tight running) (is_now tight running) plain _ c.gather-outcome.result i.settled (i.gathered tight start running plain text handed (e.fills.fills.honest honest) way tells stands is)
          (λ records work due was. e.settled tight running ask work records honest number due was));
      gathers = gathers_then rows ask.target _ _ _ i.gathers moves.gathers;
      writes = record { fills = rw (p.1, p.2) (Fills-then fills e.fills); known = rw (p.1, p.2) (record_known _ e.known) };
      texts = λ text handed stands.
          record {
            stream = λ fault is. absurd (no_stream _ fault e.known (told _ is));
            stands = rw p.1 tt;
            hands_out = rw p.1 tt;
            whole = λ was. rw p.1 tt;
            planned = λ fault waits none within refuses. absurd (never_waits c.gather-outcome.new.batch.stage has ((i.leaves text handed stands).refused fault waits none refuses));
            because = λ fault kind is. absurd (let both : true ≡ false = sym kind ∙ e.unplanned fault (ap refused_so (told _ is)) in cc both);
            still = λ waits none. rw p.1 tt;
            uncovered = λ none waits. rw p.1 tt;
          };
      leaves = λ text handed stands.
          let l = i.leaves text handed stands in
          let old = g.D.Disk.state first.disk.now in
          let now = g.D.Disk.state mid.disk.now in
          let waited = λ (waits : waits_at c.gather-outcome.new.batch.stage ≡ true). ap (λ (b : batches.Batch). b.stage) (i.gathers.waits waits) in
          record {
            over = λ live over. l.over live (ap (λ (b : batches.Batch). is_live b.stage) (sym same) ∙ over);
            still = λ waits none. ap (λ (b : batches.Batch). waits_at b.stage) same ∙ l.still waits none;
            refused = λ fault waits none refuses. ap (λ (b : batches.Batch). waits_at b.stage) same ∙ l.refused fault waits none refuses;
            damaged = λ sector stated found honest is.
                damaged_then rows ask text old now first.space mid.space fills.fills c.args.batch.now.stage c.gather-outcome.new.batch.stage waited (l.comes (e.fills.fills.honest honest)) sector stated found
                (e.damaged rows ask text sector stated found honest (ap refused_so (told _ is)));
            comes = λ honest.
                comes_then rows ask text old now first.space mid.space fills.fills c.args.batch.now.stage c.gather-outcome.new.batch.stage waited (l.comes (e.fills.fills.honest honest)) (SparesTaken last.space (g.D.Disk.state last.disk.now).seen) c.settle.new.batch.stage
                (e.comes rows ask text honest);
          };
      behind = λ text handed stands is. rw p.1 tt;
      empties = rw p.1 (empties_stopped c.args.reader.now c.gather-outcome.new.reader _ c.gather-outcome.result i.empties (λ text handed stands none. covers_put run c.gather-outcome.new.reader text handed _ _ _ some (i.spends text handed stands) none));
      spends = λ text handed stands.
          let spent = subst (λ (s : Option BlockFault). SpendsGathered run c.gather-outcome.new.reader text handed first.space mid.space s) none (i.spends text handed stands) in
          rw (p.1, p.2) (gathered_then run c.gather-outcome.new.reader text handed first.space mid.space last.space _ spent e.spends);
    }

pub returns : goal.returns
returns g c =
    let i = c.gather-outcome.ensures in
    let e = c.in_ok-settle.ensures in
    let run = c.gather-outcome.new.run in
    let rows = c.args.kept.now.dir in
    let ask = c.args.ask.now in
    let some : 0 < run.count = none_is run.count c.is_empty.result c.is_empty.ensures c.if-is_empty.false in
    let has : has_partial c.gather-outcome.new.batch.stage ≡ true = i.lives some in
    let none = not_stopped run some c.gather-outcome.result i.settled in
    let first = c.args.io.now in
    let mid = c.gather-outcome.new.io in
    let last = c.settle.new.io in
    let fills : Fills (io_of first) (io_of mid) None = subst (λ (s : Option BlockFault). Fills (io_of first) (io_of mid) s) none i.writes.fills in
    let moves = e.moves rows ask.target in
    let stands_on = moves.lives some in
    let live : is_live c.settle.new.batch.stage ≡ is_live c.gather-outcome.new.batch.stage = partial_lives c.settle.new.batch.stage stands_on ∙ sym (partial_lives c.gather-outcome.new.batch.stage has) in
    let begun : waits_at c.settle.new.batch.stage ≡ waits_at c.gather-outcome.new.batch.stage = partial_begun c.settle.new.batch.stage stands_on ∙ sym (partial_begun c.gather-outcome.new.batch.stage has) in
    record {
      drained = λ tight start running plain text handed honest way tells stands is.
          let was_now = λ (t : Bool) (r : Pool). IsBatch (bound_of t (r.number + 1)) (blocks_of mid) c.gather-outcome.new.batch in
          let is_now = λ (t : Bool) (r : Pool). IsBatch (bound_of t (r.number + 1)) (blocks_of last) c.settle.new.batch in
          let number = next_number (g.D.Disk.state start) (g.D.Disk.state mid.disk.now) mid.space c.args.kept.now running (goes_under c.args.kept.now running way fills) c.saturating_add.result (rw c.uber.ensures at c.saturating_add.ensures) in
          drains_settled run some ask running c.gather-outcome.new.reader text handed (was_now tight running) (is_now tight running) plain c.gather-outcome.result i.settled (i.gathered tight start running plain text handed (e.fills.fills.honest honest) way tells stands is)
          (λ records work due was. e.settled tight running ask work records honest number due was);
      gathers = gathers_then rows ask.target _ _ _ i.gathers moves.gathers;
      writes = record { fills = subst (λ (s : Option BlockFault). Fills (io_of first) (io_of last) s) (sym none) (Fills-then fills e.fills); known = i.writes.known };
      texts = λ text handed stands. texts_settled rows ask [] handed text c.args.batch.now.stage c.gather-outcome.new.batch.stage c.settle.new.batch.stage c.gather-outcome.new.reader c.gather-outcome.result live begun (i.texts text handed stands);
      leaves = λ text handed stands.
          let l = i.leaves text handed stands in
          let old = g.D.Disk.state first.disk.now in
          let now = g.D.Disk.state mid.disk.now in
          let waited = λ (waits : waits_at c.gather-outcome.new.batch.stage ≡ true). ap (λ (b : batches.Batch). b.stage) (i.gathers.waits waits) in
          record {
            over = λ alive over. l.over alive (sym live ∙ over);
            still = λ waits none. begun ∙ l.still waits none;
            refused = λ fault waits none refuses. begun ∙ l.refused fault waits none refuses;
            damaged = λ sector stated found honest is. absurd (let told = ap stop_of is in let both = sym none ∙ told in cc both);
            comes = λ honest.
                comes_then rows ask text old now first.space mid.space fills.fills c.args.batch.now.stage c.gather-outcome.new.batch.stage waited (l.comes (e.fills.fills.honest honest)) (SparesTaken last.space (g.D.Disk.state last.disk.now).seen) c.settle.new.batch.stage
                (e.comes rows ask text honest);
          };
      behind = λ text handed stands is. handed_settled c.gather-outcome.new.reader text c.gather-outcome.new.batch.stage c.settle.new.batch.stage c.gather-outcome.result has stands_on live (i.behind text handed stands is);
      empties = i.empties;
      spends = λ text handed stands.
          let spent = subst (λ (s : Option BlockFault). SpendsGathered run c.gather-outcome.new.reader text handed first.space mid.space s) none (i.spends text handed stands) in
          subst (λ (s : Option BlockFault). (records : List Covered) × StandsFor c.gather-outcome.new.reader text (handed ++ records) × Spends records first.space last.space s) (sym none)
          (gathered_then run c.gather-outcome.new.reader text handed first.space mid.space last.space None spent e.spends);
    }
