use Rattle.std.proofs.Common.{◌≡◌, ◌+◌, Bool, ◌<◌, ◌==◌, ◌^◌, false, true, [], ◌++◌, length, take, drop, refl, sym, ap, ◌∙◌, Ok, Err, List, ℕ, subst, append_assoc}
use Rattle.std.proofs.lemmas.List.Elements.{All-from_get_or}
use Rattle.std.proofs.lemmas.Result.{err_from_is_err_and}
use Rattle.zst_block.specs.Blocks.{SparesTaken}
use Rattle.zst_block.specs.IoStates.{blocks_of}
use Rattle.std.proofs.lemmas.List.{append-nil}
use Rattle.zst_reader.specs.StandsFor.{StandsFor, pushed_of, room_of, HandsOut}
use Rattle.zst_image.specs.Reads.{bound_of}
use Rattle.zst_model.specs.pools.Pool.{Pool}
use Rattle.zst_stream.specs.Reading.{Reading, complete, reading, waiting}
use Rattle.zst_recv.specs.Stages.{IsBatch, is_live, waits_at}
use Rattle.zst_recv.specs.declared.batch.Batch as batches
use Rattle.zst_recv.proofs.DrainLemmas.{Fills-none, Fills-then, goes_under}
use Rattle.zst_recv.proofs.PieceFronts.{all_told, left_bytes, less_left, limit_left, more_bytes, piece_begins, piece_done, piece_ends, piece_goes_on, piece_left, piece_refused, piece_split, piece_waits, told_left, whole_read}
use Rattle.zst_recv.specs.declared.fault.RecvFault.{RecvFault}
use Rattle.zst_recv.specs.declared.fault.RecvFault.TheVariants as faults
use Rattle.zst_pool.specs.declared.fault.PoolFault.TheVariants as pools
use Rattle.zst_recv.proofs.DamageLemmas.{err_told, faulty_still}
use Rattle.zst_recv.proofs.HandedRecords.{over_reads, tells_on}
use Rattle.zst_recv.proofs.CoveredEnds.{complete_still, over_piece}
use Rattle.std.specs.Prelude.{None}
use Rattle.zst_recv.proofs.CostLemmas.{spends_idle, spends_whole, spent_then}
use Rattle.zst_recv.specs.Plans.{Begins, RefusesEach, RefusesOne}
use Rattle.zst_recv.proofs.RecordOrder.{nothing_read}
use Rattle.zst_recv.proofs.PlanRefusals.{by_covered, faulty_begins, front_none, front_refused, later_refused, none_begins, waits_live}
use Rattle.zst_recv.proofs.SetOrigins.{comes_on, comes_with, damaged_on, stays_same}
use Rattle.zst_recv.proofs.pieces.read.Goals as goal

-- nothing is covered before anything was pushed
nothing_covered : (reading []).covered ≡ []
nothing_covered = ap (λ (r : Reading). r.covered) nothing_read

pub pushes-init : goal.pushes-init
pushes-init g c =
    let is_now = λ (t : Bool) (r : Pool). IsBatch (bound_of t (r.number + 1)) (blocks_of c.args.io.now) c.args.batch.now in
    record {
      piece = ([], refl, λ tight start running plain text handed told way tells hands is. piece_begins c.args.ask.now running text handed plain c.args.reader.now (is_now tight running) hands is);
      stage = c.requires.stage;
      idle = λ none. refl;
      waits = λ waits. refl;
      reads = c.requires.reads;
      front = ([], refl, λ text handed stands. (handed, rw (append-nil text) stands), λ text handed stands live over. absurd (let both = sym live ∙ over in cc));
      planned = ([], refl, λ text handed stands. (handed, rw (append-nil text) stands), λ text handed stands none waits. rw (append-nil text) none, λ text handed fault stands waits refuses. waits, λ text handed stands waits none. waits);
      told = refl;
      bytes = All-from_get_or (λ byte. byte < 2 ^ 8) c.args.piece.now 0 (λ k within. (c.type_inv.piece k).fits);
      limit = c.requires.limit;
      fills = Fills-none _;
      comes = λ text handed stands honest.
          let io = c.args.io.now in
          let now = g.D.Disk.state io.disk.now in
          let stage = c.args.batch.now.stage in
          let read = text ++ c.args.piece.now in
          comes_with c.args.kept.now.dir c.args.ask.now read (SparesTaken io.space now.seen) now.size stage stage (stays_same c.args.kept.now.dir c.args.ask.now read stage);
      hands = ([], refl, λ text handed hands. (handed, rw (append-nil text) hands));
      spent = ([], refl, λ text handed stands. ([], rw (append-nil text, append-nil handed) stands, spends_idle [] c.args.io.now.space None refl));
    }

pub drain-requires-clause-reads : goal.drain-requires-clause-reads
drain-requires-clause-reads g c =
    let i = c.pushes.invariant in
    let r = i.reads in
    let n = c.push-count.result in
    let rest = c.pushes.rest.now in
    record { text = r.text ++ take n rest; bytes = more_bytes r.text rest n r.bytes i.bytes; handed = r.handed; stands = c.push-count.ensures.stands r.text r.handed r.stands; behind = r.behind }

pub pushes-smaller : goal.pushes-smaller
pushes-smaller g c =
    let e = c.in_ok-drain.ensures in
    let any : (length c.pushes.rest.now == 0) ≡ false = sym c.is_empty.ensures ∙ c.pushes-test.true in
    less_left c.pushes.rest.now c.push-count.result (room_of c.pushes.reader) (room_of c.drain.new.reader) any c.push-count.ensures.count (e.empties.room (ap Ok c.if-branch.false))

pub pushes-preserved : goal.pushes-preserved
pushes-preserved g c =
    let i = c.pushes.invariant in
    let push = c.push-count.ensures in
    let e = c.in_ok-drain.ensures in
    let n = c.push-count.result in
    let rest = c.pushes.rest.now in
    let is_now = λ (t : Bool) (r : Pool). IsBatch (bound_of t (r.number + 1)) (blocks_of c.drain.new.io) c.drain.new.batch in
    record {
      piece = (
        i.piece.0 ++ take n rest,
        piece_left c.args.piece.now i.piece.0 rest n i.piece.1,
        λ tight start running plain text handed told way tells hands is.
            let m = i.piece.2 tight start running plain text handed (e.writes.fills.fills.honest told) way tells hands is in
            let d =
            e.drained tight start running m.after ((text ++ i.piece.0) ++ take n rest) (handed ++ m.records) told (goes_under _ running way i.fills) (tells_on c.args.kept.now.dir running c.args.ask.now m.records plain m.after m.were_taken tells)
            (push.stands (text ++ i.piece.0) (handed ++ m.records) m.reads.stands) m.is in
            piece_goes_on c.args.ask.now running text handed plain hands.whole c.args.piece.now _ c.drain.new.reader i.piece.0 (take n rest) (drop n rest) _ (is_now tight running) (piece_split c.args.piece.now i.piece.0 rest n i.piece.1) m
            c.in_ok-drain.field-0 c.if-branch.false d,
      );
      stage = e.gathers.fits i.stage;
      idle = λ none. let same = e.gathers.idle none in same ∙ i.idle (ap (λ (b : batches.Batch). b.taken) (sym same) ∙ none);
      waits = λ waits. let same = e.gathers.waits waits in same ∙ i.waits (ap (λ (b : batches.Batch). waits_at b.stage) (sym same) ∙ waits);
      reads =
          let r = i.reads in
          let later = e.behind (r.text ++ take n rest) r.handed (push.stands r.text r.handed r.stands) r.behind in
          record { text = r.text ++ take n rest; bytes = more_bytes r.text rest n r.bytes i.bytes; handed = later.handed; stands = later.stands; behind = later.behind };
      front = (
        i.front.0 ++ take n rest,
        piece_left c.args.piece.now i.front.0 rest n i.front.1,
        λ text handed stands.
            let m = i.front.2 text handed stands in
            let d = e.spends ((text ++ i.front.0) ++ take n rest) m.0 (push.stands (text ++ i.front.0) m.0 m.1) in
            (m.0 ++ d.0, subst (λ (t : List ℕ). StandsFor c.drain.new.reader t (m.0 ++ d.0)) (append_assoc text i.front.0 (take n rest)) d.1),
        λ text handed stands live over.
            let m = i.front.2 text handed stands in
            subst (λ (t : List ℕ). (reading t).outcome ≡ complete) (append_assoc text i.front.0 (take n rest))
            (over_piece text i.front.0 (take n rest) c.pushes.batch.stage (i.front.3 text handed stands live) (λ lives. (e.leaves ((text ++ i.front.0) ++ take n rest) m.0 (push.stands (text ++ i.front.0) m.0 m.1)).over lives over)),
      );
      planned = (
        i.planned.0 ++ take n rest,
        piece_left c.args.piece.now i.planned.0 rest n i.planned.1,
        λ text handed stands.
            let m = i.planned.2 text handed stands in
            let d = e.spends ((text ++ i.planned.0) ++ take n rest) m.0 (push.stands (text ++ i.planned.0) m.0 m.1) in
            (m.0 ++ d.0, subst (λ (t : List ℕ). StandsFor c.drain.new.reader t (m.0 ++ d.0)) (append_assoc text i.planned.0 (take n rest)) d.1),
        λ text handed stands none waits.
            let m = i.planned.2 text handed stands in
            subst (λ (t : List ℕ). (reading t).covered ≡ []) (append_assoc text i.planned.0 (take n rest)) ((e.texts ((text ++ i.planned.0) ++ take n rest) m.0 (push.stands (text ++ i.planned.0) m.0 m.1)).uncovered nothing_covered waits),
        λ text handed fault stands waits refuses.
            let m = i.planned.2 text handed stands in
            let read = (text ++ i.planned.0) ++ take n rest in
            let at = push.stands (text ++ i.planned.0) m.0 m.1 in
            let was = i.planned.4 text handed fault stands waits refuses in
            let whole = whole_read text c.args.piece.now i.planned.0 (take n rest) (drop n rest) (piece_split c.args.piece.now i.planned.0 rest n i.planned.1) in
            by_covered (waits_at c.drain.new.batch.stage ≡ true) read (λ none. (e.leaves read m.0 at).still was none)
            (λ first others covers.
            let d =
            (e.texts read m.0 at).planned fault was nothing_covered at.bounded (front_refused c.args.kept.now.dir c.args.ask.now read (drop n rest) fault first others covers (subst (λ (t : List ℕ). RefusesOne c.args.kept.now.dir c.args.ask.now t fault) whole refuses)) in
            absurd (cc d)),
        λ text handed stands waits none.
            let m = i.planned.2 text handed stands in
            let read = (text ++ i.planned.0) ++ take n rest in
            let whole = whole_read text c.args.piece.now i.planned.0 (take n rest) (drop n rest) (piece_split c.args.piece.now i.planned.0 rest n i.planned.1) in
            (e.leaves read m.0 (push.stands (text ++ i.planned.0) m.0 m.1)).still (i.planned.5 text handed stands waits none) (front_none read (drop n rest) (subst (λ (t : List ℕ). (reading t).covered ≡ []) whole none)),
      );
      told = told_left rest n (room_of c.pushes.reader) _ _ _ _ push.count push.pushed e.empties.pushed i.told;
      bytes = left_bytes rest n i.bytes;
      limit = limit_left rest n (room_of c.pushes.reader) (pushed_of c.pushes.reader) (pushed_of c.push-count.new.self) (pushed_of c.drain.new.reader) push.count push.pushed e.empties.pushed i.limit;
      fills = Fills-then i.fills e.writes.fills;
      comes = λ text handed stands honest.
          let first = c.args.io.now in
          let mid = c.pushes.io in
          let last = c.drain.new.io in
          let m = i.planned.2 text handed stands in
          let read = (text ++ i.planned.0) ++ take n rest in
          let leaves = e.leaves read m.0 (push.stands (text ++ i.planned.0) m.0 m.1) in
          comes_on c.args.kept.now.dir c.args.ask.now (text ++ c.args.piece.now) read (drop n rest) (whole_read text c.args.piece.now i.planned.0 (take n rest) (drop n rest) (piece_split c.args.piece.now i.planned.0 rest n i.planned.1))
          (g.D.Disk.state first.disk.now) (g.D.Disk.state mid.disk.now) first.space mid.space i.fills.fills c.args.batch.now.stage c.pushes.batch.stage
          (λ waits. ap (λ (b : batches.Batch). b.stage) (i.waits waits)) (i.comes text handed stands (e.writes.fills.fills.honest honest)) (SparesTaken last.space (g.D.Disk.state last.disk.now).seen) c.drain.new.batch.stage (leaves.comes honest);
      hands = (
        i.hands.0 ++ take n rest,
        piece_left c.args.piece.now i.hands.0 rest n i.hands.1,
        λ text handed hands.
            let m = i.hands.2 text handed hands in
            let d = e.empties.hands_out ((text ++ i.hands.0) ++ take n rest) m.0 (push.stands (text ++ i.hands.0) m.0 m.1.stands) (ap Ok c.if-branch.false) in
            (d.0, subst (λ (t : List ℕ). HandsOut c.drain.new.reader t d.0 waiting) (append_assoc text i.hands.0 (take n rest)) d.1),
      );
      spent = (
        i.spent.0 ++ take n rest,
        piece_left c.args.piece.now i.spent.0 rest n i.spent.1,
        λ text handed stands.
            let m = i.spent.2 text handed stands in
            let d = e.spends ((text ++ i.spent.0) ++ take n rest) (handed ++ m.0) (push.stands (text ++ i.spent.0) (handed ++ m.0) m.1) in
            let both = spent_then c.drain.new.reader ((text ++ i.spent.0) ++ take n rest) handed m.0 c.args.io.now.space c.pushes.io.space c.drain.new.io.space None m.2 d in
            (both.0, subst (λ (t : List ℕ). StandsFor c.drain.new.reader t (handed ++ both.0)) (append_assoc text i.spent.0 (take n rest)) both.1, both.2),
      );
    }

pub returns-in_err-drain : goal.returns-in_err-drain
returns-in_err-drain g c =
    let p = err_from_is_err_and c.from_residual.result c.from_residual.ensures.1 in
    let i = c.pushes.invariant in
    let e = c.in_err-drain.ensures in
    let push = c.push-count.ensures in
    let n = c.push-count.result in
    let rest = c.pushes.rest.now in
    let piece = c.args.piece.now in
    let rows = c.args.kept.now.dir in
    let ask = c.args.ask.now in
    let r = i.reads in
    let spent = e.spends (r.text ++ take n rest) r.handed (push.stands r.text r.handed r.stands) in
    record {
      read = λ tight start running plain text handed told way tells hands is.
          let is_now = λ (t : Bool) (r : Pool). IsBatch (bound_of t (r.number + 1)) (blocks_of c.drain.new.io) c.drain.new.batch in
          let m = i.piece.2 tight start running plain text handed (e.writes.fills.fills.honest told) way tells hands is in
          let d =
          e.drained tight start running m.after ((text ++ i.piece.0) ++ take n rest) (handed ++ m.records) told (goes_under _ running way i.fills) (tells_on rows running ask m.records plain m.after m.were_taken tells)
          (push.stands (text ++ i.piece.0) (handed ++ m.records) m.reads.stands) m.is in
          rw (p.1, p.2) (piece_refused ask running text handed plain hands.whole piece _ c.drain.new.reader i.piece.0 (take n rest) (drop n rest) _ (is_now tight running) (piece_split piece i.piece.0 rest n i.piece.1) m _ d);
      gathers = record {
        fits = λ fits. e.gathers.fits i.stage;
        idle = λ none. let same = e.gathers.idle none in same ∙ i.idle (ap (λ (b : batches.Batch). b.taken) (sym same) ∙ none);
        waits = λ waits. let same = e.gathers.waits waits in same ∙ i.waits (ap (λ (b : batches.Batch). waits_at b.stage) (sym same) ∙ waits);
      };
      writes = record {
        fills = rw (p.1, p.2) (Fills-then i.fills e.writes.fills);
        known = rw (p.1, p.2) e.writes.known;
      };
      texts = λ text handed stands.
          let m = i.planned.2 text handed stands in
          let read = (text ++ i.planned.0) ++ take n rest in
          let at = push.stands (text ++ i.planned.0) m.0 m.1 in
          let whole = whole_read text piece i.planned.0 (take n rest) (drop n rest) (piece_split piece i.planned.0 rest n i.planned.1) in
          let t = e.texts read m.0 at in
          record {
            stream = λ fault is. faulty_still (text ++ piece) read (drop n rest) fault whole (t.stream fault (ap (λ (f : RecvFault). Err f) (sym p.2 ∙ err_told (Unit {0}) _ _ (sym p.1 ∙ is))));
            stands = rw p.1 tt;
            hands_out = rw p.1 tt;
            whole = λ was. rw p.1 tt;
            planned = λ fault waits none within refuses.
                let was = i.planned.4 text handed fault stands waits refuses in
                by_covered (c.from_residual.result ≡ Err (faults.Pool (pools.Plan fault))) read
                (λ empty.
                let s = e.empties.of_stream read m.0 at empty in
                let told = t.stream s.0 (ap (λ (f : RecvFault). Err f) s.1) in
                absurd (faulty_begins read (drop n rest) s.0 refuses.header empty told (subst (λ (t : List ℕ). Begins t refuses.header) whole refuses.begins)))
                (λ first others covers.
                let d = t.planned fault was nothing_covered at.bounded (front_refused rows ask read (drop n rest) fault first others covers (subst (λ (t : List ℕ). RefusesOne rows ask t fault) whole refuses)) in
                p.1 ∙ ap (λ (f : RecvFault). Err f) (p.2 ∙ err_told Bool _ _ d));
            because = λ fault kind is.
                let told = t.because fault kind (ap (λ (f : RecvFault). Err f) (sym p.2 ∙ err_told (Unit {0}) _ _ (sym p.1 ∙ is))) in (
                  ap (λ (b : batches.Batch). waits_at b.stage) (sym (i.waits told.0)) ∙ told.0,
                  subst (λ (t : List ℕ). RefusesEach rows ask t fault) (sym whole) (later_refused rows ask read (drop n rest) fault told.1),
                );
            still = λ waits none. rw p.1 tt;
            uncovered = λ none waits. rw p.1 tt;
          };
      leaves = λ text handed stands.
          let first = c.args.io.now in
          let mid = c.pushes.io in
          let last = c.drain.new.io in
          let f = i.front.2 text handed stands in
          let m = i.planned.2 text handed stands in
          let front = (text ++ i.front.0) ++ take n rest in
          let read = (text ++ i.planned.0) ++ take n rest in
          let l = e.leaves read m.0 (push.stands (text ++ i.planned.0) m.0 m.1) in
          let whole = whole_read text piece i.planned.0 (take n rest) (drop n rest) (piece_split piece i.planned.0 rest n i.planned.1) in
          record {
            over = λ live over.
                complete_still (text ++ piece) front (drop n rest) (whole_read text piece i.front.0 (take n rest) (drop n rest) (piece_split piece i.front.0 rest n i.front.1))
                (over_piece text i.front.0 (take n rest) c.pushes.batch.stage (i.front.3 text handed stands live) (λ lives. (e.leaves front f.0 (push.stands (text ++ i.front.0) f.0 f.1)).over lives over));
            still = λ waits none. l.still (i.planned.5 text handed stands waits none) (front_none read (drop n rest) (subst (λ (t : List ℕ). (reading t).covered ≡ []) whole none));
            refused = λ fault waits none refuses.
                let was = i.planned.4 text handed fault stands waits refuses in
                by_covered (waits_at c.drain.new.batch.stage ≡ true) read (λ empty. l.still was empty)
                (λ first others covers. l.refused fault was nothing_covered (front_refused rows ask read (drop n rest) fault first others covers (subst (λ (t : List ℕ). RefusesOne rows ask t fault) whole refuses)));
            damaged = λ sector stated found honest is.
                damaged_on rows ask (text ++ piece) read (drop n rest) whole (g.D.Disk.state first.disk.now) (g.D.Disk.state mid.disk.now) first.space mid.space i.fills.fills c.args.batch.now.stage c.pushes.batch.stage
                (λ waits. ap (λ (b : batches.Batch). b.stage) (i.waits waits)) (i.comes text handed stands (e.writes.fills.fills.honest honest)) sector stated found
                (l.damaged sector stated found honest (ap (λ (f : RecvFault). Err f) (sym p.2 ∙ err_told (Unit {0}) _ _ (sym p.1 ∙ is))));
            comes = λ honest.
                comes_on rows ask (text ++ piece) read (drop n rest) whole (g.D.Disk.state first.disk.now) (g.D.Disk.state mid.disk.now) first.space mid.space i.fills.fills c.args.batch.now.stage c.pushes.batch.stage
                (λ waits. ap (λ (b : batches.Batch). b.stage) (i.waits waits)) (i.comes text handed stands (e.writes.fills.fills.honest honest)) (SparesTaken last.space (g.D.Disk.state last.disk.now).seen) c.drain.new.batch.stage (l.comes honest);
          };
      takes = record {
        reads = record { text = r.text ++ take n rest; bytes = more_bytes r.text rest n r.bytes i.bytes; handed = r.handed ++ spent.0; stands = spent.1; behind = tt };
        behind = rw p.1 tt;
        all = rw p.1 tt;
      };
      spends = λ text handed stands.
          let m = i.spent.2 text handed stands in
          let got = (text ++ i.spent.0) ++ take n rest in
          let d = e.spends got (handed ++ m.0) (push.stands (text ++ i.spent.0) (handed ++ m.0) m.1) in
          let both = spent_then c.drain.new.reader got handed m.0 c.args.io.now.space c.pushes.io.space c.drain.new.io.space _ m.2 d in
          rw (p.1, p.2) (spends_whole c.drain.new.reader (text ++ piece) got (drop n rest) handed both.0 c.args.io.now.space c.drain.new.io.space _
          (whole_read text piece i.spent.0 (take n rest) (drop n rest) (piece_split piece i.spent.0 rest n i.spent.1)) both.1 both.2);
    }

pub returns-then-branch : goal.returns-then-branch
returns-then-branch g c =
    let i = c.pushes.invariant in
    let e = c.in_ok-drain.ensures in
    let push = c.push-count.ensures in
    let n = c.push-count.result in
    let rest = c.pushes.rest.now in
    let piece = c.args.piece.now in
    let rows = c.args.kept.now.dir in
    let ask = c.args.ask.now in
    let r = i.reads in
    let later = e.behind (r.text ++ take n rest) r.handed (push.stands r.text r.handed r.stands) r.behind in
    let ends : is_live c.drain.new.batch.stage ≡ false = later.over c.if-branch.true in
    record {
      read = λ tight start running plain text handed told way tells hands is.
          let is_now = λ (t : Bool) (r : Pool). IsBatch (bound_of t (r.number + 1)) (blocks_of c.drain.new.io) c.drain.new.batch in
          let m = i.piece.2 tight start running plain text handed (e.writes.fills.fills.honest told) way tells hands is in
          let d =
          e.drained tight start running m.after ((text ++ i.piece.0) ++ take n rest) (handed ++ m.records) told (goes_under _ running way i.fills) (tells_on rows running ask m.records plain m.after m.were_taken tells)
          (push.stands (text ++ i.piece.0) (handed ++ m.records) m.reads.stands) m.is in
          piece_ends ask running text handed plain hands.whole piece _ c.drain.new.reader i.piece.0 (take n rest) (drop n rest) _ (is_now tight running) (piece_split piece i.piece.0 rest n i.piece.1) m c.in_ok-drain.field-0 c.if-branch.true d;
      gathers = record {
        fits = λ fits. e.gathers.fits i.stage;
        idle = λ none. let same = e.gathers.idle none in same ∙ i.idle (ap (λ (b : batches.Batch). b.taken) (sym same) ∙ none);
        waits = λ waits. let same = e.gathers.waits waits in same ∙ i.waits (ap (λ (b : batches.Batch). waits_at b.stage) (sym same) ∙ waits);
      };
      writes = record {
        fills = Fills-then i.fills e.writes.fills;
        known = tt;
      };
      texts = λ text handed stands.
          let f = i.front.2 text handed stands in
          let m = i.planned.2 text handed stands in
          let front = (text ++ i.front.0) ++ take n rest in
          let read = (text ++ i.planned.0) ++ take n rest in
          let at = push.stands (text ++ i.planned.0) m.0 m.1 in
          let whole = whole_read text piece i.planned.0 (take n rest) (drop n rest) (piece_split piece i.planned.0 rest n i.planned.1) in
          record {
            stream = λ fault is. absurd (cc is);
            stands = λ live. absurd (let both : true ≡ false = sym live ∙ ends in cc both);
            hands_out = λ live all. absurd (let both : true ≡ false = sym live ∙ ends in cc both);
            whole = λ live over.
                complete_still (text ++ piece) front (drop n rest) (whole_read text piece i.front.0 (take n rest) (drop n rest) (piece_split piece i.front.0 rest n i.front.1))
                (over_piece text i.front.0 (take n rest) c.pushes.batch.stage (i.front.3 text handed stands live) (λ lives. (e.leaves front f.0 (push.stands (text ++ i.front.0) f.0 f.1)).over lives over));
            planned = λ fault waits none within refuses.
                let was = i.planned.4 text handed fault stands waits refuses in
                absurd (by_covered ⊥ read (λ empty. waits_live c.drain.new.batch.stage ((e.leaves read m.0 at).still was empty) ends)
                (λ first others covers.
                let d = (e.texts read m.0 at).planned fault was nothing_covered at.bounded (front_refused rows ask read (drop n rest) fault first others covers (subst (λ (t : List ℕ). RefusesOne rows ask t fault) whole refuses)) in
                cc d));
            because = λ fault kind is. absurd (cc is);
            still = λ waits none. (e.leaves read m.0 at).still (i.planned.5 text handed stands waits none) (front_none read (drop n rest) (subst (λ (t : List ℕ). (reading t).covered ≡ []) whole none));
            uncovered = λ none waits. absurd (waits_live c.drain.new.batch.stage waits ends);
          };
      leaves = λ text handed stands.
          let first = c.args.io.now in
          let mid = c.pushes.io in
          let last = c.drain.new.io in
          let f = i.front.2 text handed stands in
          let m = i.planned.2 text handed stands in
          let front = (text ++ i.front.0) ++ take n rest in
          let read = (text ++ i.planned.0) ++ take n rest in
          let l = e.leaves read m.0 (push.stands (text ++ i.planned.0) m.0 m.1) in
          let whole = whole_read text piece i.planned.0 (take n rest) (drop n rest) (piece_split piece i.planned.0 rest n i.planned.1) in
          record {
            over = λ live over.
                complete_still (text ++ piece) front (drop n rest) (whole_read text piece i.front.0 (take n rest) (drop n rest) (piece_split piece i.front.0 rest n i.front.1))
                (over_piece text i.front.0 (take n rest) c.pushes.batch.stage (i.front.3 text handed stands live) (λ lives. (e.leaves front f.0 (push.stands (text ++ i.front.0) f.0 f.1)).over lives over));
            still = λ waits none. l.still (i.planned.5 text handed stands waits none) (front_none read (drop n rest) (subst (λ (t : List ℕ). (reading t).covered ≡ []) whole none));
            refused = λ fault waits none refuses.
                let was = i.planned.4 text handed fault stands waits refuses in
                by_covered (waits_at c.drain.new.batch.stage ≡ true) read (λ empty. l.still was empty)
                (λ first others covers. l.refused fault was nothing_covered (front_refused rows ask read (drop n rest) fault first others covers (subst (λ (t : List ℕ). RefusesOne rows ask t fault) whole refuses)));
            damaged = λ sector stated found honest is. absurd (cc is);
            comes = λ honest.
                comes_on rows ask (text ++ piece) read (drop n rest) whole (g.D.Disk.state first.disk.now) (g.D.Disk.state mid.disk.now) first.space mid.space i.fills.fills c.args.batch.now.stage c.pushes.batch.stage
                (λ waits. ap (λ (b : batches.Batch). b.stage) (i.waits waits)) (i.comes text handed stands (e.writes.fills.fills.honest honest)) (SparesTaken last.space (g.D.Disk.state last.disk.now).seen) c.drain.new.batch.stage (l.comes honest);
          };
      takes =
          let spent = e.spends (r.text ++ take n rest) r.handed (push.stands r.text r.handed r.stands) in
          record {
            reads = record { text = r.text ++ take n rest; bytes = more_bytes r.text rest n r.bytes i.bytes; handed = r.handed ++ spent.0; stands = spent.1; behind = tt };
            behind = record { text = r.text ++ take n rest; bytes = more_bytes r.text rest n r.bytes i.bytes; handed = later.handed; stands = later.stands; behind = later.behind };
            all = λ live. absurd (let both : true ≡ false = sym live ∙ ends in cc both);
          };
      spends = λ text handed stands.
          let m = i.spent.2 text handed stands in
          let got = (text ++ i.spent.0) ++ take n rest in
          let d = e.spends got (handed ++ m.0) (push.stands (text ++ i.spent.0) (handed ++ m.0) m.1) in
          let both = spent_then c.drain.new.reader got handed m.0 c.args.io.now.space c.pushes.io.space c.drain.new.io.space None m.2 d in
          spends_whole c.drain.new.reader (text ++ piece) got (drop n rest) handed both.0 c.args.io.now.space c.drain.new.io.space None
          (whole_read text piece i.spent.0 (take n rest) (drop n rest) (piece_split piece i.spent.0 rest n i.spent.1)) both.1 both.2;
    }

pub returns : goal.returns
returns g c =
    let i = c.pushes.invariant in
    let piece = c.args.piece.now in
    let rest = c.pushes.rest.now in
    let done = λ (front : List ℕ) (split : piece ≡ front ++ rest). piece_done piece front rest split c.pushes-test.ensures in
    record {
      read = λ tight start running plain text handed told way tells hands is.
          let is_now = λ (t : Bool) (r : Pool). IsBatch (bound_of t (r.number + 1)) (blocks_of c.pushes.io) c.pushes.batch in
          let m = i.piece.2 tight start running plain text handed told way tells hands is in
          piece_waits c.args.ask.now running text handed plain hands.whole piece c.pushes.reader i.piece.0 (is_now tight running) (done i.piece.0 i.piece.1) m;
      gathers = record { fits = λ fits. i.stage; idle = i.idle; waits = i.waits };
      writes = record { fills = i.fills; known = tt };
      texts = λ text handed stands.
          let m = i.front.2 text handed stands in
          record {
            stream = λ fault is. absurd (cc is);
            stands = λ live. (m.0, subst (λ (t : List ℕ). StandsFor c.pushes.reader (text ++ t) m.0) (sym (done i.front.0 i.front.1)) m.1);
            hands_out = λ live all.
                let h = i.hands.2 text handed (record { stands = stands; whole = all }) in
                (h.0, subst (λ (t : List ℕ). HandsOut c.pushes.reader (text ++ t) h.0 waiting) (sym (done i.hands.0 i.hands.1)) h.1);
            whole = λ live over. subst (λ (t : List ℕ). (reading (text ++ t)).outcome ≡ complete) (sym (done i.front.0 i.front.1)) (i.front.3 text handed stands live over);
            planned = λ fault waits none within refuses.
                let was = i.planned.4 text handed fault stands waits refuses in
                absurd (none_begins (text ++ piece) refuses.header (subst (λ (t : List ℕ). (reading (text ++ t)).covered ≡ []) (sym (done i.planned.0 i.planned.1)) (i.planned.3 text handed stands none was)) refuses.begins);
            because = λ fault kind is. absurd (cc is);
            still = λ waits none. i.planned.5 text handed stands waits none;
            uncovered = λ none waits. subst (λ (t : List ℕ). (reading (text ++ t)).covered ≡ []) (sym (done i.planned.0 i.planned.1)) (i.planned.3 text handed stands none waits);
          };
      leaves = λ text handed stands.
          record {
            over = λ live over. subst (λ (t : List ℕ). (reading (text ++ t)).outcome ≡ complete) (sym (done i.front.0 i.front.1)) (i.front.3 text handed stands live over);
            still = λ waits none. i.planned.5 text handed stands waits none;
            refused = λ fault waits none refuses. i.planned.4 text handed fault stands waits refuses;
            damaged = λ sector stated found honest is. absurd (cc is);
            comes = i.comes text handed stands;
          };
      takes = record {
        reads = over_reads c.pushes.reader c.pushes.batch.stage i.reads;
        behind = i.reads;
        all = λ live. all_told rest (pushed_of c.pushes.reader) _ i.told c.pushes-test.ensures;
      };
      spends = λ text handed stands.
          let m = i.spent.2 text handed stands in
          spends_whole c.pushes.reader (text ++ piece) (text ++ i.spent.0) rest handed m.0 c.args.io.now.space c.pushes.io.space None
          (ap (λ (t : List ℕ). text ++ t) i.spent.1 ∙ sym (append_assoc text i.spent.0 rest)) m.1 m.2;
    }
