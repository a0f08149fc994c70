use Rattle.std.proofs.Common.{◌≡◌, ◌+◌, ℕ, Bool, true, false, List, [], ◌∷◌, ◌++◌, refl, sym, ap, ◌∙◌, arith, Result, Err}
use Rattle.std.proofs.lemmas.Result.{err_from_is_err_and}
use Rattle.zst_block.specs.Blocks.{SparesTaken}
use Rattle.zst_block.specs.IoStates.{blocks_of}
use Rattle.zst_record.specs.Heads.{Covered, covered_of}
use Rattle.zst_stream.specs.Reading.{waiting, faulty, complete}
use Rattle.zst_image.specs.Reads.{bound_of}
use Rattle.zst_model.specs.pools.Pool.{Pool}
use Rattle.zst_recv.specs.Stages.{HasRead, IsBatch, StandsBehind, is_live, waits_at}
use Rattle.zst_recv.specs.declared.batch.Batch as batches
use Rattle.zst_recv.specs.declared.stage.Stage as coded
use Rattle.zst_recv.proofs.DrainLemmas.{Fills-none, Fills-then, goes_under, handed_within, is_read}
use Rattle.zst_recv.proofs.Gatherings.{gather_begins, gather_goes_on, gather_refused, gathered_more, gathered_none, settles_fault}
use Rattle.zst_recv.proofs.PassedRuns.{spends_put}
use Rattle.zst_recv.specs.declared.fault.RecvFault.{RecvFault}
use Rattle.zst_recv.proofs.DamageLemmas.{err_told, found_stream, no_stream, record_known, told_stream}
use Rattle.zst_recv.proofs.HandedRecords.{behind_more, over_behind, tells_on}
use Rattle.zst_recv.proofs.CoveredEnds.{over_more}
use Rattle.std.specs.Prelude.{None}
use Rattle.zst_reader.specs.StandsFor.{StandsFor}
use Rattle.zst_reader.specs.declared.reader.Reader.{Reader}
use Rattle.zst_recv.proofs.PlanRefusals.{begins_first, covers_some, first_begins, handed_none, has_still, none_begins, none_handed, planned_back, planned_err, planned_ok}
use Rattle.zst_plan.specs.RecvPlan.{recv_plan}
use Rattle.zst_recv.specs.Plans.{BeginsAt}
use Rattle.zst_recv.proofs.SetOrigins.{comes_then, comes_with, damaged_then, stays_same}
use Rattle.zst_recv.proofs.gathering.gather.Goals as goal

-- a receive that waits has been handed out nothing
waits_none : (reader : Reader) (stage : coded.Stage) {old : Reader} {before : coded.Stage} (first : HasRead old before)
    → ((text : List ℕ) (handed : List Covered) → StandsFor old text handed → StandsBehind handed before → (later : List Covered) × StandsFor reader text later × StandsBehind later stage)
    → waits_at stage ≡ true → (text : List ℕ) (later : List Covered) → StandsFor reader text later → later ≡ []
waits_none reader stage first behind waits text later stands =
    none_handed reader stage (has_still first.text first.bytes (behind first.text first.handed first.stands first.behind)) waits text later stands

-- and where its text covers BEGIN next, it begins so
begins_at : (reader : Reader) (stage : coded.Stage) {old : Reader} {before : coded.Stage} (first : HasRead old before)
    → ((text : List ℕ) (handed : List Covered) → StandsFor old text handed → StandsBehind handed before → (later : List Covered) × StandsFor reader text later × StandsBehind later stage)
    → (new : Reader) (text : List ℕ) (later : List Covered) (next : Covered) → StandsFor new text (later ++ next ∷ []) → StandsFor reader text later → BeginsAt (waits_at stage) text next.head
begins_at reader stage first behind new text later next more stands = λ waits header len is. first_begins new text later next header len more (waits_none reader stage first behind waits text later stands) is

pub records-init : goal.records-init
records-init g c =
    let is_now = λ (t : Bool) (r : Pool). IsBatch (bound_of t (r.number + 1)) (blocks_of c.args.io.now) c.args.batch.now in
    record {
      gathered = λ tight start running plain text handed told way tells stands is. gather_begins c.args.ask.now running text handed plain c.args.run.now c.args.reader.now (is_now tight running) c.requires.none stands is;
      stage = c.requires.stage;
      idle = λ none. refl;
      waits = λ waits. refl;
      reads = λ text handed stands. (handed, stands);
      over = λ text handed stands live over. absurd (let both = sym live ∙ over in cc);
      behind = λ text handed stands is. (handed, stands, is);
      planned = λ text handed fault stands waits refuses. waits;
      still = λ text handed stands waits none. waits;
      pushed = refl;
      fills = Fills-none _;
      comes = λ text handed stands honest.
          let io = c.args.io.now in
          let now = g.D.Disk.state io.disk.now in
          let stage = c.args.batch.now.stage in
          comes_with c.args.kept.now.dir c.args.ask.now text (SparesTaken io.space now.seen) now.size stage stage (stays_same c.args.kept.now.dir c.args.ask.now text stage);
      spent = λ text handed stands. gathered_none c.args.run.now c.args.reader.now text handed c.args.io.now.space c.requires.none stands (spends_put c.args.run.now [] c.args.io.now.space c.requires.none);
      lives = λ some. absurd (let none = c.requires.none.count_is in omega (arith, none, some));
    }

pub pass-requires-clause-covered : goal.pass-requires-clause-covered
pass-requires-clause-covered g c =
    let h = rw (c.in-Ok-Record.is, c.in-Ok-Record.field-0-is) at c.next.follows.holds-at-none in
    let r = c.requires.reads in
    let later = c.records.invariant.reads r.text r.handed r.stands in
    is_read _ r.text later.0 (covered_of c.in-Ok-Record.record) r.bytes (h.1 r.text later.0 later.1)

pub records-smaller : goal.records-smaller
records-smaller g c =
    let h = rw (c.in-Ok-Record.is, c.in-Ok-Record.field-0-is) at c.next.follows.holds-at-none in
    let r = c.requires.reads in
    let later = c.records.invariant.reads r.text r.handed r.stands in
    let one = h.0.handed in
    let most = handed_within _ r.text (later.0 ++ covered_of c.in-Ok-Record.record ∷ []) (h.1 r.text later.0 later.1) in
    omega (arith, one, most)

pub records-preserved : goal.records-preserved
records-preserved g c =
    let h = rw (c.in-Ok-Record.is, c.in-Ok-Record.field-0-is) at c.next.follows.holds-at-none in
    let i = c.records.invariant in
    let e = c.in_ok-pass-in-Ok-Record.ensures in
    let is_now = λ (t : Bool) (r : Pool). IsBatch (bound_of t (r.number + 1)) (blocks_of c.pass.new.io) c.pass.new.batch in
    let next = covered_of c.in-Ok-Record.record in
    record {
      gathered = λ tight start running plain text handed told way tells stands is.
          let d = i.gathered tight start running plain text handed (e.fills.fills.honest told) way tells stands is in
          let t = d.takes in
          gather_goes_on c.args.ask.now running text handed plain _ _ _ d c.pass.new.run _ (is_now tight running) next (h.1 text (handed ++ d.records) d.stands)
          (e.passed tight start running t.after t.put_off told (goes_under _ running way i.fills) (tells_on c.args.kept.now.dir running c.args.ask.now t.first plain t.after t.were_taken tells) t.due t.is);
      stage = e.moves.gathers.fits i.stage;
      idle = λ none. let same = e.moves.gathers.idle none in same ∙ i.idle (ap (λ (b : batches.Batch). b.taken) (sym same) ∙ none);
      waits = λ waits. let same = e.moves.gathers.waits waits in same ∙ i.waits (ap (λ (b : batches.Batch). waits_at b.stage) (sym same) ∙ waits);
      reads = λ text handed stands. let later = i.reads text handed stands in (later.0 ++ next ∷ [], h.1 text later.0 later.1);
      over = λ text handed stands live over.
          let later = i.reads text handed stands in
          over_more _ text later.0 next c.records.batch.stage c.pass.new.batch.stage (h.1 text later.0 later.1) e.moves.over (i.over text handed stands live) over;
      behind = λ text handed stands is.
          let later = i.behind text handed stands is in
          let more = h.1 text later.0 later.1 in
          (later.0 ++ next ∷ [], more, behind_more _ text later.0 next c.records.batch.stage c.pass.new.batch.stage more later.2 (λ waits. ap (λ (b : batches.Batch). b.stage) (e.moves.gathers.waits waits)) e.moves.begins e.moves.ends e.moves.lives);
      planned = λ text handed fault stands waits refuses.
          let was = i.planned text handed fault stands waits refuses in
          let later = i.reads text handed stands in
          let r = c.requires.reads in
          let more = h.1 text later.0 later.1 in
          let none = none_handed c.records.reader c.records.batch.stage (has_still r.text r.bytes (i.behind r.text r.handed r.stands r.behind)) was text later.0 later.1 in
          let begin = begins_first _ text later.0 next refuses.header more none refuses.begins in
          absurd (planned_ok (recv_plan c.args.ask.now refuses.header refuses.pool) fault refuses.refused (e.plans.planned refuses.pool refuses.header begin.0 begin.1 was refuses.named refuses.tells));
      still = λ text handed stands waits none.
          let later = i.reads text handed stands in
          absurd (covers_some _ text later.0 next (h.1 text later.0 later.1) none);
      pushed = h.0.pushed ∙ i.pushed;
      fills = Fills-then i.fills e.fills;
      comes = λ text handed stands honest.
          let first = c.args.io.now in
          let mid = c.records.io in
          let last = c.pass.new.io in
          let later = i.reads text handed stands in
          comes_then c.args.kept.now.dir c.args.ask.now text (g.D.Disk.state first.disk.now) (g.D.Disk.state mid.disk.now) first.space mid.space i.fills.fills c.args.batch.now.stage c.records.batch.stage
          (λ waits. ap (λ (b : batches.Batch). b.stage) (i.waits waits)) (i.comes text handed stands (e.fills.fills.honest honest)) (SparesTaken last.space (g.D.Disk.state last.disk.now).seen) c.pass.new.batch.stage
          (e.comes text (begins_at c.records.reader c.records.batch.stage c.requires.reads i.behind _ text later.0 next (h.1 text later.0 later.1) later.1) honest);
      spent = λ text handed stands. gathered_more c.records.run c.pass.new.run c.records.reader _ text handed next c.args.io.now.space c.records.io.space c.pass.new.io.space None (i.spent text handed stands) (h.1 text) e.spends;
      lives = e.lives;
    }

-- a fault that taking a record answers
abbrev refused_so : RecvFault → Result (Unit {0}) RecvFault
refused_so fault = Err fault

pub returns-in_err-pass-in-Ok-Record : goal.returns-in_err-pass-in-Ok-Record
returns-in_err-pass-in-Ok-Record g c =
    let h = rw (c.in-Ok-Record.is, c.in-Ok-Record.field-0-is) at c.next.follows.holds-at-none in
    let p = err_from_is_err_and c.from_residual.result c.from_residual.ensures.1 in
    let i = c.records.invariant in
    let e = c.in_err-pass-in-Ok-Record.ensures in
    let next = covered_of c.in-Ok-Record.record in
    let rows = c.args.kept.now.dir in
    let ask = c.args.ask.now in
    let was_told = λ (fault : RecvFault) (is : c.from_residual.result ≡ Err fault). ap refused_so (sym p.2 ∙ err_told Bool _ _ (sym p.1 ∙ is)) in
    record {
      gathered = λ tight start running plain text handed told way tells stands is.
          let is_now = λ (t : Bool) (r : Pool). IsBatch (bound_of t (r.number + 1)) (blocks_of c.pass.new.io) c.pass.new.batch in
          let d = i.gathered tight start running plain text handed (e.fills.fills.honest told) way tells stands is in
          let t = d.takes in
          rw (p.1, p.2) (gather_refused ask running text handed plain _ _ _ d c.pass.new.run _ (is_now tight running) next (h.1 text (handed ++ d.records) d.stands) _
          (e.passed tight start running t.after t.put_off told (goes_under _ running way i.fills) (tells_on rows running ask t.first plain t.after t.were_taken tells) t.due t.is));
      gathers = record {
        fits = λ fits. e.moves.gathers.fits i.stage;
        idle = λ none. let same = e.moves.gathers.idle none in same ∙ i.idle (ap (λ (b : batches.Batch). b.taken) (sym same) ∙ none);
        waits = λ waits. let same = e.moves.gathers.waits waits in same ∙ i.waits (ap (λ (b : batches.Batch). waits_at b.stage) (sym same) ∙ waits);
      };
      writes = record {
        fills = rw (p.1, p.2) (Fills-then i.fills e.fills);
        known = rw (p.1, p.2) (record_known _ e.known);
      };
      texts = λ text handed stands.
          let later = i.reads text handed stands in
          let more = h.1 text later.0 later.1 in
          record {
            stream = λ fault is. absurd (no_stream _ fault e.known (sym p.2 ∙ err_told Bool _ _ (sym p.1 ∙ is)));
            stands = rw p.1 tt;
            hands_out = rw p.1 tt;
            whole = λ was. rw p.1 tt;
            planned = λ fault waits none within refuses.
                let was = i.planned text handed fault stands waits refuses in
                let begin = begins_first _ text later.0 next refuses.header more (waits_none c.records.reader c.records.batch.stage c.requires.reads i.behind was text later.0 later.1) refuses.begins in
                let told = planned_err (recv_plan ask refuses.header refuses.pool) fault _ refuses.refused (e.plans.planned refuses.pool refuses.header begin.0 begin.1 was refuses.named refuses.tells) in
                p.1 ∙ ap (λ (f : RecvFault). Err f) (p.2 ∙ told);
            because = λ fault kind is.
                let told = was_told _ is in
                let asks = e.plans.because fault kind told in (
                  ap (λ (b : batches.Batch). waits_at b.stage) (sym (i.waits asks.0)) ∙ asks.0,
                  record {
                    header = asks.1;
                    begins = first_begins _ text later.0 next asks.1 asks.2 more (waits_none c.records.reader c.records.batch.stage c.requires.reads i.behind asks.0 text later.0 later.1) asks.3;
                    refused = λ pool named tells. planned_back (recv_plan ask asks.1 pool) fault _ told (e.plans.planned pool asks.1 asks.2 asks.3 asks.0 named tells);
                  },
                );
            still = λ waits none. rw p.1 tt;
            uncovered = λ none waits. rw p.1 tt;
          };
      leaves = λ text handed stands.
          let first = c.args.io.now in
          let mid = c.records.io in
          let last = c.pass.new.io in
          let old = g.D.Disk.state first.disk.now in
          let now = g.D.Disk.state mid.disk.now in
          let later = i.reads text handed stands in
          let more = h.1 text later.0 later.1 in
          let waited = λ (waits : waits_at c.records.batch.stage ≡ true). ap (λ (b : batches.Batch). b.stage) (i.waits waits) in
          record {
            over = λ live over. over_more _ text later.0 next c.records.batch.stage c.pass.new.batch.stage more e.moves.over (i.over text handed stands live) over;
            still = λ waits none. absurd (covers_some _ text later.0 next more none);
            refused = λ fault waits none refuses. let was = i.planned text handed fault stands waits refuses in ap (λ (b : batches.Batch). waits_at b.stage) (e.moves.waited was) ∙ was;
            damaged = λ sector stated found honest is.
                damaged_then rows ask text old now first.space mid.space i.fills.fills c.args.batch.now.stage c.records.batch.stage waited (i.comes text handed stands (e.fills.fills.honest honest)) sector stated found
                (e.damaged text sector stated found honest (was_told _ is));
            comes = λ honest.
                comes_then rows ask text old now first.space mid.space i.fills.fills c.args.batch.now.stage c.records.batch.stage waited (i.comes text handed stands (e.fills.fills.honest honest))
                (SparesTaken last.space (g.D.Disk.state last.disk.now).seen) c.pass.new.batch.stage
                (e.comes text (begins_at c.records.reader c.records.batch.stage c.requires.reads i.behind _ text later.0 next more later.1) honest);
          };
      behind = λ text handed stands is. rw p.1 tt;
      empties = record {
        pushed = h.0.pushed ∙ i.pushed;
        room = λ is. absurd (cc (p.1, is));
        hands_out = λ text handed stands is. absurd (cc (p.1, is));
        of_stream = λ text handed stands none. let later = i.reads text handed stands in absurd (covers_some _ text later.0 next (h.1 text later.0 later.1) none);
      };
      spends = λ text handed stands. rw (p.1, p.2) (gathered_more c.records.run c.pass.new.run c.records.reader _ text handed next c.args.io.now.space c.records.io.space c.pass.new.io.space _ (i.spent text handed stands) (h.1 text) e.spends);
      lives = e.lives;
      settled = rw (p.1, p.2) (settles_fault c.pass.new.run _ e.none);
    }

pub returns-in-Ok-NeedMore : goal.returns-in-Ok-NeedMore
returns-in-Ok-NeedMore g c =
    let h = rw (c.in-Ok-NeedMore.is, c.in-Ok-NeedMore.field-0-is) at c.next.follows.holds-at-none in
    let i = c.records.invariant in
    record {
      gathered = λ tight start running plain text handed told way tells stands is.
          let d = i.gathered tight start running plain text handed told way tells stands is in
          record { records = d.records; reads = h.1 text (handed ++ d.records) d.stands; takes = d.takes };
      gathers = record { fits = λ fits. i.stage; idle = i.idle; waits = i.waits };
      writes = record { fills = i.fills; known = tt };
      texts = λ text handed stands.
          let later = i.reads text handed stands in
          let hands = h.1 text later.0 later.1 in
          record {
            stream = λ fault is. absurd (cc is);
            stands = λ live. (later.0, hands.stands);
            hands_out = λ live all. (later.0, hands);
            whole = λ was over. i.over text handed stands was over;
            planned = λ fault waits none within refuses.
                let was = i.planned text handed fault stands waits refuses in
                absurd (none_begins text refuses.header (handed_none _ text later.0 waiting hands (waits_none c.records.reader c.records.batch.stage c.requires.reads i.behind was text later.0 later.1)) refuses.begins);
            because = λ fault kind is. absurd (cc is);
            still = λ waits none. i.still text handed stands waits none;
            uncovered = λ none waits. handed_none _ text later.0 waiting hands (waits_none c.records.reader c.records.batch.stage c.requires.reads i.behind waits text later.0 later.1);
          };
      leaves = λ text handed stands.
          record {
            over = i.over text handed stands;
            still = i.still text handed stands;
            refused = λ fault waits none refuses. i.planned text handed fault stands waits refuses;
            damaged = λ sector stated found honest is. absurd (cc is);
            comes = i.comes text handed stands;
          };
      behind = λ text handed stands is.
          let later = i.behind text handed stands is in
          record { handed = later.0; stands = (h.1 text later.0 later.1).stands; behind = later.2; over = λ ended. absurd (cc ended) };
      empties = record {
        pushed = h.0.0.pushed ∙ i.pushed;
        room = λ is. h.0.1;
        hands_out = λ text handed stands is. let later = i.reads text handed stands in (later.0, h.1 text later.0 later.1);
        of_stream = λ text handed stands none. tt;
      };
      spends = λ text handed stands. let spent = i.spent text handed stands in record { records = spent.records; stands = (h.1 text (handed ++ spent.records) spent.stands).stands; spends = spent.spends };
      lives = i.lives;
      settled = tt;
    }

pub returns-in-Ok-End : goal.returns-in-Ok-End
returns-in-Ok-End g c =
    let h = rw (c.in-Ok-End.is, c.in-Ok-End.field-0-is) at c.next.follows.holds-at-none in
    let i = c.records.invariant in
    let r = c.requires.reads in
    let front = i.behind r.text r.handed r.stands r.behind in
    let ends : is_live c.records.batch.stage ≡ false = over_behind _ r.text front.0 c.records.batch.stage (h.1 r.text front.0 front.1) front.2 in
    record {
      gathered = λ tight start running plain text handed told way tells stands is.
          let d = i.gathered tight start running plain text handed told way tells stands is in
          record { records = d.records; reads = h.1 text (handed ++ d.records) d.stands; takes = d.takes };
      gathers = record { fits = λ fits. i.stage; idle = i.idle; waits = i.waits };
      writes = record { fills = i.fills; known = tt };
      texts = λ text handed stands.
          let later = i.reads text handed stands in
          let hands = h.1 text later.0 later.1 in
          record {
            stream = λ fault is. absurd (cc is);
            stands = λ live. (later.0, hands.stands);
            hands_out = λ live all. absurd (let both : true ≡ false = sym live ∙ ends in cc both);
            whole = λ was over. i.over text handed stands was over;
            planned = λ fault waits none within refuses.
                let was = i.planned text handed fault stands waits refuses in
                absurd (none_begins text refuses.header (handed_none _ text later.0 complete hands (waits_none c.records.reader c.records.batch.stage c.requires.reads i.behind was text later.0 later.1)) refuses.begins);
            because = λ fault kind is. absurd (cc is);
            still = λ waits none. i.still text handed stands waits none;
            uncovered = λ none waits. handed_none _ text later.0 complete hands (waits_none c.records.reader c.records.batch.stage c.requires.reads i.behind waits text later.0 later.1);
          };
      leaves = λ text handed stands.
          record {
            over = i.over text handed stands;
            still = i.still text handed stands;
            refused = λ fault waits none refuses. i.planned text handed fault stands waits refuses;
            damaged = λ sector stated found honest is. absurd (cc is);
            comes = i.comes text handed stands;
          };
      behind = λ text handed stands is.
          let later = i.behind text handed stands is in
          let hands = h.1 text later.0 later.1 in
          record { handed = later.0; stands = hands.stands; behind = later.2; over = λ ended. over_behind _ text later.0 c.records.batch.stage hands later.2 };
      empties = record {
        pushed = h.0.pushed ∙ i.pushed;
        room = λ is. absurd (cc is);
        hands_out = λ text handed stands is. absurd (cc is);
        of_stream = λ text handed stands none. tt;
      };
      spends = λ text handed stands. let spent = i.spent text handed stands in record { records = spent.records; stands = (h.1 text (handed ++ spent.records) spent.stands).stands; spends = spent.spends };
      lives = i.lives;
      settled = tt;
    }

pub returns-in-Err : goal.returns-in-Err
returns-in-Err g c =
    let h = rw c.in-Err.is at c.next.follows.holds-at-none in
    let i = c.records.invariant in
    let r = c.requires.reads in
    record {
      gathered = λ tight start running plain text handed told way tells stands is.
          let d = i.gathered tight start running plain text handed told way tells stands is in
          record { records = d.records; reads = h.1 text (handed ++ d.records) d.stands; takes = d.takes };
      gathers = record { fits = λ fits. i.stage; idle = i.idle; waits = i.waits };
      writes = record {
        fills = i.fills;
        known = let later = i.reads r.text r.handed r.stands in found_stream r.text later.0 c.in-Err.fault (h.1 r.text later.0 later.1).whole (c.faults_are_found.ensures r.text);
      };
      texts = λ text handed stands.
          let later = i.reads text handed stands in
          let hands = h.1 text later.0 later.1 in
          record {
            stream = λ fault is. told_stream text later.0 c.in-Err.fault fault hands.whole (err_told Bool _ _ is);
            stands = tt;
            hands_out = tt;
            whole = λ was. tt;
            planned = λ fault waits none within refuses.
                let was = i.planned text handed fault stands waits refuses in
                absurd (none_begins text refuses.header (handed_none _ text later.0 (faulty c.in-Err.fault) hands (waits_none c.records.reader c.records.batch.stage c.requires.reads i.behind was text later.0 later.1)) refuses.begins);
            because = λ fault kind is. absurd (cc is);
            still = λ waits none. tt;
            uncovered = λ none waits. tt;
          };
      leaves = λ text handed stands.
          record {
            over = i.over text handed stands;
            still = i.still text handed stands;
            refused = λ fault waits none refuses. i.planned text handed fault stands waits refuses;
            damaged = λ sector stated found honest is. absurd (cc is);
            comes = i.comes text handed stands;
          };
      behind = λ text handed stands is. tt;
      empties = record {
        pushed = h.0.pushed ∙ i.pushed;
        room = λ is. absurd (cc is);
        hands_out = λ text handed stands is. absurd (cc is);
        of_stream = λ text handed stands none. (c.in-Err.fault, refl);
      };
      spends = λ text handed stands. let spent = i.spent text handed stands in record { records = spent.records; stands = (h.1 text (handed ++ spent.records) spent.stands).stands; spends = spent.spends };
      lives = i.lives;
      settled = tt;
    }
