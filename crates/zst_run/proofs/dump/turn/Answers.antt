use Rattle.std.proofs.Common.{refl}
use Rattle.zst_record.specs.Heads.{covered_of}
use Rattle.zst_run.proofs.DumpLemmas.{recorded, unrecorded, completed, uncompleted, refused, flushed, unflushed, more_taken, none_taken}
use Rattle.zst_run.proofs.DumpCounts.{has_room}
use Rattle.zst_run.proofs.dump.turn.Goals as goal

pub add-requires : goal.add-requires
add-requires g c =
    let d = c.requires.2 in
    let h = rw (c.in-Ok-Record.is, c.in-Ok-Record.field-0-is) at c.next.follows.holds-at-none in
    has_room c.args.counts.now _ d.text d.handed (covered_of c.in-Ok-Record.record) d.counted (h.1 d.text d.handed d.stands)

pub returns-in-Ok : goal.returns-in-Ok
returns-in-Ok g c = λ start begun d.
    let h = rw (c.in-Ok-Record.is, c.in-Ok-Record.field-0-is) at c.next.follows.holds-at-none in
    recorded start _ begun _ _ _ _ _ _ (covered_of c.in-Ok-Record.record) d (h.1 d.text d.handed d.stands) c.in-Ok.ensures
    (c.add.ensures d.handed (covered_of c.in-Ok-Record.record) d.counted refl)

pub returns-in-Err-line_of : goal.returns-in-Err-line_of
returns-in-Err-line_of g c = λ start begun d.
    let h = rw (c.in-Ok-Record.is, c.in-Ok-Record.field-0-is) at c.next.follows.holds-at-none in
    unrecorded start _ begun _ _ _ _ _ (covered_of c.in-Ok-Record.record) c.in-Err-line_of.field-0 d (h.1 d.text d.handed d.stands) c.in-Err-line_of.ensures

pub returns-in-Err-flush : goal.returns-in-Err-flush
returns-in-Err-flush g c = λ start begun d.
    let f = c.in-Err-flush.ensures in
    unflushed start _ begun _ _ _ _ d f.written f.cause.later f.cause.fault

pub returns-in-Ok-take_more : goal.returns-in-Ok-take_more
returns-in-Ok-take_more g c = λ start begun d.
    let h = rw (c.in-Ok-NeedMore.is, c.in-Ok-NeedMore.field-0-is) at c.next.follows.holds-at-none in
    let f = c.in-Ok-flush.ensures in
    let e = flushed start _ begun _ _ _ _ d f.written f.count_stays in
    more_taken start _ _ begun _ _ _ _ _ e (h.1 e.text e.handed e.stands) c.in-Ok-take_more.ensures

pub returns-in-Err-take_more : goal.returns-in-Err-take_more
returns-in-Err-take_more g c = λ start begun d.
    let h = rw (c.in-Ok-NeedMore.is, c.in-Ok-NeedMore.field-0-is) at c.next.follows.holds-at-none in
    let f = c.in-Ok-flush.ensures in
    let e = flushed start _ begun _ _ _ _ d f.written f.count_stays in
    none_taken start _ _ begun _ _ _ _ c.in-Err-take_more.refusal e (h.1 e.text e.handed e.stands) f.flushed c.in-Err-take_more.ensures

pub returns-in-Ok-summary : goal.returns-in-Ok-summary
returns-in-Ok-summary g c = λ start begun d.
    let h = rw (c.in-Ok-End.is, c.in-Ok-End.field-0-is) at c.next.follows.holds-at-none in
    completed start _ begun _ _ _ _ _ _ _ d (h.1 d.text d.handed d.stands) c.in-Ok-summary.ensures c.hand_on.ensures

pub returns-in-Err-summary : goal.returns-in-Err-summary
returns-in-Err-summary g c = λ start begun d.
    let h = rw (c.in-Ok-End.is, c.in-Ok-End.field-0-is) at c.next.follows.holds-at-none in
    uncompleted start _ begun _ _ _ _ _ c.in-Err-summary.field-0 d (h.1 d.text d.handed d.stands) c.in-Err-summary.ensures

pub returns-in-Err : goal.returns-in-Err
returns-in-Err g c = λ start begun d.
    let h = rw c.in-Err.is at c.next.follows.holds-at-none in
    refused start _ begun _ _ _ _ _ c.in-Err.fault _ d (h.1 d.text d.handed d.stands) (rw c.from.ensures at c.hand_on-in-Err.ensures)
