use Rattle.std.proofs.Common.{Bool, ◌||◌, ◌∙◌, Err, false, length, ap, refl, subst}
use Rattle.std.proofs.lemmas.Bool.{ltb-true}
use Rattle.zst_send.specs.Takes.{IsReadFault}
use Rattle.zst_run.proofs.LaterDisks.{later_looked}
use Rattle.zst_run.proofs.SendLemmas.{hands_end, passed, piece_ends, take_failed}
use Rattle.zst_run.proofs.send.pass_piece.Goals as goal

pub returns-in-Ok-clause-passed : goal.returns-in-Ok-clause-passed
returns-in-Ok-clause-passed g c = λ start sent begun told s.
    let t = c.in-Ok.ensures.takes_from sent start s.text s.left told s.stands in
    passed _ start sent _ _ _ begun _ _ c.take.new.into s.text s.left c.in-Ok.taken c.args.count.now c.write_piece.new.count _ t s.stands.text s.counted s.printed
    c.write_piece.result (λ last. ltb-true c.in-Ok.taken (length c.take.new.into) last) c.write_piece.ensures

pub returns-in-Ok-clause-why : goal.returns-in-Ok-clause-why
returns-in-Ok-clause-why g c = piece_ends _ _ _ _ _ _ c.args.pool.now c.take.new.pool c.args.send.now (c.in-Ok.ensures.pool.looks.told refl) c.write_piece.result c.write_piece.ensures

pub returns-in-Ok-clause-leaves : goal.returns-in-Ok-clause-leaves
returns-in-Ok-clause-leaves g c =
    let e = c.in-Ok.ensures in
    record { set = ap (λ (subject : _). subject.set) e.subject; knows = e.knows; fits = e.send; works = λ none. e.pool.looks.failed ∙ ap (λ (b : Bool). b || false) c.requires.gives.works; told = λ none. e.pool.looks.told refl }

pub returns-in-Ok-clause-reads : goal.returns-in-Ok-clause-reads
returns-in-Ok-clause-reads g c = c.in-Ok.ensures.pool.looks.reads

pub returns-in-Ok-clause-later : goal.returns-in-Ok-clause-later
returns-in-Ok-clause-later g c = later_looked _ _ _ c.in-Ok.ensures.pool.looks

pub returns-in-Err-clause-passed : goal.returns-in-Err-clause-passed
returns-in-Err-clause-passed g c = λ start sent begun told s.
    let hands = rw (c.from.ensures) at c.hand_on.ensures in
    let e = c.in-Err.ensures in
    let t = e.takes_from sent start s.text s.left told s.stands in
    take_failed start sent _ _ begun _ _ s.text s.left s.stands.text s.printed c.in-Err.fault c.hand_on.result t.0 e.pool.looks.cause.fault
    (λ is. e.pool.open_still c.requires.gives.works (ap (λ f. Err f) is)) hands

pub returns-in-Err-clause-why : goal.returns-in-Err-clause-why
returns-in-Err-clause-why g c =
    let hands = rw (c.from.ensures) at c.hand_on.ensures in
    let e = c.in-Err.ensures in
    hands_end c.args.pool.now c.take.new.pool c.args.send.now c.in-Err.fault _ _ c.hand_on.result hands e.pool.looks (λ is. e.pool.open_still c.requires.gives.works (ap (λ f. Err f) is))
    (λ plan is. subst IsReadFault is e.pool.known) e.damaged

pub returns-in-Err-clause-leaves : goal.returns-in-Err-clause-leaves
returns-in-Err-clause-leaves g c =
    let e = c.in-Err.ensures in record { set = ap (λ (subject : _). subject.set) e.subject; knows = e.knows; fits = e.send; works = λ none. absurd (cc (none)); told = λ none. absurd (cc (none)) }

pub returns-in-Err-clause-reads : goal.returns-in-Err-clause-reads
returns-in-Err-clause-reads g c = c.in-Err.ensures.pool.looks.reads

pub returns-in-Err-clause-later : goal.returns-in-Err-clause-later
returns-in-Err-clause-later g c = later_looked _ _ _ c.in-Err.ensures.pool.looks
