use Rattle.std.proofs.Common.{◌≡◌, Some, sym, ◌∙◌, ap, rules}
use Rattle.zst_uber.specs.Slots.{latest}
use Rattle.zst_uber.proofs.Decoding.{gives_latest, stands_latest, next_latest}
use Rattle.zst_uber.proofs.latest_body.latest.Goals as goal

pub returns-in-Some-clause-there : goal.returns-in-Some-clause-there
returns-in-Some-clause-there g c = λ uber told is.
    let same : Some c.in-Some.body ≡ latest (g.D.Disk.state c.args.disk.now).seen = sym c.in-Some.is ∙ c.in_ok-slot.ensures.body told ∙ ap latest c.sync.ensures.reads.seen in
    gives_latest (g.D.Disk.state c.args.disk.now).size _ _ uber c.in-Some.body _ c.decode.result
    (c.bytes.ensures ∙ c.newest.ensures.reads.reads.size ∙ c.sync.ensures.reads.size) same is c.decode.ensures

pub returns-in-Some-clause-stands : goal.returns-in-Some-clause-stands
returns-in-Some-clause-stands g c = λ told.
    let same : Some c.in-Some.body ≡ latest (g.D.Disk.state c.args.disk.now).seen = sym c.in-Some.is ∙ c.in_ok-slot.ensures.body told ∙ ap latest c.sync.ensures.reads.seen in
    stands_latest (g.D.Disk.state c.args.disk.now).size _ _ c.in-Some.body _ c.decode.result
    (c.bytes.ensures ∙ c.newest.ensures.reads.reads.size ∙ c.sync.ensures.reads.size) same c.decode.ensures

pub returns-in-Some-clause-next : goal.returns-in-Some-clause-next
returns-in-Some-clause-next g c = λ told.
    let same : Some c.in-Some.body ≡ latest (g.D.Disk.state c.args.disk.now).seen = sym c.in-Some.is ∙ c.in_ok-slot.ensures.body told ∙ ap latest c.sync.ensures.reads.seen in
    next_latest (g.D.Disk.state c.args.disk.now).size _ _ c.in-Some.body _ c.decode.result
    (c.bytes.ensures ∙ c.newest.ensures.reads.reads.size ∙ c.sync.ensures.reads.size) same c.decode.ensures

pub returns-in_err-sync : goal.returns-in_err-sync
returns-in_err-sync g c = search rules

pub returns-in_err-slot : goal.returns-in_err-slot
returns-in_err-slot g c = search rules

pub returns-in-None : goal.returns-in-None
returns-in-None g c = search rules

pub returns-in-Some-clause-answer : goal.returns-in-Some-clause-answer
returns-in-Some-clause-answer g c = search rules

pub returns-in-Some-clause-in_range : goal.returns-in-Some-clause-in_range
returns-in-Some-clause-in_range g c = search rules

pub returns-in-Some-clause-settled : goal.returns-in-Some-clause-settled
returns-in-Some-clause-settled g c = search rules

pub returns-in-Some-clause-label : goal.returns-in-Some-clause-label
returns-in-Some-clause-label g c = search rules

pub returns-in-Some-clause-reads : goal.returns-in-Some-clause-reads
returns-in-Some-clause-reads g c = search rules
