use Rattle.std.specs.Prelude.{Err, Ok, Result}
use Rattle.std.proofs.Common.{rules, ◌≡◌, List, ℕ, sym, ◌∙◌, ap, subst, arith}
use Rattle.std.proofs.lemmas.Result.{err_from_is_err_and}
use Rattle.zst_outside.specs.Images.{OnlyReads-then}
use Rattle.zst_marks.specs.Marks.{Apart}
use Rattle.zst_leaves.specs.Leaves.{BlocksBefore}
use Rattle.zst_extents.specs.StoredExtents.{HasExtents}
use Rattle.zst_uber.specs.Body.{body_bytes}
use Rattle.zst_uber.specs.OpenAnswers.{GivesUber}
use Rattle.zst_uber.specs.declared.fault.UberFault.{UberFault}
use Rattle.zst_uber.specs.declared.fault.UberFault.TheVariants as ubers
use Rattle.zst_uber.specs.declared.uber.Uber.{Uber}
use Rattle.zst_image.specs.Bodies.{Body}
use Rattle.zst_image.specs.Commits.{Ready}
use Rattle.zst_image.specs.Faults.{of_uber}
use Rattle.zst_image.specs.OpenAnswers.{IsOpened}
use Rattle.zst_image.specs.Reads.{HasDir, kept_rows}
use Rattle.zst_image.proofs.Causes.{reads_refused, reads_then}
use Rattle.zst_image.proofs.OnePool.{same_body}
use Rattle.zst_image.proofs.OpenAnswers.{IsBody-latest, IsLatest-reads, IsSynced-reads, OpenAnswers-body, OpenAnswers-refused, Ready-latest, Ready-reads, Rests-opened, TellsFault-reads, dir_before, dir_there, extents_before, extents_there, uber_read}
use Rattle.zst_image.proofs.pool_state.PoolState.open.Goals as goal

pub returns-in_err-uber-clause-there : goal.returns-in_err-uber-clause-there
returns-in_err-uber-clause-there g c = λ tight body rows pool told reads.
    let old = g.D.Disk.state c.args.disk.now in
    let p = err_from_is_err_and c.from_residual.result c.from_residual.ensures.1 in
    rw (p.1, p.2) (uber_read body.uber c.in_err-uber.field-0.0 (c.in_err-uber.ensures.there body.uber told (IsLatest-reads old.size body rows pool old.seen (g.met.D.Disk.seen_size c.args.disk.now) reads)))

pub returns-in_err-uber-clause-answer : goal.returns-in_err-uber-clause-answer
returns-in_err-uber-clause-answer g c = λ told.
    let p = err_from_is_err_and c.from_residual.result c.from_residual.ensures.1 in
    rw (p.1, p.2) (OpenAnswers-body (g.D.Disk.state c.args.disk.now) c.in_err-uber.field-0.0 (c.in_err-uber.ensures.answer told))

pub returns-in_err-uber-clause-synced : goal.returns-in_err-uber-clause-synced
returns-in_err-uber-clause-synced g c =
    let p = err_from_is_err_and c.from_residual.result c.from_residual.ensures.1 in
    rw (p.1, p.2) (λ alive. c.in_err-uber.ensures.settled (λ is. alive (let same : c.in_err-uber.field-0.0 ≡ ubers.DiskFault = cc is in ap (λ (u : UberFault). Err (of_uber u)) same)))

pub returns-in_err-uber-clause-rests : goal.returns-in_err-uber-clause-rests
returns-in_err-uber-clause-rests g c = λ tight body rows pool told reads.
    let p = err_from_is_err_and c.from_residual.result c.from_residual.ensures.1 in
    rw (p.1) tt

pub returns-in_err-uber-clause-ready : goal.returns-in_err-uber-clause-ready
returns-in_err-uber-clause-ready g c =
    let p = err_from_is_err_and c.from_residual.result c.from_residual.ensures.1 in
    rw (p.1) tt

pub returns-in_err-uber-clause-reads : goal.returns-in_err-uber-clause-reads
returns-in_err-uber-clause-reads g c = search rules

pub returns-in_err-free-clause-there : goal.returns-in_err-free-clause-there
returns-in_err-free-clause-there g c = λ tight body rows pool told reads.
    let old = g.D.Disk.state c.args.disk.now in
    let same : c.in_ok-uber.uber ≡ body.uber = c.in_ok-uber.ensures.there body.uber (c.read_free.ensures.reads.reads.honest told) (IsLatest-reads old.size body rows pool old.seen (g.met.D.Disk.seen_size c.args.disk.now) reads) in
    let apart = subst (λ (u : Uber). Apart 8 body.free u.end) (sym same) reads.described.apart in
    let read = c.in_err-free.ensures.there body.free told (extents_there body c.in_ok-uber.uber old.seen _ same c.latest.ensures.reads.reads.seen reads.described.extents) apart in
    let p = err_from_is_err_and c.from_residual-in_err-free.result c.from_residual-in_err-free.ensures.1 in
    rw (p.1, p.2) read

pub returns-in_err-free-clause-answer : goal.returns-in_err-free-clause-answer
returns-in_err-free-clause-answer g c = λ told.
    let old = g.D.Disk.state c.args.disk.now in
    let uber = c.in_ok-uber.uber in
    let p = err_from_is_err_and c.from_residual-in_err-free.result c.from_residual-in_err-free.ensures.1 in
    rw (p.1, p.2) (OpenAnswers-refused old uber _ (c.in_ok-uber.ensures.stands (c.read_free.ensures.reads.reads.honest told)) c.in_err-free.ensures.fault (TellsFault-reads old _ uber _ c.latest.ensures.reads.reads (c.in_err-free.ensures.damaged told))
    (λ free rows opened. c.in_err-free.ensures.there free told (extents_before uber free old.seen _ c.latest.ensures.reads.reads.seen opened.extents) opened.apart))

pub returns-in_err-free-clause-rests : goal.returns-in_err-free-clause-rests
returns-in_err-free-clause-rests g c = λ tight body rows pool told reads.
    let p = err_from_is_err_and c.from_residual-in_err-free.result c.from_residual-in_err-free.ensures.1 in
    rw (p.1) tt

pub returns-in_err-free-clause-ready : goal.returns-in_err-free-clause-ready
returns-in_err-free-clause-ready g c =
    let p = err_from_is_err_and c.from_residual-in_err-free.result c.from_residual-in_err-free.ensures.1 in
    rw (p.1) tt

pub returns-in_err-free-clause-synced : goal.returns-in_err-free-clause-synced
returns-in_err-free-clause-synced g c = λ alive. IsSynced-reads _ _ c.in_err-free.ensures.reads.reads (c.in_ok-uber.ensures.settled (λ is. absurd (cc is)))

pub returns-in_err-free-clause-reads : goal.returns-in_err-free-clause-reads
returns-in_err-free-clause-reads g c =
    let p = err_from_is_err_and c.from_residual-in_err-free.result c.from_residual-in_err-free.ensures.1 in
    let first = c.latest.ensures.reads in
    rw (p.1, p.2) (reads_then _ _ _ first.reads first.cause.later (reads_refused _ _ c.in_err-free.ensures.reads))

pub returns-in_err-dir-clause-there : goal.returns-in_err-dir-clause-there
returns-in_err-dir-clause-there g c = λ tight body rows pool told reads.
    let old = g.D.Disk.state c.args.disk.now in
    let second = c.read_free.ensures.reads.reads in
    let same : c.in_ok-uber.uber ≡ body.uber =
    c.in_ok-uber.ensures.there body.uber (second.honest (c.read_dir.ensures.reads.reads.honest told)) (IsLatest-reads old.size body rows pool old.seen (g.met.D.Disk.seen_size c.args.disk.now) reads) in
    let read = c.in_err-dir.ensures.there rows told (dir_there body c.in_ok-uber.uber rows old.seen _ same (second.seen ∙ c.latest.ensures.reads.reads.seen) reads.described.directory) in
    let p = err_from_is_err_and c.from_residual-in_err-dir.result c.from_residual-in_err-dir.ensures.1 in
    rw (p.1, p.2) read

pub returns-in_err-dir-clause-answer : goal.returns-in_err-dir-clause-answer
returns-in_err-dir-clause-answer g c = λ told.
    let old = g.D.Disk.state c.args.disk.now in
    let uber = c.in_ok-uber.uber in
    let first = c.latest.ensures.reads.reads in
    let second = c.read_free.ensures.reads.reads in
    let tells = TellsFault-reads old _ uber _ first (TellsFault-reads _ _ uber _ second (c.in_err-dir.ensures.damaged told)) in
    let p = err_from_is_err_and c.from_residual-in_err-dir.result c.from_residual-in_err-dir.ensures.1 in
    rw (p.1, p.2) (OpenAnswers-refused old uber _ (c.in_ok-uber.ensures.stands (second.honest (c.read_dir.ensures.reads.reads.honest told))) c.in_err-dir.ensures.fault tells
    (λ free rows opened. c.in_err-dir.ensures.there rows told (dir_before uber rows old.seen _ (second.seen ∙ first.seen) opened.directory)))

pub returns-in_err-dir-clause-rests : goal.returns-in_err-dir-clause-rests
returns-in_err-dir-clause-rests g c = λ tight body rows pool told reads.
    let p = err_from_is_err_and c.from_residual-in_err-dir.result c.from_residual-in_err-dir.ensures.1 in
    rw (p.1) tt

pub returns-in_err-dir-clause-ready : goal.returns-in_err-dir-clause-ready
returns-in_err-dir-clause-ready g c =
    let p = err_from_is_err_and c.from_residual-in_err-dir.result c.from_residual-in_err-dir.ensures.1 in
    rw (p.1) tt

pub returns-in_err-dir-clause-synced : goal.returns-in_err-dir-clause-synced
returns-in_err-dir-clause-synced g c = λ alive. IsSynced-reads _ _ c.in_err-dir.ensures.reads.reads (IsSynced-reads _ _ c.read_free.ensures.reads.reads (c.in_ok-uber.ensures.settled (λ is. absurd (cc is))))

pub returns-in_err-dir-clause-reads : goal.returns-in_err-dir-clause-reads
returns-in_err-dir-clause-reads g c =
    let p = err_from_is_err_and c.from_residual-in_err-dir.result c.from_residual-in_err-dir.ensures.1 in
    let first = c.latest.ensures.reads in
    let second = c.read_free.ensures.reads in
    rw (p.1, p.2) (reads_then _ _ _ (OnlyReads-then _ _ _ first.reads second.reads) (omega (arith, first.cause.later, second.cause.later)) (reads_refused _ _ c.in_err-dir.ensures.reads))

pub returns-clause-there : goal.returns-clause-there
returns-clause-there g c = λ tight body rows pool told reads.
    let old = g.D.Disk.state c.args.disk.now in
    let first = c.latest.ensures.reads.reads in
    let second = c.read_free.ensures.reads.reads in
    let mid_told = c.read_dir.ensures.reads.reads.honest told in
    let uber = c.in_ok-uber.uber in
    let same : uber ≡ body.uber = c.in_ok-uber.ensures.there body.uber (second.honest mid_told) (IsLatest-reads old.size body rows pool old.seen (g.met.D.Disk.seen_size c.args.disk.now) reads) in
    let apart = subst (λ (u : Uber). Apart 8 body.free u.end) (sym same) reads.described.apart in
    let free = c.in_ok-free.ensures.there body.free mid_told (extents_there body uber old.seen _ same first.seen reads.described.extents) apart in
    let read = c.in_ok-dir.ensures.there rows told (dir_there body uber rows old.seen _ same (second.seen ∙ first.seen) reads.described.directory) in
    (c.new.ensures ∙ same_body (record { uber = uber; free = c.in_ok-free.free.items }) body same free, c.retain_kept.ensures.retained ∙ ap kept_rows read)

pub returns-clause-answer : goal.returns-clause-answer
returns-clause-answer g c = λ told.
    let old = g.D.Disk.state c.args.disk.now in
    let first = c.latest.ensures.reads.reads in
    let second = c.read_free.ensures.reads.reads in
    let mid_told = c.read_dir.ensures.reads.reads.honest told in
    let uber = c.in_ok-uber.uber in
    let free = c.in_ok-free.free.items in
    let dir = c.in_ok-dir.dir in
    let last = c.in_ok-uber.ensures.stands (second.honest mid_told) in
    let opened : IsOpened old (body_bytes uber) (record { uber = uber; free = free }) dir = record {
      is_body = IsBody-latest old.size uber old.seen last;
      extents = subst (λ (l : List ℕ). HasExtents (BlocksBefore uber.end l) uber.free_levels uber.free_root uber.free_count free) first.seen (c.in_ok-free.ensures.only mid_told);
      apart = c.in_ok-free.ensures.apart;
      directory = subst (λ (l : List ℕ). HasDir (BlocksBefore uber.end l) uber dir) (second.seen ∙ first.seen) (c.in_ok-dir.ensures.only told);
    } in
    (body_bytes uber, dir, last.stands, subst (λ (b : Body). IsOpened old (body_bytes uber) b dir) (sym c.new.ensures) opened, c.retain_kept.ensures.retained)

pub returns-clause-synced : goal.returns-clause-synced
returns-clause-synced g c = λ alive. IsSynced-reads _ _ c.in_ok-dir.ensures.reads.reads (IsSynced-reads _ _ c.in_ok-free.ensures.reads.reads (c.in_ok-uber.ensures.settled (λ is. absurd (cc is))))

pub returns-clause-rests : goal.returns-clause-rests
returns-clause-rests g c = λ tight body rows pool told reads.
    let only = OnlyReads-then _ _ _ (OnlyReads-then _ _ _ c.latest.ensures.reads.reads c.read_free.ensures.reads.reads) c.read_dir.ensures.reads.reads in
    let settled = returns-clause-synced g c (λ is. absurd (cc is)) in
    Rests-opened (g.D.Disk.state c.args.disk.now) _ body c.new.result rows pool reads only settled ((returns-clause-there g c tight body rows pool told reads).0)

-- what a look for the latest body gave is the one that is there
sole : (uber found : Uber) → GivesUber found (let result : Result Uber UberFault = Ok uber in result) → found ≡ uber
sole uber found gives = sym gives

pub returns-clause-ready : goal.returns-clause-ready
returns-clause-ready g c =
    let uber = c.in_ok-uber.uber in
    let made : Body = record { uber = uber; free = c.in_ok-free.free.items } in
    let only = OnlyReads-then _ _ _ c.read_free.ensures.reads.reads c.read_dir.ensures.reads.reads in
    let ready = Ready-latest (g.D.Disk.state c.args.disk.now) (g.D.Disk.state c.latest.new.disk) made c.latest.ensures.reads.reads c.in_ok-uber.ensures.in_range c.in_ok-free.ensures.apart c.in_ok-uber.ensures.next (c.in_ok-uber.ensures.label (λ is. absurd (cc is)))
    (λ told found is. sole uber found (c.in_ok-uber.ensures.there found told is)) in
    subst (Ready (g.D.Disk.state c.read_dir.new.disk)) (sym c.new.ensures) (Ready-reads _ _ made only ready)

pub returns-clause-reads : goal.returns-clause-reads
returns-clause-reads g c =
    let first = c.latest.ensures.reads in
    let second = c.read_free.ensures.reads in
    let third = c.read_dir.ensures.reads in
    record {
      reads = OnlyReads-then _ _ _ (OnlyReads-then _ _ _ first.reads second.reads) third.reads;
      cause = record { later = omega (arith, first.cause.later, second.cause.later, third.cause.later); fault = λ is. absurd (cc is) };
    }
