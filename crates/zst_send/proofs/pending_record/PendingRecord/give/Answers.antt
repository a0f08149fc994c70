use Rattle.std.proofs.Common.{refl}
use Rattle.std.proofs.lemmas.Result.{err_from_is_err_and}
use Rattle.zst_send.proofs.BufferReads.{gives_none}
use Rattle.zst_send.proofs.pending_record.PendingRecord.give.Goals as goal

pub returns-in_err-count-clause-gives : goal.returns-in_err-count-clause-gives
returns-in_err-count-clause-gives g c = λ left honest loaded pending.
    let p = err_from_is_err_and c.from_residual.result c.from_residual.ensures.1 in
    rw (p.1, p.2) (c.in_err-count.ensures.gives left honest loaded pending)

pub returns-in_err-count-clause-copies : goal.returns-in_err-count-clause-copies
returns-in_err-count-clause-copies g c =
    let p = err_from_is_err_and c.from_residual.result c.from_residual.ensures.1 in
    rw (p.1, p.2) c.in_err-count.ensures.copies

pub returns-in_err-count-clause-more : goal.returns-in_err-count-clause-more
returns-in_err-count-clause-more g c =
    let p = err_from_is_err_and c.from_residual.result c.from_residual.ensures.1 in
    rw (p.1, p.2) (gives_none c.args.self.now _ c.requires.can.fits)

pub returns-clause-copies : goal.returns-clause-copies
returns-clause-copies g c = c.in_ok-count.ensures.copies

pub returns-clause-more : goal.returns-clause-more
returns-clause-more g c = record {
  some = c.in_ok-count.ensures.count.0;
  moved = refl;
  payload = refl;
  stays = tt;
  fits = record { head = c.requires.can.fits.head; payload = c.requires.can.fits.payload; given = c.in_ok-count.ensures.count.1 };
}

pub returns-in_err-count-clause-there : goal.returns-in_err-count-clause-there
returns-in_err-count-clause-there g c = λ there. absurd ((c.in_err-count.ensures.there there).never)

pub returns-clause-there : goal.returns-clause-there
returns-clause-there g c = λ there. record { never = tt; calls = (c.in_ok-count.ensures.there there).calls }
