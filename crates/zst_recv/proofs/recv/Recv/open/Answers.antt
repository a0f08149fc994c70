use Rattle.std.proofs.Common.{[], arith, refl}
use Rattle.zst_recv.proofs.RecordOrder.{nothing_read}
use Rattle.zst_recv.proofs.recv.Recv.open.Goals as goal

pub returns-clause-fresh : goal.returns-clause-fresh
returns-clause-fresh g c =
    let stands = c.in_ok-open.ensures.stands in
    record {
      opens = λ bound image space. record { handed = []; reads = record { stands = stands; whole = nothing_read }; waits = refl; stands = tt };
      stands = stands;
      ask = refl;
      fits = record { stage = tt; reads = record { text = []; bytes = λ k other within. absurd (omega (arith, within)); handed = []; stands = stands; behind = refl } };
      live = refl;
      waiting = refl;
      fed = stands.pushed;
    }
