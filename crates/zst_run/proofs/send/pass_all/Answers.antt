use Rattle.std.proofs.Common.{arith, refl, ◌∙◌}
use Rattle.zst_outside.specs.Images.{OnlyReads-none, OnlyReads-then}
use Rattle.zst_send.proofs.KnownPointers.{among_on}
use Rattle.zst_run.proofs.LaterDisks.{later_none, later_then}
use Rattle.zst_run.proofs.SendLemmas.{refused_earlier, sent_earlier}
use Rattle.zst_run.proofs.send.pass_all.Goals as goal

pub pieces-init : goal.pieces-init
pieces-init g c = record {
  sending = λ start sent told begun. begun;
  set = refl;
  knows = λ images told among knows. knows;
  gives = c.requires;
  within = omega arith;
  reads = OnlyReads-none _;
  later = later_none _;
  counts = refl;
  out_later = omega arith;
}

pub pieces-preserved : goal.pieces-preserved
pieces-preserved g c =
    let i = c.pieces.invariant in
    let e = c.in-None.ensures in
    record {
      sending = λ start sent told begun. e.passed start sent _ told (i.sending start sent (e.reads.honest told) begun);
      set = e.leaves.set ∙ i.set;
      knows = λ images told among knows. e.leaves.knows images (among_on images _ _ i.reads.seen among) told (i.knows images (e.reads.honest told) among knows);
      gives = record { room = (let first = i.gives.room in let next = e.room in omega arith); fits = e.leaves.fits; works = e.leaves.works refl };
      within = e.advances.1;
      reads = OnlyReads-then _ _ _ i.reads e.reads;
      later = later_then _ _ _ i.later e.later;
      counts = e.leaves.told refl ∙ i.counts;
      out_later = let first = i.out_later in let next = e.out_later in omega arith;
    }

pub returns-in-Some : goal.returns-in-Some
returns-in-Some g c =
    let i = c.pieces.invariant in
    let e = c.in-Some.ensures in
    record {
      sends = λ start sent told begun. sent_earlier start sent _ _ _ _ _ _ i.later.faults (e.passed start sent _ told (i.sending start sent (e.reads.honest told) begun));
      why = record {
        refused = refused_earlier _ _ _ _ _ _ _ i.later.faults i.out_later e.why.refused;
        unplanned = e.why.unplanned;
        listed = e.why.listed;
        told = λ done is. e.why.told done is ∙ i.counts;
        damaged = λ images among told knows.
            rw (i.reads.size, i.set) at (e.why.damaged images (among_on images _ _ i.reads.seen among) told (i.knows images (e.reads.honest told) among knows));
      };
      reads = OnlyReads-then _ _ _ i.reads e.reads;
      later = later_then _ _ _ i.later e.later;
    }
