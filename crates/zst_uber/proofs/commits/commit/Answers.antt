use Rattle.std.proofs.Common.{rules}
use Rattle.zst_uber.proofs.Decoding.{next_after, synced_label}
use Rattle.zst_uber.proofs.Stages.{images_now}
use Rattle.zst_uber.proofs.commits.commit.Goals as goal

pub returns-in-Ok : goal.returns-in-Ok
returns-in-Ok g c =
    let done = c.in-Ok.ensures.written in
    let old = g.D.Disk.state c.args.disk.now in
    record {
      commits = record {
        written = record { moments = done.moments; writes = done.writes; stands = done.stands; durable = done.durable; fits = done.fits };
        images = λ image told now.
            let moments = done.moments told in
            images_now c.args.uber.now old (g.D.Disk.state c.write_body.new.disk) image moments
            (g.met.D.Disk.counts_now c.write_body.new.disk old.moment image moments.later now) (λ left. g.met.D.Disk.only_now c.args.disk.now image left);
        following = λ told. next_after c.args.uber.now _ done.fits.number (done.stands told);
        label = synced_label (g.D.Disk.state c.write_body.new.disk) done.durable;
        cause = search rules;
        only = search rules;
      };
    }

pub returns-in-Err : goal.returns-in-Err
returns-in-Err g c =
    let done = c.in-Err.ensures.written in
    let old = g.D.Disk.state c.args.disk.now in
    record {
      commits = record {
        written = record { moments = done.moments; writes = done.writes; stands = λ told. tt; durable = tt; fits = done.fits };
        images = λ image told now.
            let moments = done.moments told in
            images_now c.args.uber.now old (g.D.Disk.state c.write_body.new.disk) image moments
            (g.met.D.Disk.counts_now c.write_body.new.disk old.moment image moments.later now) (λ left. g.met.D.Disk.only_now c.args.disk.now image left);
        following = λ told. tt;
        label = tt;
        cause = search rules;
        only = search rules;
      };
    }
