use Rattle.std.proofs.Common.{◌∙◌, ap, rules}
use Rattle.zst_outside.specs.Images.{WritesIn-reads, WritesIn-then}
use Rattle.zst_uber.specs.Slots.{slot_at}
use Rattle.zst_uber.proofs.Stages.{after_close, after_fill, after_open, stands, on_ok, gate_writes, body_writes}
use Rattle.zst_uber.proofs.commits.write_body.Goals as goal

pub returns-in_err-slot : goal.returns-in_err-slot
returns-in_err-slot g c = search rules

pub returns-in_err-close : goal.returns-in_err-close
returns-in_err-close g c =
    record {
      written = record {
        moments = λ told.
            let old = g.D.Disk.state c.args.disk.now in
            let found = c.close.ensures.puts.writes.honest told in
            let first = c.find_idle.ensures.reads.reads.honest found in
            after_close c.in_ok-slot.slot c.args.uber.now old (c.requires.body.settled first) (ap (slot_at old.seen) (c.in_ok-slot.ensures.idle found))
            _ _ c.find_idle.ensures.reads.reads (c.close.ensures.closes told);
        writes =
            let found = WritesIn-reads 0 4096 _ _ c.find_idle.ensures.reads.reads in
            WritesIn-then 0 4096 _ _ _ found (gate_writes c.in_ok-slot.slot _ _ c.close.ensures.puts.writes);
        stands = search rules;
        durable = search rules;
        fits = c.encode-body.ensures.fits;
      };
      cause = search rules;
    }

pub returns-in_err-fill : goal.returns-in_err-fill
returns-in_err-fill g c =
    record {
      written = record {
        moments = λ told.
            let old = g.D.Disk.state c.args.disk.now in
            let closed = c.fill.ensures.puts.writes.honest told in
            let found = c.close.ensures.puts.writes.honest closed in
            let first = c.find_idle.ensures.reads.reads.honest found in
            after_fill c.in_ok-slot.slot c.args.uber.now old (c.requires.body.settled first) (ap (slot_at old.seen) (c.in_ok-slot.ensures.idle found))
            _ _ c.find_idle.ensures.reads.reads (c.close.ensures.closes closed)
            _ c.in_ok-close.ensures.puts.durable (c.in_ok-close.ensures.closed closed) c.fill.ensures.puts.writes;
        writes =
            let found = WritesIn-reads 0 4096 _ _ c.find_idle.ensures.reads.reads in
            let closed = WritesIn-then 0 4096 _ _ _ found (gate_writes c.in_ok-slot.slot _ _ c.close.ensures.puts.writes) in
            WritesIn-then 0 4096 _ _ _ closed (body_writes c.in_ok-slot.slot _ _ c.fill.ensures.puts.writes);
        stands = search rules;
        durable = search rules;
        fits = c.encode-body.ensures.fits;
      };
      cause = search rules;
    }

pub returns : goal.returns
returns g c =
    record {
      written = record {
        moments = λ told.
            let old = g.D.Disk.state c.args.disk.now in
            let closed = c.fill.ensures.puts.writes.honest (c.open_gate.ensures.puts.writes.honest told) in
            let found = c.close.ensures.puts.writes.honest closed in
            let first = c.find_idle.ensures.reads.reads.honest found in
            after_open c.in_ok-slot.slot c.args.uber.now old (c.requires.body.settled first) (ap (slot_at old.seen) (c.in_ok-slot.ensures.idle found))
            _ _ c.find_idle.ensures.reads.reads (c.close.ensures.closes closed)
            _ c.in_ok-close.ensures.puts.durable (c.in_ok-close.ensures.closed closed) c.fill.ensures.puts.writes
            _ (c.requires.body.next first) c.in_ok-fill.ensures.puts.durable (record { bytes = c.in_ok-fill.ensures.body ∙ c.encode-body.ensures.bytes; number = c.encode-body.ensures.fits.number }) c.open_gate.ensures.puts.writes;
        writes =
            let found = WritesIn-reads 0 4096 _ _ c.find_idle.ensures.reads.reads in
            let closed = WritesIn-then 0 4096 _ _ _ found (gate_writes c.in_ok-slot.slot _ _ c.close.ensures.puts.writes) in
            let filled = WritesIn-then 0 4096 _ _ _ closed (body_writes c.in_ok-slot.slot _ _ c.fill.ensures.puts.writes) in
            WritesIn-then 0 4096 _ _ _ filled (gate_writes c.in_ok-slot.slot _ _ c.open_gate.ensures.puts.writes);
        stands = λ told.
            let old = g.D.Disk.state c.args.disk.now in
            let closed = c.fill.ensures.puts.writes.honest (c.open_gate.ensures.puts.writes.honest told) in
            let found = c.close.ensures.puts.writes.honest closed in
            let first = c.find_idle.ensures.reads.reads.honest found in
            on_ok c.open_gate.result _ _
            (stands c.in_ok-slot.slot c.args.uber.now old (c.requires.body.settled first) (ap (slot_at old.seen) (c.in_ok-slot.ensures.idle found))
            _ _ c.find_idle.ensures.reads.reads (c.close.ensures.closes closed)
            _ c.in_ok-close.ensures.puts.durable (c.in_ok-close.ensures.closed closed) c.fill.ensures.puts.writes
            _ (c.requires.body.next first) c.in_ok-fill.ensures.puts.durable (record { bytes = c.in_ok-fill.ensures.body ∙ c.encode-body.ensures.bytes; number = c.encode-body.ensures.fits.number }) c.open_gate.ensures.puts.writes)
            c.open_gate.ensures.opened;
        durable = search rules;
        fits = c.encode-body.ensures.fits;
      };
      cause = search rules;
    }
