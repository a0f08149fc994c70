use Rattle.std.proofs.Common.{ℕ, List, ◌++◌, sym, subst}
use Rattle.zst_stream.specs.FoundItems.{found_item}
use Rattle.zst_writer.specs.Writes.{HasWritten}
use Rattle.zst_send.proofs.ItemRecords.{is_piece}
use Rattle.zst_send.proofs.pending_record.PendingRecord.of_block.Goals as goal

pub returns-clause-put : goal.returns-clause-put
returns-clause-put c = λ text written.
    let piece = is_piece text c.args.to (found_item c.args.item.now) c.head_of.result c.put.new.into c.args.bytes.now c.head_of.ensures (c.put.ensures.record text written) (sym c.requires.item.are) in
    (subst (λ (bytes : List ℕ). HasWritten c.put.new.self (text ++ bytes)) piece (c.put.ensures.written text written), piece)
