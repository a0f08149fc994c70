use Rattle.std.proofs.Common.{ℕ, List, ◌++◌, sym, ◌∙◌, ap, subst}
use Rattle.zst_record.specs.Heads.{payload_len}
use Rattle.zst_stream.specs.FoundItems.{found_item}
use Rattle.zst_writer.specs.Writes.{HasWritten}
use Rattle.zst_send.proofs.ItemRecords.{is_lone_piece}
use Rattle.zst_send.proofs.pending_record.PendingRecord.of.Goals as goal

pub alone-requires : goal.alone-requires
alone-requires c = ap payload_len c.head_of.ensures ∙ c.requires.item.len

pub returns-clause-put : goal.returns-clause-put
returns-clause-put c = λ text written.
    let piece = is_lone_piece text c.args.to (found_item c.args.item.now) c.head_of.result c.alone.result.head c.head_of.ensures (c.alone.ensures.head text written) (sym c.requires.item.alone) in
    (subst (λ (bytes : List ℕ). HasWritten c.alone.new.writer (text ++ bytes)) (sym (c.alone.ensures.head text written) ∙ piece) (c.alone.ensures.written text written), piece)
