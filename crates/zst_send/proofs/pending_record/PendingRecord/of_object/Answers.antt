use Rattle.std.proofs.Common.{ℕ, List, ◌++◌, sym, ◌∙◌, ap, subst}
use Rattle.zst_stream.specs.Records.{item_head, item_payload}
use Rattle.zst_writer.specs.Writes.{HasWritten}
use Rattle.zst_send.proofs.ItemRecords.{is_piece}
use Rattle.zst_send.proofs.pending_record.PendingRecord.of_object.Goals as goal

pub returns-clause-put : goal.returns-clause-put
returns-clause-put c = λ text item written is.
    let head = c.head_of.ensures ∙ ap (item_head c.args.to) (sym is) in
    let payload = c.pad_bonus-padded.ensures.padded ∙ sym (ap item_payload is) in
    let piece = is_piece text c.args.to item c.head_of.result c.put.new.into c.pad_bonus-padded.result.now head (c.put.ensures.record text written) payload in
    (subst (λ (bytes : List ℕ). HasWritten c.put.new.self (text ++ bytes)) piece (c.put.ensures.written text written), ap (λ (p : List ℕ). c.put.new.into ++ p) (sym payload) ∙ piece)
