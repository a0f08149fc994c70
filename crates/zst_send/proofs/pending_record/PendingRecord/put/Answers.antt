use Rattle.std.proofs.Common.{ℕ, ◌++◌, drop, length, sym, ◌∙◌, ap, subst}
use Rattle.std.proofs.lemmas.Result.{err_from_is_err_and}
use Rattle.zst_block.specs.IoStates.{blocks_of, disk_of}
use Rattle.zst_stream.specs.Records.{item_payload}
use Rattle.zst_send.specs.DueItems.{IsFirst}
use Rattle.zst_block.proofs.BlocksLaws.{IsBlock-length}
use Rattle.zst_model.specs.declared.states.item.Item.{Item}
use Rattle.zst_send.specs.Records.{blocks_behind, reads_of}
use Rattle.zst_send.specs.PendingRecords.{IsPayload, payload_size}
use Rattle.zst_send.specs.declared.pending_record.Payload.{Payload}
use Rattle.zst_send.specs.declared.due_items.DueItems.{DueItems}
use Rattle.zst_tree.specs.Damage.{IsSeen}
use Rattle.zst_send.specs.DueItems.{DueFits, block_of}
use Rattle.zst_send.specs.Costs.{reads_due}
use Rattle.zst_send.specs.Damage.{IsDamagedDue}
use Rattle.zst_objset.specs.Damage.{IfDamage}
use Rattle.zst_send.proofs.BlockDamage.{short_told}
use Rattle.zst_send.proofs.BufferReads.{block_put_of, bonus_put_of, due_read, due_refused, lone_put_of, reads_none}
use Rattle.zst_send.proofs.RecordPieces.{lone_put}
use Rattle.zst_send.proofs.Sizes.{spill_size_most}
use Rattle.zst_send.proofs.pending_record.PendingRecord.put.Goals as goal

pub returns-in_err-load-in-Spill-clause-put : goal.returns-in_err-load-in-Spill-clause-put
returns-in_err-load-in-Spill-clause-put g c = λ text item honest loaded written first.
    let p = err_from_is_err_and c.from_residual.result c.from_residual.ensures.1 in
    let named = subst (λ (d : DueItems). IsFirst (blocks_of c.args.io.now) d item) c.in-Spill.is first in
    rw (p.1, p.2) (c.in_err-load-in-Spill.ensures.there named.0 honest loaded named.1 named.2)

pub returns-in_err-load-in-Block-clause-put : goal.returns-in_err-load-in-Block-clause-put
returns-in_err-load-in-Block-clause-put g c = λ text item honest loaded written first.
    let p = err_from_is_err_and c.from_residual-in_err-load-in-Block.result c.from_residual-in_err-load-in-Block.ensures.1 in
    let named = subst (λ (d : DueItems). IsFirst (blocks_of c.args.io.now) d item) c.in-Block.is first in
    rw (p.1, p.2) (c.in_err-load-in-Block.ensures.there named.0 honest loaded named.1 named.2)

pub returns-in-Object-clause-put : goal.returns-in-Object-clause-put
returns-in-Object-clause-put g c = λ text item honest loaded written first.
    let has = blocks_of c.args.io.now in
    let named = subst (λ (d : DueItems). IsFirst has d item) c.in-Object.is first in
    let put = c.of_object.ensures.put text item written named in
    let field = c.of_object.ensures.payload in
    record {
      written = put.0;
      pending_is = record {
        payload = item_payload item;
        payload_is = subst (λ (p : Payload). IsPayload has p (item_payload item)) (sym field.2.payload_is) (ap item_payload named ∙ sym field.3);
        left_are = sym put.1 ∙ ap (λ (n : ℕ). drop n (c.of_object.result.head ++ item_payload item)) (sym field.2.given);
      };
    }

pub returns-in_err-load-in-Spill-clause-size : goal.returns-in_err-load-in-Spill-clause-size
returns-in_err-load-in-Spill-clause-size g c = λ item first.
    let p = err_from_is_err_and c.from_residual.result c.from_residual.ensures.1 in
    rw p.1 tt

pub returns-in_err-load-in-Block-clause-size : goal.returns-in_err-load-in-Block-clause-size
returns-in_err-load-in-Block-clause-size g c = λ item first.
    let p = err_from_is_err_and c.from_residual-in_err-load-in-Block.result c.from_residual-in_err-load-in-Block.ensures.1 in
    rw p.1 tt

pub returns-in_ok-load-in-Spill-clause-size : goal.returns-in_ok-load-in-Spill-clause-size
returns-in_ok-load-in-Spill-clause-size g c = λ item first.
    let named = subst (λ (d : DueItems). IsFirst (blocks_of c.args.io.now) d item) c.in-Spill.is first in
    let long = IsBlock-length _ c.in-Spill.ptr named.0 named.1.block in
    record {
      size = ap payload_size c.of_block.ensures.fresh.payload_is ∙ sym long ∙ sym (ap (λ (i : Item). length (item_payload i)) named.3);
      blocks = ap blocks_behind c.of_block.ensures.fresh.payload_is ∙ sym (ap reads_of named.3);
    }

pub returns-in_ok-load-in-Block-clause-size : goal.returns-in_ok-load-in-Block-clause-size
returns-in_ok-load-in-Block-clause-size g c = λ item first.
    let named = subst (λ (d : DueItems). IsFirst (blocks_of c.args.io.now) d item) c.in-Block.is first in
    let long = IsBlock-length _ c.in-Block.ptr named.0 named.1.block in
    record {
      size = ap payload_size c.of_block-in-Block.ensures.fresh.payload_is ∙ sym long ∙ sym (ap (λ (i : Item). length (item_payload i)) named.3);
      blocks = ap blocks_behind c.of_block-in-Block.ensures.fresh.payload_is ∙ sym (ap reads_of named.3);
    }

pub returns-in-Absent-clause-put : goal.returns-in-Absent-clause-put
returns-in-Absent-clause-put g c = λ text item honest loaded written first.
    let has = blocks_of c.args.io.now in
    let named = subst (λ (d : DueItems). IsFirst has d item) c.in-Absent.is first in
    lone_put has c.args.to text item _ c.of.new.writer c.of.result named (c.of.ensures.put text written) c.of.ensures.fresh.payload_is c.of.ensures.fresh.given

pub returns-in-Absent-clause-size : goal.returns-in-Absent-clause-size
returns-in-Absent-clause-size g c = λ item first.
    let named = subst (λ (d : DueItems). IsFirst (blocks_of c.args.io.now) d item) c.in-Absent.is first in
    record {
      size = ap payload_size c.of.ensures.fresh.payload_is ∙ sym (ap (λ (i : Item). length (item_payload i)) named);
      blocks = ap blocks_behind c.of.ensures.fresh.payload_is ∙ sym (ap reads_of named);
    }

pub returns-in-Tail-clause-put : goal.returns-in-Tail-clause-put
returns-in-Tail-clause-put g c = λ text item honest loaded written first.
    let has = blocks_of c.args.io.now in
    let named = subst (λ (d : DueItems). IsFirst has d item) c.in-Tail.is first in
    lone_put has c.args.to text item _ c.of-in-Tail.new.writer c.of-in-Tail.result named (c.of-in-Tail.ensures.put text written) c.of-in-Tail.ensures.fresh.payload_is c.of-in-Tail.ensures.fresh.given

pub returns-in-Tail-clause-size : goal.returns-in-Tail-clause-size
returns-in-Tail-clause-size g c = λ item first.
    let named = subst (λ (d : DueItems). IsFirst (blocks_of c.args.io.now) d item) c.in-Tail.is first in
    record {
      size = ap payload_size c.of-in-Tail.ensures.fresh.payload_is ∙ sym (ap (λ (i : Item). length (item_payload i)) named);
      blocks = ap blocks_behind c.of-in-Tail.ensures.fresh.payload_is ∙ sym (ap reads_of named);
    }

pub returns-in-Holes-clause-put : goal.returns-in-Holes-clause-put
returns-in-Holes-clause-put g c = λ text item honest loaded written first.
    let has = blocks_of c.args.io.now in
    let named = subst (λ (d : DueItems). IsFirst has d item) c.in-Holes.is first in
    lone_put has c.args.to text item _ c.of-in-Holes.new.writer c.of-in-Holes.result named (c.of-in-Holes.ensures.put text written) c.of-in-Holes.ensures.fresh.payload_is c.of-in-Holes.ensures.fresh.given

pub returns-in-Holes-clause-size : goal.returns-in-Holes-clause-size
returns-in-Holes-clause-size g c = λ item first.
    let named = subst (λ (d : DueItems). IsFirst (blocks_of c.args.io.now) d item) c.in-Holes.is first in
    record {
      size = ap payload_size c.of-in-Holes.ensures.fresh.payload_is ∙ sym (ap (λ (i : Item). length (item_payload i)) named);
      blocks = ap blocks_behind c.of-in-Holes.ensures.fresh.payload_is ∙ sym (ap reads_of named);
    }

pub returns-in-Redacted-clause-put : goal.returns-in-Redacted-clause-put
returns-in-Redacted-clause-put g c = λ text item honest loaded written first.
    let has = blocks_of c.args.io.now in
    let named = subst (λ (d : DueItems). IsFirst has d item) c.in-Redacted.is first in
    lone_put has c.args.to text item _ c.of-in-Redacted.new.writer c.of-in-Redacted.result named (c.of-in-Redacted.ensures.put text written) c.of-in-Redacted.ensures.fresh.payload_is c.of-in-Redacted.ensures.fresh.given

pub returns-in-Redacted-clause-size : goal.returns-in-Redacted-clause-size
returns-in-Redacted-clause-size g c = λ item first.
    let named = subst (λ (d : DueItems). IsFirst (blocks_of c.args.io.now) d item) c.in-Redacted.is first in
    record {
      size = ap payload_size c.of-in-Redacted.ensures.fresh.payload_is ∙ sym (ap (λ (i : Item). length (item_payload i)) named);
      blocks = ap blocks_behind c.of-in-Redacted.ensures.fresh.payload_is ∙ sym (ap reads_of named);
    }

pub returns-in_err-load-in-Spill-clause-loaded : goal.returns-in_err-load-in-Spill-clause-loaded
returns-in_err-load-in-Spill-clause-loaded g c = λ item honest loaded first.
    let named = subst (λ (d : DueItems). IsFirst (blocks_of c.args.io.now) d item) c.in-Spill.is first in
    c.in_err-load-in-Spill.ensures.loaded named.0 honest loaded named.1

pub returns-in_err-load-in-Block-clause-loaded : goal.returns-in_err-load-in-Block-clause-loaded
returns-in_err-load-in-Block-clause-loaded g c = λ item honest loaded first.
    let named = subst (λ (d : DueItems). IsFirst (blocks_of c.args.io.now) d item) c.in-Block.is first in
    c.in_err-load-in-Block.ensures.loaded named.0 honest loaded named.1

pub returns-in_ok-load-in-Spill-clause-loaded : goal.returns-in_ok-load-in-Spill-clause-loaded
returns-in_ok-load-in-Spill-clause-loaded g c = λ item honest loaded first.
    let named = subst (λ (d : DueItems). IsFirst (blocks_of c.args.io.now) d item) c.in-Spill.is first in
    c.in_ok-load-in-Spill.ensures.loaded named.0 honest loaded named.1

pub returns-in_ok-load-in-Block-clause-loaded : goal.returns-in_ok-load-in-Block-clause-loaded
returns-in_ok-load-in-Block-clause-loaded g c = λ item honest loaded first.
    let named = subst (λ (d : DueItems). IsFirst (blocks_of c.args.io.now) d item) c.in-Block.is first in
    c.in_ok-load-in-Block.ensures.loaded named.0 honest loaded named.1

pub returns-in-Absent-clause-reads : goal.returns-in-Absent-clause-reads
returns-in-Absent-clause-reads g c = reads_none _ _ _ c.args.buffer.now _ c.requires.buffer

pub returns-in-Object-clause-reads : goal.returns-in-Object-clause-reads
returns-in-Object-clause-reads g c = reads_none _ _ _ c.args.buffer.now _ c.requires.buffer

pub returns-in-Tail-clause-reads : goal.returns-in-Tail-clause-reads
returns-in-Tail-clause-reads g c = reads_none _ _ _ c.args.buffer.now _ c.requires.buffer

pub returns-in-Holes-clause-reads : goal.returns-in-Holes-clause-reads
returns-in-Holes-clause-reads g c = reads_none _ _ _ c.args.buffer.now _ c.requires.buffer

pub returns-in-Redacted-clause-reads : goal.returns-in-Redacted-clause-reads
returns-in-Redacted-clause-reads g c = reads_none _ _ _ c.args.buffer.now _ c.requires.buffer

pub returns-in_err-load-in-Spill-clause-reads : goal.returns-in_err-load-in-Spill-clause-reads
returns-in_err-load-in-Spill-clause-reads g c =
    let p = err_from_is_err_and c.from_residual.result c.from_residual.ensures.1 in
    let fits = subst DueFits c.in-Spill.is c.requires.due in
    let fault = c.in_err-load-in-Spill.field-0.0 in
    rw (p.1, p.2) (due_refused c.args.due.now c.in-Spill.ptr (ap reads_due c.in-Spill.is) _ _ _ fault
    (λ told. subst (λ (d : DueItems). IfDamage fault (IsDamagedDue (IsSeen (disk_of c.args.io.now).seen) (disk_of c.args.io.now).size d)) (sym c.in-Spill.is)
    (short_told (IsSeen (disk_of c.args.io.now).seen) (disk_of c.args.io.now).size c.in-Spill.ptr (spill_size_most c.in-Spill.ptr.length fits.1) fault told))
    c.in_err-load-in-Spill.ensures.reads)

pub returns-in_err-load-in-Block-clause-reads : goal.returns-in_err-load-in-Block-clause-reads
returns-in_err-load-in-Block-clause-reads g c =
    let p = err_from_is_err_and c.from_residual-in_err-load-in-Block.result c.from_residual-in_err-load-in-Block.ensures.1 in
    let fault = c.in_err-load-in-Block.field-0.0 in
    rw (p.1, p.2) (due_refused c.args.due.now c.in-Block.ptr (ap reads_due c.in-Block.is) _ _ _ fault
    (λ told. subst (λ (d : DueItems). IfDamage fault (IsDamagedDue (IsSeen (disk_of c.args.io.now).seen) (disk_of c.args.io.now).size d)) (sym c.in-Block.is) told)
    c.in_err-load-in-Block.ensures.reads)

pub returns-in_ok-load-in-Spill-clause-reads : goal.returns-in_ok-load-in-Spill-clause-reads
returns-in_ok-load-in-Spill-clause-reads g c = due_read c.args.due.now c.in-Spill.ptr (ap reads_due c.in-Spill.is) _ _ _ _ _ c.in_ok-load-in-Spill.ensures.reads

pub returns-in_ok-load-in-Block-clause-reads : goal.returns-in_ok-load-in-Block-clause-reads
returns-in_ok-load-in-Block-clause-reads g c = due_read c.args.due.now c.in-Block.ptr (ap reads_due c.in-Block.is) _ _ _ _ _ c.in_ok-load-in-Block.ensures.reads

-- ---- what follows the record

pub returns-in-Absent-clause-follows : goal.returns-in-Absent-clause-follows
returns-in-Absent-clause-follows g c = lone_put_of c.args.due.now _ c.of.result c.of.ensures.fresh

pub returns-in-Object-clause-follows : goal.returns-in-Object-clause-follows
returns-in-Object-clause-follows g c =
    let put = c.of_object.ensures.payload in
    bonus_put_of c.args.due.now _ c.of_object.result put.0 put.1 put.2 put.4

pub returns-in_err-load-in-Spill-clause-follows : goal.returns-in_err-load-in-Spill-clause-follows
returns-in_err-load-in-Spill-clause-follows g c =
    let p = err_from_is_err_and c.from_residual.result c.from_residual.ensures.1 in
    rw p.1 tt

pub returns-in_ok-load-in-Spill-clause-follows : goal.returns-in_ok-load-in-Spill-clause-follows
returns-in_ok-load-in-Spill-clause-follows g c = block_put_of c.args.due.now _ c.of_block.result c.in-Spill.ptr c.of_block.ensures.fresh c.in_ok-load-in-Spill.ensures.holds (ap block_of c.in-Spill.is)

pub returns-in-Tail-clause-follows : goal.returns-in-Tail-clause-follows
returns-in-Tail-clause-follows g c = lone_put_of c.args.due.now _ c.of-in-Tail.result c.of-in-Tail.ensures.fresh

pub returns-in-Holes-clause-follows : goal.returns-in-Holes-clause-follows
returns-in-Holes-clause-follows g c = lone_put_of c.args.due.now _ c.of-in-Holes.result c.of-in-Holes.ensures.fresh

pub returns-in-Redacted-clause-follows : goal.returns-in-Redacted-clause-follows
returns-in-Redacted-clause-follows g c = lone_put_of c.args.due.now _ c.of-in-Redacted.result c.of-in-Redacted.ensures.fresh

pub returns-in_err-load-in-Block-clause-follows : goal.returns-in_err-load-in-Block-clause-follows
returns-in_err-load-in-Block-clause-follows g c =
    let p = err_from_is_err_and c.from_residual-in_err-load-in-Block.result c.from_residual-in_err-load-in-Block.ensures.1 in
    rw p.1 tt

pub returns-in_ok-load-in-Block-clause-follows : goal.returns-in_ok-load-in-Block-clause-follows
returns-in_ok-load-in-Block-clause-follows g c = block_put_of c.args.due.now _ c.of_block-in-Block.result c.in-Block.ptr c.of_block-in-Block.ensures.fresh c.in_ok-load-in-Block.ensures.holds (ap block_of c.in-Block.is)
