use Rattle.std.proofs.Common.{false, refl}
use Rattle.zst_block.specs.Blocks.{Has}
use Rattle.zst_send.proofs.GivenRecords.{begins, begins_put}
use Rattle.std.proofs.Common.{sym, subst}
use Rattle.std.specs.Prelude.{IfSome, Option}
use Rattle.zst_send.specs.KnownPointers.{DueStands, IsAmong, PayloadStands}
use Rattle.zst_send.specs.declared.due_items.DueItems.{DueItems}
use Rattle.zst_send.specs.declared.pending_record.Payload.{Payload}
use Rattle.zst_send.proofs.send_state.SendState.start.Goals as goal

pub returns-clause-stands : goal.returns-clause-stands
returns-clause-stands c = λ image space snap view.
    let put = c.begin-pending.ensures.payload in
    begins c.args.header c.args.point c.walk_begins.ensures (Has image space) snap view (record { walk = c.start.result; writer = c.begin-pending.new.writer; pending = c.begin-pending.result; ended = false })
    c.begin-pending.ensures.written c.begin-pending.ensures.head (put.0, put.1.payload_is, put.2) put.1.given
    c.start.ensures.held c.start.ensures.point c.start.ensures.slot refl

pub returns-clause-puts : goal.returns-clause-puts
returns-clause-puts c = λ image space snap view.
    let put = c.begin-pending.ensures.payload in
    begins_put c.args.header c.args.point c.walk_begins.ensures (Has image space) snap view (record { walk = c.start.result; writer = c.begin-pending.new.writer; pending = c.begin-pending.result; ended = false })
    put.1.long c.begin-pending.ensures.head (put.0, put.1.payload_is, put.2) put.1.given c.start.ensures.held c.start.ensures.point c.start.ensures.slot refl

pub returns-clause-knows : goal.returns-clause-knows
returns-clause-knows c = λ images set. record {
  walk = subst (λ (h : Option DueItems). IfSome h (DueStands (IsAmong images) set)) (sym c.start.ensures.held) tt;
  pending = subst (λ (p : Payload). PayloadStands (IsAmong images) set p) (sym c.begin-pending.ensures.payload.1.payload_is) tt;
}
