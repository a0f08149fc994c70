-- What a call leaves of a send that reads nothing for it.
use Rattle.std.specs.Prelude.{Bool, Option, Result, Ok}
use Rattle.std.proofs.Common.{◌≡◌, ℕ, ◌+◌, ◌-◌, List, length, take, drop, sym, ap, subst, arith}
use Rattle.std.proofs.lemmas.List.{length-drop, length-take}
use Rattle.zst_block.specs.IoStates.{IoState}
use Rattle.zst_block.specs.declared.fault.BlockFault.{BlockFault}
use Rattle.zst_block.specs.declared.ptr.Ptr.{Ptr}
use Rattle.zst_block.proofs.IoCallLemmas.{Looks-none}
use Rattle.zst_send.specs.Costs.{IsHeld}
use Rattle.zst_send.specs.NextRecords.{IsIdle, ReadsFor}
use Rattle.zst_send.specs.PendingRecords.{BufferFits, payload_size}
use Rattle.zst_send.specs.SendState.{StandFits}
use Rattle.zst_send.specs.Takes.{AreThere}
use Rattle.zst_send.specs.declared.block_buffer.BlockBuffer.{BlockBuffer}
use Rattle.zst_send.specs.declared.pending_record.Payload.{Payload}
use Rattle.zst_send.specs.declared.pending_record.PendingRecord.{PendingRecord}
use Rattle.zst_send.specs.declared.send_state.SendState.{SendState}
use Rattle.zst_send.specs.declared.subject.Subject.{Subject}

-- nothing is read, and the send stays as it is
pub reads_nothing : {T : Type 0} (subject : Subject) (stand : SendState) (buffer : BlockBuffer) (io : IoState) (value : T) → StandFits stand → BufferFits buffer → ReadsFor subject stand stand buffer buffer io io (Ok value)
reads_nothing subject stand buffer io value fits long = record {
  loaded = λ header snap left honest holds loaded at. loaded;
  stands = λ images among honest was. was;
  damaged = λ images among honest was. tt;
  stand = fits;
  buffer_fits = long;
  looks = Looks-none io;
}

-- where nothing was done, what needs no read needs none
pub there_still : (old new : SendState) (was buffer : BlockBuffer) (before after count : ℕ) (result : Result Bool BlockFault) → IsIdle old new was buffer before after result → AreThere old.pending was.holds count
    → AreThere new.pending buffer.holds count
there_still old new was buffer before after count result idle are =
    subst (λ (b : BlockBuffer). AreThere new.pending b.holds count) (sym idle.buffer_is) (subst (λ (s : SendState). AreThere s.pending was.holds count) (sym idle.stand) are)

-- nor does what is behind the bytes that were given
pub there_on : (old new : PendingRecord) (was holds : Option Ptr) (count given rest : ℕ) → new.payload ≡ old.payload → new.given ≡ old.given + given → rest + given ≡ count
    → (IsHeld was old.payload → IsHeld holds old.payload) → AreThere old was count → AreThere new holds rest
there_on old new was holds count given rest payload moved is keeps are = record {
  put = let size : payload_size new.payload ≡ payload_size old.payload = ap payload_size payload in omega (arith, are.put, moved, is, size);
  held = λ over. subst (λ (p : Payload). IsHeld holds p) (sym payload) (keeps (are.held (omega (arith, over, moved, is))));
}

-- so many bytes are behind the first ones
pub room_behind : (into : List ℕ) (count : ℕ) → length (take (length into - count) (drop count into)) ≡ length into - count
room_behind into count = omega (arith, length-take (length into - count) (drop count into), length-drop count into)

pub there_in : (pending : PendingRecord) (holds : Option Ptr) (into : List ℕ) (count : ℕ) → AreThere pending holds (length into - count) → AreThere pending holds (length (take (length into - count) (drop count into)))
there_in pending holds into count are = subst (λ (n : ℕ). AreThere pending holds n) (sym (room_behind into count)) are
