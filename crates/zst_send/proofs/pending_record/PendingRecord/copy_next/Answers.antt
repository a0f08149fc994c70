use Rattle.std.proofs.Common.{◌≡◌, ℕ, ◌+◌, ◌-◌, ◌<◌, ◌≤◌, List, length, take, drop, min, arith, refl, subst, ◌∙◌, sym}
use Rattle.zst_block.specs.IoStates.{blocks_of}
use Rattle.zst_send.specs.Costs.{IsHeld}
use Rattle.zst_send.specs.PendingRecords.{IsPayload, PayloadFits}
use Rattle.zst_send.specs.declared.pending_record.Payload.{Payload}
use Rattle.zst_send.proofs.RecordPieces.{head_given, payload_given}
use Rattle.std.proofs.lemmas.Result.{err_from_is_err_and}
use Rattle.zst_send.proofs.BufferReads.{block_copied, block_refused, copies_none}
use Rattle.zst_send.proofs.pending_record.PendingRecord.copy_next.Goals as goal

pub returns-in-Bonus-clause-gives : goal.returns-in-Bonus-clause-gives
returns-in-Bonus-clause-gives g c = λ left honest loaded pending.
    let has = blocks_of c.args.io.now in
    let given : ℕ = c.args.self.now.given in
    let copied = c.copy_from-in-Bonus in
    let payload : pending.payload ≡ take c.in-Bonus.count c.in-Bonus.field = subst (λ (p : Payload). IsPayload has p pending.payload) c.in-Bonus.is pending.payload_is in
    let all = payload_given c.args.self.now.head pending.payload copied.new.into left given (given - 312) copied.result (length c.args.into.now) (omega (arith, c.requires.can.fits.head, c.if-self-lt-RECORD_LEN.false)) pending.left_are
    (subst (λ (p : List ℕ). copied.result ≡ min (length p - (given - 312)) (length c.args.into.now)) (sym payload) copied.ensures.count)
    (subst (λ (p : List ℕ). take copied.result copied.new.into ≡ take copied.result (drop (given - 312) p)) (sym payload) copied.ensures.copied) in
    (all.same, all.less)

pub returns-in_ok-load-in-Block-clause-gives : goal.returns-in_ok-load-in-Block-clause-gives
returns-in_ok-load-in-Block-clause-gives g c = λ left honest loaded pending.
    let has = blocks_of c.args.io.now in
    let given : ℕ = c.args.self.now.given in
    let copied = c.copy_from-in-Block in
    let named = subst (λ (p : Payload). IsPayload has p pending.payload) c.in-Block.is pending.payload_is in
    let most : c.in-Block.ptr.length ≤ 131072 = subst PayloadFits c.in-Block.is c.requires.can.fits.payload in
    let long : length pending.payload ≡ c.in-Block.ptr.length = named.1 in
    let there = c.in_ok-load-in-Block.ensures.there pending.payload honest loaded named.0 (omega (arith, most, long)) in
    let payload : pending.payload ≡ c.block.result.now = sym (c.block.ensures ∙ there) in
    let all = payload_given c.args.self.now.head pending.payload copied.new.into left given (given - 312) copied.result (length c.args.into.now) (omega (arith, c.requires.can.fits.head, c.if-self-lt-RECORD_LEN.false)) pending.left_are
    (subst (λ (p : List ℕ). copied.result ≡ min (length p - (given - 312)) (length c.args.into.now)) (sym payload) copied.ensures.count)
    (subst (λ (p : List ℕ). take copied.result copied.new.into ≡ take copied.result (drop (given - 312) p)) (sym payload) copied.ensures.copied) in
    (all.same, all.less)

pub returns-then-self-lt-RECORD_LEN-clause-gives : goal.returns-then-self-lt-RECORD_LEN-clause-gives
returns-then-self-lt-RECORD_LEN-clause-gives g c = λ left honest loaded pending.
    let copied = c.copy_from in
    let all = head_given c.args.self.now.head pending.payload copied.new.into left c.args.self.now.given copied.result (length c.args.into.now) (omega (arith, c.requires.can.fits.head, c.if-self-lt-RECORD_LEN.true)) pending.left_are copied.ensures.count copied.ensures.copied in
    (all.same, all.less)

pub returns-in_err-load-in-Block-clause-gives : goal.returns-in_err-load-in-Block-clause-gives
returns-in_err-load-in-Block-clause-gives g c = λ left honest loaded pending.
    let p = err_from_is_err_and c.from_residual.result c.from_residual.ensures.1 in
    let named = subst (λ (p : Payload). IsPayload (blocks_of c.args.io.now) p pending.payload) c.in-Block.is pending.payload_is in
    let most : c.in-Block.ptr.length ≤ 131072 = subst PayloadFits c.in-Block.is c.requires.can.fits.payload in
    let long : length pending.payload ≡ c.in-Block.ptr.length = named.1 in
    rw (p.1, p.2) (c.in_err-load-in-Block.ensures.there pending.payload honest loaded named.0 (omega (arith, most, long)))

pub returns-then-self-lt-RECORD_LEN-clause-copies : goal.returns-then-self-lt-RECORD_LEN-clause-copies
returns-then-self-lt-RECORD_LEN-clause-copies g c = copies_none c.args.self.now _ c.args.buffer.now _ _ c.copy_from.result c.requires.can.buffer_fits c.copy_from.ensures.into (omega (arith, c.copy_from.ensures.count))

pub returns-in-Nothing-clause-copies : goal.returns-in-Nothing-clause-copies
returns-in-Nothing-clause-copies g c = copies_none c.args.self.now _ c.args.buffer.now _ _ 0 c.requires.can.buffer_fits refl (omega arith)

pub returns-in-Bonus-clause-copies : goal.returns-in-Bonus-clause-copies
returns-in-Bonus-clause-copies g c =
    let copied = c.copy_from-in-Bonus in
    copies_none c.args.self.now _ c.args.buffer.now _ _ copied.result c.requires.can.buffer_fits copied.ensures.into (omega (arith, copied.ensures.count))

pub returns-in_err-load-in-Block-clause-copies : goal.returns-in_err-load-in-Block-clause-copies
returns-in_err-load-in-Block-clause-copies g c =
    let p = err_from_is_err_and c.from_residual.result c.from_residual.ensures.1 in
    let load = c.in_err-load-in-Block.ensures in
    rw (p.1, p.2) (block_refused c.args.self.now c.in-Block.ptr c.in-Block.is c.requires.can.fits _ _ c.args.buffer.now c.load.new.self _ _ load.loaded load.kept refl _ load.reads)

pub returns-in_ok-load-in-Block-clause-copies : goal.returns-in_ok-load-in-Block-clause-copies
returns-in_ok-load-in-Block-clause-copies g c =
    let copied = c.copy_from-in-Block in
    let load = c.in_ok-load-in-Block.ensures in
    block_copied c.args.self.now c.in-Block.ptr c.in-Block.is c.requires.can.fits _ _ c.args.buffer.now c.load.new.self _ _ load.loaded load.kept copied.ensures.into _ copied.result load.reads load.holds.holds (omega (arith, copied.ensures.count))

-- ---- what needs no read

pub returns-then-self-lt-RECORD_LEN-clause-there : goal.returns-then-self-lt-RECORD_LEN-clause-there
returns-then-self-lt-RECORD_LEN-clause-there g c = λ there. record { never = tt; calls = omega arith }

pub returns-in-Nothing-clause-there : goal.returns-in-Nothing-clause-there
returns-in-Nothing-clause-there g c = λ there. record { never = tt; calls = omega arith }

pub returns-in-Bonus-clause-there : goal.returns-in-Bonus-clause-there
returns-in-Bonus-clause-there g c = λ there. record { never = tt; calls = omega arith }

pub returns-in_err-load-in-Block-clause-there : goal.returns-in_err-load-in-Block-clause-there
returns-in_err-load-in-Block-clause-there g c = λ there.
    let over : 312 < c.args.self.now.given + length c.args.into.now = omega (arith, c.requires.can.some, c.if-self-lt-RECORD_LEN.false) in
    let held = subst (λ (p : Payload). IsHeld c.args.buffer.now.holds p) c.in-Block.is (there.held over) in
    absurd (c.in_err-load-in-Block.ensures.held held)

pub returns-in_ok-load-in-Block-clause-there : goal.returns-in_ok-load-in-Block-clause-there
returns-in_ok-load-in-Block-clause-there g c = λ there.
    let over : 312 < c.args.self.now.given + length c.args.into.now = omega (arith, c.requires.can.some, c.if-self-lt-RECORD_LEN.false) in
    let held = subst (λ (p : Payload). IsHeld c.args.buffer.now.holds p) c.in-Block.is (there.held over) in
    record { never = tt; calls = c.in_ok-load-in-Block.ensures.kept held }
