use Rattle.std.proofs.Common.{inl, refl, arith}
use Rattle.zst_block.specs.Blocks.{Has}
use Rattle.zst_model.specs.fields.Lists.{has_pair}
use Rattle.zst_send.specs.HeldPointers.{held_of, pointer_behind, pointer_due}
use Rattle.zst_send.proofs.KeptBlocks.{kept_held, send_stays}
use Rattle.zst_send.proofs.laws.sends_outlast_reclaims.Goals as goal

pub returns-clause-outlast : goal.returns-clause-outlast
returns-clause-outlast c = λ send sent start given left image space over before sends.
    let kept = kept_held image space over (held_of send) before in
    let due = kept (pointer_due send.stand.walk.held) (0, omega arith, refl) in
    let behind = kept (pointer_behind send.stand.pending.payload) (1, omega arith, refl) in
    let loaded = kept send.buffer.holds (2, omega arith, refl) in
    let but = c.unreached_sectors_may_be_free.ensures.but image space over in
    let holds = but (has_pair send.subject.redact) send.subject.set sent.snapshot.objects (λ sector reached. before sector (inl reached)) sends.holds in
    send_stays (Has image space) (Has image over) send sent start given left holds due behind loaded sends

pub returns-clause-stand : goal.returns-clause-stand
returns-clause-stand c = λ image space send sent start given left sends. (has_pair send.subject.redact, sent.snapshot.objects, sends.holds)
