use Rattle.std.proofs.Common.{◌*◌, ◌∙◌, ap, sym, arith, List, ℕ}
use Rattle.zst_bytes.specs.Bytes.{bytes_at}
use Rattle.zst_objset.proofs.SlotLaws.{IsSummed-none, IsSummed-next}
use Rattle.zst_objset.proofs.slots.summed_up.Goals as goal

pub loop-place-init : goal.loop-place-init
loop-place-init c = IsSummed-none c.args.node.now

pub loop-place-preserved : goal.loop-place-preserved
loop-place-preserved c =
    IsSummed-next c.args.node.now c.loop-place.place c.loop-place.all.number c.with-all.result.number c.loop-place.all.there c.with-all.result.there c.in_ok-slot.slot (omega arith)
    (λ other fits spelled. c.in_ok-slot.ensures.back other fits (ap (λ (bytes : List ℕ). bytes_at bytes (512 * c.loop-place.place) 512) c.as_slice.ensures.bytes ∙ spelled))
    c.in_ok-slot.ensures.spelled.0 (ap (λ (bytes : List ℕ). bytes_at bytes (512 * c.loop-place.place) 512) (sym c.as_slice.ensures.bytes) ∙ c.in_ok-slot.ensures.spelled.1)
    (ap (λ s. s.number) c.with-all.ensures) (ap (λ s. s.there) c.with-all.ensures) c.loop-place.invariant
