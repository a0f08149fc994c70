use Rattle.std.proofs.Common.{List, ℕ, ◌∙◌, ap}
use Rattle.zst_uber.specs.Slots.{latest, latest_slot}
use Rattle.zst_uber.proofs.SlotsLaws.{latest_in_front, latest_slot_in_front}
use Rattle.zst_uber.proofs.latest_body.newest.Goals as goal

pub returns-clause-slot : goal.returns-clause-slot
returns-clause-slot g c = λ told.
    c.latest_in.ensures.slot ∙ ap (λ (front : List ℕ). latest_slot front) (c.in_ok-count.ensures.bytes told) ∙ latest_slot_in_front (g.D.Disk.state c.args.disk.now).seen

pub returns-clause-body : goal.returns-clause-body
returns-clause-body g c = λ told.
    c.latest_in.ensures.body ∙ ap (λ (front : List ℕ). latest front) (c.in_ok-count.ensures.bytes told) ∙ latest_in_front (g.D.Disk.state c.args.disk.now).seen
