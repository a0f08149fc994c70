-- What a crash may leave of a pool, from an earlier moment to the end of an event.
use Rattle.std.proofs.Common.{◌⊎◌, inl, inr, ◌≤◌, ℕ, Bool, List, ⊎_elim, arith}
use Rattle.zst_outside.specs.Images.{DiskState, Leaves}
use Rattle.zst_script.specs.declared.event.Event.{Event}
use Rattle.zst_script.specs.declared.event.Event.TheVariants as events
use Rattle.zst_script.specs.declared.event.Side.{Side}
use Rattle.zst_sessions.specs.Engines.{BeforeOrAfter, Kept, MayLeave}
use Rattle.zst_sessions.specs.World.{World}

-- within an event that is an image that a crash might have left as it began, or one that reads as the pool before it or after it
may_leave : (tight : Bool) (side : Side) (event : Event) (kept : Kept) (world after : World) (c : List ℕ) → MayLeave tight side event kept world after c → kept.disk.images c ⊎ BeforeOrAfter tight side world after c
may_leave tight side (events.Reopen other) kept world after c (inl (fell, image)) = inl image
may_leave tight side (events.Reopen other) kept world after c (inr reads) = inr reads
may_leave tight side event kept world after c reads = inr reads

-- So what holds of all that a crash may have left up to an event goes on to hold, where it holds of what reads as the pool before the event or after it.
pub leaves_on : (tight : Bool) (side : Side) (event : Event) (kept : Kept) (world after : World) (start new : DiskState) (P : List ℕ → Type 0)
    → ((t : ℕ) (c : List ℕ) → t ≤ kept.disk.moment → kept.disk.images c → kept.disk.left_since t c) → Leaves start kept.disk P → Leaves kept.disk new (MayLeave tight side event kept world after)
    → ((c : List ℕ) → BeforeOrAfter tight side world after c → P c) → Leaves start new P
leaves_on tight side event kept world after start new P counts first second reads = record {
  later = omega (arith, first.later, second.later);
  adds = λ t c le left.
      ⊎_elim (λ before. first.adds t c le before)
      (λ here. ⊎_elim (λ image. first.adds t c le (counts t c (omega (arith, le, first.later)) image)) (λ so. inr (reads c so)) (may_leave tight side event kept world after c here))
      (second.adds t c (omega (arith, le, first.later)) left);
}
