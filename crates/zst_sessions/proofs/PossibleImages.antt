-- What a crash within an event may leave.
use Rattle.std.proofs.Common.{inr, ℕ, List, true}
use Rattle.zst_script.specs.declared.event.Event.{Event}
use Rattle.zst_script.specs.declared.event.Event.TheVariants as events
use Rattle.zst_script.specs.declared.event.Side.{Side}
use Rattle.zst_sessions.specs.Engines.{BeforeOrAfter, Kept, MayLeave}
use Rattle.zst_sessions.specs.World.{World}

-- it may leave what reads as the pool before it or after it
pub reads_may : (side : Side) (event : Event) (kept : Kept) (before after : World) (c : List ℕ) → BeforeOrAfter true side before after c → MayLeave true side event kept before after c
reads_may side (events.Reopen other) kept before after c reads = inr reads
reads_may side (events.Step of command) kept before after c reads = reads
reads_may side (events.Token of dataset) kept before after c reads = reads
reads_may side (events.Check of) kept before after c reads = reads
reads_may side (events.Send of id ask) kept before after c reads = reads
reads_may side (events.Resume of id dataset) kept before after c reads = reads
reads_may side (events.Receive of id ask) kept before after c reads = reads
reads_may side (events.Pump sends receives count) kept before after c reads = reads
reads_may side (events.Drop id count) kept before after c reads = reads
reads_may side (events.Close id) kept before after c reads = reads
reads_may side (events.Cut id) kept before after c reads = reads
