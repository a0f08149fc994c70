-- An event that a line says has its values in their ranges.
use Rattle.std.proofs.Common.{List, ℕ}
use Rattle.zst_script.specs.Lines.{EventIs, IsEvent}
use Rattle.zst_script.specs.declared.event.Event.{Event}
use Rattle.zst_script.specs.declared.event.Event.TheVariants as events

pub said_is_in_range : (event : Event) (words : List (List ℕ)) → EventIs event words → IsEvent event
said_is_in_range (events.Step side command) words is = is.1.1.1.1
said_is_in_range (events.Token side dataset) words is = tt
said_is_in_range (events.Check side) words is = tt
said_is_in_range (events.Send side id ask) words is = tt
said_is_in_range (events.Resume side id dataset) words is = tt
said_is_in_range (events.Receive side id ask) words is = tt
said_is_in_range (events.Pump sends receives count) words is = is.3
said_is_in_range (events.Drop sends count) words is = is.2
said_is_in_range (events.Close sends) words is = tt
said_is_in_range (events.Cut receives) words is = tt
said_is_in_range (events.Reopen side) words is = tt
