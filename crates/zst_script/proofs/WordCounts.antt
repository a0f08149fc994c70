-- The line of an event has few words.
use Rattle.std.proofs.Common.{ℕ, ◌≤◌, List, length, codes, ◌∷◌, ap, arith}
use Rattle.zst_line.proofs.WordCounts.{line_few}
use Rattle.zst_script.specs.EventWords.{most_words}
use Rattle.zst_script.specs.Lines.{EventIs, before_last, with_image, word_for}
use Rattle.zst_script.specs.declared.event.Event.{Event}
use Rattle.zst_script.specs.declared.event.Event.TheVariants as events
use Rattle.zst_script.proofs.ImagePlaces.{length_with, with_image_long}

pub event_few : (event : Event) (words : List (List ℕ)) → EventIs event words → length words ≤ most_words
event_few (events.Step side command) words is =
    let line = line_few (with_image (word_for side) is.0) is.1.1.0 in
    let put = with_image_long (word_for side) is.0 in
    let whole = ap length is.1.0 in
    omega (arith, line, put, whole)
event_few (events.Token side dataset) words is =
    let line = line_few (with_image (word_for side) is.0) is.1.1.0 in
    let put = with_image_long (word_for side) is.0 in
    let whole = ap length is.1.0 in
    omega (arith, line, put, whole)
event_few (events.Check side) words is =
    let line = line_few (with_image (word_for side) is.0) is.1.1.0 in
    let put = with_image_long (word_for side) is.0 in
    let whole = ap length is.1.0 in
    omega (arith, line, put, whole)
event_few (events.Send side id ask) words is =
    let line = line_few (codes "send" ∷ before_last (word_for side) is.0) is.2.3.0 in
    let put = length_with (word_for side) is.0 in
    let whole = ap length is.2.2 in
    omega (arith, line, put, whole)
event_few (events.Receive side id ask) words is =
    let line = line_few (codes "receive" ∷ before_last (word_for side) is.0) is.2.3.0 in
    let put = length_with (word_for side) is.0 in
    let whole = ap length is.2.2 in
    omega (arith, line, put, whole)
event_few (events.Resume side id dataset) words is = let whole = ap length is.0 in omega (arith, whole)
event_few (events.Pump sends receives count) words is = let whole = ap length is.0 in omega (arith, whole)
event_few (events.Drop sends count) words is = let whole = ap length is.0 in omega (arith, whole)
event_few (events.Close sends) words is = let whole = ap length is.0 in omega (arith, whole)
event_few (events.Cut receives) words is = let whole = ap length is.0 in omega (arith, whole)
event_few (events.Reopen side) words is = let whole = ap length is in omega (arith, whole)
