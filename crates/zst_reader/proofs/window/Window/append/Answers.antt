use Rattle.std.proofs.Common.{◌+◌, ◌≤◌, ◌++◌, length, take, slice_range, ap, ◌∙◌, rules}
use Rattle.std.proofs.lemmas.List.{with_items_is, places, take_all}
use Rattle.zst_reader.specs.Window.{items}
use Rattle.zst_reader.proofs.Windows.{grown}
use Rattle.zst_reader.proofs.window.Window.append.Goals as goal

pub returns : goal.returns
returns c =
    let w = c.make_room.new.self in
    let piece = c.args.piece.now in
    let xs = c.deref_mut.result.now in
    let ys = c.copy_from_slice.new.self in
    let within : w.end ≤ length xs = search rules in
    let fits : length piece ≤ length ys = search rules in
    ap (λ l. slice_range l w.start (w.end + length piece)) (with_items_is w.bytes _ (search (rules, places)))
    ∙ grown xs ys w.start w.end _ (length piece) w.ordered within fits
    ∙ ap (λ l. slice_range l w.start w.end ++ take (length piece) ys) c.deref_mut.ensures.value
    ∙ ap (λ l. l ++ take (length piece) ys) c.make_room.ensures.items
    ∙ ap (λ l. items c.args.self.now ++ l) (take_all (length piece) ys (search rules) ∙ c.copy_from_slice.ensures.after)
