use Rattle.std.proofs.Common.{◌+◌, ◌≤◌, [], ◌++◌, length, take, slice_range, refl, sym, ap, ◌∙◌, rules}
use Rattle.std.proofs.lemmas.List.{with_items_is, places, append-nil}
use Rattle.std.proofs.lemmas.Result.{err_from_is_err_and}
use Rattle.zst_script.proofs.RoomBytes.{grown, kept}
use Rattle.zst_script.proofs.line_room.LineRoom.read_from.Goals as goal

pub returns-in_err-count-clause-takes : goal.returns-in_err-count-clause-takes
returns-in_err-count-clause-takes g c =
    let w = c.make_room.new.self in
    let xs = c.deref_mut.result.now in
    let ys = c.read.new.into in
    let e = c.in_err-count.ensures in
    let p = err_from_is_err_and c.from_residual.result c.from_residual.ensures.1 in
    let within : w.end ≤ length xs = search rules in
    let same = ap (λ l. slice_range l w.start w.end) (with_items_is w.bytes _ (search (rules, places)))
    ∙ kept xs ys w.start w.end _ w.ordered within
    ∙ ap (λ l. slice_range l w.start w.end) c.deref_mut.ensures.value
    ∙ c.make_room.ensures.items in
    rw p.1 (record {
      got = [];
      consumed = e.bytes ∙ sym (append-nil _);
      grown = same ∙ sym (append-nil _);
      told = refl;
      stays = tt;
      cause = record { later = e.cause.later; fault = e.cause.fault };
    })

pub returns-clause-takes : goal.returns-clause-takes
returns-clause-takes g c =
    let w = c.make_room.new.self in
    let xs = c.deref_mut.result.now in
    let ys = c.read.new.into in
    let n = c.in_ok-count.count in
    let e = c.in_ok-count.ensures in
    let within : w.end ≤ length xs = search rules in
    let fits : n ≤ length ys = search rules in
    record {
      got = take n ys;
      consumed = e.bytes.0;
      grown = ap (λ l. slice_range l w.start (w.end + n)) (with_items_is w.bytes _ (search (rules, places)))
          ∙ grown xs ys w.start w.end _ n w.ordered within fits
          ∙ ap (λ l. slice_range l w.start w.end ++ take n ys) c.deref_mut.ensures.value
          ∙ ap (λ l. l ++ take n ys) c.make_room.ensures.items;
      told = (sym e.bound.1, λ none. e.bytes.1 none (search rules));
      stays = e.count_stays;
      cause = record { later = e.cause.later; fault = tt };
    }
