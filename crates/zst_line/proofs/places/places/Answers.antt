use Rattle.std.proofs.Common.{◌≡◌, [], Some, None, map, length, string_bytes}
use Rattle.zst_line.specs.Grammar.{option_at, places_behind}
use Rattle.zst_line.proofs.OptionWalk.{one_option_more}
use Rattle.zst_line.proofs.places.places.Goals as goal

pub loop-taking-preserved : goal.loop-taking-preserved
loop-taking-preserved c =
    let words = map string_bytes c.args.words.now in
    let count = c.len.ensures in
    let is = c.in-Some.is in
    let asked = c.option_at.ensures in
    let found : option_at c.args.kind words (length c.loop-taking.places.items) ≡ Some c.in-Some.taking = cc in
    one_option_more c.args.kind words (places_behind c.args.kind [] None words) c.loop-taking.places.items c.push_option.new.places.items c.in-Some.taking c.loop-taking.invariant found c.in_ok-push_option.ensures
