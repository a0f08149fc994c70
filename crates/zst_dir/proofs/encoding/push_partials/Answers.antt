use Rattle.zst_dir.specs.Spelling.{partial_bytes}
use Rattle.zst_dir.proofs.SpelledRows.{spelled-none, spelled-more, spelled-all}
use Rattle.zst_dir.proofs.encoding.push_partials.Goals as goal

pub loop-partial-init : goal.loop-partial-init
loop-partial-init c = spelled-none partial_bytes c.args.out.now.items c.args.partials.now c.push_word.new.out.items c.in_ok-push_word.ensures

pub loop-partial-preserved : goal.loop-partial-preserved
loop-partial-preserved c =
    spelled-more partial_bytes c.args.out.now.items c.args.partials.now c.loop-partial.partial-index c.partial-item.result c.loop-partial.out.items c.push_partial.new.out.items
    c.loop-partial-test.true c.partial-item.is c.loop-partial.invariant c.in_ok-push_partial.ensures

pub returns : goal.returns
returns c = spelled-all partial_bytes c.args.out.now.items c.args.partials.now c.loop-partial.partial-index c.loop-partial.out.items c.loop-partial-test.false c.loop-partial.invariant
