use Rattle.std.proofs.Common.{arith, lit<}
use Rattle.std.proofs.lemmas.Bool.Decides.{nat_tests}
use Rattle.std.proofs.lemmas.Grind.{common_steps}
use Rattle.zst_line.specs.declared.kind.Kind.TheVariants as kinds
use Rattle.zst_line.specs.Grammar.{front}
use Rattle.zst_line.proofs.Numbers.{as_many, takes_at}
use Rattle.zst_line.proofs.commands.bookmark_of.Goals as goal

pub unreachable-requires : goal.unreachable-requires
unreachable-requires c = let many = as_many (front kinds.Bookmark 0) c.args.words.now c.requires in grind (arith, nat_tests)

pub snapshot-requires : goal.snapshot-requires
snapshot-requires c =
    takes_at (front kinds.Bookmark 0) c.args.words.now 1 c.of-item.result c.as_str-2.result.now c.requires (lit< tt) c.of-item.is c.as_str-2.ensures.value

pub bookmark-requires : goal.bookmark-requires
bookmark-requires c =
    takes_at (front kinds.Bookmark 0) c.args.words.now 2 c.name-item.result c.as_str-3.result.now c.requires (lit< tt) c.name-item.is c.as_str-3.ensures.value

pub returns : goal.returns
returns c = (grind (arith, common_steps), (c.snapshot.ensures.name, c.bookmark.ensures.name), tt)
