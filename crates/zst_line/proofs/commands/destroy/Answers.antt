use Rattle.std.proofs.Common.{arith, lit<}
use Rattle.std.proofs.lemmas.Bool.Decides.{nat_tests}
use Rattle.std.proofs.lemmas.Grind.{common_steps}
use Rattle.zst_line.specs.declared.kind.Kind.TheVariants as kinds
use Rattle.zst_line.specs.Grammar.{front}
use Rattle.zst_line.proofs.NamesAtPlaces.{is_name}
use Rattle.zst_line.proofs.Numbers.{as_many, takes_at}
use Rattle.zst_line.proofs.commands.destroy.Goals as goal

pub unreachable-requires : goal.unreachable-requires
unreachable-requires c = let many = as_many (front kinds.Destroy 0) c.args.words.now c.requires in grind (arith, nat_tests)

pub name-requires : goal.name-requires
name-requires c =
    (takes_at (front kinds.Destroy 0) c.args.words.now 1 c.named-item.result c.as_str-2.result.now c.requires (lit< tt) c.named-item.is c.as_str-2.ensures.value).1

pub returns : goal.returns
returns c =
    let named = takes_at (front kinds.Destroy 0) c.args.words.now 1 c.named-item.result c.as_str-2.result.now c.requires (lit< tt) c.named-item.is c.as_str-2.ensures.value in
    ((c.as_str-2.result.now, (c.name.ensures, grind (arith, common_steps))), rw c.name.ensures (is_name c.as_str-2.result.now named.1), tt)
