use Rattle.std.proofs.Common.{◌^◌, ◌-◌, arith, lit<, refl}
use Rattle.std.proofs.lemmas.Bool.Decides.{nat_tests}
use Rattle.std.proofs.lemmas.Grind.{common_steps}
use Rattle.zst_line.specs.declared.kind.Kind.TheVariants as kinds
use Rattle.zst_line.specs.Grammar.{front}
use Rattle.zst_line.proofs.NamesAtPlaces.{has_objects}
use Rattle.zst_line.proofs.Numbers.{as_many, number_at, takes_at, number_taken}
use Rattle.zst_line.proofs.commands.read.Goals as goal

pub unreachable-requires : goal.unreachable-requires
unreachable-requires c = let many = as_many (front kinds.Read 0) c.args.words.now c.requires in grind (arith, nat_tests)

pub name-requires : goal.name-requires
name-requires c =
    (takes_at (front kinds.Read 0) c.args.words.now 1 c.named-item.result c.as_str-2.result.now c.requires (lit< tt) c.named-item.is c.as_str-2.ensures.value).1

pub number-requires : goal.number-requires
number-requires c =
    number_taken (front kinds.Read 0) c.args.words.now 2 1 (2 ^ 64 - 1) c.object-item.result c.as_str-3.result.now c.requires (lit< tt) refl (lit< tt) c.object-item.is c.as_str-3.ensures.value

pub number-requires-2 : goal.number-requires-2
number-requires-2 c =
    number_taken (front kinds.Read 0) c.args.words.now 3 0 (2 ^ 64 - 1) c.index-item.result c.as_str-4.result.now c.requires (lit< tt) refl (lit< tt) c.index-item.is c.as_str-4.ensures.value

pub returns : goal.returns
returns c =
    let named = takes_at (front kinds.Read 0) c.args.words.now 1 c.named-item.result c.as_str-2.result.now c.requires (lit< tt) c.named-item.is c.as_str-2.ensures.value in
    let object = number_at (front kinds.Read 0) c.args.words.now 2 1 (2 ^ 64 - 1) c.number.result c.object-item.result c.as_str-3.result.now c.requires (lit< tt) refl (lit< tt) c.object-item.is c.as_str-3.ensures.value c.number.ensures c.number.type_inv in
    ((c.as_str-2.result.now, (c.name.ensures, grind (arith, common_steps))), (rw c.name.ensures (has_objects c.as_str-2.result.now named), omega (arith, object.0)), (c.number.type_inv, c.number-2.type_inv))
