use Rattle.std.proofs.Common.{◌^◌, ◌-◌, arith, lit<, refl}
use Rattle.std.proofs.lemmas.Grind.{common_steps}
use Rattle.zst_line.specs.declared.kind.Kind.TheVariants as kinds
use Rattle.zst_line.specs.Grammar.{front}
use Rattle.zst_line.proofs.Numbers.{number_at, takes_at, number_taken}
use Rattle.zst_line.proofs.commands.free.Goals as goal

pub dataset-requires : goal.dataset-requires
dataset-requires c =
    takes_at (front kinds.Free 0) c.args.words.now 1 c.name-item.result c.as_str-2.result.now c.requires (lit< tt) c.name-item.is c.as_str-2.ensures.value

pub number-requires : goal.number-requires
number-requires c =
    number_taken (front kinds.Free 0) c.args.words.now 2 1 (2 ^ 64 - 1) c.first-item.result c.as_str-3.result.now c.requires (lit< tt) refl (lit< tt) c.first-item.is c.as_str-3.ensures.value

pub number-requires-2 : goal.number-requires-2
number-requires-2 c =
    number_taken (front kinds.Free 0) c.args.words.now 3 1 (2 ^ 64 - 1) c.count-item.result c.as_str-4.result.now c.requires (lit< tt) refl (lit< tt) c.count-item.is c.as_str-4.ensures.value

pub returns : goal.returns
returns c =
    let first = number_at (front kinds.Free 0) c.args.words.now 2 1 (2 ^ 64 - 1) c.number.result c.first-item.result c.as_str-3.result.now c.requires (lit< tt) refl (lit< tt) c.first-item.is c.as_str-3.ensures.value c.number.ensures c.number.type_inv in
    let count = number_at (front kinds.Free 0) c.args.words.now 3 1 (2 ^ 64 - 1) c.number-2.result c.count-item.result c.as_str-4.result.now c.requires (lit< tt) refl (lit< tt) c.count-item.is c.as_str-4.ensures.value c.number-2.ensures c.number-2.type_inv in
    (grind (arith, common_steps), (c.dataset.ensures.name, omega (arith, first.0), omega (arith, count.0)), (c.number.type_inv, c.number-2.type_inv))
