use Rattle.std.proofs.Common.{◌^◌, ◌-◌, arith, lit<, refl}
use Rattle.std.proofs.lemmas.Bool.Decides.{nat_tests}
use Rattle.std.proofs.lemmas.Grind.{common_steps}
use Rattle.zst_line.specs.declared.kind.Kind.TheVariants as kinds
use Rattle.zst_line.specs.Grammar.{front}
use Rattle.zst_line.proofs.Numbers.{as_many, number_at, number_taken}
use Rattle.zst_line.proofs.commands.create.Goals as goal

pub unreachable-requires : goal.unreachable-requires
unreachable-requires c = let many = as_many (front kinds.Create 0) c.args.words.now c.requires in grind (arith, nat_tests)

pub number-requires : goal.number-requires
number-requires c =
    number_taken (front kinds.Create 0) c.args.words.now 1 128 (2 ^ 31) c.sectors-item.result c.as_str-2.result.now c.requires (lit< tt) refl (lit< tt) c.sectors-item.is c.as_str-2.ensures.value

pub number-requires-2 : goal.number-requires-2
number-requires-2 c =
    number_taken (front kinds.Create 0) c.args.words.now 2 1 (2 ^ 31 - 1) c.id-item.result c.as_str-3.result.now c.requires (lit< tt) refl (lit< tt) c.id-item.is c.as_str-3.ensures.value

pub overflow_cast-result : goal.overflow_cast-result
overflow_cast-result c =
    let id = number_at (front kinds.Create 0) c.args.words.now 2 1 (2 ^ 31 - 1) c.number-2.result c.id-item.result c.as_str-3.result.now c.requires (lit< tt) refl (lit< tt) c.id-item.is c.as_str-3.ensures.value c.number-2.ensures c.number-2.type_inv in
    omega (arith, id.1)

pub returns : goal.returns
returns c =
    let sectors = number_at (front kinds.Create 0) c.args.words.now 1 128 (2 ^ 31) c.number.result c.sectors-item.result c.as_str-2.result.now c.requires (lit< tt) refl (lit< tt) c.sectors-item.is c.as_str-2.ensures.value c.number.ensures c.number.type_inv in
    let id = number_at (front kinds.Create 0) c.args.words.now 2 1 (2 ^ 31 - 1) c.number-2.result c.id-item.result c.as_str-3.result.now c.requires (lit< tt) refl (lit< tt) c.id-item.is c.as_str-3.ensures.value c.number-2.ensures c.number-2.type_inv in
    (grind (arith, common_steps), record { enough = sectors.0; room = sectors.1; positive = omega (arith, id.0); small = omega (arith, id.1) })
