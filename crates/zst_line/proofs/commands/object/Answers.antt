use Rattle.std.proofs.Common.{◌^◌, ◌-◌, arith, lit<, refl}
use Rattle.std.proofs.lemmas.Grind.{common_steps}
use Rattle.zst_line.specs.declared.kind.Kind.TheVariants as kinds
use Rattle.zst_line.specs.Grammar.{front}
use Rattle.zst_line.proofs.Numbers.{number_at, takes_at, size_in_range, size_below, size_is_block, number_taken}
use Rattle.zst_line.proofs.commands.object.Goals as goal

pub dataset-requires : goal.dataset-requires
dataset-requires c =
    takes_at (front kinds.Object 0) c.args.words.now 1 c.name-item.result c.as_str-2.result.now c.requires (lit< tt) c.name-item.is c.as_str-2.ensures.value

pub number-requires : goal.number-requires
number-requires c =
    number_taken (front kinds.Object 0) c.args.words.now 2 1 (2 ^ 64 - 1) c.object-item.result c.as_str-3.result.now c.requires (lit< tt) refl (lit< tt) c.object-item.is c.as_str-3.ensures.value

pub number-requires-2 : goal.number-requires-2
number-requires-2 c =
    number_taken (front kinds.Object 0) c.args.words.now 3 1 (2 ^ 32 - 1) c.type_-item.result c.as_str-4.result.now c.requires (lit< tt) refl (lit< tt) c.type_-item.is c.as_str-4.ensures.value

pub number-requires-3 : goal.number-requires-3
number-requires-3 c =
    number_taken (front kinds.Object 0) c.args.words.now 5 0 (2 ^ 32 - 1) c.bonus_type-item.result c.as_str-5.result.now c.requires (lit< tt) refl (lit< tt) c.bonus_type-item.is c.as_str-5.ensures.value

pub bonus-requires : goal.bonus-requires
bonus-requires c =
    (takes_at (front kinds.Object 0) c.args.words.now 6 c.bonus_word-item.result c.as_str-7.result.now c.requires (lit< tt) c.bonus_word-item.is c.as_str-7.ensures.value).0

pub spill-requires : goal.spill-requires
spill-requires c =
    (takes_at (front kinds.Object 0) c.args.words.now 7 c.spill_word-item.result c.as_str-8.result.now c.requires (lit< tt) c.spill_word-item.is c.as_str-8.ensures.value).0

pub overflow_cast-result : goal.overflow_cast-result
overflow_cast-result c =
    let type = number_at (front kinds.Object 0) c.args.words.now 3 1 (2 ^ 32 - 1) c.number-2.result c.type_-item.result c.as_str-4.result.now c.requires (lit< tt) refl (lit< tt) c.type_-item.is c.as_str-4.ensures.value c.number-2.ensures c.number-2.type_inv in
    omega (arith, type.1)

pub overflow_cast-result-2 : goal.overflow_cast-result-2
overflow_cast-result-2 c =
    let type = number_at (front kinds.Object 0) c.args.words.now 5 0 (2 ^ 32 - 1) c.number-3.result c.bonus_type-item.result c.as_str-5.result.now c.requires (lit< tt) refl (lit< tt) c.bonus_type-item.is c.as_str-5.ensures.value c.number-3.ensures c.number-3.type_inv in
    omega (arith, type.1)

pub number-requires-4 : goal.number-requires-4
number-requires-4 c = size_in_range c.as_str-6.result.now (takes_at (front kinds.Object 0) c.args.words.now 4 c.size-item.result c.as_str-6.result.now c.requires (lit< tt) c.size-item.is c.as_str-6.ensures.value).0

pub overflow_cast-result-3 : goal.overflow_cast-result-3
overflow_cast-result-3 c =
    let size = takes_at (front kinds.Object 0) c.args.words.now 4 c.size-item.result c.as_str-6.result.now c.requires (lit< tt) c.size-item.is c.as_str-6.ensures.value in
    omega (arith, size_below c.as_str-6.result.now c.number-4.result size.0 c.number-4.type_inv c.number-4.ensures)

pub returns : goal.returns
returns c =
    let object = number_at (front kinds.Object 0) c.args.words.now 2 1 (2 ^ 64 - 1) c.number.result c.object-item.result c.as_str-3.result.now c.requires (lit< tt) refl (lit< tt) c.object-item.is c.as_str-3.ensures.value c.number.ensures c.number.type_inv in
    let type = number_at (front kinds.Object 0) c.args.words.now 3 1 (2 ^ 32 - 1) c.number-2.result c.type_-item.result c.as_str-4.result.now c.requires (lit< tt) refl (lit< tt) c.type_-item.is c.as_str-4.ensures.value c.number-2.ensures c.number-2.type_inv in
    let bonus_type = number_at (front kinds.Object 0) c.args.words.now 5 0 (2 ^ 32 - 1) c.number-3.result c.bonus_type-item.result c.as_str-5.result.now c.requires (lit< tt) refl (lit< tt) c.bonus_type-item.is c.as_str-5.ensures.value c.number-3.ensures c.number-3.type_inv in
    let size = takes_at (front kinds.Object 0) c.args.words.now 4 c.size-item.result c.as_str-6.result.now c.requires (lit< tt) c.size-item.is c.as_str-6.ensures.value in (
      (c.as_str-7.result.now, c.as_str-8.result.now, c.in_ok-bonus.ensures.same, c.in_ok-spill.ensures.same, grind (arith, common_steps)),
      (
        c.dataset.ensures.name,
        omega (arith, object.0),
        record {
          some_type = omega (arith, type.0);
          type_fits = omega (arith, type.1);
          bonus_type_fits = omega (arith, bonus_type.1);
          size = size_is_block c.as_str-6.result.now c.number-4.result size.0 c.number-4.type_inv c.number-4.ensures;
        },
        c.in_ok-bonus.ensures.most,
        c.in_ok-spill.ensures.size,
      ),
      c.number.type_inv,
    )
