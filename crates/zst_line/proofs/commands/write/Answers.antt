use Rattle.std.proofs.Common.{◌^◌, ◌-◌, arith, lit<, refl}
use Rattle.std.proofs.lemmas.Grind.{common_steps}
use Rattle.zst_line.specs.declared.kind.Kind.TheVariants as kinds
use Rattle.zst_line.specs.Grammar.{front}
use Rattle.zst_line.proofs.Numbers.{number_at, takes_at, number_taken}
use Rattle.zst_line.proofs.Spills.{decoded_bytes}
use Rattle.hex.proofs.HexLemmas.{decode_of-ok}
use Rattle.zst_line.proofs.commands.write.Goals as goal

pub dataset-requires : goal.dataset-requires
dataset-requires c =
    takes_at (front kinds.Write 0) c.args.words.now 1 c.name-item.result c.as_str-2.result.now c.requires (lit< tt) c.name-item.is c.as_str-2.ensures.value

pub number-requires : goal.number-requires
number-requires c =
    number_taken (front kinds.Write 0) c.args.words.now 2 1 (2 ^ 64 - 1) c.object-item.result c.as_str-3.result.now c.requires (lit< tt) refl (lit< tt) c.object-item.is c.as_str-3.ensures.value

pub number-requires-2 : goal.number-requires-2
number-requires-2 c =
    number_taken (front kinds.Write 0) c.args.words.now 3 0 (2 ^ 64 - 1) c.index-item.result c.as_str-4.result.now c.requires (lit< tt) refl (lit< tt) c.index-item.is c.as_str-4.ensures.value

pub returns : goal.returns
returns c =
    let object = number_at (front kinds.Write 0) c.args.words.now 2 1 (2 ^ 64 - 1) c.number.result c.object-item.result c.as_str-3.result.now c.requires (lit< tt) refl (lit< tt) c.object-item.is c.as_str-3.ensures.value c.number.ensures c.number.type_inv in
    let digits = takes_at (front kinds.Write 0) c.args.words.now 4 c.digits-item.result c.as_str-5.result.now c.requires (lit< tt) c.digits-item.is c.as_str-5.ensures.value in
    let twice = (decode_of-ok c.as_str-5.result.now c.in_ok-bytes.field-0 c.in_ok-bytes.ensures).2 in
    let enough = digits.0.enough in
    let room = digits.0.room in (
      (c.as_str-5.result.now, (c.in_ok-bytes.ensures, grind (arith, common_steps))),
      (c.dataset.ensures.name, omega (arith, object.0), omega (arith, enough, twice), omega (arith, room, twice), decoded_bytes c.as_str-5.result.now c.in_ok-bytes.field-0 c.in_ok-bytes.ensures),
      (c.number.type_inv, c.number-2.type_inv),
    )
