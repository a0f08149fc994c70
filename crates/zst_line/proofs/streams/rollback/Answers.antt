use Rattle.std.proofs.Common.{refl}
use Rattle.zst_line.specs.Grammar.{snapshot}
use Rattle.zst_line.specs.declared.kind.Kind.TheVariants as kinds
use Rattle.zst_line.specs.declared.word_slot.WordSlot.TheVariants as slots
use Rattle.zst_line.proofs.LastWords.{last_word}
use Rattle.zst_line.proofs.streams.rollback.Goals as goal

pub snapshot-requires : goal.snapshot-requires
snapshot-requires c = last_word kinds.Rollback slots.Image (slots.Name snapshot) c.args.words.now c.name-item.result c.as_str-2.result.now (λ count. refl) c.requires c.name-item.is c.as_str-2.ensures.value
