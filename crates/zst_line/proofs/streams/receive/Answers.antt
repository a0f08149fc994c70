use Rattle.std.proofs.Common.{map, string_bytes, codes, refl}
use Rattle.zst_line.specs.Grammar.{snapshot, dataset_or_snapshot}
use Rattle.zst_line.specs.declared.kind.Kind.TheVariants as kinds
use Rattle.zst_line.specs.declared.word_slot.WordSlot.TheVariants as slots
use Rattle.zst_line.proofs.LastWords.{last_word}
use Rattle.zst_line.proofs.OptionPlaces.{value_fits}
use Rattle.zst_line.proofs.streams.receive.Goals as goal

pub snapshot_behind-requires : goal.snapshot_behind-requires
snapshot_behind-requires c =
    value_fits kinds.Receive (map string_bytes c.args.words.now) (codes "--origin") snapshot (record { is = refl; takes = refl; others = λ count. (λ word t. t.0.1, (λ word t. t.0.0, tt)) }) c.requires

pub name-requires : goal.name-requires
name-requires c = (last_word kinds.Receive slots.Image (slots.Name dataset_or_snapshot) c.args.words.now c.target-item.result c.as_str-2.result.now (λ count. refl) c.requires c.target-item.is c.as_str-2.ensures.value).1
