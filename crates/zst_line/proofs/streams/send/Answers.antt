use Rattle.std.proofs.Common.{map, string_bytes, codes, refl}
use Rattle.zst_line.specs.Grammar.{snapshot, bookmark, snapshot_or_bookmark}
use Rattle.zst_line.specs.declared.kind.Kind.TheVariants as kinds
use Rattle.zst_line.specs.declared.word_slot.WordSlot.TheVariants as slots
use Rattle.zst_line.proofs.LastWords.{last_word}
use Rattle.zst_line.proofs.OptionPlaces.{value_fits}
use Rattle.zst_line.proofs.streams.send.Goals as goal

pub name_behind-requires : goal.name_behind-requires
name_behind-requires c =
    value_fits kinds.Send (map string_bytes c.args.words.now) (codes "-i") snapshot_or_bookmark (record { is = refl; takes = refl; others = λ count. (λ word t. t.0.1, (λ word t. t.0.0, tt)) }) c.requires.fits

pub bookmark_behind-requires : goal.bookmark_behind-requires
bookmark_behind-requires c =
    value_fits kinds.Send (map string_bytes c.args.words.now) (codes "--redact") bookmark (record { is = refl; takes = refl; others = λ count. (λ word t. t.0.1, (λ word t. t.0.0, tt)) }) c.requires.fits

pub snapshot-requires : goal.snapshot-requires
snapshot-requires c = last_word kinds.Send slots.Image (slots.Name snapshot) c.args.words.now c.last-item.result c.as_str-2.result.now (λ count. refl) c.requires.fits c.last-item.is c.as_str-2.ensures.value
