-- A word in the place of a name is one, and in that of a dataset's or a snapshot's name one that has objects.
use Rattle.std.proofs.Common.{◌≡◌, ℕ, true, List}
use Rattle.std.proofs.lemmas.Bool.{false≢true}
use Rattle.zst_names.specs.Names.{IsSnapshot}
use Rattle.zst_model.specs.pools.Step.{HasObjects, IsName}
use Rattle.zst_line.specs.declared.name_kinds.NameKind.{NameKind}
use Rattle.zst_line.specs.declared.name_kinds.NameKind.TheVariants as kinds
use Rattle.zst_line.specs.declared.word_slot.WordSlot.TheVariants as slots
use Rattle.zst_line.specs.Grammar.{dataset_or_snapshot, snapshot}
use Rattle.zst_line.specs.WordFaults.{Takes}
use Rattle.zst_line.specs.Line.{as_name, name_of}
use Rattle.zst_line.specs.NameKinds.{IsNamed, IsNameOf, kind_of_name, takes}

of_kind : (kind : NameKind) (word : List ℕ) → takes dataset_or_snapshot kind ≡ true → IsNameOf kind word → HasObjects (as_name kind word)
of_kind kinds.Dataset word taken is = is
of_kind kinds.Snapshot word taken is = is
of_kind kinds.Bookmark word taken is = absurd (false≢true taken)

-- nor is a word in the place of a snapshot's name another name
snapshot_of_kind : (kind : NameKind) (word : List ℕ) → takes snapshot kind ≡ true → IsNameOf kind word → IsSnapshot word
snapshot_of_kind kinds.Dataset word taken is = absurd (false≢true taken)
snapshot_of_kind kinds.Snapshot word taken is = is
snapshot_of_kind kinds.Bookmark word taken is = absurd (false≢true taken)

pub is_snapshot : (word : List ℕ) → Takes (slots.Name snapshot) word → IsSnapshot word
is_snapshot word fits = snapshot_of_kind (kind_of_name word) word fits.0.1 fits.1

pub has_objects : (word : List ℕ) → Takes (slots.Name dataset_or_snapshot) word → HasObjects (name_of word)
has_objects word fits = of_kind (kind_of_name word) word fits.0.1 fits.1

name_of_kind : (kind : NameKind) (word : List ℕ) → IsNameOf kind word → IsName (as_name kind word)
name_of_kind kinds.Dataset word is = is
name_of_kind kinds.Snapshot word is = is
name_of_kind kinds.Bookmark word is = is

pub is_name : (word : List ℕ) → IsNamed word → IsName (name_of word)
is_name word is = name_of_kind (kind_of_name word) word is
