-- What BEGIN says of a send, and what the send is asked beside its snapshot (zfs-send(8), and `drr_begin` of zfs_ioctl.h).
use Rattle.std.specs.Prelude.{◌≡◌, ℕ, ◌+◌, ◌^◌, ◌<◌, Bool, not, List, [], ◌∷◌, length, Option, Some, None, IfSome, Contains, option_map, bytes_eq, if◌then◌else◌}
use Rattle.zst_model.specs.declared.sends.header.Header.{Header}
use Rattle.zst_model.specs.fields.Lists.{Runs, has_pair}
use Rattle.zst_model.specs.fields.RunsOf.{runs_of}
use Rattle.zst_model.specs.pools.Ancestry.{Source, OfSnapshot, OfBookmark, dataset_of_source, number_of_source, IsIn}
use Rattle.zst_model.specs.pools.Pool.{Pool, Dataset, Snapshot, Bookmark, dataset_of_snapshot}
use Rattle.zst_model.specs.pools.RedSet.{redacted_pairs}
use Rattle.zst_model.specs.sends.Features.{redacts, sa_spill}
use Rattle.zst_model.specs.sends.Inclusion.{Pairs, Choice, no_pairs}
use Rattle.zst_model.specs.sends.View.{View, view_of}
use Rattle.zst_model.specs.states.State.{State}

-- what is sent: a snapshot, the kind of its dataset, the source that it is sent from or none, and the redaction bookmark of `--redact` or none
pub record Sent : Type 0 where
  pub snapshot : Snapshot
  pub kind : ℕ
  pub source : Option Source
  pub redaction : Option Bookmark

-- a redaction bookmark of a snapshot of this pool: it was made of that snapshot, for some redaction snapshots
pub record IsRedactionOf (pool : Pool) (snapshot : Snapshot) (bookmark : Bookmark) : Type 0 where
  pub there : Contains pool.bookmarks bookmark
  pub guid : bookmark.guid ≡ snapshot.guid
  pub guids : 0 < length bookmark.redact

-- what is sent is of this pool: the snapshot with its dataset's kind, the source and the redaction bookmark
pub record IsOf (pool : Pool) (sent : Sent) : Type 0 where
  pub snapshot : Contains pool.snapshots sent.snapshot
  pub dataset : Dataset
  pub there : Contains pool.datasets dataset
  pub named : dataset.name ≡ dataset_of_snapshot sent.snapshot
  pub kind : sent.kind ≡ dataset.kind
  pub source : IfSome sent.source (IsIn pool)
  pub redaction : IfSome sent.redaction (IsRedactionOf pool sent.snapshot)

-- the flag of a stream whose source is of another dataset (DRR_FLAG_CLONE of zfs_ioctl.h)
unfoldable pub clone_flag : ℕ
clone_flag = 2 ^ 0

-- the flag of a stream that frees every number that its snapshot lacks (DRR_FLAG_FREERECORDS)
unfoldable pub free_records : ℕ
free_records = 2 ^ 2

-- the flag of a stream that has a SPILL behind the OBJECT of each object with a spill block (DRR_FLAG_SPILL_BLOCK)
unfoldable pub spill_block : ℕ
spill_block = 2 ^ 3

-- whether the source is of another dataset than the snapshot
abbrev pub is_elsewhere : Snapshot → Source → Bool
is_elsewhere snapshot source = not (bytes_eq (dataset_of_source source) (dataset_of_snapshot snapshot))

-- CLONE exactly where the source is of another dataset
abbrev pub clone_part : Snapshot → Option Source → ℕ
clone_part snapshot None = 0
clone_part snapshot (Some source) = if is_elsewhere snapshot source then clone_flag else 0

-- the flags: FREERECORDS and SPILL_BLOCK always
unfoldable pub flags_of : Sent → ℕ
flags_of sent = clone_part sent.snapshot sent.source + (free_records + spill_block)

-- the redaction guids that BEGIN states: those of the redaction bookmark, or else the snapshot's own
abbrev pub redaction_guids : Snapshot → Option Bookmark → List ℕ
redaction_guids snapshot None = snapshot.redact
redaction_guids snapshot (Some bookmark) = bookmark.redact

-- REDACTED exactly where there are some
abbrev pub redacted_part : List ℕ → ℕ
redacted_part [] = 0
redacted_part (guid ∷ guids) = redacts

-- the features: SA_SPILL always
unfoldable pub features_of : Sent → ℕ
features_of sent = redacted_part (redaction_guids sent.snapshot sent.redaction) + sa_spill

-- the guid of a source
abbrev pub guid_of_source : Source → ℕ
guid_of_source (OfSnapshot snapshot) = snapshot.guid
guid_of_source (OfBookmark bookmark) = bookmark.guid

-- the guid of the source; a full stream has none, and states 0
abbrev pub from_guid : Option Source → ℕ
from_guid None = 0
from_guid (Some source) = guid_of_source source

-- the redaction guids of a source that is a redacted snapshot or a redaction bookmark; any other has none
abbrev pub source_guids : Option Source → List ℕ
source_guids None = []
source_guids (Some (OfSnapshot snapshot)) = snapshot.redact
source_guids (Some (OfBookmark bookmark)) = bookmark.redact

-- what BEGIN says of a send that isn't resumed
abbrev pub header_of : Sent → Header
header_of sent = record {
  kind = sent.kind;
  flags = flags_of sent;
  features = features_of sent;
  time = sent.snapshot.time;
  to = sent.snapshot.guid;
  from = from_guid sent.source;
  name = sent.snapshot.name;
  resume = None;
  redact = redaction_guids sent.snapshot sent.redaction;
  from_redact = source_guids sent.source;
}

-- what is redacted of a snapshot with these redaction guids, as runs; of one that has none that is nothing
abbrev pub redacted_runs : List ℕ → State → Runs
redacted_runs [] state = []
redacted_runs (guid ∷ guids) state = runs_of (redacted_pairs state)

-- the runs of a source's list: of a redacted snapshot what is redacted in it, of a redaction bookmark what it lists; any other has an empty one
abbrev pub source_runs : Option Source → Runs
source_runs None = []
source_runs (Some (OfSnapshot snapshot)) = redacted_runs snapshot.redact snapshot.objects.state
source_runs (Some (OfBookmark bookmark)) = bookmark.runs

-- the pairs of that list
abbrev pub source_list : Option Source → Pairs
source_list source = has_pair (source_runs source)

-- the list of the redaction bookmark
abbrev pub redaction_list : Option Bookmark → Pairs
redaction_list None = no_pairs
redaction_list (Some bookmark) = has_pair bookmark.runs

-- what the send is asked beside its snapshot
abbrev pub choice_of : Sent → Choice
choice_of sent = record {
  from = option_map number_of_source sent.source;
  source = source_list sent.source;
  redact = redaction_list sent.redaction;
}

-- the view of the send
abbrev pub sent_view : Sent → View
sent_view sent = view_of (header_of sent) sent.snapshot.objects (choice_of sent)
