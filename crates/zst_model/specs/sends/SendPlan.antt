-- What a send is to give, or why it can't (zfs-send(8)): its checks in their order.
use Rattle.std.specs.Prelude.{ℕ, zero, suc, Bool, false, ◌&&◌, ◌||◌, ◌==◌, not, nat_lt, List, length, Option, Some, None, is_some, Result, Ok, if◌then◌else◌, bytes_eq}
use Rattle.std.specs.Option.{ok_or, option_and_then, option_map_or}
use Rattle.zst_model.specs.declared.refusals.faults.Lack.TheVariants as lacks
use Rattle.zst_model.specs.declared.refusals.faults.Quantity.TheVariants as quantities
use Rattle.zst_model.specs.declared.refusals.subjects.AbsentSubject.TheVariants as missing
use Rattle.zst_model.specs.declared.refusals.subjects.Name.{Name}
use Rattle.zst_model.specs.declared.refusals.subjects.Name.TheVariants as names
use Rattle.zst_model.specs.declared.refusals.plan_fault.PlanFault.{PlanFault}
use Rattle.zst_model.specs.declared.refusals.plan_fault.PlanFault.TheVariants as plans
use Rattle.zst_model.specs.declared.sends.ask.FromName.{FromName}
use Rattle.zst_model.specs.declared.sends.ask.FromName.TheVariants.{Snap, Book}
use Rattle.zst_model.specs.declared.sends.ask.SendAsk.{SendAsk}
use Rattle.zst_model.specs.pools.Ancestry.{Source, OfSnapshot, OfBookmark, dataset_of_source, number_of_source}
use Rattle.zst_model.specs.pools.Limits.{most_runs}
use Rattle.zst_model.specs.pools.Pool.{Pool, Snapshot, Bookmark, dataset_named, snapshot_named, bookmark_named, dataset_of_snapshot, dataset_of_bookmark}
use Rattle.zst_model.specs.sends.Headers.{Sent, source_runs}
use Rattle.zst_model.specs.states.AppliedItems.{unless, ◌>>=◌}

-- ---- what stands before a snapshot, as a test

-- whether a source is of the snapshot's dataset, with a lesser number
abbrev pub is_earlier : Source → Snapshot → Bool
is_earlier source later = bytes_eq (dataset_of_source source) (dataset_of_snapshot later) && nat_lt (number_of_source source) later.number

-- whether a source is this snapshot, or was made of it
abbrev pub marks : Source → Snapshot → Bool
marks (OfSnapshot snapshot) marked = bytes_eq snapshot.name marked.name
marks (OfBookmark bookmark) marked =
    bytes_eq (dataset_of_bookmark bookmark) (dataset_of_snapshot marked)
    && (bookmark.guid == marked.guid && bookmark.number == marked.number)

-- the origin of a snapshot's dataset
abbrev pub origin_of : Pool → Snapshot → Option Snapshot
origin_of pool snapshot =
    option_and_then (λ dataset. option_and_then (λ name. snapshot_named name pool) dataset.origin) (dataset_named (dataset_of_snapshot snapshot) pool)

-- it, where its number is below the snapshot's, as it is in each sound pool
abbrev pub earlier_origin : Pool → Snapshot → Option Snapshot
earlier_origin pool snapshot = option_and_then (λ origin. if nat_lt origin.number snapshot.number then Some origin else None) (origin_of pool snapshot)

-- whether a source stands before a snapshot: it is earlier in its dataset, marks the dataset's origin, or stands before that origin; so many origins are looked through
unfoldable pub is_before_in : ℕ → Pool → Source → Snapshot → Bool
is_before_in zero pool source later = is_earlier source later
is_before_in (suc most) pool source later =
    is_earlier source later
    || option_map_or (λ origin. marks source origin || is_before_in most pool source origin) (earlier_origin pool later) false

-- there are no more of them than the snapshot's number, since their numbers fall
abbrev pub comes_before : Pool → Source → Snapshot → Bool
comes_before pool source later = is_before_in later.number pool source later

-- ---- what is looked up

-- E3: there is none of this name
abbrev pub absent : Name → PlanFault
absent name = plans.NoSuch (missing.Named name)

-- the snapshot, and the bookmark, of this name
abbrev pub find_snapshot : List ℕ → Pool → Result Snapshot PlanFault
find_snapshot name pool = ok_or (snapshot_named name pool) (absent (names.Snapshot name))

abbrev pub find_bookmark : List ℕ → Pool → Result Bookmark PlanFault
find_bookmark name pool = ok_or (bookmark_named name pool) (absent (names.Bookmark name))

-- what the send is from; a full send is from nothing
abbrev pub find_source : Option FromName → Pool → Result (Option Source) PlanFault
find_source None pool = Ok None
find_source (Some (Snap name)) pool = find_snapshot name pool >>= (λ snapshot. Ok (Some (OfSnapshot snapshot)))
find_source (Some (Book name)) pool = find_bookmark name pool >>= (λ bookmark. Ok (Some (OfBookmark bookmark)))

-- the bookmark of `--redact`
abbrev pub find_redaction : Option (List ℕ) → Pool → Result (Option Bookmark) PlanFault
find_redaction None pool = Ok None
find_redaction (Some name) pool = find_bookmark name pool >>= (λ bookmark. Ok (Some bookmark))

-- the kind of a snapshot's dataset, which is there in each lawful pool
abbrev pub kind_of : Pool → Snapshot → ℕ
kind_of pool snapshot = option_map_or (λ dataset. dataset.kind) (dataset_named (dataset_of_snapshot snapshot) pool) 0

-- ---- what is checked

-- the name of a source
abbrev pub name_of_source : Source → Name
name_of_source (OfSnapshot snapshot) = names.Snapshot snapshot.name
name_of_source (OfBookmark bookmark) = names.Bookmark bookmark.name

-- E6: the source doesn't stand before the snapshot
abbrev pub if_before : {A : Type 0} → Pool → Snapshot → Option Source → Result A PlanFault → Result A PlanFault
if_before pool snapshot None rest = rest
if_before pool snapshot (Some source) rest =
    unless (not (comes_before pool source snapshot)) (plans.NotAncestor (names.Snapshot snapshot.name) (name_of_source source)) rest

-- whether there are redaction guids
abbrev pub has_guids : List ℕ → Bool
has_guids guids = nat_lt 0 (length guids)

-- whether a bookmark is a redaction bookmark of this snapshot
abbrev pub redacts_snapshot : Bookmark → Snapshot → Bool
redacts_snapshot bookmark snapshot = has_guids bookmark.redact && bookmark.guid == snapshot.guid

-- E7: the bookmark has no redaction guids, or another guid than the snapshot
abbrev pub if_redaction : {A : Type 0} → Snapshot → Option Bookmark → Result A PlanFault → Result A PlanFault
if_redaction snapshot None rest = rest
if_redaction snapshot (Some bookmark) rest =
    unless (not (redacts_snapshot bookmark snapshot)) (plans.NotRedactionOf bookmark.name snapshot.name) rest

-- E19: a redacted snapshot is sent on as it is, and not redacted once more
abbrev pub if_no_relay : {A : Type 0} → Snapshot → Option Bookmark → Result A PlanFault → Result A PlanFault
if_no_relay snapshot redaction rest = unless (has_guids snapshot.redact && is_some redaction) (plans.Unsupported lacks.Relay) rest

-- what was found, where it can be sent: E6, E7, E19
abbrev pub sent_of : Pool → Snapshot → Option Source → Option Bookmark → Result Sent PlanFault
sent_of pool snapshot source redaction =
    if_before pool snapshot source
    (if_redaction snapshot redaction
    (if_no_relay snapshot redaction
    (Ok (record { snapshot = snapshot; kind = kind_of pool snapshot; source = source; redaction = redaction }))))

-- what a send is to give: E3 of the snapshot, of the source and of the bookmark come first
unfoldable pub send_plan : SendAsk → Pool → Result Sent PlanFault
send_plan ask pool =
    find_snapshot ask.snap pool
    >>= (λ snapshot. find_source ask.from pool
    >>= (λ source. find_redaction ask.redact pool
    >>= (λ redaction. sent_of pool snapshot source redaction)))

-- ---- what the source's blocks tell besides

-- whether a source is a redacted snapshot
abbrev pub is_redacted : Option Source → Bool
is_redacted None = false
is_redacted (Some (OfSnapshot snapshot)) = has_guids snapshot.redact
is_redacted (Some (OfBookmark bookmark)) = false

-- E23: more runs are redacted of the source snapshot than a list may have
abbrev pub if_listed : Sent → Result Sent PlanFault
if_listed sent = unless (is_redacted sent.source && nat_lt most_runs (length (source_runs sent.source))) (plans.Limit quantities.Runs most_runs) (Ok sent)

-- a plan, with that behind all its other checks: the directory doesn't tell it, but the blocks of the source do
abbrev pub with_list : Result Sent PlanFault → Result Sent PlanFault
with_list plan = plan >>= if_listed
