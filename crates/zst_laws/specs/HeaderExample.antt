-- What BEGIN says of sends of one small snapshot, and what they are asked.
use Rattle.std.specs.Prelude.{◌≡◌, ℕ, ◌<◌, true, false, List, [], ◌∷◌, length, Option, Some, None, codes}
use Rattle.zst_model.specs.declared.sends.header.Header.{Header}
use Rattle.zst_model.specs.declared.sends.header.Point.{Point}
use Rattle.zst_model.specs.declared.states.item.Change.TheVariants.{FreeFrom, Write}
use Rattle.zst_model.specs.declared.states.item.Item.TheVariants.{At}
use Rattle.zst_model.specs.pools.Ancestry.{Source, OfSnapshot, OfBookmark}
use Rattle.zst_model.specs.pools.Pool.{Pool, Snapshot, Bookmark, IsPool, IsStated}
use Rattle.zst_model.specs.sends.Headers.{Sent, IsOf, header_of, choice_of, sent_view}
use Rattle.zst_model.specs.sends.Inclusion.{no_pairs}
use Rattle.zst_model.specs.sends.Items.{items, origin}
use Rattle.zst_model.specs.sends.Target.{CanRedact}
use Rattle.zst_model.specs.sends.View.{IsUnresumed, IsView, header_from}
use Rattle.zst_laws.specs.FileExample.{file_put, padded, rest_gone, rewritten, since}
use Rattle.zst_laws.specs.ExactSends.{full}
use Rattle.zst_laws.specs.StepExample.{small_snapshot}

-- a snapshot of `tank/a` that commit 7 made after equal bytes were written, and one of `tank/b`
abbrev pub second_snapshot : ℕ → Snapshot
second_snapshot now = record { name = codes "tank/a@t"; guid = 4294967298; time = now; number = 7; objects = rewritten; redact = [] }

abbrev pub clone_snapshot : ℕ → Snapshot
clone_snapshot now = record { name = codes "tank/b@u"; guid = 4294967299; time = now; number = 8; objects = rewritten; redact = [] }

-- bookmarks of the first snapshot: a plain one, and a redaction bookmark for two clones, which lists block 0 of the file
abbrev pub plain_bookmark : Bookmark
plain_bookmark = record { name = codes "tank/a#p"; guid = 4294967297; time = 3; number = 5; redact = []; runs = [] }

abbrev pub redaction_bookmark : Bookmark
redaction_bookmark = record {
  name = codes "tank/a#r";
  guid = 4294967297;
  time = 3;
  number = 5;
  redact = 7 ∷ 9 ∷ [];
  runs = record { object = 1; first = 0; count = 1 } ∷ [];
}

-- a send of this snapshot of a file system
abbrev pub of_files : Snapshot → Option Source → Option Bookmark → Sent
of_files snapshot source redaction = record { snapshot = snapshot; kind = 2; source = source; redaction = redaction }

-- its full stream: FREERECORDS and SPILL_BLOCK are 4 and 8, SA_SPILL is 4
abbrev pub FullHeader : Type 0
FullHeader =
    (now : ℕ)
    → header_of (of_files (small_snapshot now) None None)
    ≡ record { kind = 2; flags = 12; features = 4; time = now; to = 4294967297; from = 0; name = codes "tank/a@s"; resume = None; redact = []; from_redact = [] }

-- a volume's
abbrev pub VolumeHeader : Type 0
VolumeHeader =
    (now : ℕ)
    → header_of (record { snapshot = small_snapshot now; kind = 3; source = None; redaction = None })
    ≡ record { kind = 3; flags = 12; features = 4; time = now; to = 4294967297; from = 0; name = codes "tank/a@s"; resume = None; redact = []; from_redact = [] }

-- an increment from a snapshot, and from a plain bookmark, of the same dataset
abbrev pub increment_header : ℕ → List ℕ → Header
increment_header now from_redact = record {
  kind = 2;
  flags = 12;
  features = 4;
  time = now;
  to = 4294967298;
  from = 4294967297;
  name = codes "tank/a@t";
  resume = None;
  redact = [];
  from_redact = from_redact;
}

abbrev pub IncrementHeaders : Type 0
IncrementHeaders =
    (now : ℕ)
    → (header_of (of_files (second_snapshot now) (Some (OfSnapshot (small_snapshot 3))) None) ≡ increment_header now [])
    × (header_of (of_files (second_snapshot now) (Some (OfBookmark plain_bookmark)) None) ≡ increment_header now [])

-- an increment from a redaction bookmark has its redaction guids as those of its source
abbrev pub SourceHeader : Type 0
SourceHeader = (now : ℕ) → header_of (of_files (second_snapshot now) (Some (OfBookmark redaction_bookmark)) None) ≡ increment_header now (7 ∷ 9 ∷ [])

-- an increment of another dataset's snapshot, from its origin or from a bookmark of it, has CLONE, which is 1
abbrev pub clone_header : ℕ → List ℕ → Header
clone_header now from_redact = record {
  kind = 2;
  flags = 13;
  features = 4;
  time = now;
  to = 4294967299;
  from = 4294967297;
  name = codes "tank/b@u";
  resume = None;
  redact = [];
  from_redact = from_redact;
}

abbrev pub CloneHeaders : Type 0
CloneHeaders =
    (now : ℕ)
    → (header_of (of_files (clone_snapshot now) (Some (OfSnapshot (small_snapshot 3))) None) ≡ clone_header now [])
    × (header_of (of_files (clone_snapshot now) (Some (OfBookmark redaction_bookmark)) None) ≡ clone_header now (7 ∷ 9 ∷ []))

-- a redacted send has REDACTED, which is 2^21, and the redaction guids of its bookmark
abbrev pub redacted_begin : ℕ → Header
redacted_begin now = record {
  kind = 2;
  flags = 12;
  features = 2097156;
  time = now;
  to = 4294967297;
  from = 0;
  name = codes "tank/a@s";
  resume = None;
  redact = 7 ∷ 9 ∷ [];
  from_redact = [];
}

abbrev pub RedactedHeader : Type 0
RedactedHeader = (now : ℕ) → header_of (of_files (small_snapshot now) None (Some redaction_bookmark)) ≡ redacted_begin now

-- the snapshot as that send leaves it has these guids itself: it is sent on with the same, and as the source of an increment they are those of its source
abbrev pub relayed_snapshot : ℕ → Snapshot
relayed_snapshot now = record (small_snapshot now) { redact = 7 ∷ 9 ∷ [] }

abbrev pub RelayHeaders : Type 0
RelayHeaders =
    (now : ℕ)
    → (header_of (of_files (relayed_snapshot now) None None) ≡ redacted_begin now)
    × (header_of (of_files (second_snapshot now) (Some (OfSnapshot (relayed_snapshot 3))) None) ≡ increment_header now (7 ∷ 9 ∷ []))

-- what these sends are asked: the source's number, what its list has, and what the list to redact has
abbrev pub Choices : Type 0
Choices =
    (now : ℕ)
    → (choice_of (of_files (small_snapshot now) None None) ≡ full no_pairs)
    × (choice_of (of_files (second_snapshot now) (Some (OfSnapshot (small_snapshot 3))) None) ≡ since 5)
    × (choice_of (of_files (second_snapshot now) (Some (OfBookmark plain_bookmark)) None) ≡ since 5)
    × (let choice = choice_of (of_files (second_snapshot now) (Some (OfBookmark redaction_bookmark)) None) in
    (choice.from ≡ Some 5) × (choice.source 1 0 ≡ true) × (choice.source 1 1 ≡ false) × (choice.redact 1 0 ≡ false))
    × (let choice = choice_of (of_files (small_snapshot now) None (Some redaction_bookmark)) in
    (choice.from ≡ None) × (choice.redact 1 0 ≡ true) × (choice.redact 1 1 ≡ false) × (choice.source 1 0 ≡ false))

-- the items of the full stream, and of the increment from the first snapshot to the second, in which equal bytes were written
abbrev pub SentItems : Type 0
SentItems =
    (now : ℕ)
    → (items (sent_view (of_files (small_snapshot now) None None)) origin ≡ file_put 0 ∷ At 1 (FreeFrom 512) ∷ At 1 (Write 0 19 (padded 170)) ∷ rest_gone ∷ [])
    × (items (sent_view (of_files (second_snapshot now) (Some (OfSnapshot (small_snapshot 3))) None)) origin
    ≡ file_put 0 ∷ At 1 (FreeFrom 512) ∷ At 1 (Write 0 19 (padded 170)) ∷ [])

-- what is sent of a lawful pool has a header that a stream can state, which says nothing of a token
abbrev pub SentIsStated : Type 0
SentIsStated = (pool : Pool) (sent : Sent) → IsPool pool → IsOf pool sent → IsStated (header_of sent) × IsUnresumed (header_of sent)

-- and, where what it lists can be redacted, a lawful view
abbrev pub SentHasView : Type 0
SentHasView =
    (pool : Pool) (sent : Sent) → IsPool pool → IsOf pool sent → CanRedact sent.snapshot.objects.state (choice_of sent).redact
    → IsView (sent_view sent)

-- in a stream that a token asked for, the header says RESUMING, which is 2^20, and the token's point, and else the same
abbrev pub PointHeaders : Type 0
PointHeaders =
    (sent : Sent) (point : Point)
    → ((header_of sent).redact ≡ [] → header_from (header_of sent) (Some point) ≡ record (header_of sent) { features = 1048580; resume = Some point })
    × (0 < length (header_of sent).redact → header_from (header_of sent) (Some point) ≡ record (header_of sent) { features = 3145732; resume = Some point })
