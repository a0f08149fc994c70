-- What BEGIN says of sends.
use Rattle.std.proofs.Common.{◌≡◌, ℕ, ◌+◌, ◌^◌, ◌<◌, Bool, true, false, List, [], ◌∷◌, Option, Some, None, IfSome, bit_and, length, ◌==◌, if◌then◌else◌, refl, ap, subst, sym, arith}
use Rattle.std.specs.List.{Contains}
use Rattle.std.proofs.lemmas.Bool.Decides.{nat_tests}
use Rattle.std.proofs.lemmas.List.Elements.{All-nil, All-contains, All-weaker}
use Rattle.zst_names.specs.Names.{IsSnapshot}
use Rattle.zst_names.proofs.SnapshotNames.{IsTextByte, snapshot_bytes, snapshot_length}
use Rattle.zst_model.specs.fields.Guids.{IsGuidSet}
use Rattle.zst_model.specs.fields.Lists.{IsRunList}
use Rattle.zst_model.specs.states.State.{IsState}
use Rattle.zst_model.specs.pools.Ancestry.{Source, OfSnapshot, OfBookmark, IsIn}
use Rattle.zst_model.specs.pools.Pool.{Pool, Snapshot, Bookmark, IsPool, IsKind, IsGuid, IsStatedName}
use Rattle.zst_model.specs.sends.Headers.{Sent, IsOf, IsRedactionOf, clone_flag, free_records, spill_block, is_elsewhere, clone_part, redacted_part, flags_of, features_of, from_guid, redaction_guids, source_guids, header_of, choice_of}
use Rattle.zst_model.specs.sends.Features.{redacts, resuming, sa_spill}
use Rattle.zst_model.specs.sends.View.{header_from}
use Rattle.zst_laws.specs.HeaderExample.{FullHeader, VolumeHeader, IncrementHeaders, SourceHeader, CloneHeaders, RedactedHeader, RelayHeaders, Choices, SentItems, SentIsStated, SentHasView, PointHeaders, of_files, second_snapshot}
use Rattle.zst_laws.specs.StepExample.{small_snapshot}
use Rattle.zst_laws.proofs.examples.FileExamples.{small_items, rewritten_items}
use Rattle.zst_laws.proofs.sends.ExactSends.{view_is_view}

pub full_header : FullHeader
unfolding flags_of features_of free_records spill_block sa_spill
full_header now = refl

pub volume_header : VolumeHeader
unfolding flags_of features_of free_records spill_block sa_spill
volume_header now = refl

pub increment_headers : IncrementHeaders
unfolding flags_of features_of free_records spill_block sa_spill
increment_headers now = (refl, refl)

pub source_header : SourceHeader
unfolding flags_of features_of free_records spill_block sa_spill
source_header now = refl

pub clone_headers : CloneHeaders
unfolding flags_of features_of clone_flag free_records spill_block sa_spill
clone_headers now = (refl, refl)

pub redacted_header : RedactedHeader
unfolding flags_of features_of free_records spill_block sa_spill redacts
redacted_header now = refl

pub relay_headers : RelayHeaders
unfolding flags_of features_of free_records spill_block sa_spill redacts
relay_headers now = (refl, refl)

pub choices : Choices
choices now = (refl, refl, refl, (refl, refl, refl, refl), (refl, refl, refl, refl))

pub sent_items : SentItems
sent_items now = ((small_items (header_of (of_files (small_snapshot now) None None))).0, rewritten_items (header_of (of_files (second_snapshot now) (Some (OfSnapshot (small_snapshot 3))) None)))

-- the numbers of a header, in each case
flags_fit : (sent : Sent) → flags_of sent < 2 ^ 32
unfolding flags_of clone_flag free_records spill_block
flags_fit sent = go sent.source
  where
    go : (source : Option Source) → clone_part sent.snapshot source + (free_records + spill_block) < 2 ^ 32
    go None = omega arith
    go (Some source) = one (is_elsewhere sent.snapshot source)
      where
        one : (t : Bool) → (if t then clone_flag else 0) + (free_records + spill_block) < 2 ^ 32
        one true = omega arith
        one false = omega arith

features_fit : (sent : Sent) → features_of sent < 2 ^ 30
unfolding features_of sa_spill redacts
features_fit sent = go (redaction_guids sent.snapshot sent.redaction)
  where
    go : (guids : List ℕ) → redacted_part guids + sa_spill < 2 ^ 30
    go [] = omega arith
    go (guid ∷ guids) = omega arith

not_resumed : (sent : Sent) → bit_and (features_of sent) resuming ≡ 0
unfolding features_of sa_spill redacts resuming
not_resumed sent = go (redaction_guids sent.snapshot sent.redaction)
  where
    go : (guids : List ℕ) → bit_and (redacted_part guids + sa_spill) resuming ≡ 0
    go [] = refl
    go (guid ∷ guids) = refl

module _ (pool : Pool) (is : IsPool pool) where
  no_guids : IsGuidSet []
  no_guids = record { few = omega arith; rising = refl; fit = All-nil (λ guid. guid < 2 ^ 64) }

  snapshot_is : (s : Snapshot) → Contains pool.snapshots s → IsGuid s.guid × IsGuidSet s.redact × IsState s.objects.state × (s.time < 2 ^ 64)
  snapshot_is s there = All-contains (λ s. IsGuid s.guid × IsGuidSet s.redact × IsState s.objects.state × (s.time < 2 ^ 64)) pool.snapshots s is.snapshots there

  bookmark_is : (b : Bookmark) → Contains pool.bookmarks b → IsGuid b.guid × IsGuidSet b.redact × IsRunList b.runs × (b.time < 2 ^ 64)
  bookmark_is b there = All-contains (λ b. IsGuid b.guid × IsGuidSet b.redact × IsRunList b.runs × (b.time < 2 ^ 64)) pool.bookmarks b is.bookmarks there

  snapshot_named : (s : Snapshot) → Contains pool.snapshots s → IsSnapshot s.name
  snapshot_named s there = All-contains (λ s. IsSnapshot s.name) pool.snapshots s is.named.snapshot_names there

  -- what a source gives the header
  from_fits : (source : Option Source) → IfSome source (IsIn pool) → from_guid source < 2 ^ 64
  from_fits None here = omega arith
  from_fits (Some (OfSnapshot s)) here = (snapshot_is s here).0.1
  from_fits (Some (OfBookmark b)) here = (bookmark_is b here).0.1

  source_are : (source : Option Source) → IfSome source (IsIn pool) → IsGuidSet (source_guids source)
  source_are None here = no_guids
  source_are (Some (OfSnapshot s)) here = (snapshot_is s here).1
  source_are (Some (OfBookmark b)) here = (bookmark_is b here).1

  redaction_are : (snapshot : Snapshot) (redaction : Option Bookmark) → Contains pool.snapshots snapshot → IfSome redaction (IsRedactionOf pool snapshot)
      → IsGuidSet (redaction_guids snapshot redaction)
  redaction_are snapshot None there here = (snapshot_is snapshot there).1
  redaction_are snapshot (Some b) there here = (bookmark_is b here.there).1

  -- a source that states guids has a guid
  from_stated : (source : Option Source) → IfSome source (IsIn pool) → 0 < length (source_guids source) → 0 < from_guid source
  from_stated None here some = absurd (omega (arith, some))
  from_stated (Some (OfSnapshot s)) here some = (snapshot_is s here).0.0
  from_stated (Some (OfBookmark b)) here some = (bookmark_is b here).0.0

  kind_is : (sent : Sent) → IsOf pool sent → IsKind sent.kind
  kind_is sent of =
      subst IsKind (sym of.kind) (All-contains (λ d. IsKind d.kind × IsGuidSet d.redact × IsState d.head.state) pool.datasets of.dataset is.datasets of.there).0

-- REDACTED is there exactly where redaction guids are
redacted_stated : (sent : Sent) → (bit_and (features_of sent) redacts == 0) ≡ (length (redaction_guids sent.snapshot sent.redaction) == 0)
unfolding features_of sa_spill redacts
redacted_stated sent = go (redaction_guids sent.snapshot sent.redaction)
  where
    some : (n : ℕ) → 0 < n → false ≡ (n == 0)
    some n more = grind (arith, nat_tests)

    go : (guids : List ℕ) → (bit_and (redacted_part guids + sa_spill) redacts == 0) ≡ (length guids == 0)
    go [] = refl
    go (guid ∷ guids) = some (length (guid ∷ guids)) (omega arith)

-- a snapshot's name can be stated
stated_name : (name : List ℕ) → IsSnapshot name → IsStatedName name
stated_name name is = record {
  short = snapshot_length name is;
  bytes = All-weaker IsTextByte (λ byte. byte < 2 ^ 8) (λ byte h. h.1) name (snapshot_bytes name is);
  no_zero = λ there. let positive = (All-contains IsTextByte name 0 (snapshot_bytes name is) there).0 in absurd (omega (arith, positive));
}

pub sent_is_stated : SentIsStated
sent_is_stated pool sent is of =
    let snapshot = snapshot_is pool is sent.snapshot of.snapshot in
    let redact = redaction_are pool is sent.snapshot sent.redaction of.snapshot of.redaction in
    let from_redact = source_are pool is sent.source of.source in (
      record {
        kind = kind_is pool is sent of;
        flags = flags_fit sent;
        features = features_fit sent;
        time = snapshot.3;
        to = snapshot.0;
        from = from_fits pool is sent.source of.source;
        redact = redact;
        from_redact = from_redact;
        name = stated_name sent.snapshot.name (snapshot_named pool is sent.snapshot of.snapshot);
        resume = refl;
        unresumed = not_resumed sent;
        redacted = redacted_stated sent;
        source = from_stated pool is sent.source of.source;
      },
      (refl, not_resumed sent),
    )

pub sent_has_view : SentHasView
sent_has_view pool sent is of can =
    view_is_view (header_of sent) sent.snapshot.objects (choice_of sent) (snapshot_is pool is sent.snapshot of.snapshot).2 can

pub point_headers : PointHeaders
unfolding features_of sa_spill redacts resuming
point_headers sent point = (
  λ none. ap (λ (guids : List ℕ). header_from (record (header_of sent) { features = redacted_part guids + sa_spill }) (Some point)) none,
  λ some. given (redaction_guids sent.snapshot sent.redaction) some,
)
  where
    given : (guids : List ℕ) → 0 < length guids
        → header_from (record (header_of sent) { features = redacted_part guids + sa_spill }) (Some point) ≡ record (header_of sent) { features = 3145732; resume = Some point }
    given [] none = absurd (omega (arith, none))
    given (guid ∷ guids) some = refl
