-- What BEGIN states.
use Rattle.std.proofs.Common.{◌≡◌, ℕ, ◌+◌, true, false, List, [], ◌∷◌, length, Option, Some, None, refl, sym, ap, ◌∙◌, arith}
use Rattle.std.proofs.lemmas.Bool.{false≢true, lt-ltb, true≢false}
use Rattle.std.proofs.lemmas.Option.{same_Some}
use Rattle.zst_model.specs.pools.Ancestry.{Source, OfSnapshot, OfBookmark}
use Rattle.zst_model.specs.pools.Pool.{Snapshot}
use Rattle.zst_model.specs.sends.Features.{redacts, sa_spill}
use Rattle.zst_model.specs.sends.Headers.{Sent, clone_flag, clone_part, features_of, flags_of, free_records, is_elsewhere, redacted_part, redaction_guids, source_guids, spill_block}
use Rattle.zst_model.specs.sends.SendPlan.{has_guids}
use Rattle.zst_plan.specs.Plans.{bookmark_source, mark_guids, snapshot_source}

-- the flags of a send from a source, and of a full one
pub with_clone : (to : Snapshot) (source : Source) → is_elsewhere to source ≡ true → 13 ≡ clone_part to (Some source) + (free_records + spill_block)
unfolding clone_flag free_records spill_block
with_clone to source other = rw other refl

pub without_clone : (to : Snapshot) (source : Source) → is_elsewhere to source ≡ false → 12 ≡ clone_part to (Some source) + (free_records + spill_block)
unfolding clone_flag free_records spill_block
without_clone to source own = rw own refl

pub full_flags : (to : Snapshot) → 12 ≡ clone_part to None + (free_records + spill_block)
unfolding free_records spill_block
full_flags to = refl

-- the flags are these
pub flags_are : (sent : Sent) → clone_part sent.snapshot sent.source + (free_records + spill_block) ≡ flags_of sent
unfolding flags_of
flags_are sent = refl

-- the features of what states redaction guids, and of what states none
pub with_guids : (guids : List ℕ) → has_guids guids ≡ true → 2097156 ≡ redacted_part guids + sa_spill
unfolding redacts sa_spill
with_guids [] some = absurd (false≢true some)
with_guids (guid ∷ guids) some = refl

pub without_guids : (guids : List ℕ) → has_guids guids ≡ false → 4 ≡ redacted_part guids + sa_spill
unfolding sa_spill
without_guids [] none = refl
without_guids (guid ∷ guids) none = absurd (true≢false (sym (lt-ltb 0 (length (guid ∷ guids)) (omega arith)) ∙ none))

-- the features are these
pub features_are : (sent : Sent) → redacted_part (redaction_guids sent.snapshot sent.redaction) + sa_spill ≡ features_of sent
unfolding features_of
features_are sent = refl

-- the redaction guids of a source are those of the snapshot that it is, or else of the bookmark
pub snapshot_guids : (source : Option Source) (snapshot : Snapshot) → snapshot_source source ≡ Some snapshot → snapshot.redact ≡ source_guids source
snapshot_guids None snapshot is = absurd (cc)
snapshot_guids (Some (OfSnapshot own)) snapshot is = ap (λ (s : Snapshot). s.redact) (sym (same_Some own snapshot is))
snapshot_guids (Some (OfBookmark bookmark)) snapshot is = absurd (cc)

pub bookmark_guids : (source : Option Source) → snapshot_source source ≡ None → mark_guids (bookmark_source source) ≡ source_guids source
bookmark_guids None is = refl
bookmark_guids (Some (OfSnapshot snapshot)) is = absurd (cc)
bookmark_guids (Some (OfBookmark bookmark)) is = refl
