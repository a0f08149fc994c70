-- Pools that are alike in what is asked of them have one view of it.
use Rattle.std.proofs.Common.{◌≡◌, ℕ, ◌+◌, not, List, Option, Some, None, option_map, Ok, refl, sym, ap, ◌∙◌, subst, if◌then◌else◌}
use Rattle.std.specs.Str.{bytes_eq}
use Rattle.std.proofs.lemmas.Option.{same_Some}
use Rattle.zst_model.specs.declared.refusals.subjects.Name.TheVariants as names
use Rattle.zst_model.specs.declared.sends.ask.FromName.{FromName}
use Rattle.zst_model.specs.declared.sends.ask.FromName.TheVariants.{Snap, Book}
use Rattle.zst_names.specs.Names.{dataset_of}
use Rattle.zst_model.specs.fields.Lists.{has_pair}
use Rattle.zst_model.specs.pools.Ancestry.{Source, OfSnapshot, OfBookmark, number_of_source}
use Rattle.zst_model.specs.pools.Pool.{Pool, Snapshot, Bookmark, bookmark_named, snapshot_named}
use Rattle.zst_model.specs.sends.Headers.{choice_of, clone_flag, clone_part, features_of, flags_of, free_records, from_guid, header_of, redacted_part, redaction_guids, redaction_list, sent_view, source_guids, source_list, source_runs, spill_block}
use Rattle.zst_model.specs.sends.Features.{sa_spill}
use Rattle.zst_model.specs.sends.SendPlan.{absent, find_bookmark, find_redaction, find_snapshot, find_source, kind_of}
use Rattle.zst_model.specs.sends.View.{view_of}
use Rattle.zst_model.proofs.Results.{ok_parts, bind_ok}
use Rattle.zst_laws.specs.AlikePools.{AlikePoolsAreSentAlike, AreAlike, AreRedacting, AreSources}
use Rattle.zst_laws.proofs.pools.SendPlans.{HasFound, found_ok, plan_has_found}
use Rattle.zst_laws.proofs.sends.ViewLaws.{views_same}

-- sources that are alike: snapshots of one name, guid and number, with one list of what is redacted, or one bookmark
abbrev SameSource : Option Source → Option Source → Type 0
SameSource None None = Unit {0}
SameSource (Some (OfSnapshot a)) (Some (OfSnapshot b)) =
    (a.name ≡ b.name) × (a.guid ≡ b.guid) × (a.number ≡ b.number) × (a.redact ≡ b.redact) × (source_runs (Some (OfSnapshot a)) ≡ source_runs (Some (OfSnapshot b)))
SameSource (Some (OfBookmark a)) (Some (OfBookmark b)) = a ≡ b
SameSource x y = ⊥

sources_same : (from : Option FromName) (pool other : Pool) (x y : Option Source) → find_source from pool ≡ Ok x → find_source from other ≡ Ok y → AreSources from pool other → SameSource x y
sources_same None pool other x y f g h = subst (λ x. SameSource x y) (ok_parts None x f) (subst (SameSource None) (ok_parts None y g) tt)
sources_same (Some (Snap name)) pool other x y f g h =
    let a = bind_ok (find_snapshot name pool) (λ snapshot. Ok (Some (OfSnapshot snapshot))) x f in
    let b = bind_ok (find_snapshot name other) (λ snapshot. Ok (Some (OfSnapshot snapshot))) y g in
    let same = h a.0 b.0 (found_ok (absent (names.Snapshot name)) (snapshot_named name pool) a.0 a.1) (found_ok (absent (names.Snapshot name)) (snapshot_named name other) b.0 b.1) in
    subst (λ x. SameSource x y) (ok_parts (Some (OfSnapshot a.0)) x a.2) (subst (SameSource (Some (OfSnapshot a.0))) (ok_parts (Some (OfSnapshot b.0)) y b.2) same)
sources_same (Some (Book name)) pool other x y f g h =
    let a = bind_ok (find_bookmark name pool) (λ bookmark. Ok (Some (OfBookmark bookmark))) x f in
    let b = bind_ok (find_bookmark name other) (λ bookmark. Ok (Some (OfBookmark bookmark))) y g in
    let same : a.0 ≡ b.0 = same_Some a.0 b.0 (sym (found_ok (absent (names.Bookmark name)) (bookmark_named name pool) a.0 a.1) ∙ h ∙ found_ok (absent (names.Bookmark name)) (bookmark_named name other) b.0 b.1) in
    subst (λ x. SameSource x y) (ok_parts (Some (OfBookmark a.0)) x a.2) (subst (SameSource (Some (OfBookmark a.0))) (ok_parts (Some (OfBookmark b.0)) y b.2) same)

redactions_same : (redact : Option (List ℕ)) (pool other : Pool) (x y : Option Bookmark) → find_redaction redact pool ≡ Ok x → find_redaction redact other ≡ Ok y → AreRedacting redact pool other → x ≡ y
redactions_same None pool other x y f g h = sym (ok_parts None x f) ∙ ok_parts None y g
redactions_same (Some name) pool other x y f g h =
    let a = bind_ok (find_bookmark name pool) (λ bookmark. Ok (Some bookmark)) x f in
    let b = bind_ok (find_bookmark name other) (λ bookmark. Ok (Some bookmark)) y g in
    sym (ok_parts (Some a.0) x a.2)
    ∙ sym (found_ok (absent (names.Bookmark name)) (bookmark_named name pool) a.0 a.1) ∙ h ∙ found_ok (absent (names.Bookmark name)) (bookmark_named name other) b.0 b.1
    ∙ ok_parts (Some b.0) y b.2

-- what is seen of alike sources is the same
module _ (a b : Snapshot) (named : a.name ≡ b.name) where
  parts_same : (x y : Option Source) → SameSource x y
      → (from_guid x ≡ from_guid y) × (source_guids x ≡ source_guids y) × (option_map number_of_source x ≡ option_map number_of_source y) × (source_list x ≡ source_list y) × (clone_part a x ≡ clone_part b y)
  parts_same None None h = (refl, refl, refl, refl, refl)
  parts_same None (Some y) h = absurd h
  parts_same (Some (OfSnapshot x)) None h = absurd h
  parts_same (Some (OfBookmark x)) None h = absurd h
  parts_same (Some (OfSnapshot x)) (Some (OfBookmark y)) h = absurd h
  parts_same (Some (OfBookmark x)) (Some (OfSnapshot y)) h = absurd h
  parts_same (Some (OfSnapshot x)) (Some (OfSnapshot y)) h = (
    h.1,
    h.3,
    ap (λ n. Some n) h.2,
    ap has_pair h.4,
    (λ p. if not (bytes_eq (dataset_of 64 (h.0 p)) (dataset_of 64 (named p))) then clone_flag else 0),
  )
  parts_same (Some (OfBookmark x)) (Some (OfBookmark y)) h = (
    ap (λ (z : Bookmark). z.guid) h,
    ap (λ (z : Bookmark). z.redact) h,
    ap (λ (z : Bookmark). Some z.number) h,
    ap (λ (z : Bookmark). source_list (Some (OfBookmark z))) h,
    (λ p. if not (bytes_eq (dataset_of 35 (h p).name) (dataset_of 64 (named p))) then clone_flag else 0),
  )

-- so are the redaction guids that are stated
guids_same : (a b : Snapshot) (x y : Option Bookmark) → a.redact ≡ b.redact → x ≡ y → redaction_guids a x ≡ redaction_guids b y
guids_same a b x y own same = ap (redaction_guids a) same ∙ of y
  where
    of : (o : Option Bookmark) → redaction_guids a o ≡ redaction_guids b o
    of None = own
    of (Some bookmark) = refl

pub alike_sent : AlikePoolsAreSentAlike
unfolding flags_of features_of
alike_sent ask pool other sent also planned also_planned alike = whole
  where
    found : HasFound ask pool sent
    found = plan_has_found ask pool sent planned

    also_found : HasFound ask other also
    also_found = plan_has_found ask other also also_planned

    both : AreAlike (choice_of sent).redact sent.snapshot also.snapshot × (kind_of pool sent.snapshot ≡ kind_of other also.snapshot)
    both = alike.snapshots sent.snapshot also.snapshot
        (found_ok (absent (names.Snapshot ask.snap)) (snapshot_named ask.snap pool) sent.snapshot found.snapshot)
        (found_ok (absent (names.Snapshot ask.snap)) (snapshot_named ask.snap other) also.snapshot also_found.snapshot)

    source : SameSource sent.source also.source
    source = sources_same ask.from pool other sent.source also.source found.source also_found.source alike.sources

    redaction : sent.redaction ≡ also.redaction
    redaction = redactions_same ask.redact pool other sent.redaction also.redaction found.redaction also_found.redaction alike.redactions

    parts : (from_guid sent.source ≡ from_guid also.source) × (source_guids sent.source ≡ source_guids also.source) × (option_map number_of_source sent.source ≡ option_map number_of_source also.source)
        × (source_list sent.source ≡ source_list also.source) × (clone_part sent.snapshot sent.source ≡ clone_part also.snapshot also.source)
    parts = parts_same sent.snapshot also.snapshot both.0.name sent.source also.source source

    guids : redaction_guids sent.snapshot sent.redaction ≡ redaction_guids also.snapshot also.redaction
    guids = guids_same sent.snapshot also.snapshot sent.redaction also.redaction both.0.redact redaction

    kinds : sent.kind ≡ also.kind
    kinds = found.kind ∙ both.1 ∙ sym also_found.kind

    header : header_of sent ≡ header_of also
    header = λ p. record {
      kind = kinds p;
      flags = parts.4 p + (free_records + spill_block);
      features = redacted_part (guids p) + sa_spill;
      time = both.0.time p;
      to = both.0.guid p;
      from = parts.0 p;
      name = both.0.name p;
      resume = None;
      redact = guids p;
      from_redact = parts.1 p;
    }

    choice : choice_of sent ≡ choice_of also
    choice = λ p. record { from = parts.2 p; source = parts.3 p; redact = redaction_list (redaction p) }

    whole : sent_view sent ≡ sent_view also
    whole =
        views_same (header_of sent) sent.snapshot.objects also.snapshot.objects (choice_of sent) both.0.number_dates both.0.index_dates both.0.objects
        ∙ (λ p. view_of (header p) also.snapshot.objects (choice p))
