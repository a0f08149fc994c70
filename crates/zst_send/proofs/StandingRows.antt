-- What the rows of a pool give a send: the set of its snapshot, that of a redacted source, and the lists of its bookmarks.
use Rattle.std.proofs.Common.{◌≡◌, ℕ, Bool, true, false, if◌then◌else◌, get_or, Option, Some, None, refl, sym, ap, ◌∙◌, subst}
use Rattle.std.specs.Prelude.{IfSome}
use Rattle.std.proofs.lemmas.List.{get_or_default}
use Rattle.zst_dir.proofs.Matches.{Match-alike}
use Rattle.zst_dir.specs.RowNames.{AreNamed, NamesSnapshot}
use Rattle.zst_dir.specs.Rows.{Rows}
use Rattle.zst_dir.specs.declared.rows.Bookmark.{Bookmark}
use Rattle.zst_dir.specs.declared.rows.Snapshot.{Snapshot}
use Rattle.zst_image.specs.Reads.{BookmarkIs, RunsBy, SetIs, SnapshotIs}
use Rattle.zst_list.specs.StoredLists.{HasList}
use Rattle.zst_model.specs.fields.Lists.{has_pair}
use Rattle.zst_model.specs.pools.Ancestry.{Source, OfSnapshot, OfBookmark}
use Rattle.zst_model.specs.pools.Pool.{Pool}
use Rattle.zst_model.specs.pools.Pool as plain
use Rattle.zst_model.specs.sends.Headers.{Sent, choice_of, redaction_list}
use Rattle.zst_model.specs.sends.SendPlan.{has_guids, is_redacted}
use Rattle.zst_model.specs.states.DatedState.{DatedState}
use Rattle.zst_objset.specs.Sets.{SetHolds, SetHoldsBut}
use Rattle.zst_plan.proofs.AlikeAnswers.{at_names}
use Rattle.zst_plan.specs.Places.{FindAlike, StandsAt}
use Rattle.zst_plan.specs.Plans.{bookmark_source, snapshot_source}
use Rattle.zst_tree.specs.Indices.{Blocks}
use Rattle.zst_tree.specs.declared.tree.ObjSet.{ObjSet}
use Rattle.zst_send.specs.Openings.{HasListOf, HoldsSource, IsRedactedAt, StandsSent, redacted_source, runs_in}
use Rattle.zst_send.proofs.SetsBut.{holds_but}

module _ (has : Blocks) (rows : Rows) (pool : Pool) where
  -- ---- where they stand for all of the pool

  set_held : (bound : Option ℕ) (set : ObjSet) (state : DatedState) → SetIs bound has set state → SetHolds has set state
  set_held None set state is = is
  set_held (Some number) set state is = is.0.holds

  list_held : {bound : Option ℕ} → RunsBy bound has rows pool → (bookmark : Option plain.Bookmark) → IfSome bookmark (HasListOf has rows pool)
  list_held runs None = tt
  list_held runs (Some bookmark) = λ row alike. (Match-alike (BookmarkIs has) rows.bookmarks pool.bookmarks row bookmark runs.bookmarks alike).list

  source_held : {bound : Option ℕ} → RunsBy bound has rows pool → (redacted : Bool) (snapshot : plain.Snapshot) → IfSome (if redacted then Some snapshot else None) (HoldsSource has rows pool)
  source_held {bound} runs true snapshot = λ row alike.
      let is = Match-alike (SnapshotIs bound has) rows.snapshots pool.snapshots row snapshot runs.snapshots alike in
      set_held bound row.objects snapshot.objects is.objects
  source_held runs false snapshot = tt

  redacted_held : {bound : Option ℕ} → RunsBy bound has rows pool → (source : Option Source) → IfSome (redacted_source source) (HoldsSource has rows pool)
  redacted_held runs None = tt
  redacted_held runs (Some (OfSnapshot snapshot)) = source_held runs (has_guids snapshot.redact) snapshot
  redacted_held runs (Some (OfBookmark bookmark)) = tt

  -- rows that stand for all of a pool stand for each of its sends
  pub stands_sent : {bound : Option ℕ} → (sent : Sent) → RunsBy bound has rows pool → StandsSent has rows pool sent
  stands_sent {bound} sent runs = record {
    set = λ row alike.
        let is = Match-alike (SnapshotIs bound has) rows.snapshots pool.snapshots row sent.snapshot runs.snapshots alike in
        holds_but has (choice_of sent).redact row.objects sent.snapshot.objects (set_held bound row.objects sent.snapshot.objects is.objects);
    source_set = redacted_held runs sent.source;
    source = list_held runs (bookmark_source sent.source);
    redaction = list_held runs sent.redaction;
  }

  -- ---- where they stand for a send

  -- the row at the snapshot's place has its set
  pub set_at_place : (sent : Sent) (place : ℕ) (row : Snapshot) → StandsSent has rows pool sent → StandsAt rows.snapshots pool.snapshots place sent.snapshot → row ≡ get_or rows.snapshots place row
      → SetHoldsBut has (choice_of sent).redact row.objects sent.snapshot.objects
  set_at_place sent place row stands at here =
      let same : at.row ≡ row = sym at.is_there ∙ get_or_default rows.snapshots place at.row row at.below ∙ sym here in
      subst (λ (r : Snapshot). SetHoldsBut has (choice_of sent).redact r.objects sent.snapshot.objects) same (stands.set at.row at.alike)

  -- the row at the place of the snapshot that it is from has the set of that, where it is redacted
  pub source_at_place : (snapshot : plain.Snapshot) (place : ℕ) (row : Snapshot) → IfSome (redacted_source (Some (OfSnapshot snapshot))) (HoldsSource has rows pool)
      → StandsAt rows.snapshots pool.snapshots place snapshot → row ≡ get_or rows.snapshots place row → has_guids snapshot.redact ≡ true → SetHolds has row.objects snapshot.objects
  source_at_place snapshot place row stands at here redacted =
      let same : at.row ≡ row = sym at.is_there ∙ get_or_default rows.snapshots place at.row row at.below ∙ sym here in
      let holds = subst (λ (b : Bool). IfSome (if b then Some snapshot else None) (HoldsSource has rows pool)) redacted stands in
      subst (λ (r : Snapshot). SetHolds has r.objects snapshot.objects) same (holds at.row at.alike)

  -- the row at a bookmark's place has its list
  pub list_at_place : (place : ℕ) (row : Bookmark) (bookmark : Option plain.Bookmark) → FindAlike (StandsAt rows.bookmarks pool.bookmarks) (Some place) bookmark → IfSome bookmark (HasListOf has rows pool)
      → row ≡ get_or rows.bookmarks place row → HasList has row.levels row.root row.runs (runs_in bookmark)
  list_at_place place row None at stands here = absurd at
  list_at_place place row (Some bookmark) at stands here =
      let same : at.row ≡ row = sym at.is_there ∙ get_or_default rows.bookmarks place at.row row at.below ∙ sym here in
      subst (λ (r : Bookmark). HasList has r.levels r.root r.runs bookmark.runs) same (stands at.row at.alike)

-- what a send is from is a redacted snapshot, where a redacted snapshot's row stands at its place
pub redacted_by_row : (rows : Rows) (pool : Pool) (place : Option ℕ) (source : Option Source) → AreNamed rows pool → FindAlike (StandsAt rows.snapshots pool.snapshots) place (snapshot_source source)
    → IsRedactedAt rows place → is_redacted source ≡ true
redacted_by_row rows pool None source are alike there = absurd there.1
redacted_by_row rows pool (Some place) None are alike there = absurd alike
redacted_by_row rows pool (Some place) (Some (OfSnapshot snapshot)) are alike there =
    let row = there.0 in
    let at = there.1 in
    let names = at_names NamesSnapshot rows.snapshots pool.snapshots place row snapshot are.snapshots alike (sym at.1) in
    ap has_guids names.redact ∙ there.2
redacted_by_row rows pool (Some place) (Some (OfBookmark bookmark)) are alike there = absurd alike

-- the pairs of the redaction bookmark's list are those of its runs
pub redaction_pairs : (redaction : Option plain.Bookmark) → redaction_list redaction ≡ has_pair (runs_in redaction)
redaction_pairs None = refl
redaction_pairs (Some bookmark) = refl
