-- Which redacted sends can be stated, and which redacted bases match.
use Rattle.std.proofs.Common.{◌≡◌, ℕ, ◌<◌, ◌==◌, true, false, List, length, Option, None, sym, ap, ◌∙◌, subst}
use Rattle.std.specs.Prelude.{Contains, IfSome}
use Rattle.std.proofs.lemmas.List.{length-map}
use Rattle.std.proofs.lemmas.List.Elements.{All-contains}
use Rattle.zst_laws.specs.Meanings.{RedactsUserData}
use Rattle.zst_laws.specs.RedactionLists.{AreListed, CoveredIsBase, HaveOwnGuids, IsOverRedacted, ListedMayBeRedacted, each_guid, lost}
use Rattle.zst_model.specs.pools.Ancestry.{Source, IsIn, number_of_source}
use Rattle.zst_model.specs.pools.Pool.{Bookmark, IsPool, Pool, Snapshot, partial_of}
use Rattle.zst_model.specs.pools.Soundness.{IsBookmarkOf, Sound}
use Rattle.zst_model.specs.sends.Headers.{Sent, IsRedactionOf, choice_of, from_guid, guid_of_source, header_of, redaction_guids, redaction_list}
use Rattle.zst_model.specs.sends.Inclusion.{no_pairs}
use Rattle.zst_model.specs.sends.Target.{BaseOk, CanRedact, redacted}
use Rattle.zst_model.specs.states.State.{State}
use Rattle.zst_plan.specs.ContainedBases.{ContainedIsCovered, SendsWhole}
use Rattle.zst_plan.specs.RecvPlan.{Base, Begins, is_contained, redacted_for}
use Rattle.zst_plan.specs.declared.receive.RecvAsk.{RecvAsk}
use Rattle.zst_replication.specs.MatchingBases.{ContainedIsBase, HasRedactedSource, ListedIsWithin, MarkedIsSent, PlainIsWithin, RedactedBasesMatch, RelayIsWithin}
use Rattle.zst_replication.specs.Outcomes.{base_objects}
use Rattle.zst_replication.specs.Replicas.{MatchesBase}
use Rattle.zst_replication.proofs.MatchingBases.{isnt_empty, not_full, some_guid}
use Rattle.zst_replication.proofs.ReceivePlans.{base_there, begins_anew}

-- ---- what can be stated

pub listed_within : ListedMayBeRedacted → ListedIsWithin
listed_within law pool sent bookmark redactions listed is =
    let of : IsRedactionOf pool sent.snapshot bookmark = subst (λ (o : Option Bookmark). IfSome o (IsRedactionOf pool sent.snapshot)) is.given is.is_of.redaction in
    let lists = listed bookmark sent.snapshot redactions of.there of.guids is.is_of.snapshot is.own is.redactions_are in
    record {
      may = subst (λ (o : Option Bookmark). CanRedact sent.snapshot.objects.state (redaction_list o)) (sym is.given) (law bookmark sent.snapshot redactions lists is.user_data);
      plain = λ none. absurd (isnt_empty bookmark.redact of.guids (sym (ap (λ (o : Option Bookmark). redaction_guids sent.snapshot o) is.given) ∙ none));
    }

-- where no pairs are to be redacted, what is redacted already has to be user data
none_may : (state : State) → RedactsUserData state → CanRedact state no_pairs
none_may state user k object there = record { listed = λ i never. absurd cc; redacted = λ i gone. user k i object there gone }

pub unlisted_may : (sent : Sent) → sent.redaction ≡ None → RedactsUserData sent.snapshot.objects.state → CanRedact sent.snapshot.objects.state (choice_of sent).redact
unlisted_may sent none user =
    subst (λ (o : Option Bookmark). CanRedact sent.snapshot.objects.state (redaction_list o)) (sym none) (none_may sent.snapshot.objects.state user)

pub plain_within : PlainIsWithin
plain_within sent none whole = record { may = unlisted_may sent none (λ k i object there gone. absurd (whole k i object there gone)); plain = λ same. whole }

pub relay_within : RelayIsWithin
relay_within sent none some user = record {
  may = unlisted_may sent none user;
  plain = λ empty. absurd (isnt_empty sent.snapshot.redact some (sym (ap (λ (o : Option Bookmark). redaction_guids sent.snapshot o) none) ∙ empty));
}

-- ---- which bases match

module _ (law : CoveredIsBase) (covers : ContainedIsCovered) (pool : Pool) (sent : Sent) (source : Source) (own : Snapshot) (state : State) (redactions : List Snapshot) (lawful : IsPool pool) (sound : Sound pool)
    (listed : AreListed pool) (guids : HaveOwnGuids pool) (is : IsOverRedacted pool sent source own state redactions) (whole : SendsWhole sent) (some : 0 < length redactions) where
  source_guid : 0 < guid_of_source source
  source_guid = some_guid pool lawful source (subst (λ (o : Option Source). IfSome o (IsIn pool)) is.from is.is_of.source)

  pub contained_base : is_contained (each_guid redactions) (header_of sent) ≡ true → BaseOk (redacted state (lost state (number_of_source source) redactions)) sent.snapshot.objects (choice_of sent)
  contained_base inside =
      law pool sent source own state redactions lawful sound listed guids is
      (covers sent source (each_guid redactions) whole is.from source_guid (subst (λ (n : ℕ). 0 < n) (sym (length-map redactions (λ (s : Snapshot). s.guid))) some) inside)

  pub redacted_match : (receive : RecvAsk) (into : Pool) → partial_of receive.target into ≡ None → HasRedactedSource source state redactions into → MatchesBase sent receive into
  redacted_match receive into none has component base begins =
      let fresh = begins_anew receive (header_of sent) into (Begins component base) none begins in
      let plan : Begins component base ≡ Begins fresh.component fresh.base = fresh.plan_is in
      let same : fresh.base ≡ base = cc in
      let good = base_there receive (header_of sent) into fresh.base fresh.based in
      let guid : (header_of sent).from ≡ guid_of_source source = ap from_guid is.from in
      let found = good.by_guid (ap (λ (n : ℕ). n == 0) guid ∙ not_full (guid_of_source source) source_guid) in
      let there : Contains into.snapshots found.0 = subst (λ (o : Option Snapshot). IfSome o (λ s. Contains into.snapshots s)) found.1 good.there in
      let known = has found.0 there (found.2 ∙ guid) in
      let inside : is_contained (each_guid redactions) (header_of sent) ≡ true =
      sym (ap (λ (o : Option Snapshot). is_contained (redacted_for o) (header_of sent)) found.1 ∙ ap (λ (gs : List ℕ). is_contained gs (header_of sent)) known.0) ∙ fresh.contained in
      let now : (base_objects base).state ≡ redacted state (lost state (number_of_source source) redactions) =
      sym (ap (λ (b : Base). (base_objects b).state) same) ∙ ap (λ (o : Option Snapshot). (base_objects (record { snapshot = o; rolls = false })).state) found.1 ∙ known.1 in
      subst (λ (s : State). BaseOk s sent.snapshot.objects (choice_of sent)) (sym now) (contained_base inside)

pub marked_sent : MarkedIsSent
marked_sent pool sent bookmark own sound guids of given there is =
    let marks : IsRedactionOf pool sent.snapshot bookmark = subst (λ (o : Option Bookmark). IfSome o (IsRedactionOf pool sent.snapshot)) given of.redaction in
    let kept = All-contains (IsBookmarkOf pool) pool.bookmarks bookmark sound.bookmarks marks.there in
    guids own sent.snapshot there of.snapshot (sym (kept.guid own there (sym is.dataset) (sym is.number)) ∙ marks.guid)

pub contained_is_base : CoveredIsBase → ContainedIsCovered → ContainedIsBase
contained_is_base law covers pool sent source own state redactions lawful sound listed guids is whole some inside =
    contained_base law covers pool sent source own state redactions lawful sound listed guids is whole some inside

pub redacted_bases_match : CoveredIsBase → ContainedIsCovered → RedactedBasesMatch
redacted_bases_match law covers from sent source own state redactions receive into lawful sound listed guids is whole some none has =
    redacted_match law covers from sent source own state redactions lawful sound listed guids is whole some receive into none has
