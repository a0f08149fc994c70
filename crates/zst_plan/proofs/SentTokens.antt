-- The token of what was sent.
use Rattle.std.proofs.Common.{◌≡◌, ◌≢◌, ℕ, ◌<◌, ◌^◌, ◌==◌, List, [], length, Option, Some, None, Ok, Contains, refl, sym, ap, ◌∙◌, subst, arith, find}
use Rattle.std.specs.Option.{IfSome}
use Rattle.std.proofs.lemmas.Bool.{eq-eqb, eqb-true, true≢false}
use Rattle.std.proofs.lemmas.List.Elements.{All-contains}
use Rattle.zst_model.specs.declared.sends.ask.SendAsk.{SendAsk}
use Rattle.zst_model.specs.declared.sends.header.Point.{Point}
use Rattle.zst_model.specs.fields.Guids.{IsGuidSet}
use Rattle.zst_model.specs.fields.Lists.{IsRunList}
use Rattle.zst_model.specs.pools.Ancestry.{Source, OfSnapshot, OfBookmark, IsIn}
use Rattle.zst_model.specs.pools.Pool.{Pool, Snapshot, Bookmark, IsGuid, IsPool}
use Rattle.zst_model.specs.pools.Soundness.{Sound}
use Rattle.zst_model.specs.sends.Headers.{IsRedactionOf, Sent, from_guid, header_of, redaction_guids, source_guids}
use Rattle.zst_model.specs.sends.SendPlan.{kind_of, send_plan}
use Rattle.zst_model.specs.states.State.{IsState}
use Rattle.zst_model.proofs.FoundElements.{found_passes, none_passes}
use Rattle.zst_laws.specs.LineageRefusals.{NoneHolds}
use Rattle.zst_laws.specs.RedactionLists.{HaveOwnGuids}
use Rattle.zst_laws.specs.SendPlans.{IsOnce, StandsBeforeSnapshot}
use Rattle.zst_laws.proofs.pools.SendPlans.{plan_has_found, planned_of_pool}
use Rattle.zst_token.specs.PartialToken.{token_for}
use Rattle.zst_token.specs.declared.token.Token.{Token}
use Rattle.zst_plan.specs.AcceptedStreams.{IsFirst}
use Rattle.zst_plan.specs.AcceptedTokens.{ByMark, ByNone, FromMark, FromNothing, FromSnapshot, IsAgain, IsFirstTo, IsMarkFrom, IsMarkOf, IsRedactedBy, IsSentFrom, IsSnapshotFrom, SendsHaveTokens}
use Rattle.zst_plan.specs.ResumePlan.{is_from, is_marked, resumed_send}
use Rattle.zst_plan.proofs.AcceptedTokens.{accepted_so, mark_is, mark_is_found, mark_of, mark_passes, snapshot_is, snapshot_passes}
use Rattle.zst_plan.proofs.FirstElements.{found_is_first, none_holds}

-- a guid isn't 0
is_some_guid : (guid : ℕ) → IsGuid guid → guid ≢ 0
is_some_guid guid is zero = let some = is.0 in omega (arith, some, zero)

module _ (token : Token) (pool : Pool) (lawful : IsPool pool) (sound : Sound pool) (sent : Snapshot) (there : Contains pool.snapshots sent) where
  -- what was sent is the first with its guid
  sent_is_first : HaveOwnGuids pool → token.to ≡ sent.guid → IsFirstTo token pool sent
  sent_is_first own to = go (find (λ s. s.guid == token.to) pool.snapshots) refl
    where
      go : (o : Option Snapshot) → find (λ s. s.guid == token.to) pool.snapshots ≡ o → IsFirstTo token pool sent
      go None e = absurd (true≢false (sym (eq-eqb sent.guid token.to (sym to)) ∙ none_passes (λ (s : Snapshot). s.guid == token.to) pool.snapshots e sent there))
      go (Some s) e =
          let found = found_passes (λ (x : Snapshot). x.guid == token.to) pool.snapshots s e in
          let same : s ≡ sent = own s sent found.0 there (eqb-true s.guid token.to found.1 ∙ to) in
          subst (IsFirstTo token pool) same
          (found_is_first (λ (x : Snapshot). x.guid == token.to) (λ (x : Snapshot). x.guid ≡ token.to) pool.snapshots
          (λ y k passes. eqb-true y.guid token.to passes) (λ y k is. eq-eqb y.guid token.to is) s e)

-- what is sent for a token is from the same guid as this source, with the same redaction guids
record HasFrom (token : Token) (pool : Pool) (sent : Snapshot) (source : Option Source) : Type 0 where
  other : Option Source
  sent_from : IsSentFrom token pool sent other
  guid : from_guid other ≡ from_guid source
  guids : source_guids other ≡ source_guids source

-- and is for the same redaction guids as with this bookmark, or with none
record HasMark (token : Token) (pool : Pool) (sent : Snapshot) (redaction : Option Bookmark) : Type 0 where
  other : Option Bookmark
  redacted_by : IsRedactedBy token pool sent other
  once : IsOnce sent other
  guids : redaction_guids sent other ≡ redaction_guids sent redaction

module _ (token : Token) (pool : Pool) (lawful : IsPool pool) (sound : Sound pool) (sent : Snapshot) (there : Contains pool.snapshots sent) where
  first_from : (s : Snapshot) → find (λ x. is_from token pool sent (OfSnapshot x)) pool.snapshots ≡ Some s → IsFirst (IsSnapshotFrom token pool sent) pool.snapshots s
  first_from s e =
      found_is_first (λ x. is_from token pool sent (OfSnapshot x)) (IsSnapshotFrom token pool sent) pool.snapshots
      (snapshot_is token pool lawful sound sent there) (snapshot_passes token pool lawful sound sent there) s e

  none_from : find (λ x. is_from token pool sent (OfSnapshot x)) pool.snapshots ≡ None → NoneHolds (IsSnapshotFrom token pool sent) pool.snapshots
  none_from e = none_holds (λ x. is_from token pool sent (OfSnapshot x)) (IsSnapshotFrom token pool sent) pool.snapshots (snapshot_passes token pool lawful sound sent there) e

  first_mark : (b : Bookmark) → find (λ x. is_from token pool sent (OfBookmark x)) pool.bookmarks ≡ Some b → IsFirst (IsMarkFrom token pool sent) pool.bookmarks b
  first_mark b e =
      found_is_first (λ x. is_from token pool sent (OfBookmark x)) (IsMarkFrom token pool sent) pool.bookmarks
      (mark_is token pool lawful sound sent there) (mark_passes token pool lawful sound sent there) b e

  none_mark : find (λ x. is_from token pool sent (OfBookmark x)) pool.bookmarks ≡ None → NoneHolds (IsMarkFrom token pool sent) pool.bookmarks
  none_mark e = none_holds (λ x. is_from token pool sent (OfBookmark x)) (IsMarkFrom token pool sent) pool.bookmarks (mark_passes token pool lawful sound sent there) e

  -- from a snapshot
  from_snapshot : (s : Snapshot) → Contains pool.snapshots s → StandsBeforeSnapshot pool (OfSnapshot s) sent → token.from ≡ s.guid → token.from_redact ≡ s.redact
      → HasFrom token pool sent (Some (OfSnapshot s))
  from_snapshot s here before from redact = go (find (λ x. is_from token pool sent (OfSnapshot x)) pool.snapshots) refl
    where
      some : token.from ≢ 0
      some zero = is_some_guid s.guid (All-contains (λ x. IsGuid x.guid × IsGuidSet x.redact × IsState x.objects.state × (x.time < 2 ^ 64)) pool.snapshots s lawful.snapshots here).0 (sym from ∙ zero)

      go : (o : Option Snapshot) → find (λ x. is_from token pool sent (OfSnapshot x)) pool.snapshots ≡ o → HasFrom token pool sent (Some (OfSnapshot s))
      go None e = absurd (none_from e s here (record { guid = sym from; redact = sym redact; before = before }))
      go (Some other) e =
          let first = first_from other e in
          record {
            other = Some (OfSnapshot other);
            sent_from = FromSnapshot other some first;
            guid = first.holds.guid ∙ from;
            guids = first.holds.redact ∙ redact;
          }

  -- from a bookmark, in place of which a snapshot may be found
  from_bookmark : (b : Bookmark) → Contains pool.bookmarks b → StandsBeforeSnapshot pool (OfBookmark b) sent → token.from ≡ b.guid → token.from_redact ≡ b.redact
      → HasFrom token pool sent (Some (OfBookmark b))
  from_bookmark b here before from redact = go (find (λ x. is_from token pool sent (OfSnapshot x)) pool.snapshots) refl
    where
      some : token.from ≢ 0
      some zero = is_some_guid b.guid (All-contains (λ x. IsGuid x.guid × IsGuidSet x.redact × IsRunList x.runs × (x.time < 2 ^ 64)) pool.bookmarks b lawful.bookmarks here).0 (sym from ∙ zero)

      at_mark : NoneHolds (IsSnapshotFrom token pool sent) pool.snapshots → (o : Option Bookmark) → find (λ x. is_from token pool sent (OfBookmark x)) pool.bookmarks ≡ o
          → HasFrom token pool sent (Some (OfBookmark b))
      at_mark none None e = absurd (none_mark e b here (record { guid = sym from; redact = sym redact; before = before }))
      at_mark none (Some other) e =
          let first = first_mark other e in
          record {
            other = Some (OfBookmark other);
            sent_from = FromMark other some none first;
            guid = first.holds.guid ∙ from;
            guids = first.holds.redact ∙ redact;
          }

      go : (o : Option Snapshot) → find (λ x. is_from token pool sent (OfSnapshot x)) pool.snapshots ≡ o → HasFrom token pool sent (Some (OfBookmark b))
      go None e = at_mark (none_from e) (find (λ x. is_from token pool sent (OfBookmark x)) pool.bookmarks) refl
      go (Some other) e =
          let first = first_from other e in
          record {
            other = Some (OfSnapshot other);
            sent_from = FromSnapshot other some first;
            guid = first.holds.guid ∙ from;
            guids = first.holds.redact ∙ redact;
          }

  -- from any source
  from_source : (source : Option Source) → IfSome source (IsIn pool) → IfSome source (λ s. StandsBeforeSnapshot pool s sent)
      → token.from ≡ from_guid source → token.from_redact ≡ source_guids source → HasFrom token pool sent source
  from_source None here before from redact = record { other = None; sent_from = FromNothing from; guid = refl; guids = refl }
  from_source (Some (OfSnapshot s)) here before from redact = from_snapshot s here before from redact
  from_source (Some (OfBookmark b)) here before from redact = from_bookmark b here before from redact

module _ (token : Token) (pool : Pool) where
  -- the redaction bookmark, of a snapshot that has no redaction guids itself
  with_mark : (sent : Snapshot) (b : Bookmark) → Contains pool.bookmarks b → 0 < length b.redact → b.guid ≡ token.to → token.redact ≡ b.redact → sent.redact ≡ []
      → HasMark token pool sent (Some b)
  with_mark sent b here some guid redact whole = go (find (is_marked token) pool.bookmarks) refl
    where
      has : 0 < length token.redact
      has = subst (λ (gs : List ℕ). 0 < length gs) (sym redact) some

      others : token.redact ≢ sent.redact
      others same = let none : length token.redact ≡ 0 = ap (λ (gs : List ℕ). length gs) (same ∙ whole) in let more = has in omega (arith, none, more)

      go : (o : Option Bookmark) → find (is_marked token) pool.bookmarks ≡ o → HasMark token pool sent (Some b)
      go None e = absurd (none_holds (is_marked token) (IsMarkOf token) pool.bookmarks (λ y k is. mark_is_found token pool y is) e b here (guid, sym redact))
      go (Some other) e =
          let first = found_is_first (is_marked token) (IsMarkOf token) pool.bookmarks (λ y k passes. mark_of token pool y passes) (λ y k is. mark_is_found token pool y is) other e in
          record {
            other = Some other;
            redacted_by = ByMark other others has first;
            once = λ bookmark given. whole;
            guids = first.holds.1 ∙ redact;
          }

  marked_by : (sent : Snapshot) (redaction : Option Bookmark) → IfSome redaction (IsRedactionOf pool sent) → IsOnce sent redaction → token.to ≡ sent.guid
      → token.redact ≡ redaction_guids sent redaction → HasMark token pool sent redaction
  marked_by sent None is once to redact = record { other = None; redacted_by = ByNone redact; once = once; guids = refl }
  marked_by sent (Some b) is once to redact = with_mark sent b is.there is.guids (is.guid ∙ sym to) redact (once b refl)

-- a token with the guids of what was sent
record IsTokenOf (token : Token) (sent : Sent) : Type 0 where
  to : token.to ≡ sent.snapshot.guid
  from : token.from ≡ from_guid sent.source
  redact : token.redact ≡ redaction_guids sent.snapshot sent.redaction
  from_redact : token.from_redact ≡ source_guids sent.source

again_sent : (ask : SendAsk) (pool : Pool) (sent : Sent) (token : Token) → IsPool pool → Sound pool → HaveOwnGuids pool → send_plan ask pool ≡ Ok sent
    → IsTokenOf token sent → (again : Sent) × (resumed_send token pool ≡ Ok again) × IsAgain sent again
again_sent ask pool sent token lawful sound own h is =
    let planned = planned_of_pool ask pool sent lawful h in
    let found = plan_has_found ask pool sent h in
    let there = planned.is_of.snapshot in
    let first = sent_is_first token pool lawful sound sent.snapshot there own is.to in
    let from = from_source token pool lawful sound sent.snapshot there sent.source planned.is_of.source planned.before is.from is.from_redact in
    let mark = marked_by token pool sent.snapshot sent.redaction planned.is_of.redaction planned.once is.to is.redact in
    let made : Sent = record { snapshot = sent.snapshot; kind = kind_of pool sent.snapshot; source = from.other; redaction = mark.other } in
    let taken = accepted_so token pool sent.snapshot from.other mark.other lawful sound first mark.once from.sent_from mark.redacted_by in
    (made, taken, record { snapshot = refl; kind = sym found.kind; from = from.guid; from_redact = from.guids; redact = mark.guids })

is_token_of : (sent : Sent) (point : Point) → IsTokenOf (token_for (header_of sent) point) sent
unfolding token_for
is_token_of sent point = record { to = refl; from = refl; redact = refl; from_redact = refl }

pub sends_have_tokens : SendsHaveTokens
sends_have_tokens ask pool sent point lawful sound own h = again_sent ask pool sent (token_for (header_of sent) point) lawful sound own h (is_token_of sent point)
