-- Tokens that a send accepts.
use Rattle.std.proofs.Common.{◌≡◌, ◌≢◌, ℕ, ◌<◌, Bool, true, false, not, ◌&&◌, ◌==◌, List, length, Option, Some, None, is_some, option_map, Result, Ok, Err, Contains, bytes_eq, if◌then◌else◌, refl, sym, ap, ◌∙◌, find}
use Rattle.std.specs.Option.{ok_or, option_or}
use Rattle.std.proofs.lemmas.Bool.{and_from, and_parts, eq-eqb, eqb-true, false_from_ne_true, lt-ltb, ltb-true, ne_eqb, not_from_true}
use Rattle.zst_model.specs.declared.refusals.faults.Lack.TheVariants as lacks
use Rattle.zst_model.specs.declared.refusals.subjects.Name.TheVariants as names
use Rattle.zst_model.specs.declared.refusals.plan_fault.PlanFault.{PlanFault}
use Rattle.zst_model.specs.declared.refusals.plan_fault.PlanFault.TheVariants as plans
use Rattle.zst_model.specs.pools.Ancestry.{Source, OfSnapshot, OfBookmark}
use Rattle.zst_model.specs.pools.Pool.{Pool, Snapshot, Bookmark, IsPool}
use Rattle.zst_model.specs.pools.Soundness.{Sound}
use Rattle.zst_model.specs.sends.Headers.{Sent}
use Rattle.zst_model.specs.sends.SendPlan.{comes_before, has_guids, if_no_relay, if_redaction, kind_of, name_of_source, redacts_snapshot, sent_of}
use Rattle.zst_model.specs.states.AppliedItems.{◌>>=◌}
use Rattle.zst_model.proofs.OrderLaws.{bytes_same, same_bytes}
use Rattle.zst_laws.specs.LineageRefusals.{NoneHolds}
use Rattle.zst_laws.specs.SendPlans.{IsOnce}
use Rattle.zst_laws.proofs.pools.SendPlans.{before_tested}
use Rattle.zst_laws.proofs.pools.StepRefusals.{passed}
use Rattle.zst_token.specs.declared.token.Token.{Token}
use Rattle.zst_plan.specs.AcceptedStreams.{IsFirst}
use Rattle.zst_plan.specs.AcceptedTokens.{FromIsAbsent, HasNoFrom, IsFirstTo, IsMarkFrom, IsMarkOf, IsRedactedBy, ByNone, ByMark, IsSentFrom, FromNothing, FromSnapshot, FromMark, IsSnapshotFrom, MarkIsAbsent, SentIsAbsent, TokensAreAccepted}
use Rattle.zst_plan.specs.ResumePlan.{find_from, find_mark, find_marked, find_to, first_bookmark, first_from, first_snapshot, is_from, is_marked, no_guid, resumed_send}
use Rattle.zst_plan.proofs.FirstElements.{first_found, first_there, none_found}
use Rattle.zst_plan.proofs.PlanSteps.{kind_found}

module _ (token : Token) (pool : Pool) where
  -- ---- what is sent

  abbrev then_marked : Snapshot → Option Source → Result (Option Bookmark) PlanFault → Result Sent PlanFault
  then_marked sent source found = found >>= (λ redaction. sent_of pool sent source redaction)

  abbrev then_from : Snapshot → Result (Option Source) PlanFault → Result Sent PlanFault
  then_from sent found = found >>= (λ source. then_marked sent source (find_marked token pool sent))

  abbrev to_found : Option Snapshot → Result Snapshot PlanFault
  to_found found = ok_or found (no_guid token.to)

  abbrev then_to : Result Snapshot PlanFault → Result Sent PlanFault
  then_to found = found >>= (λ sent. then_from sent (find_from token pool sent))

  sent_by : resumed_send token pool ≡ then_to (find_to token pool)
  unfolding resumed_send
  sent_by = refl

  sent_found : (sent : Snapshot) → IsFirstTo token pool sent → find_to token pool ≡ Ok sent
  sent_found sent first =
      ap to_found
      (first_found (λ s. s.guid == token.to) (λ (s : Snapshot). s.guid ≡ token.to) pool.snapshots (λ s k e. eqb-true s.guid token.to e) sent (eq-eqb sent.guid token.to first.holds) first)

  -- ---- what it is from

  module _ (lawful : IsPool pool) (sound : Sound pool) (sent : Snapshot) (there : Contains pool.snapshots sent) where
    pub snapshot_is : (s : Snapshot) → Contains pool.snapshots s → is_from token pool sent (OfSnapshot s) ≡ true → IsSnapshotFrom token pool sent s
    snapshot_is s k e =
        let both = and_parts (s.guid == token.from) (bytes_eq s.redact token.from_redact && comes_before pool (OfSnapshot s) sent) e in
        let rest = and_parts (bytes_eq s.redact token.from_redact) (comes_before pool (OfSnapshot s) sent) both.1 in
        record {
          guid = eqb-true s.guid token.from both.0;
          redact = same_bytes s.redact token.from_redact rest.0;
          before = (before_tested pool (OfSnapshot s) sent lawful sound k there).0 rest.1;
        }

    pub mark_is : (b : Bookmark) → Contains pool.bookmarks b → is_from token pool sent (OfBookmark b) ≡ true → IsMarkFrom token pool sent b
    mark_is b k e =
        let both = and_parts (b.guid == token.from) (bytes_eq b.redact token.from_redact && comes_before pool (OfBookmark b) sent) e in
        let rest = and_parts (bytes_eq b.redact token.from_redact) (comes_before pool (OfBookmark b) sent) both.1 in
        record {
          guid = eqb-true b.guid token.from both.0;
          redact = same_bytes b.redact token.from_redact rest.0;
          before = (before_tested pool (OfBookmark b) sent lawful sound k there).0 rest.1;
        }

    snapshot_before : (s : Snapshot) → Contains pool.snapshots s → IsSnapshotFrom token pool sent s → comes_before pool (OfSnapshot s) sent ≡ true
    snapshot_before s k is = (before_tested pool (OfSnapshot s) sent lawful sound k there).1 is.before

    mark_before : (b : Bookmark) → Contains pool.bookmarks b → IsMarkFrom token pool sent b → comes_before pool (OfBookmark b) sent ≡ true
    mark_before b k is = (before_tested pool (OfBookmark b) sent lawful sound k there).1 is.before

    pub snapshot_passes : (s : Snapshot) → Contains pool.snapshots s → IsSnapshotFrom token pool sent s → is_from token pool sent (OfSnapshot s) ≡ true
    snapshot_passes s k is =
        and_from (s.guid == token.from) (bytes_eq s.redact token.from_redact && comes_before pool (OfSnapshot s) sent) (eq-eqb s.guid token.from is.guid)
        (and_from (bytes_eq s.redact token.from_redact) (comes_before pool (OfSnapshot s) sent) (bytes_same s.redact token.from_redact is.redact) (snapshot_before s k is))

    pub mark_passes : (b : Bookmark) → Contains pool.bookmarks b → IsMarkFrom token pool sent b → is_from token pool sent (OfBookmark b) ≡ true
    mark_passes b k is =
        and_from (b.guid == token.from) (bytes_eq b.redact token.from_redact && comes_before pool (OfBookmark b) sent) (eq-eqb b.guid token.from is.guid)
        (and_from (bytes_eq b.redact token.from_redact) (comes_before pool (OfBookmark b) sent) (bytes_same b.redact token.from_redact is.redact) (mark_before b k is))

    first_snapshot_there : (s : Snapshot) → IsFirst (IsSnapshotFrom token pool sent) pool.snapshots s → Contains pool.snapshots s
    first_snapshot_there s first = first_there (IsSnapshotFrom token pool sent) pool.snapshots s first

    first_mark_there : (b : Bookmark) → IsFirst (IsMarkFrom token pool sent) pool.bookmarks b → Contains pool.bookmarks b
    first_mark_there b first = first_there (IsMarkFrom token pool sent) pool.bookmarks b first

    snapshot_found : (s : Snapshot) → IsFirst (IsSnapshotFrom token pool sent) pool.snapshots s → first_snapshot token pool sent ≡ Some (OfSnapshot s)
    snapshot_found s first =
        ap (λ (o : Option Snapshot). option_map OfSnapshot o)
        (first_found (λ x. is_from token pool sent (OfSnapshot x)) (IsSnapshotFrom token pool sent) pool.snapshots snapshot_is s
        (snapshot_passes s (first_snapshot_there s first) first.holds) first)

    no_snapshot : NoneHolds (IsSnapshotFrom token pool sent) pool.snapshots → first_snapshot token pool sent ≡ None
    no_snapshot none =
        ap (λ (o : Option Snapshot). option_map OfSnapshot o)
        (none_found (λ x. is_from token pool sent (OfSnapshot x)) (IsSnapshotFrom token pool sent) pool.snapshots snapshot_is none)

    mark_found : (b : Bookmark) → IsFirst (IsMarkFrom token pool sent) pool.bookmarks b → first_bookmark token pool sent ≡ Some (OfBookmark b)
    mark_found b first =
        ap (λ (o : Option Bookmark). option_map OfBookmark o)
        (first_found (λ x. is_from token pool sent (OfBookmark x)) (IsMarkFrom token pool sent) pool.bookmarks mark_is b
        (mark_passes b (first_mark_there b first) first.holds) first)

    no_mark : NoneHolds (IsMarkFrom token pool sent) pool.bookmarks → first_bookmark token pool sent ≡ None
    no_mark none =
        ap (λ (o : Option Bookmark). option_map OfBookmark o)
        (none_found (λ x. is_from token pool sent (OfBookmark x)) (IsMarkFrom token pool sent) pool.bookmarks mark_is none)

    abbrev from_found : Option Source → Result (Option Source) PlanFault
    from_found found = ok_or (option_map Some found) (no_guid token.from)

    abbrev if_nothing : Bool → Result (Option Source) PlanFault
    if_nothing zero = if zero then Ok None else from_found (first_from token pool sent)

    from_source : (found : Option Source) → token.from ≢ 0 → first_from token pool sent ≡ found → find_from token pool sent ≡ from_found found
    from_source found some is = ap if_nothing (ne_eqb token.from 0 some) ∙ ap from_found is

    source_found : {source : Option Source} → IsSentFrom token pool sent source → find_from token pool sent ≡ Ok source
    source_found (FromNothing zero) = ap if_nothing (eq-eqb token.from 0 zero)
    source_found (FromSnapshot s some first) =
        from_source (Some (OfSnapshot s)) some (ap (λ (o : Option Source). option_or o (first_bookmark token pool sent)) (snapshot_found s first))
    source_found (FromMark b some none first) =
        from_source (Some (OfBookmark b)) some
        (ap (λ (o : Option Source). option_or o (first_bookmark token pool sent)) (no_snapshot none) ∙ mark_found b first)

    no_source : token.from ≢ 0 → HasNoFrom token pool sent → find_from token pool sent ≡ Err (no_guid token.from)
    no_source some none =
        from_source None some
        (ap (λ (o : Option Source). option_or o (first_bookmark token pool sent)) (no_snapshot none.snapshots) ∙ no_mark none.bookmarks)

    -- E6 and E19 pass it
    abbrev past_source : Option Source → Option Bookmark → Result Sent PlanFault
    past_source source redaction = if_redaction sent redaction (if_no_relay sent redaction (Ok (record { snapshot = sent; kind = kind_of pool sent; source = source; redaction = redaction })))

    stands : {source : Option Source} (redaction : Option Bookmark) → IsSentFrom token pool sent source → sent_of pool sent source redaction ≡ past_source source redaction
    stands redaction (FromNothing zero) = refl
    stands redaction (FromSnapshot s some first) =
        passed (not (comes_before pool (OfSnapshot s) sent)) (plans.NotAncestor (names.Snapshot sent.name) (name_of_source (OfSnapshot s))) (past_source (Some (OfSnapshot s)) redaction)
        (not_from_true (comes_before pool (OfSnapshot s) sent) (snapshot_before s (first_snapshot_there s first) first.holds))
    stands redaction (FromMark b some none first) =
        passed (not (comes_before pool (OfBookmark b) sent)) (plans.NotAncestor (names.Snapshot sent.name) (name_of_source (OfBookmark b))) (past_source (Some (OfBookmark b)) redaction)
        (not_from_true (comes_before pool (OfBookmark b) sent) (mark_before b (first_mark_there b first) first.holds))

  -- ---- the redaction bookmark

  pub mark_of : (b : Bookmark) → is_marked token b ≡ true → IsMarkOf token b
  mark_of b e =
      let both = and_parts (b.guid == token.to) (bytes_eq b.redact token.redact) e in
      (eqb-true b.guid token.to both.0, same_bytes b.redact token.redact both.1)

  pub mark_is_found : (b : Bookmark) → IsMarkOf token b → is_marked token b ≡ true
  mark_is_found b is =
      and_from (b.guid == token.to) (bytes_eq b.redact token.redact) (eq-eqb b.guid token.to is.0) (bytes_same b.redact token.redact is.1)

  abbrev marked_found : Option Bookmark → Result (Option Bookmark) PlanFault
  marked_found found = ok_or (option_map Some found) (no_guid token.to)

  abbrev if_marked : Bool → Result (Option Bookmark) PlanFault
  if_marked some = if some then marked_found (find (is_marked token) pool.bookmarks) else Err (no_guid token.to)

  abbrev if_other : Bool → Result (Option Bookmark) PlanFault
  if_other own = if own then Ok None else find_mark token pool

  -- what is sent has other redaction guids
  are_others : (sent : Snapshot) → token.redact ≢ sent.redact → bytes_eq sent.redact token.redact ≡ false
  are_others sent other = false_from_ne_true (bytes_eq sent.redact token.redact) (λ e. other (sym (same_bytes sent.redact token.redact e)))

  redaction_found : {redaction : Option Bookmark} (sent : Snapshot) → IsRedactedBy token pool sent redaction → find_marked token pool sent ≡ Ok redaction
  redaction_found sent (ByNone own) = ap if_other (bytes_same sent.redact token.redact (sym own))
  redaction_found sent (ByMark b other some first) =
      ap if_other (are_others sent other)
      ∙ ap if_marked (lt-ltb 0 (length token.redact) some)
      ∙ ap marked_found
      (first_found (is_marked token) (IsMarkOf token) pool.bookmarks (λ x k e. mark_of x e) b (mark_is_found b first.holds) first)

  no_mark_of : (0 < length token.redact → NoneHolds (IsMarkOf token) pool.bookmarks) → find_mark token pool ≡ Err (no_guid token.to)
  no_mark_of none = go (has_guids token.redact) refl
    where
      go : (some : Bool) → has_guids token.redact ≡ some → find_mark token pool ≡ Err (no_guid token.to)
      go true e =
          ap if_marked e
          ∙ ap marked_found (none_found (is_marked token) (IsMarkOf token) pool.bookmarks (λ x k e. mark_of x e) (none (ltb-true 0 (length token.redact) e)))
      go false e = ap if_marked e

  no_redaction : (sent : Snapshot) → token.redact ≢ sent.redact → (0 < length token.redact → NoneHolds (IsMarkOf token) pool.bookmarks)
      → find_marked token pool sent ≡ Err (no_guid token.to)
  no_redaction sent other none = ap if_other (are_others sent other) ∙ no_mark_of none

  -- E7 passes it
  redacts_it : {redaction : Option Bookmark} (sent : Snapshot) (rest : Result Sent PlanFault) → IsFirstTo token pool sent → IsRedactedBy token pool sent redaction
      → if_redaction sent redaction rest ≡ rest
  redacts_it sent rest first (ByNone own) = refl
  redacts_it sent rest first (ByMark b other some mark) =
      passed (not (redacts_snapshot b sent)) (plans.NotRedactionOf b.name sent.name) rest
      (not_from_true (redacts_snapshot b sent)
      (and_from (has_guids b.redact) (b.guid == sent.guid)
      (ap (λ (gs : List ℕ). has_guids gs) mark.holds.1 ∙ lt-ltb 0 (length token.redact) some)
      (eq-eqb b.guid sent.guid (mark.holds.0 ∙ sym first.holds))))

-- E19 passes what isn't redacted once more
passes_once : (sent : Snapshot) (redaction : Option Bookmark) → IsOnce sent redaction → (has_guids sent.redact && is_some redaction) ≡ false
passes_once sent None once = go (has_guids sent.redact)
  where
    go : (some : Bool) → (some && false) ≡ false
    go true = refl
    go false = refl
passes_once sent (Some b) once = ap (λ (gs : List ℕ). has_guids gs && true) (once b refl)

pub accepted_so : (token : Token) (pool : Pool) (sent : Snapshot) (source : Option Source) (redaction : Option Bookmark)
    → IsPool pool → Sound pool → IsFirstTo token pool sent → IsOnce sent redaction → IsSentFrom token pool sent source → IsRedactedBy token pool sent redaction
    → resumed_send token pool ≡ Ok (record { snapshot = sent; kind = kind_of pool sent; source = source; redaction = redaction })
accepted_so token pool sent source redaction lawful sound first once from marked =
    let there = first_there (λ (s : Snapshot). s.guid ≡ token.to) pool.snapshots sent first in
    let relay : Result Sent PlanFault = Ok (record { snapshot = sent; kind = kind_of pool sent; source = source; redaction = redaction }) in
    sent_by token pool
    ∙ ap (then_to token pool) (sent_found token pool sent first)
    ∙ ap (then_from token pool sent) (source_found token pool lawful sound sent there from)
    ∙ ap (then_marked token pool sent source) (redaction_found token pool sent marked)
    ∙ stands token pool lawful sound sent there redaction from
    ∙ redacts_it token pool sent (if_no_relay sent redaction relay) first marked
    ∙ passed (has_guids sent.redact && is_some redaction) (plans.Unsupported lacks.Relay) relay (passes_once sent redaction once)

pub accepted : TokensAreAccepted
accepted token pool sent source redaction dataset lawful sound first once from marked found =
    accepted_so token pool sent source redaction lawful sound first once from marked
    ∙ ap (λ (kind : ℕ). Ok (record { snapshot = sent; kind = kind; source = source; redaction = redaction })) (kind_found pool sent dataset found)

pub sent_absent : SentIsAbsent
sent_absent token pool none =
    sent_by token pool
    ∙ ap (λ (o : Option Snapshot). then_to token pool (to_found token pool o))
    (none_found (λ s. s.guid == token.to) (λ (s : Snapshot). s.guid ≡ token.to) pool.snapshots (λ s k e. eqb-true s.guid token.to e) none)

pub from_absent : FromIsAbsent
from_absent token pool sent lawful sound first some none =
    let there = first_there (λ (s : Snapshot). s.guid ≡ token.to) pool.snapshots sent first in
    sent_by token pool
    ∙ ap (then_to token pool) (sent_found token pool sent first)
    ∙ ap (then_from token pool sent) (no_source token pool lawful sound sent there some none)

pub mark_absent : MarkIsAbsent
mark_absent token pool sent source lawful sound first from other none =
    let there = first_there (λ (s : Snapshot). s.guid ≡ token.to) pool.snapshots sent first in
    sent_by token pool
    ∙ ap (then_to token pool) (sent_found token pool sent first)
    ∙ ap (then_from token pool sent) (source_found token pool lawful sound sent there from)
    ∙ ap (then_marked token pool sent source) (no_redaction token pool sent other none)
