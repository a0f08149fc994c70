-- What is sent on of what was received gives the same.
use Rattle.std.proofs.Common.{◌≡◌, ℕ, Bool, true, false, List, [], Option, Some, None, option_map, refl, sym, ap, ◌∙◌, subst}
use Rattle.std.proofs.Math.Path.{fun_ext}
use Rattle.std.specs.Prelude.{Contains, if◌then◌else◌}
use Rattle.zst_laws.specs.Meanings.{RedactsUserData}
use Rattle.zst_laws.specs.SendPlans.{PlansAreOfPool}
use Rattle.zst_model.proofs.InsertedLaws.{inserted_has_row}
use Rattle.zst_model.specs.declared.sends.ask.SendAsk.{SendAsk}
use Rattle.zst_model.specs.pools.Pool.{Bookmark, Pool, Snapshot, snapshot_is_before}
use Rattle.zst_model.specs.sends.Headers.{IsOf, Sent, choice_of, header_of, redaction_guids, redaction_list}
use Rattle.zst_model.specs.sends.Inclusion.{Pairs, no_pairs}
use Rattle.zst_model.specs.sends.Target.{CanRedact, MayRedact, redacted, redacted_object}
use Rattle.zst_model.specs.states.State.{Object, Redacted, State, is_user_data}
use Rattle.zst_stream.specs.Items.{IsUnredacted}
use Rattle.zst_replication.specs.MatchingBases.{IsWithin, SentCanBeSent}
use Rattle.zst_replication.specs.Outcomes.{HasOneMore, base_name}
use Rattle.zst_replication.specs.Relays.{GivesAlike, IsPassedOn, LeftIsSentOn, RelayedIsReceived}
use Rattle.zst_replication.specs.Replicas.{SentIsReceived, sent_state}
use Rattle.zst_replication.proofs.RedactedBases.{unlisted_may}
use Rattle.zst_replication.proofs.SendableStreams.{unmarked}

-- ---- what a redaction leaves

-- a state of which no pairs are redacted is as it was
none_in : (o : Option Object) (k : ℕ) → option_map (redacted_object (no_pairs k)) o ≡ o
none_in None k = refl
none_in (Some object) k = refl

none_redacted : (state : State) → redacted state no_pairs ≡ state
none_redacted state = fun_ext (λ k. none_in (state k) k)

-- so is what is sent without a redaction bookmark
unlisted : (sent : Sent) → sent.redaction ≡ None → sent_state sent ≡ sent.snapshot.objects.state
unlisted sent none = ap (λ (o : Option Bookmark). redacted sent.snapshot.objects.state (redaction_list o)) none ∙ none_redacted sent.snapshot.objects.state

-- what may be redacted leaves only user data redacted
object_user : (old : Object) (pairs : ℕ → Bool) (i : ℕ) → MayRedact old pairs → (redacted_object pairs old).blocks i ≡ Redacted → is_user_data old.attr ≡ true
object_user old pairs i may gone = go (pairs i) refl gone
  where
    go : (t : Bool) → pairs i ≡ t → (if t then Redacted else old.blocks i) ≡ Redacted → is_user_data old.attr ≡ true
    go true listed block = (may.listed i listed).0
    go false listed block = may.redacted i block

left_user : (state : State) (pairs : Pairs) → CanRedact state pairs → RedactsUserData (redacted state pairs)
left_user state pairs can k i object there gone = go (state k) refl there
  where
    go : (o : Option Object) → state k ≡ o → option_map (redacted_object (pairs k)) o ≡ Some object → is_user_data object.attr ≡ true
    go None is now = absurd (cc now)
    go (Some old) is now =
        let same : redacted_object (pairs k) old ≡ object = cc now in
        subst (λ (o : Object). is_user_data o.attr ≡ true) same
        (object_user old (pairs k) i (can k old is) (ap (λ (o : Object). o.blocks i) same ∙ gone))

-- where no redaction guids are stated, nothing of what is given is redacted
left_plain : (pool : Pool) (sent : Sent) → IsOf pool sent → IsWithin sent → (header_of sent).redact ≡ [] → IsUnredacted (sent_state sent)
left_plain pool sent of within none =
    subst (λ (s : State). IsUnredacted s) (sym (unlisted sent (unmarked pool sent.snapshot sent.redaction of.redaction none))) (within.plain none)

-- ---- what is sent on

module _ (from pool after : Pool) (target component : List ℕ) (base : Option (List ℕ)) (sent also : Sent) (of : IsOf from sent) (within : IsWithin sent)
    (more : HasOneMore pool after target component base (header_of sent) (sent_state sent)) (same : also.snapshot ≡ more.snapshot) (bare : also.redaction ≡ None)
  where
    state_left : also.snapshot.objects.state ≡ sent_state sent
    state_left = ap (λ (s : Snapshot). s.objects.state) same ∙ more.state_is

    guids_left : (header_of also).redact ≡ (header_of sent).redact
    guids_left = ap (λ (o : Option Bookmark). redaction_guids also.snapshot o) bare ∙ ap (λ (s : Snapshot). s.redact) same ∙ more.redact

    alike : GivesAlike sent also
    alike = record {
      state = unlisted also bare ∙ state_left;
      guids = guids_left;
      to = ap (λ (s : Snapshot). s.guid) same ∙ more.guid;
      time = ap (λ (s : Snapshot). s.time) same ∙ more.time;
    }

    also_within : IsWithin also
    also_within = record {
      may = unlisted_may also bare (subst (λ (s : State). RedactsUserData s) (sym state_left) (left_user sent.snapshot.objects.state (choice_of sent).redact within.may));
      plain = λ none. subst (λ (s : State). IsUnredacted s) (sym state_left) (left_plain from sent of within (sym guids_left ∙ none));
    }

pub left_sent_on : LeftIsSentOn
left_sent_on from pool after target component base sent also of within more same bare =
    (also_within from pool after target component base sent also of within more same bare, alike from pool after target component base sent also of within more same bare)

-- where no two snapshots have one guid, the one that has the guid of what was sent is the one that was received
left_by_guid : PlansAreOfPool → (pool after : Pool) (target component : List ℕ) (base : Option (List ℕ)) (sent also : Sent) (again : SendAsk)
    → (more : HasOneMore pool after target component base (header_of sent) (sent_state sent)) → IsPassedOn sent after again also → also.snapshot ≡ more.snapshot
left_by_guid plans pool after target component base sent also again more on =
    on.own_guids also.snapshot more.snapshot (plans again after also on.lawful on.planned).is_of.snapshot
    (subst (λ (ss : List Snapshot). Contains ss more.snapshot) (sym more.added) (inserted_has_row snapshot_is_before more.snapshot pool.snapshots))
    (on.same_guid ∙ sym more.guid)

pub relayed_received : PlansAreOfPool → SentCanBeSent → SentIsReceived → RelayedIsReceived
relayed_received plans can received first again from pool after third last sent also ask asked partial other pieces others lawful planned within one on two =
    let stands = received sent ask pool after partial pieces (can first from sent lawful planned within) one.lawful one.alone one.matches one.of_stream one.ends in
    let same = left_by_guid plans pool after ask.target partial.component (base_name stands.0) sent also again stands.2 on in
    let left =
    left_sent_on from pool after ask.target partial.component (base_name stands.0) sent also (plans first from sent lawful planned).is_of within stands.2 same on.unmarked in
    let next = received also asked third last other others (can again after also on.lawful on.planned left.0) two.lawful two.alone two.matches two.of_stream two.ends in (
      left.1,
      next.0,
      next.1,
      subst (λ (s : State). HasOneMore third last asked.target other.component (base_name next.0) (header_of also) s) left.1.state next.2,
    )
