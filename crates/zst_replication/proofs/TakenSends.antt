-- A receive of what was sent is refused by limits alone.
use Rattle.std.proofs.Common.{◌≡◌, ◌⊎◌, inl, inr, ℕ, ◌+◌, Bool, true, false, List, [], ◌∷◌, ◌++◌, nat_lt, length, Option, Some, None, Result, Ok, Err, refl, sym, ap, ◌∙◌, subst, cond, append_assoc, append-nil}
use Rattle.std.specs.List.{concat}
use Rattle.zst_apply.specs.AppliedRecords.{received_all}
use Rattle.zst_model.specs.declared.refusals.faults.Quantity.TheVariants as quantities
use Rattle.zst_model.specs.declared.refusals.refusal.Refusal.{Refusal}
use Rattle.zst_model.specs.declared.refusals.refusal.Refusal.TheVariants as refusals
use Rattle.zst_model.specs.declared.refusals.stream_fault.StreamFault.{StreamFault}
use Rattle.zst_model.specs.declared.sends.header.Point.{Point}
use Rattle.zst_model.specs.declared.states.item.Item.{Item}
use Rattle.zst_model.specs.pools.Limits.{most_partials}
use Rattle.zst_model.specs.pools.Pool.{Partial, Pool}
use Rattle.zst_model.specs.pools.Step.{count_datasets, last_number, most_datasets, most_snapshots}
use Rattle.zst_model.specs.sends.Headers.{Sent, choice_of, header_of, sent_view}
use Rattle.zst_model.specs.sends.Items.{items}
use Rattle.zst_model.specs.states.AppliedItems.{apply_all, unless}
use Rattle.zst_model.specs.states.State.{State}
use Rattle.zst_plan.specs.RecvPlan.{Begins, RecvPlan, recv_plan}
use Rattle.zst_plan.specs.declared.receive.RecvAsk.{RecvAsk}
use Rattle.zst_pool.specs.Partials.{next_commit, with_finished, with_partial}
use Rattle.zst_record.specs.Heads.{Covered}
use Rattle.zst_record.specs.Payload.{stated_point}
use Rattle.zst_recv.specs.ReceiveSteps as receive_steps
use Rattle.zst_recv.specs.ReceiveSteps.{Stage, Waits, Lives, Ends, Batch, put, put_at}
use Rattle.zst_stream.specs.Items.{items_by, items_of}
use Rattle.zst_stream.specs.NearItems.{AreNear, ItemsAreNear, Place}
use Rattle.zst_stream.specs.Reading.{Outcome, waiting, faulty, complete, reading}
use Rattle.zst_stream.proofs.ItemStreams.{say_append}
use Rattle.zst_send.specs.Sends.{begun, begun_text}
use Rattle.zst_replication.specs.FeedFaults.{EndsAtFault, IsPlanned, IsRefused}
use Rattle.zst_replication.specs.Grounds.{Grounds}
use Rattle.zst_replication.specs.Outcomes.{base_objects}
use Rattle.zst_replication.specs.Replicas.{AreOfStream, IsSendable}
use Rattle.zst_replication.specs.TakenSends.{IsOfCommit, SentIsTaken}
use Rattle.zst_replication.proofs.FeedFaults as refused_feeds
use Rattle.zst_replication.proofs.FeedFaults.{ToldAt, refused_by, told_at, told_uncovered}
use Rattle.zst_replication.proofs.FreshReceives.{begins_with}
use Rattle.zst_replication.proofs.KeptReceives.{applied_rest, concat_both}
use Rattle.zst_replication.proofs.ReplicaLemmas.{BeginsWith, covered_of, flags_of, further, is_view, streamed}
use Rattle.zst_replication.proofs.StreamRecords.{Stream}
use Rattle.zst_replication.proofs.TakenItems.{all_sized, all_taken, first_sized, front_applies, near_back, near_front, place_behind_all, place_of}

-- ---- a commit's refusals

abbrev OfCommit : Result Pool Refusal → Type 0
OfCommit (Ok pool) = Unit {0}
OfCommit (Err refusal) = IsOfCommit refusal

checked : (t : Bool) (refusal : Refusal) (rest : Result Pool Refusal) → IsOfCommit refusal → OfCommit rest → OfCommit (unless t refusal rest)
checked true refusal rest is on = is
checked false refusal rest is on = on

commit_limits : (pool : Pool) → OfCommit (next_commit pool)
commit_limits pool =
    checked (nat_lt most_partials (length pool.partials)) (refusals.Limit quantities.Partials most_partials) _ tt
    (checked (nat_lt most_datasets (count_datasets pool)) (refusals.Limit quantities.Datasets most_datasets) _ tt
    (checked (nat_lt most_snapshots (length pool.snapshots + length pool.partials)) (refusals.Limit quantities.Snapshots most_snapshots) _ tt
    (checked (nat_lt last_number (pool.number + 1)) (refusals.Limit quantities.Number last_number) (Ok (record pool { number = pool.number + 1 })) tt tt)))

put_limits : (batch : Batch) (pool : Pool) → OfCommit (put batch pool)
put_limits batch pool = go batch.taken
  where
    at : (s : Stage) → OfCommit (put_at batch.rolls s pool)
    at Waits = tt
    at (Lives flags partial) = commit_limits (with_partial batch.rolls partial pool)
    at (Ends partial) = commit_limits (with_finished partial pool)

    go : (t : Bool) → OfCommit (cond t (put_at batch.rolls batch.stage pool) (Ok pool))
    go true = at batch.stage
    go false = tt

-- ---- a receive of a send, from its beginning or from the point of a partial state

module _ (laws : Grounds) (near : ItemsAreNear) (sent : Sent) (at : Option Point) (can : IsSendable sent at) (ask : RecvAsk) (start : Pool) (state : State) (partial : Partial)
    (from : BeginsWith sent at ask start state partial) (plan : RecvPlan) (plans : recv_plan ask (begun sent at) start ≡ Ok plan) where
  abbrev whole_text : List ℕ
  whole_text = begun_text sent at

  abbrev sent_items : List Item
  sent_items = items (sent_view sent) (stated_point at)

  all_read : (reading whole_text).outcome ≡ complete
  all_read = (laws.reads (begun sent at) sent.snapshot.objects (choice_of sent) (stated_point at) can.stated).0

  complete_behind : (behind : List ℕ) → (reading (whole_text ++ behind)).outcome ≡ complete
  complete_behind behind = go (laws.fronts whole_text behind).outcome
    where
      go : {others : List Covered} {o : Outcome} → ((reading whole_text).outcome ≡ waiting) ⊎ (((reading whole_text).outcome ≡ o) × (others ≡ [])) → o ≡ complete
      go (inl waits) = absurd (let both = sym waits ∙ all_read in cc)
      go (inr same) = sym same.0 ∙ all_read

  -- no front of it, with whatever stands behind it, has a fault
  pub no_fault : (text unread behind : List ℕ) → text ++ unread ≡ whole_text ++ behind → (fault : StreamFault) → (reading text).outcome ≡ faulty fault → ⊥
  no_fault text unread behind reads_on fault e = go (laws.fronts text unread).outcome (ap (λ (t : List ℕ). (reading t).outcome) reads_on ∙ complete_behind behind)
    where
      go : {others : List Covered} {o : Outcome} → ((reading text).outcome ≡ waiting) ⊎ (((reading text).outcome ≡ o) × (others ≡ [])) → o ≡ complete → ⊥
      go (inl waits) last = let both = sym waits ∙ e in cc
      go (inr same) last = let both = sym e ∙ same.0 ∙ last in cc

  -- ---- its items

  stream : Stream (begun sent at) sent_items (reading whole_text).covered
  stream = streamed laws sent at can

  all_apply : apply_all sent_items partial.objects.state ≡ Ok from.stands.whole
  all_apply = laws.resumes (sent_view sent) state (stated_point at) partial.objects.state (is_view laws sent at can) from.stands ∙ from.stands.is_target

  abbrev first_place : Place
  first_place = place_of partial.objects.state

  all_near : AreNear first_place sent_items
  all_near = near (header_of sent) sent.snapshot.objects (choice_of sent) (stated_point at) first_place can.stated.lawful

  module _ (pool after : Pool) (pieces : List (List ℕ)) (piece : List ℕ) (refusal : Refusal) (of : AreOfStream (pieces ++ piece ∷ []) sent at) (is : IsRefused ask start pieces piece pool after refusal) where
    abbrev text : List ℕ
    text = concat pieces ++ piece

    abbrev first_told : Type 0
    first_told = refused_feeds.first laws.applied laws.fronts ask start pool after pieces piece refusal is ≡ Some refusal

    abbrev pub batch : Batch
    batch = (refused_feeds.done laws.applied laws.fronts ask start pool after pieces piece refusal is).batch

    -- ---- its reading

    text_is : concat (pieces ++ piece ∷ []) ≡ text
    text_is = concat_both pieces (piece ∷ []) ∙ ap (λ (t : List ℕ). concat pieces ++ t) (append-nil piece)

    reads_on : text ++ of.0 ≡ whole_text ++ of.1
    reads_on = ap (λ (t : List ℕ). t ++ of.0) (sym text_is) ∙ of.2

    left : List Covered
    left = (covered_of laws sent at can (pieces ++ piece ∷ []) of).0

    covered_is : (reading text).covered ++ left ≡ (reading whole_text).covered
    unfolding left
    covered_is = ap (λ (t : List ℕ). (reading t).covered ++ (covered_of laws sent at can (pieces ++ piece ∷ []) of).0) (sym text_is) ∙ (covered_of laws sent at can (pieces ++ piece ∷ []) of).1

    -- ---- its records

    planned : (c : Covered) (rest : List Covered) → (reading text).covered ≡ c ∷ rest → IsPlanned ask start (reading text).covered
    planned c rest e =
        let both : c ∷ (rest ++ left) ≡ stream.first ∷ stream.rest = sym (ap (λ (cs : List Covered). cs ++ left) e) ∙ covered_is ∙ stream.records_are in
        let same : stream.first ≡ c = cc in
        record {
          first = c;
          rest = rest;
          header = begun sent at;
          len = stream.len;
          plan = plan;
          records_are = e;
          head_is = sym (ap (λ (d : Covered). d.head) same) ∙ stream.head_is;
          planned = plans;
        }

    -- no record of it is refused
    applies : (told : ToldAt laws.applied laws.fronts ask start pool after pieces piece refusal is) (next : Covered) (rest : List Covered) → told.left ≡ next ∷ rest
        → received_all (pool.number + 1) next.index (items_by told.flags next.payload next.head) told.partial.objects ≡ Err refusal → ⊥
    applies told next rest is_next refused =
        let behind : told.front ++ (next ∷ (rest ++ left)) ≡ (reading whole_text).covered =
        sym (append_assoc told.front (next ∷ rest) left) ∙ sym (ap (λ (cs : List Covered). (told.front ++ cs) ++ left) is_next) ∙ ap (λ (cs : List Covered). cs ++ left) told.split ∙ covered_is in
        let flags = (begun sent at).flags in
        let on = further laws sent at can ask start state partial from told.front (next ∷ (rest ++ left)) told.flags told.partial told.behind behind in
        let same : told.flags ≡ flags = flags_of laws sent at can ask start state partial from told.front (next ∷ (rest ++ left)) told.flags told.partial told.behind behind in
        let done = items_of flags told.front in
        let now = items_by flags next.payload next.head in
        let later = items_of flags (rest ++ left) in
        let said : done ++ (now ++ later) ≡ sent_items = sym (say_append flags told.front (next ∷ (rest ++ left))) ∙ ap (items_of flags) behind ∙ stream.said in
        let there : apply_all (now ++ later) told.partial.objects.state ≡ Ok from.stands.whole =
        sym (applied_rest done (now ++ later) partial.objects.state told.partial.objects.state on.objects) ∙ ap (λ (xs : List Item). apply_all xs partial.objects.state) said ∙ all_apply in
        let made = front_applies now later told.partial.objects.state from.stands.whole there in
        let near_all = subst (λ (xs : List Item). AreNear first_place xs) (sym said) all_near in
        let near_now = near_front (place_behind_all first_place done) now later (near_back first_place done (now ++ later) near_all) in
        let sized = all_sized first_place done partial.objects.state told.partial.objects.state on.objects (first_sized partial.objects.state) in
        all_taken (place_behind_all first_place done) (pool.number + 1) next.index now told.partial.objects made.0 made.1 near_now sized refusal
        (subst (λ (f : ℕ). received_all (pool.number + 1) next.index (items_by f next.payload next.head) told.partial.objects ≡ Err refusal) same refused)

    -- so it is refused by the commit alone
    pub by_commit : put batch pool ≡ Err refusal
    by_commit = go (refused_by laws.applied laws.fronts ask start pool after pieces piece refusal is)
      where
        ends : (told : ToldAt laws.applied laws.fronts ask start pool after pieces piece refusal is) → EndsAtFault (pool.number + 1) told.flags told.partial told.left (reading text).outcome refusal → ⊥
        ends told (inl stream) = no_fault text of.0 of.1 reads_on stream.0 stream.2
        ends told (inr item) = applies told item.0 item.1 item.2 item.3

        by : (cs : List Covered) → (reading text).covered ≡ cs → first_told → ⊥
        by [] e told = let found = told_uncovered laws.applied laws.fronts ask start pool after pieces piece refusal is e told in no_fault text of.0 of.1 reads_on found.0 found.1
        by (c ∷ rest) e told = let where_told = told_at laws.applied laws.fronts ask start pool after pieces piece refusal is (planned c rest e) told in ends where_told where_told.fault

        go : (put batch pool ≡ Err refusal) ⊎ first_told → put batch pool ≡ Err refusal
        go (inl e) = e
        go (inr told) = absurd (by (reading text).covered refl told)

    pub taken : IsOfCommit refusal
    taken = subst (λ (r : Result Pool Refusal). OfCommit r) by_commit (put_limits batch pool)

pub sent_taken : Grounds → ItemsAreNear → SentIsTaken
sent_taken laws near sent ask start pool after component base pieces piece refusal can lawful none matches begins of is =
    let from = begins_with laws sent can ask start lawful none matches component base begins in
    taken laws near sent None can ask start (base_objects base).state (receive_steps.begun ask (header_of sent) component base) from (Begins component base) begins pool after pieces piece refusal of is
