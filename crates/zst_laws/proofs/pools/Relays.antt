-- What a redacted source lists, and that its increments fit each base that lacks no more than it does.
use Rattle.std.proofs.Common.{◌≡◌, inl, inr, ◌⊎◌, ℕ, ◌<◌, ◌≤◌, Bool, true, false, ◌^◌, List, [], ◌∷◌, length, Option, Some, None, option_map, Contains, nat_lt, refl, sym, ap, ◌∙◌, subst, arith}
use Rattle.std.specs.Option.{IfSome}
use Rattle.std.proofs.lemmas.Bool.{cases_lt, true≢false, false_from_ne_true, and_from, and_parts, or_left, or_right, cond-true, lt-ltb}
use Rattle.std.proofs.lemmas.List.Elements.{All-contains}
use Rattle.zst_model.specs.fields.Guids.{IsGuidSet}
use Rattle.zst_model.specs.fields.Lists.{has_pair}
use Rattle.zst_model.specs.fields.RunsOf.{runs_of}
use Rattle.zst_model.specs.pools.Ancestry.{OfSnapshot, IsIn, number_of_source}
use Rattle.zst_model.specs.pools.Pool.{Pool, Snapshot, IsPool, IsGuid}
use Rattle.zst_model.specs.pools.RedSet.{is_redacted_block, is_unreadable, is_user_block, redacted_pairs}
use Rattle.zst_model.specs.pools.Rows.{snapshot_row}
use Rattle.zst_model.specs.pools.Soundness.{Sound}
use Rattle.zst_model.specs.sends.Headers.{Sent, IsOf, choice_of, redacted_runs, redaction_list, source_list}
use Rattle.zst_model.specs.sends.Inclusion.{Choice, Pairs, includes_pair, includes_number, is_after}
use Rattle.zst_model.specs.sends.Target.{BaseOk, CanRedact, redacted, redacted_object}
use Rattle.zst_model.specs.states.DatedState.{DatedState}
use Rattle.zst_model.specs.states.State.{Redacted, Data, Empty, RedactedOf, Object, State, IsObjectOrNone, IsState, attr_at, block_content, content_at, end_at, index_bound, is_number, is_user_data}
use Rattle.zst_model.proofs.RunsOf.{runs_list}
use Rattle.zst_laws.specs.Relays.{LessRedactedIsBase, RedSetsGrow, SourceListsRedacted}
use Rattle.zst_laws.specs.SendPlans.{StandsBeforeSnapshot}
use Rattle.zst_laws.proofs.pools.CoveredBases.{below_end}
use Rattle.zst_laws.proofs.pools.Descent.{snapshot_has_row}
use Rattle.zst_laws.proofs.pools.Filters.{all_pass, each_passes}
use Rattle.zst_laws.proofs.pools.SourceBases.{sources_bases}
use Rattle.zst_laws.proofs.sends.ExactSends.{after_end, below_bound, number_there}
use Rattle.zst_laws.proofs.sends.ViewLaws.{attr_beside, kept_beside}

pub sets_grow : RedSetsGrow
sets_grow state number fewer more among k i lost =
    let parts = and_parts (is_user_block (state k) i) _ lost in
    and_from (is_user_block (state k) i) _ parts.0
    (all_pass (λ (kept : DatedState). nat_lt number (kept.index_date k i)) fewer (λ kept there.
    each_passes (λ (kept : DatedState). nat_lt number (kept.index_date k i)) more kept parts.1 (among kept there)))

-- where there are redaction guids, all that is redacted is listed
pub runs_redacted : (guids : List ℕ) (state : State) → 0 < length guids → redacted_runs guids state ≡ runs_of (redacted_pairs state)
runs_redacted [] state none = absurd (omega (arith, none))
runs_redacted (guid ∷ guids) state some = refl

pub source_lists : SourceListsRedacted
source_lists source k i guids number index =
    ap (λ runs. has_pair runs k i) (runs_redacted source.redact source.objects.state guids) ∙ (runs_list (redacted_pairs source.objects.state)).same k i number index

-- nothing stands past the end
past_content : (found : Option Object) (i : ℕ) → IsObjectOrNone found → end_at found ≤ i → content_at found i ≡ Empty
past_content None i is past = refl
past_content (Some object) i is past = ap (block_content object.attr.block_size) (after_end object i is past)

module _ (pool : Pool) (sent : Sent) (source : Snapshot) (state : State) (less more : Pairs)
    (is : IsPool pool) (sound : Sound pool) (of : IsOf pool sent) (from : sent.source ≡ Some (OfSnapshot source)) (guids : 0 < length source.redact)
    (before : StandsBeforeSnapshot pool (OfSnapshot source) sent.snapshot)
    (lawful : IsState state) (can : CanRedact state more) (received : source.objects.state ≡ redacted state more) (lacks : (k i : ℕ) → less k i ≡ true → more k i ≡ true)
  where
    abbrev snap : DatedState
    snap = sent.snapshot.objects

    abbrev choice : Choice
    choice = choice_of sent

    from_is : choice.from ≡ Some source.number
    from_is = ap (option_map number_of_source) from

    source_there : Contains pool.snapshots source
    source_there = subst (λ s. IfSome s (IsIn pool)) from of.source

    snap_lawful : IsState snap.state
    snap_lawful = (All-contains (λ s. IsGuid s.guid × IsGuidSet s.redact × IsState s.objects.state × (s.time < 2 ^ 64)) pool.snapshots sent.snapshot is.snapshots of.snapshot).2

    -- the source's own state is fit, whatever the lists have
    source_fit : BaseOk source.objects.state snap choice
    source_fit =
        subst (λ f. BaseOk source.objects.state snap (record { from = f; source = source_list sent.source; redact = redaction_list sent.redaction })) (sym from_is)
        (sources_bases pool (OfSnapshot source) source (snapshot_row sent.snapshot) (source_list sent.source) (redaction_list sent.redaction) is sound source_there
        (record { dataset = refl; number = refl }) (snapshot_has_row pool sent.snapshot of.snapshot) before)

    -- what the source lacks is written anew, below the end of what is sent
    module _ (k i : ℕ) (object : Object) (found : state k ≡ Some object) (lost : more k i ≡ true) where
      may : (is_user_data object.attr ≡ true) × (bytes : List ℕ) × (object.blocks i ≡ Data bytes)
      may = (can k object found).listed i lost

      k_number : is_number k ≡ true
      k_number = number_there state lawful k object found

      i_index : i < index_bound
      i_index = below_bound (state k) i (below_end state lawful k i object may.1 found may.2)

      in_source : source.objects.state k ≡ Some (redacted_object (more k) object)
      in_source = ap (λ (s : State). s k) received ∙ ap (option_map (redacted_object (more k))) found

      is_lost : redacted_pairs source.objects.state k i ≡ true
      is_lost =
          ap (λ (o : Option Object). is_unreadable o i) in_source
          ∙ and_from (is_user_data object.attr) _ may.0 (ap is_redacted_block (cond-true (more k i) Redacted (object.blocks i) lost))

      is_listed : choice.source k i ≡ true
      is_listed = ap (λ s. source_list s k i) from ∙ source_lists source k i guids k_number i_index ∙ is_lost

      source_content : content_at (source.objects.state k) i ≡ RedactedOf object.attr.block_size
      source_content =
          ap (λ (o : Option Object). content_at o i) in_source
          ∙ ap (block_content object.attr.block_size) (cond-true (more k i) Redacted (object.blocks i) lost)

      is_sent : i < end_at (snap.state k) → includes_pair snap choice k i ≡ true
      is_sent below =
          and_from (nat_lt i (end_at (snap.state k))) _ (lt-ltb _ _ below)
          (or_right (is_after choice.from (snap.index_date k i)) _ (or_left (choice.source k i) (choice.redact k i) is_listed))

      not_apart : includes_pair snap choice k i ≡ false → (includes_number snap choice k ≡ true → i < end_at (snap.state k)) → ⊥
      not_apart apart inside = at (cases_lt i (end_at (snap.state k)))
        where
          at : (i < end_at (snap.state k)) ⊎ (end_at (snap.state k) ≤ i) → ⊥
          at (inl below) = true≢false (sym (is_sent below) ∙ apart)
          at (inr past) =
              let both : RedactedOf object.attr.block_size ≡ Empty =
              sym source_content ∙ source_fit.pairs k i apart inside ∙ past_content (snap.state k) i (snap_lawful.objects k) past in absurd (cc)

    -- so elsewhere the base has what the source has
    contents_same : (k i : ℕ) → includes_pair snap choice k i ≡ false → (includes_number snap choice k ≡ true → i < end_at (snap.state k))
        → content_at (redacted state less k) i ≡ content_at (redacted state more k) i
    contents_same k i apart inside = either (more k i) refl
      where
        lost_nowhere : more k i ≡ true → (o : Option Object) → state k ≡ o → content_at (redacted state less k) i ≡ content_at (redacted state more k) i
        lost_nowhere lost None found =
            ap (λ (o : Option Object). content_at (option_map (redacted_object (less k)) o) i) found
            ∙ sym (ap (λ (o : Option Object). content_at (option_map (redacted_object (more k)) o) i) found)
        lost_nowhere lost (Some object) found = absurd (not_apart k i object found lost apart inside)

        either : (b : Bool) → more k i ≡ b → content_at (redacted state less k) i ≡ content_at (redacted state more k) i
        either true lost = lost_nowhere lost (state k) refl
        either false kept =
            kept_beside (state k) (less k) i (false_from_ne_true (less k i) (λ missing. true≢false (sym (lacks k i missing) ∙ kept)))
            ∙ sym (kept_beside (state k) (more k) i kept)

    less_redacted : BaseOk (redacted state less) snap choice
    less_redacted = record {
      numbers = λ k e.
          attr_beside (state k) (less k) ∙ sym (attr_beside (state k) (more k)) ∙ sym (ap (λ (s : State). attr_at (s k)) received) ∙ source_fit.numbers k e;
      pairs = λ k i apart inside. contents_same k i apart inside ∙ sym (ap (λ (s : State). content_at (s k) i) received) ∙ source_fit.pairs k i apart inside;
    }

pub less_redacted_base : LessRedactedIsBase
less_redacted_base pool sent source state less more is sound of from guids before lawful can received lacks =
    less_redacted pool sent source state less more is sound of from guids before lawful can received lacks
