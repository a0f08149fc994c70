-- A base that is redacted for some snapshots is fit for a stream that covers these.
use Rattle.std.proofs.Common.{◌≡◌, inl, inr, ℕ, ◌^◌, ◌<◌, ◌≤◌, true, ◌||◌, List, [], ◌∷◌, length, Option, Some, None, option_map, All, Contains, nat_lt, nat_le, refl, sym, ap, ◌∙◌, subst, arith}
use Rattle.std.specs.Option.{IfSome}
use Rattle.std.proofs.Math.Path.{fun_ext}
use Rattle.std.proofs.lemmas.Option.{same_Some}
use Rattle.std.proofs.lemmas.Bool.{cases_lt, false≢true, and_parts, and_from, or_left, or_right, lt-ltb, le-leb, ltb-true}
use Rattle.std.proofs.lemmas.List.Elements.{All-contains}
use Rattle.zst_model.proofs.InsertedLaws.{contains_first, contains_later, contains_cases, contains_nothing, contains-map, map_contains, All-from_contains}
use Rattle.zst_model.specs.fields.Lists.{has_pair}
use Rattle.zst_model.specs.pools.Ancestry.{Source, OfSnapshot, OfBookmark, number_of_source, IsIn}
use Rattle.zst_model.specs.pools.Pool.{Pool, Snapshot, Bookmark, IsPool, IsGuid, dataset_of_snapshot}
use Rattle.zst_model.specs.pools.RedSet.{is_data, is_user_block, objects_of, red_set}
use Rattle.zst_model.specs.pools.Rows.{snapshot_row, Row, rows}
use Rattle.zst_model.specs.pools.Soundness.{DatedUpTo, Sound}
use Rattle.zst_model.specs.fields.Guids.{IsGuidSet}
use Rattle.zst_model.specs.sends.Headers.{Sent, IsRedactionOf, choice_of, source_list, redaction_list}
use Rattle.zst_model.specs.sends.Inclusion.{Choice, Pairs, is_after, includes_pair, includes_number}
use Rattle.zst_model.specs.sends.Target.{BaseOk, CanRedact, Remembers}
use Rattle.zst_model.specs.states.DatedState.{DatedState}
use Rattle.zst_model.specs.states.State.{Block, Hole, Redacted, Data, Object, State, IsState, IsObjectOrNone, BytesOf, attr_at, content_at, block_content, end_at, index_bound, is_number, is_user_data}
use Rattle.zst_model.proofs.IndexTests.{any_passes}
use Rattle.zst_laws.specs.Bases.{IsRewritten}
use Rattle.zst_laws.specs.RedactionLists.{AreListed, AreRedactions, CoveredIsBase, ListedMayBeRedacted, HaveOwnGuids, IsCovered, ToOne, ByRedaction, BySource, IsOverRedacted, each_guid, lost}
use Rattle.zst_laws.specs.RememberedStates.{IsOwn}
use Rattle.zst_laws.specs.SendPlans.{StandsBeforeSnapshot}
use Rattle.zst_laws.proofs.examples.Meanings.{data_of, lists_can_be_redacted}
use Rattle.zst_laws.proofs.pools.Descent.{snapshot_has_row}
use Rattle.zst_laws.proofs.pools.Filters.{all_pass, each_passes}
use Rattle.zst_laws.proofs.pools.SourceBases.{own_before, remembered_base}
use Rattle.zst_laws.proofs.sends.ExactSends.{after_end, below_bound, number_there}
use Rattle.zst_laws.proofs.sends.ViewLaws.{redacted_base}

-- a data block of a file or a volume
pub record IsUserBlock (found : Option Object) (i : ℕ) : Type 0 where
  pub object : Object
  pub there : found ≡ Some object
  pub user : is_user_data object.attr ≡ true
  pub bytes : List ℕ
  pub block : object.blocks i ≡ Data bytes

-- the test says yes exactly of such a block
user_block : (found : Option Object) (i : ℕ) → is_user_block found i ≡ true → IsUserBlock found i
user_block None i e = absurd (false≢true e)
user_block (Some object) i e =
    let held = data_of object i e in
    record { object = object; there = refl; user = held.0; bytes = held.1; block = held.2 }

user_tested : (found : Option Object) (i : ℕ) → IsUserBlock found i → is_user_block found i ≡ true
user_tested found i is = subst (λ o. is_user_block o i ≡ true) (sym is.there) (and_from (is_user_data is.object.attr) _ is.user (ap is_data is.block))

-- what has the content of data has it as data
content_data : (size : ℕ) (block : Block) (bytes : List ℕ) → block_content size block ≡ BytesOf bytes → block ≡ Data bytes
content_data size Hole bytes e = absurd (cc)
content_data size Redacted bytes e = absurd (cc)
content_data size (Data other) bytes e = cc

found_data : (found : Option Object) (i : ℕ) (bytes : List ℕ) → content_at found i ≡ BytesOf bytes → (object : Object) × (found ≡ Some object) × (object.blocks i ≡ Data bytes)
found_data None i bytes e = absurd (cc)
found_data (Some object) i bytes e = (object, refl, content_data object.attr.block_size (object.blocks i) bytes e)

user_content : (found : Option Object) (i : ℕ) (is : IsUserBlock found i) → content_at found i ≡ BytesOf is.bytes
user_content found i is = ap (λ o. content_at o i) is.there ∙ ap (block_content is.object.attr.block_size) is.block

-- a data block's index is below its object's end
pub below_end : (state : State) → IsState state → (k i : ℕ) (object : Object) (bytes : List ℕ) → state k ≡ Some object → object.blocks i ≡ Data bytes → i < end_at (state k)
below_end state lawful k i object bytes e block = elim (cases_lt i (end_at (state k))) [
  | inl l ↦ l
  | inr g ↦
      let hole : object.blocks i ≡ Hole = after_end object i (subst IsObjectOrNone e (lawful.objects k)) (subst (λ o. end_at o ≤ i) e g) in
      let both : Data bytes ≡ Hole = sym block ∙ hole in absurd (cc)
]

-- ---- the pairs that snapshots have lost

-- a pair of user data that each of these snapshots dates after a number
pub record IsLost (state : State) (number : ℕ) (redactions : List Snapshot) (k i : ℕ) : Type 0 where
  pub block : IsUserBlock (state k) i
  pub late : (redaction : Snapshot) → Contains redactions redaction → number < redaction.objects.index_date k i

pub lost_parts : (state : State) (number : ℕ) (redactions : List Snapshot) (k i : ℕ) → red_set state number (objects_of redactions) k i ≡ true → IsLost state number redactions k i
lost_parts state number redactions k i e =
    let parts = and_parts (is_user_block (state k) i) _ e in record {
      block = user_block (state k) i parts.0;
      late = λ redaction there. ltb-true number (redaction.objects.index_date k i)
          (each_passes (λ (d : DatedState). nat_lt number (d.index_date k i)) (objects_of redactions) redaction.objects parts.1
          (contains-map (λ (s : Snapshot). s.objects) redactions redaction there));
    }

lost_from : (state : State) (number : ℕ) (redactions : List Snapshot) (k i : ℕ) → IsLost state number redactions k i → red_set state number (objects_of redactions) k i ≡ true
lost_from state number redactions k i is =
    and_from (is_user_block (state k) i) _ (user_tested (state k) i is.block)
    (all_pass (λ (d : DatedState). nat_lt number (d.index_date k i)) (objects_of redactions) (λ d there.
    let found = map_contains (λ (s : Snapshot). s.objects) redactions d there in
    subst (λ (x : DatedState). nat_lt number (x.index_date k i) ≡ true) found.2 (lt-ltb number (found.0.objects.index_date k i) (is.late found.0 found.1))))

-- they are of numbers and indices
pub lost_bounded : (state : State) → IsState state → (number : ℕ) (redactions : List Snapshot) (k i : ℕ) → IsLost state number redactions k i → (is_number k ≡ true) × (i < index_bound)
lost_bounded state lawful number redactions k i gone = (
  number_there state lawful k gone.block.object gone.block.there,
  below_bound (state k) i (below_end state lawful k i gone.block.object gone.block.bytes gone.block.there gone.block.block),
)

-- ---- choosing the snapshots of guids

-- some of these snapshots, one for each of these guids
record Chosen (redactions : List Snapshot) (guids : List ℕ) : Type 0 where
  some : List Snapshot
  guids_are : each_guid some ≡ guids
  there : (redaction : Snapshot) → Contains some redaction → Contains redactions redaction × Contains guids redaction.guid

chosen : (redactions : List Snapshot) (guids : List ℕ) → All (Contains (each_guid redactions)) guids → Chosen redactions guids
chosen redactions [] all = record { some = []; guids_are = refl; there = λ redaction k. absurd (contains_nothing redaction k) }
chosen redactions (guid ∷ guids) all =
    let one = map_contains (λ (s : Snapshot). s.guid) redactions guid (All-contains (Contains (each_guid redactions)) (guid ∷ guids) guid all (contains_first guid guids)) in
    let rest = chosen redactions guids (All-from_contains (Contains (each_guid redactions)) guids (λ g k.
    All-contains (Contains (each_guid redactions)) (guid ∷ guids) g all (contains_later guid guids g k))) in record {
      some = one.0 ∷ rest.some;
      guids_are = λ p. one.2 p ∷ rest.guids_are p;
      there = λ redaction k. elim (contains_cases one.0 rest.some redaction k) [
        | inl e ↦ (subst (Contains redactions) e one.1, subst (λ (s : Snapshot). Contains (guid ∷ guids) s.guid) e (subst (Contains (guid ∷ guids)) (sym one.2) (contains_first guid guids)))
        | inr later ↦ let found = rest.there redaction later in (found.0, contains_later guid guids redaction.guid found.1)
      ];
    }

module _ (pool : Pool) (sent : Sent) (source : Source) (own : Snapshot) (state : State) (redactions : List Snapshot)
    (is : IsPool pool) (sound : Sound pool) (listed : AreListed pool) (guids : HaveOwnGuids pool) (over : IsOverRedacted pool sent source own state redactions)
  where
    abbrev number : ℕ
    number = number_of_source source

    abbrev snap : DatedState
    snap = sent.snapshot.objects

    abbrev choice : Choice
    choice = choice_of sent

    from_is : choice.from ≡ Some number
    from_is = ap (option_map number_of_source) over.from

    snap_lawful : IsState snap.state
    snap_lawful = (All-contains (λ s. IsGuid s.guid × IsGuidSet s.redact × IsState s.objects.state × (s.time < 2 ^ 64)) pool.snapshots sent.snapshot is.snapshots over.is_of.snapshot).2

    after_source : (date : ℕ) → number < date → is_after choice.from date ≡ true
    after_source date l = subst (λ f. is_after f date ≡ true) (sym from_is) (lt-ltb number date l)

    -- a pair that is dated after the source is written anew
    late_rewritten : (k i : ℕ) → is_number k ≡ true → i < index_bound → number < snap.index_date k i → IsRewritten snap choice k i
    unfolding includes_number
    late_rewritten k i n b l = elim (cases_lt i (end_at (snap.state k))) [
      | inl m ↦ inl (and_from (nat_lt i (end_at (snap.state k))) _ (lt-ltb _ _ m) (or_left (is_after choice.from (snap.index_date k i)) _ (after_source (snap.index_date k i) l)))
      | inr g ↦ inr (
        and_from (is_number k) _ n (or_right (is_after choice.from (snap.number_date k)) _
            (any_passes _ index_bound i b (or_right (includes_pair snap choice k i) _ (and_from (nat_le (end_at (snap.state k)) i) _ (le-leb _ _ g) (after_source (snap.index_date k i) l))))),
        g,
      )
    ]

    -- so is one of a list that is below the end
    listed_rewritten : (k i : ℕ) → i < end_at (snap.state k) → (choice.source k i || choice.redact k i) ≡ true → IsRewritten snap choice k i
    listed_rewritten k i l e = inl (and_from (nat_lt i (end_at (snap.state k))) _ (lt-ltb _ _ l) (or_right (is_after choice.from (snap.index_date k i)) _ e))

    -- the snapshots that a bookmark's guids are of are its redaction snapshots, where its own snapshot stands before them
    are_redactions : (first : Snapshot) (wanted : List ℕ) (some : Chosen redactions wanted)
        → ((redaction : Snapshot) → Contains redactions redaction → Contains wanted redaction.guid → StandsBeforeSnapshot pool (OfSnapshot first) redaction)
        → AreRedactions pool first wanted some.some
    are_redactions first wanted some before = record {
      guids_are = some.guids_are;
      there = λ redaction k. over.there redaction (some.there redaction k).0;
      later = λ redaction k. let found = some.there redaction k in before redaction found.0 found.1;
      alone = λ other here stands has.
          let one = map_contains (λ (s : Snapshot). s.guid) some.some other.guid (subst (λ gs. Contains gs other.guid) (sym some.guids_are) has) in
          subst (Contains some.some) (guids one.0 other (over.there one.0 (some.there one.0 one.1).0) here one.2) one.1;
    }

    module _ (k i : ℕ) (gone : IsLost state number redactions k i) where
      k_number : is_number k ≡ true
      k_number = number_there state over.lawful k gone.block.object gone.block.there

      i_index : i < index_bound
      i_index = below_bound (state k) i (below_end state over.lawful k i gone.block.object gone.block.bytes gone.block.there gone.block.block)

      -- where the snapshot doesn't date it after the source, it has the block
      module _ (early : snap.index_date k i ≤ number) where
        sent_content : content_at (snap.state k) i ≡ BytesOf gone.block.bytes
        sent_content =
            sym ((over.remembers.later (snapshot_row sent.snapshot) (snapshot_has_row pool sent.snapshot over.is_of.snapshot) over.before).indices k i k_number i_index early)
            ∙ user_content (state k) i gone.block

        sent_block : (object : Object) × (snap.state k ≡ Some object) × (object.blocks i ≡ Data gone.block.bytes)
        sent_block = found_data (snap.state k) i gone.block.bytes sent_content

        sent_below : i < end_at (snap.state k)
        sent_below = below_end snap.state snap_lawful k i sent_block.0 gone.block.bytes sent_block.1 sent_block.2

        sent_user : IsUserBlock (snap.state k) i
        sent_user = record {
          object = sent_block.0;
          there = sent_block.1;
          user = over.kinds k gone.block.object sent_block.0 gone.block.there sent_block.1 gone.block.user;
          bytes = gone.block.bytes;
          block = sent_block.2;
        }

        -- it can't be the snapshot of one of the guids, which dates it later
        not_one : Contains (each_guid redactions) sent.snapshot.guid → ⊥
        not_one among =
            let found = map_contains (λ (s : Snapshot). s.guid) redactions sent.snapshot.guid among in
            let same : found.0 ≡ sent.snapshot = guids found.0 sent.snapshot (over.there found.0 found.1) over.is_of.snapshot found.2 in
            let late : number < snap.index_date k i = subst (λ (s : Snapshot). number < s.objects.index_date k i) same (gone.late found.0 found.1) in
            absurd (omega arith)

        -- the snapshot's own redaction bookmark lists it
        redaction_lists : (bookmark : Bookmark) → sent.redaction ≡ Some bookmark → All (Contains (each_guid redactions)) bookmark.redact
            → has_pair bookmark.runs k i ≡ true
        redaction_lists bookmark e all =
            let of : IsRedactionOf pool sent.snapshot bookmark = subst (λ r. IfSome r (IsRedactionOf pool sent.snapshot)) e over.is_of.redaction in
            let some = chosen redactions bookmark.redact all in
            let are = are_redactions sent.snapshot bookmark.redact some (over.later bookmark e) in
            listed bookmark sent.snapshot some.some of.there of.guids over.is_of.snapshot (over.marked bookmark e) are k i
            ∙ lost_from snap.state sent.snapshot.number some.some k i (record {
              block = sent_user;
              late = λ redaction there. late redaction (some.there redaction there).0 (are.later redaction there);
            })
          where
            late : (redaction : Snapshot) → Contains redactions redaction → StandsBeforeSnapshot pool (OfSnapshot sent.snapshot) redaction → sent.snapshot.number < redaction.objects.index_date k i
            late redaction there stands = elim (cases_lt sent.snapshot.number (redaction.objects.index_date k i)) [
              | inl l ↦ l
              | inr most ↦
                  let agrees = sound.agree sent.snapshot (snapshot_row redaction) over.is_of.snapshot (snapshot_has_row pool redaction (over.there redaction there)) stands in
                  let same : snap.index_date k i ≡ redaction.objects.index_date k i = agrees.index_dates k i k_number i_index most in
                  let l : number < redaction.objects.index_date k i = gone.late redaction there in
                  absurd (omega arith)
            ]

        -- the source's own snapshot has the block too, and its redaction bookmark lists it
        source_lists : (bookmark : Bookmark) → sent.source ≡ Some (OfBookmark bookmark) → 0 < length bookmark.redact
            → All (Contains (each_guid redactions)) bookmark.redact → has_pair bookmark.runs k i ≡ true
        source_lists bookmark e has all =
            let marks : source ≡ OfBookmark bookmark = same_Some source (OfBookmark bookmark) (sym over.from ∙ e) in
            let there : Contains pool.bookmarks bookmark = subst (λ s. IfSome s (IsIn pool)) e over.is_of.source in
            let some = chosen redactions bookmark.redact all in
            let are = are_redactions own bookmark.redact some (λ redaction k among.
            own_before pool source own sound over.own_there over.own_is (dataset_of_snapshot redaction) (Some redaction.number) (over.behind redaction k)) in
            listed bookmark own some.some there has over.own_there (subst (λ s. IsOwn s own) marks over.own_is) are k i
            ∙ lost_from own.objects.state own.number some.some k i (record {
              block = own_user;
              late = λ redaction inside. subst (λ n. n < redaction.objects.index_date k i) over.own_is.number (gone.late redaction (some.there redaction inside).0);
            })
          where
            own_remembers : Remembers own.objects number state
            own_remembers = over.remembers.own own over.own_there over.own_is

            dated : DatedUpTo own.number own.objects
            dated = All-contains (λ (r : Row). DatedUpTo r.number r.objects) (rows pool) (snapshot_row own) sound.dated.states (snapshot_has_row pool own over.own_there)

            own_content : content_at (own.objects.state k) i ≡ BytesOf gone.block.bytes
            own_content =
                let l = dated.indices k i in
                let same = over.own_is.number in
                sym (own_remembers.indices k i k_number i_index (omega arith)) ∙ user_content (state k) i gone.block

            own_block : (object : Object) × (own.objects.state k ≡ Some object) × (object.blocks i ≡ Data gone.block.bytes)
            own_block = found_data (own.objects.state k) i gone.block.bytes own_content

            own_attr : Some gone.block.object.attr ≡ Some own_block.0.attr
            own_attr =
                let l = dated.numbers k in
                let same = over.own_is.number in
                sym (ap attr_at gone.block.there) ∙ own_remembers.numbers k k_number (omega arith) ∙ ap attr_at own_block.1

            own_user : IsUserBlock (own.objects.state k) i
            own_user = record {
              object = own_block.0;
              there = own_block.1;
              user = subst (λ a. is_user_data a ≡ true) (same_Some gone.block.object.attr own_block.0.attr own_attr) gone.block.user;
              bytes = gone.block.bytes;
              block = own_block.2;
            }

        early_rewritten : IsCovered sent (each_guid redactions) → IsRewritten snap choice k i
        early_rewritten (ToOne among) = absurd (not_one among)
        early_rewritten (ByRedaction bookmark e all) =
            listed_rewritten k i sent_below (or_right (choice.source k i) _ (ap (λ r. redaction_list r k i) e ∙ redaction_lists bookmark e all))
        early_rewritten (BySource bookmark e has all) =
            listed_rewritten k i sent_below (or_left (choice.source k i) _ (ap (λ s. source_list s k i) e ∙ source_lists bookmark e has all))

      rewritten : IsCovered sent (each_guid redactions) → IsRewritten snap choice k i
      rewritten covered = elim (cases_lt number (snap.index_date k i)) [
        | inl l ↦ late_rewritten k i k_number i_index l
        | inr most ↦ early_rewritten most covered
      ]

    remembered_fit : BaseOk state snap choice
    remembered_fit =
        subst (λ f. BaseOk state snap (record { from = f; source = source_list sent.source; redact = redaction_list sent.redaction })) (sym from_is)
        (remembered_base pool source state (snapshot_row sent.snapshot) (source_list sent.source) (redaction_list sent.redaction) is over.lawful over.remembers
        (snapshot_has_row pool sent.snapshot over.is_of.snapshot) over.before)

pub covered_base : CoveredIsBase
covered_base pool sent source own state redactions is sound listed guids over covered =
    redacted_base state sent.snapshot.objects (choice_of sent) (lost state (number_of_source source) redactions)
    (remembered_fit pool sent source own state redactions is sound listed guids over)
    (λ k i e. rewritten pool sent source own state redactions is sound listed guids over k i (lost_parts state (number_of_source source) redactions k i e) covered)

-- the pairs of a list are data of files and volumes
pub listed_may : ListedMayBeRedacted
listed_may bookmark own redactions lists user =
    subst (λ (pairs : Pairs). CanRedact own.objects.state pairs) (fun_ext (λ k. fun_ext (λ i. sym (lists k i))))
    (lists_can_be_redacted own.objects.state own.number (objects_of redactions) user)
