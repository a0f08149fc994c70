-- What stands before a snapshot is tested by its plan, and what is planned is of the pool.
use Rattle.std.proofs.Common.{◌≡◌, ℕ, zero, suc, ◌<◌, ◌≤◌, Bool, true, false, ◌&&◌, ◌||◌, not, List, Option, Some, option_map, None, is_some, Result, Ok, Err, Contains, nat_lt, if◌then◌else◌, refl, sym, ap, ◌∙◌, subst, arith}
use Rattle.std.specs.List.{find}
use Rattle.std.specs.Option.{IfSome, ok_or, option_and_then, option_map_or}
use Rattle.std.specs.Str.{bytes_eq}
use Rattle.std.proofs.lemmas.Bool.{true≢false, not-false}
use Rattle.std.proofs.lemmas.Bool.Decides.{nat_tests}
use Rattle.std.proofs.lemmas.List.Elements.{All-contains}
use Rattle.zst_model.specs.declared.refusals.faults.Lack.TheVariants as lacks
use Rattle.zst_model.specs.declared.refusals.subjects.Name.{Name}
use Rattle.zst_model.specs.declared.refusals.subjects.Name.TheVariants as names
use Rattle.zst_model.specs.declared.refusals.plan_fault.PlanFault.{PlanFault}
use Rattle.zst_model.specs.declared.refusals.plan_fault.PlanFault.TheVariants as plans
use Rattle.zst_model.specs.declared.sends.ask.FromName.{FromName}
use Rattle.zst_model.specs.declared.sends.ask.FromName.TheVariants.{Snap, Book}
use Rattle.zst_model.specs.declared.sends.ask.SendAsk.{SendAsk}
use Rattle.zst_model.specs.pools.Ancestry.{IsOrigin, IsIn, Marks, Source, OfSnapshot, OfBookmark, StandsBefore, Earlier, AtOrigin, BeforeOrigin, IsBelow, dataset_of_source, number_of_source}
use Rattle.zst_model.specs.pools.Pool.{Pool, Dataset, Snapshot, Bookmark, HasDataset, IsPool, bookmark_named, dataset_named, dataset_of_bookmark, dataset_of_snapshot, is_before, snapshot_named}
use Rattle.zst_model.specs.pools.Soundness.{Sound}
use Rattle.zst_model.specs.sends.SendPlan.{absent, comes_before, earlier_origin, find_bookmark, find_redaction, find_snapshot, find_source, has_guids, if_before, if_no_relay, if_redaction, is_before_in, is_earlier, kind_of, marks, name_of_source, origin_of, redacts_snapshot, send_plan, sent_of}
use Rattle.zst_model.specs.sends.Headers.{Sent, IsRedactionOf}
use Rattle.zst_model.specs.states.AppliedItems.{unless, ◌>>=◌}
use Rattle.zst_model.proofs.OrderLaws.{same_bytes, bytes_same, not_before_itself}
use Rattle.zst_model.proofs.FoundElements.{found_passes, none_passes}
use Rattle.zst_model.proofs.UniqueElements.{same_element}
use Rattle.zst_model.proofs.GuidLists.{no_guids}
use Rattle.zst_model.proofs.Results.{ok_parts, bind_ok, unless_ok}
use Rattle.zst_laws.specs.SendPlans.{AncestorIsWanted, BeforeIsTested, IsOnce, IsPlanned, PlansAreOfPool, StandsBeforeSnapshot, name_of_from}
use Rattle.zst_laws.proofs.pools.Rows.{named_found}

-- one that passes alone is found
pub found_alone : {A : Type 0} (p : A → Bool) (xs : List A) (one : A) → Contains xs one → p one ≡ true → ((x : A) → Contains xs x → p x ≡ true → x ≡ one) → find p xs ≡ Some one
found_alone {A = A} p xs one there passes alone = go (find p xs) refl
  where
    go : (o : Option A) → find p xs ≡ o → find p xs ≡ Some one
    go None e = absurd (true≢false (sym passes ∙ none_passes p xs e one there))
    go (Some x) e = let found = found_passes p xs x e in e ∙ ap (λ y. Some y) (alone x found.0 found.1)

or_right : (a : Bool) {b : Bool} → b ≡ true → (a || b) ≡ true
or_right true h = refl
or_right false h = h

module _ (pool : Pool) (lawful : IsPool pool) where
  -- two snapshots of a name are one, and so are two datasets
  one_snapshot : (a b : Snapshot) → Contains pool.snapshots a → Contains pool.snapshots b → a.name ≡ b.name → a ≡ b
  one_snapshot a b here there same =
      same_element (λ (x y : Snapshot). x.name ≡ y.name → ⊥) pool.snapshots lawful.named.snapshots_differ a b here there (λ differ. differ same) (λ differ. differ (sym same))

  one_dataset : (a b : Dataset) → Contains pool.datasets a → Contains pool.datasets b → a.name ≡ b.name → a ≡ b
  one_dataset a b here there same =
      same_element (λ (x y : Dataset). is_before x.name y.name ≡ true) pool.datasets lawful.named.datasets a b here there
      (λ before. not_before_itself b.name (subst (λ n. is_before n b.name ≡ true) same before))
      (λ before. not_before_itself b.name (subst (λ n. is_before b.name n ≡ true) same before))

  pub snapshot_found : (s : Snapshot) (name : List ℕ) → Contains pool.snapshots s → s.name ≡ name → snapshot_named name pool ≡ Some s
  snapshot_found s name there named =
      found_alone (λ x. bytes_eq x.name name) pool.snapshots s there (bytes_same s.name name named)
      (λ x here passes. one_snapshot x s here there (same_bytes x.name name passes ∙ sym named))

  dataset_found : (d : Dataset) (name : List ℕ) → Contains pool.datasets d → d.name ≡ name → dataset_named name pool ≡ Some d
  dataset_found d name there named =
      found_alone (λ x. bytes_eq x.name name) pool.datasets d there (bytes_same d.name name named)
      (λ x here passes. one_dataset x d here there (same_bytes x.name name passes ∙ sym named))

  -- the origin that is found is the dataset's, and the dataset's is found
  found_is_origin : (later origin : Snapshot) → origin_of pool later ≡ Some origin → IsOrigin pool origin (dataset_of_snapshot later)
  found_is_origin later origin h = of_dataset (dataset_named (dataset_of_snapshot later) pool) refl h
    where
      of_name : (d : Dataset) → dataset_named (dataset_of_snapshot later) pool ≡ Some d → (o : Option (List ℕ)) → d.origin ≡ o
          → option_and_then (λ name. snapshot_named name pool) o ≡ Some origin → IsOrigin pool origin (dataset_of_snapshot later)
      of_name d found None e h = absurd (cc)
      of_name d found (Some name) e h =
          let own = named_found (λ (x : Dataset). x.name) (dataset_of_snapshot later) pool.datasets d found in
          let at = named_found (λ (x : Snapshot). x.name) name pool.snapshots origin h in
          record { dataset = d; there = own.0; named = own.1; snapshot_there = at.0; is_origin = e ∙ ap (λ n. Some n) (sym at.1) }

      of_dataset : (o : Option Dataset) → dataset_named (dataset_of_snapshot later) pool ≡ o
          → option_and_then (λ dataset. option_and_then (λ name. snapshot_named name pool) dataset.origin) o ≡ Some origin → IsOrigin pool origin (dataset_of_snapshot later)
      of_dataset None found h = absurd (cc)
      of_dataset (Some d) found h = of_name d found d.origin refl h

  origin_is_found : (later origin : Snapshot) → IsOrigin pool origin (dataset_of_snapshot later) → origin_of pool later ≡ Some origin
  origin_is_found later origin is =
      ap (option_and_then (λ dataset. option_and_then (λ name. snapshot_named name pool) dataset.origin)) (dataset_found is.dataset (dataset_of_snapshot later) is.there is.named)
      ∙ ap (option_and_then (λ name. snapshot_named name pool)) is.is_origin
      ∙ snapshot_found origin origin.name is.snapshot_there refl

  -- a source that marks a snapshot by the test marks it
  tested_marks : (source : Source) → IsIn pool source → (origin : Snapshot) → Contains pool.snapshots origin → marks source origin ≡ true → Marks source origin
  tested_marks (OfSnapshot s) here origin there h = one_snapshot s origin here there (same_bytes s.name origin.name h)
  tested_marks (OfBookmark b) here origin there h = record {
    dataset = same_bytes (dataset_of_bookmark b) (dataset_of_snapshot origin) (grind (h, arith));
    guid = grind (h, nat_tests, arith);
    number = grind (h, nat_tests, arith);
  }

  marks_tested : (source : Source) (origin : Snapshot) → Marks source origin → marks source origin ≡ true
  marks_tested (OfSnapshot s) origin is = bytes_same s.name origin.name (ap (λ x. x.name) is)
  marks_tested (OfBookmark b) origin is =
      let of = bytes_same (dataset_of_bookmark b) (dataset_of_snapshot origin) is.dataset in
      grind (of, is.guid, is.number, nat_tests, arith)

  -- an earlier one of the dataset
  tested_earlier : (source : Source) (later : Snapshot) → is_earlier source later ≡ true → StandsBeforeSnapshot pool source later
  tested_earlier source later h =
      Earlier (dataset_of_snapshot later) (Some later.number) (same_bytes (dataset_of_source source) (dataset_of_snapshot later) (grind (h, arith))) (grind (h, nat_tests, arith))

  -- what the test says yes to stands before
  module _ (source : Source) (here : IsIn pool source) where
    one_step : (most : ℕ) → ((origin : Snapshot) → is_before_in most pool source origin ≡ true → StandsBeforeSnapshot pool source origin) → (later : Snapshot)
        → (is_earlier source later || option_map_or (λ origin. marks source origin || is_before_in most pool source origin) (earlier_origin pool later) false) ≡ true
        → StandsBeforeSnapshot pool source later
    one_step most rest later h = either (is_earlier source later) refl h
      where
        past : (origin : Snapshot) → IsOrigin pool origin (dataset_of_snapshot later) → (b : Bool) → marks source origin ≡ b → (b || is_before_in most pool source origin) ≡ true
            → StandsBeforeSnapshot pool source later
        past origin is true e h = AtOrigin (dataset_of_snapshot later) (Some later.number) origin is (tested_marks source here origin is.snapshot_there e)
        past origin is false e h = BeforeOrigin (dataset_of_snapshot later) (Some later.number) origin is (rest origin h)

        at : (o : Option Snapshot) → origin_of pool later ≡ o
            → option_map_or (λ origin. marks source origin || is_before_in most pool source origin)
            (option_and_then (λ origin. if nat_lt origin.number later.number then Some origin else None) o) false ≡ true → StandsBeforeSnapshot pool source later
        at None e h = absurd (true≢false (sym h))
        at (Some origin) e h = go (nat_lt origin.number later.number) h
          where
            go : (b : Bool) → option_map_or (λ origin. marks source origin || is_before_in most pool source origin) (if b then Some origin else None) false ≡ true → StandsBeforeSnapshot pool source later
            go true h = past origin (found_is_origin later origin e) (marks source origin) refl h
            go false h = absurd (true≢false (sym h))

        either : (b : Bool) → is_earlier source later ≡ b → (b || option_map_or (λ origin. marks source origin || is_before_in most pool source origin) (earlier_origin pool later) false) ≡ true
            → StandsBeforeSnapshot pool source later
        either true e h = tested_earlier source later e
        either false e h = at (origin_of pool later) refl h

    tested_stands : (most : ℕ) (later : Snapshot) → is_before_in most pool source later ≡ true → StandsBeforeSnapshot pool source later
    unfolding is_before_in
    tested_stands zero later h = tested_earlier source later h
    tested_stands (suc most) later h = one_step most (λ origin. tested_stands most origin) later h

  -- and what stands before is said yes to, in as many steps as the snapshot's number
  module _ (sound : Sound pool) (source : Source) where
    is_earlier_so : (later : Snapshot) → dataset_of_source source ≡ dataset_of_snapshot later → number_of_source source < later.number → is_earlier source later ≡ true
    is_earlier_so later of less =
        let same = bytes_same (dataset_of_source source) (dataset_of_snapshot later) of in
        grind (same, less, nat_tests, arith)

    earlier_is_tested : (most : ℕ) (later : Snapshot) → dataset_of_source source ≡ dataset_of_snapshot later → number_of_source source < later.number
        → is_before_in most pool source later ≡ true
    unfolding is_before_in
    earlier_is_tested zero later of less = is_earlier_so later of less
    earlier_is_tested (suc most) later of less =
        ap (λ b. b || option_map_or (λ origin. marks source origin || is_before_in most pool source origin) (earlier_origin pool later) false) (is_earlier_so later of less)

    past_origin : (most : ℕ) (later origin : Snapshot) → IsOrigin pool origin (dataset_of_snapshot later) → origin.number < later.number
        → (marks source origin || is_before_in most pool source origin) ≡ true → is_before_in (suc most) pool source later ≡ true
    unfolding is_before_in
    past_origin most later origin is less h =
        let below : nat_lt origin.number later.number ≡ true = grind (less, nat_tests, arith) in
        let next : earlier_origin pool later ≡ Some origin =
        ap (option_and_then (λ o. if nat_lt o.number later.number then Some o else None)) (origin_is_found later origin is)
        ∙ ap (λ b. if b then Some origin else None) below in
        or_right (is_earlier source later) (ap (λ o. option_map_or (λ x. marks source x || is_before_in most pool source x) o false) next ∙ h)

    stands_tested : (most : ℕ) (later : Snapshot) → Contains pool.snapshots later → later.number ≤ most → (name : List ℕ) (bound : Option ℕ)
        → name ≡ dataset_of_snapshot later → bound ≡ Some later.number → StandsBefore pool source name bound → is_before_in most pool source later ≡ true
    unfolding is_before_in
    stands_tested most later there least name bound of is (Earlier _ _ same below) = earlier_is_tested most later (same ∙ of) (subst (IsBelow (number_of_source source)) is below)
    stands_tested zero later there least name bound of is (AtOrigin _ _ origin at_origin marked) =
        let less = sound.dated.above origin later there (subst (IsOrigin pool origin) of at_origin) in absurd (omega (arith, less, least))
    stands_tested (suc most) later there least name bound of is (AtOrigin _ _ origin at_origin marked) =
        let own = subst (IsOrigin pool origin) of at_origin in
        past_origin most later origin own (sound.dated.above origin later there own) (ap (λ b. b || is_before_in most pool source origin) (marks_tested source origin marked))
    stands_tested zero later there least name bound of is (BeforeOrigin _ _ origin at_origin before) =
        let less = sound.dated.above origin later there (subst (IsOrigin pool origin) of at_origin) in absurd (omega (arith, less, least))
    stands_tested (suc most) later there least name bound of is (BeforeOrigin _ _ origin at_origin before) =
        let own = subst (IsOrigin pool origin) of at_origin in
        let less = sound.dated.above origin later there own in
        past_origin most later origin own less
        (or_right (marks source origin) (stands_tested most origin own.snapshot_there (omega (arith, less, least)) (dataset_of_snapshot origin) (Some origin.number) refl refl before))

pub before_tested : BeforeIsTested
before_tested pool source snapshot lawful sound here there = (
  (λ h. tested_stands pool lawful source here snapshot.number snapshot h),
  (λ before. stands_tested pool lawful sound source snapshot.number snapshot there (omega arith) (dataset_of_snapshot snapshot) (Some snapshot.number) refl refl before),
)

-- an answer of what was found
pub found_ok : {A : Type 0} (fault : PlanFault) (o : Option A) (x : A) → ok_or o fault ≡ Ok x → o ≡ Some x
found_ok fault None x h = absurd (cc)
found_ok fault (Some y) x h = ap (λ z. Some z) (ok_parts y x h)

-- what is there where a snapshot, a bookmark or a source is found by its name
snapshot_is_named : (name : List ℕ) (pool : Pool) (s : Snapshot) → find_snapshot name pool ≡ Ok s → Contains pool.snapshots s × (s.name ≡ name)
snapshot_is_named name pool s h = named_found (λ (x : Snapshot). x.name) name pool.snapshots s (found_ok (absent (names.Snapshot name)) (snapshot_named name pool) s h)

bookmark_is_named : (name : List ℕ) (pool : Pool) (b : Bookmark) → find_bookmark name pool ≡ Ok b → Contains pool.bookmarks b × (b.name ≡ name)
bookmark_is_named name pool b h = named_found (λ (x : Bookmark). x.name) name pool.bookmarks b (found_ok (absent (names.Bookmark name)) (bookmark_named name pool) b h)

source_is_named : (from : Option FromName) (pool : Pool) (source : Option Source) → find_source from pool ≡ Ok source
    → IfSome source (IsIn pool) × (option_map name_of_source source ≡ option_map name_of_from from)
source_is_named None pool source h = let same = ok_parts None source h in subst (λ o. IfSome o (IsIn pool) × (option_map name_of_source o ≡ None)) same (tt, refl)
source_is_named (Some (Snap name)) pool source h =
    let found = bind_ok (find_snapshot name pool) (λ s. Ok (Some (OfSnapshot s))) source h in
    let is = snapshot_is_named name pool found.0 found.1 in
    subst (λ o. IfSome o (IsIn pool) × (option_map name_of_source o ≡ Some (names.Snapshot name))) (ok_parts (Some (OfSnapshot found.0)) source found.2)
    (is.0, ap (λ n. Some (names.Snapshot n)) is.1)
source_is_named (Some (Book name)) pool source h =
    let found = bind_ok (find_bookmark name pool) (λ b. Ok (Some (OfBookmark b))) source h in
    let is = bookmark_is_named name pool found.0 found.1 in
    subst (λ o. IfSome o (IsIn pool) × (option_map name_of_source o ≡ Some (names.Bookmark name))) (ok_parts (Some (OfBookmark found.0)) source found.2)
    (is.0, ap (λ n. Some (names.Bookmark n)) is.1)

redaction_is_named : (redact : Option (List ℕ)) (pool : Pool) (list : Option Bookmark) → find_redaction redact pool ≡ Ok list
    → IfSome list (Contains pool.bookmarks) × (option_map (λ bookmark. bookmark.name) list ≡ redact)
redaction_is_named None pool list h = let same = ok_parts None list h in subst (λ (o : Option Bookmark). IfSome o (Contains pool.bookmarks) × (option_map (λ bookmark. bookmark.name) o ≡ None)) same (tt, refl)
redaction_is_named (Some name) pool list h =
    let found = bind_ok (find_bookmark name pool) (λ b. Ok (Some b)) list h in
    let is = bookmark_is_named name pool found.0 found.1 in
    subst (λ (o : Option Bookmark). IfSome o (Contains pool.bookmarks) × (option_map (λ bookmark. bookmark.name) o ≡ Some name)) (ok_parts (Some found.0) list found.2)
    (is.0, ap (λ n. Some n) is.1)

-- what passed each check
before_passed : (pool : Pool) (s : Snapshot) (source : Option Source) (rest : Result Sent PlanFault) (sent : Sent) → if_before pool s source rest ≡ Ok sent
    → IfSome source (λ x. comes_before pool x s ≡ true) × (rest ≡ Ok sent)
before_passed pool s None rest sent h = (tt, h)
before_passed pool s (Some source) rest sent h =
    let ok = unless_ok (not (comes_before pool source s)) (plans.NotAncestor (names.Snapshot s.name) (name_of_source source)) rest sent h in
    (not-false (comes_before pool source s) ok.0, ok.1)

redaction_passed : (pool : Pool) (s : Snapshot) (list : Option Bookmark) (rest : Result Sent PlanFault) (sent : Sent) → IfSome list (Contains pool.bookmarks)
    → if_redaction s list rest ≡ Ok sent → IfSome list (IsRedactionOf pool s) × (rest ≡ Ok sent)
redaction_passed pool s None rest sent there h = (tt, h)
redaction_passed pool s (Some bookmark) rest sent there h =
    let ok = unless_ok (not (redacts_snapshot bookmark s)) (plans.NotRedactionOf bookmark.name s.name) rest sent h in
    let yes_it = not-false (redacts_snapshot bookmark s) ok.0 in
    (record { there = there; guid = grind (yes_it, nat_tests, arith); guids = grind (yes_it, nat_tests, arith) }, ok.1)

-- what isn't told as redacted once more isn't
pub is_once : (s : Snapshot) (list : Option Bookmark) → (has_guids s.redact && is_some list) ≡ false → IsOnce s list
is_once s list h bookmark given = no_guids s.redact (first_fails (has_guids s.redact) (ap (λ (o : Option Bookmark). has_guids s.redact && is_some o) (sym given) ∙ h))
  where
    first_fails : (b : Bool) → (b && true) ≡ false → b ≡ false
    first_fails true e = absurd (true≢false e)
    first_fails false e = refl

relay_passed : (s : Snapshot) (list : Option Bookmark) (rest : Result Sent PlanFault) (sent : Sent) → if_no_relay s list rest ≡ Ok sent → IsOnce s list × (rest ≡ Ok sent)
relay_passed s list rest sent h =
    let ok = unless_ok (has_guids s.redact && is_some list) (plans.Unsupported lacks.Relay) rest sent h in (is_once s list ok.0, ok.1)

-- a source that passed the test stands before
sources_stand : (pool : Pool) → IsPool pool → (s : Snapshot) (o : Option Source) → IfSome o (IsIn pool) → IfSome o (λ x. comes_before pool x s ≡ true)
    → IfSome o (λ x. StandsBeforeSnapshot pool x s)
sources_stand pool lawful s None here h = tt
sources_stand pool lawful s (Some x) here h = tested_stands pool lawful x here s.number s h

-- what is planned is of the pool
pub planned_of_pool : PlansAreOfPool
unfolding send_plan
planned_of_pool ask pool sent lawful h =
    let s = bind_ok (find_snapshot ask.snap pool) (λ snapshot. find_source ask.from pool >>= (λ source. find_redaction ask.redact pool >>= (λ redaction. sent_of pool snapshot source redaction))) sent h in
    let f = bind_ok (find_source ask.from pool) (λ source. find_redaction ask.redact pool >>= (λ redaction. sent_of pool s.0 source redaction)) sent s.2 in
    let l = bind_ok (find_redaction ask.redact pool) (λ redaction. sent_of pool s.0 f.0 redaction) sent f.2 in
    let own = snapshot_is_named ask.snap pool s.0 s.1 in
    let from = source_is_named ask.from pool f.0 f.1 in
    let list = redaction_is_named ask.redact pool l.0 l.1 in
    let made : Sent = record { snapshot = s.0; kind = kind_of pool s.0; source = f.0; redaction = l.0 } in
    let past_before = before_passed pool s.0 f.0 (if_redaction s.0 l.0 (if_no_relay s.0 l.0 (Ok made))) sent l.2 in
    let past_redaction = redaction_passed pool s.0 l.0 (if_no_relay s.0 l.0 (Ok made)) sent list.0 past_before.1 in
    let past_relay = relay_passed s.0 l.0 (Ok made) sent past_redaction.1 in
    let owner = All-contains (λ x. HasDataset pool (dataset_of_snapshot x)) pool.snapshots s.0 lawful.linked.snapshots own.0 in
    subst (IsPlanned ask pool) (ok_parts made sent past_relay.1) (record {
      is_of = record {
        snapshot = own.0;
        dataset = owner.0;
        there = owner.1;
        named = owner.2;
        kind = ap (λ o. option_map_or (λ dataset. dataset.kind) o 0) (dataset_found pool lawful owner.0 (dataset_of_snapshot s.0) owner.1 owner.2);
        source = from.0;
        redaction = past_redaction.0;
      };
      snapshot = own.1;
      source = from.1;
      redaction = list.1;
      before = sources_stand pool lawful s.0 f.0 from.0 past_before.0;
      once = past_relay.0;
    })

-- what is left once all is found
pub all_left : (ask : SendAsk) (pool : Pool) (snapshot : Snapshot) (source : Option Source) (list : Option Bookmark) → find_snapshot ask.snap pool ≡ Ok snapshot
    → find_source ask.from pool ≡ Ok source → find_redaction ask.redact pool ≡ Ok list → send_plan ask pool ≡ sent_of pool snapshot source list
unfolding send_plan
all_left ask pool snapshot source list has_snapshot has_source has_list =
    ap (λ r. r >>= (λ snapshot. find_source ask.from pool >>= (λ source. find_redaction ask.redact pool >>= (λ redaction. sent_of pool snapshot source redaction)))) has_snapshot
    ∙ ap (λ r. r >>= (λ source. find_redaction ask.redact pool >>= (λ redaction. sent_of pool snapshot source redaction))) has_source
    ∙ ap (λ r. r >>= (λ redaction. sent_of pool snapshot source redaction)) has_list

pub negated : (b : Bool) → (b ≡ true → ⊥) → not b ≡ true
negated true h = absurd (h refl)
negated false h = refl

-- the checks behind E6 don't give it
no_ancestor_fault : (snapshot : Snapshot) (source : Option Source) (list : Option Bookmark) (to from : Name) (kind : ℕ)
    → if_redaction {A = Sent} snapshot list (if_no_relay snapshot list (Ok (record { snapshot = snapshot; kind = kind; source = source; redaction = list }))) ≡ Err (plans.NotAncestor to from) → ⊥
no_ancestor_fault snapshot source list to from kind h = of_list list h
  where
    of_relay : (b : Bool) (r : Sent) → unless b (plans.Unsupported lacks.Relay) (Ok r) ≡ Err (plans.NotAncestor to from) → ⊥
    of_relay true r h = cc
    of_relay false r h = cc

    of_redaction : (b : Bool) (bookmark snap : List ℕ) (r : Sent) → unless b (plans.NotRedactionOf bookmark snap) (if_no_relay snapshot list (Ok r)) ≡ Err (plans.NotAncestor to from) → ⊥
    of_redaction true bookmark snap r h = cc
    of_redaction false bookmark snap r h = of_relay (has_guids snapshot.redact && is_some list) r h

    of_list : (o : Option Bookmark) → if_redaction {A = Sent} snapshot o (if_no_relay snapshot list (Ok (record { snapshot = snapshot; kind = kind; source = source; redaction = list }))) ≡ Err (plans.NotAncestor to from) → ⊥
    of_list None h = of_relay (has_guids snapshot.redact && is_some list) (record { snapshot = snapshot; kind = kind; source = source; redaction = list }) h
    of_list (Some bookmark) h = of_redaction (not (redacts_snapshot bookmark snapshot)) bookmark.name snapshot.name (record { snapshot = snapshot; kind = kind; source = source; redaction = list }) h

-- E6 comes exactly where Before says no
pub ancestor_wanted : AncestorIsWanted
ancestor_wanted ask pool snapshot source list lawful sound has_snapshot has_source has_list =
    let here = (source_is_named ask.from pool (Some source) has_source).0 in
    let own = snapshot_is_named ask.snap pool snapshot has_snapshot in
    let fault = plans.NotAncestor (names.Snapshot snapshot.name) (name_of_source source) in
    let sent : Sent = record { snapshot = snapshot; kind = kind_of pool snapshot; source = Some source; redaction = list } in
    let last = if_no_relay snapshot list (Ok sent) in
    let rest = if_redaction snapshot list last in
    let left = all_left ask pool snapshot (Some source) list has_snapshot has_source has_list in
    let tested = before_tested pool source snapshot lawful sound here own.0 in (
      (λ refused before. no_ancestor_fault snapshot (Some source) list (names.Snapshot snapshot.name) (name_of_source source) (kind_of pool snapshot)
          (sym (ap (λ b. unless (not b) fault rest) (tested.1 before)) ∙ sym left ∙ refused)),
      (λ none. left ∙ ap (λ b. unless b fault rest) (negated (comes_before pool source snapshot) (λ h. none (tested.0 h)))),
    )

-- a plan has what is found by the asked names
pub record HasFound (ask : SendAsk) (pool : Pool) (sent : Sent) : Type 0 where
  pub snapshot : find_snapshot ask.snap pool ≡ Ok sent.snapshot
  pub source : find_source ask.from pool ≡ Ok sent.source
  pub redaction : find_redaction ask.redact pool ≡ Ok sent.redaction
  pub kind : sent.kind ≡ kind_of pool sent.snapshot

pub plan_has_found : (ask : SendAsk) (pool : Pool) (sent : Sent) → send_plan ask pool ≡ Ok sent → HasFound ask pool sent
unfolding send_plan
plan_has_found ask pool sent h =
    let s = bind_ok (find_snapshot ask.snap pool) (λ snapshot. find_source ask.from pool >>= (λ source. find_redaction ask.redact pool >>= (λ redaction. sent_of pool snapshot source redaction))) sent h in
    let f = bind_ok (find_source ask.from pool) (λ source. find_redaction ask.redact pool >>= (λ redaction. sent_of pool s.0 source redaction)) sent s.2 in
    let l = bind_ok (find_redaction ask.redact pool) (λ redaction. sent_of pool s.0 f.0 redaction) sent f.2 in
    let list = redaction_is_named ask.redact pool l.0 l.1 in
    let made : Sent = record { snapshot = s.0; kind = kind_of pool s.0; source = f.0; redaction = l.0 } in
    let past_before = before_passed pool s.0 f.0 (if_redaction s.0 l.0 (if_no_relay s.0 l.0 (Ok made))) sent l.2 in
    let past_redaction = redaction_passed pool s.0 l.0 (if_no_relay s.0 l.0 (Ok made)) sent list.0 past_before.1 in
    let past_relay = relay_passed s.0 l.0 (Ok made) sent past_redaction.1 in
    subst (HasFound ask pool) (ok_parts made sent past_relay.1) (record { snapshot = s.1; source = f.1; redaction = l.1; kind = refl })
