-- What a token finds is of its pool.
use Rattle.std.proofs.Common.{◌≡◌, ◌==◌, ◌&&◌, not, Bool, true, false, List, length, Option, Some, None, option_map, Result, Ok, Err, refl, sym, ap, ◌∙◌, subst, cond, find}
use Rattle.std.specs.Prelude.{Contains, IfSome, bytes_eq, is_some}
use Rattle.std.specs.Option.{ok_or, option_map_or, option_or}
use Rattle.std.proofs.lemmas.Bool.{true≢false, and_parts, eqb-true, ltb-true, not-false}
use Rattle.std.proofs.lemmas.List.Elements.{All-contains}
use Rattle.zst_laws.proofs.pools.SendPlans.{found_ok}
use Rattle.zst_model.proofs.OrderLaws.{bytes_same, same_bytes}
use Rattle.zst_model.specs.declared.refusals.plan_fault.PlanFault.{PlanFault}
use Rattle.zst_model.specs.pools.Ancestry.{Source, OfSnapshot, OfBookmark, IsIn}
use Rattle.zst_model.specs.pools.Pool.{Bookmark, Dataset, HasDataset, IsPool, Pool, Snapshot, dataset_named, dataset_of_snapshot}
use Rattle.zst_model.specs.sends.Headers.{IsOf, IsRedactionOf, Sent}
use Rattle.zst_model.specs.sends.SendPlan.{comes_before, has_guids, if_before, if_no_relay, if_redaction, kind_of, redacts_snapshot, sent_of}
use Rattle.zst_model.specs.states.AppliedItems.{◌>>=◌}
use Rattle.zst_model.proofs.FoundElements.{found_passes, none_passes}
use Rattle.zst_model.proofs.Results.{bind_ok, ok_parts, unless_ok}
use Rattle.zst_plan.specs.ResumePlan.{find_from, find_marked, find_to, first_from, is_from, is_marked, no_guid, resumed_send}
use Rattle.zst_token.specs.declared.token.Token.{Token}

first_there : {A : Type 0} (p : A → Bool) (xs : List A) (fault : PlanFault) (x : A) → ok_or (find p xs) fault ≡ Ok x → Contains xs x
first_there p xs fault x e = (found_passes p xs x (found_ok fault (find p xs) x e)).0

source_from : (snapshots : List Snapshot) (bookmarks : List Bookmark) (p : Snapshot → Bool) (q : Bookmark → Bool) (fault : PlanFault) (source : Option Source) (pool : Pool) → snapshots ≡ pool.snapshots → bookmarks ≡ pool.bookmarks
    → ok_or (option_map Some (option_or (option_map OfSnapshot (find p snapshots)) (option_map OfBookmark (find q bookmarks)))) fault ≡ Ok source → IfSome source (IsIn pool)
source_from snapshots bookmarks p q fault source pool same also e = go (find p snapshots) (find q bookmarks) refl refl e
  where
    go : (s : Option Snapshot) (b : Option Bookmark) → find p snapshots ≡ s → find q bookmarks ≡ b
        → ok_or (option_map Some (option_or (option_map OfSnapshot s) (option_map OfBookmark b))) fault ≡ Ok source → IfSome source (IsIn pool)
    go (Some snapshot) b is found e =
        subst (λ (o : Option Source). IfSome o (IsIn pool)) (ok_parts _ source e)
        (subst (λ (ss : List Snapshot). Contains ss snapshot) same (found_passes p snapshots snapshot is).0)
    go None (Some bookmark) is found e =
        subst (λ (o : Option Source). IfSome o (IsIn pool)) (ok_parts _ source e)
        (subst (λ (bs : List Bookmark). Contains bs bookmark) also (found_passes q bookmarks bookmark found).0)
    go None None is found e = absurd cc

source_there : (token : Token) (pool : Pool) (to : Snapshot) (source : Option Source) → find_from token pool to ≡ Ok source → IfSome source (IsIn pool)
source_there token pool to source e = go (token.from == 0) e
  where
    go : (t : Bool) → cond t (Ok None) (ok_or (option_map Some (first_from token pool to)) (no_guid token.from)) ≡ Ok source → IfSome source (IsIn pool)
    go true e = subst (λ (o : Option Source). IfSome o (IsIn pool)) (ok_parts None source e) tt
    go false e =
        source_from pool.snapshots pool.bookmarks (λ snapshot. is_from token pool to (OfSnapshot snapshot)) (λ bookmark. is_from token pool to (OfBookmark bookmark)) (no_guid token.from) source pool refl refl e

-- the redaction bookmark that a token finds is there
marked_there : (token : Token) (pool : Pool) (to : Snapshot) (redaction : Option Bookmark) → find_marked token pool to ≡ Ok redaction → IfSome redaction (Contains pool.bookmarks)
marked_there token pool to redaction e = same (bytes_eq to.redact token.redact) e
  where
    found : (o : Option Bookmark) → find (is_marked token) pool.bookmarks ≡ o → ok_or (option_map Some o) (no_guid token.to) ≡ Ok redaction → IfSome redaction (Contains pool.bookmarks)
    found None is e = absurd cc
    found (Some bookmark) is e =
        subst (λ (o : Option Bookmark). IfSome o (Contains pool.bookmarks)) (ok_parts (Some bookmark) redaction e) (found_passes (is_marked token) pool.bookmarks bookmark is).0

    listed : (t : Bool) → cond t (ok_or (option_map Some (find (is_marked token) pool.bookmarks)) (no_guid token.to)) (Err (no_guid token.to)) ≡ Ok redaction → IfSome redaction (Contains pool.bookmarks)
    listed true e = found (find (is_marked token) pool.bookmarks) refl e
    listed false e = absurd cc

    same : (t : Bool) → cond t (Ok None) (cond (has_guids token.redact) (ok_or (option_map Some (find (is_marked token) pool.bookmarks)) (no_guid token.to)) (Err (no_guid token.to))) ≡ Ok redaction
        → IfSome redaction (Contains pool.bookmarks)
    same true e = subst (λ (o : Option Bookmark). IfSome o (Contains pool.bookmarks)) (ok_parts None redaction e) tt
    same false e = listed (has_guids token.redact) e

-- what passes the checks of a send is what was found
past_before : (pool : Pool) (snapshot : Snapshot) (source : Option Source) (rest : Result Sent PlanFault) (sent : Sent) → if_before pool snapshot source rest ≡ Ok sent → rest ≡ Ok sent
past_before pool snapshot None rest sent e = e
past_before pool snapshot (Some source) rest sent e = (unless_ok (not (comes_before pool source snapshot)) _ rest sent e).1

-- and its redaction bookmark is one of the snapshot
past_redaction : (pool : Pool) (snapshot : Snapshot) (redaction : Option Bookmark) (rest : Result Sent PlanFault) (sent : Sent) → IfSome redaction (Contains pool.bookmarks)
    → if_redaction snapshot redaction rest ≡ Ok sent → IfSome redaction (IsRedactionOf pool snapshot) × (rest ≡ Ok sent)
past_redaction pool snapshot None rest sent there e = (tt, e)
past_redaction pool snapshot (Some bookmark) rest sent there e =
    let passed = unless_ok (not (redacts_snapshot bookmark snapshot)) _ rest sent e in
    let both = and_parts (has_guids bookmark.redact) (bookmark.guid == snapshot.guid) (not-false (redacts_snapshot bookmark snapshot) passed.0) in
    (record { there = there; guid = eqb-true bookmark.guid snapshot.guid both.1; guids = ltb-true 0 (length bookmark.redact) both.0 }, passed.1)

-- what was found, with its redaction bookmark
record IsFound (pool : Pool) (snapshot : Snapshot) (source : Option Source) (redaction : Option Bookmark) (sent : Sent) : Type 0 where
  same : record { snapshot = snapshot; kind = kind_of pool snapshot; source = source; redaction = redaction } ≡ sent
  redacts : IfSome redaction (IsRedactionOf pool snapshot)

found_is : (pool : Pool) (snapshot : Snapshot) (source : Option Source) (redaction : Option Bookmark) (sent : Sent) → IfSome redaction (Contains pool.bookmarks)
    → sent_of pool snapshot source redaction ≡ Ok sent → IsFound pool snapshot source redaction sent
found_is pool snapshot source redaction sent there e =
    let made : Result Sent PlanFault = Ok (record { snapshot = snapshot; kind = kind_of pool snapshot; source = source; redaction = redaction }) in
    let relay = if_no_relay snapshot redaction made in
    let last = past_redaction pool snapshot redaction relay sent there (past_before pool snapshot source (if_redaction snapshot redaction relay) sent e) in
    record { same = ok_parts _ sent (unless_ok (has_guids snapshot.redact && is_some redaction) _ made sent last.1).1; redacts = last.0 }

-- the dataset of a snapshot is there
record Owner (pool : Pool) (snapshot : Snapshot) : Type 0 where
  dataset : Dataset
  there : Contains pool.datasets dataset
  named : dataset.name ≡ dataset_of_snapshot snapshot
  kind : kind_of pool snapshot ≡ dataset.kind

owner : (pool : Pool) (snapshot : Snapshot) → HasDataset pool (dataset_of_snapshot snapshot) → Owner pool snapshot
owner pool snapshot has = go (dataset_named (dataset_of_snapshot snapshot) pool) refl
  where
    go : (o : Option Dataset) → dataset_named (dataset_of_snapshot snapshot) pool ≡ o → Owner pool snapshot
    go None none =
        absurd (true≢false (sym (bytes_same has.0.name (dataset_of_snapshot snapshot) has.2)
        ∙ none_passes (λ (d : Dataset). bytes_eq d.name (dataset_of_snapshot snapshot)) pool.datasets none has.0 has.1))
    go (Some dataset) found =
        let is = found_passes (λ (d : Dataset). bytes_eq d.name (dataset_of_snapshot snapshot)) pool.datasets dataset found in
        record {
          dataset = dataset;
          there = is.0;
          named = same_bytes dataset.name (dataset_of_snapshot snapshot) is.1;
          kind = ap (λ (o : Option Dataset). option_map_or (λ d. d.kind) o 0) found;
        }

of_found : (pool : Pool) (snapshot : Snapshot) (source : Option Source) (redaction : Option Bookmark) (sent : Sent) → IsPool pool → Contains pool.snapshots snapshot → IfSome source (IsIn pool)
    → IsFound pool snapshot source redaction sent → IsOf pool sent
of_found pool snapshot source redaction sent lawful there from is =
    let own = owner pool snapshot (All-contains (λ (s : Snapshot). HasDataset pool (dataset_of_snapshot s)) pool.snapshots snapshot lawful.linked.snapshots there) in
    subst (λ (s : Sent). IsOf pool s) is.same
    (record { snapshot = there; dataset = own.dataset; there = own.there; named = own.named; kind = own.kind; source = from; redaction = is.redacts })

pub of_token : (token : Token) (pool : Pool) (sent : Sent) → IsPool pool → resumed_send token pool ≡ Ok sent → IsOf pool sent
unfolding resumed_send
of_token token pool sent lawful e =
    let marked : Snapshot → Option Source → Result Sent PlanFault = λ snapshot source. find_marked token pool snapshot >>= (λ redaction. sent_of pool snapshot source redaction) in
    let to = bind_ok (find_to token pool) (λ snapshot. find_from token pool snapshot >>= marked snapshot) sent e in
    let from = bind_ok (find_from token pool to.0) (marked to.0) sent to.2 in
    let mark = bind_ok (find_marked token pool to.0) (λ redaction. sent_of pool to.0 from.0 redaction) sent from.2 in
    of_found pool to.0 from.0 mark.0 sent lawful (first_there (λ snapshot. snapshot.guid == token.to) pool.snapshots (no_guid token.to) to.0 to.1) (source_there token pool to.0 from.0 from.1)
    (found_is pool to.0 from.0 mark.0 sent (marked_there token pool to.0 mark.0 mark.1) mark.2)
