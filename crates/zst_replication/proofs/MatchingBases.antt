-- Which bases match what is sent.
use Rattle.std.proofs.Common.{◌≡◌, ℕ, ◌<◌, ◌^◌, ◌==◌, false, List, [], ◌∷◌, ◌++◌, length, map, Option, Some, None, option_map, Ok, refl, sym, ap, ◌∙◌, subst, arith}
use Rattle.std.specs.Prelude.{Contains, IfSome}
use Rattle.std.proofs.lemmas.Bool.Decides.{nat_tests}
use Rattle.std.proofs.lemmas.List.Elements.{All-contains, Contains-append_left}
use Rattle.zst_laws.specs.Bases.{AnyIsFullBase}
use Rattle.zst_laws.specs.SendPlans.{IsPlanned, PlansAreOfPool, StandsBeforeSnapshot}
use Rattle.zst_laws.specs.RememberedStates.{OwnIsRemembered, RememberedIsBase, SourceRemembers}
use Rattle.zst_model.proofs.InsertedLaws.{contains-map}
use Rattle.zst_model.specs.declared.sends.header.Header.{Header}
use Rattle.zst_model.specs.fields.Guids.{IsGuidSet}
use Rattle.zst_model.specs.fields.Lists.{IsRunList}
use Rattle.zst_model.specs.pools.Ancestry.{Source, OfSnapshot, OfBookmark, IsIn, number_of_source}
use Rattle.zst_model.specs.pools.Pool.{Bookmark, IsGuid, IsPool, Pool, Snapshot, partial_of}
use Rattle.zst_model.specs.pools.Rows.{head_row, partial_row, rows, snapshot_row}
use Rattle.zst_model.specs.sends.Headers.{Sent, IsOf, choice_of, from_guid, guid_of_source, header_of, redaction_list, source_list}
use Rattle.zst_model.specs.sends.Target.{BaseOk}
use Rattle.zst_model.specs.states.State.{IsState, State}
use Rattle.zst_plan.specs.RecvPlan.{Base, Begins, base_for, recv_plan}
use Rattle.zst_plan.specs.declared.receive.RecvAsk.{RecvAsk}
use Rattle.zst_replication.specs.MatchingBases.{BasesMatch, FullMatches, KnowsSource, SourceIsKnown}
use Rattle.zst_replication.specs.Outcomes.{base_objects}
use Rattle.zst_replication.specs.Replicas.{MatchesBase}
use Rattle.zst_replication.proofs.ReceivePlans.{base_there, begins_anew, lawful_base}

-- the base that a receive begins with
base_is : (ask : RecvAsk) (header : Header) (pool : Pool) (component : List ℕ) (base : Base) → partial_of ask.target pool ≡ None → recv_plan ask header pool ≡ Ok (Begins component base) → base_for ask header pool ≡ Ok base
base_is ask header pool component base none begins =
    let fresh = begins_anew ask header pool (Begins component base) none begins in
    let same : Begins component base ≡ Begins fresh.component fresh.base = fresh.plan_is in
    let is : fresh.base ≡ base = cc in
    fresh.based ∙ ap (λ (b : Base). Ok b) is

pub full_match : AnyIsFullBase → FullMatches
full_match law sent ask pool lawful is none whole component base begins =
    subst (λ (source : Option Source). BaseOk (base_objects base).state sent.snapshot.objects (record { from = option_map number_of_source source; source = source_list source; redact = redaction_list sent.redaction })) (sym whole)
    (law (base_objects base).state sent.snapshot.objects (redaction_list sent.redaction) (lawful_base ask (header_of sent) pool base is (base_is ask (header_of sent) pool component base none begins)) lawful)

pub source_known : OwnIsRemembered → SourceIsKnown
source_known law from source own into sound there is same snapshot has guid =
    subst (λ (s : State). SourceRemembers from source s) (sym (same snapshot has guid)) (law from source own sound there is)

module _ (pool : Pool) (is : IsPool pool) where
  snapshot_is : (snapshot : Snapshot) → Contains pool.snapshots snapshot → IsGuid snapshot.guid × IsGuidSet snapshot.redact × IsState snapshot.objects.state × (snapshot.time < 2 ^ 64)
  snapshot_is snapshot there = All-contains (λ (s : Snapshot). IsGuid s.guid × IsGuidSet s.redact × IsState s.objects.state × (s.time < 2 ^ 64)) pool.snapshots snapshot is.snapshots there

  pub some_guid : (source : Source) → IsIn pool source → 0 < guid_of_source source
  some_guid (OfSnapshot snapshot) there = (snapshot_is snapshot there).0.0
  some_guid (OfBookmark bookmark) there =
      (All-contains (λ (b : Bookmark). IsGuid b.guid × IsGuidSet b.redact × IsRunList b.runs × (b.time < 2 ^ 64)) pool.bookmarks bookmark is.bookmarks there).0.0

-- what has guids isn't empty
pub isnt_empty : (guids : List ℕ) → 0 < length guids → guids ≡ [] → ⊥
isnt_empty [] some e = let never : 0 < 0 = some in omega (arith, never)
isnt_empty (guid ∷ guids) some e = cc

pub not_full : (guid : ℕ) → 0 < guid → (guid == 0) ≡ false
not_full guid some = grind (arith, nat_tests, some)

snapshot_row_there : (pool : Pool) (snapshot : Snapshot) → Contains pool.snapshots snapshot → Contains (rows pool) (snapshot_row snapshot)
snapshot_row_there pool snapshot there =
    Contains-append_left (map snapshot_row pool.snapshots) (map (head_row pool.number) pool.datasets ++ map (partial_row pool.number) pool.partials) (snapshot_row snapshot)
    (contains-map snapshot_row pool.snapshots snapshot there)

module _ (law : RememberedIsBase) (from : Pool) (sent : Sent) (receive : RecvAsk) (into : Pool) (is : IsPool from) (also : IsPool into) (none : partial_of receive.target into ≡ None) (of : IsOf from sent) where
  from_source : (source : Source) → sent.source ≡ Some source → IsIn from source → StandsBeforeSnapshot from source sent.snapshot → KnowsSource from (Some source) into → MatchesBase sent receive into
  from_source source is_from there before knows component base begins =
      let good = base_there receive (header_of sent) into base (base_is receive (header_of sent) into component base none begins) in
      let guid : (header_of sent).from ≡ guid_of_source source = ap from_guid is_from in
      let found = good.by_guid (ap (λ (n : ℕ). n == 0) guid ∙ not_full (guid_of_source source) (some_guid from is source there)) in
      let has : Contains into.snapshots found.0 = subst (λ (o : Option Snapshot). IfSome o (λ s. Contains into.snapshots s)) found.1 good.there in
      let state : (base_objects base).state ≡ found.0.objects.state = ap (λ (o : Option Snapshot). (base_objects (record { snapshot = o; rolls = false })).state) found.1 in
      let fit = law from source found.0.objects.state (snapshot_row sent.snapshot) (source_list (Some source)) (redaction_list sent.redaction) is (snapshot_is into also found.0 has).2
      (knows found.0 has (found.2 ∙ guid)) (snapshot_row_there from sent.snapshot of.snapshot) before in
      subst (λ (s : State). BaseOk s sent.snapshot.objects (choice_of sent)) (sym state)
      (subst (λ (o : Option Source). BaseOk found.0.objects.state sent.snapshot.objects (record { from = option_map number_of_source o; source = source_list o; redact = redaction_list sent.redaction })) (sym is_from) fit)

pub bases_matched : AnyIsFullBase → RememberedIsBase → PlansAreOfPool → BasesMatch
bases_matched full law plans ask from sent receive into is also none planned knows = go sent.source refl (plan.is_of.source) plan.before knows
  where
    plan : IsPlanned ask from sent
    plan = plans ask from sent is planned

    go : (o : Option Source) → sent.source ≡ o → IfSome o (IsIn from) → IfSome o (λ source. StandsBeforeSnapshot from source sent.snapshot) → KnowsSource from o into → MatchesBase sent receive into
    go None same there before knows = full_match full sent receive into (snapshot_is from is sent.snapshot plan.is_of.snapshot).2 also none same
    go (Some source) same there before knows = from_source law from sent receive into is also none plan.is_of source same there before knows
