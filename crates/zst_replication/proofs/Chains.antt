-- A receive in sessions.
use Rattle.std.proofs.Common.{◌≡◌, ◌⊎◌, inl, inr, ℕ, List, Option, Some, None, refl, sym, ap, ◌∙◌, subst, find}
use Rattle.std.specs.Prelude.{bytes_eq}
use Rattle.std.proofs.lemmas.Option.{same_Some}
use Rattle.zst_model.specs.pools.KeptPool.{kept_of}
use Rattle.zst_model.specs.pools.Pool.{Pool, Partial, partial_of}
use Rattle.zst_model.specs.sends.Headers.{Sent, choice_of, header_of, sent_view}
use Rattle.zst_model.specs.sends.Target.{BaseOk}
use Rattle.zst_model.specs.states.State.{IsState}
use Rattle.zst_model.proofs.FoundElements.{found_kept}
use Rattle.zst_plan.specs.RecvPlan.{Base}
use Rattle.zst_plan.specs.declared.receive.RecvAsk.{RecvAsk}
use Rattle.zst_recv.specs.Feeds.{receives}
use Rattle.zst_recv.specs.ReceiveSteps.{pool_of}
use Rattle.zst_replication.specs.Outcomes.{Course, HasOneMore, Progress, base_name, base_objects, course_from, course_on}
use Rattle.zst_replication.specs.Resumption.{Begun, Between, Chain, ChainsAreUnderway, ChainsComplete, FitRestIsReceived, GoneOn, IsUnderway, ResumedStopsAreProgress}
use Rattle.zst_replication.specs.Replicas.{IsSendable, StopsAreProgress, sent_state}
use Rattle.zst_replication.proofs.FreshReceives.{began_in}
use Rattle.zst_replication.proofs.Rows.{none_left, none_kept}

-- a partial state that a session left was there, or it is underway
left_underway : (sent : Sent) (ask : RecvAsk) (course : Course) (old new : Pool) (partial : Partial) → Progress ask (sent_view sent) course old new → partial_of ask.target new ≡ Some partial
    → (partial_of ask.target old ≡ Some partial) ⊎ (IsUnderway sent ask.target course.state new partial × (partial.component ≡ course.component) × (partial.base ≡ course.base))
left_underway sent ask course old new partial (inl nothing) there = inl (sym (ap (λ (ps : List Partial). find (λ p. bytes_eq p.target ask.target) ps) nothing.partials) ∙ there)
left_underway sent ask course old new partial (inr (inl way)) there =
    let same : way.partial ≡ partial = same_Some way.partial partial (sym way.has.there ∙ there) in
    subst (λ (p : Partial). (partial_of ask.target old ≡ Some p) ⊎ (IsUnderway sent ask.target course.state new p × (p.component ≡ course.component) × (p.base ≡ course.base))) same
    (inr (record { there = way.has.there; kept = way.kept; way = record { header = way.header; reached = refl; objects = way.stands } }, way.named, way.based))
left_underway sent ask course old new partial (inr (inr received)) there =
    let none = ap (λ (ps : List Partial). find (λ p. bytes_eq p.target ask.target) ps) received.more.partials ∙ none_left (λ (p : Partial). bytes_eq p.target ask.target) old.partials in
    absurd (let both = sym there ∙ none in cc)

module _ (stops : StopsAreProgress) (resumed : ResumedStopsAreProgress) (sent : Sent) (target component : List ℕ) (base : Base) where
  abbrev IsOn : Pool → Partial → Type 0
  IsOn pool partial = IsUnderway sent target (base_objects base).state pool partial × (partial.component ≡ component) × (partial.base ≡ base_name base)

  still : (first partial : Partial) (old new : Pool) → first ≡ partial → IsOn old first → partial_of target new ≡ Some partial → IsOn new partial
  still first partial old new same on there =
      subst (λ (p : Partial). IsOn new p) same
      (record { there = there ∙ ap (λ (p : Partial). Some p) (sym same); kept = on.0.kept; way = on.0.way }, on.1, on.2)

  underway : (pool : Pool) → Chain sent target component base pool → (partial : Partial) → partial_of target pool ≡ Some partial → IsOn pool partial
  underway pool (Begun ask start pieces same lawful none matches begins can of) partial there =
      go (left_underway sent ask (course_from component base) (kept_of start) new partial
      (stops sent ask start component base pieces can lawful (subst (λ (t : List ℕ). partial_of t start ≡ None) (sym same) none) matches begins of)
      (subst (λ (t : List ℕ). partial_of t new ≡ Some partial) (sym same) there))
    where
      new : Pool
      new = kept_of (pool_of (receives ask start pieces))

      go : (partial_of ask.target (kept_of start) ≡ Some partial) ⊎ (IsUnderway sent ask.target (base_objects base).state new partial × (partial.component ≡ component) × (partial.base ≡ base_name base)) → IsOn new partial
      go (inl old) =
          let gone = none_kept (λ (p : Partial). bytes_eq p.target target) (λ (p : Partial). p.keep) start.partials none in
          absurd (let both = sym (subst (λ (t : List ℕ). partial_of t (kept_of start) ≡ Some partial) same old) ∙ gone in cc)
      go (inr on) = (subst (λ (t : List ℕ). IsUnderway sent t (base_objects base).state new partial) same on.0, on.1, on.2)
  underway pool (GoneOn also ask start first pieces chain same lawful found rest of) partial there =
      let on = underway start chain first found in
      go on
      (left_underway sent ask (course_on first (base_objects base).state) (kept_of start) new partial
      (resumed sent also (base_objects base).state ask start first pieces lawful (subst (λ (t : List ℕ). IsUnderway sent t (base_objects base).state start first) (sym same) on.0) rest of)
      (subst (λ (t : List ℕ). partial_of t new ≡ Some partial) (sym same) there))
    where
      new : Pool
      new = kept_of (pool_of (receives ask start pieces))

      go : IsOn start first → (partial_of ask.target (kept_of start) ≡ Some partial) ⊎ (IsUnderway sent ask.target (base_objects base).state new partial × (partial.component ≡ first.component) × (partial.base ≡ first.base)) → IsOn new partial
      go on (inl old) =
          let was = found_kept (λ (p : Partial). bytes_eq p.target target) (λ (p : Partial). p.keep) start.partials first found on.0.kept in
          let same : first ≡ partial = same_Some first partial (sym was ∙ subst (λ (t : List ℕ). partial_of t (kept_of start) ≡ Some partial) same old) in
          still first partial start new same on there
      go on (inr now) = (subst (λ (t : List ℕ). IsUnderway sent t (base_objects base).state new partial) same now.0, now.1 ∙ on.1, now.2 ∙ on.2)
  underway pool (Between old _ chain same) partial there = still partial partial old pool refl (underway old chain partial (sym same ∙ there)) there

pub chains_underway : StopsAreProgress → ResumedStopsAreProgress → ChainsAreUnderway
chains_underway stops resumed sent target component base pool partial chain there = underway stops resumed sent target component base pool chain partial there

-- a chain's base is lawful and fit for what is sent
record BeganWell (sent : Sent) (base : Base) : Type 0 where
  can : IsSendable sent None
  lawful : IsState (base_objects base).state
  fit : BaseOk (base_objects base).state sent.snapshot.objects (choice_of sent)

began_well : (sent : Sent) (target component : List ℕ) (base : Base) (pool : Pool) → Chain sent target component base pool → BeganWell sent base
began_well sent target component base pool (Begun ask start pieces same lawful none matches begins can of) = record {
  can = can;
  lawful = (began_in ask (header_of sent) start component base lawful (subst (λ (t : List ℕ). partial_of t start ≡ None) (sym same) none) begins).lawful;
  fit = matches component base begins;
}
began_well sent target component base pool (GoneOn also ask start first pieces chain same lawful found rest of) = began_well sent target component base start chain
began_well sent target component base pool (Between old _ chain same) = began_well sent target component base old chain

pub chains_complete : StopsAreProgress → ResumedStopsAreProgress → FitRestIsReceived → ChainsComplete
chains_complete stops resumed fit sent also target component base ask pool after partial last pieces chain same lawful there rest of e =
    let on = underway stops resumed sent target component base pool chain partial there in
    let well = began_well sent target component base pool chain in
    let more =
    fit sent also (base_objects base).state ask pool after partial last pieces lawful (subst (λ (t : List ℕ). IsUnderway sent t (base_objects base).state pool partial) (sym same) on.0) rest of
    well.can well.lawful well.fit e in
    subst (λ (t : List ℕ). HasOneMore pool after t component (base_name base) (header_of sent) (sent_state sent)) same
    (subst (λ (c : List ℕ). HasOneMore pool after ask.target c (base_name base) (header_of sent) (sent_state sent)) on.1
    (subst (λ (b : Option (List ℕ)). HasOneMore pool after ask.target partial.component b (header_of sent) (sent_state sent)) on.2 more))
