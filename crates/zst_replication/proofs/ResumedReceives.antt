-- A receive of a send that goes on with a partial state of its target, and what is sent for it.
use Rattle.std.proofs.Common.{◌≡◌, ℕ, ◌+◌, ◌==◌, ◌&&◌, Bool, true, not, List, [], ◌++◌, ◌∷◌, Option, Some, None, Result, Ok, Err, refl, sym, ap, ◌∙◌, subst, eq-eqb}
use Rattle.std.specs.Prelude.{bit_and, bit_or, bytes_eq, if◌then◌else◌}
use Rattle.std.specs.Option.{option_map_or}
use Rattle.std.proofs.lemmas.List.Elements.{All-contains}
use Rattle.zst_model.proofs.OrderLaws.{bytes_same, same_bytes}
use Rattle.zst_model.specs.declared.refusals.plan_fault.PlanFault.{PlanFault}
use Rattle.zst_model.specs.declared.refusals.plan_fault.PlanFault.TheVariants as plans
use Rattle.zst_model.specs.declared.sends.header.Header.{Header}
use Rattle.zst_model.specs.declared.sends.header.Point.{Point}
use Rattle.zst_model.specs.pools.KeptPool.{kept_of}
use Rattle.zst_model.specs.pools.Pool.{HasSnapshot, IsPool, Partial, Pool, Snapshot, partial_of, snapshot_named}
use Rattle.zst_model.specs.sends.Features.{redacts, resuming, sa_spill}
use Rattle.zst_model.specs.sends.Headers.{Sent, features_of, header_of, redacted_part, redaction_guids, sent_view}
use Rattle.zst_model.specs.sends.PartialProgress.{IsPartWay}
use Rattle.zst_model.specs.sends.Target.{target}
use Rattle.zst_model.specs.sends.View.{View}
use Rattle.zst_model.specs.states.AppliedItems.{unless, ◌>>=◌}
use Rattle.zst_model.specs.states.State.{State}
use Rattle.zst_model.proofs.FoundElements.{own_target, found_passes}
use Rattle.zst_model.proofs.Results.{ok_parts}
use Rattle.zst_plan.specs.RecvPlan.{RecvPlan, Resumes, fresh_plan, goes_on, is_resumed, recv_plan, resumed_plan, snapshot_name, wrong_resume}
use Rattle.zst_plan.specs.declared.receive.RecvAsk.{RecvAsk}
use Rattle.zst_token.specs.PartialToken.{token_for}
use Rattle.zst_send.specs.Sends.{begun}
use Rattle.zst_recv.specs.Feeds.{receives}
use Rattle.zst_recv.specs.ReceiveSteps.{pool_of}
use Rattle.zst_recv.specs.Tokens.{token_of_partial}
use Rattle.zst_replication.specs.Grounds.{Grounds}
use Rattle.zst_replication.specs.KeptReceives.{keep_by}
use Rattle.zst_replication.specs.Outcomes.{HasOneMore, Progress, course_on}
use Rattle.zst_replication.specs.Resumption.{FitRestIsReceived, IsUnderway, RestIsReceived, ResumedStopsAreProgress, TokensGoOn}
use Rattle.zst_replication.proofs.ReceivePlans.{resumes}
use Rattle.zst_replication.proofs.ReplicaLemmas.{BeginsWith, made, progressed, received}

-- ---- the receive

module _ (sent : Sent) (state : State) (ask : RecvAsk) (pool : Pool) (partial : Partial) (lawful : IsPool pool) (underway : IsUnderway sent ask.target state pool partial) where
  -- no snapshot of the target has the component
  free : HasSnapshot pool (snapshot_name ask.target partial.component) → ⊥
  free =
      subst (λ (t : List ℕ). HasSnapshot pool (snapshot_name t partial.component) → ⊥) (own_target ask.target pool partial underway.there)
      (All-contains (λ (p : Partial). HasSnapshot pool (p.target ++ 64 ∷ p.component) → ⊥) pool.partials partial lawful.linked.components
      (found_passes (λ (p : Partial). bytes_eq p.target ask.target) pool.partials partial underway.there).0)

  new : snapshot_named (snapshot_name ask.target partial.component) pool ≡ None
  new = go (snapshot_named (snapshot_name ask.target partial.component) pool) refl
    where
      go : (o : Option Snapshot) → snapshot_named (snapshot_name ask.target partial.component) pool ≡ o → o ≡ None
      go None e = refl
      go (Some snapshot) e =
          let found = found_passes (λ (s : Snapshot). bytes_eq s.name (snapshot_name ask.target partial.component)) pool.snapshots snapshot e in
          absurd (free (snapshot, found.0, same_bytes snapshot.name (snapshot_name ask.target partial.component) found.1))

  is_kept : keep_by ask pool ≡ true
  is_kept = ap (λ (o : Option Partial). option_map_or (λ old. old.keep) o ask.keep) underway.there ∙ underway.kept

  pub begins_with : BeginsWith sent (Some partial.point) ask pool state partial
  begins_with = record {
    plan = Resumes partial;
    only = λ other e. resumes ask (begun sent (Some partial.point)) pool partial other underway.there e;
    opens = refl;
    header = underway.way.header;
    point = refl;
    stands = underway.way.objects;
    new = new;
    kept = λ fleeting. absurd (let both = sym is_kept ∙ fleeting in cc);
  }

-- what is underway to what is sent is so to what another send gives of the same view
pub also_underway : (sent also : Sent) (target : List ℕ) (state : State) (pool : Pool) (partial : Partial) → sent_view also ≡ sent_view sent → IsUnderway sent target state pool partial
    → IsUnderway also target state pool partial
also_underway sent also target state pool partial same underway =
    record { there = underway.there; kept = underway.kept; way = subst (λ (v : View). IsPartWay v state partial.point partial) (sym same) underway.way }

pub resumed_progress : Grounds → ResumedStopsAreProgress
resumed_progress laws sent also state ask pool partial pieces lawful underway rest of =
    subst (λ (v : View). Progress ask v (course_on partial state) (kept_of pool) (kept_of (pool_of (receives ask pool pieces)))) rest.same_view
    (progressed laws also (Some partial.point) rest.sendable ask pool state partial
    (begins_with also state ask pool partial lawful (also_underway sent also ask.target state pool partial rest.same_view underway)) pieces of)

pub rest_received : Grounds → RestIsReceived
rest_received laws sent also state ask pool after partial last pieces lawful underway rest of e =
    let start = begins_with also state ask pool partial lawful (also_underway sent also ask.target state pool partial rest.same_view underway) in
    let end = received laws also (Some partial.point) rest.sendable ask pool state partial start after last pieces of e in (
      start.stands.whole,
      subst (λ (v : View). target v state ≡ Ok start.stands.whole) rest.same_view start.stands.is_target,
      subst (λ (v : View). HasOneMore pool after ask.target partial.component partial.base v.header start.stands.whole) rest.same_view end.more,
    )

pub fit_received : Grounds → FitRestIsReceived
fit_received laws sent also state ask pool after partial last pieces lawful underway rest of can is_state fit e =
    let end = rest_received laws sent also state ask pool after partial last pieces lawful underway rest of e in
    subst (λ (s : State). HasOneMore pool after ask.target partial.component partial.base (header_of sent) s)
    (ok_parts _ _ (sym end.1 ∙ made laws sent None can state is_state fit)) end.2

-- ---- its token

same_is : (n : ℕ) → (n == n) ≡ true
same_is n = eq-eqb n n refl

says_resuming : (guids : List ℕ) → not (bit_and (bit_or (redacted_part guids + sa_spill) resuming) resuming == 0) ≡ true
unfolding sa_spill resuming redacts
says_resuming [] = refl
says_resuming (guid ∷ guids) = refl

is_resuming : (sent : Sent) (point : Point) → is_resumed (begun sent (Some point)) ≡ true
unfolding features_of
is_resuming sent point = says_resuming (redaction_guids sent.snapshot sent.redaction)

goes_so : (partial : Partial) (header : Header) → partial.header ≡ header → (features : ℕ) → goes_on partial (record header { features = features; resume = Some partial.point }) ≡ true
goes_so partial header same features =
    ap (λ (h : Header). goes_on partial (record h { features = features; resume = Some partial.point })) (sym same)
    ∙ ap (λ (t : Bool). (t && (partial.header.from == partial.header.from)) && points) (same_is partial.header.to)
    ∙ ap (λ (t : Bool). t && points) (same_is partial.header.from)
    ∙ ap (λ (t : Bool). (t && (partial.point.offset == partial.point.offset)) && guids) (same_is partial.point.object)
    ∙ ap (λ (t : Bool). t && guids) (same_is partial.point.offset)
    ∙ ap (λ (t : Bool). t && bytes_eq partial.header.from_redact partial.header.from_redact) (bytes_same partial.header.redact partial.header.redact refl)
    ∙ bytes_same partial.header.from_redact partial.header.from_redact refl
  where
    guids : Bool
    guids = bytes_eq partial.header.redact partial.header.redact && bytes_eq partial.header.from_redact partial.header.from_redact

    points : Bool
    points = ((partial.point.object == partial.point.object) && (partial.point.offset == partial.point.offset)) && guids

pub tokens_go_on : TokensGoOn
unfolding recv_plan
tokens_go_on sent state ask pool partial component underway named = (
  ap (token_of_partial ask.target) underway.there
      ∙ ap (λ (t : Bool). if t then Ok (token_for partial.header partial.point) else Err (plans.NoPartial ask.target)) underway.kept
      ∙ ap (λ (h : Header). Ok (token_for h partial.point)) underway.way.header,
  ap (λ (r : Result (List ℕ) PlanFault). r >>= next) named ∙ ap (λ (o : Option Partial). option_map_or (resumed_plan header) o (fresh_plan ask header component pool)) underway.there
      ∙ ap (λ (t : Bool). unless (not t) (plans.PartialExists partial.target) goes) (is_resuming sent partial.point)
      ∙ ap (λ (t : Bool). unless (not t) (wrong_resume partial header) (Ok (Resumes partial))) (goes_so partial (header_of sent) underway.way.header header.features),
)
  where
    header : Header
    header = begun sent (Some partial.point)

    next : List ℕ → Result RecvPlan PlanFault
    next component = option_map_or (resumed_plan header) (partial_of ask.target pool) (fresh_plan ask header component pool)

    goes : Result RecvPlan PlanFault
    goes = unless (not (goes_on partial header)) (wrong_resume partial header) (Ok (Resumes partial))
