-- A receive of a send from its beginning.
use Rattle.std.proofs.Common.{◌≡◌, List, ℕ, None, Ok, refl, sym, ap, ◌∙◌, subst}
use Rattle.zst_model.specs.declared.sends.header.Header.{Header}
use Rattle.zst_model.specs.pools.Pool.{Pool, IsPool, partial_of, snapshot_named}
use Rattle.zst_model.specs.sends.Headers.{Sent, header_of, sent_view}
use Rattle.zst_model.specs.sends.Target.{target}
use Rattle.zst_model.specs.states.State.{IsState, State}
use Rattle.zst_model.proofs.Results.{ok_parts}
use Rattle.zst_plan.specs.RecvPlan.{Base, RecvPlan, Begins, recv_plan, snapshot_name}
use Rattle.zst_plan.specs.declared.receive.RecvAsk.{RecvAsk}
use Rattle.zst_recv.specs.ReceiveSteps.{begun}
use Rattle.zst_replication.specs.Grounds.{Grounds}
use Rattle.zst_replication.specs.Outcomes.{HasOneMore, base_name, base_objects}
use Rattle.zst_replication.specs.Replicas.{IsSendable, MatchesBase, SentIsReceived, StopsAreProgress, sent_state}
use Rattle.zst_replication.proofs.ReceivePlans.{begins_anew, lawful_base}
use Rattle.zst_replication.proofs.ReplicaLemmas.{BeginsWith, ended_plan, is_view, made, progressed, received}

-- the base of a plan is lawful, and no snapshot has the component
pub record BeganIn (ask : RecvAsk) (start : Pool) (component : List ℕ) (base : Base) : Type 0 where
  pub lawful : IsState (base_objects base).state
  pub new : snapshot_named (snapshot_name ask.target component) start ≡ None

pub began_in : (ask : RecvAsk) (header : Header) (start : Pool) (component : List ℕ) (base : Base) → IsPool start → partial_of ask.target start ≡ None
    → recv_plan ask header start ≡ Ok (Begins component base) → BeganIn ask start component base
began_in ask header start component base lawful none begins =
    let fresh = begins_anew ask header start (Begins component base) none begins in
    let same : Begins component base ≡ Begins fresh.component fresh.base = fresh.plan_is in
    let named : fresh.component ≡ component = cc in
    let based : fresh.base ≡ base = cc in
    record {
      lawful = subst (λ (b : Base). IsState (base_objects b).state) based (lawful_base ask header start fresh.base lawful fresh.based);
      new = sym (ap (λ (c : List ℕ). snapshot_named (snapshot_name ask.target c) start) named) ∙ fresh.new;
    }

module _ (laws : Grounds) (sent : Sent) (can : IsSendable sent None) (ask : RecvAsk) (start : Pool) (lawful : IsPool start) (none : partial_of ask.target start ≡ None) (matches : MatchesBase sent ask start)
    (component : List ℕ) (base : Base) (begins : recv_plan ask (header_of sent) start ≡ Ok (Begins component base))
  where
    began : BeganIn ask start component base
    began = began_in ask (header_of sent) start component base lawful none begins

    base_made : target (sent_view sent) (base_objects base).state ≡ Ok (sent_state sent)
    base_made = made laws sent None can (base_objects base).state began.lawful (matches component base begins)

    pub begins_with : BeginsWith sent None ask start (base_objects base).state (begun ask (header_of sent) component base)
    begins_with = record {
      plan = Begins component base;
      only = λ other e. ok_parts other (Begins component base) (sym e ∙ begins);
      opens = refl;
      header = refl;
      point = refl;
      stands = laws.starts (sent_view sent) (base_objects base).state (sent_state sent) (is_view laws sent None can) base_made;
      new = began.new;
      kept = λ fleeting. none;
    }

pub stops_progress : Grounds → StopsAreProgress
stops_progress laws sent ask pool component base pieces can lawful none matches begins of =
    progressed laws sent None can ask pool (base_objects base).state (begun ask (header_of sent) component base) (begins_with laws sent can ask pool lawful none matches component base begins) pieces of

pub sent_received : Grounds → SentIsReceived
sent_received laws sent ask pool after partial pieces can lawful none matches of e =
    let plan = ended_plan laws sent None can ask pool after partial pieces of e in
    let fresh = begins_anew ask (header_of sent) pool plan.0 none plan.1 in
    let component = fresh.component in
    let base = fresh.base in
    let begins : recv_plan ask (header_of sent) pool ≡ Ok (Begins component base) = plan.1 ∙ ap (λ (p : RecvPlan). Ok p) fresh.plan_is in
    let first = begun ask (header_of sent) component base in
    let from = begins_with laws sent can ask pool lawful none matches component base begins in
    let end = received laws sent None can ask pool (base_objects base).state first from after partial pieces of e in
    let whole : from.stands.whole ≡ sent_state sent = ok_parts _ _ (sym from.stands.is_target ∙ base_made laws sent can ask pool lawful none matches component base begins) in
    let both =
    subst (λ (c : List ℕ). (recv_plan ask (header_of sent) pool ≡ Ok (Begins c base)) × HasOneMore pool after ask.target c (base_name base) (header_of sent) (sent_state sent)) (sym end.named)
    (begins, subst (λ (s : State). HasOneMore pool after ask.target component (base_name base) (header_of sent) s) whole end.more) in
    (base, both.0, both.1)
