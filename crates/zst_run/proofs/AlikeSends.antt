-- Sends of one view write alike.
use Rattle.std.proofs.Common.{◌≡◌, ◌⊎◌, inl, inr, ⊎_elim, ℕ, Option, None, Result, List, [], ◌∷◌, ◌++◌, Ok, refl, sym, ap, ◌∙◌, subst}
use Rattle.std.proofs.lemmas.List.{append-nil}
use Rattle.zst_outside.specs.Images.{DiskState}
use Rattle.zst_outside.specs.States.{SinkState}
use Rattle.zst_outside.specs.Printing.{Printed, Wrote}
use Rattle.zst_model.specs.declared.refusals.plan_fault.PlanFault.{PlanFault}
use Rattle.zst_model.specs.declared.refusals.refusal.Refusal.{Refusal}
use Rattle.zst_model.specs.declared.sends.ask.SendAsk.{SendAsk}
use Rattle.zst_model.specs.declared.sends.header.Point.{Point}
use Rattle.zst_model.specs.pools.Pool.{Pool}
use Rattle.zst_model.specs.sends.Headers.{Sent}
use Rattle.zst_model.specs.sends.SendPlan.{send_plan}
use Rattle.zst_image.specs.Bodies.{free_by}
use Rattle.zst_image.specs.Reads.{kept_rows}
use Rattle.zst_block.specs.Blocks.{Has}
use Rattle.zst_pool.proofs.NamedPools.{rows_named}
use Rattle.zst_send.specs.Openings.{RowsStandForSends}
use Rattle.zst_send.specs.Sends.{SameViewsSameRest, begun_text}
use Rattle.zst_laws.specs.AlikePools.{AlikePoolsAreSentAlike}
use Rattle.zst_run.specs.declared.send.SendRequest.TheVariants.{Named}
use Rattle.zst_run.specs.Sends.{ReadsForSends, SendEnds, SendsOf, SentAlike, SentOf, TwoWorldsAreSentAlike, start_of, text_for}
use Rattle.zst_run.proofs.PlannedSends.{planned_of}

-- of two fronts of one text one is a front of the other
fronts : (one left other behind : List ℕ) → one ++ left ≡ other ++ behind
    → ((rest : List ℕ) × (other ≡ one ++ rest)) ⊎ ((rest : List ℕ) × (one ≡ other ++ rest))
fronts [] left other behind same = inl (other, refl)
fronts (byte ∷ one) left [] behind same = inr (byte ∷ one, refl)
fronts (byte ∷ one) left (first ∷ other) behind same =
    let head : byte ≡ first = cc in
    let tail : one ++ left ≡ other ++ behind = cc in
    ⊎_elim (λ front. inl (front.0, ap (λ (rest : List ℕ). first ∷ rest) front.1 ∙ ap (λ (b : ℕ). b ∷ (one ++ front.0)) (sym head)))
    (λ front. inr (front.0, ap (λ (rest : List ℕ). byte ∷ rest) front.1 ∙ ap (λ (b : ℕ). b ∷ (other ++ front.0)) head))
    (fronts one left other behind tail)

module _ (sent : Sent) (start : Option Point) (here here' : DiskState) (out out' : SinkState) where
  -- what a send wrote is a front of its text, and at Ok all of it
  wrote : (result : Result (Unit {0}) Refusal) → SendsOf sent start here here' out out' result → (rest : List ℕ) × Wrote out out' (begun_text sent start) rest
  wrote result s =
      subst (λ (at : Option Point). (rest : List ℕ) × Wrote out out' (begun_text sent at) rest) s.begins
      (subst (λ (planned : Result Sent PlanFault). (rest : List ℕ) × Wrote out out' (text_for (start_of s.request) planned) rest) s.is (s.sends.sends s.pool s.honest s.reads).front)

  printed : SendsOf sent start here here' out out' (Ok tt) → Printed out out' (begun_text sent start)
  printed s =
      let ends = subst (λ (planned : Result Sent PlanFault). SendEnds (start_of s.request) planned here.faults here'.faults out out' (Ok tt)) s.is (s.sends.sends s.pool s.honest s.reads).ends in
      subst (λ (at : Option Point). Printed out out' (begun_text sent at)) s.begins ends.printed

all_of : (out out' : SinkState) (text : List ℕ) → Printed out out' text → out'.written ≡ out.written ++ text
all_of out out' text p = p.wrote.appended ∙ ap (λ (bytes : List ℕ). out.written ++ bytes) (sym (p.wrote.is ∙ append-nil p.wrote.printed))

pub sent_alike : SameViewsSameRest → (here here' there there' : DiskState) → SentAlike here here' there there'
sent_alike same here here' there there' = record {
  front = λ sent also start out out' into into' one other views s t.
      let w = wrote sent start here here' out out' one s in
      let v = wrote also start there there' into into' other t in
      record {
        one = w.1.printed;
        other = v.1.printed;
        wrote = w.1.appended;
        wrote_too = v.1.appended;
        front = fronts w.1.printed w.0 v.1.printed v.0 (sym w.1.is ∙ same sent also start views ∙ v.1.is);
      };
  equal = λ sent also start out out' into into' views s t. record {
    bytes = begun_text sent start;
    wrote = all_of out out' (begun_text sent start) (printed sent start here here' out out' s);
    wrote_too =
        all_of into into' (begun_text also start) (printed also start there there' into into' t)
        ∙ ap (λ (bytes : List ℕ). into.written ++ bytes) (sym (same sent also start views));
  };
}

-- ---- two worlds

-- a run of what was asked by names is one of a send
named_run : (ask : SendAsk) (pool : Pool) (sent : Sent) (here here' : DiskState) (out out' : SinkState) (result : Result (Unit {0}) Refusal) → SentOf ask pool sent here here' out out' result
    → SendsOf sent None here here' out out' result
named_run ask pool sent here here' out out' result s =
    record { request = Named ask; begins = refl; pool = pool; honest = s.honest; reads = s.reads; is = s.is; sends = s.sends }

pub worlds_alike : AlikePoolsAreSentAlike → SameViewsSameRest → (here here' there there' : DiskState) → TwoWorldsAreSentAlike here here' there there'
worlds_alike alike same here here' there there' = record {
  front = λ ask pool other sent also out out' into into' one another like s t.
      (sent_alike same here here' there there').front sent also None out out' into into' one another
      (alike ask pool other sent also (planned_of (send_plan ask pool) sent s.is) (planned_of (send_plan ask other) also t.is) like)
      (named_run ask pool sent here here' out out' one s) (named_run ask other also there there' into into' another t);
  equal = λ ask pool other sent also out out' into into' like s t.
      (sent_alike same here here' there there').equal sent also None out out' into into'
      (alike ask pool other sent also (planned_of (send_plan ask pool) sent s.is) (planned_of (send_plan ask other) also t.is) like)
      (named_run ask pool sent here here' out out' (Ok tt) s) (named_run ask other also there there' into into' (Ok tt) t);
}

-- an image that reads as a pool has what each send needs
pub reads_for_sends : RowsStandForSends → ReadsForSends
reads_for_sends law request pool image is =
    let body = is.0 in
    let rows = is.1 in
    let reads = is.2 in
    let all = reads.described in (
      body,
      rows,
      record {
        stands = reads.stands;
        fits = reads.fits;
        in_range = reads.in_range;
        extents = all.extents;
        apart = all.apart;
        directory = all.directory;
        named = record { id = all.id; number = all.number; guids = all.guids; are_named = rows_named (Has image (free_by body)) (kept_rows rows) pool all.rows_are };
        lawful = all.lawful;
        sent = λ sent planned. law image (free_by body) (kept_rows rows) pool sent all.rows_are;
      },
    )
