-- A feed that goes on.
use Rattle.std.proofs.Common.{◌≡◌, ◌⊎◌, inl, inr, ℕ, Bool, true, false, List, ◌++◌, length, drop, Option, Some, None, Result, Ok, Err, refl, sym, ap, ◌∙◌, cond, ◌&&◌}
use Rattle.std.proofs.Math.Seq.{drop-append_seam}
use Rattle.zst_model.specs.declared.refusals.refusal.Refusal.{Refusal}
use Rattle.zst_model.specs.pools.Pool.{Pool}
use Rattle.zst_plan.specs.declared.receive.RecvAsk.{RecvAsk}
use Rattle.zst_record.specs.Heads.{Covered}
use Rattle.zst_stream.specs.Laws.{FrontsAgree}
use Rattle.zst_stream.specs.Reading.{reading}
use Rattle.zst_recv.specs.Feeds.{new_records}
use Rattle.zst_recv.specs.ReceiveSteps.{Stage, Goes, Stops, Batch, at_stage, batch_of, committed, fed, first_fault, is_kept, keeps_front, left_by, put, settled}
use Rattle.zst_recv.proofs.PieceStages.{none_first}

-- the records of a longer text are those of its front, and the new ones
pub new_are : FrontsAgree → (text piece : List ℕ) → (reading (text ++ piece)).covered ≡ (reading text).covered ++ new_records text piece
new_are agree text piece =
    let front = agree text piece in
    front.covered ∙ ap (λ (cs : List Covered). (reading text).covered ++ cs) (sym (ap (drop (length (reading text).covered)) front.covered ∙ drop-append_seam (reading text).covered front.others))

-- the records of a feed that goes on are all taken, its reading has no fault, and one commit follows
pub record GoesOn (ask : RecvAsk) (records : List Covered) (fault : Option Refusal) (stage after : Stage) (pool next : Pool) : Type 0 where
  pub none_refused : (batch_of ask pool records (at_stage stage)).fault ≡ None
  pub none_found : fault ≡ None
  pub after_is : (batch_of ask pool records (at_stage stage)).batch.stage ≡ after
  pub put_is : put (batch_of ask pool records (at_stage stage)).batch pool ≡ Ok next

goes_parts : (a b : Pool) (s t : Stage) → Goes a s ≡ Goes b t → (a ≡ b) × (s ≡ t)
goes_parts a b s t e = (cc, cc)

stops_not : (before : Stage) (pool : Pool) (refusal : Refusal) (r : Result Pool Refusal) (next : Pool) (after : Stage) → committed before pool r (λ now. Stops now refusal) ≡ Goes next after → ⊥
stops_not before pool refusal (Ok now) next after e = cc
stops_not before pool refusal (Err other) next after e = cc

commits : (before : Stage) (pool : Pool) (batch : Batch) (r : Result Pool Refusal) (next : Pool) (after : Stage) → committed before pool r (λ now. Goes now batch.stage) ≡ Goes next after
    → (r ≡ Ok next) × (batch.stage ≡ after)
commits before pool batch (Ok now) next after e = let both = goes_parts now next batch.stage after e in (ap (λ (p : Pool). Ok p) both.0, both.1)
commits before pool batch (Err other) next after e = absurd cc

pub settles : (before : Stage) (pool : Pool) (batch : Batch) (fault : Option Refusal) (next : Pool) (after : Stage) → settled before pool batch fault ≡ Goes next after
    → (fault ≡ None) × (put batch pool ≡ Ok next) × (batch.stage ≡ after)
settles before pool batch None next after e = let both = commits before pool batch (put batch pool) next after e in (refl, both.0, both.1)
settles before pool batch (Some refusal) next after e = go (keeps_front refusal && is_kept batch.stage) e
  where
    go : (t : Bool) → cond t (committed before pool (put batch pool) (λ now. Stops now refusal)) (Stops (left_by before pool) refusal) ≡ Goes next after
        → (◌≡◌ {A = Option Refusal} (Some refusal) None) × (put batch pool ≡ Ok next) × (batch.stage ≡ after)
    go true e = absurd (stops_not before pool refusal (put batch pool) next after e)
    go false e = absurd cc

pub goes_on : (ask : RecvAsk) (records : List Covered) (fault : Option Refusal) (stage after : Stage) (pool next : Pool) → fed ask records fault stage pool ≡ Goes next after
    → GoesOn ask records fault stage after pool next
unfolding fed
goes_on ask records fault stage after pool next e =
    let done = batch_of ask pool records (at_stage stage) in
    let well = settles stage pool done.batch (first_fault done.fault fault) next after e in
    let none = none_first done.fault fault well.0 in
    record { none_refused = none.0; none_found = none.1; after_is = well.2; put_is = well.1 }

-- ---- a feed that stops

abbrev pub StopsBy : Stage → Pool → Batch → Pool → Type 0
StopsBy before pool batch next = (next ≡ left_by before pool) ⊎ ((is_kept batch.stage ≡ true) × (put batch pool ≡ Ok next))

same_stop : (a b : Pool) (r s : Refusal) → Stops a r ≡ Stops b s → b ≡ a
same_stop a b r s e = cc

refused_stop : (before stage : Stage) (pool : Pool) (batch : Batch) (r : Result Pool Refusal) (next : Pool) (refusal : Refusal) → committed before pool r (λ now. Goes now stage) ≡ Stops next refusal → StopsBy before pool batch next
refused_stop before stage pool batch (Ok now) next refusal e = absurd cc
refused_stop before stage pool batch (Err other) next refusal e = inl (same_stop (left_by before pool) next other refusal e)

kept_stop : (before : Stage) (pool : Pool) (batch : Batch) (fault : Refusal) (r : Result Pool Refusal) (next : Pool) (refusal : Refusal) → is_kept batch.stage ≡ true → put batch pool ≡ r
    → committed before pool r (λ now. Stops now fault) ≡ Stops next refusal → StopsBy before pool batch next
kept_stop before pool batch fault (Ok now) next refusal kept is e = inr (kept, is ∙ ap (λ (p : Pool). Ok p) (sym (same_stop now next fault refusal e)))
kept_stop before pool batch fault (Err other) next refusal kept is e = inl (same_stop (left_by before pool) next other refusal e)

settled_stop : (before : Stage) (pool : Pool) (batch : Batch) (fault : Option Refusal) (next : Pool) (refusal : Refusal) → settled before pool batch fault ≡ Stops next refusal → StopsBy before pool batch next
settled_stop before pool batch None next refusal e = refused_stop before batch.stage pool batch (put batch pool) next refusal e
settled_stop before pool batch (Some fault) next refusal e = go (keeps_front fault) (is_kept batch.stage) refl e
  where
    go : (front kept : Bool) → is_kept batch.stage ≡ kept → cond (front && kept) (committed before pool (put batch pool) (λ now. Stops now fault)) (Stops (left_by before pool) fault) ≡ Stops next refusal → StopsBy before pool batch next
    go true true is e = kept_stop before pool batch fault (put batch pool) next refusal is refl e
    go true false is e = inl (same_stop (left_by before pool) next fault refusal e)
    go false kept is e = inl (same_stop (left_by before pool) next fault refusal e)

pub stops_by : (ask : RecvAsk) (records : List Covered) (fault : Option Refusal) (stage : Stage) (pool next : Pool) (refusal : Refusal) → fed ask records fault stage pool ≡ Stops next refusal
    → StopsBy stage pool (batch_of ask pool records (at_stage stage)).batch next
unfolding fed
stops_by ask records fault stage pool next refusal e =
    let done = batch_of ask pool records (at_stage stage) in
    settled_stop stage pool done.batch (first_fault done.fault fault) next refusal e
