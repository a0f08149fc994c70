-- Where a receive stands behind a piece of which all was taken and committed, and where one was given up.
use Rattle.std.proofs.Common.{◌≡◌, ◌⊎◌, inl, inr, ℕ, ◌-◌, ◌++◌, true, false, not, cond, List, length, drop, Option, Some, None, refl, sym, ap, ◌∙◌, subst}
use Rattle.std.specs.Prelude.{sum_by}
use Rattle.std.proofs.Math.Seq.{drop-append_seam}
use Rattle.zst_outside.specs.Images.{DiskState}
use Rattle.zst_block.specs.Blocks.{Has}
use Rattle.zst_dir.specs.Rows.{Rows}
use Rattle.zst_image.specs.Bodies.{free_by}
use Rattle.zst_image.specs.declared.pool_state.PoolState.{PoolState}
use Rattle.zst_model.specs.declared.refusals.refusal.Refusal.{Refusal}
use Rattle.zst_model.specs.declared.sends.header.Header.{Header}
use Rattle.zst_model.specs.pools.Pool.{Partial, Pool}
use Rattle.zst_plan.specs.declared.receive.RecvAsk.{RecvAsk}
use Rattle.zst_pool.specs.Partials.{without_unkept}
use Rattle.zst_reader.specs.StandsFor.{HandsOut}
use Rattle.zst_reader.specs.declared.reader.Reader.{Reader}
use Rattle.zst_record.specs.Heads.{Covered, size_of}
use Rattle.zst_stream.specs.Reading.{Outcome, Reading, waiting, faulty, complete, reading}
use Rattle.zst_tree.specs.Indices.{Blocks}
use Rattle.zst_recv.specs.Answers.{GoesOn, is_done, point_at, received_of}
use Rattle.zst_recv.specs.Feeds.{fault_of, new_records, used_by}
use Rattle.zst_recv.specs.ReceiveSteps.{Stage, Waits, Lives, Ends, at_stage, first_fault, left_by}
use Rattle.zst_recv.specs.Stages.{IsStage, LivesOn, WaitsAtBegin, has_partial, is_live, point_in, received_at, stage_behind}
use Rattle.zst_recv.specs.TakenRecords.{fault_in, taken_of}
use Rattle.zst_recv.specs.declared.received_snapshot.ReceivedSnapshot.{ReceivedSnapshot}
use Rattle.zst_recv.specs.declared.recv.Recv.{Recv}
use Rattle.zst_recv.specs.declared.stage.Stage as coded
use Rattle.zst_recv.specs.declared.stage.Stage.TheVariants as stages
use Rattle.zst_recv.proofs.BatchStages.{IsBegun, begins, begun_behind, is_complete, lives}
use Rattle.zst_recv.proofs.RecordOrder.{EndsBy, FirstBegins, begins_first, ends_behind, ends_last}

-- ---- given up

-- what is left of a receive that is given up is what its stage leaves
pub left_is : (bound : Option ℕ) (has : Blocks) (rows : Rows) (target : List ℕ) (code : coded.Stage) (stage : Stage) (running : Pool) → IsStage bound has code stage → LivesOn rows target code
    → cond (has_partial code) (without_unkept target running) running ≡ left_by stage running
left_is bound has rows target stages.Waits Waits running is fits = refl
left_is bound has rows target stages.Waits (Lives flags partial) running is fits = absurd is
left_is bound has rows target stages.Waits (Ends partial) running is fits = absurd is
left_is bound has rows target (stages.Lives flags row) Waits running is fits = absurd is
left_is bound has rows target (stages.Lives flags row) (Lives stated partial) running is fits = ap (λ (t : List ℕ). without_unkept t running) (sym fits.of_target ∙ sym is.1.named.target)
left_is bound has rows target (stages.Lives flags row) (Ends partial) running is fits = absurd is
left_is bound has rows target (stages.Ends row) Waits running is fits = absurd is
left_is bound has rows target (stages.Ends row) (Lives flags partial) running is fits = absurd is
left_is bound has rows target (stages.Ends row) (Ends partial) running is fits = refl
left_is bound has rows target (stages.Done received) stage running is fits = absurd is
left_is bound has rows target stages.Over stage running is fits = absurd is

-- ---- where it stands

pub done_is : (bound : Option ℕ) (has : Blocks) (code : coded.Stage) (stage : Stage) → IsStage bound has code stage → not (is_live code) ≡ is_done stage
done_is bound has stages.Waits Waits is = refl
done_is bound has stages.Waits (Lives flags partial) is = absurd is
done_is bound has stages.Waits (Ends partial) is = absurd is
done_is bound has (stages.Lives flags row) Waits is = absurd is
done_is bound has (stages.Lives flags row) (Lives stated partial) is = refl
done_is bound has (stages.Lives flags row) (Ends partial) is = absurd is
done_is bound has (stages.Ends row) Waits is = absurd is
done_is bound has (stages.Ends row) (Lives flags partial) is = absurd is
done_is bound has (stages.Ends row) (Ends partial) is = refl
done_is bound has (stages.Done received) stage is = absurd is
done_is bound has stages.Over stage is = absurd is

pub point_is : (bound : Option ℕ) (has : Blocks) (code : coded.Stage) (stage : Stage) → IsStage bound has code stage → point_in code ≡ point_at stage
point_is bound has stages.Waits Waits is = refl
point_is bound has stages.Waits (Lives flags partial) is = absurd is
point_is bound has stages.Waits (Ends partial) is = absurd is
point_is bound has (stages.Lives flags row) Waits is = absurd is
point_is bound has (stages.Lives flags row) (Lives stated partial) is = sym is.1.named.point
point_is bound has (stages.Lives flags row) (Ends partial) is = absurd is
point_is bound has (stages.Ends row) Waits is = absurd is
point_is bound has (stages.Ends row) (Lives flags partial) is = absurd is
point_is bound has (stages.Ends row) (Ends partial) is = sym is.named.point
point_is bound has (stages.Done received) stage is = absurd is
point_is bound has stages.Over stage is = absurd is

stands_behind : (bound : Option ℕ) (has : Blocks) (code : coded.Stage) (stage : Stage) → is_done stage ≡ false → IsStage bound has code stage → IsStage bound has (stage_behind code) stage
stands_behind bound has stages.Waits Waits none is = is
stands_behind bound has stages.Waits (Lives flags partial) none is = absurd is
stands_behind bound has stages.Waits (Ends partial) none is = absurd is
stands_behind bound has (stages.Lives flags row) Waits none is = absurd is
stands_behind bound has (stages.Lives flags row) (Lives stated partial) none is = is
stands_behind bound has (stages.Lives flags row) (Ends partial) none is = absurd is
stands_behind bound has (stages.Ends row) Waits none is = absurd is
stands_behind bound has (stages.Ends row) (Lives flags partial) none is = absurd is
stands_behind bound has (stages.Ends row) (Ends partial) none is = absurd cc
stands_behind bound has (stages.Done received) stage none is = absurd is
stands_behind bound has stages.Over stage none is = absurd is

-- ---- behind a piece

pub none_first : (one other : Option Refusal) → first_fault one other ≡ None → (one ≡ None) × (other ≡ None)
none_first None other is = (refl, is)
none_first (Some refusal) other is = absurd cc

no_fault : (outcome : Outcome) → fault_of outcome ≡ None → (outcome ≡ waiting) ⊎ (outcome ≡ complete)
no_fault waiting is = inl refl
no_fault (faulty fault) is = absurd cc
no_fault complete is = inr refl

module _ (ask : RecvAsk) (running : Pool) (text piece : List ℕ) (stage : Stage) (handed : List Covered) (was : reading text ≡ record { covered = handed; outcome = waiting })
    (front : (rest : List Covered) × ((reading (text ++ piece)).covered ≡ handed ++ rest)) where
  abbrev covered_then : List Covered
  covered_then = (reading (text ++ piece)).covered

  abbrev outcome_then : Outcome
  outcome_then = (reading (text ++ piece)).outcome

  new_is : new_records text piece ≡ front.0
  new_is =
      ap (λ (r : Reading). drop (length r.covered) covered_then) was ∙ ap (λ (l : List Covered). drop (length handed) l) front.1 ∙ drop-append_seam handed front.0

  ends_new : EndsBy (new_records text piece) outcome_then
  ends_new =
      let none : EndsBy handed waiting = subst (λ (r : Reading). EndsBy r.covered r.outcome) was (ends_last text) in
      let all : EndsBy (handed ++ front.0) outcome_then = subst (λ (l : List Covered). EndsBy l outcome_then) front.1 (ends_last (text ++ piece)) in
      subst (λ (l : List Covered). EndsBy l outcome_then) (sym new_is) (ends_behind handed front.0 outcome_then none all)

  -- behind a piece of which all was taken
  pub begun_then : is_done stage ≡ false → WaitsAtBegin handed stage → fault_in ask running text piece (at_stage stage) ≡ None
      → IsBegun covered_then outcome_then (taken_of ask running text piece (at_stage stage)).batch.stage
  begun_then live waits whole = by_stage stage live waits (let parts = none_first (taken_of ask running text piece (at_stage stage)).fault _ whole in parts.0)
    where
      by_stage : (s : Stage) → is_done s ≡ false → WaitsAtBegin handed s → (taken_of ask running text piece (at_stage s)).fault ≡ None → IsBegun covered_then outcome_then (taken_of ask running text piece (at_stage s)).batch.stage
      by_stage Waits live none whole =
          let same : covered_then ≡ new_records text piece = front.1 ∙ ap (λ (l : List Covered). l ++ front.0) none ∙ sym new_is in
          subst (λ (l : List Covered). IsBegun l outcome_then (taken_of ask running text piece (at_stage Waits)).batch.stage) (sym same)
          (begins ask running (new_records text piece) outcome_then false false 0 (subst FirstBegins same (begins_first (text ++ piece))) ends_new whole)
      by_stage (Lives flags partial) live none whole =
          begun_behind covered_then outcome_then _ (lives ask running (new_records text piece) outcome_then flags partial false false 0 ends_new whole)
      by_stage (Ends partial) live none whole = absurd cc

  pub outcome_is : fault_in ask running text piece (at_stage stage) ≡ None → (outcome_then ≡ waiting) ⊎ (outcome_then ≡ complete)
  outcome_is whole = let parts = none_first (taken_of ask running text piece (at_stage stage)).fault (fault_of outcome_then) whole in no_fault outcome_then parts.1

waits_by : (outcome : Outcome) → (outcome ≡ waiting) ⊎ (outcome ≡ complete) → is_complete outcome ≡ false → outcome ≡ waiting
waits_by outcome (inl waits) none = waits
waits_by outcome (inr ends) none = absurd (let is = ap is_complete ends in cc)

ends_by : (outcome : Outcome) → (outcome ≡ waiting) ⊎ (outcome ≡ complete) → is_complete outcome ≡ true → outcome ≡ complete
ends_by outcome (inl waits) none = absurd (let is = ap is_complete waits in cc)
ends_by outcome (inr ends) none = ends

-- ---- what it tells of a piece, and how it goes on

module _ (covered : List Covered) (outcome : Outcome) (any : (outcome ≡ waiting) ⊎ (outcome ≡ complete)) (text piece : List ℕ) where
  -- how many bytes are of the stream
  pub used_is : (bound : Option ℕ) (has : Blocks) (code : coded.Stage) (stage : Stage) (used : ℕ) → IsStage bound has code stage → IsBegun covered outcome stage → (is_live code ≡ true → used ≡ length piece)
      → (outcome ≡ complete → is_live code ≡ false → used ≡ sum_by (λ c. size_of c.head) covered - length text) → used ≡ used_by text piece covered outcome
  used_is bound has stages.Waits Waits used is begun all front = all refl ∙ sym (ap (used_by text piece covered) (waits_by outcome any begun.1))
  used_is bound has stages.Waits (Lives flags partial) used is begun all front = absurd is
  used_is bound has stages.Waits (Ends partial) used is begun all front = absurd is
  used_is bound has (stages.Lives flags row) Waits used is begun all front = absurd is
  used_is bound has (stages.Lives flags row) (Lives stated partial) used is begun all front = all refl ∙ sym (ap (used_by text piece covered) (waits_by outcome any begun))
  used_is bound has (stages.Lives flags row) (Ends partial) used is begun all front = absurd is
  used_is bound has (stages.Ends row) Waits used is begun all front = absurd is
  used_is bound has (stages.Ends row) (Lives flags partial) used is begun all front = absurd is
  used_is bound has (stages.Ends row) (Ends partial) used is begun all front =
      let ends = ends_by outcome any begun in front ends refl ∙ sym (ap (used_by text piece covered) ends)
  used_is bound has (stages.Done received) stage used is begun all front = absurd is
  used_is bound has stages.Over stage used is begun all front = absurd is

-- the snapshot that it tells once END was received
received_so : (bound : Option ℕ) (has : Blocks) (code : coded.Stage) (partial : Partial) → IsStage bound has code (Ends partial) → received_at (stage_behind code) ≡ Some (received_of partial)
received_so bound has stages.Waits partial is = absurd is
received_so bound has (stages.Lives flags row) partial is = absurd is
received_so bound has (stages.Ends row) partial is =
    let made : List ℕ → List ℕ → ℕ → Option ReceivedSnapshot = λ target component guid. Some (record { target = target; component = component; guid = guid }) in
    ap (λ (t : List ℕ). made t row.snapshot row.header.to) (sym is.named.target) ∙ ap (λ (n : List ℕ). made partial.target n row.header.to) (sym is.named.component)
    ∙ ap (λ (h : Header). made partial.target partial.component h.to) (sym is.named.header)
received_so bound has (stages.Done received) partial is = absurd is
received_so bound has stages.Over partial is = absurd is

module _ (bound : Option ℕ) (now : DiskState) (kept : PoolState) (recv : Recv) (text : List ℕ) (code : coded.Stage) (reader : Reader) (same : recv.reader ≡ reader) (behind : recv.stage ≡ stage_behind code) where
  hands : (handed : List Covered) → HandsOut reader text handed waiting → HandsOut recv.reader text handed waiting
  hands handed is = subst (λ (r : Reader). HandsOut r text handed waiting) (sym same) is

  stands : (stage : Stage) → is_done stage ≡ false → IsStage bound (Has now.seen (free_by kept.body)) code stage → IsStage bound (Has now.seen (free_by kept.body)) recv.stage stage
  stands stage none is = subst (λ (s : coded.Stage). IsStage bound (Has now.seen (free_by kept.body)) s stage) (sym behind) (stands_behind bound (Has now.seen (free_by kept.body)) code stage none is)

  -- it goes on from this text
  pub goes_on_so : (covered : List Covered) (outcome : Outcome) → reading text ≡ record { covered = covered; outcome = outcome } → (outcome ≡ waiting) ⊎ (outcome ≡ complete)
      → (outcome ≡ waiting → (handed : List Covered) × HandsOut reader text handed waiting) → (stage : Stage) → IsBegun covered outcome stage
      → (other : Option ℕ) (has : Blocks) → IsStage other has code stage → (is_done stage ≡ false → IsStage bound (Has now.seen (free_by kept.body)) code stage) → GoesOn bound now kept recv text stage
  goes_on_so covered outcome reads any waits Waits begun other has stage is =
      let w = waits (waits_by outcome any begun.1) in
      record { handed = w.0; reads = hands w.0 w.1; waits = ap (λ (r : Reading). r.covered) (sym w.1.whole ∙ reads) ∙ begun.0; stands = stands Waits refl (is refl) }
  goes_on_so covered outcome reads any waits (Lives flags partial) begun other has stage is =
      let w = waits (waits_by outcome any begun) in record { handed = w.0; reads = hands w.0 w.1; waits = tt; stands = stands (Lives flags partial) refl (is refl) }
  goes_on_so covered outcome reads any waits (Ends partial) begun other has stage is = ap received_at behind ∙ received_so other has code partial stage
