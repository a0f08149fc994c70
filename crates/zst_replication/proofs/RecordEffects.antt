-- What one record makes of a partial state.
use Rattle.std.proofs.Common.{◌≡◌, ℕ, List, [], ◌∷◌, ◌++◌, Result, Ok, refl, ap, ◌∙◌, subst}
use Rattle.zst_laws.specs.ReceivedRecords.{ReceivedIsApplied}
use Rattle.zst_model.specs.declared.refusals.apply_fault.ApplyFault.{ApplyFault}
use Rattle.zst_model.specs.declared.refusals.refusal.Refusal.{Refusal}
use Rattle.zst_model.specs.declared.states.item.Item.{Item}
use Rattle.zst_model.specs.pools.Pool.{Partial}
use Rattle.zst_model.specs.sends.Points.{point_of}
use Rattle.zst_model.specs.sends.ReceivedRecords.{received}
use Rattle.zst_model.specs.states.AppliedItems.{apply, apply_all, ◌>>=◌}
use Rattle.zst_model.specs.states.DatedState.{DatedState}
use Rattle.zst_model.specs.states.State.{State}
use Rattle.zst_model.proofs.DatedStates.{dated_state}
use Rattle.zst_model.proofs.Results.{bind_ok, ok_parts}
use Rattle.zst_apply.specs.AppliedRecords.{received_all}
use Rattle.zst_record.specs.Heads.{Covered}
use Rattle.zst_recv.specs.ReceiveSteps.{moved_by}
use Rattle.zst_stream.specs.Items.{items_by}

-- the same partial state, further on
pub record Moves (number : ℕ) (c : Covered) (flags : ℕ) (partial next : Partial) : Type 0 where
  pub further : next ≡ record partial { objects = next.objects; point = next.point }
  pub objects : received_all number c.index (items_by flags c.payload c.head) partial.objects ≡ Ok next.objects
  pub point : next.point ≡ point_of partial.point (items_by flags c.payload c.head)

pub moves : (number : ℕ) (c : Covered) (flags : ℕ) (partial next : Partial) → moved_by number c flags partial ≡ Ok next → Moves number c flags partial next
moves number c flags partial next e =
    let items = items_by flags c.payload c.head in
    let made : DatedState → Result Partial Refusal = λ objects. Ok (record partial { objects = objects; point = point_of partial.point items }) in
    let found = bind_ok (received_all number c.index items partial.objects) made next e in
    subst (λ (p : Partial). Moves number c flags partial p) (ok_parts (record partial { objects = found.0; point = point_of partial.point items }) next found.2)
    (record { further = refl; objects = found.1; point = refl })

-- what accepted items make is what applying them makes
pub all_applied : ReceivedIsApplied → (number index : ℕ) (items : List Item) (snap after : DatedState) → received_all number index items snap ≡ Ok after → apply_all items snap.state ≡ Ok after.state
all_applied law number index [] snap after e = ap (λ (s : State). Ok s) (ap (λ (d : DatedState). d.state) (ok_parts snap after e))
all_applied law number index (item ∷ rest) snap after e =
    let found = bind_ok (received number index item snap) (received_all number index rest) after e in
    ap (λ (r : Result State ApplyFault). r >>= apply_all rest) (dated_state number item snap found.0 (law number index item snap found.0 found.1))
    ∙ all_applied law number index rest found.0 after found.2

-- items one after another
pub applied_on : (done more : List Item) (s t u : State) → apply_all done s ≡ Ok t → apply_all more t ≡ Ok u → apply_all (done ++ more) s ≡ Ok u
applied_on [] more s t u e a = ap (apply_all more) (ok_parts s t e) ∙ a
applied_on (x ∷ xs) more s t u e a =
    let found = bind_ok (apply x s) (apply_all xs) t e in
    ap (λ (r : Result State ApplyFault). r >>= apply_all (xs ++ more)) found.1 ∙ applied_on xs more found.0 t u found.2 a
