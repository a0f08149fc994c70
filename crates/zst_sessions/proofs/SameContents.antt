-- What records make of partial states that differ in dates alone.
use Rattle.std.proofs.Common.{◌≡◌, ℕ, Bool, true, false, List, [], ◌∷◌, Result, Ok, Err, refl, ap, subst}
use Rattle.zst_apply.specs.AppliedRecords.{received_all}
use Rattle.zst_model.specs.declared.refusals.apply_fault.ApplyFault.{ApplyFault}
use Rattle.zst_model.specs.declared.refusals.refusal.Refusal.{Refusal}
use Rattle.zst_model.specs.declared.states.item.Item.{Item}
use Rattle.zst_model.specs.pools.Pool.{Partial}
use Rattle.zst_model.specs.sends.Points.{point_of}
use Rattle.zst_model.specs.sends.ReceivedRecords.{is_past, of_record, received}
use Rattle.zst_model.specs.states.AppliedItems.{apply, unless, ◌>>=◌}
use Rattle.zst_model.specs.states.DatedState.{DatedState}
use Rattle.zst_model.specs.states.State.{State}
use Rattle.zst_plan.specs.Places.{AnswerAlike}
use Rattle.zst_record.specs.Heads.{Covered}
use Rattle.zst_recv.specs.ReceiveSteps.{moved_by}
use Rattle.zst_stream.specs.Items.{items_by}
use Rattle.zst_sessions.specs.Isolation.{SamePartial}

-- two dated states have the same content
abbrev pub SameContent : DatedState → DatedState → Type 0
SameContent one other = one.state ≡ other.state

limited : (past : Bool) (refusal : Refusal) (a b : DatedState) → SameContent a b → AnswerAlike SameContent (unless past refusal (Ok a)) (unless past refusal (Ok b))
limited true refusal a b same = refl
limited false refusal a b same = same

-- an answer for a content, dated in two ways
dated : (index : ℕ) (past : Bool) (refusal : Refusal) (one other : State → DatedState) → ((s : State) → SameContent (one s) (other s)) → (r : Result State ApplyFault)
    → AnswerAlike SameContent
    (of_record index (r >>= λ s. Ok (one s)) >>= λ after. unless past refusal (Ok after))
    (of_record index (r >>= λ s. Ok (other s)) >>= λ after. unless past refusal (Ok after))
dated index past refusal one other same (Ok s) = limited past refusal (one s) (other s) (same s)
dated index past refusal one other same (Err fault) = refl

at_one : (number later index : ℕ) (item : Item) (s : State) (nd md : ℕ → ℕ) (ni mi : ℕ → ℕ → ℕ)
    → AnswerAlike SameContent
    (received number index item (record { state = s; number_date = nd; index_date = ni }))
    (received later index item (record { state = s; number_date = md; index_date = mi }))
at_one number later index item s nd md ni mi = dated index (is_past item s) _ _ _ (λ x. refl) (apply item s)

received_alike : (number later index : ℕ) (item : Item) (one other : DatedState) → SameContent one other
    → AnswerAlike SameContent (received number index item one) (received later index item other)
received_alike number later index item one other same =
    subst (λ (s : State). AnswerAlike SameContent (received number index item one) (received later index item (record { state = s; number_date = other.number_date; index_date = other.index_date }))) same
    (at_one number later index item one.state one.number_date other.number_date one.index_date other.index_date)

-- what follows two answers that are alike is alike
pub alike_on : {A B C D E : Type 0} (Is : A → B → Type 0) (Then : C → D → Type 0) (r : Result A E) (s : Result B E) (f : A → Result C E) (g : B → Result D E)
    → AnswerAlike Is r s → ((x : A) (y : B) → Is x y → AnswerAlike Then (f x) (g y)) → AnswerAlike Then (r >>= f) (s >>= g)
alike_on Is Then (Ok x) (Ok y) f g alike on = on x y alike
alike_on Is Then (Ok x) (Err fault) f g alike on = absurd alike
alike_on Is Then (Err fault) (Ok y) f g alike on = absurd alike
alike_on Is Then (Err fault) (Err other) f g alike on = alike

all_alike : (number later index : ℕ) (items : List Item) (one other : DatedState) → SameContent one other
    → AnswerAlike SameContent (received_all number index items one) (received_all later index items other)
all_alike number later index [] one other same = same
all_alike number later index (item ∷ rest) one other same =
    alike_on SameContent SameContent (received number index item one) (received later index item other) (received_all number index rest) (received_all later index rest)
    (received_alike number later index item one other same) (λ x y alike. all_alike number later index rest x y alike)

-- a record moves both alike
pub moved_alike : (number later : ℕ) (c : Covered) (flags : ℕ) (one other : Partial) → SamePartial one other → AnswerAlike SamePartial (moved_by number c flags one) (moved_by later c flags other)
moved_alike number later c flags one other same =
    let items = items_by flags c.payload c.head in
    let point = ap (λ (p : Partial). point_of p.point items) same.rest in
    alike_on SameContent SamePartial (received_all number c.index items one.objects) (received_all later c.index items other.objects)
    (λ objects. Ok (record one { objects = objects; point = point_of one.point items })) (λ objects. Ok (record other { objects = objects; point = point_of other.point items }))
    (all_alike number later c.index items one.objects other.objects same.content)
    (λ x y alike. record {
      content = alike;
      rest = ap (λ (p : Partial). record p { objects = x; point = point_of p.point items }) same.rest;
    })
