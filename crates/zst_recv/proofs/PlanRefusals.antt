-- That a plan's refusals are those of the rows, whatever the image.
use Rattle.std.proofs.Common.{◌≡◌, ◌⊎◌, inl, inr, ℕ, true, false, List, [], ◌∷◌, ◌++◌, length, Result, Ok, Err, refl, sym, ap, ◌∙◌, subst}
use Rattle.zst_dir.specs.Rows.{Rows}
use Rattle.zst_model.specs.declared.refusals.plan_fault.PlanFault.{PlanFault}
use Rattle.zst_model.specs.declared.refusals.plan_fault.PlanFault.TheVariants as plans
use Rattle.zst_model.specs.declared.refusals.stream_fault.StreamFault.{StreamFault}
use Rattle.zst_model.specs.declared.sends.header.Header.{Header}
use Rattle.zst_model.proofs.EmptyLists.{nothing_left}
use Rattle.zst_model.specs.states.State.{AreBytes}
use Rattle.zst_objset.specs.declared.fault.ObjFault.{ObjFault}
use Rattle.zst_objset.specs.declared.fault.ObjFault.TheVariants as sets
use Rattle.zst_block.specs.declared.fault.BlockFault.TheVariants as blocks
use Rattle.zst_plan.specs.Places.{AnswerAlike}
use Rattle.zst_plan.specs.RecvPlan.{RecvPlan}
use Rattle.zst_plan.specs.declared.receive.RecvAsk.{RecvAsk}
use Rattle.zst_plan.proofs.AlikeAnswers.{ok_alike, err_alike}
use Rattle.zst_pool.specs.Calls.{IsCallFault}
use Rattle.zst_pool.specs.declared.fault.PoolFault.{PoolFault}
use Rattle.zst_pool.specs.declared.fault.PoolFault.TheVariants as pools
use Rattle.zst_reader.specs.StandsFor.{HandsOut, StandsFor}
use Rattle.zst_reader.specs.declared.reader.Reader.{Reader}
use Rattle.zst_record.specs.Heads.{Covered}
use Rattle.zst_record.specs.declared.head.Head.TheVariants as heads
use Rattle.zst_stream.specs.Reading.{FrontOf, Outcome, Reading, faulty, reading, waiting}
use Rattle.zst_stream.proofs.Growth.{front}
use Rattle.zst_recv.specs.Faults.{of_record}
use Rattle.zst_recv.specs.Plans.{Begins, IsPlannedBy, RefusesEach, RefusesOne, is_planned}
use Rattle.zst_recv.specs.Stages.{HasRead, StandsBehind, is_live, keeps_partial, stage_behind, waits_at}
use Rattle.zst_recv.specs.declared.fault.RecvFault.{RecvFault}
use Rattle.zst_recv.specs.declared.fault.RecvFault.TheVariants as faults
use Rattle.zst_recv.specs.declared.stage.Stage as coded
use Rattle.zst_recv.specs.declared.stage.Stage.TheVariants as stages
use Rattle.zst_recv.proofs.HandedRecords.{covered_front}

-- ---- answers

-- an answer that is alike, whatever was found
pub alike_any : {A B E : Type 0} (Is : A → B → Type 0) (one : Result A E) (other : Result B E) → AnswerAlike Is one other → AnswerAlike (λ x y. Unit {0}) one other
alike_any Is (Ok x) (Ok y) alike = tt
alike_any Is (Ok x) (Err fault) alike = alike
alike_any Is (Err fault) (Ok y) alike = alike
alike_any Is (Err fault) (Err other) alike = alike

-- BEGIN was taken by a plan that passed, or is refused as its plan is
pub begun_planned : {A : Type 0} (batch : A) (plan : Result RecvPlan PlanFault) → AnswerAlike (λ (x : A) (y : RecvPlan). Unit {0}) (Ok batch) plan → (passed : RecvPlan) × (plan ≡ Ok passed)
begun_planned {A = A} batch plan alike = let found = ok_alike (λ (x : A) (y : RecvPlan). Unit {0}) batch plan alike in (found.0, found.1)

pub refused_planned : (A : Type 0) (fault : PlanFault) (plan : Result RecvPlan PlanFault) → AnswerAlike (λ (x : A) (y : RecvPlan). Unit {0}) (Err fault) plan → IsPlannedBy plan (Err (faults.Pool (pools.Plan fault)))
refused_planned A fault plan alike = (fault, err_alike (λ (x : A) (y : RecvPlan). Unit {0}) fault plan alike, refl)

-- what a plan refuses is refused so
pub planned_err : (plan : Result RecvPlan PlanFault) (fault : PlanFault) (other : RecvFault) → plan ≡ Err fault → IsPlannedBy plan (Err other) → other ≡ faults.Pool (pools.Plan fault)
planned_err plan fault other is by = let same : fault ≡ by.0 = cc (by.1) in by.2 ∙ ap (λ (f : PlanFault). faults.Pool (pools.Plan f)) (sym same)

pub planned_ok : (plan : Result RecvPlan PlanFault) (fault : PlanFault) → plan ≡ Err fault → IsPlannedBy plan (Ok tt) → ⊥
planned_ok plan fault is by = cc (by.1)

-- and what is refused so its plan refuses
pub planned_back : (plan : Result RecvPlan PlanFault) (fault : PlanFault) (result : Result (Unit {0}) RecvFault) → result ≡ Err (faults.Pool (pools.Plan fault)) → IsPlannedBy plan result → plan ≡ Err fault
planned_back plan fault result is by = from (subst (IsPlannedBy plan) is by)
  where
    from : IsPlannedBy plan (Err (faults.Pool (pools.Plan fault))) → plan ≡ Err fault
    from found = let same : fault ≡ found.0 = cc (found.2) in found.1 ∙ ap (λ (f : PlanFault). Err f) (sym same)

-- ---- faults that no plan finds

pub record_unplanned : (index : ℕ) (fault : ObjFault) (told : PlanFault) → of_record index fault ≡ faults.Pool (pools.Plan told) → is_planned told ≡ false
record_unplanned index (sets.CannotApply fault) told is = absurd cc
record_unplanned index (sets.Redacted object block) told is = absurd cc
record_unplanned index (sets.Limit which number) told is = let same : plans.Limit which number ≡ told = cc in ap is_planned (sym same)
record_unplanned index (sets.Block (blocks.Full need largest)) told is = absurd cc
record_unplanned index (sets.Block (blocks.Damaged sector stated found)) told is = absurd cc
record_unplanned index (sets.Block blocks.DiskFault) told is = absurd cc

pub call_unplanned : (fault : PoolFault) (told : PlanFault) → IsCallFault fault → faults.Pool fault ≡ faults.Pool (pools.Plan told) → is_planned told ≡ false
call_unplanned fault told known is =
    let same : fault ≡ pools.Plan told = cc in
    let limit = subst IsCallFault same known in
    ap is_planned limit.2

pub both_planned : (told : PlanFault) → is_planned told ≡ true → is_planned told ≡ false → ⊥
both_planned told one other = let both = sym one ∙ other in cc

-- ---- texts

empty_front : (A : Type 0) (xs ys : List A) → xs ≡ [] → ys ≡ [] → xs ++ ys ≡ []
empty_front A xs ys one other = subst (λ (l : List A). l ++ ys ≡ []) (sym one) other

-- a text that covers something begins as it does where it goes on
pub front_begins : (text rest : List ℕ) (first : Covered) (others : List Covered) (header : Header) → (reading text).covered ≡ first ∷ others → Begins (text ++ rest) header → Begins text header
front_begins text rest first others header covered begins =
    let f : FrontOf (reading text) (reading (text ++ rest)) = front text rest in
    let more : begins.first ∷ begins.rest ≡ (first ∷ others) ++ f.others = sym begins.covered ∙ f.covered ∙ ap (λ (l : List Covered). l ++ f.others) covered in
    let same : begins.first ≡ first = cc in
    record { first = first; rest = others; len = begins.len; covered = covered; head = subst (λ (c : Covered). c.head ≡ heads.Begin header begins.len) same begins.head }

-- and one that covers nothing covers nothing so far
pub front_none : (text rest : List ℕ) → (reading (text ++ rest)).covered ≡ [] → (reading text).covered ≡ []
front_none text rest none = let f : FrontOf (reading text) (reading (text ++ rest)) = front text rest in nothing_left (reading text).covered f.others (sym f.covered ∙ none)

pub later_begins : (text rest : List ℕ) (header : Header) → Begins text header → Begins (text ++ rest) header
later_begins text rest header begins =
    let f : FrontOf (reading text) (reading (text ++ rest)) = front text rest in
    record { first = begins.first; rest = begins.rest ++ f.others; len = begins.len; covered = f.covered ∙ ap (λ (l : List Covered). l ++ f.others) begins.covered; head = begins.head }

-- one that covers nothing and is faulty doesn't begin, however it goes on
pub faulty_begins : (text rest : List ℕ) (fault : StreamFault) (header : Header) → (reading text).covered ≡ [] → (reading text).outcome ≡ faulty fault → Begins (text ++ rest) header → ⊥
faulty_begins text rest fault header none told begins = by f.outcome
  where
    f : FrontOf (reading text) (reading (text ++ rest))
    f = front text rest

    by : ((reading text).outcome ≡ waiting) ⊎ (((reading text).outcome ≡ (reading (text ++ rest)).outcome) × (f.others ≡ [])) → ⊥
    by (inl waits) = let e : waiting ≡ faulty fault = sym waits ∙ told in cc (e)
    by (inr same) =
        let empty : begins.first ∷ begins.rest ≡ [] = sym begins.covered ∙ f.covered ∙ empty_front Covered (reading text).covered f.others none same.1 in
        cc (empty)

pub none_begins : (text : List ℕ) (header : Header) → (reading text).covered ≡ [] → Begins text header → ⊥
none_begins text header none begins = let empty : begins.first ∷ begins.rest ≡ [] = sym begins.covered ∙ none in cc (empty)

-- ---- readers

-- a reader that has read something stands behind no record where the receive waits
pub none_handed : (reader : Reader) (stage : coded.Stage) → HasRead reader stage → waits_at stage ≡ true → (text : List ℕ) (handed : List Covered) → StandsFor reader text handed → handed ≡ []
none_handed reader stage has waits text handed stands = empty handed (sym stands.number ∙ has.stands.number ∙ ap length (none stage has.behind waits))
  where
    none : (s : coded.Stage) → StandsBehind has.handed s → waits_at s ≡ true → has.handed ≡ []
    none stages.Waits behind is = behind
    none (stages.Lives flags row) behind is = absurd cc
    none (stages.Ends row) behind is = absurd cc
    none (stages.Done received) behind is = absurd cc
    none stages.Over behind is = absurd cc

    empty : (l : List Covered) → length l ≡ 0 → l ≡ []
    empty [] is = refl
    empty (c ∷ rest) is = absurd cc

-- what a reader has read, as it hands out more
pub has_still : {reader : Reader} {stage : coded.Stage} (text : List ℕ) → AreBytes text → (later : List Covered) × StandsFor reader text later × StandsBehind later stage → HasRead reader stage
has_still text bytes later = record { text = text; bytes = bytes; handed = later.0; stands = later.1; behind = later.2 }

-- the first record that it hands out is the first that its text covers
pub first_begins : (reader : Reader) (text : List ℕ) (handed : List Covered) (next : Covered) (header : Header) (len : ℕ) → StandsFor reader text (handed ++ next ∷ []) → handed ≡ [] → next.head ≡ heads.Begin header len → Begins text header
first_begins reader text handed next header len stands none head =
    let f = covered_front reader text (handed ++ next ∷ []) stands in
    record { first = next; rest = f.0; len = len; covered = subst (λ (l : List Covered). (reading text).covered ≡ (l ++ next ∷ []) ++ f.0) none f.1; head = head }

pub begins_first : (reader : Reader) (text : List ℕ) (handed : List Covered) (next : Covered) (header : Header) → StandsFor reader text (handed ++ next ∷ []) → handed ≡ [] → Begins text header → (len : ℕ) × (next.head ≡ heads.Begin header len)
begins_first reader text handed next header stands none begins =
    let f = covered_front reader text (handed ++ next ∷ []) stands in
    let more : begins.first ∷ begins.rest ≡ next ∷ f.0 = sym begins.covered ∙ subst (λ (l : List Covered). (reading text).covered ≡ (l ++ next ∷ []) ++ f.0) none f.1 in
    let same : begins.first ≡ next = cc in
    (begins.len, subst (λ (c : Covered). c.head ≡ heads.Begin header begins.len) same begins.head)

-- and then it covers something
pub covers_some : (reader : Reader) (text : List ℕ) (handed : List Covered) (next : Covered) → StandsFor reader text (handed ++ next ∷ []) → (reading text).covered ≡ [] → ⊥
covers_some reader text handed next stands none =
    let f = covered_front reader text (handed ++ next ∷ []) stands in
    no handed f.0 (sym f.1 ∙ none)
  where
    no : (l rest : List Covered) → (l ++ next ∷ []) ++ rest ≡ [] → ⊥
    no [] rest is = cc (is)
    no (c ∷ l) rest is = cc (is)

-- a front of a text that a plan refuses is refused by it, where it covers something
pub front_refused : (rows : Rows) (ask : RecvAsk) (text rest : List ℕ) (fault : PlanFault) (first : Covered) (others : List Covered) → (reading text).covered ≡ first ∷ others → RefusesOne rows ask (text ++ rest) fault → RefusesOne rows ask text fault
front_refused rows ask text rest fault first others covered refuses =
    record { pool = refuses.pool; header = refuses.header; begins = front_begins text rest first others refuses.header covered refuses.begins; named = refuses.named; tells = refuses.tells; refused = refuses.refused }

pub later_refused : (rows : Rows) (ask : RecvAsk) (text rest : List ℕ) (fault : PlanFault) → RefusesEach rows ask text fault → RefusesEach rows ask (text ++ rest) fault
later_refused rows ask text rest fault each = record { header = each.header; begins = later_begins text rest each.header each.begins; refused = each.refused }

-- whether a text covers something
pub by_covered : (P : Type 0) (text : List ℕ) → ((reading text).covered ≡ [] → P) → ((first : Covered) (others : List Covered) → (reading text).covered ≡ first ∷ others → P) → P
by_covered P text none some = by (reading text).covered refl
  where
    by : (l : List Covered) → (reading text).covered ≡ l → P
    by [] is = none is
    by (first ∷ others) is = some first others is

-- all that was handed out is nothing
pub handed_none : (reader : Reader) (text : List ℕ) (handed : List Covered) (outcome : Outcome) → HandsOut reader text handed outcome → handed ≡ [] → (reading text).covered ≡ []
handed_none reader text handed outcome hands none = ap (λ (r : Reading). r.covered) hands.whole ∙ none

-- ---- stages

pub waits_live : (stage : coded.Stage) → waits_at stage ≡ true → is_live stage ≡ false → ⊥
waits_live stages.Waits is over = cc (over)
waits_live (stages.Lives flags row) is over = cc (is)
waits_live (stages.Ends row) is over = cc (is)
waits_live (stages.Done received) is over = cc (is)
waits_live stages.Over is over = cc (is)

pub waits_kept : (stage : coded.Stage) → waits_at stage ≡ true → keeps_partial stage ≡ true → ⊥
waits_kept stages.Waits is kept = cc (kept)
waits_kept (stages.Lives flags row) is kept = cc (is)
waits_kept (stages.Ends row) is kept = cc (is)
waits_kept (stages.Done received) is kept = cc (is)
waits_kept stages.Over is kept = cc (is)

pub over_waits : (stage : coded.Stage) → stage ≡ stages.Over → waits_at stage ≡ true → ⊥
over_waits stage over waits = let none : waits_at stage ≡ false = ap waits_at over in cc

pub waits_ahead : (stage : coded.Stage) → waits_at stage ≡ true → waits_at (stage_behind stage) ≡ true
waits_ahead stages.Waits is = refl
waits_ahead (stages.Lives flags row) is = absurd (cc is)
waits_ahead (stages.Ends row) is = absurd (cc is)
waits_ahead (stages.Done received) is = absurd (cc is)
waits_ahead stages.Over is = absurd (cc is)
