-- Where a receive stands behind the records that were handed out, whatever the image; and that BEGIN alone looks at dates.
use Rattle.std.proofs.Common.{◌≡◌, ℕ, ◌+◌, ◌≤◌, Bool, true, false, List, [], ◌∷◌, ◌++◌, Option, Some, None, Result, Ok, Err, inl, inr, refl, sym, ap, ◌∙◌, subst, arith}
use Rattle.std.specs.List.{All}
use Rattle.std.proofs.lemmas.List.{append-nil}
use Rattle.std.proofs.lemmas.List.Elements.{All-head, All-nil, All-push, All-tail}
use Rattle.zst_dir.specs.Rows.{Rows}
use Rattle.zst_model.specs.declared.refusals.plan_fault.PlanFault.{PlanFault}
use Rattle.zst_model.specs.declared.refusals.refusal.Refusal.{Refusal}
use Rattle.zst_model.specs.declared.sends.header.Header.{Header}
use Rattle.zst_model.specs.pools.Pool.{Pool, Partial}
use Rattle.zst_model.specs.refusals.Refusal.{refusal_of}
use Rattle.zst_model.specs.states.AppliedItems.{◌>>=◌}
use Rattle.zst_plan.specs.Receipts.{TellsNeeded}
use Rattle.zst_plan.specs.RecvPlan.{RecvPlan, recv_plan}
use Rattle.zst_plan.specs.declared.receive.RecvAsk.{RecvAsk}
use Rattle.zst_reader.specs.StandsFor.{StandsFor, HandsOut, pushed_of}
use Rattle.zst_reader.specs.declared.reader.Reader.{Reader}
use Rattle.zst_record.specs.Heads.{Covered}
use Rattle.zst_record.specs.declared.head.Head.{Head}
use Rattle.zst_record.specs.declared.head.Head.TheVariants as heads
use Rattle.zst_stream.specs.Reading.{Reading, complete, reading}
use Rattle.zst_tree.specs.Indices.{Blocks}
use Rattle.zst_reader.specs.InputReads.{stream_limit}
use Rattle.zst_recv.specs.ReceiveSteps.{Stage, Waits, Lives, Ends, Batch, EndedBatch, batch_of, batch_by, began, moved_by, of_plan, opened, taken, taken_at, went_on, with_applied}
use Rattle.zst_recv.specs.Stages.{HasRead, IsStage, StandsBehind, TellsBefore, TellsTarget, has_partial, is_begin, is_end, is_live, waits_at}
use Rattle.zst_recv.specs.TakenRecords.{AreTaken}
use Rattle.zst_recv.specs.declared.stage.Stage as coded
use Rattle.zst_recv.specs.declared.stage.Stage.TheVariants as stages
use Rattle.zst_recv.proofs.RecordOrder.{EndsBy, FirstBegins, begins_first, ends_last}

-- ---- what was handed out

-- it is a front of what the text covers
pub covered_front : (reader : Reader) (text : List ℕ) (handed : List Covered) → StandsFor reader text handed → (rest : List Covered) × ((reading text).covered ≡ handed ++ rest)
covered_front reader text handed stands =
    let f = stands.front [] in
    (f.0, ap (λ (t : List ℕ). (reading t).covered) (sym (append-nil text)) ∙ f.1)

abbrev NoEnd : Covered → Type 0
NoEnd c = is_end c.head ≡ false

not_true : (b : Bool) → (b ≡ true → false ≡ true) → b ≡ false
not_true true is = sym (is refl)
not_true false is = refl

none_before : (handed : List Covered) (old : coded.Stage) → is_live old ≡ true → StandsBehind handed old → All NoEnd handed
none_before handed stages.Waits live is = subst (All NoEnd) (sym is) (All-nil NoEnd)
none_before handed (stages.Lives flags row) live is = is
none_before handed (stages.Ends row) live is = absurd cc
none_before handed (stages.Done received) live is = absurd cc
none_before handed stages.Over live is = absurd cc

nothing_before : (handed : List Covered) (old : coded.Stage) → old ≡ stages.Waits → StandsBehind handed old → handed ≡ []
nothing_before handed old waits is = subst (StandsBehind handed) waits is

-- one record more was taken
pub behind_more : (reader : Reader) (text : List ℕ) (handed : List Covered) (c : Covered) (old new : coded.Stage) → StandsFor reader text (handed ++ c ∷ []) → StandsBehind handed old
    → (waits_at new ≡ true → new ≡ old) → (is_begin c.head ≡ true → waits_at new ≡ false) → (is_end c.head ≡ true → has_partial new ≡ false) → (has_partial new ≡ true → is_live old ≡ true)
    → StandsBehind (handed ++ c ∷ []) new
behind_more reader text handed c old stages.Waits stands is waits begins ends lives =
    let none : handed ≡ [] = nothing_before handed old (sym (waits refl)) is in
    let f = covered_front reader text (handed ++ c ∷ []) stands in
    let first : FirstBegins ((handed ++ c ∷ []) ++ f.0) = subst FirstBegins f.1 (begins_first text) in
    let begin : is_begin c.head ≡ true = subst (λ (l : List Covered). FirstBegins ((l ++ c ∷ []) ++ f.0)) none first in
    absurd (let no : true ≡ false = begins begin in cc)
behind_more reader text handed c old (stages.Lives flags row) stands is waits begins ends lives =
    All-push NoEnd handed c (none_before handed old (lives refl) is) (not_true (is_end c.head) (λ end. sym (ends end)))
behind_more reader text handed c old (stages.Ends row) stands is waits begins ends lives = tt
behind_more reader text handed c old (stages.Done received) stands is waits begins ends lives = tt
behind_more reader text handed c old stages.Over stands is waits begins ends lives = tt

has_end : (handed : List Covered) → EndsBy handed complete → All NoEnd handed → ⊥
has_end [] ends none = ends
has_end (c ∷ rest) (inl last) none = let inner : is_end c.head ≡ false = All-head NoEnd c rest none in absurd cc
has_end (c ∷ rest) (inr goes) none = has_end rest goes.1 (All-tail NoEnd c rest none)

-- behind END it doesn't go on
pub over_behind : (reader : Reader) (text : List ℕ) (handed : List Covered) (stage : coded.Stage) → HandsOut reader text handed complete → StandsBehind handed stage → is_live stage ≡ false
over_behind reader text handed stage hands is = by_stage stage is
  where
    ends : EndsBy handed complete
    ends = subst (λ (r : Reading). EndsBy r.covered r.outcome) hands.whole (ends_last text)

    by_stage : (s : coded.Stage) → StandsBehind handed s → is_live s ≡ false
    by_stage stages.Waits is = absurd (subst (λ (l : List Covered). EndsBy l complete) is ends)
    by_stage (stages.Lives flags row) is = absurd (has_end handed ends is)
    by_stage (stages.Ends row) is = refl
    by_stage (stages.Done received) is = refl
    by_stage stages.Over is = refl

-- a stream has no more bytes than it may have
pub fed_within : (reader : Reader) (stage : coded.Stage) → HasRead reader stage → pushed_of reader ≤ stream_limit
fed_within reader stage has = omega (arith, has.stands.pushed, has.stands.bounded)

-- where a receive is over, its reader stands for what it has read
pub over_reads : (old : Reader) (stage : coded.Stage) → HasRead old stage → HasRead old stages.Over
over_reads old stage has = record { text = has.text; bytes = has.bytes; handed = has.handed; stands = has.stands; behind = tt }

-- ---- dates

-- an answer of the definition
abbrev made : Batch → Result Batch Refusal
made plain = Ok plain

-- a receive that waits for BEGIN has what its plan looks at
pub waits_tell : (ask : RecvAsk) (header : Header) (rows : Rows) (pool : Pool) (bound : Option ℕ) (has : Blocks) (stage : Stage) → IsStage bound has stages.Waits stage → TellsBefore ask stage rows pool
    → (stage ≡ Waits) × TellsNeeded rows pool ask header
waits_tell ask header rows pool bound has Waits is tells = (refl, λ full there. tells there)
waits_tell ask header rows pool bound has (Lives flags partial) is tells = absurd is
waits_tell ask header rows pool bound has (Ends partial) is tells = absurd is

-- BEGIN is refused as its plan is
pub refused_begin : (ask : RecvAsk) (header : Header) (pool : Pool) (c : Covered) (len : ℕ) (plain : Batch) (fault : PlanFault) → c.head ≡ heads.Begin header len → plain.stage ≡ Waits
    → recv_plan ask header pool ≡ Err fault → taken ask pool c plain ≡ Err (refusal_of fault)
refused_begin ask header pool c len plain fault head waits is =
    subst (λ (s : Stage). taken_at ask pool c plain s ≡ Err (refusal_of fault)) (sym waits)
    (subst (λ (h : Head). began ask pool plain h ≡ Err (refusal_of fault)) (sym head) (ap (λ (p : Result RecvPlan PlanFault). of_plan p >>= λ plan. Ok (opened ask header plan)) is))

module _ (rows : Rows) (pool : Pool) where
  -- where the sets tell what a plan may look at they tell what is needed
  pub tells_all : (ask : RecvAsk) (stage : Stage) → TellsTarget ask rows pool → TellsBefore ask stage rows pool
  tells_all ask Waits tells = tells
  tells_all ask (Lives flags partial) tells = tt
  tells_all ask (Ends partial) tells = tt

  module _ (ask : RecvAsk) (c : Covered) (plain after : Batch) where
    still : TellsBefore ask plain.stage rows pool → made plain ≡ made after → TellsBefore ask after.stage rows pool
    still tells is = let same : plain ≡ after = cc in subst (λ (w : Batch). TellsBefore ask w.stage rows pool) same tells

    moved_tells : (flags : ℕ) (moved : Result Partial Refusal) → (moved >>= λ next. Ok (with_applied flags next plain)) ≡ Ok after → TellsBefore ask after.stage rows pool
    moved_tells flags (Err refusal) is = absurd cc
    moved_tells flags (Ok next) is = let same : with_applied flags next plain ≡ after = cc in subst (λ (w : Batch). TellsBefore ask w.stage rows pool) same tt

    ended_tells : (partial : Partial) → made (record plain { stage = Ends partial; taken = true }) ≡ made after → TellsBefore ask after.stage rows pool
    ended_tells partial is = let same : record plain { stage = Ends partial; taken = true } ≡ after = cc in subst (λ (w : Batch). TellsBefore ask w.stage rows pool) same tt

    went_tells : (flags : ℕ) (partial : Partial) (head : Head) → TellsBefore ask plain.stage rows pool → went_on (pool.number + 1) c flags partial plain head ≡ Ok after → TellsBefore ask after.stage rows pool
    went_tells flags partial (heads.Begin header len) tells is = still tells is
    went_tells flags partial (heads.Object object kind bonus_kind block_size bonus_len max_block to) tells is = moved_tells flags (moved_by (pool.number + 1) c flags partial) is
    went_tells flags partial (heads.FreeObjects first count to) tells is = moved_tells flags (moved_by (pool.number + 1) c flags partial) is
    went_tells flags partial (heads.Write object kind offset size to) tells is = moved_tells flags (moved_by (pool.number + 1) c flags partial) is
    went_tells flags partial (heads.Free object offset size to) tells is = moved_tells flags (moved_by (pool.number + 1) c flags partial) is
    went_tells flags partial (heads.End sums to) tells is = ended_tells partial is
    went_tells flags partial (heads.Spill object size to) tells is = moved_tells flags (moved_by (pool.number + 1) c flags partial) is
    went_tells flags partial (heads.Redact object offset size to) tells is = moved_tells flags (moved_by (pool.number + 1) c flags partial) is

    taken_tells : (stage : Stage) → TellsBefore ask stage rows pool → TellsBefore ask plain.stage rows pool → taken_at ask pool c plain stage ≡ Ok after → TellsBefore ask after.stage rows pool
    taken_tells Waits dates tells is = tells_all ask after.stage dates
    taken_tells (Lives flags partial) dates tells is = went_tells flags partial c.head tells is
    taken_tells (Ends partial) dates tells is = still tells is

  by_tells : (ask : RecvAsk) (c : Covered) (rest : List Covered) (plain after : Batch) → TellsBefore ask plain.stage rows pool
      → ((next : Batch) → TellsBefore ask next.stage rows pool → AreTaken ask pool rest next after → TellsBefore ask after.stage rows pool)
      → (r : Result Batch Refusal) → taken ask pool c plain ≡ r → batch_by r plain (batch_of ask pool rest) ≡ record { batch = after; fault = None } → TellsBefore ask after.stage rows pool
  by_tells ask c rest plain after tells later (Err refusal) gave is = let e : Some refusal ≡ None = ap (λ (b : EndedBatch). b.fault) is in absurd (cc e)
  by_tells ask c rest plain after tells later (Ok next) gave is = later next (taken_tells ask c plain next plain.stage tells tells gave) is

  -- what was taken looks at no more dates
  pub tells_on : (ask : RecvAsk) (records : List Covered) (plain after : Batch) → AreTaken ask pool records plain after → TellsBefore ask plain.stage rows pool → TellsBefore ask after.stage rows pool
  unfolding batch_of
  tells_on ask [] plain after is tells = subst (λ (b : EndedBatch). TellsBefore ask b.batch.stage rows pool) is tells
  tells_on ask (c ∷ rest) plain after is tells = by_tells ask c rest plain after tells (λ next t are. tells_on ask rest next after are t) (taken ask pool c plain) refl is
