-- What a plan over the rows says of a receive, turn by turn, whatever the image.
use Rattle.std.specs.Prelude.{Option, None, Some, Result, Ok, Err}
use Rattle.std.proofs.Common.{◌≡◌, ℕ, ◌≤◌, Bool, true, false, List, [], ◌∷◌, ◌++◌, length, refl, sym, ap, ◌∙◌, subst, append_assoc}
use Rattle.std.proofs.lemmas.List.{append-nil}
use Rattle.zst_outside.specs.States.{SourceState, Gave}
use Rattle.zst_dir.specs.Rows.{Rows}
use Rattle.zst_image.specs.declared.pool_state.PoolState.{PoolState}
use Rattle.zst_model.specs.declared.refusals.plan_fault.PlanFault.{PlanFault}
use Rattle.zst_model.specs.declared.refusals.plan_fault.PlanFault.TheVariants as plans
use Rattle.zst_model.specs.declared.refusals.refusal.Refusal.{Refusal}
use Rattle.zst_model.specs.declared.refusals.refusal.Refusal.TheVariants as refusals
use Rattle.zst_model.specs.refusals.Refusal.{refusal_of}
use Rattle.zst_plan.specs.declared.receive.RecvAsk.{RecvAsk}
use Rattle.zst_pool.specs.declared.fault.PoolFault.TheVariants as pools
use Rattle.zst_reader.specs.InputReads.{stream_limit}
use Rattle.zst_reader.specs.StandsFor.{StandsFor}
use Rattle.zst_record.specs.Heads.{Covered}
use Rattle.zst_record.specs.declared.head.Head.TheVariants as heads
use Rattle.zst_stream.specs.Laws.{FrontsAgree}
use Rattle.zst_stream.specs.Reading.{FrontOf, after, reading, reading_from, ruling}
use Rattle.zst_recv.specs.Faults.{recv_refusal}
use Rattle.zst_recv.specs.Plans.{RefusesEach, RefusesOne, is_planned}
use Rattle.zst_recv.specs.Stages.{is_waiting}
use Rattle.zst_recv.specs.declared.fault.RecvFault.{RecvFault}
use Rattle.zst_recv.specs.declared.fault.RecvFault.TheVariants as faults
use Rattle.zst_recv.specs.declared.recv.FeedReport as coded
use Rattle.zst_recv.specs.declared.recv.Recv.{Recv}
use Rattle.zst_recv.proofs.PlanRefusals.{by_covered}
use Rattle.zst_run.specs.Receives.{SaysOfPlan}
use Rattle.zst_run.specs.ReceiveTurns.{HasFed, PlansOn, TurnPlans, cut_refusal, told, turn_behind}
use Rattle.zst_run.specs.declared.receive.End.{End}
use Rattle.zst_run.specs.declared.receive.End.TheVariants.{Ended, Failed}

-- ---- what was given

cancel : (front one other : List ℕ) → front ++ one ≡ front ++ other → one ≡ other
cancel [] one other is = is
cancel (byte ∷ front) one other is = let rest : front ++ one ≡ front ++ other = cc (is) in cancel front one other rest

-- what an input gave in between is one text
pub gave_one : (input input' : SourceState) (one other : List ℕ) → Gave input input' one → Gave input input' other → one ≡ other
gave_one input input' one other is also = cancel input.given one other (sym is ∙ also)

-- so is what it gave behind it
pub so_far : (input mid input' : SourceState) (front piece text : List ℕ) → Gave input mid front → Gave mid input' piece → Gave input input' text → text ≡ front ++ piece
so_far input mid input' front piece text before behind whole =
    gave_one input input' text (front ++ piece) whole (behind ∙ ap (λ (l : List ℕ). l ++ piece) before ∙ append_assoc input.given front piece)

pub gave_none : (input : SourceState) (text : List ℕ) → Gave input input text → text ≡ []
gave_none input text gave = gave_one input input text [] gave (sym (append-nil input.given))

-- ---- refusals

limit_or_plan : (fault told : PlanFault) → refusal_of fault ≡ refusals.Plan told → (fault ≡ told) × (is_planned told ≡ true)
limit_or_plan (plans.Limit which number) told is = absurd (cc is)
limit_or_plan (plans.BadName place) told is = let same : plans.BadName place ≡ told = cc (is) in (same, ap is_planned (sym same))
limit_or_plan (plans.NoSuch what) told is = let same : plans.NoSuch what ≡ told = cc (is) in (same, ap is_planned (sym same))
limit_or_plan (plans.Exists what) told is = let same : plans.Exists what ≡ told = cc (is) in (same, ap is_planned (sym same))
limit_or_plan (plans.Busy holder) told is = let same : plans.Busy holder ≡ told = cc (is) in (same, ap is_planned (sym same))
limit_or_plan (plans.NotAncestor to from) told is = let same : plans.NotAncestor to from ≡ told = cc (is) in (same, ap is_planned (sym same))
limit_or_plan (plans.NotRedactionOf bookmark snapshot) told is = let same : plans.NotRedactionOf bookmark snapshot ≡ told = cc (is) in (same, ap is_planned (sym same))
limit_or_plan (plans.NotDescendant name) told is = let same : plans.NotDescendant name ≡ told = cc (is) in (same, ap is_planned (sym same))
limit_or_plan (plans.Modified name) told is = let same : plans.Modified name ≡ told = cc (is) in (same, ap is_planned (sym same))
limit_or_plan (plans.NotLatest have want) told is = let same : plans.NotLatest have want ≡ told = cc (is) in (same, ap is_planned (sym same))
limit_or_plan (plans.NoOrigin guid) told is = let same : plans.NoOrigin guid ≡ told = cc (is) in (same, ap is_planned (sym same))
limit_or_plan (plans.NotContained guid) told is = let same : plans.NotContained guid ≡ told = cc (is) in (same, ap is_planned (sym same))
limit_or_plan (plans.PartialExists name) told is = let same : plans.PartialExists name ≡ told = cc (is) in (same, ap is_planned (sym same))
limit_or_plan (plans.NoPartial name) told is = let same : plans.NoPartial name ≡ told = cc (is) in (same, ap is_planned (sym same))
limit_or_plan (plans.WrongResume have want) told is = let same : plans.WrongResume have want ≡ told = cc (is) in (same, ap is_planned (sym same))
limit_or_plan (plans.Unsupported lack) told is = let same : plans.Unsupported lack ≡ told = cc (is) in (same, ap is_planned (sym same))

-- a plan's refusal is a plan's fault
plan_only : (fault : RecvFault) (told : PlanFault) → recv_refusal fault ≡ refusals.Plan told → (fault ≡ faults.Pool (pools.Plan told)) × (is_planned told ≡ true)
plan_only (faults.Pool (pools.Plan fault)) told is = let so = limit_or_plan fault told is in (ap (λ (f : PlanFault). faults.Pool (pools.Plan f)) so.0, so.1)
plan_only (faults.Pool (pools.CannotApply fault)) told is = absurd (cc is)
plan_only (faults.Pool (pools.Redacted object block)) told is = absurd (cc is)
plan_only (faults.Pool (pools.Full need largest)) told is = absurd (cc is)
plan_only (faults.Pool (pools.Damaged sector stated found)) told is = absurd (cc is)
plan_only (faults.Pool pools.DiskFault) told is = absurd (cc is)
plan_only (faults.Pool pools.Failed) told is = absurd (cc is)
plan_only (faults.Pool pools.OutOfMemory) told is = absurd (cc is)
plan_only (faults.Stream fault) told is = absurd (cc is)
plan_only (faults.CannotApply index fault) told is = absurd (cc is)

-- ---- texts

none_refused : (rows : Rows) (ask : RecvAsk) (text : List ℕ) (fault : PlanFault) → (reading text).covered ≡ [] → RefusesOne rows ask text fault → ⊥
none_refused rows ask text fault none refuses = let b = refuses.begins in let empty : b.first ∷ b.rest ≡ [] = sym b.covered ∙ none in cc (empty)

-- a front that covers something begins as the text does
front_refused : FrontsAgree → (rows : Rows) (ask : RecvAsk) (text rest : List ℕ) (fault : PlanFault) (first : Covered) (others : List Covered) → (reading text).covered ≡ first ∷ others → RefusesOne rows ask (text ++ rest) fault
    → RefusesOne rows ask text fault
front_refused law rows ask text rest fault first others covered refuses =
    let b = refuses.begins in
    let f : FrontOf (reading text) (reading (text ++ rest)) = law text rest in
    let more : b.first ∷ b.rest ≡ (first ∷ others) ++ f.others = sym b.covered ∙ f.covered ∙ ap (λ (l : List Covered). l ++ f.others) covered in
    let same : b.first ≡ first = cc in
    record {
      pool = refuses.pool;
      header = refuses.header;
      begins = record { first = first; rest = others; len = b.len; covered = covered; head = subst (λ (c : Covered). c.head ≡ heads.Begin refuses.header b.len) same b.head };
      named = refuses.named;
      tells = refuses.tells;
      refused = refuses.refused;
    }

by_waiting : (P : Type 0) (recv : Recv) → (is_waiting recv ≡ true → P) → (is_waiting recv ≡ false → P) → P
by_waiting P recv waits behind = by (is_waiting recv) refl
  where
    by : (b : Bool) → is_waiting recv ≡ b → P
    by true is = waits is
    by false is = behind is

-- ---- the start, and the end of an input

pub none_covered : (reading []).covered ≡ []
unfolding reading reading_from ruling after
none_covered = refl

pub starts : (kept : PoolState) (recv : Recv) → StandsFor recv.reader [] [] → is_waiting recv ≡ true → (reading []).covered ≡ [] → PlansOn kept.dir kept recv []
starts kept recv stands waits none = record { fed = ([], stands); waits = λ is. (refl, none); passed = λ is more fault refuses. absurd (let both = sym waits ∙ is in cc) }

-- nothing was read
pub unread_plans : (rows : Rows) (ask : RecvAsk) (refusal : Refusal) → ((fault : PlanFault) → refusal ≡ refusals.Plan fault → ⊥) → (reading []).covered ≡ [] → SaysOfPlan rows ask [] (Err refusal)
unread_plans rows ask refusal other none = record { planned = λ memory fault within refuses. absurd (none_refused rows ask [] fault none refuses); because = λ fault is. absurd (other fault (cc is)) }

-- a receive that goes on was refused by no plan
on_plans : (rows : Rows) (kept : PoolState) (recv : Recv) (text : List ℕ) (fault : PlanFault) → PlansOn rows kept recv text → RefusesOne rows recv.ask text fault → ⊥
on_plans rows kept recv text fault on refuses =
    by_waiting ⊥ recv (λ waits. none_refused rows recv.ask text fault (let so = on.waits waits in so.1) refuses)
    (λ behind. on.passed behind [] fault (subst (λ (t : List ℕ). RefusesOne rows recv.ask t fault) (sym (append-nil text)) refuses))

cut_other : (end : End) (count : ℕ) (fault : PlanFault) → cut_refusal end count ≡ refusals.Plan fault → ⊥
cut_other Ended count fault is = cc (is)
cut_other Failed count fault is = cc (is)

pub cut_plans : (rows : Rows) (kept : PoolState) (recv : Recv) (ask : RecvAsk) (text : List ℕ) (end : End) (count : ℕ) (refusal : Refusal) → recv.ask ≡ ask → refusal ≡ cut_refusal end count → PlansOn rows kept recv text → SaysOfPlan rows ask text (Err refusal)
cut_plans rows kept recv ask text end count refusal ask_is is on = record {
  planned = λ memory fault within refuses. absurd (on_plans rows kept recv text fault on (subst (λ (a : RecvAsk). RefusesOne rows a text fault) (sym ask_is) refuses));
  because = λ fault same. absurd (let told : refusal ≡ refusals.Plan fault = cc (same) in cut_other end count fault (sym is ∙ told));
}

-- END was covered
pub received_plans : (rows : Rows) (ask : RecvAsk) (text : List ℕ) (lines : List (List ℕ)) → ((fault : PlanFault) → length text ≤ stream_limit → RefusesOne rows ask text fault → ⊥) → SaysOfPlan rows ask text (Ok lines)
received_plans rows ask text lines none = record { planned = λ memory fault within refuses. absurd (none fault within refuses); because = λ fault is. absurd (cc is) }

-- ---- one turn

-- no piece came
pub none_plans : (rows : Rows) (kept : PoolState) (recv : Recv) (text piece : List ℕ) → piece ≡ [] → PlansOn rows kept recv text → PlansOn rows kept recv (text ++ piece)
none_plans rows kept recv text piece none on = subst (λ (p : List ℕ). PlansOn rows kept recv (text ++ p)) (sym none) (subst (λ (t : List ℕ). PlansOn rows kept recv t) (sym (append-nil text)) on)

-- as the input ended or failed behind it, or not
pub turn_plans : (rows : Rows) (ask : RecvAsk) (kept : PoolState) (recv : Recv) (text : List ℕ) (end : Option End) → PlansOn rows kept recv text → TurnPlans rows ask kept recv text (turn_behind end)
turn_plans rows ask kept recv text None goes = goes
turn_plans rows ask kept recv text (Some end) goes = goes

module _ (law : FrontsAgree) (rows : Rows) (kept kept' : PoolState) (recv recv' : Recv) (text piece : List ℕ) (result : Result coded.FeedReport RecvFault) (on : PlansOn rows kept recv text) (ask_is : recv'.ask ≡ recv.ask)
    (planned : ¬ (result ≡ Err (faults.Pool pools.OutOfMemory)) → (fault : PlanFault) → is_waiting recv ≡ true → (reading text).covered ≡ [] → length (text ++ piece) ≤ stream_limit → RefusesOne kept.dir recv.ask (text ++ piece) fault → result ≡ Err (faults.Pool (pools.Plan fault))) where
  refused_so : ¬ (result ≡ Err (faults.Pool pools.OutOfMemory)) → (fault : PlanFault) → length (text ++ piece) ≤ stream_limit → RefusesOne rows recv.ask (text ++ piece) fault → result ≡ Err (faults.Pool (pools.Plan fault))
  refused_so memory fault within refuses =
      by_waiting (result ≡ Err (faults.Pool (pools.Plan fault))) recv
      (λ waits.
      let so = on.waits waits in
      planned memory fault waits so.1 within (subst (λ (r : Rows). RefusesOne r recv.ask (text ++ piece) fault) (sym so.0) refuses))
      (λ behind. absurd (on.passed behind piece fault refuses))

  -- it goes on
  pub goes_plans : (told : coded.FeedReport) → result ≡ Ok told → HasFed recv' (text ++ piece) → (is_waiting recv' ≡ true → kept' ≡ kept) → (is_waiting recv' ≡ true → is_waiting recv ≡ true)
      → ((reading text).covered ≡ [] → is_waiting recv' ≡ true → (reading (text ++ piece)).covered ≡ []) → (is_waiting recv ≡ true → (reading (text ++ piece)).covered ≡ [] → is_waiting recv' ≡ true) → PlansOn rows kept' recv' (text ++ piece)
  goes_plans told is fed stays waited uncovered still = record {
    fed = fed;
    waits = λ waits. let so = on.waits (waited waits) in (ap (λ (k : PoolState). k.dir) (stays waits) ∙ so.0, uncovered so.1 waits);
    passed = λ behind more fault refuses.
        let asks = subst (λ (a : RecvAsk). RefusesOne rows a ((text ++ piece) ++ more) fault) ask_is refuses in
        by_waiting ⊥ recv
        (λ waits. by_covered ⊥ (text ++ piece) (λ none. let both = sym (still waits none) ∙ behind in cc (both))
        (λ first others covered. let so = refused_so (λ out. absurd (cc (is, out))) fault fed.1.bounded (front_refused law rows recv.ask (text ++ piece) more fault first others covered asks) in cc (is, so)))
        (λ was. on.passed was (piece ++ more) fault (subst (λ (t : List ℕ). RefusesOne rows recv.ask t fault) (append_assoc text piece more) asks));
  }

  pub ends_plans : (told : coded.FeedReport) → result ≡ Ok told → (fault : PlanFault) → length (text ++ piece) ≤ stream_limit → RefusesOne rows recv.ask (text ++ piece) fault → ⊥
  ends_plans told is fault within refuses = let so = refused_so (λ out. absurd (cc (is, out))) fault within refuses in cc (is, so)

  pub refused_plans : (fault : RecvFault) → result ≡ Err fault
      → ((told : PlanFault) → is_planned told ≡ true → result ≡ Err (faults.Pool (pools.Plan told)) → (is_waiting recv ≡ true) × RefusesEach kept.dir recv.ask (text ++ piece) told) → SaysOfPlan rows recv.ask (text ++ piece) (Err (recv_refusal fault))
  refused_plans fault is because = record {
    planned = λ memory told within refuses.
        let alive : ¬ (result ≡ Err (faults.Pool pools.OutOfMemory)) =
        λ out. let none : fault ≡ faults.Pool pools.OutOfMemory = cc (is, out) in memory (ap (λ (f : RecvFault). Err (recv_refusal f)) none) in
        let same : fault ≡ faults.Pool (pools.Plan told) = (let so = refused_so alive told within refuses in cc (is, so)) in ap (λ (f : RecvFault). Err (recv_refusal f)) same;
    because = λ told same.
        let so = plan_only fault told (cc (same)) in
        let each = because told so.1 (is ∙ ap (λ (f : RecvFault). Err f) so.0) in
        subst (λ (r : Rows). RefusesEach r recv.ask (text ++ piece) told) (let w = on.waits each.0 in w.0) each.1;
  }
