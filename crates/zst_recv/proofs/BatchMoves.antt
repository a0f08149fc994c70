-- What a record makes of a batch, whatever the image.
use Rattle.std.proofs.Common.{◌≡◌, ℕ, Bool, true, false, List, None, Result, Ok, Err, refl, sym, ap, ◌∙◌, subst}
use Rattle.std.specs.Prelude.{OnErr}
use Rattle.zst_dir.specs.RowNames.{AreNamed}
use Rattle.zst_dir.specs.Rows.{Rows}
use Rattle.zst_dir.specs.declared.rows.Partial.{Partial as Row}
use Rattle.zst_model.specs.declared.refusals.plan_fault.PlanFault.{PlanFault}
use Rattle.zst_model.specs.declared.sends.header.Header.{Header}
use Rattle.zst_model.specs.pools.Pool.{Pool}
use Rattle.zst_plan.specs.Receipts.{TellsNeeded}
use Rattle.zst_plan.specs.RecvPlan.{recv_plan}
use Rattle.zst_plan.specs.declared.receive.RecvAsk.{RecvAsk}
use Rattle.zst_pool.specs.declared.fault.PoolFault.TheVariants as pools
use Rattle.zst_record.specs.RecordValues.{IsLater}
use Rattle.zst_record.specs.declared.head.Head.{Head}
use Rattle.zst_record.specs.declared.head.Head.TheVariants as heads
use Rattle.zst_stream.specs.Reading.{closing}
use Rattle.zst_recv.specs.Batches.{Gathers, Moves, PlansBegin}
use Rattle.zst_recv.specs.Plans.{IsPlannedBy, is_planned}
use Rattle.zst_recv.specs.Stages.{CanPutFor, StageFits, has_partial, is_begin, is_end, is_live, waits_at}
use Rattle.zst_recv.specs.declared.batch.Batch as batches
use Rattle.zst_recv.specs.declared.fault.RecvFault.{RecvFault}
use Rattle.zst_recv.specs.declared.fault.RecvFault.TheVariants as faults
use Rattle.zst_recv.specs.declared.stage.Stage as coded
use Rattle.zst_recv.specs.declared.stage.Stage.TheVariants as stages
use Rattle.zst_recv.proofs.RecordOrder.{no_end}

-- ---- stages

pub partial_lives : (stage : coded.Stage) → has_partial stage ≡ true → is_live stage ≡ true
partial_lives stages.Waits has = absurd (cc has)
partial_lives (stages.Lives flags row) has = refl
partial_lives (stages.Ends row) has = absurd (cc has)
partial_lives (stages.Done received) has = absurd (cc has)
partial_lives stages.Over has = absurd (cc has)

pub partial_begun : (stage : coded.Stage) → has_partial stage ≡ true → waits_at stage ≡ false
partial_begun stages.Waits has = absurd (cc has)
partial_begun (stages.Lives flags row) has = refl
partial_begun (stages.Ends row) has = refl
partial_begun (stages.Done received) has = refl
partial_begun stages.Over has = refl

-- one of the other variants
pub not_waits : (stage : coded.Stage) → (stage ≡ stages.Waits → ⊥) → waits_at stage ≡ false
not_waits stages.Waits never = absurd (never refl)
not_waits (stages.Lives flags row) never = refl
not_waits (stages.Ends row) never = refl
not_waits (stages.Done received) never = refl
not_waits stages.Over never = refl

pub not_lives : (stage : coded.Stage) → ((flags : ℕ) (row : Row) → stage ≡ stages.Lives flags row → ⊥) → has_partial stage ≡ false
not_lives stages.Waits never = refl
not_lives (stages.Lives flags row) never = absurd (never flags row refl)
not_lives (stages.Ends row) never = refl
not_lives (stages.Done received) never = refl
not_lives stages.Over never = refl

-- ---- heads

pub not_begin : (head : Head) → ((header : Header) (len : ℕ) → head ≡ heads.Begin header len → ⊥) → is_begin head ≡ false
not_begin (heads.Begin header len) never = absurd (never header len refl)
not_begin (heads.Object object kind bonus_kind block_size bonus_len max_block to) never = refl
not_begin (heads.FreeObjects first count to) never = refl
not_begin (heads.Write object kind offset size to) never = refl
not_begin (heads.Free object offset size to) never = refl
not_begin (heads.End sums to) never = refl
not_begin (heads.Spill object size to) never = refl
not_begin (heads.Redact object offset size to) never = refl

later_is : (head : Head) → IsLater head → is_begin head ≡ false
later_is (heads.Begin header len) later = absurd later
later_is (heads.Object object kind bonus_kind block_size bonus_len max_block to) later = refl
later_is (heads.FreeObjects first count to) later = refl
later_is (heads.Write object kind offset size to) later = refl
later_is (heads.Free object offset size to) later = refl
later_is (heads.End sums to) later = refl
later_is (heads.Spill object size to) later = refl
later_is (heads.Redact object offset size to) later = refl

-- ---- batches

-- a batch that is as it was
pub gathers_none : (rows : Rows) (target : List ℕ) (batch : batches.Batch) → Gathers rows target batch batch
gathers_none rows target batch = record { fits = λ fits. fits; idle = λ none. refl; waits = λ waits. refl }

module _ {A : Type 0} (rows : Rows) (target : List ℕ) where
  -- a record that was refused
  pub moves_refused : (head : Head) (batch : batches.Batch) (fault : RecvFault) → is_end head ≡ false → Moves {A = A} rows target head batch batch (Err fault)
  moves_refused head batch fault goes = record {
    gathers = gathers_none rows target batch;
    stays = refl;
    begins = tt;
    lives = partial_lives batch.stage;
    ends = λ end. absurd (let both : true ≡ false = sym end ∙ goes in cc both);
    over = λ live over. absurd (let both : true ≡ false = sym live ∙ over in cc both);
  }

  -- one that was passed over
  pub moves_passed : (head : Head) (batch : batches.Batch) (value : A) → (is_begin head ≡ true → waits_at batch.stage ≡ false) → (is_end head ≡ true → has_partial batch.stage ≡ false)
      → Moves rows target head batch batch (Ok value)
  moves_passed head batch value begins ends = record {
    gathers = gathers_none rows target batch;
    stays = tt;
    begins = begins;
    lives = partial_lives batch.stage;
    ends = ends;
    over = λ live over. absurd (let both : true ≡ false = sym live ∙ over in cc both);
  }

  pub moves_kept : (head : Head) (old new : batches.Batch) (value : A) → old ≡ new → (is_begin head ≡ true → waits_at old.stage ≡ false) → (is_end head ≡ true → has_partial old.stage ≡ false)
      → Moves rows target head old new (Ok value)
  moves_kept head old new value same begins ends = subst (λ (b : batches.Batch). Moves rows target head old b (Ok value)) same (moves_passed head old value begins ends)

  -- BEGIN, by which a partial state begins or goes on
  pub moves_begun : (header : Header) (len : ℕ) (old new : batches.Batch) (value : A) → old.stage ≡ stages.Waits → StageFits rows target new.stage → has_partial new.stage ≡ true → new.taken ≡ true
      → Moves rows target (heads.Begin header len) old new (Ok value)
  moves_begun header len old new value waited fits has taken = record {
    gathers = record {
      fits = λ before. fits;
      idle = λ none. absurd (let both : true ≡ false = sym taken ∙ none in cc both);
      waits = λ waits. absurd (let both : true ≡ false = sym waits ∙ partial_begun new.stage has in cc both);
    };
    stays = tt;
    begins = λ begin. partial_begun new.stage has;
    lives = λ lives. ap is_live waited;
    ends = λ end. absurd (cc end);
    over = λ live over. absurd (let both : true ≡ false = sym (partial_lives new.stage has) ∙ over in cc both);
  }

  -- END, of a partial state that was under way
  pub moves_ended : (sums : List ℕ) (to : ℕ) (old new : batches.Batch) (value : A) (flags : ℕ) (row : Row) → old.stage ≡ stages.Lives flags row → new.stage ≡ stages.Ends row → new.taken ≡ true
      → Moves rows target (heads.End sums to) old new (Ok value)
  moves_ended sums to old new value flags row lived ended taken =
      let waits : waits_at new.stage ≡ false = ap waits_at ended in
      let has : has_partial new.stage ≡ false = ap has_partial ended in
      record {
        gathers = record {
          fits = λ fits. subst (StageFits rows target) (sym ended) (subst (StageFits rows target) lived fits);
          idle = λ none. absurd (let both : true ≡ false = sym taken ∙ none in cc both);
          waits = λ wait. absurd (let both : true ≡ false = sym wait ∙ waits in cc both);
        };
        stays = tt;
        begins = λ begin. waits;
        lives = λ lives. absurd (let both : true ≡ false = sym lives ∙ has in cc both);
        ends = λ end. has;
        over = λ live over. refl;
      }

  -- another record, which was applied to it
  pub moves_gone : (head : Head) (old new : batches.Batch) (value : A) (flags : ℕ) (row next : Row) → old.stage ≡ stages.Lives flags row → new.stage ≡ stages.Lives flags next → new.taken ≡ true → is_end head ≡ false
      → (CanPutFor rows target row → CanPutFor rows target next) → Moves rows target head old new (Ok value)
  moves_gone head old new value flags row next lived lives taken goes puts =
      let waits : waits_at new.stage ≡ false = ap waits_at lives in
      record {
        gathers = record {
          fits = λ fits. subst (StageFits rows target) (sym lives) (puts (subst (StageFits rows target) lived fits));
          idle = λ none. absurd (let both : true ≡ false = sym taken ∙ none in cc both);
          waits = λ wait. absurd (let both : true ≡ false = sym wait ∙ waits in cc both);
        };
        stays = tt;
        begins = λ begin. waits;
        lives = λ has. ap is_live lived;
        ends = λ end. absurd (let both : true ≡ false = sym end ∙ goes in cc both);
        over = λ live over. absurd (let both : true ≡ false = sym (ap is_live lives) ∙ over in cc both);
      }

-- a record that is applied is neither BEGIN nor END
pub neither_is : (head : Head) → IsLater head → closing head ≡ None → (is_begin head ≡ false) × (is_end head ≡ false)
neither_is head later goes = (later_is head later, no_end head goes)

-- ---- plans

-- what BEGIN says of its plan
pub plans_begin : (rows : Rows) (ask : RecvAsk) (head : Head) (header : Header) (len : ℕ) (waited : Bool) (result : Result (Unit {0}) RecvFault) → head ≡ heads.Begin header len
    → ((running : Pool) → waited ≡ true → AreNamed rows running → TellsNeeded rows running ask header → IsPlannedBy (recv_plan ask header running) result) → OnErr result (waited ≡ true)
    → PlansBegin rows ask head waited result
plans_begin rows ask head header len waited result is planned because = record {
  planned = λ running other size begins was named tells.
      let same : header ≡ other = begin_same header other len size (sym is ∙ begins) in
      subst (λ (h : Header). IsPlannedBy (recv_plan ask h running) result) same (planned running was named (subst (TellsNeeded rows running ask) (sym same) tells));
  because = λ fault kind told. (subst (λ (r : Result (Unit {0}) RecvFault). OnErr r (waited ≡ true)) told because, header, len, is);
}
  where
    begin_same : (one other : Header) (len size : ℕ) → heads.Begin one len ≡ heads.Begin other size → one ≡ other
    begin_same one other len size same = cc

-- no other record asks a plan
pub plans_none : (rows : Rows) (ask : RecvAsk) (head : Head) (waited : Bool) (result : Result (Unit {0}) RecvFault) → is_begin head ≡ false
    → ((fault : PlanFault) → result ≡ Err (faults.Pool (pools.Plan fault)) → is_planned fault ≡ false) → PlansBegin rows ask head waited result
plans_none rows ask head waited result other unplanned = record {
  planned = λ running header len begins was named tells. absurd (let both : true ≡ false = sym (ap is_begin begins) ∙ other in cc both);
  because = λ fault kind told. absurd (let both : true ≡ false = sym kind ∙ unplanned fault told in cc both);
}
