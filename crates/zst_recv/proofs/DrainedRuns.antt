-- What was gathered, and then settled: all that the text covers was taken.
use Rattle.std.proofs.Common.{◌≡◌, ℕ, ◌<◌, Bool, true, false, List, [], ◌∷◌, ◌++◌, refl, sym, ap, ◌∙◌, subst, arith, append_assoc, Option, Result, Ok, Err}
use Rattle.std.specs.Prelude.{None, IfErr, IfOk, OnOk, if◌then◌else◌}
use Rattle.zst_space.specs.FreeSectors.{FreeSectors}
use Rattle.zst_block.specs.declared.fault.BlockFault.{BlockFault}
use Rattle.zst_dir.specs.Rows.{Rows}
use Rattle.zst_model.specs.pools.Pool.{Pool}
use Rattle.zst_plan.specs.declared.receive.RecvAsk.{RecvAsk}
use Rattle.zst_reader.specs.StandsFor.{StandsFor, HandsOut}
use Rattle.zst_reader.specs.declared.reader.Reader.{Reader}
use Rattle.zst_record.specs.Heads.{Covered}
use Rattle.zst_stream.specs.Reading.{complete, faulty, reading, waiting}
use Rattle.zst_recv.specs.Faults.{stop_of}
use Rattle.zst_recv.specs.PutOffWrites.{GathersAll, IsDue, IsPutOff, Settles, SettlesFault, SpendsGathered}
use Rattle.zst_recv.specs.ReadTexts.{Empties, ReadsText}
use Rattle.zst_recv.specs.ReceiveSteps.{Batch}
use Rattle.zst_recv.specs.Stages.{StandsBehind, has_partial, is_live, waits_at}
use Rattle.zst_recv.specs.TakenRecords.{Drains, HandedOn}
use Rattle.zst_recv.specs.declared.block_run.BlockRun.{BlockRun}
use Rattle.zst_recv.specs.declared.fault.RecvFault.{RecvFault}
use Rattle.zst_recv.specs.declared.fault.RecvFault.TheVariants as faults
use Rattle.zst_recv.specs.declared.stage.Stage as coded
use Rattle.zst_recv.specs.declared.stage.Stage.TheVariants as stages
use Rattle.zst_recv.proofs.Gatherings.{last_of, settled_all, settled_stops}
use Rattle.zst_recv.proofs.PlanRefusals.{covers_some}
use Rattle.zst_recv.proofs.RunSettles.{settles_none}

-- where something is put off nothing is refused but the stream
module _ (run : BlockRun) (some : 0 < run.count) where
  never_empty : IsPutOff run [] → ⊥
  never_empty none = let zero_is = none.count_is in omega (arith, zero_is, some)

  -- so no block stopped it
  pub not_stopped : (result : Result Bool RecvFault) → IfErr result (SettlesFault run) → stop_of result ≡ None
  not_stopped (Ok ended) settled = refl
  not_stopped (Err (faults.Pool fault)) settled = absurd (never_empty settled)
  not_stopped (Err (faults.Stream fault)) settled = refl
  not_stopped (Err (faults.CannotApply index fault)) settled = refl

  module _ (ask : RecvAsk) (pool : Pool) (reader : Reader) (text : List ℕ) (handed : List Covered) (Was Is : Batch → Type 0) (plain : Batch) where
    -- all that was gathered is taken
    pub drains_settled : (result : Result Bool RecvFault) → IfErr result (SettlesFault run) → GathersAll ask pool run reader text handed Was plain result
        → ((records : List Covered) (work : Batch) → IsDue run records work → Was work → Settles ask pool records Is work (Ok tt)) → Drains ask pool reader text handed Is plain result
    drains_settled (Ok ended) settled d settles = settled_all ask pool run reader text handed Was Is plain (if ended then complete else waiting) d (settles d.takes.put_off d.takes.after d.takes.due d.takes.is)
    drains_settled (Err (faults.Pool fault)) settled d settles = absurd (never_empty settled)
    drains_settled (Err (faults.Stream fault)) settled d settles = settled_all ask pool run reader text handed Was Is plain (faulty fault) d (settles d.takes.put_off d.takes.after d.takes.due d.takes.is)
    drains_settled (Err (faults.CannotApply index fault)) settled d settles = absurd (never_empty settled)

    -- or a block stops it
    pub drains_stopped : (fault : RecvFault) (result : Result Bool RecvFault) → IfErr result (SettlesFault run) → GathersAll ask pool run reader text handed Was plain result
        → ((records : List Covered) (work : Batch) → IsDue run records work → Was work → Settles ask pool records Is work (Err fault)) → Drains ask pool reader text handed Is plain (Err fault)
    drains_stopped fault (Ok ended) settled d settles = settled_stops ask pool run reader text handed Was Is plain (if ended then complete else waiting) d fault some (settles d.takes.put_off d.takes.after d.takes.due d.takes.is)
    drains_stopped fault (Err (faults.Pool other)) settled d settles = absurd (never_empty settled)
    drains_stopped fault (Err (faults.Stream other)) settled d settles = settled_stops ask pool run reader text handed Was Is plain (faulty other) d fault some (settles d.takes.put_off d.takes.after d.takes.due d.takes.is)
    drains_stopped fault (Err (faults.CannotApply index other)) settled d settles = absurd (never_empty settled)

-- nothing is put off
pub drains_none : (run : BlockRun) → run.count ≡ 0 → (ask : RecvAsk) (pool : Pool) (reader : Reader) (text : List ℕ) (handed : List Covered) (Is : Batch → Type 0) (plain : Batch) (result : Result Bool RecvFault)
    → GathersAll ask pool run reader text handed Is plain result → Drains ask pool reader text handed Is plain result
drains_none run none ask pool reader text handed Is plain (Ok ended) d =
    settled_all ask pool run reader text handed Is Is plain (if ended then complete else waiting) d (settles_none ask pool run d.takes.put_off Is d.takes.after d.takes.due none d.takes.is)
drains_none run none ask pool reader text handed Is plain (Err (faults.Pool fault)) d = d
drains_none run none ask pool reader text handed Is plain (Err (faults.Stream fault)) d =
    settled_all ask pool run reader text handed Is Is plain (faulty fault) d (settles_none ask pool run d.takes.put_off Is d.takes.after d.takes.due none d.takes.is)
drains_none run none ask pool reader text handed Is plain (Err (faults.CannotApply index fault)) d = d

-- ---- whatever the image

-- what reading says of a text by one stage it says by another that is live alike
pub texts_settled : {A : Type 0} (rows : Rows) (ask : RecvAsk) (front : List ℕ) (handed : List Covered) (text : List ℕ) (before mid after : coded.Stage) (reader : Reader) (result : Result A RecvFault) → is_live after ≡ is_live mid → waits_at after ≡ waits_at mid
    → ReadsText rows ask front handed text before mid reader result → ReadsText rows ask front handed text before after reader result
texts_settled rows ask front handed text before mid after reader result live waits texts = record {
  stream = texts.stream;
  stands = subst (λ (b : Bool). OnOk result (b ≡ true → (later : List Covered) × StandsFor reader text later)) (sym live) texts.stands;
  hands_out = subst (λ (b : Bool). OnOk result (b ≡ true → reading front ≡ record { covered = handed; outcome = waiting } → (later : List Covered) × HandsOut reader text later waiting)) (sym live) texts.hands_out;
  whole = λ was. subst (λ (b : Bool). OnOk result (b ≡ false → (reading text).outcome ≡ complete)) (sym live) (texts.whole was);
  planned = texts.planned;
  because = texts.because;
  still = λ was none. subst (λ (b : Bool). OnOk result (b ≡ true)) (sym waits) (texts.still was none);
  uncovered = λ none waited. texts.uncovered none (sym waits ∙ waited);
}

-- a partial state that goes on stands behind what it stood behind
behind_lives : (handed : List Covered) (mid after : coded.Stage) → has_partial mid ≡ true → has_partial after ≡ true → StandsBehind handed mid → StandsBehind handed after
behind_lives handed stages.Waits after was is behind = absurd (cc was)
behind_lives handed (stages.Lives flags row) stages.Waits was is behind = absurd (cc is)
behind_lives handed (stages.Lives flags row) (stages.Lives others next) was is behind = behind
behind_lives handed (stages.Lives flags row) (stages.Ends next) was is behind = tt
behind_lives handed (stages.Lives flags row) (stages.Done received) was is behind = tt
behind_lives handed (stages.Lives flags row) stages.Over was is behind = tt
behind_lives handed (stages.Ends row) after was is behind = absurd (cc was)
behind_lives handed (stages.Done received) after was is behind = absurd (cc was)
behind_lives handed stages.Over after was is behind = absurd (cc was)

pub handed_settled : (reader : Reader) (text : List ℕ) (mid after : coded.Stage) (result : Result Bool RecvFault) → has_partial mid ≡ true → has_partial after ≡ true → is_live after ≡ is_live mid → IfOk result (HandedOn reader text mid) → IfOk result (HandedOn reader text after)
handed_settled reader text mid after (Ok ended) was is live on = record { handed = on.handed; stands = on.stands; behind = behind_lives on.handed mid after was is on.behind; over = λ end. live ∙ on.over end }
handed_settled reader text mid after (Err fault) was is live on = tt

-- where something is put off the text covers some
pub covers_put : (run : BlockRun) (reader : Reader) (text : List ℕ) (handed : List Covered) (old new : FreeSectors) (stop : Option BlockFault) → 0 < run.count → SpendsGathered run reader text handed old new stop → (reading text).covered ≡ [] → ⊥
covers_put run reader text handed old new stop some spent none =
    let was = spent.spends in
    let parts = last_of was.put_off run.count was.are_put_off.count_is some in
    let all : handed ++ spent.records ≡ (handed ++ (was.first ++ parts.0)) ++ parts.1 ∷ [] =
    ap (λ (cs : List Covered). handed ++ cs) (sym was.all ∙ ap (λ (cs : List Covered). was.first ++ cs) parts.2 ∙ sym (append_assoc was.first parts.0 (parts.1 ∷ []))) ∙ sym (append_assoc handed (was.first ++ parts.0) (parts.1 ∷ [])) in
    covers_some reader text (handed ++ (was.first ++ parts.0)) parts.1 (subst (StandsFor reader text) all spent.stands) none

-- a reader that was emptied, where a block stopped what was put off
pub empties_stopped : (old new : Reader) (fault : RecvFault) (result : Result Bool RecvFault) → Empties old new result → ((text : List ℕ) (handed : List Covered) → StandsFor old text handed → (reading text).covered ≡ [] → ⊥) → Empties old new (Err fault)
empties_stopped old new fault result empties some = record {
  pushed = empties.pushed;
  room = λ is. absurd (cc is);
  hands_out = λ text handed stands is. absurd (cc is);
  of_stream = λ text handed stands none. absurd (some text handed stands none);
}
