-- What records leave of the disk, that they passed their checks, and that they are taken one after another.
use Rattle.std.proofs.Common.{◌≡◌, ℕ, ◌≤◌, ◌^◌, ◌||◌, Bool, true, false, List, [], ◌∷◌, ◌++◌, length, refl, sym, ap, ◌∙◌, subst, arith, append_assoc}
use Rattle.std.specs.Prelude.{Option, Some, None, Result, Ok, Err}
use Rattle.std.specs.List.{All}
use Rattle.std.proofs.lemmas.List.{append-nil, drop_at}
use Rattle.std.proofs.lemmas.List.Elements.{All-drop, All-head}
use Rattle.zst_outside.specs.Causes.{Rose-earlier}
use Rattle.zst_outside.specs.Images.{DiskState, OnlyReads-none}
use Rattle.zst_block.specs.IoCalls.{fails}
use Rattle.zst_block.specs.IoStates.{IoState}
use Rattle.zst_block.specs.declared.fault.BlockFault.{BlockFault}
use Rattle.zst_block.proofs.BlocksLaws.{FillsFree-reads, FillsFree-then}
use Rattle.zst_image.specs.Bodies.{free_by}
use Rattle.zst_image.specs.declared.pool_state.PoolState.{PoolState}
use Rattle.zst_model.specs.declared.refusals.refusal.Refusal.{Refusal}
use Rattle.zst_model.specs.pools.Pool.{Pool}
use Rattle.zst_model.specs.states.State.{AreBytes}
use Rattle.zst_plan.specs.declared.receive.RecvAsk.{RecvAsk}
use Rattle.zst_pool.specs.Calls.{IsUnderWay}
use Rattle.zst_reader.specs.StandsFor.{StandsFor, handed_of}
use Rattle.zst_reader.specs.declared.reader.Reader.{Reader}
use Rattle.zst_record.specs.Decoding.{features_in}
use Rattle.zst_record.specs.Heads.{Covered}
use Rattle.zst_stream.specs.PassedRecords.{HasPassed}
use Rattle.zst_stream.specs.Reading.{reading}
use Rattle.zst_stream.proofs.PassedRecords.{passed}
use Rattle.zst_recv.specs.Faults.{Fills}
use Rattle.zst_recv.specs.ReceiveSteps.{Batch, EndedBatch, batch_of, batch_by, taken}
use Rattle.zst_recv.specs.TakenRecords.{AreTaken, IsRead}
use Rattle.zst_recv.proofs.RecordCounts.{few_records}

-- ---- what is written

or_false : (b : Bool) → (b || false) ≡ b
or_false true = refl
or_false false = refl

-- nothing is
pub Fills-none : (io : IoState) → Fills io io None
Fills-none io = record {
  fills = FillsFree-reads io.disk io.disk io.space (OnlyReads-none io.disk);
  sectors = refl;
  full = λ need largest is. absurd (cc);
  told = λ whole. refl;
  failed = sym (or_false io.failed);
  cause = record { later = omega arith; fault = λ is. absurd (cc) };
  same = refl;
}

-- and then more
pub Fills-then : {old mid new : IoState} {stop : Option BlockFault} → Fills old mid None → Fills mid new stop → Fills old new stop
Fills-then {old} {mid} {new} {stop} first second = record {
  fills = FillsFree-then old.disk mid.disk new.disk old.space mid.space new.space first.fills second.fills;
  sectors = second.sectors ∙ first.sectors;
  full = second.full;
  told = λ whole. second.told whole ∙ first.told refl;
  failed = second.failed ∙ ap (λ (b : Bool). b || fails stop) (first.failed ∙ or_false old.failed);
  cause = record {
    later = omega (arith, first.cause.later, second.cause.later);
    fault = λ is. Rose-earlier old.disk.faults mid.disk.faults new.disk.faults first.cause.later (second.cause.fault is);
  };
  same = second.same ∙ first.same;
}

-- so the event goes on
pub goes_under : {tight : Bool} {start : DiskState} {old now : IoState} {stop : Option BlockFault} (kept : PoolState) (running : Pool)
    → IsUnderWay tight start old.disk old.space kept running → Fills old now stop → IsUnderWay tight start now.disk now.space kept running
goes_under {start = start} {old = old} {now = now} kept running way fills =
    record { rested = way.rested; fills = FillsFree-then start old.disk now.disk (free_by kept.body) old.space now.space way.fills fills.fills }

-- ---- records

-- what was handed out passed its checks
pub is_read : (r : Reader) (text : List ℕ) (handed : List Covered) (c : Covered) → AreBytes text → StandsFor r text (handed ++ c ∷ []) → IsRead c
is_read r text handed c bytes stands =
    let f = stands.front [] in
    let P : Covered → Type 0 = HasPassed (features_in text) in
    let is : (reading text).covered ≡ handed ++ (c ∷ f.0) = ap (λ (t : List ℕ). (reading t).covered) (sym (append-nil text)) ∙ f.1 ∙ append_assoc handed (c ∷ []) f.0 in
    let all : All P (handed ++ (c ∷ f.0)) = subst (All P) is (passed text bytes) in
    let from : All P (c ∷ f.0) = subst (All P) (drop_at handed (c ∷ f.0) (length handed) refl) (All-drop P (length handed) (handed ++ (c ∷ f.0)) all) in
    let one : HasPassed (features_in text) c = All-head P c f.0 from in
    record { features = features_in text; fits = one.fits; payload = one.len; stated = one.stated }

-- a stream has no more records than bytes
pub handed_within : (r : Reader) (text : List ℕ) (handed : List Covered) → StandsFor r text handed → handed_of r ≤ 2 ^ 62
handed_within r text handed s = let a = s.number in let b = s.sizes in let d = s.bounded in omega (arith, few_records handed)

module _ (ask : RecvAsk) (pool : Pool) (ys : List Covered) where
  then_by : (xs : List Covered) (plain after : Batch) → ((w : Batch) → AreTaken ask pool xs w after → batch_of ask pool (xs ++ ys) w ≡ batch_of ask pool ys after) → (r : Result Batch Refusal)
      → batch_by r plain (batch_of ask pool xs) ≡ record { batch = after; fault = None } → batch_by r plain (batch_of ask pool (xs ++ ys)) ≡ batch_of ask pool ys after
  then_by xs plain after later (Err refusal) is = let e : Some refusal ≡ None = ap (λ (b : EndedBatch). b.fault) is in absurd (cc e)
  then_by xs plain after later (Ok next) is = later next is

  -- where all of a list were taken the others are taken from there
  pub batch_then : (xs : List Covered) (plain after : Batch) → AreTaken ask pool xs plain after → batch_of ask pool (xs ++ ys) plain ≡ batch_of ask pool ys after
  unfolding batch_of
  batch_then [] plain after is = ap (λ (b : EndedBatch). batch_of ask pool ys b.batch) is
  batch_then (c ∷ xs) plain after is = then_by xs plain after (λ w. batch_then xs w after) (taken ask pool c plain) is
