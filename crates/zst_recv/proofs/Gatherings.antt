-- What is gathered of a text: the covered records that are there pass, one after another, and then what is put off is taken.
use Rattle.std.proofs.Common.{◌≡◌, ℕ, ◌<◌, List, [], ◌∷◌, ◌++◌, length, refl, sym, ap, ◌∙◌, subst, arith, append_assoc, Option, Ok, Err}
use Rattle.std.specs.Prelude.{None}
use Rattle.std.proofs.lemmas.List.{append-nil}
use Rattle.zst_space.specs.FreeSectors.{FreeSectors}
use Rattle.zst_block.specs.declared.fault.BlockFault.{BlockFault}
use Rattle.zst_model.specs.pools.Pool.{Pool}
use Rattle.zst_plan.specs.declared.receive.RecvAsk.{RecvAsk}
use Rattle.zst_reader.specs.StandsFor.{StandsFor}
use Rattle.zst_reader.specs.declared.reader.Reader.{Reader}
use Rattle.zst_record.specs.Heads.{Covered}
use Rattle.zst_stream.specs.Reading.{Outcome}
use Rattle.zst_recv.specs.Costs.{Spends}
use Rattle.zst_recv.specs.Faults.{stop_at}
use Rattle.zst_recv.specs.PutOffWrites.{Gathered, GathersAll, IsPutOff, Settles, SettlesFault, SpendsFirst, SpendsGathered, StopsBehind, TakesFirst}
use Rattle.zst_recv.specs.ReceiveSteps.{Batch, taken}
use Rattle.zst_recv.specs.TakenRecords.{AreTaken, Drained, Drains, TakeFault}
use Rattle.zst_recv.specs.declared.block_run.BlockRun.{BlockRun}
use Rattle.zst_recv.specs.declared.fault.RecvFault.{RecvFault}
use Rattle.zst_recv.specs.declared.fault.RecvFault.TheVariants as faults
use Rattle.zst_recv.proofs.CostLemmas.{spends_then}
use Rattle.zst_recv.proofs.PassedRuns.{due_none, stops_any, stops_block, taken_more, taken_none}
use Rattle.zst_recv.proofs.WriteRuns.{front_taken}

-- These records were handed out behind the others; the first of them were taken, and the others are put off.
pub record Gathering (ask : RecvAsk) (pool : Pool) (run : BlockRun) (reader : Reader) (text : List ℕ) (handed : List Covered) (Is : Batch → Type 0) (plain : Batch) : Type 0 where
  pub records : List Covered
  pub stands : StandsFor reader text (handed ++ records)
  pub takes : TakesFirst ask pool run records Is plain

module _ (ask : RecvAsk) (pool : Pool) (text : List ℕ) (handed : List Covered) (plain : Batch) where
  pub gather_begins : (run : BlockRun) (reader : Reader) (Is : Batch → Type 0) → IsPutOff run [] → StandsFor reader text handed → Is plain → Gathering ask pool run reader text handed Is plain
  gather_begins run reader Is none stands is = record {
    records = [];
    stands = subst (StandsFor reader text) (sym (append-nil handed)) stands;
    takes = record { first = []; put_off = []; all = refl; after = plain; were_taken = taken_none ask pool plain; is = is; due = due_none run plain none };
  }

  module _ (run : BlockRun) (reader : Reader) (Was : Batch → Type 0) (d : Gathering ask pool run reader text handed Was plain) (later : BlockRun) (new : Reader) (Is : Batch → Type 0) (c : Covered) (stands : StandsFor new text ((handed ++ d.records) ++ c ∷ [])) where
    hands : StandsFor new text (handed ++ (d.records ++ c ∷ []))
    hands = subst (StandsFor new text) (append_assoc handed d.records (c ∷ [])) stands

    -- one record more passed
    pub gather_goes_on : TakesFirst ask pool later (d.takes.put_off ++ c ∷ []) Is d.takes.after → Gathering ask pool later new text handed Is plain
    gather_goes_on more = record {
      records = d.records ++ c ∷ [];
      stands = hands;
      takes = record {
        first = d.takes.first ++ more.first;
        put_off = more.put_off;
        all = append_assoc d.takes.first more.first more.put_off ∙ ap (λ (cs : List Covered). d.takes.first ++ cs) more.all ∙ sym (append_assoc d.takes.first d.takes.put_off (c ∷ [])) ∙ ap (λ (cs : List Covered). cs ++ c ∷ []) d.takes.all;
        after = more.after;
        were_taken = taken_more ask pool d.takes.first more.first plain d.takes.after more.after d.takes.were_taken more.were_taken;
        is = more.is;
        due = more.due;
      };
    }

    -- or it is refused
    pub gather_refused : (fault : RecvFault) → StopsBehind ask pool d.takes.put_off c Is d.takes.after fault → GathersAll ask pool later new text handed Is plain (Err fault)
    gather_refused fault stops = by fault stops.refused stops.is
      where
        were : AreTaken ask pool d.records plain stops.after
        were = subst (λ (cs : List Covered). AreTaken ask pool cs plain stops.after) d.takes.all (taken_more ask pool d.takes.first d.takes.put_off plain d.takes.after stops.after d.takes.were_taken stops.were_taken)

        by : (fault : RecvFault) → TakeFault (taken ask pool c stops.after) fault → (stop_at fault ≡ None → Is stops.after) → GathersAll ask pool later new text handed Is plain (Err fault)
        by (faults.Stream fault) refused is = absurd refused
        by (faults.Pool fault) refused is = (stops.after, record { records = d.records; next = c; reads = hands; were_taken = were; refused = refused }, is)
        by (faults.CannotApply index fault) refused is = (stops.after, record { records = d.records; next = c; reads = hands; were_taken = were; refused = refused }, is)

-- ---- what is put off is taken

-- the last of some records
split_last : (first : Covered) (records : List Covered) → (front : List Covered) × (last : Covered) × (first ∷ records ≡ front ++ last ∷ [])
split_last first [] = ([], first, refl)
split_last first (c ∷ records) = let rest = split_last c records in (first ∷ rest.0, rest.1, ap (λ (cs : List Covered). first ∷ cs) rest.2)

pub last_of : (records : List Covered) (count : ℕ) → length records ≡ count → 0 < count → (front : List Covered) × (last : Covered) × (records ≡ front ++ last ∷ [])
last_of [] count is some = absurd (omega (arith, is, some))
last_of (c ∷ records) count is some = split_last c records

module _ (ask : RecvAsk) (pool : Pool) (run : BlockRun) (reader : Reader) (text : List ℕ) (handed : List Covered) (Was Is : Batch → Type 0) (plain : Batch) (outcome : Outcome) (d : Gathered ask pool run reader text handed Was plain outcome) where
  were_all : (after : Batch) → AreTaken ask pool d.takes.put_off d.takes.after after → AreTaken ask pool d.records plain after
  were_all after were = subst (λ (cs : List Covered). AreTaken ask pool cs plain after) d.takes.all (taken_more ask pool d.takes.first d.takes.put_off plain d.takes.after after d.takes.were_taken were)

  -- so all that the text covers is
  pub settled_all : Settles ask pool d.takes.put_off Is d.takes.after (Ok tt) → (after : Batch) × Drained ask pool reader text handed plain after outcome × Is after
  settled_all settles = (settles.after, record { records = d.records; reads = d.reads; were_taken = were_all settles.after settles.were_taken }, settles.ends)

  -- or the disk is full or failed
  pub settled_stops : (fault : RecvFault) → 0 < run.count → Settles ask pool d.takes.put_off Is d.takes.after (Err fault) → Drains ask pool reader text handed Is plain (Err fault)
  settled_stops fault some settles = by fault settles.ends
    where
      parts : (front : List Covered) × (last : Covered) × (d.takes.put_off ≡ front ++ last ∷ [])
      parts = last_of d.takes.put_off run.count d.takes.due.put_off.count_is some

      split : d.records ≡ (d.takes.first ++ parts.0) ++ parts.1 ∷ []
      split = sym d.takes.all ∙ ap (λ (cs : List Covered). d.takes.first ++ cs) parts.2 ∙ sym (append_assoc d.takes.first parts.0 (parts.1 ∷ []))

      front : (mid : Batch) × AreTaken ask pool (d.takes.first ++ parts.0) plain mid × AreTaken ask pool (parts.1 ∷ []) mid settles.after
      front = front_taken ask pool (d.takes.first ++ parts.0) (parts.1 ∷ []) plain settles.after (subst (λ (cs : List Covered). AreTaken ask pool cs plain settles.after) split (were_all settles.after settles.were_taken))

      stands : StandsFor reader text (handed ++ ((d.takes.first ++ parts.0) ++ parts.1 ∷ []))
      stands = subst (λ (cs : List Covered). StandsFor reader text (handed ++ cs)) split d.reads.stands

      by : (fault : RecvFault) → TakeFault {A = Batch} (Ok settles.after) fault → Drains ask pool reader text handed Is plain (Err fault)
      by (faults.Stream fault) stops = absurd stops
      by (faults.Pool fault) stops = (
        front.0,
        record { records = d.takes.first ++ parts.0; next = parts.1; reads = stands; were_taken = front.1; refused = stops_any settles.after (taken ask pool parts.1 front.0) (faults.Pool fault) stops },
        λ none. absurd (stops_block settles.after (faults.Pool fault) stops none),
      )
      by (faults.CannotApply index fault) stops = absurd (cc stops)

-- a fault of a record leaves nothing put off
pub settles_fault : (run : BlockRun) (fault : RecvFault) → IsPutOff run [] → SettlesFault run fault
settles_fault run (faults.Pool fault) none = none
settles_fault run (faults.Stream fault) none = tt
settles_fault run (faults.CannotApply index fault) none = none

-- ---- what was spent

pub gathered_none : (run : BlockRun) (reader : Reader) (text : List ℕ) (handed : List Covered) (space : FreeSectors) → IsPutOff run [] → StandsFor reader text handed → SpendsFirst run [] space space None → SpendsGathered run reader text handed space space None
gathered_none run reader text handed space none stands spends = record { records = []; stands = subst (StandsFor reader text) (sym (append-nil handed)) stands; spends = spends }

-- one record more
pub gathered_more : (run later : BlockRun) (before reader : Reader) (text : List ℕ) (handed : List Covered) (c : Covered) (old mid new : FreeSectors) (stop : Option BlockFault) → SpendsGathered run before text handed old mid None
    → ((all : List Covered) → StandsFor before text all → StandsFor reader text (all ++ c ∷ [])) → ((records : List Covered) → IsPutOff run records → SpendsFirst later (records ++ c ∷ []) mid new stop) → SpendsGathered later reader text handed old new stop
gathered_more run later before reader text handed c old mid new stop spent hands one =
    let was = spent.spends in
    let more = one was.put_off was.are_put_off in
    record {
      records = spent.records ++ c ∷ [];
      stands = subst (StandsFor reader text) (append_assoc handed spent.records (c ∷ [])) (hands (handed ++ spent.records) spent.stands);
      spends = record {
        first = was.first ++ more.first;
        put_off = more.put_off;
        all = append_assoc was.first more.first more.put_off ∙ ap (λ (cs : List Covered). was.first ++ cs) more.all ∙ sym (append_assoc was.first was.put_off (c ∷ [])) ∙ ap (λ (cs : List Covered). cs ++ c ∷ []) was.all;
        are_put_off = more.are_put_off;
        spends = spends_then was.first more.first old mid new stop was.spends more.spends;
      };
    }

-- all that was handed out, where nothing is put off
all_first : (first put_off records : List Covered) (count : ℕ) → length put_off ≡ count → count ≡ 0 → first ++ put_off ≡ records → first ≡ records
all_first first [] records count is none all = sym (append-nil first) ∙ all
all_first first (c ∷ put_off) records count is none all = absurd (omega (arith, is, none))

pub gathered_all : (run : BlockRun) (reader : Reader) (text : List ℕ) (handed : List Covered) (old new : FreeSectors) (stop : Option BlockFault) → run.count ≡ 0 → SpendsGathered run reader text handed old new stop
    → (records : List Covered) × StandsFor reader text (handed ++ records) × Spends records old new stop
gathered_all run reader text handed old new stop none spent =
    let was = spent.spends in
    (spent.records, spent.stands, subst (λ (cs : List Covered). Spends cs old new stop) (all_first was.first was.put_off spent.records run.count was.are_put_off.count_is none was.all) was.spends)

-- and where it was taken
pub gathered_then : (run : BlockRun) (reader : Reader) (text : List ℕ) (handed : List Covered) (old mid new : FreeSectors) (stop : Option BlockFault) → SpendsGathered run reader text handed old mid None → ((records : List Covered) → IsPutOff run records → Spends records mid new stop)
    → (records : List Covered) × StandsFor reader text (handed ++ records) × Spends records old new stop
gathered_then run reader text handed old mid new stop spent settles =
    let was = spent.spends in
    (spent.records, spent.stands, subst (λ (cs : List Covered). Spends cs old new stop) was.all (spends_then was.first was.put_off old mid new stop was.spends (settles was.put_off was.are_put_off)))
