-- What is read of a piece: what its front covers, and then what the whole does.
use Rattle.std.proofs.Common.{◌≡◌, ◌⊎◌, inl, inr, ℕ, Bool, true, false, suc, ◌+◌, ◌-◌, ◌<◌, ◌≤◌, ◌^◌, ◌==◌, min, List, [], ◌∷◌, ◌++◌, length, take, drop, refl, sym, ap, ◌∙◌, subst, arith, append_assoc}
use Rattle.std.specs.Prelude.{Some, None, Result, Ok, Err}
use Rattle.std.proofs.lemmas.Bool.{eqb-true}
use Rattle.std.proofs.lemmas.List.{append-nil, drop_at, length-drop, nil_from_length, take-append-drop, take_all}
use Rattle.std.proofs.lemmas.List.Elements.{All-append, All-drop, All-take}
use Rattle.zst_model.specs.declared.refusals.refusal.Refusal.{Refusal}
use Rattle.zst_model.specs.declared.refusals.refusal.Refusal.TheVariants as refusals
use Rattle.zst_model.specs.declared.refusals.stream_fault.StreamFault.{StreamFault}
use Rattle.zst_model.specs.pools.Pool.{Pool}
use Rattle.zst_model.specs.refusals.Refusal.{refusal_of}
use Rattle.zst_model.specs.states.State.{AreBytes}
use Rattle.zst_plan.specs.declared.receive.RecvAsk.{RecvAsk}
use Rattle.zst_pool.specs.declared.fault.PoolFault.TheVariants as pools
use Rattle.zst_reader.specs.StandsFor.{StandsFor, HandsOut}
use Rattle.zst_reader.specs.declared.reader.Reader.{Reader}
use Rattle.zst_record.specs.Heads.{Covered}
use Rattle.zst_stream.specs.Reading.{FrontOf, Outcome, Reading, waiting, faulty, complete, reading}
use Rattle.zst_stream.proofs.Growth.{front}
use Rattle.zst_recv.specs.Faults.{stop_at}
use Rattle.zst_recv.specs.Feeds.{fault_of, new_records}
use Rattle.zst_recv.specs.ReceiveSteps.{Batch, EndedBatch, batch_of, batch_by, first_fault, taken}
use Rattle.zst_recv.specs.TakenRecords.{AreTaken, Drains, Reads, Refused, TakeFault, TakesAll, fault_in, taken_of}
use Rattle.zst_recv.specs.declared.fault.RecvFault.{RecvFault}
use Rattle.zst_recv.specs.declared.fault.RecvFault.TheVariants as faults
use Rattle.zst_recv.proofs.DrainLemmas.{batch_then}
use Rattle.zst_recv.proofs.OwnRefusals.{own_fault}

-- ---- pushes

-- a front of the rest is pushed behind what was
pub piece_split : (piece front rest : List ℕ) (n : ℕ) → piece ≡ front ++ rest → piece ≡ (front ++ take n rest) ++ drop n rest
piece_split piece front rest n is = is ∙ ap (λ (t : List ℕ). front ++ t) (sym (take-append-drop n rest)) ∙ sym (append_assoc front (take n rest) (drop n rest))

left_is : (rest : List ℕ) (n : ℕ) → take (length rest - n) (drop n rest) ≡ drop n rest
left_is rest n = take_all (length rest - n) (drop n rest) (omega (arith, length-drop n rest))

pub piece_left : (piece front rest : List ℕ) (n : ℕ) → piece ≡ front ++ rest → piece ≡ (front ++ take n rest) ++ take (length rest - n) (drop n rest)
piece_left piece front rest n is = piece_split piece front rest n is ∙ ap (λ (t : List ℕ). (front ++ take n rest) ++ t) (sym (left_is rest n))

pub more_bytes : (text rest : List ℕ) (n : ℕ) → AreBytes text → AreBytes rest → AreBytes (text ++ take n rest)
more_bytes text rest n one other = All-append (λ byte. byte < 2 ^ 8) text (take n rest) one (All-take (λ byte. byte < 2 ^ 8) n rest other)

pub left_bytes : (rest : List ℕ) (n : ℕ) → AreBytes rest → AreBytes (take (length rest - n) (drop n rest))
left_bytes rest n is = All-take (λ byte. byte < 2 ^ 8) (length rest - n) (drop n rest) (All-drop (λ byte. byte < 2 ^ 8) n rest is)

left_length : (rest : List ℕ) (n : ℕ) → length (take (length rest - n) (drop n rest)) ≡ length rest - n
left_length rest n = ap length (left_is rest n) ∙ length-drop n rest

pub limit_left : (rest : List ℕ) (n room old mid new : ℕ) → n ≡ min (length rest) room → mid ≡ old + n → new ≡ mid → old + length rest ≤ 2 ^ 62
    → new + length (take (length rest - n) (drop n rest)) ≤ 2 ^ 62
limit_left rest n room old mid new count pushed same limit = let left = left_length rest n in omega (arith, left, count)

-- what was pushed and what is left are the piece
pub told_left : (rest : List ℕ) (n room old mid new all : ℕ) → n ≡ min (length rest) room → mid ≡ old + n → new ≡ mid → old + length rest ≡ all → new + length (take (length rest - n) (drop n rest)) ≡ all
told_left rest n room old mid new all count pushed same is = let left = left_length rest n in omega (arith, left, count)

pub all_told : (rest : List ℕ) (pushed all : ℕ) → pushed + length rest ≡ all → true ≡ (length rest == 0) → pushed ≡ all
all_told rest pushed all is none = let nothing = eqb-true (length rest) 0 (sym none) in omega (arith, is, nothing)

-- where there was room less is left, and else there is room now
pub less_left : (rest : List ℕ) (n room later : ℕ) → (length rest == 0) ≡ false → n ≡ min (length rest) room → 0 < later
    → length (take (length rest - n) (drop n rest)) + (1 - later) < length rest + (1 - room)
less_left [] n room later any count some = let e : true ≡ false = any in absurd (cc e)
less_left (byte ∷ rest) n room later any count some =
    let left = left_length (byte ∷ rest) n in
    let more : length (byte ∷ rest) ≡ suc (length rest) = refl in
    omega (arith, left, count, more)

-- nothing is left
pub piece_done : (piece front rest : List ℕ) → piece ≡ front ++ rest → true ≡ (length rest == 0) → piece ≡ front
piece_done piece front rest is none = is ∙ ap (λ (t : List ℕ). front ++ t) (nil_from_length rest (eqb-true (length rest) 0 (sym none))) ∙ append-nil front

-- a text and its piece are what was read, and the rest
pub whole_read : (text piece front got rest : List ℕ) → piece ≡ (front ++ got) ++ rest → text ++ piece ≡ ((text ++ front) ++ got) ++ rest
whole_read text piece front got rest is =
    ap (λ (t : List ℕ). text ++ t) is ∙ sym (append_assoc text (front ++ got) rest) ∙ ap (λ (t : List ℕ). t ++ rest) (sym (append_assoc text front got))

-- ---- readings

-- a reading that doesn't wait is that of each longer text
same_reading : (short long : Reading) (handed : List Covered) (outcome : Outcome) → FrontOf short long → short ≡ record { covered = handed; outcome = outcome } → (outcome ≡ waiting → ⊥)
    → (long.covered ≡ handed) × (long.outcome ≡ outcome)
same_reading short long handed outcome f is ended =
    let covered : short.covered ≡ handed = ap (λ (r : Reading). r.covered) is in
    let told : short.outcome ≡ outcome = ap (λ (r : Reading). r.outcome) is in
    by f.outcome covered told
  where
    by : (short.outcome ≡ waiting) ⊎ ((short.outcome ≡ long.outcome) × (f.others ≡ [])) → short.covered ≡ handed → short.outcome ≡ outcome
        → (long.covered ≡ handed) × (long.outcome ≡ outcome)
    by (inl waits) covered told = absurd (ended (sym told ∙ waits))
    by (inr same) covered told = (f.covered ∙ ap (λ (cs : List Covered). short.covered ++ cs) same.1 ∙ append-nil short.covered ∙ covered, sym same.0 ∙ told)

-- Of this front of a piece all that it covers was taken, and more is wanted.
pub record FrontIsTaken (ask : RecvAsk) (pool : Pool) (reader : Reader) (text front : List ℕ) (handed : List Covered) (Is : Batch → Type 0) (plain : Batch) : Type 0 where
  pub records : List Covered
  pub after : Batch
  pub reads : HandsOut reader (text ++ front) (handed ++ records) waiting
  pub were_taken : AreTaken ask pool records plain after
  pub is : Is after

module _ (ask : RecvAsk) (pool : Pool) (text : List ℕ) (handed : List Covered) (plain : Batch) where
  pub piece_begins : (reader : Reader) (Is : Batch → Type 0) → HandsOut reader text handed waiting → Is plain → FrontIsTaken ask pool reader text [] handed Is plain
  unfolding batch_of
  piece_begins reader Is hands is = record {
    records = [];
    after = plain;
    reads = rw (append-nil text, append-nil handed) hands;
    were_taken = refl;
    is = is;
  }

  module _ (before : reading text ≡ record { covered = handed; outcome = waiting }) (piece : List ℕ) where
    abbrev whole : Reading
    whole = reading (text ++ piece)

    new_are : (records : List Covered) → whole.covered ≡ handed ++ records → new_records text piece ≡ records
    new_are records is =
        ap (λ (n : ℕ). drop n whole.covered) (ap (λ (r : Reading). length r.covered) before) ∙ ap (drop (length handed)) is ∙ drop_at handed records (length handed) refl

    -- these records were taken, and the whole piece covers no others
    all_made : (records : List Covered) (after : Batch) → whole.covered ≡ handed ++ records → AreTaken ask pool records plain after
        → taken_of ask pool text piece plain ≡ record { batch = after; fault = None }
    all_made records after is are = ap (λ (cs : List Covered). batch_of ask pool cs plain) (new_are records is) ∙ are

    first_is : (made : EndedBatch) (outcome : Outcome) → taken_of ask pool text piece plain ≡ made → whole.outcome ≡ outcome → fault_in ask pool text piece plain ≡ first_fault made.fault (fault_of outcome)
    first_is made outcome is ended = ap (λ (b : EndedBatch). first_fault b.fault (fault_of whole.outcome)) is ∙ ap (λ (o : Outcome). first_fault made.fault (fault_of o)) ended

    is_made : (Is : Batch → Type 0) (made : EndedBatch) → taken_of ask pool text piece plain ≡ made → Is made.batch → Is (taken_of ask pool text piece plain).batch
    is_made Is made same is = subst Is (sym (ap (λ (b : EndedBatch). b.batch) same)) is

    module _ (reader : Reader) (records : List Covered) (after : Batch) (Is : Batch → Type 0) (are : AreTaken ask pool records plain after) (is : Is after) where
      -- the whole piece was read, and more is wanted
      pub takes_waiting : HandsOut reader (text ++ piece) (handed ++ records) waiting → TakesAll ask pool reader text piece Is plain
      takes_waiting hands =
          let covered : whole.covered ≡ handed ++ records = ap (λ (r : Reading). r.covered) hands.whole in
          let ended : whole.outcome ≡ waiting = ap (λ (r : Reading). r.outcome) hands.whole in
          let made = all_made records after covered are in
          record {
            whole = first_is (record { batch = after; fault = None }) waiting made ended;
            is = is_made Is (record { batch = after; fault = None }) made is;
            waits = λ _. (handed ++ records, hands);
            ends = λ other. let e : waiting ≡ complete = sym ended ∙ other in absurd (cc e);
          }

      module _ (read rest : List ℕ) (whole_is : text ++ piece ≡ read ++ rest) where
        front_is : FrontOf (reading read) whole
        front_is = subst (λ (t : List ℕ). FrontOf (reading read) (reading t)) (sym whole_is) (front read rest)

        -- END was covered
        pub takes_complete : HandsOut reader read (handed ++ records) complete → TakesAll ask pool reader text piece Is plain
        takes_complete hands =
            let same = same_reading (reading read) whole (handed ++ records) complete front_is hands.whole (λ e. absurd (cc e)) in
            let made = all_made records after same.0 are in
            record {
              whole = first_is (record { batch = after; fault = None }) complete made same.1;
              is = is_made Is (record { batch = after; fault = None }) made is;
              waits = λ other. let e : complete ≡ waiting = sym same.1 ∙ other in absurd (cc e);
              ends = λ _. (read, subst (λ (cs : List Covered). HandsOut reader read cs complete) (sym same.0) hands);
            }

        -- a check of the stream failed
        pub refused_stream : (fault : StreamFault) → HandsOut reader read (handed ++ records) (faulty fault) → Reads ask pool reader text piece Is plain (Err (faults.Stream fault))
        refused_stream fault hands =
            let same = same_reading (reading read) whole (handed ++ records) (faulty fault) front_is hands.whole (λ e. absurd (cc e)) in
            let made = all_made records after same.0 are in
            (first_is (record { batch = after; fault = None }) (faulty fault) made same.1, λ _. is_made Is (record { batch = after; fault = None }) made is)

        module _ (next : Covered) (stands : StandsFor reader read (handed ++ (records ++ next ∷ []))) where
          -- the next record is the definition's too
          comes_next : (others : List Covered) × (taken_of ask pool text piece plain ≡ batch_by (taken ask pool next after) after (batch_of ask pool others))
          unfolding batch_of
          comes_next =
              let f = stands.front rest in
              let covered : whole.covered ≡ handed ++ (records ++ next ∷ f.0) =
              ap (λ (t : List ℕ). (reading t).covered) whole_is ∙ f.1 ∙ append_assoc handed (records ++ next ∷ []) f.0 ∙ ap (λ (cs : List Covered). handed ++ cs) (append_assoc records (next ∷ []) f.0) in
              (f.0, ap (λ (cs : List Covered). batch_of ask pool cs plain) (new_are (records ++ next ∷ f.0) covered) ∙ batch_then ask pool (next ∷ f.0) records plain after are)

          made_refused : (refusal : Refusal) → taken ask pool next after ≡ Err refusal → taken_of ask pool text piece plain ≡ record { batch = after; fault = Some refusal }
          made_refused refusal refused = let n = comes_next in n.1 ∙ ap (λ (r : Result Batch Refusal). batch_by r after (batch_of ask pool n.0)) refused

          told : (refusal : Refusal) → taken ask pool next after ≡ Err refusal
              → (fault_in ask pool text piece plain ≡ Some refusal) × (fault_in ask pool text piece plain ≡ Some refusal → Is (taken_of ask pool text piece plain).batch)
          told refusal refused =
              let made = made_refused refusal refused in
              (first_is (record { batch = after; fault = Some refusal }) whole.outcome made refl, λ _. is_made Is (record { batch = after; fault = Some refusal }) made is)

          -- it is refused
          pub refused_record : (fault : RecvFault) → TakeFault (taken ask pool next after) fault → Reads ask pool reader text piece Is plain (Err fault)
          refused_record (faults.Pool (pools.Plan fault)) refused = told (refusal_of fault) refused
          refused_record (faults.Pool (pools.CannotApply fault)) refused = absurd refused
          refused_record (faults.Pool (pools.Redacted object block)) refused = absurd refused
          refused_record (faults.Pool (pools.Full need largest)) refused = (tt, λ e. absurd (own_fault ask pool text piece plain (refusals.Full need largest) e))
          refused_record (faults.Pool (pools.Damaged sector stated found)) refused = absurd refused
          refused_record (faults.Pool pools.DiskFault) refused = (tt, λ e. absurd (own_fault ask pool text piece plain refusals.DiskFault e))
          refused_record (faults.Pool pools.Failed) refused = absurd refused
          refused_record (faults.Pool pools.OutOfMemory) refused = absurd refused
          refused_record (faults.Stream fault) refused = absurd refused
          refused_record (faults.CannotApply index fault) refused = told (refusals.CannotApply index fault) refused

    -- the whole piece was read
    pub piece_waits : (reader : Reader) (front : List ℕ) (Is : Batch → Type 0) → piece ≡ front → FrontIsTaken ask pool reader text front handed Is plain → Reads ask pool reader text piece Is plain (Ok tt)
    piece_waits reader front Is is m =
        takes_waiting reader m.records m.after Is m.were_taken m.is (subst (λ (t : List ℕ). HandsOut reader (text ++ t) (handed ++ m.records) waiting) (sym is) m.reads)

    module _ (old new : Reader) (front got rest : List ℕ) (Was Is : Batch → Type 0) (piece_is : piece ≡ (front ++ got) ++ rest) (m : FrontIsTaken ask pool old text front handed Was plain) where
      abbrev read : List ℕ
      read = (text ++ front) ++ got

      whole_is : text ++ piece ≡ read ++ rest
      whole_is = whole_read text piece front got rest piece_is

      are_all : (records : List Covered) (after : Batch) → AreTaken ask pool records m.after after → AreTaken ask pool (m.records ++ records) plain after
      are_all records after are = batch_then ask pool records m.records plain m.after m.were_taken ∙ are

      hands_all : (records : List Covered) (outcome : Outcome) → HandsOut new read ((handed ++ m.records) ++ records) outcome → HandsOut new read (handed ++ (m.records ++ records)) outcome
      hands_all records outcome hands = subst (λ (cs : List Covered). HandsOut new read cs outcome) (append_assoc handed m.records records) hands

      -- more of it is to be read
      pub piece_goes_on : (ended : Bool) → ended ≡ false → Drains ask pool new read (handed ++ m.records) Is m.after (Ok ended) → FrontIsTaken ask pool new text (front ++ got) handed Is plain
      piece_goes_on true none d = absurd (cc none)
      piece_goes_on false none d = record {
        records = m.records ++ d.1.records;
        after = d.0;
        reads = subst (λ (t : List ℕ). HandsOut new t (handed ++ (m.records ++ d.1.records)) waiting) (append_assoc text front got) (hands_all d.1.records waiting d.1.reads);
        were_taken = are_all d.1.records d.0 d.1.were_taken;
        is = d.2;
      }

      -- END was covered
      pub piece_ends : (ended : Bool) → ended ≡ true → Drains ask pool new read (handed ++ m.records) Is m.after (Ok ended) → Reads ask pool new text piece Is plain (Ok tt)
      piece_ends false all d = absurd (cc all)
      piece_ends true all d =
          takes_complete new (m.records ++ d.1.records) d.0 Is (are_all d.1.records d.0 d.1.were_taken) d.2 read rest whole_is (hands_all d.1.records complete d.1.reads)

      by_record : (fault : RecvFault) (after : Batch) → Refused ask pool new read (handed ++ m.records) m.after after fault → (stop_at fault ≡ None → Is after) → Reads ask pool new text piece Is plain (Err fault)
      by_record (faults.Pool (pools.Full need largest)) after r is = (tt, λ e. absurd (own_fault ask pool text piece plain (refusals.Full need largest) e))
      by_record (faults.Pool (pools.Damaged sector stated found)) after r is = absurd r.refused
      by_record (faults.Pool pools.DiskFault) after r is = (tt, λ e. absurd (own_fault ask pool text piece plain refusals.DiskFault e))
      by_record fault after r is =
          refused_record new (m.records ++ r.records) after Is (are_all r.records after r.were_taken) (is refl) read rest whole_is r.next
          (subst (StandsFor new read) (append_assoc handed m.records (r.records ++ r.next ∷ []) ∙ ap (λ (cs : List Covered). handed ++ cs) (sym (append_assoc m.records r.records (r.next ∷ [])))) r.reads)
          fault r.refused

      -- a check or a record was refused
      pub piece_refused : (fault : RecvFault) → Drains ask pool new read (handed ++ m.records) Is m.after (Err fault) → Reads ask pool new text piece Is plain (Err fault)
      piece_refused (faults.Stream fault) d =
          refused_stream new (m.records ++ d.1.records) d.0 Is (are_all d.1.records d.0 d.1.were_taken) d.2 read rest whole_is fault (hands_all d.1.records (faulty fault) d.1.reads)
      piece_refused (faults.Pool fault) d = by_record (faults.Pool fault) d.0 d.1 d.2
      piece_refused (faults.CannotApply index fault) d = by_record (faults.CannotApply index fault) d.0 d.1 d.2
