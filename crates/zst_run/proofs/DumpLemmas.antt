-- What each turn of a dump leaves.
use Rattle.std.proofs.Common.{◌≡◌, ℕ, ◌<◌, ◌≤◌, ⊎_elim, Result, List, [], ◌∷◌, ◌++◌, length, take, Err, Ok, refl, sym, ap, ◌∙◌, arith, append_assoc, length-append}
use Rattle.std.proofs.lemmas.List.{append-nil, take_at}
use Rattle.std.proofs.lemmas.Grind.{flat_map-append}
use Rattle.zst_outside.specs.Causes.{Rose, Rose-earlier}
use Rattle.zst_outside.specs.States.{SourceState, SinkState, Gave, HandedOn}
use Rattle.zst_outside.specs.Printing.{Wrote, Printed, Prints, Wrote-kept, Wrote-then, Wrote-longer, Wrote-start, Printed-start, Printed-then}
use Rattle.zst_outside.specs.declared.Fault.{Fault}
use Rattle.zst_model.specs.declared.refusals.refusal.Refusal.{Refusal}
use Rattle.zst_model.specs.declared.refusals.refusal.Refusal.TheVariants as refusals
use Rattle.zst_record.specs.Heads.{Covered}
use Rattle.zst_model.specs.declared.refusals.stream_fault.StreamFault.{StreamFault}
use Rattle.zst_model.specs.declared.refusals.stream_fault.StreamFault.TheVariants as faults
use Rattle.zst_stream.specs.Reading.{Reading, Outcome, waiting, faulty, complete, reading}
use Rattle.zst_stream.specs.Findings.{FindsAtEnd}
use Rattle.zst_stream.proofs.FindingLaws.{Finds-reading}
use Rattle.zst_reader.specs.InputReads.{stream_limit}
use Rattle.zst_reader.specs.StandsFor.{StandsFor, HandsOut, pushed_of}
use Rattle.zst_reader.specs.declared.reader.Reader.{Reader}
use Rattle.zst_dump.specs.RecordLines.{line_text, lines_of}
use Rattle.zst_dump.specs.Summary.{counts_of, summary_text}
use Rattle.zst_dump.specs.declared.counts.Counts.{Counts}
use Rattle.zst_run.specs.Dumps.{Dumps, Ends, WroteAll, NoFault, IsWithin, dump_text, ending_of}
use Rattle.zst_run.specs.DumpTurns.{Dumping, IsAtEnd, IsFailed, IsLast, IsTooLong, TookMore, progress_of}
use Rattle.zst_run.specs.Replies.{HandsOn}
use Rattle.zst_run.proofs.ReceiveLemmas.{gave_then}

-- ---- readings

lines-more : (handed : List Covered) (c : Covered) → lines_of (handed ++ c ∷ []) ≡ lines_of handed ++ line_text c
lines-more handed c = flat_map-append line_text handed (c ∷ []) ∙ ap (λ (t : List ℕ). lines_of handed ++ t) (append-nil (line_text c))

lines-front : (handed rest : List Covered) (end : List ℕ) → lines_of (handed ++ rest) ++ end ≡ lines_of handed ++ (lines_of rest ++ end)
lines-front handed rest end = ap (λ (t : List ℕ). t ++ end) (flat_map-append line_text handed rest) ∙ append_assoc (lines_of handed) (lines_of rest) end

-- lines of records at the front are a front of the dump
front_written : (out out' : SinkState) (text : List ℕ) (handed rest : List Covered) (left : List ℕ) → (reading text).covered ≡ handed ++ rest
    → Wrote out out' (lines_of handed) left → (more : List ℕ) × Wrote out out' (dump_text (reading text)) more
front_written out out' text handed rest left is w =
    let end = ending_of (reading text).outcome (reading text).covered in
    (left ++ (lines_of rest ++ end), rw (ap lines_of is, lines-front handed rest end) (Wrote-longer out out' (lines_of handed) left (lines_of rest ++ end) w))

-- so are those of the records that a reader has handed out
handed_written : (out out' : SinkState) (r : Reader) (text : List ℕ) (handed : List Covered) (left : List ℕ) → StandsFor r text handed
    → Wrote out out' (lines_of handed) left → (more : List ℕ) × Wrote out out' (dump_text (reading text)) more
handed_written out out' r text handed left s w =
    let f = s.front [] in
    front_written out out' text handed f.0 left (rw (append-nil text) at f.1) w

-- all is written where no last lines come
all_printed : (out out' : SinkState) (text : List ℕ) (handed : List Covered) (o : Outcome) → reading text ≡ record { covered = handed; outcome = o }
    → ending_of o handed ≡ [] → Printed out out' (lines_of handed) → Printed out out' (dump_text (reading text))
all_printed out out' text handed o is none p = rw is (rw (none, append-nil (lines_of handed)) p)

outcome_is : (text : List ℕ) (handed : List Covered) (o : Outcome) → reading text ≡ record { covered = handed; outcome = o } → (reading text).outcome ≡ o
outcome_is text handed o is = ap (λ (r : Reading). r.outcome) is

-- ---- states

none_counted : (start input : SourceState) → NoFault start input → start.faults ≤ input.faults
none_counted start input kept = omega (arith, kept)

-- a text that is written stays so at a flush without a fault
printed_kept : (a b c : SinkState) (text : List ℕ) → Printed a b text → c.written ≡ b.written → c.faults ≡ b.faults → Printed a c text
printed_kept a b c text p kept stays =
    record { wrote = Wrote-kept a b c text [] p.wrote kept (omega (arith, stays)); stays = stays ∙ p.stays }

gave_none : (a b c : SourceState) (text : List ℕ) → Gave a b text → Gave b c [] → Gave a c text
gave_none a b c text first none = rw (append-nil text) at (gave_then a b c text [] first none)

-- ---- turns

-- where a whole dump was written: it is handed on, or that fails and is the answer
pub ended : (text : List ℕ) (start input : SourceState) (begun mid out : SinkState) (answer result : Result (Unit {0}) Refusal)
    → Gave start input text → NoFault start input → length text ≤ stream_limit → Printed begun mid (dump_text (reading text)) → HandsOn mid out answer result
    → (WroteAll text begun out → Ends text start input begun out answer) → IsWithin text answer → Dumps start input begun out result
ended text start input begun mid out answer result consumed kept bounded printed hands ends within =
    ⊎_elim
    (λ done.
    let all = printed_kept begun mid out (dump_text (reading text)) printed hands.written done.1 in
    rw done.0 (record { text = text; consumed = consumed; front = ([], all.wrote); ends = ends (all, done.2); within = within; later = none_counted start input kept }))
    (λ lost.
    let all = Wrote-kept begun mid out (dump_text (reading text)) [] printed.wrote hands.written hands.later in
    let rose = Rose-earlier begun.faults mid.faults out.faults printed.wrote.later lost.1 in
    rw lost.0 (record { text = text; consumed = consumed; front = ([], all); ends = (kept, rose); within = bounded; later = none_counted start input kept }))
    hands.outcome

-- the lines so far are handed on, and the dump is under way as before
pub flushed : (start input : SourceState) (begun mid out : SinkState) (r : Reader) (n : Counts)
    → Dumping start input begun mid r n → out.written ≡ mid.written → out.faults ≡ mid.faults → Dumping start input begun out r n
flushed start input begun mid out r n d kept stays = record {
  text = d.text;
  handed = d.handed;
  stands = d.stands;
  consumed = d.consumed;
  kept = d.kept;
  printed = printed_kept begun mid out (lines_of d.handed) d.printed kept stays;
  counted = d.counted;
}

-- they could not be handed on
pub unflushed : (start input : SourceState) (begun mid out : SinkState) (r : Reader) (n : Counts)
    → Dumping start input begun mid r n → out.written ≡ mid.written → mid.faults ≤ out.faults → Rose mid.faults out.faults
    → Dumps start input begun out (Err refusals.SinkFault)
unflushed start input begun mid out r n d kept later rose = record {
  text = d.text;
  consumed = d.consumed;
  front = handed_written begun out r d.text d.handed [] d.stands (Wrote-kept begun mid out (lines_of d.handed) [] d.printed.wrote kept later);
  ends = (d.kept, Rose-earlier begun.faults mid.faults out.faults d.printed.wrote.later rose);
  within = d.stands.bounded;
  later = none_counted start input d.kept;
}

-- a record's line is written and the record is counted
pub recorded : (start input : SourceState) (begun mid out : SinkState) (old new : Reader) (n n' : Counts) (c : Covered)
    → (d : Dumping start input begun mid old n) → StandsFor new d.text (d.handed ++ c ∷ []) → Prints {T = Unit {0}} {E = Fault} mid out (line_text c) (Ok tt)
    → n' ≡ counts_of (d.handed ++ c ∷ []) → Dumping start input begun out new n' × (progress_of old < progress_of new)
recorded start input begun mid out old new n n' c d s p counted = (
  record {
    text = d.text;
    handed = d.handed ++ c ∷ [];
    stands = s;
    consumed = d.consumed;
    kept = d.kept;
    printed = rw (lines-more d.handed c) (Printed-then begun mid out (lines_of d.handed) (line_text c) d.printed p.whole);
    counted = counted;
  },
  let a = d.stands.pushed in let b = d.stands.number in let e = s.pushed in let f = s.number in omega (arith, length-append d.handed (c ∷ [])),
)

-- a record's line could not be written
pub unrecorded : (start input : SourceState) (begun mid out : SinkState) (old new : Reader) (n : Counts) (c : Covered) (e : Fault)
    → (d : Dumping start input begun mid old n) → StandsFor new d.text (d.handed ++ c ∷ []) → Prints {T = Unit {0}} {E = Fault} mid out (line_text c) (Err e)
    → Dumps start input begun out (Err refusals.SinkFault)
unrecorded start input begun mid out old new n c e d s p = record {
  text = d.text;
  consumed = d.consumed;
  front = handed_written begun out new d.text (d.handed ++ c ∷ []) p.front.0 s
      (rw (lines-more d.handed c) (Wrote-then begun mid out (lines_of d.handed) (line_text c) p.front.0 d.printed.wrote p.front.1));
  ends = (d.kept, Rose-earlier begun.faults mid.faults out.faults d.printed.wrote.later p.fault);
  within = d.stands.bounded;
  later = none_counted start input d.kept;
}

-- the two last lines are written
pub completed : (start input : SourceState) (begun mid last out : SinkState) (old new : Reader) (n : Counts) (result : Result (Unit {0}) Refusal)
    → (d : Dumping start input begun mid old n) → HandsOut new d.text d.handed complete → Prints {T = Unit {0}} {E = Fault} mid last (summary_text n) (Ok tt)
    → HandsOn last out (Ok tt) result → Dumps start input begun out result
completed start input begun mid last out old new n result d h p hands =
    let all : Printed begun last (dump_text (reading d.text)) =
    rw h.whole (rw (← d.counted) (Printed-then begun mid last (lines_of d.handed) (summary_text n) d.printed p.whole)) in
    ended d.text start input begun last out (Ok tt) result d.consumed d.kept d.stands.bounded all hands
    (λ wrote. (outcome_is d.text d.handed complete h.whole, d.kept, wrote)) d.stands.bounded

-- they could not be written
pub uncompleted : (start input : SourceState) (begun mid out : SinkState) (old new : Reader) (n : Counts) (e : Fault)
    → (d : Dumping start input begun mid old n) → HandsOut new d.text d.handed complete → Prints {T = Unit {0}} {E = Fault} mid out (summary_text n) (Err e)
    → Dumps start input begun out (Err refusals.SinkFault)
uncompleted start input begun mid out old new n e d h p = record {
  text = d.text;
  consumed = d.consumed;
  front = (p.front.0, rw h.whole (rw (← d.counted) (Wrote-then begun mid out (lines_of d.handed) (summary_text n) p.front.0 d.printed.wrote p.front.1)));
  ends = (d.kept, Rose-earlier begun.faults mid.faults out.faults d.printed.wrote.later p.fault);
  within = d.stands.bounded;
  later = none_counted start input d.kept;
}

-- why a faulty stream ends the dump
ends_by : (text : List ℕ) (input input' : SourceState) (out out' : SinkState) (f : StreamFault) → (reading text).outcome ≡ faulty f → NoFault input input'
    → WroteAll text out out' → FindsAtEnd (reading text).outcome → Ends text input input' out out' (Err (refusals.Stream f))
ends_by text input input' out out' (faults.Grammar at flaw) is kept all found = (is, kept, all)
ends_by text input input' out out' (faults.Checksum at stated computed) is kept all found = (is, kept, all)
ends_by text input input' out out' (faults.Unsupported at lack) is kept all found = (is, kept, all)
ends_by text input input' out out' (faults.Truncated at) is kept all found = absurd (rw is at found)

-- the stream is faulty
pub refused : (start input : SourceState) (begun mid out : SinkState) (old new : Reader) (n : Counts) (f : StreamFault) (result : Result (Unit {0}) Refusal)
    → (d : Dumping start input begun mid old n) → HandsOut new d.text d.handed (faulty f) → HandsOn mid out (Err (refusals.Stream f)) result
    → Dumps start input begun out result
refused start input begun mid out old new n f result d h hands =
    let all = all_printed begun mid d.text d.handed (faulty f) h.whole refl d.printed in
    ended d.text start input begun mid out (Err (refusals.Stream f)) result d.consumed d.kept d.stands.bounded all hands
    (λ wrote. ends_by d.text start input begun out f (outcome_is d.text d.handed (faulty f) h.whole) d.kept wrote (Finds-reading d.text)) d.stands.bounded

-- ---- more of the input

pub more_taken : (start mid input : SourceState) (begun out : SinkState) (old lent new : Reader) (n : Counts)
    → (d : Dumping start mid begun out old n) → HandsOut lent d.text d.handed waiting → TookMore mid input lent new
    → Dumping start input begun out new n × (progress_of old < progress_of new)
more_taken start mid input begun out old lent new n d h t =
    let s = t.pushes.stands d.text d.handed h.stands in (
      record {
        text = d.text ++ t.got;
        handed = d.handed;
        stands = s;
        consumed = gave_then start mid input d.text t.got d.consumed t.consumed;
        kept = t.kept ∙ d.kept;
        printed = d.printed;
        counted = d.counted;
      },
      let a = d.stands.pushed in let a' = d.stands.number in let b = s.pushed in let b' = s.number in let f = t.some in omega (arith, length-append d.text t.got),
    )

-- all that was read is dumped, and the reading waits
record Waits (start mid : SourceState) (begun out : SinkState) (r : Reader) (text : List ℕ) (handed : List Covered) : Type 0 where
  pub stands : StandsFor r text handed
  pub consumed : Gave start mid text
  pub kept : NoFault start mid
  pub outcome : (reading text).outcome ≡ waiting
  pub all : WroteAll text begun out

waits : (start mid : SourceState) (begun out : SinkState) (old lent : Reader) (n : Counts)
    → (d : Dumping start mid begun out old n) → HandsOut lent d.text d.handed waiting → HandedOn out → Waits start mid begun out lent d.text d.handed
waits start mid begun out old lent n d h handed_on = record {
  stands = h.stands;
  consumed = d.consumed;
  kept = d.kept;
  outcome = outcome_is d.text d.handed waiting h.whole;
  all = (all_printed begun out d.text d.handed waiting h.whole refl d.printed, handed_on);
}

at_end : (start mid input : SourceState) (begun out : SinkState) (r : Reader) (text : List ℕ) (handed : List Covered) (refusal : Refusal)
    → Waits start mid begun out r text handed → IsAtEnd mid input (pushed_of r) refusal → Dumps start input begun out (Err refusal)
at_end start mid input begun out r text handed refusal w e =
    let kept : NoFault start input = e.kept ∙ w.kept in
    rw e.is (record {
      text = text;
      consumed = gave_none start mid input text w.consumed e.none;
      front = ([], w.all.0.wrote);
      ends = (w.outcome, w.stands.pushed, e.ended, kept, w.all);
      within = w.stands.bounded;
      later = none_counted start input kept;
    })

failed : (start mid input : SourceState) (begun out : SinkState) (r : Reader) (text : List ℕ) (handed : List Covered) (refusal : Refusal)
    → Waits start mid begun out r text handed → IsFailed mid input refusal → Dumps start input begun out (Err refusal)
failed start mid input begun out r text handed refusal w e =
    let before = none_counted start mid w.kept in
    rw e.is (record {
      text = text;
      consumed = gave_none start mid input text w.consumed e.none;
      front = ([], w.all.0.wrote);
      ends = (w.outcome, Rose-earlier start.faults mid.faults input.faults before e.rose, w.all);
      within = w.stands.bounded;
      later = let after = e.later in omega (arith, before, after);
    })

too_long : (start mid input : SourceState) (begun out : SinkState) (r : Reader) (text : List ℕ) (handed : List Covered) (refusal : Refusal)
    → Waits start mid begun out r text handed → Wrote begun out (lines_of handed) [] → IsTooLong mid input (pushed_of r) refusal → Dumps start input begun out (Err refusal)
too_long start mid input begun out r text handed refusal w so_far e =
    let kept : NoFault start input = e.kept ∙ w.kept in
    let full : length text ≡ stream_limit = sym w.stands.pushed ∙ e.full in
    let first : take stream_limit (text ++ e.byte ∷ []) ≡ text = take_at text (e.byte ∷ []) stream_limit full in
    let f = w.stands.front (e.byte ∷ []) in
    rw e.is (record {
      text = text ++ e.byte ∷ [];
      consumed = gave_then start mid input text (e.byte ∷ []) w.consumed e.one;
      front = front_written begun out (text ++ e.byte ∷ []) handed f.0 [] f.1 so_far;
      ends = (
        refl,
        refl,
        kept,
        record {
          longer = omega (arith, full, length-append text (e.byte ∷ []));
          waits = rw first w.outcome;
          all = rw first w.all;
        },
      );
      within = tt;
      later = none_counted start input kept;
    })

-- no more comes of the input
pub none_taken : (start mid input : SourceState) (begun out : SinkState) (old lent : Reader) (n : Counts) (refusal : Refusal)
    → (d : Dumping start mid begun out old n) → HandsOut lent d.text d.handed waiting → HandedOn out → IsLast mid input (pushed_of lent) refusal
    → Dumps start input begun out (Err refusal)
none_taken start mid input begun out old lent n refusal d h handed_on last =
    let w = waits start mid begun out old lent n d h handed_on in
    ⊎_elim (at_end start mid input begun out lent d.text d.handed refusal w)
    (⊎_elim (failed start mid input begun out lent d.text d.handed refusal w)
    (too_long start mid input begun out lent d.text d.handed refusal w d.printed.wrote))
    last

-- ---- the start

pub started : (start : SourceState) (begun : SinkState) (r : Reader) (n : Counts) → StandsFor r [] [] → n ≡ counts_of [] → Dumping start start begun begun r n
started start begun r n s counted = record {
  text = [];
  handed = [];
  stands = s;
  consumed = sym (append-nil start.given);
  kept = refl;
  printed = Printed-start begun;
  counted = counted;
}

pub no_memory : (start : SourceState) (begun : SinkState) → Dumps start start begun begun (Err refusals.OutOfMemory)
no_memory start begun = record {
  text = [];
  consumed = sym (append-nil start.given);
  front = (dump_text (reading []), Wrote-start begun (dump_text (reading [])));
  ends = (refl, refl);
  within = omega arith;
  later = omega arith;
}
