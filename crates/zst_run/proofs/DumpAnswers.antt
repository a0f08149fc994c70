-- The answer of a dump is a function of what was read and of the states.
use Rattle.std.proofs.Common.{◌≡◌, ℕ, ◌-◌, ◌^◌, ◌<◌, Bool, true, false, Result, List, length, Err, Ok, refl, sym, ap, ◌∙◌, arith}
use Rattle.std.proofs.Math.Dec.{ltb}
use Rattle.std.proofs.lemmas.Bool.{lt-ltb, le-ltb}
use Rattle.std.proofs.lemmas.List.{append_cancel_left}
use Rattle.zst_outside.specs.Causes.{Rose}
use Rattle.zst_outside.specs.States.{SourceState, SinkState}
use Rattle.zst_model.specs.declared.refusals.faults.Quantity.TheVariants.{Stream}
use Rattle.zst_model.specs.declared.refusals.refusal.Refusal.{Refusal}
use Rattle.zst_model.specs.declared.refusals.refusal.Refusal.TheVariants as refusals
use Rattle.zst_model.specs.declared.refusals.stream_fault.StreamFault.TheVariants as faults
use Rattle.zst_stream.specs.Reading.{Outcome, waiting, faulty, complete, reading}
use Rattle.zst_reader.specs.InputReads.{stream_limit}
use Rattle.zst_run.specs.Dumps.{Ends, HadMemory, HasOneAnswer, IsWithin}

-- the answer where neither end failed and the text is no longer than a stream may be
abbrev answer_by : Outcome → ℕ → Result (Unit {0}) Refusal
answer_by complete size = Ok tt
answer_by (faulty fault) size = Err (refusals.Stream fault)
answer_by waiting size = Err (refusals.Stream (faults.Truncated size))

-- whether the output failed, the input failed, and the text is too long
abbrev answer_of : (lost failed longer : Bool) → Outcome → ℕ → Result (Unit {0}) Refusal
answer_of true failed longer outcome size = Err refusals.SinkFault
answer_of false true longer outcome size = Err refusals.SourceFault
answer_of false false true outcome size = Err (refusals.Limit Stream stream_limit)
answer_of false false false outcome size = answer_by outcome size

abbrev answer : SourceState → SourceState → SinkState → SinkState → List ℕ → Result (Unit {0}) Refusal
answer input input' out out' text =
    answer_of (ltb out.faults out'.faults) (ltb input.faults input'.faults) (ltb stream_limit (length text)) (reading text).outcome (length text)

found : (lost lost' failed failed' longer longer' : Bool) (outcome outcome' : Outcome) (size : ℕ) → lost ≡ lost' → failed ≡ failed' → longer ≡ longer' → outcome ≡ outcome'
    → answer_of lost failed longer outcome size ≡ answer_of lost' failed' longer' outcome' size
found lost lost' failed failed' longer longer' outcome outcome' size a b c d = rw (a, b, c, d) refl

stayed : (before after : ℕ) → after ≡ before → ltb before after ≡ false
stayed before after same = le-ltb before after (omega (arith, same))

rose : (before after : ℕ) → before < 2 ^ 64 - 1 → Rose before after → ltb before after ≡ true
rose before after few more = lt-ltb before after (omega (arith, few, more))

answered : (input input' : SourceState) (out out' : SinkState) (text : List ℕ) (result : Result (Unit {0}) Refusal)
    → input.faults < 2 ^ 64 - 1 → out.faults < 2 ^ 64 - 1 → HadMemory result → Ends text input input' out out' result → IsWithin text result
    → answer input input' out out' text ≡ result
answered input input' out out' text (Ok done) few few' had e within =
    found _ false _ false _ false _ complete _ (stayed _ _ e.2.0.stays) (stayed _ _ e.1) (le-ltb _ _ within) e.0
answered input input' out out' text (Err (refusals.Stream (faults.Truncated at))) few few' had e within =
    found _ false _ false _ false _ waiting _ (stayed _ _ e.4.0.stays) (stayed _ _ e.3) (le-ltb _ _ within) e.0
    ∙ ap (λ (n : ℕ). Err (refusals.Stream (faults.Truncated n))) (sym e.1)
answered input input' out out' text (Err (refusals.Stream (faults.Grammar at flaw))) few few' had e within =
    found _ false _ false _ false _ (faulty (faults.Grammar at flaw)) _ (stayed _ _ e.2.0.stays) (stayed _ _ e.1) (le-ltb _ _ within) e.0
answered input input' out out' text (Err (refusals.Stream (faults.Checksum at stated computed))) few few' had e within =
    found _ false _ false _ false _ (faulty (faults.Checksum at stated computed)) _ (stayed _ _ e.2.0.stays) (stayed _ _ e.1) (le-ltb _ _ within) e.0
answered input input' out out' text (Err (refusals.Stream (faults.Unsupported at lack))) few few' had e within =
    found _ false _ false _ false _ (faulty (faults.Unsupported at lack)) _ (stayed _ _ e.2.0.stays) (stayed _ _ e.1) (le-ltb _ _ within) e.0
answered input input' out out' text (Err (refusals.Limit which number)) few few' had e within =
    let long : stream_limit < length text = omega (arith, e.3.longer) in
    rw (e.0, e.1) (found _ false _ false _ true _ (reading text).outcome _ (stayed _ _ e.3.all.0.stays) (stayed _ _ e.2) (lt-ltb _ _ long) refl)
answered input input' out out' text (Err refusals.SourceFault) few few' had e within =
    found _ false _ true _ _ _ (reading text).outcome _ (stayed _ _ e.2.0.stays) (rose _ _ few e.1) refl refl
answered input input' out out' text (Err refusals.SinkFault) few few' had e within =
    found _ true _ _ _ _ _ (reading text).outcome _ (rose _ _ few' e.1) refl refl refl
answered input input' out out' text (Err refusals.OutOfMemory) few few' had e within = absurd (had refl)
answered input input' out out' text (Err other) few few' had e within = absurd e

pub one_answer : HasOneAnswer
one_answer input input' out out' one other few few' had had' d d' =
    let same : d.text ≡ d'.text = append_cancel_left input.given d.text d'.text (sym d.consumed ∙ d'.consumed) in
    sym (answered input input' out out' d.text one few few' had d.ends d.within)
    ∙ ap (answer input input' out out') same
    ∙ answered input input' out out' d'.text other few few' had' d'.ends d'.within
