-- What calls wrote of a text, and how such calls follow one another.
use Rattle.std.specs.Prelude.{ℕ, ◌≡◌, List, [], ◌++◌, take, drop, Result, Ok, Err, OnOk, OnErr, IsErr, ◌≤◌, refl}
use Rattle.std.proofs.Common.{sym, ap, ◌∙◌, append_assoc, append-nil, take-append-drop, arith}
use Rattle.zst_outside.specs.Causes.{HasCause, Rose, Rose-earlier}
use Rattle.zst_outside.specs.States.{SinkState}

-- so much of a text was written, and this is left
pub record Wrote (old new : SinkState) (text rest : List ℕ) : Type 0 where
  pub printed : List ℕ
  pub appended : new.written ≡ old.written ++ printed
  pub is : text ≡ printed ++ rest
  pub later : old.faults ≤ new.faults

-- all of a text was written, and no fault was counted
pub record Printed (old new : SinkState) (text : List ℕ) : Type 0 where
  pub wrote : Wrote old new text []
  pub stays : new.faults ≡ old.faults

-- a front of the text was written, all of it and without a fault at Ok, and not all only where a fault was counted
pub record Prints {T E : Type 0} (old new : SinkState) (text : List ℕ) (result : Result T E) : Type 0 where
  pub front : (rest : List ℕ) × Wrote old new text rest
  pub whole : OnOk result (Printed old new text)
  pub fault : OnErr result (Rose old.faults new.faults)

-- what was written by two calls, one after the other
written_then : (a b c : SinkState) (first second : List ℕ) → b.written ≡ a.written ++ first → c.written ≡ b.written ++ second → c.written ≡ a.written ++ (first ++ second)
written_then a b c first second before after = after ∙ ap (λ (t : List ℕ). t ++ second) before ∙ append_assoc a.written first second

-- at the start nothing is written
pub Wrote-start : (a : SinkState) (text : List ℕ) → Wrote a a text text
Wrote-start a text = record { printed = []; appended = sym (append-nil a.written); is = refl; later = omega arith }

-- a fault writes no more
pub Wrote-kept : (a b c : SinkState) (text rest : List ℕ)
    → Wrote a b text rest → c.written ≡ b.written → b.faults ≤ c.faults → Wrote a c text rest
Wrote-kept a b c text rest so_far kept later = record {
  printed = so_far.printed;
  appended = kept ∙ so_far.appended;
  is = so_far.is;
  later = let before = so_far.later in omega arith;
}

-- some of the rest is written
pub Wrote-more : (a b c : SinkState) (text rest : List ℕ) (n : ℕ)
    → Wrote a b text rest → c.written ≡ b.written ++ take n rest → b.faults ≤ c.faults
    → Wrote a c text (drop n rest)
Wrote-more a b c text rest n so_far more later = record {
  printed = so_far.printed ++ take n rest;
  appended = written_then a b c so_far.printed (take n rest) so_far.appended more;
  is = so_far.is ∙ ap (λ (t : List ℕ). so_far.printed ++ t) (sym (take-append-drop n rest)) ∙ sym (append_assoc so_far.printed (take n rest) (drop n rest));
  later = let before = so_far.later in omega arith;
}

-- a whole text, and then a part of the next
pub Wrote-then : (a b c : SinkState) (text next rest : List ℕ) → Wrote a b text [] → Wrote b c next rest → Wrote a c (text ++ next) rest
Wrote-then a b c text next rest first second =
    let all : text ≡ first.printed = first.is ∙ append-nil first.printed in
    record {
      printed = first.printed ++ second.printed;
      appended = written_then a b c first.printed second.printed first.appended second.appended;
      is = ap (λ (t : List ℕ). t ++ next) all ∙ ap (λ (t : List ℕ). first.printed ++ t) second.is ∙ sym (append_assoc first.printed second.printed rest);
      later = let before = first.later in let after = second.later in omega arith;
    }

-- nothing is written yet
pub Printed-start : (a : SinkState) → Printed a a []
Printed-start a = record { wrote = Wrote-start a []; stays = refl }

-- a whole text, and then the whole of the next
pub Printed-then : (a b c : SinkState) (text next : List ℕ) → Printed a b text → Printed b c next → Printed a c (text ++ next)
Printed-then a b c text next first second = record {
  wrote = Wrote-then a b c text next [] first.wrote second.wrote;
  stays = second.stays ∙ first.stays;
}

-- so much of a text is so much of a longer one
pub Wrote-longer : (a b : SinkState) (text rest more : List ℕ) → Wrote a b text rest → Wrote a b (text ++ more) (rest ++ more)
Wrote-longer a b text rest more so_far = record {
  printed = so_far.printed;
  appended = so_far.appended;
  is = ap (λ (t : List ℕ). t ++ more) so_far.is ∙ append_assoc so_far.printed rest more;
  later = so_far.later;
}

-- what a whole text and then a print of the next do together
pub Prints-then : {T E : Type 0} → (a b c : SinkState) (done text : List ℕ) (result : Result T E)
    → Printed a b done → Prints b c text result → Prints a c (done ++ text) result
Prints-then a b c done text (Ok x) first next = record {
  front = (next.front.0, Wrote-then a b c done text next.front.0 first.wrote next.front.1);
  whole = Printed-then a b c done text first next.whole;
  fault = tt;
}
Prints-then a b c done text (Err e) first next = record {
  front = (next.front.0, Wrote-then a b c done text next.front.0 first.wrote next.front.1);
  whole = tt;
  fault = Rose-earlier a.faults b.faults c.faults first.wrote.later next.fault;
}

-- a fault in a text is one in a longer text, whatever error then tells of it
pub Prints-longer : {T T' E E' : Type 0} → (a b : SinkState) (text further : List ℕ) (e : E) (result : Result T' E') → IsErr result
    → Prints {T = T} a b text (Err e) → Prints a b (text ++ further) result
Prints-longer a b text further e (Ok x) failed stopped = absurd cc
Prints-longer a b text further e (Err e') failed stopped = record {
  front = (stopped.front.0 ++ further, Wrote-longer a b text stopped.front.0 further stopped.front.1);
  whole = tt;
  fault = stopped.fault;
}

-- a fault in the middle of a longer text
pub Prints-stop : {T T' E E' : Type 0} → (a b c : SinkState) (done text further : List ℕ) (e : E) (result : Result T' E') → IsErr result
    → Printed a b done → Prints {T = T} b c text (Err e) → Prints a c (done ++ (text ++ further)) result
Prints-stop a b c done text further e result failed first stopped =
    Prints-then a b c done (text ++ further) result first (Prints-longer b c text further e result failed stopped)

-- a whole text that is then handed on, or not
pub Prints-flush : {T E : Type 0} → (a b c : SinkState) (text : List ℕ) (result : Result T E)
    → Printed a b text → c.written ≡ b.written → OnOk result (c.faults ≡ b.faults) → HasCause b.faults c.faults result → Prints a c text result
Prints-flush a b c text (Ok x) printed kept stays cause =
    let all = Wrote-kept a b c text [] printed.wrote kept cause.later in
    record { front = ([], all); whole = record { wrote = all; stays = stays ∙ printed.stays }; fault = tt }
Prints-flush a b c text (Err e) printed kept stays cause = record {
  front = ([], Wrote-kept a b c text [] printed.wrote kept cause.later);
  whole = tt;
  fault = Rose-earlier a.faults b.faults c.faults printed.wrote.later cause.fault;
}
