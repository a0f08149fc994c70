-- What is pending behind the lines that were given, as more is read, a line is taken, or its front dropped.
use Rattle.std.proofs.Common.{◌≡◌, ◌≢◌, ℕ, ◌+◌, ◌<◌, ◌≤◌, Bool, true, false, List, [], ◌∷◌, ◌++◌, length, take, drop, refl, sym, subst, ap, ◌∙◌, arith, append_assoc, append-nil, length-append}
use Rattle.std.proofs.lemmas.List.{take_at}
use Rattle.std.proofs.lemmas.List.Elements.{All-append}
use Rattle.zst_outside.specs.States.{SourceState}
use Rattle.zst_script.specs.Lines.{longest_line}
use Rattle.zst_script.specs.LineStages.{DropsTo, EndsAt, HasNoEnd, IsFront, IsKind, IsOpen}
use Rattle.zst_script.specs.ScriptLines.{AreAll, AreCut, EndIn, GoesOn, StandBefore}
use Rattle.zst_script.specs.Scripts.{IsPassedOver, ended_lines, lines_of, script_limit}
use Rattle.zst_script.specs.declared.script_lines.Stage.{Stage}
use Rattle.zst_script.specs.declared.script_lines.Stage.TheVariants.{Kept, Dropped, Ended, Limit}
use Rattle.zst_script.proofs.LineSplits.{has_first, lines_end}
use Rattle.std.specs.Prelude.{IsTrue}

abbrev EndsNone : ℕ → Type 0
EndsNone byte = byte ≢ 10

-- ---- of any text

-- more of the text is more of what is pending
pub goes_more : (text pending piece : List ℕ) (given : List (List ℕ)) → GoesOn text given pending → GoesOn (text ++ piece) given (pending ++ piece)
goes_more text pending piece given goes = λ more.
    ap lines_of (append_assoc text piece more) ∙ goes (piece ++ more) ∙ ap (λ (l : List ℕ). given ++ lines_of l) (sym (append_assoc pending piece more))

-- a line that ends in what is pending is the next one
pub goes_line : (text pending line rest : List ℕ) (given : List (List ℕ)) → GoesOn text given pending → pending ≡ line ++ 10 ∷ rest → HasNoEnd line → GoesOn text (given ++ line ∷ []) rest
goes_line text pending line rest given goes is whole = λ more.
    goes more ∙ ap (λ (l : List ℕ). given ++ lines_of (l ++ more)) is ∙ ap (λ (l : List ℕ). given ++ lines_of l) (append_assoc line (10 ∷ rest) more)
    ∙ ap (λ (l : List (List ℕ)). given ++ l) (lines_end line (rest ++ more) whole).0 ∙ sym (append_assoc given (line ∷ []) (lines_of (rest ++ more)))

-- what is pending where no line ends is the last line
pub goes_last : (text pending : List ℕ) (given : List (List ℕ)) → GoesOn text given pending → HasNoEnd pending → lines_of text ≡ given ++ pending ∷ []
goes_last text pending given goes whole =
    ap lines_of (sym (append-nil text)) ∙ goes [] ∙ ap (λ (l : List ℕ). given ++ lines_of l) (append-nil pending)
    ∙ ap (λ (l : List (List ℕ)). given ++ l) (lines_end pending [] whole).1

-- what ends behind some lines
pub ended_behind : (lines : List (List ℕ)) (first : List ℕ) (rest : List (List ℕ)) → ended_lines (lines ++ first ∷ rest) ≡ lines ++ ended_lines (first ∷ rest)
ended_behind [] first rest = refl
ended_behind (line ∷ []) first rest = refl
ended_behind (line ∷ next ∷ lines) first rest = ap (λ (l : List (List ℕ)). line ∷ l) (ended_behind (next ∷ lines) first rest)

-- what ends behind the lines of a text ends in what is pending
pub ended_on : (text pending more : List ℕ) (given : List (List ℕ)) → GoesOn text given pending → ended_lines (lines_of (text ++ more)) ≡ given ++ ended_lines (lines_of (pending ++ more))
ended_on text pending more given goes =
    let had = has_first (pending ++ more) in
    ap ended_lines (goes more ∙ ap (λ (l : List (List ℕ)). given ++ l) had.2) ∙ ended_behind given had.0 had.1
    ∙ sym (ap (λ (l : List (List ℕ)). given ++ ended_lines l) had.2)

-- and where no line ends in that, it ends none
pub ended_so_far : (text pending : List ℕ) (given : List (List ℕ)) → GoesOn text given pending → HasNoEnd pending → ended_lines (lines_of text) ≡ given
ended_so_far text pending given goes whole =
    ap ended_lines (goes_last text pending given goes whole) ∙ ended_behind given pending [] ∙ append-nil given

-- ---- at a stage

-- more of the text is more of what is held
pub stand_more : (stage : Stage) (input input' : SourceState) (held text piece : List ℕ) (given : List (List ℕ)) → IsOpen stage → length (text ++ piece) ≤ script_limit
    → StandBefore input stage held text given → StandBefore input' stage (held ++ piece) (text ++ piece) given
stand_more Kept input input' held text piece given live within stand = (within, goes_more text held piece given stand.1)
stand_more (Dropped comment) input input' held text piece given live within stand =
    let front = stand.1.0 in (
      within,
      (front, stand.1.1, λ more. goes_more text (front ++ held) piece given stand.1.2 more ∙ ap (λ (l : List ℕ). given ++ lines_of (l ++ more)) (append_assoc front held piece)),
    )
stand_more Ended input input' held text piece given live within stand = absurd live
stand_more Limit input input' held text piece given live within stand = absurd live

-- what is pending, where no line ends in what is held
pub record Pending (text : List ℕ) (given : List (List ℕ)) : Type 0 where
  pub within : length text ≤ script_limit
  pub pending : List ℕ
  pub whole : HasNoEnd pending
  pub goes : GoesOn text given pending

pub pending_of : (stage : Stage) (input : SourceState) (held text : List ℕ) (given : List (List ℕ)) → IsOpen stage → HasNoEnd held → StandBefore input stage held text given → Pending text given
pending_of Kept input held text given live whole stand = record { within = stand.0; pending = held; whole = whole; goes = stand.1 }
pending_of (Dropped comment) input held text given live whole stand =
    let front = stand.1.0 in
    record { within = stand.0; pending = front ++ held; whole = All-append EndsNone front held stand.1.1.whole whole; goes = stand.1.2 }
pending_of Ended input held text given live whole stand = absurd live
pending_of Limit input held text given live whole stand = absurd live

-- then all lines that end in the text were given
pub ended_stand : (text : List ℕ) (given : List (List ℕ)) → Pending text given → EndIn text given
ended_stand text given p = record { within = p.within; lines = ended_so_far text p.pending given p.goes p.whole }

-- and where the text is as long as a script may be, one that is longer has no other
pub cut_stand : (text piece : List ℕ) (given : List (List ℕ)) → Pending text given → length text ≡ script_limit → 0 < length piece → AreCut (text ++ piece) given
cut_stand text piece given p full some = record {
  longer = omega (arith, length-append text piece);
  lines = ap (λ (l : List ℕ). ended_lines (lines_of l)) (take_at text piece script_limit full) ∙ ended_so_far text p.pending given p.goes p.whole;
}

-- ---- a line that is taken

-- what is passed over by its front is passed over
pub passed_by_front : (front rest : List ℕ) → 0 < length front → IsPassedOver front → IsPassedOver (front ++ rest)
passed_by_front [] rest some passed = absurd (omega arith)
passed_by_front (byte ∷ front) rest some passed = passed

pub kept_by_front : (front rest : List ℕ) → 0 < length front → IsPassedOver (front ++ rest) → IsPassedOver front
kept_by_front [] rest some passed = absurd (omega arith)
kept_by_front (byte ∷ front) rest some passed = passed

-- a longer front is of the same kind
still_kind : (comment : Bool) (front rest : List ℕ) → 0 < length front → IsKind comment front → IsKind comment (front ++ rest)
still_kind true front rest some passed = passed_by_front front rest some passed
still_kind false front rest some kept = λ passed. kept (kept_by_front front rest some passed)

-- the line of which these bytes were held
abbrev pub IsLineOf : Stage → (held line : List ℕ) → Type 0
IsLineOf Kept held line = line ≡ held
IsLineOf (Dropped comment) held line = (front : List ℕ) × IsFront comment front × (line ≡ front ++ held)
IsLineOf Ended held line = ⊥
IsLineOf Limit held line = ⊥

-- the line that ends in what is held was given
pub line_stand : (stage : Stage) (input : SourceState) (held text : List ℕ) (count : ℕ) (given : List (List ℕ)) → IsOpen stage → EndsAt held count → StandBefore input stage held text given
    → (line : List ℕ) × IsLineOf stage (take count held) line × StandBefore input Kept (drop (count + 1) held) text (given ++ line ∷ [])
line_stand Kept input held text count given live ends stand =
    (take count held, refl, (stand.0, goes_line text held (take count held) (drop (count + 1) held) given stand.1 ends.parts ends.whole))
line_stand (Dropped comment) input held text count given live ends stand =
    let front = stand.1.0 in
    let line = front ++ take count held in
    let rest = drop (count + 1) held in (
      line,
      (front, stand.1.1, refl),
      (
        stand.0,
        goes_line text (front ++ held) line rest given stand.1.2
            (ap (λ (l : List ℕ). front ++ l) ends.parts ∙ sym (append_assoc front (take count held) (10 ∷ rest)))
            (All-append EndsNone front (take count held) stand.1.1.whole ends.whole),
      ),
    )
line_stand Ended input held text count given live ends stand = absurd live
line_stand Limit input held text count given live ends stand = absurd live

-- what is held at the input's end was given as the last line
pub last_stand : (stage : Stage) (input : SourceState) (held text : List ℕ) (given : List (List ℕ)) → IsOpen stage → HasNoEnd held → IsTrue input.ended → StandBefore input stage held text given
    → (line : List ℕ) × IsLineOf stage held line × AreAll input text (given ++ line ∷ [])
last_stand Kept input held text given live whole over stand =
    (held, refl, record { over = over; within = stand.0; lines = goes_last text held given stand.1 whole })
last_stand (Dropped comment) input held text given live whole over stand =
    let front = stand.1.0 in (
      front ++ held,
      (front, stand.1.1, refl),
      record { over = over; within = stand.0; lines = goes_last text (front ++ held) given stand.1.2 (All-append EndsNone front held stand.1.1.whole whole) },
    )
last_stand Ended input held text given live whole over stand = absurd live
last_stand Limit input held text given live whole over stand = absurd live

-- ---- bytes that are dropped

-- what is held of a line that is too long is its front, or more of that
pub drop_stand : (stage new : Stage) (input : SourceState) (held text : List ℕ) (given : List (List ℕ)) → IsOpen stage → HasNoEnd held → longest_line < length held
    → DropsTo stage held new → StandBefore input stage held text given → StandBefore input new [] text given
drop_stand Kept new input held text given live whole long drops stand =
    subst (λ (stage : Stage). StandBefore input stage [] text given) (sym drops.1) (
      stand.0,
      (
        held,
        record { long = long; whole = whole; kind = drops.2 },
        λ more. stand.1 more ∙ ap (λ (l : List ℕ). given ++ lines_of (l ++ more)) (sym (append-nil held)),
      ),
    )
drop_stand (Dropped comment) new input held text given live whole long drops stand =
    let front = stand.1.0 in
    let is = stand.1.1 in
    let some : 0 < length front = omega (arith, is.long) in
    subst (λ (stage : Stage). StandBefore input stage [] text given) (sym drops) (
      stand.0,
      (
        front ++ held,
        record {
          long = omega (arith, is.long, length-append front held);
          whole = All-append EndsNone front held is.whole whole;
          kind = still_kind comment front held some is.kind;
        },
        λ more. stand.1.2 more ∙ ap (λ (l : List ℕ). given ++ lines_of (l ++ more)) (sym (append-nil (front ++ held))),
      ),
    )
drop_stand Ended new input held text given live whole long drops stand = absurd live
drop_stand Limit new input held text given live whole long drops stand = absurd live
