-- How the reply of a command is written, and how what waits is handed on.
use Rattle.std.specs.Prelude.{ℕ, ◌≡◌, ◌⊎◌, ◌≤◌, List, ◌++◌, flat_map, codes, decimal, IfErr, OnOk, Result, Ok, Err}
use Rattle.zst_outside.specs.Causes.{Rose}
use Rattle.zst_outside.specs.States.{SinkState, HandedOn}
use Rattle.zst_outside.specs.Printing.{Prints}
use Rattle.zst_model.specs.declared.refusals.refusal.Refusal.{Refusal}
use Rattle.zst_model.specs.declared.refusals.refusal.Refusal.TheVariants as refusals
use Rattle.zst_model.specs.refusals.Refusal.{number_of, text_of}

-- lines, each with its line feed
abbrev pub reply_text : List (List ℕ) → List ℕ
reply_text lines = flat_map (λ line. line ++ codes "\n") lines

-- the line of a refusal: its number, and its text
abbrev pub refusal_line : Refusal → List ℕ
refusal_line refusal = codes "E" ++ (decimal (number_of refusal) ++ (codes " " ++ text_of refusal))

-- The lines of an answer are written and handed on, or the output failed (E30); a refusal is passed on, and nothing is written.
abbrev pub Replied : SinkState → SinkState → Result (List (List ℕ)) Refusal → Result (Unit {0}) Refusal → Type 0
Replied out out' (Ok lines) result = Prints out out' (reply_text lines) result × OnOk result (HandedOn out') × IfErr result (λ refusal. refusal ≡ refusals.SinkFault)
Replied out out' (Err refusal) result = (result ≡ Err refusal) × (out' ≡ out)

-- What is done answers, and the lines of its answer are written.
pub record Replies (Is : Result (List (List ℕ)) Refusal → Type 0) (out out' : SinkState) (result : Result (Unit {0}) Refusal) : Type 0 where
  pub answer : Result (List (List ℕ)) Refusal
  pub does : Is answer
  pub replied : Replied out out' answer result

-- What waited was handed on and the answer stands, or that failed and is the answer (E30).
pub record HandsOn (out out' : SinkState) (answer result : Result (Unit {0}) Refusal) : Type 0 where
  pub written : out'.written ≡ out.written
  pub later : out.faults ≤ out'.faults
  pub outcome : ((result ≡ answer) × (out'.faults ≡ out.faults) × HandedOn out') ⊎ ((result ≡ Err refusals.SinkFault) × Rose out.faults out'.faults)
