-- What is known of an input or an output at a moment.
use Rattle.std.specs.Prelude.{◌≡◌, ℕ, ◌<◌, Bool, List, ◌++◌, length, take, IsTrue, Result, MatchResult}

-- an input: the bytes that it gave, whether it told its end, and how often it has failed
pub record SourceState : Type 0 where
  pub given : List ℕ
  pub ended : Bool
  pub faults : ℕ

-- an output: the bytes that it took, how many of the last of them wait to be handed on, and how often it has failed
pub record SinkState : Type 0 where
  pub written : List ℕ
  pub waiting : ℕ
  pub faults : ℕ

-- it gave these bytes in between
abbrev pub Gave : SourceState → SourceState → List ℕ → Type 0
Gave old new bytes = new.given ≡ old.given ++ bytes

-- a read gave the n bytes that it told, none only at the end or with no room, and a fault gave none
abbrev pub ReadGives : {E : Type 0} → SourceState → SourceState → Result ℕ E → List ℕ → Type 0
ReadGives old new result into = MatchResult result (λ n. Gave old new (take n into) × (n ≡ 0 → 0 < length into → IsTrue new.ended)) (λ _. new.given ≡ old.given)

-- a write took the front of n bytes that it told, and a fault took none
abbrev pub TakesFront : {E : Type 0} → SinkState → SinkState → Result ℕ E → List ℕ → Type 0
TakesFront old new result from = MatchResult result (λ n. new.written ≡ old.written ++ take n from) (λ _. new.written ≡ old.written)

-- all that it took was handed on
abbrev pub HandedOn : SinkState → Type 0
HandedOn sink = sink.waiting ≡ 0
