-- Where a row stands in the directory, and what two look-ups find alike.
use Rattle.std.specs.Prelude.{◌≡◌, ◌<◌, ℕ, List, length, Option, Some, None, Result, Ok, Err, slice_index_or, IfOk, IfSome}
use Rattle.zst_dir.specs.RowNames.{AreNamed, StandAlike}
use Rattle.zst_dir.specs.Rows.{Rows}
use Rattle.zst_model.specs.pools.Pool.{Pool, Bookmark, Snapshot}

-- the row at this place stands where the other list has this
pub record StandsAt {A B : Type 0} (rows : List A) (others : List B) (place : ℕ) (other : B) : Type 0 where
  pub below : place < length rows
  pub row : A
  pub is_there : slice_index_or rows place row ≡ row
  pub alike : StandAlike rows others row other

-- both found what matches, or neither found anything
abbrev pub FindAlike : {A B : Type 0} → (A → B → Type 0) → Option A → Option B → Type 0
FindAlike Is None None = Unit {0}
FindAlike Is None (Some y) = ⊥
FindAlike Is (Some x) None = ⊥
FindAlike Is (Some x) (Some y) = Is x y

-- both answers are Ok of what matches, or both are the same Err
abbrev pub AnswerAlike : {A B E : Type 0} → (A → B → Type 0) → Result A E → Result B E → Type 0
AnswerAlike Is (Ok x) (Ok y) = Is x y
AnswerAlike Is (Ok x) (Err fault) = ⊥
AnswerAlike Is (Err fault) (Ok y) = ⊥
AnswerAlike Is (Err fault) (Err other) = fault ≡ other

-- a check that passes leaves what comes next of the definition, and one that refuses gives the definition's refusal
abbrev pub Judges : {A E : Type 0} → Result A E → Result A E → Result (Unit {0}) E → Type 0
Judges definition next (Ok passed) = definition ≡ next
Judges definition next (Err fault) = definition ≡ Err fault

-- an answer over rows: what it names is in them, and over each pool that they name it is the definition's answer
pub record Answers {A B E : Type 0} (rows : Rows) (IsIn : A → Type 0) (Is : Pool → A → B → Type 0) (definition : Pool → Result B E) (result : Result A E) : Type 0 where
  pub inside : IfOk result IsIn
  pub found : (pool : Pool) → AreNamed rows pool → AnswerAlike (Is pool) result (definition pool)

-- the place of a snapshot of the directory
abbrev pub AnswersSnapshot : {E : Type 0} → Rows → (Pool → Result Snapshot E) → Result ℕ E → Type 0
AnswersSnapshot rows definition result = Answers rows (λ place. place < length rows.snapshots) (λ pool. StandsAt rows.snapshots pool.snapshots) definition result

-- the place of a bookmark of it, or of none
abbrev pub AnswersRedaction : {E : Type 0} → Rows → (Pool → Result (Option Bookmark) E) → Result (Option ℕ) E → Type 0
AnswersRedaction rows definition result =
    Answers rows (λ place. IfSome place (λ p. p < length rows.bookmarks)) (λ pool. FindAlike (StandsAt rows.bookmarks pool.bookmarks)) definition result
