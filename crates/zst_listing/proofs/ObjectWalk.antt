-- The lines of a state's objects from a number on: how a walk over the objects makes them.
use Rattle.std.specs.Prelude.{pred, flat_map, Some, None}
use Rattle.std.proofs.Common.{◌≡◌, ℕ, zero, suc, ◌+◌, ◌-◌, ◌^◌, ◌<◌, ◌≤◌, List, [], ◌∷◌, ◌++◌, refl, sym, ap, ◌∙◌, arith, append_assoc}
use Rattle.zst_model.specs.pools.AnswerLines.{line_of, object_line, object_lines}
use Rattle.zst_model.specs.sends.Items.{rising}
use Rattle.zst_model.specs.states.DatedState.{DatedState}
use Rattle.zst_model.specs.states.State.{Object, number_bound}
use Rattle.zst_objset.specs.Searches.{HasNone}

-- the line of what is at a number, or none
abbrev pub line_at : DatedState → ℕ → List (List ℕ)
line_at state k = line_of (object_line k) (state.state k)

-- the lines of a state's objects from a number on
unfoldable pub lines_from : DatedState → ℕ → List (List ℕ)
lines_from state from = flat_map (line_at state) (rising from (number_bound - from))

-- there is a number, and what follows one is small
pub number_there : 1 ≤ number_bound
unfolding number_bound
number_there = omega arith

pub next_small : (k : ℕ) → k < number_bound → k + 1 < 2 ^ 64
unfolding number_bound
next_small k less = omega arith

pred_is : (n : ℕ) → pred n ≡ n - 1
pred_is zero = refl
pred_is (suc n) = omega arith

-- those from the first number on are all
pub all_lines : (state : DatedState) → lines_from state 1 ≡ object_lines state
unfolding lines_from object_lines
all_lines state = ap (λ (count : ℕ). flat_map (line_at state) (rising 1 count)) (sym (pred_is number_bound))

module _ {A : Type 0} (f : ℕ → List A) where
  -- numbers that give nothing are passed over
  passed_over : (gap first count : ℕ) → ((k : ℕ) → first ≤ k → k < first + gap → f k ≡ []) → flat_map f (rising first (gap + count)) ≡ flat_map f (rising (first + gap) count)
  unfolding rising
  passed_over zero first count none =
      let here : first ≡ first + 0 = omega arith in
      let all : 0 + count ≡ count = omega arith in
      ap (λ (n : ℕ). flat_map f (rising first n)) all ∙ ap (λ (n : ℕ). flat_map f (rising n count)) here
  passed_over (suc gap) first count none =
      let more : suc gap + count ≡ suc (gap + count) = omega arith in
      let ends : suc first + gap ≡ first + suc gap = omega arith in
      ap (λ (n : ℕ). flat_map f (rising first n)) more
      ∙ ap (λ (l : List A). l ++ flat_map f (rising (suc first) (gap + count))) (none first (omega arith) (omega arith))
      ∙ passed_over gap (suc first) count (λ k over under. none k (omega arith) (omega arith))
      ∙ ap (λ (n : ℕ). flat_map f (rising n count)) ends

  none_given : (count first : ℕ) → ((k : ℕ) → first ≤ k → f k ≡ []) → flat_map f (rising first count) ≡ []
  unfolding rising
  none_given zero first none = refl
  none_given (suc count) first none =
      ap (λ (l : List A). l ++ flat_map f (rising (suc first) count)) (none first (omega arith)) ∙ none_given count (suc first) (λ k over. none k (omega arith))

  rising_first : (first count : ℕ) → flat_map f (rising first (suc count)) ≡ f first ++ flat_map f (rising (suc first) count)
  unfolding rising
  rising_first first count = refl

-- where no object is from a number on, there are no lines
pub no_lines : (state : DatedState) (from : ℕ) → ((k : ℕ) → from ≤ k → state.state k ≡ None) → lines_from state from ≡ []
unfolding lines_from
no_lines state from none = none_given (line_at state) (number_bound - from) from (λ k over. ap (line_of (object_line k)) (none k over))

-- the first object from a number on has the first line
pub next_lines : (state : DatedState) (from k : ℕ) (object : Object) → from ≤ k → k < number_bound → HasNone state from k → state.state k ≡ Some object
    → lines_from state from ≡ object_line k object ∷ lines_from state (k + 1)
unfolding lines_from
next_lines state from k object over under none there =
    let gap = k - from in
    let count = number_bound - (k + 1) in
    let parts : number_bound - from ≡ gap + suc count = omega arith in
    let at : from + gap ≡ k = omega arith in
    ap (λ (n : ℕ). flat_map (line_at state) (rising from n)) parts
    ∙ passed_over (line_at state) gap from (suc count) (λ j more less. ap (line_of (object_line j)) (none j more (omega arith)))
    ∙ ap (λ (n : ℕ). flat_map (line_at state) (rising n (suc count))) at
    ∙ rising_first (line_at state) k count
    ∙ ap (λ (l : List (List ℕ)). l ++ flat_map (line_at state) (rising (suc k) count)) (ap (line_of (object_line k)) there)
    ∙ ap (λ (n : ℕ). object_line k object ∷ flat_map (line_at state) (rising n count)) (the_next k)
  where
    the_next : (n : ℕ) → suc n ≡ n + 1
    the_next n = omega arith

-- a walk goes on by one line
pub one_more : (state : DatedState) (before : List (List ℕ)) (from k : ℕ) (object : Object) → from ≤ k → k < number_bound → HasNone state from k → state.state k ≡ Some object
    → before ++ lines_from state from ≡ object_lines state → (before ++ object_line k object ∷ []) ++ lines_from state (k + 1) ≡ object_lines state
one_more state before from k object over under none there all =
    append_assoc before (object_line k object ∷ []) (lines_from state (k + 1)) ∙ ap (λ (l : List (List ℕ)). before ++ l) (sym (next_lines state from k object over under none there)) ∙ all
