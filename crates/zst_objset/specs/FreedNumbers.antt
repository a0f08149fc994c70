-- What freeing a range of numbers makes of a dated state.
use Rattle.std.specs.Prelude.{ℕ, ◌&&◌, Bool, nat_le, nat_lt, None, if◌then◌else◌}
use Rattle.zst_model.specs.states.State.{is_number, index_bound}
use Rattle.zst_model.specs.states.DatedState.{DatedState}

-- a number is at or past the first of a range, and below its end
abbrev pub is_in : ℕ → ℕ → ℕ → Bool
is_in first below k = nat_le first k && nat_lt k below

-- from one number on and below another no object is there, and each number and all of its indices have this date
abbrev pub freed : ℕ → ℕ → ℕ → DatedState → DatedState
freed number first below old = record {
  state = λ k. if is_in first below k then None else old.state k;
  number_date = λ k. if is_in first below k && is_number k then number else old.number_date k;
  index_date = λ k i. if (is_in first below k && is_number k) && nat_lt i index_bound then number else old.index_date k i;
}
