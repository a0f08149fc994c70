-- Which pairs and numbers of a snapshot a send includes.
use Rattle.std.specs.Prelude.{ℕ, zero, suc, Bool, true, false, Option, Some, None, nat_lt, nat_le, ◌||◌, ◌&&◌}
use Rattle.zst_model.specs.states.State.{end_at, is_number, index_bound}
use Rattle.zst_model.specs.states.DatedState.{DatedState}

-- a set of pairs of an object's number and an index
abbrev pub Pairs : Type 0
Pairs = ℕ → ℕ → Bool

-- no pairs
abbrev pub no_pairs : Pairs
no_pairs k i = false

-- what a send was asked beside its snapshot: the source's number or none, the pairs of the source's list, and the pairs to redact
pub record Choice : Type 0 where
  pub from : Option ℕ
  pub source : Pairs
  pub redact : Pairs

-- dated after the source's number: a full stream has no source, and takes every date
abbrev pub is_after : Option ℕ → ℕ → Bool
is_after None date = true
is_after (Some from) date = nat_lt from date

-- a pair below the end is included where it is dated after the source, or is in one of the lists
abbrev pub includes_pair : DatedState → Choice → ℕ → ℕ → Bool
includes_pair snap choice k i =
    nat_lt i (end_at (snap.state k)) && (is_after choice.from (snap.index_date k i) || (choice.source k i || choice.redact k i))

-- a pair at or past the end that is dated after the source
abbrev pub is_late_pair : DatedState → Choice → ℕ → ℕ → Bool
is_late_pair snap choice k i = nat_le (end_at (snap.state k)) i && is_after choice.from (snap.index_date k i)

-- some index below the bound passes the test
unfoldable pub any_below : (ℕ → Bool) → ℕ → Bool
any_below test zero = false
any_below test (suc bound) = test bound || any_below test bound

-- a number is included where it is dated after the source, or has an included pair, or one at or past its end that is dated after the source
unfoldable pub includes_number : DatedState → Choice → ℕ → Bool
includes_number snap choice k =
    is_number k
    && (is_after choice.from (snap.number_date k)
    || any_below (λ i. includes_pair snap choice k i || is_late_pair snap choice k i) index_bound)
