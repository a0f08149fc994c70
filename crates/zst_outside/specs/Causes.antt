-- Counts of calls and faults, and what a fault says of them.
use Rattle.std.specs.Prelude.{ℕ, ◌+◌, ◌-◌, ◌^◌, ◌≤◌, min, Result, OnErr}
use Rattle.std.proofs.Common.{arith}
use Rattle.std.proofs.lemmas.Result.{on_err_weaker}

-- the count after one more, which stays at its last value
abbrev pub next_count : ℕ → ℕ
next_count count = min (count + 1) (2 ^ 64 - 1)

-- a fault was counted in between, or the count stands at its last value
abbrev pub Rose : ℕ → ℕ → Type 0
Rose before now = next_count before ≤ now

-- a count of faults never falls, and a fault is answered only where it rose
pub record HasCause {T E : Type 0} (before now : ℕ) (result : Result T E) : Type 0 where
  pub later : before ≤ now
  pub fault : OnErr result (Rose before now)

-- what rose since a later count rose since an earlier one
pub Rose-earlier : (before mid now : ℕ) → before ≤ mid → Rose mid now → Rose before now
Rose-earlier before mid now later rose = omega arith

-- a fault of a later part has its cause in the whole
pub HasCause-earlier : {T E : Type 0} → (before mid now : ℕ) (result : Result T E) → before ≤ mid → HasCause mid now result → HasCause before now result
HasCause-earlier before mid now result later cause = record {
  later = omega (arith, later, cause.later);
  fault = on_err_weaker result (Rose-earlier before mid now later) cause.fault;
}
