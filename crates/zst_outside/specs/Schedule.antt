-- Which calls of an object in memory are to fail, and what it counted.
use Rattle.std.specs.Prelude.{ℕ, ◌≡◌, ◌⊎◌, ◌==◌, ◌||◌, nat_le, List, Option, Bool, false, Result, IsTrue, IsErr, OnOk, OnErr}
use Rattle.std.specs.Option.{option_map_or}
use Rattle.std.specs.List.{list_any}
use Rattle.zst_outside.specs.Causes.{next_count}

pub record Schedule : Type 0 where
  -- the numbers of the calls that are to fail
  pub fail : List ℕ
  -- the number of the call from which on every call is to fail
  pub stop : Option ℕ
  -- the count of calls, which is the number of the next
  pub calls : ℕ
  -- the count of faults
  pub faults : ℕ
  -- the count of those faults that were a want of memory
  pub starved : ℕ

-- no call was made yet
abbrev pub fresh : List ℕ → Option ℕ → Schedule
fresh fail stop = record { fail = fail; stop = stop; calls = 0; faults = 0; starved = 0 }

-- the next call is to fail
abbrev pub is_to_fail : Schedule → Bool
is_to_fail s = option_map_or (λ stop. nat_le stop s.calls) s.stop false || list_any (λ number. number == s.calls) s.fail

-- after a call that did what was asked
abbrev pub after_done : Schedule → Schedule
after_done s = record s { calls = next_count s.calls }

-- with one fault more
abbrev pub with_fault : Schedule → Schedule
with_fault s = record s { faults = next_count s.faults }

-- with one fault more, for want of memory
abbrev pub with_want : Schedule → Schedule
with_want s = record s { faults = next_count s.faults; starved = next_count s.starved }

-- after a call that was to fail
abbrev pub after_refused : Schedule → Schedule
after_refused s = with_fault (after_done s)

-- after a call that found no memory
abbrev pub after_starved : Schedule → Schedule
after_starved s = with_want (after_done s)

-- a call that is to fail does, another fails only for want of memory, and each is counted
pub record MeetsSchedule {T E : Type 0} (old new : Schedule) (result : Result T E) : Type 0 where
  pub fails : IsTrue (is_to_fail old) → IsErr result
  pub done : OnOk result (new ≡ after_done old)
  pub failed : OnErr result ((IsTrue (is_to_fail old) × (new ≡ after_refused old)) ⊎ (new ≡ after_starved old))
