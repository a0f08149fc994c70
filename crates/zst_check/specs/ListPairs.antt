-- How the pairs of a list are held against those that it should have, run by run.
use Rattle.std.specs.Prelude.{◌≡◌, ◌≢◌, ℕ, ◌^◌, ◌<◌, ◌≤◌, true, Option, Some, None}
use Rattle.zst_model.specs.fields.Lists.{HasNoneFrom, IsAtOrAfter}
use Rattle.zst_model.specs.fields.RunsOf.{is_earlier}
use Rattle.zst_model.specs.sends.Inclusion.{Pairs}
use Rattle.zst_check.specs.declared.list_pairs.Beside.{Beside}
use Rattle.zst_check.specs.declared.list_pairs.Beside.TheVariants.{End, Differs, Same}

-- of two sets of pairs from a pair on: neither has any, one has a pair that the other hasn't, or both have the same pairs up to one
abbrev pub TellsBeside : Pairs → Pairs → ℕ × ℕ → Beside → Type 0
TellsBeside wanted listed start End = HasNoneFrom wanted start.0 start.1 × HasNoneFrom listed start.0 start.1
TellsBeside wanted listed start (Differs object block) = listed object block ≢ wanted object block
TellsBeside wanted listed start (Same object block) = (k i : ℕ) → IsAtOrAfter start.0 start.1 k i → is_earlier k i object block ≡ true → listed k i ≡ wanted k i

-- a pair stands behind another one, within the bounds of numbers and indices
pub record MovesTo (start : ℕ × ℕ) (object block : ℕ) : Type 0 where
  pub later : is_earlier start.0 start.1 object block ≡ true
  pub number : object < 2 ^ 48
  pub some : 0 < block
  pub end : block ≤ 2 ^ 43

-- whatever the sets, what both have moves on
abbrev pub MovesOn : ℕ × ℕ → Beside → Type 0
MovesOn start End = Unit {0}
MovesOn start (Differs object block) = Unit {0}
MovesOn start (Same object block) = MovesTo start object block

-- a pair of one of two sets that isn't one of the other, or none, where they are the same
abbrev pub FindsOther : Pairs → Pairs → Option (ℕ × ℕ) → Type 0
FindsOther wanted listed None = (k i : ℕ) → listed k i ≡ wanted k i
FindsOther wanted listed (Some at) = listed at.0 at.1 ≢ wanted at.0 at.1
