-- What the dates of the state at a place say of the pool.
use Rattle.std.proofs.Common.{◌≡◌, ◌⊎◌, ℕ, ◌<◌, ◌≤◌, [], length, get_or, Some, None, All, HoldsAt, refl, sym, ◌∙◌, ap, subst, arith}
use Rattle.std.specs.List.{AllWithin}
use Rattle.zst_model.specs.pools.Ancestry.{InDataset}
use Rattle.zst_model.specs.pools.Pool.{Pool, untouched}
use Rattle.zst_model.specs.pools.Rows.{Row, rows}
use Rattle.zst_model.specs.pools.Soundness.{DatedUpTo}
use Rattle.zst_model.specs.states.DatedState.{DatedState}
use Rattle.zst_objset.specs.Sets.{SetHolds}
use Rattle.zst_block.specs.declared.fault.BlockFault.{BlockFault}
use Rattle.zst_tree.specs.Indices.{Blocks, IsNoDamage}
use Rattle.zst_model.specs.states.State.{index_bound}
use Rattle.zst_check.specs.FailingPlaces.{LateDate, number_itself}
use Rattle.zst_check.specs.Findings.{FindsLate, StandsFor, name_of, number_of, set_of}
use Rattle.zst_check.specs.declared.states.State.{State}

-- a row is dated up to its number
abbrev pub IsDated : Row → Type 0
IsDated row = DatedUpTo row.number row.objects

-- some row, where none is at hand
some_row : Row
some_row = record { place = InDataset [] None; number = 0; objects = untouched }

module _ (has : Blocks) (pool : Pool) (number place : ℕ) (state : State) (same : pool.number ≡ number) (at : HoldsAt (StandsFor has pool state) (rows pool) place) where
  number_at : (row : Row) → StandsFor has pool state row → number_of number state ≡ row.number
  number_at row stands = ap (λ (n : ℕ). number_of n state) (sym same) ∙ sym stands.number_is

  -- where nothing of the state's set is late, the row at the place is dated up to its number
  pub early_at : ((dated : DatedState) → SetHolds has (set_of state) dated → FindsLate (number_of number state) dated None) → HoldsAt IsDated (rows pool) place
  early_at early d =
      let stands = at d in
      let row = get_or (rows pool) place d in
      subst (λ (n : ℕ). DatedUpTo n row.objects) (number_at row stands) (early row.objects stands.holds)

  -- and else a date of it is too late
  pub late_at : (object block : ℕ) → ((dated : DatedState) → SetHolds has (set_of state) dated → FindsLate (number_of number state) dated (Some (object, block))) → LateDate pool (name_of state) (name_of state) object block
  late_at object block late =
      let row = get_or (rows pool) place some_row in
      let stands : StandsFor has pool state row = at some_row in
      let found = late row.objects stands.holds in
      record {
        state = row;
        named = stands.named;
        twice = refl;
        number = found.0;
        late = subst (λ (n : ℕ). ((block ≡ number_itself) × (n < row.objects.number_date object)) ⊎ ((block < index_bound) × (n < row.objects.index_date object block))) (number_at row stands) found.1;
      }

  -- a call that finds no damage in a set that holds a state finds none here
  pub told_at : (fault : BlockFault) → ((dated : DatedState) → SetHolds has (set_of state) dated → IsNoDamage fault) → IsNoDamage fault
  told_at fault told = let stands : StandsFor has pool state (get_or (rows pool) place some_row) = at some_row in told (get_or (rows pool) place some_row).objects stands.holds

-- where each row below a place is dated so, and none stands at it or behind, all are
pub all_dated : (pool : Pool) (place : ℕ) → AllWithin IsDated (rows pool) 0 place → length (rows pool) ≤ place → All IsDated (rows pool)
all_dated pool place early none k d under = early k d (omega arith) (omega (arith, under, none))
