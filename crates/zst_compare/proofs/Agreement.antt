-- Agreement of two states, number by number, and what denies it.
use Rattle.std.proofs.Common.{◌≡◌, inl, inr, ℕ, ◌^◌, ◌<◌, ◌≤◌, true, arith}
use Rattle.std.proofs.lemmas.Bool.Decides.{nat_tests}
use Rattle.zst_model.specs.states.State.{is_number, number_bound}
use Rattle.zst_model.specs.states.DatedState.{DatedState}
use Rattle.zst_model.specs.pools.Pool.{Snapshot}
use Rattle.zst_model.specs.pools.Soundness.{Agrees}
use Rattle.zst_compare.specs.Agreement.{AgreeBetween, AgreesUpTo, DiffersAt}
use Rattle.zst_compare.specs.declared.difference.Difference.{Difference}

below_bound : (k : ℕ) → is_number k ≡ true → k < 2 ^ 48
unfolding number_bound
below_bound k number = grind (arith, nat_tests)

-- all numbers agree, and so the states do
pub agrees_all : (number : ℕ) (earlier later : DatedState) (below : ℕ) → 2 ^ 48 ≤ below → AgreeBetween number earlier later 0 below → AgreesUpTo number earlier later
agrees_all number earlier later below far all = record {
  numbers = λ k is dated. ((all k is (omega arith) (omega (arith, below_bound k is, far))).number_kept dated).0;
  number_dates = λ k is dated. ((all k is (omega arith) (omega (arith, below_bound k is, far))).number_kept dated).1;
  indices = λ k i is small dated. ((all k is (omega arith) (omega (arith, below_bound k is, far))).indices_kept i small dated).0;
  index_dates = λ k i is small dated. ((all k is (omega arith) (omega (arith, below_bound k is, far))).indices_kept i small dated).1;
}

-- agreement with a snapshot is agreement up to its number
pub agrees_with : (snapshot : Snapshot) (later : DatedState) → AgreesUpTo snapshot.number snapshot.objects later → Agrees snapshot later
agrees_with snapshot later agrees = record { numbers = agrees.numbers; number_dates = agrees.number_dates; indices = agrees.indices; index_dates = agrees.index_dates }

pub agrees_up_to : (snapshot : Snapshot) (later : DatedState) → Agrees snapshot later → AgreesUpTo snapshot.number snapshot.objects later
agrees_up_to snapshot later agrees = record { numbers = agrees.numbers; number_dates = agrees.number_dates; indices = agrees.indices; index_dates = agrees.index_dates }

-- states that differ at a place don't agree
pub differs_denied : (number : ℕ) (earlier later : DatedState) (place : Difference) → DiffersAt number earlier later place → AgreesUpTo number earlier later → ⊥
differs_denied number earlier later place (is, inl (block, other)) agrees =
    other.other (agrees.numbers place.object is other.dated, agrees.number_dates place.object is other.dated)
differs_denied number earlier later place (is, inr (small, other)) agrees =
    other.other (agrees.indices place.object place.block is small other.dated, agrees.index_dates place.object place.block is small other.dated)
