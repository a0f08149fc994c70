use Rattle.zst_check.proofs.NumbersInTurn.{in_turn_is_enough}
use Rattle.zst_check.proofs.laws.numbers_in_turn_are_enough.Goals as goal

pub returns : goal.returns
returns c = in_turn_is_enough
