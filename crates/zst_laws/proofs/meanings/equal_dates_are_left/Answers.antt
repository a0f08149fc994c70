use Rattle.zst_laws.proofs.examples.Meanings.{dated_is_included, dated_number_is_included, equal_dates_are_left}
use Rattle.zst_laws.proofs.meanings.equal_dates_are_left.Goals as goal

pub returns : goal.returns
returns c = record { pairs = dated_is_included; numbers = dated_number_is_included; left = equal_dates_are_left }
