use Rattle.zst_laws.proofs.examples.Meanings.{attributes_date_numbers, spill_dates_no_index}
use Rattle.zst_laws.proofs.meanings.attributes_date_numbers.Goals as goal

pub returns : goal.returns
returns c = record { numbers = attributes_date_numbers; indices = spill_dates_no_index }
