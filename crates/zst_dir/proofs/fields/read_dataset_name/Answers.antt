use Rattle.std.proofs.Common.{rules, arith}
use Rattle.zst_dir.proofs.Texts.{plain_dataset}
use Rattle.zst_dir.proofs.fields.read_dataset_name.Goals as goal

pub returns-in_err-read_str : goal.returns-in_err-read_str
returns-in_err-read_str c = record {
  fits = search rules;
  exact = grind (arith, plain_dataset);
}

pub returns : goal.returns
returns c = record {
  fits = search rules;
  exact = grind (arith, plain_dataset);
}
