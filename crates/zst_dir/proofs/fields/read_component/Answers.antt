use Rattle.std.proofs.Common.{rules, arith}
use Rattle.zst_dir.proofs.Texts.{plain_component, snapshot_of_parts}
use Rattle.zst_dir.proofs.fields.read_component.Goals as goal

pub returns-in_err-component : goal.returns-in_err-component
returns-in_err-component c = record {
  fits = search rules;
  exact = grind (arith, plain_component, snapshot_of_parts);
}

pub returns-in_err-ok : goal.returns-in_err-ok
returns-in_err-ok c = record {
  fits = search rules;
  exact = grind (arith, plain_component, snapshot_of_parts);
}

pub returns : goal.returns
returns c = record {
  fits = search rules;
  exact = grind (arith, plain_component, snapshot_of_parts);
}
