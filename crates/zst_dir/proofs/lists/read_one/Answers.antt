use Rattle.std.proofs.Common.{rules, arith}
use Rattle.zst_dir.proofs.NestedSnapshots.{are_snapshots_of}
use Rattle.zst_dir.proofs.RowParts.{dataset_parts}
use Rattle.zst_dir.proofs.lists.read_one.Goals as goal

pub returns-in_default : goal.returns-in_default
returns-in_default c = record {
  rows = search rules;
  exact = grind (arith, are_snapshots_of, dataset_parts);
}

pub returns-in_err-read_snapshots : goal.returns-in_err-read_snapshots
returns-in_err-read_snapshots c = record {
  rows = search rules;
  exact = grind (arith, are_snapshots_of, dataset_parts);
}

pub returns-then-not-branch : goal.returns-then-not-branch
returns-then-not-branch c = record {
  rows = search rules;
  exact = grind (arith, are_snapshots_of, dataset_parts);
}

pub returns-in_err-push : goal.returns-in_err-push
returns-in_err-push c = record {
  rows = search rules;
  exact = grind (arith, are_snapshots_of, dataset_parts);
}

pub returns : goal.returns
returns c = record {
  rows = search rules;
  exact = grind (arith, are_snapshots_of, dataset_parts);
}
