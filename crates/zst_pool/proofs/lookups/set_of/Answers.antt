use Rattle.std.proofs.Common.{rules}
use Rattle.zst_block.specs.Blocks.{Has}
use Rattle.zst_pool.proofs.LookupLemmas.{finds_head, finds_objects}
use Rattle.zst_pool.proofs.lookups.set_of.Goals as goal

pub returns-in-Dataset : goal.returns-in-Dataset
returns-in-Dataset c = record {
  finds = record {
    rows = search rules;
    found = λ image space pool are.
        rw (c.in-Dataset.is, c.head_of.ensures) (finds_head (Has image space) c.args.dir.now pool are c.in-Dataset.name);
  };
}

pub returns-in-Snapshot : goal.returns-in-Snapshot
returns-in-Snapshot c = record {
  finds = record {
    rows = search rules;
    found = λ image space pool are.
        rw (c.in-Snapshot.is, c.objects_at.ensures) (finds_objects (Has image space) c.args.dir.now pool are c.in-Snapshot.name);
  };
}
