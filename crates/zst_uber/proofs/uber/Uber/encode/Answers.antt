use Rattle.zst_uber.proofs.uber.Uber.encode.Goals as goal

pub returns-clause-fits : goal.returns-clause-fits
returns-clause-fits c = record {
  version = c.put_numbers.ensures.version;
  id = c.put_numbers.ensures.id;
  number = c.put_numbers.ensures.number;
  guids = c.put_numbers.ensures.guids;
  sectors = c.put_numbers.ensures.sectors;
  end = c.put_numbers.ensures.end;
  trees = c.put_trees.ensures.fits;
}
