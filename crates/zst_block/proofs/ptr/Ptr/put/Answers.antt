use Rattle.zst_block.proofs.ptr.Ptr.put.Goals as goal

pub returns-clause-fits : goal.returns-clause-fits
returns-clause-fits c = record {
  kind = c.put_numbers.ensures.kind;
  level = c.put_numbers.ensures.level;
  length = c.put_numbers.ensures.length;
  sector = c.put_numbers.ensures.sector;
  number = c.put_numbers.ensures.number;
  sum = c.put_sum.ensures.fits;
}
