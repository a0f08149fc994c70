use Rattle.zst_reach.proofs.KeptTexts.{HasExtents-kept, HasLeaves-kept, HasList-kept}
use Rattle.zst_reach.proofs.laws.unreached_sectors_of_texts_may_be_free.Goals as goal

pub returns-clause-texts : goal.returns-clause-texts
returns-clause-texts c = HasLeaves-kept

pub returns-clause-lists : goal.returns-clause-lists
returns-clause-lists c = HasList-kept

pub returns-clause-extents : goal.returns-clause-extents
returns-clause-extents c = HasExtents-kept
