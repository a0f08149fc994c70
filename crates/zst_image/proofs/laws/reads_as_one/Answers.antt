use Rattle.zst_image.proofs.OnePool.{one_body, one_rows, one_pool}
use Rattle.zst_image.proofs.laws.reads_as_one.Goals as goal

pub returns-clause-body : goal.returns-clause-body
returns-clause-body c = λ tight. one_body {tight = tight} c.root_has_one_set_of_extents.ensures

pub returns-clause-rows : goal.returns-clause-rows
returns-clause-rows c = λ tight. one_rows {tight = tight} c.root_has_one_set_of_extents.ensures c.root_has_one_text.ensures c.bytes_are_one_directory.ensures

pub returns-clause-pool : goal.returns-clause-pool
returns-clause-pool c = λ tight. one_pool {tight = tight} c.root_has_one_set_of_extents.ensures c.root_has_one_text.ensures c.bytes_are_one_directory.ensures c.sets_hold_states.ensures.only c.root_has_one_list.ensures
