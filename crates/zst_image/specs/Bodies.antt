-- The latest body of an image, and the sectors that are free by it.
use Rattle.std.specs.Prelude.{List, []}
use Rattle.zst_space.specs.FreeSectors.{FreeSectors}
use Rattle.zst_space.specs.declared.space.Extent.{Extent}
use Rattle.zst_uber.specs.declared.uber.Uber.{Uber}

-- the latest body of an image, with the free extents that it names
pub record Body : Type 0 where
  pub uber : Uber
  pub free : List Extent

-- the sectors that are free by a body: those of its extents, and those from its end on
abbrev pub free_by : Body → FreeSectors
free_by body = record { end = body.uber.end; sectors = body.uber.sectors; free = body.free }

-- the sectors from a body's end on, as if it named no extents
abbrev pub behind_end : Uber → FreeSectors
behind_end uber = record { end = uber.end; sectors = uber.sectors; free = [] }
