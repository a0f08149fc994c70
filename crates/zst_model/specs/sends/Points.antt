-- Where a stream begins, and where its receiver stands.
use Rattle.std.specs.Prelude.{◌+◌, min, List, [], ◌∷◌, length, Option, None, Some, if◌then◌else◌, ◌==◌}
use Rattle.zst_model.specs.declared.sends.header.Point.{Point}
use Rattle.zst_model.specs.declared.states.item.Change.TheVariants.{Put, Spill, FreeFrom, Free, Redact, Write}
use Rattle.zst_model.specs.declared.states.item.Item.{Item}
use Rattle.zst_model.specs.declared.states.item.Item.TheVariants.{FreeObjects, At}
use Rattle.zst_model.specs.sends.Items.{origin}
use Rattle.zst_model.specs.states.State.{number_bound}

-- the point at which a stream begins: the stated one, and else the origin
abbrev pub stated_point : Option Point → Point
stated_point None = origin
stated_point (Some point) = point

-- the point after an item: past its range; OBJECT moves only into another object, and FREEOBJECTS is cut at 2^48
abbrev pub point_after : Point → Item → Point
point_after point (FreeObjects first count) = record { object = min (first + count) number_bound; offset = 0 }
point_after point (At k (Put head bonus keep_spill max_block)) = if k == point.object then point else record { object = k; offset = 0 }
point_after point (At k (Spill bytes)) = point
point_after point (At k (FreeFrom offset)) = point
point_after point (At k (Free offset length)) = record { object = k; offset = offset + length }
point_after point (At k (Redact offset length)) = record { object = k; offset = offset + length }
point_after point (At k (Write offset type bytes)) = record { object = k; offset = offset + length bytes }

-- the point after items, from a start
abbrev pub point_of : Point → List Item → Point
point_of point [] = point
point_of point (item ∷ rest) = point_of (point_after point item) rest
