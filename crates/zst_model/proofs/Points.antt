-- Where items leave the point of a stream.
use Rattle.std.proofs.Common.{◌≡◌, List, [], ◌∷◌, ◌++◌, refl}
use Rattle.zst_model.specs.declared.sends.header.Point.{Point}
use Rattle.zst_model.specs.declared.states.item.Item.{Item}
use Rattle.zst_model.specs.sends.Points.{point_after, point_of}

-- items one after another
pub point_of-append : (point : Point) (xs ys : List Item) → point_of point (xs ++ ys) ≡ point_of (point_of point xs) ys
point_of-append point [] ys = refl
point_of-append point (x ∷ xs) ys = point_of-append (point_after point x) xs ys
