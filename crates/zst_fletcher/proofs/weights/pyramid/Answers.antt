use Rattle.zst_fletcher.proofs.Triangles.{pyramid_by_factor}
use Rattle.zst_fletcher.proofs.weights.pyramid.Goals as goal

pub returns : goal.returns
returns c = pyramid_by_factor c.args.place _ c.triangle.ensures
