-- What a partial state has of a send.
use Rattle.std.specs.Prelude.{◌≡◌}
use Rattle.zst_model.specs.declared.sends.header.Point.{Point}
use Rattle.zst_model.specs.states.State.{State}
use Rattle.zst_model.specs.sends.View.{View}
use Rattle.zst_model.specs.sends.CutReceives.{StandsFor}
use Rattle.zst_model.specs.pools.Pool.{Partial}

-- a partial state is part of the way from the base to what the view makes of it: its header is the view's, its point is this one,
-- and its objects stand for them
pub record IsPartWay (view : View) (base : State) (point : Point) (partial : Partial) : Type 0 where
  pub header : partial.header ≡ view.header
  pub reached : partial.point ≡ point
  pub objects : StandsFor view base point partial.objects.state
