-- What a receive that was cut has of a send.
use Rattle.std.specs.Prelude.{◌≡◌, ℕ, ◌*◌, ◌<◌, ◌≤◌, Option, Some, None, Ok}
use Rattle.zst_model.specs.declared.sends.header.Point.{Point}
use Rattle.zst_model.specs.states.State.{Block, Hole, Object, State}
use Rattle.zst_model.specs.sends.View.{View, Shown, Left, Gone, There}
use Rattle.zst_model.specs.sends.Items.{opening}
use Rattle.zst_model.specs.states.AppliedItems.{apply_changes}
use Rattle.zst_model.specs.sends.Target.{target}

-- the block at an index of what stands at a number
abbrev pub block_at : Option Object → ℕ → Block
block_at None i = Hole
block_at (Some object) i = object.blocks i

-- what stands at the point's number: the base's, or, where the view has the object, what its opening makes into the target's blocks
-- before the offset and into those that the opening makes of the base from there to the end
abbrev pub StandsAt : Shown → ℕ → Option Object → Option Object → Option Object → Type 0
StandsAt Left offset base whole x = x ≡ base
StandsAt Gone offset base whole x = x ≡ base
StandsAt (There object) offset base whole x =
    (opened opened_base : Option Object) → apply_changes (opening object) x ≡ Ok opened → apply_changes (opening object) base ≡ Ok opened_base
    → (i : ℕ) → i < object.end
    → (i * object.attr.block_size < offset → block_at opened i ≡ block_at whole i)
    × (offset ≤ i * object.attr.block_size → block_at opened i ≡ block_at opened_base i)

-- a state on its way from the base to the whole: the whole's below the point's number, the base's above it
pub record Between (view : View) (base whole : State) (point : Point) (x : State) : Type 0 where
  pub below : (k : ℕ) → k < point.object → x k ≡ whole k
  pub above : (k : ℕ) → point.object < k → x k ≡ base k
  pub here : StandsAt (view.shown point.object) point.offset (base point.object) (whole point.object) (x point.object)

-- the state stands for the view, the base and the point: it is on its way to the target
pub record StandsFor (view : View) (base : State) (point : Point) (x : State) : Type 0 where
  pub whole : State
  pub is_target : target view base ≡ Ok whole
  pub between : Between view base whole point x
