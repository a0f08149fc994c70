-- What a send keeps, and what is left of its bytes.
use Rattle.std.specs.Prelude.{◌≡◌, ℕ, Bool, true, false, List, [], ◌++◌, length, min, take, drop}
use Rattle.zst_model.specs.declared.states.item.Item.{Item}
use Rattle.zst_model.specs.sends.View.{View}
use Rattle.zst_model.specs.states.DatedState.{DatedState}
use Rattle.zst_stream.specs.Image.{image_after}
use Rattle.zst_stream.specs.Records.{pieces_for}
use Rattle.zst_tree.specs.Indices.{Blocks}
use Rattle.zst_writer.specs.Writes.{HasWritten}
use Rattle.zst_send.specs.WalkPositions.{IsWalk, WalkFits, items_left}
use Rattle.zst_send.specs.PendingRecords.{IsPending, PendingFits}
use Rattle.zst_send.specs.declared.walk.Walk.{Walk}
use Rattle.zst_send.specs.declared.send_state.SendState.{SendState}

-- what comes behind the pending record, where the writer has put this text: the items that are left and END, or, behind END, nothing
abbrev pub IsRest : Blocks → DatedState → View → ℕ → List ℕ → Walk → Bool → List ℕ → Type 0
IsRest has snap view to text walk true rest = rest ≡ []
IsRest has snap view to text walk false rest = (held : List Item) × IsWalk has snap walk held × (rest ≡ image_after text (pieces_for to (items_left view walk held)) to)

-- a send of this view to this guid stands where these bytes are left: those of the pending record, and those behind it
pub record StandsAt (has : Blocks) (snap : DatedState) (view : View) (to : ℕ) (stand : SendState) (left : List ℕ) : Type 0 where
  pub text : List ℕ
  pub written : HasWritten stand.writer text
  pub first : List ℕ
  pub pending : IsPending has stand.pending first
  pub rest : List ℕ
  pub is_rest : IsRest has snap view to text stand.walk stand.ended rest
  pub are : left ≡ first ++ rest

-- the next record is put, and as many bytes are left as before; where none was put, none are left
abbrev pub Advances : Blocks → DatedState → View → ℕ → List ℕ → SendState → Bool → Type 0
Advances has snap view to left new true = StandsAt has snap view to new left
Advances has snap view to left new false = (left ≡ []) × StandsAt has snap view to new left

-- the first bytes that are left were given, as many as there is room for or are left, and those behind them are left
pub record Fills (has : Blocks) (snap : DatedState) (view : View) (to : ℕ) (left into : List ℕ) (new : SendState) (count : ℕ) : Type 0 where
  pub count_is : count ≡ min (length into) (length left)
  pub given : take count into ≡ take count left
  pub stands : StandsAt has snap view to new (drop count left)

-- what it keeps is in its ranges, whatever the image
pub record StandFits (stand : SendState) : Type 0 where
  pub walk : WalkFits stand.walk
  pub pending : PendingFits stand.pending
