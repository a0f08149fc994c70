-- The view of a send: all that its bytes depend on, without dates, places, sums, or a byte of a pair to redact.
use Rattle.std.specs.Prelude.{◌≡◌, ℕ, ◌<◌, true, false, length, Option, Some, None, IfSome, bit_and, bit_or, if◌then◌else◌}
use Rattle.zst_model.specs.declared.states.attr.Attr.{Attr}
use Rattle.zst_model.specs.declared.sends.header.Header.{Header}
use Rattle.zst_model.specs.declared.sends.header.Point.{Point}
use Rattle.zst_model.specs.states.State.{Block, Hole, Redacted, Data, Object, end_of, is_user_data, is_odd_size, is_number}
use Rattle.zst_model.specs.states.DatedState.{DatedState}
use Rattle.zst_model.specs.sends.Features.{resuming}
use Rattle.zst_model.specs.sends.Inclusion.{Choice, includes_pair, includes_number}

-- what a view shows of an included object: its attributes with its spill, its end, and the block of each included index below the end
pub record ObjectView : Type 0 where
  pub attr : Attr
  pub end : ℕ
  pub blocks : ℕ → Option Block

-- what a view shows of a number: that it isn't included, that it is absent, or its object
pub data Shown : Type 0 where
  Left : Shown
  Gone : Shown
  There : ObjectView → Shown

-- a view: the header without RESUMING, and what is shown of each number
pub record View : Type 0 where
  pub header : Header
  pub shown : ℕ → Shown

-- the block that is shown of an index: Redacted where the pair is to be redacted
abbrev pub shown_block : DatedState → Choice → ℕ → Object → ℕ → Option Block
shown_block snap choice k object i =
    if includes_pair snap choice k i
    then Some (if choice.redact k i then Redacted else object.blocks i)
    else None

-- what is shown of an object
abbrev pub object_view : DatedState → Choice → ℕ → Object → ObjectView
object_view snap choice k object = record { attr = object.attr; end = end_of object; blocks = shown_block snap choice k object }

-- what is shown of an included number
abbrev pub shown_object : DatedState → Choice → ℕ → Option Object → Shown
shown_object snap choice k None = Gone
shown_object snap choice k (Some object) = There (object_view snap choice k object)

-- the view of a snapshot
abbrev pub view_of : Header → DatedState → Choice → View
view_of header snap choice = record {
  header = header;
  shown = λ k. if includes_number snap choice k then shown_object snap choice k (snap.state k) else Left;
}

-- the header of a stream that isn't resumed
abbrev pub IsUnresumed : Header → Type 0
IsUnresumed header = (header.resume ≡ None) × (bit_and header.features resuming ≡ 0)

-- the header of a stream that may have been asked for by a token: it then has RESUMING and the token's point
abbrev pub header_from : Header → Option Point → Header
header_from header None = header
header_from header (Some point) = record header { features = bit_or header.features resuming; resume = Some point }

-- a block that can be applied at this index of an object with these attributes
abbrev pub MayShow : Attr → ℕ → Block → Type 0
MayShow attr i Hole = Unit {0}
MayShow attr i Redacted = (is_user_data attr ≡ true) × (0 < i → is_odd_size attr.block_size ≡ false)
MayShow attr i (Data bytes) = (length bytes ≡ attr.block_size) × (0 < i → is_odd_size attr.block_size ≡ false)

-- each block that is shown of a number can be applied
abbrev pub IsShown : Shown → Type 0
IsShown Left = Unit {0}
IsShown Gone = Unit {0}
IsShown (There object) = (0 < object.attr.block_size) × ((i : ℕ) → i < object.end → IfSome (object.blocks i) (MayShow object.attr i))

-- a lawful view: it shows numbers from 1 to 2^48 - 1 alone, and blocks that can be applied
pub record IsView (view : View) : Type 0 where
  pub outside : (k : ℕ) → is_number k ≡ false → view.shown k ≡ Left
  pub inside : (k : ℕ) → IsShown (view.shown k)
