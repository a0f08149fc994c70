-- What a send makes of a base, and of which base it makes its snapshot.
use Rattle.std.specs.Prelude.{◌≡◌, ℕ, ◌≤◌, ◌<◌, Bool, true, false, List, Some, option_map, Result, if◌then◌else◌}
use Rattle.zst_model.specs.declared.refusals.apply_fault.ApplyFault.{ApplyFault}
use Rattle.zst_model.specs.states.State.{Redacted, Data, Object, State, end_at, attr_at, content_at, is_user_data, is_number, index_bound}
use Rattle.zst_model.specs.states.DatedState.{DatedState}
use Rattle.zst_model.specs.sends.Inclusion.{Pairs, Choice, includes_pair, includes_number}
use Rattle.zst_model.specs.sends.View.{View}
use Rattle.zst_model.specs.sends.Items.{items, origin}
use Rattle.zst_model.specs.states.AppliedItems.{apply_all}

-- the target: the items of a view, applied to the base
abbrev pub target : View → State → Result State ApplyFault
target view base = apply_all (items view origin) base

-- an object with these indices redacted
abbrev pub redacted_object : (ℕ → Bool) → Object → Object
redacted_object pairs object = record { attr = object.attr; blocks = λ i. if pairs i then Redacted else object.blocks i }

-- a state with these pairs redacted
abbrev pub redacted : State → Pairs → State
redacted state pairs k = option_map (redacted_object (pairs k)) (state k)

-- each pair to redact is of user data and has data, and each redacted pair is of user data
pub record MayRedact (object : Object) (pairs : ℕ → Bool) : Type 0 where
  pub listed : (i : ℕ) → pairs i ≡ true → (is_user_data object.attr ≡ true) × (bytes : List ℕ) × (object.blocks i ≡ Data bytes)
  pub redacted : (i : ℕ) → object.blocks i ≡ Redacted → is_user_data object.attr ≡ true

-- these pairs of the state may be redacted
abbrev pub CanRedact : State → Pairs → Type 0
CanRedact state pairs = (k : ℕ) (object : Object) → state k ≡ Some object → MayRedact object (pairs k)

-- a base is fit for a send: it has the snapshot's content at each number that isn't included, and at each pair that isn't, but for
-- indices at or past the end of an included number, which the tail FREE or FREEOBJECTS clears
pub record BaseOk (base : State) (snap : DatedState) (choice : Choice) : Type 0 where
  pub numbers : (k : ℕ) → includes_number snap choice k ≡ false → attr_at (base k) ≡ attr_at (snap.state k)
  pub pairs : (k i : ℕ) → includes_pair snap choice k i ≡ false → (includes_number snap choice k ≡ true → i < end_at (snap.state k))
      → content_at (base k) i ≡ content_at (snap.state k) i

-- a snapshot remembers a state of a source's number: it has its content at each number and index that it dates at or below that number
pub record Remembers (snap : DatedState) (number : ℕ) (state : State) : Type 0 where
  pub numbers : (k : ℕ) → is_number k ≡ true → snap.number_date k ≤ number → attr_at (state k) ≡ attr_at (snap.state k)
  pub indices : (k i : ℕ) → is_number k ≡ true → i < index_bound → snap.index_date k i ≤ number → content_at (state k) i ≡ content_at (snap.state k) i
