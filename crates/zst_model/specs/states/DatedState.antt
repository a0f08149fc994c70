-- Dates: the number of the commit that last touched a number or an index.
use Rattle.std.specs.Prelude.{ℕ, ◌*◌, Bool, true, false, not, List, [], ◌∷◌, Option, Some, None, Result, Ok, if◌then◌else◌, nat_lt, ◌==◌, ◌&&◌}
use Rattle.zst_model.specs.declared.states.attr.ObjectHead.{ObjectHead}
use Rattle.zst_model.specs.declared.states.item.Change.{Change}
use Rattle.zst_model.specs.declared.states.item.Change.TheVariants.{Put, Spill, FreeFrom, Free, Redact, Write}
use Rattle.zst_model.specs.declared.states.item.Item.{Item}
use Rattle.zst_model.specs.declared.states.item.Item.TheVariants.{FreeObjects, At}
use Rattle.zst_model.specs.declared.refusals.apply_fault.ApplyFault.{ApplyFault}
use Rattle.zst_model.specs.states.State.{State, Object, is_number, index_bound}
use Rattle.zst_model.specs.states.AppliedItems.{apply, covers, within, ◌>>=◌}

-- a state with the date of each number and of each index, 0 where nothing touched it
pub record DatedState : Type 0 where
  pub state : State
  pub number_date : ℕ → ℕ
  pub index_date : ℕ → ℕ → ℕ

-- a change of attributes or of the spill dates the number, also where the content is equal
abbrev pub dates_number : Change → Bool
dates_number (Put head bonus keep_spill max_block) = true
dates_number (Spill bytes) = true
dates_number (FreeFrom offset) = false
dates_number (Free offset length) = false
dates_number (Redact offset length) = false
dates_number (Write offset type bytes) = false

-- an OBJECT makes all blocks anew where it allocates the object or changes its block size
abbrev pub makes_anew : ObjectHead → Option Object → Bool
makes_anew head None = true
makes_anew head (Some object) = not (object.attr.block_size == head.block_size)

-- the block size of what stands at a number
abbrev pub size_at : Option Object → ℕ
size_at None = 0
size_at (Some object) = object.attr.block_size

-- a change dates the indices that it covers or makes anew, also where the content is equal
abbrev pub dates_index : Change → Option Object → ℕ → Bool
dates_index (Put head bonus keep_spill max_block) object i = makes_anew head object
dates_index change object i = covers change (i * size_at object)

-- whether an item dates a number: FREEOBJECTS dates absent ones too, skips 0 and is cut at 2^48
abbrev pub touches_number : Item → ℕ → Bool
touches_number (FreeObjects first count) k = within first count k && is_number k
touches_number (At j change) k = k == j && dates_number change

-- whether an item dates an index: FREEOBJECTS dates all of its numbers', and each range of indices is cut at 2^43
abbrev pub touches_index : Item → State → ℕ → ℕ → Bool
touches_index (FreeObjects first count) state k i = (within first count k && is_number k) && nat_lt i index_bound
touches_index (At j change) state k i = (k == j && dates_index change (state j) i) && nat_lt i index_bound

-- the item applied in a commit: what it touches has the commit's number as its date
abbrev pub apply_dated : ℕ → Item → DatedState → Result DatedState ApplyFault
apply_dated number item snap =
    apply item snap.state >>= λ state. Ok (record {
      state = state;
      number_date = λ k. if touches_number item k then number else snap.number_date k;
      index_date = λ k i. if touches_index item snap.state k i then number else snap.index_date k i;
    })

-- items of one commit, one after another, up to the first fault
abbrev pub apply_all_dated : ℕ → List Item → DatedState → Result DatedState ApplyFault
apply_all_dated number [] snap = Ok snap
apply_all_dated number (item ∷ rest) snap = apply_dated number item snap >>= apply_all_dated number rest
