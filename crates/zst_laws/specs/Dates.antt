-- Which dates items give, and what a snapshot remembers under them.
use Rattle.std.specs.Prelude.{◌≡◌, ◌≢◌, ◌⊎◌, ℕ, ◌+◌, ◌*◌, ◌<◌, ◌≤◌, true, false, List, [], ◌∷◌, Option, Some, None, Ok, ◌==◌}
use Rattle.zst_model.specs.declared.states.item.Change.{Change}
use Rattle.zst_model.specs.declared.states.item.Change.TheVariants.{Put, Spill, FreeFrom, Free, Redact, Write}
use Rattle.zst_model.specs.declared.states.item.Item.{Item}
use Rattle.zst_model.specs.declared.states.item.Item.TheVariants.{FreeObjects, At}
use Rattle.zst_model.specs.states.State.{State, Object, IsState, AreBytes, IsHead, IsBonus, IsSpill, attr_at, content_at, is_number, number_bound, index_bound}
use Rattle.zst_model.specs.states.AppliedItems.{apply, within}
use Rattle.zst_model.specs.states.DatedState.{DatedState, touches_number, touches_index, size_at, apply_dated, apply_all_dated}
use Rattle.zst_model.specs.sends.Target.{Remembers}

-- an item that is applied in a commit changes no content that it doesn't date
abbrev pub ChangesAreDated : Type 0
ChangesAreDated =
    (number : ℕ) (item : Item) (snap after : DatedState) → IsState snap.state → apply_dated number item snap ≡ Ok after
    → ((k : ℕ) → touches_number item k ≡ false → attr_at (after.state k) ≡ attr_at (snap.state k))
    × ((k i : ℕ) → i < index_bound → touches_index item snap.state k i ≡ false → content_at (after.state k) i ≡ content_at (snap.state k) i)

-- at or past the first of a range, and before its end
abbrev pub IsInRange : ℕ → ℕ → ℕ → Type 0
IsInRange first count n = (first ≤ n) × (n < first + count)

-- which numbers an item dates: OBJECT and SPILL their own, FREEOBJECTS those of its range that an object may have, other items none
abbrev pub DatesNumber : Item → ℕ → Type 0
DatesNumber (FreeObjects first count) k = IsInRange first count k × ((0 < k) × (k < number_bound))
DatesNumber (At j (Put head bonus keep_spill max_block)) k = k ≡ j
DatesNumber (At j (Spill bytes)) k = k ≡ j
DatesNumber (At j (FreeFrom offset)) k = ⊥
DatesNumber (At j (Free offset length)) k = ⊥
DatesNumber (At j (Redact offset length)) k = ⊥
DatesNumber (At j (Write offset type bytes)) k = ⊥

-- no object stands there, or one with another block size
abbrev pub IsNewOrResized : ℕ → Option Object → Type 0
IsNewOrResized size None = Unit {0}
IsNewOrResized size (Some object) = object.attr.block_size ≢ size

-- an object stands there in which this holds of the index's byte place, the index times the block size
abbrev pub HasPlace : Option Object → ℕ → (ℕ → Type 0) → Type 0
HasPlace None i Is = ⊥
HasPlace (Some object) i Is = Is (i * object.attr.block_size)

-- which indices of its number a change dates: OBJECT all, where the object is new or its block size changes, SPILL none, FREE to the end those at or past its byte place, FREE and REDACT those whose byte place is in their range, WRITE the one at its byte place
abbrev pub DatesPlace : Change → Option Object → ℕ → Type 0
DatesPlace (Put head bonus keep_spill max_block) object i = IsNewOrResized head.block_size object
DatesPlace (Spill bytes) object i = ⊥
DatesPlace (FreeFrom offset) object i = HasPlace object i (λ place. offset ≤ place)
DatesPlace (Free offset length) object i = HasPlace object i (IsInRange offset length)
DatesPlace (Redact offset length) object i = HasPlace object i (IsInRange offset length)
DatesPlace (Write offset type bytes) object i = HasPlace object i (λ place. place ≡ offset)

-- which indices below the bound an item dates: FREEOBJECTS each one of each number that it dates, any other item those of its own number
abbrev pub DatesIndex : Item → State → ℕ → ℕ → Type 0
DatesIndex (FreeObjects first count) state k i = DatesNumber (FreeObjects first count) k × (i < index_bound)
DatesIndex (At j change) state k i = ((k ≡ j) × DatesPlace change (state j) i) × (i < index_bound)

-- a date is the commit's where this is dated, and else the old one
abbrev pub DateIs : Type 0 → ℕ → ℕ → ℕ → Type 0
DateIs Dated number old new = (Dated × (new ≡ number)) ⊎ (¬ Dated × (new ≡ old))

-- what an item dates has the commit's number as its date, and all else keeps its date
abbrev pub DatesAreExact : Type 0
DatesAreExact =
    (number : ℕ) (item : Item) (snap after : DatedState) → apply_dated number item snap ≡ Ok after
    → ((k : ℕ) → DateIs (DatesNumber item k) number (snap.number_date k) (after.number_date k))
    × ((k i : ℕ) → DateIs (DatesIndex item snap.state k i) number (snap.index_date k i) (after.index_date k i))

-- a snapshot remembers its own state at each number
abbrev pub RemembersItself : Type 0
RemembersItself = (snap : DatedState) (number : ℕ) → Remembers snap number snap.state

-- a state that is remembered stays so under an item of a later commit
abbrev pub RemembersOn : Type 0
RemembersOn =
    (snap after : DatedState) (number next : ℕ) (item : Item) (state : State)
    → IsState snap.state → number < next → Remembers snap number state → apply_dated next item snap ≡ Ok after
    → Remembers after number state

-- a change that is lawful where it comes: an OBJECT has a head and a bonus that an object may have, a SPILL such a spill, a WRITE bytes, and a REDACT or WRITE takes no index from the bound on
abbrev pub IsLawfulChange : Change → Option Object → Type 0
IsLawfulChange (Put head bonus keep_spill max_block) object = IsHead head × IsBonus bonus
IsLawfulChange (Spill bytes) object = IsSpill bytes
IsLawfulChange (FreeFrom offset) object = Unit {0}
IsLawfulChange (Free offset length) object = Unit {0}
IsLawfulChange (Redact offset length) object = (i : ℕ) → index_bound ≤ i → within offset length (i * size_at object) ≡ false
IsLawfulChange (Write offset type bytes) object = AreBytes bytes × ((i : ℕ) → index_bound ≤ i → (i * size_at object == offset) ≡ false)

-- an item that is lawful where it comes: its number is one that an object may have, and its change is lawful
abbrev pub IsLawfulItem : Item → State → Type 0
IsLawfulItem (FreeObjects first count) state = Unit {0}
IsLawfulItem (At k change) state = (is_number k ≡ true) × IsLawfulChange change (state k)

-- a lawful item leaves a lawful state
abbrev pub AppliedIsState : Type 0
AppliedIsState =
    (number : ℕ) (item : Item) (snap after : DatedState)
    → IsState snap.state → IsLawfulItem item snap.state → apply_dated number item snap ≡ Ok after
    → IsState after.state

-- items each of which is lawful where it comes
abbrev pub AreLawfulItems : List Item → State → Type 0
AreLawfulItems [] state = Unit {0}
AreLawfulItems (item ∷ rest) state = IsLawfulItem item state × ((after : State) → apply item state ≡ Ok after → AreLawfulItems rest after)

-- the lawful items of a later commit leave a lawful state, and what is remembered stays so under them
abbrev pub RemembersThrough : Type 0
RemembersThrough =
    (snap after : DatedState) (number next : ℕ) (items : List Item) (state : State)
    → IsState snap.state → AreLawfulItems items snap.state → number < next → Remembers snap number state → apply_all_dated next items snap ≡ Ok after
    → IsState after.state × Remembers after number state
