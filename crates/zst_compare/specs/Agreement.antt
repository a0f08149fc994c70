-- What a later state hasn't dated after a number, beside an earlier state: the fields of Agrees of zst_model, over any number.
use Rattle.std.specs.Prelude.{◌≡◌, ◌⊎◌, ℕ, ◌*◌, ◌^◌, ◌<◌, ◌≤◌, true, Option, None, Some}
use Rattle.zst_block.specs.declared.ptr.Ptr.{Ptr}
use Rattle.zst_model.specs.states.State.{attr_at, content_at, is_number, index_bound}
use Rattle.zst_model.specs.states.DatedState.{DatedState}
use Rattle.zst_objset.specs.Sets.{IsHole}
use Rattle.zst_compare.specs.declared.difference.Difference.{Difference}
use Rattle.zst_compare.specs.declared.sets.CompareStep.{CompareStep}
use Rattle.zst_compare.specs.declared.sets.CompareStep.TheVariants.{Agrees, Differs}

-- each number and index that the later state dates at or below the number has in the earlier one the same content and the same date
pub record AgreesUpTo (number : ℕ) (earlier later : DatedState) : Type 0 where
  pub numbers : (k : ℕ) → is_number k ≡ true → later.number_date k ≤ number → attr_at (earlier.state k) ≡ attr_at (later.state k)
  pub number_dates : (k : ℕ) → is_number k ≡ true → later.number_date k ≤ number → earlier.number_date k ≡ later.number_date k
  pub indices : (k i : ℕ) → is_number k ≡ true → i < index_bound → later.index_date k i ≤ number → content_at (earlier.state k) i ≡ content_at (later.state k) i
  pub index_dates : (k i : ℕ) → is_number k ≡ true → i < index_bound → later.index_date k i ≤ number → earlier.index_date k i ≡ later.index_date k i

-- what was so since a date is so still, unless it was dated after the number since
abbrev pub IsKept : {T : Type 0} → (number : ℕ) → (was : T) → (was_date : ℕ) → (now : T) → (now_date : ℕ) → Type 0
IsKept number was was_date now now_date = now_date ≤ number → (was ≡ now) × (was_date ≡ now_date)

-- it isn't, though it is dated at or below the number: the content or the date is another
pub record IsOther {T : Type 0} (number : ℕ) (was : T) (was_date : ℕ) (now : T) (now_date : ℕ) : Type 0 where
  pub dated : now_date ≤ number
  pub other : ¬ ((was ≡ now) × (was_date ≡ now_date))

module _ (number : ℕ) (earlier later : DatedState) where
  -- an object number is kept or not: its attributes with its spill, and its date
  abbrev pub NumberKept : ℕ → Type 0
  NumberKept k = IsKept number (attr_at (earlier.state k)) (earlier.number_date k) (attr_at (later.state k)) (later.number_date k)

  abbrev pub NumberOther : ℕ → Type 0
  NumberOther k = IsOther number (attr_at (earlier.state k)) (earlier.number_date k) (attr_at (later.state k)) (later.number_date k)

  -- so is an index of it
  abbrev pub IndexKept : ℕ → ℕ → Type 0
  IndexKept k i = IsKept number (content_at (earlier.state k) i) (earlier.index_date k i) (content_at (later.state k) i) (later.index_date k i)

  abbrev pub IndexOther : ℕ → ℕ → Type 0
  IndexOther k i = IsOther number (content_at (earlier.state k) i) (earlier.index_date k i) (content_at (later.state k) i) (later.index_date k i)

  -- one object number, and each of its indices, is kept
  pub record AgreesAt (k : ℕ) : Type 0 where
    pub number_kept : NumberKept k
    pub indices_kept : (i : ℕ) → i < index_bound → IndexKept k i

  -- a block of it isn't; 2^43 stands for the number itself
  abbrev pub DiffersIn : ℕ → ℕ → Type 0
  DiffersIn k block = ((block ≡ index_bound) × NumberOther k) ⊎ ((block < index_bound) × IndexOther k block)

  -- what comes of comparing one object number
  abbrev pub Compares : ℕ → Option ℕ → Type 0
  Compares k None = AgreesAt k
  Compares k (Some block) = DiffersIn k block

  -- agreement is denied at this place
  abbrev pub DiffersAt : Difference → Type 0
  DiffersAt place = (is_number place.object ≡ true) × DiffersIn place.object place.block

  -- what comes of comparing two sets
  abbrev pub ComparesSets : Option Difference → Type 0
  ComparesSets None = AgreesUpTo number earlier later
  ComparesSets (Some place) = DiffersAt place

  -- the object numbers from one on and below another agree
  abbrev pub AgreeBetween : ℕ → ℕ → Type 0
  AgreeBetween from below = (k : ℕ) → is_number k ≡ true → from ≤ k → k < below → AgreesAt k

  -- what comes of comparing the object numbers from one on and below another
  abbrev pub ComparesLeaves : ℕ → ℕ → Option Difference → Type 0
  ComparesLeaves from below None = AgreeBetween from below
  ComparesLeaves from below (Some place) = DiffersAt place

  -- what comes of a step over the leaves, from the object number on with which the first begins
  abbrev pub ComparesStep : ℕ → CompareStep → Type 0
  ComparesStep from (Agrees below) = AgreeBetween from (16 * below)
  ComparesStep from (Differs place) = DiffersAt place

-- a step over the leaves goes on
abbrev pub StepFits : ℕ → CompareStep → Type 0
StepFits index (Agrees below) = index < below
StepFits index (Differs place) = Unit {0}

-- holes of one date stand in place of the leaves from an index on and below another
abbrev pub AreHoles : DatedState → ℕ → ℕ → Ptr → Type 0
AreHoles snap index below ptr = (j : ℕ) → index ≤ j → j < below → j < 2 ^ 44 → IsHole snap j ptr
