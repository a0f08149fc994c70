-- What a walk over a dated state finds first, at or after a point.
use Rattle.std.specs.Prelude.{◌≡◌, ℕ, ◌+◌, ◌*◌, ◌^◌, ◌<◌, ◌≤◌, true, false, Bool, List, Option, Some, None, if◌then◌else◌}
use Rattle.zst_block.specs.declared.ptr.Ptr.{Ptr}
use Rattle.zst_dnode.specs.Dnode.{DnodeFits}
use Rattle.zst_dnode.specs.declared.dnode.Dnode.{Dnode}
use Rattle.zst_model.specs.declared.sends.header.Point.{Point}
use Rattle.zst_model.specs.declared.states.cell.Cell.{Cell}
use Rattle.zst_model.specs.declared.states.cell.Cell.TheVariants as cells
use Rattle.zst_model.specs.fields.Lists.{Runs, has_pair}
use Rattle.zst_model.specs.sends.Inclusion.{Choice, includes_number, includes_pair, no_pairs}
use Rattle.zst_model.specs.states.DatedState.{DatedState, size_at}
use Rattle.zst_model.specs.states.State as states
use Rattle.zst_tree.specs.Indices.{Blocks}
use Rattle.zst_objset.specs.Dnodes.{IsThereIn}
use Rattle.zst_traverse.specs.declared.walk_entry.WalkEntry.{WalkEntry}
use Rattle.zst_traverse.specs.declared.walk_entry.WalkEntry.TheVariants.{Object, Gone, Pairs}

-- all that is dated after the source's number, and no pair of a list
abbrev pub choice_after : Option ℕ → Choice
choice_after from = record { from = from; source = no_pairs; redact = no_pairs }

-- all that is dated after the source's number, or is in the source's list or in that of the pairs to redact, which are withheld
abbrev pub choice_with : Option ℕ → Runs → Runs → Choice
choice_with from listed withheld = record { from = from; source = has_pair listed; redact = has_pair withheld }

-- what is told of an index: a withheld one is redacted
abbrev pub told_block : Choice → ℕ → ℕ → states.Block → states.Block
told_block choice k i block = if choice.redact k i then states.Redacted else block

-- no number from one on and below another is included
abbrev pub NoNumber : DatedState → Choice → ℕ → ℕ → Type 0
NoNumber snap choice from below = (k : ℕ) → from ≤ k → k < below → includes_number snap choice k ≡ false

-- an object is the first included number from one on: its number, and its dnode; `reads` says which data stand
pub record IsNextObjectIn (has : Blocks) (reads : ℕ → ℕ → Blocks) (snap : DatedState) (choice : Choice) (from number : ℕ) (dnode : Dnode) : Type 0 where
  pub from_on : from ≤ number
  pub none_before : NoNumber snap choice from number
  pub included : includes_number snap choice number ≡ true
  pub is : IsThereIn has reads snap number dnode

-- so it is where all data are read
abbrev pub IsNextObject : Blocks → DatedState → Choice → ℕ → ℕ → Dnode → Type 0
IsNextObject has snap choice from number dnode = IsNextObjectIn has (λ k i. has) snap choice from number dnode

-- the first included numbers from one on are so many without objects
pub record IsNextGone (snap : DatedState) (choice : Choice) (from first count : ℕ) : Type 0 where
  pub from_on : from ≤ first
  pub some : 0 < count
  pub under : first + count ≤ states.number_bound
  pub none_before : NoNumber snap choice from first
  pub included : (k : ℕ) → first ≤ k → k < first + count → includes_number snap choice k ≡ true
  pub absent : (k : ℕ) → first ≤ k → k < first + count → snap.state k ≡ None

-- the first included number from one on, with those behind it that are told with it
abbrev pub IsNextNumberIn : Blocks → (ℕ → ℕ → Blocks) → DatedState → Choice → ℕ → WalkEntry → Type 0
IsNextNumberIn has reads snap choice from (Object number dnode) = IsNextObjectIn has reads snap choice from number dnode
IsNextNumberIn has reads snap choice from (Gone first count) = IsNextGone snap choice from first count
IsNextNumberIn has reads snap choice from (Pairs object first count what ptr) = ⊥

-- what is told of an index is its block: a hole, a redacted block, or the data that a pointer names
abbrev pub CellIs : Blocks → Cell → Ptr → states.Block → Type 0
CellIs has cells.Hole ptr block = block ≡ states.Hole
CellIs has cells.Redacted ptr block = block ≡ states.Redacted
CellIs has cells.Data ptr block = (bytes : List ℕ) × (block ≡ states.Data bytes) × (ptr.kind ≡ 1) × has ptr bytes

-- no index of the point's object at or past its offset, and below another index, is included
abbrev pub NoPair : DatedState → Choice → Point → ℕ → Type 0
NoPair snap choice point below = (i : ℕ) → i < below → point.offset ≤ i * size_at (snap.state point.object) → includes_pair snap choice point.object i ≡ false

-- the first included indices of the point's object at or past its offset are so many that are alike
pub record IsNextPairs (has : Blocks) (snap : DatedState) (choice : Choice) (point : Point) (first count : ℕ) (what : Cell) (ptr : Ptr) : Type 0 where
  pub object : states.Object
  pub there : snap.state point.object ≡ Some object
  pub some : 0 < count
  pub from_on : point.offset ≤ first * object.attr.block_size
  pub under : first + count ≤ states.end_of object
  pub none_before : NoPair snap choice point first
  pub included : (i : ℕ) → first ≤ i → i < first + count → includes_pair snap choice point.object i ≡ true
  pub blocks : (i : ℕ) → first ≤ i → i < first + count → CellIs has what ptr (told_block choice point.object i (object.blocks i))
  pub one : what ≡ cells.Data → count ≡ 1

-- the number at which those begin that a walk judges: the point's own where its slot is wanted, and else the next
abbrev pub first_number : Point → Bool → ℕ
first_number point slot = if slot then point.object else point.object + 1

-- where the point's own slot is passed over, no index of its object is left at or past the offset
abbrev pub NoneLeft : DatedState → Choice → Point → Bool → Type 0
NoneLeft snap choice point slot = slot ≡ false → (i : ℕ) → point.offset ≤ i * size_at (snap.state point.object) → includes_pair snap choice point.object i ≡ false

-- what is found is the first included number or index at or after a point, its own number aside where its slot isn't wanted; where nothing is found there is none
abbrev pub IsNextCellIn : Blocks → (ℕ → ℕ → Blocks) → DatedState → Choice → Point → Bool → Option WalkEntry → Type 0
IsNextCellIn has reads snap choice point slot None = NoneLeft snap choice point slot × NoNumber snap choice (first_number point slot) states.number_bound
IsNextCellIn has reads snap choice point slot (Some (Object number dnode)) = NoneLeft snap choice point slot × IsNextNumberIn has reads snap choice (first_number point slot) (Object number dnode)
IsNextCellIn has reads snap choice point slot (Some (Gone first count)) = NoneLeft snap choice point slot × IsNextNumberIn has reads snap choice (first_number point slot) (Gone first count)
IsNextCellIn has reads snap choice point slot (Some (Pairs object first count what ptr)) = (slot ≡ false) × (object ≡ point.object) × IsNextPairs has snap choice point first count what ptr

-- so it is where all data are read
abbrev pub IsNextCell : Blocks → DatedState → Choice → Point → Bool → Option WalkEntry → Type 0
IsNextCell has snap choice point slot found = IsNextCellIn has (λ k i. has) snap choice point slot found

-- whatever the image, what is found is in its range, at or after the point
abbrev pub FoundFits : Point → WalkEntry → Type 0
FoundFits point (Object number dnode) = (0 < number) × (point.object ≤ number) × (number < 2 ^ 48) × DnodeFits dnode
FoundFits point (Gone first count) = (0 < first) × (point.object ≤ first) × (0 < count) × (first + count ≤ 2 ^ 48)
FoundFits point (Pairs object first count what ptr) = (0 < object) × (object < 2 ^ 48) × (object ≡ point.object) × (0 < count) × (first + count ≤ 2 ^ 43)
