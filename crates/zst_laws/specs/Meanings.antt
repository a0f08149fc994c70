-- What single records and commands do, and what a send includes, said a second time on values that are written out.
use Rattle.std.specs.Prelude.{◌≡◌, ◌≢◌, ℕ, ◌<◌, ◌≤◌, Bool, true, false, List, [], ◌∷◌, replicate, Option, Some, None, Ok, Err, codes, if◌then◌else◌, ◌==◌}
use Rattle.zst_model.specs.declared.states.attr.Attr.{Attr}
use Rattle.zst_model.specs.declared.states.attr.ObjectHead.{ObjectHead}
use Rattle.zst_model.specs.declared.states.item.Change.{Change}
use Rattle.zst_model.specs.declared.states.item.Change.TheVariants.{Put, Spill, FreeFrom, Free, Redact, Write}
use Rattle.zst_model.specs.declared.sends.header.Header.{Header}
use Rattle.zst_model.specs.declared.sends.header.Point.{Point}
use Rattle.zst_model.specs.declared.states.item.Item.TheVariants.{FreeObjects, At}
use Rattle.zst_model.specs.declared.refusals.apply_fault.ApplyFault.{ApplyFault}
use Rattle.zst_model.specs.declared.refusals.apply_fault.ApplyFault.TheVariants.{NoObject, SizeDiffers, Unaligned, OddBlock, NotUserData}
use Rattle.zst_model.specs.declared.pools.command.Command.TheVariants as commands
use Rattle.zst_model.specs.states.State.{Block, Hole, Redacted, Data, Object, State, Empty, BytesOf, RedactedOf, content_at, end_at, is_block_size, is_number, is_user_data}
use Rattle.zst_model.specs.states.AppliedItems.{apply_change}
use Rattle.zst_model.specs.states.DatedState.{DatedState, apply_dated}
use Rattle.zst_model.specs.sends.Inclusion.{Choice, includes_pair, includes_number}
use Rattle.zst_model.specs.pools.Sessions.{Held}
use Rattle.zst_model.specs.pools.Pool.{Dataset, Snapshot, Pool, dataset_named, untouched}
use Rattle.zst_model.specs.pools.RedSet.{red_set}
use Rattle.zst_model.specs.sends.Target.{CanRedact}
use Rattle.zst_model.specs.sends.View.{header_from}
use Rattle.zst_model.specs.pools.Step.{Stepped, stepped}
use Rattle.zst_laws.specs.FileExample.{small}
use Rattle.zst_laws.specs.StepExample.{new_pool, gives}

-- an object of this type with blocks of this size, without a bonus or a spill
abbrev pub object_of : ℕ → ℕ → (ℕ → Block) → Object
object_of type size blocks = record {
  attr = record { type_ = type; bonus_type = 0; block_size = size; bonus = []; spill = None };
  blocks = blocks;
}

-- the change is refused so in an object of this type and block size, whatever blocks it has
abbrev pub Fails : ℕ → ℕ → Change → ApplyFault → Type 0
Fails type size change fault = (blocks : ℕ → Block) → apply_change change (Some (object_of type size blocks)) ≡ Err fault

-- the change makes an object, of which this holds
abbrev pub Makes : Change → Option Object → (Object → Type 0) → Type 0
Makes change object Holds = (made : Object) × (apply_change change object ≡ Ok (Some made)) × Holds made

-- WRITE: no object; another length than the block size, wherever it is; within a block, whatever its index; an index over 0 of an odd size
abbrev pub WriteFails : Type 0
WriteFails =
    ((offset type : ℕ) (bytes : List ℕ) → apply_change (Write offset type bytes) None ≡ Err NoObject)
    × Fails 19 1536 (Write 1537 19 (replicate 1535 170)) SizeDiffers
    × Fails 19 1536 (Write 1536 19 (replicate 1537 170)) SizeDiffers
    × Fails 19 1536 (Write 1537 19 (replicate 1536 170)) Unaligned
    × Fails 19 1536 (Write 1536 19 (replicate 1536 170)) OddBlock

-- WRITE of block 0 of an odd size, and of block 1 of another, changes that block alone
abbrev pub WriteMakes : Type 0
WriteMakes =
    (blocks : ℕ → Block)
    → Makes (Write 0 19 (replicate 1536 170)) (Some (object_of 19 1536 blocks)) (λ made. (made.blocks 0 ≡ Data (replicate 1536 170)) × (made.blocks 1 ≡ blocks 1))
    × Makes (Write 512 19 (replicate 512 187)) (Some (object_of 20 512 blocks))
    (λ made. (made.blocks 0 ≡ blocks 0) × (made.blocks 1 ≡ Data (replicate 512 187)) × (made.blocks 2 ≡ blocks 2))

-- FREE: no object; from within a block, to within a block, and behind an end within a block
abbrev pub FreeFails : Type 0
FreeFails =
    ((offset length : ℕ) → apply_change (Free offset length) None ≡ Err NoObject)
    × ((offset : ℕ) → apply_change (FreeFrom offset) None ≡ Err NoObject)
    × Fails 19 512 (Free 7 512) Unaligned
    × Fails 19 512 (Free 512 7) Unaligned
    × Fails 19 512 (FreeFrom 7) Unaligned

-- FREE of two blocks, of blocks of an odd size, and of all behind an end changes these alone
abbrev pub FreeMakes : Type 0
FreeMakes =
    (blocks : ℕ → Block)
    → Makes (Free 512 1024) (Some (object_of 20 512 blocks))
    (λ made. (made.blocks 0 ≡ blocks 0) × (made.blocks 1 ≡ Hole) × (made.blocks 2 ≡ Hole) × (made.blocks 3 ≡ blocks 3))
    × Makes (Free 1536 1536) (Some (object_of 19 1536 blocks)) (λ made. (made.blocks 0 ≡ blocks 0) × (made.blocks 1 ≡ Hole))
    × Makes (FreeFrom 512) (Some (object_of 20 512 blocks)) (λ made. (made.blocks 0 ≡ blocks 0) × (made.blocks 1 ≡ Hole) × (made.blocks 1000 ≡ Hole))

-- SPILL: no object; it is put in the place of the spill, and the bonus and the blocks stay
abbrev pub SpillFails : Type 0
SpillFails = (bytes : List ℕ) → apply_change (Spill bytes) None ≡ Err NoObject

abbrev pub SpillMakes : Type 0
SpillMakes =
    (bytes : List ℕ) (object : Object)
    → Makes (Spill bytes) (Some object) (λ made. (made.attr.spill ≡ Some bytes) × (made.attr.bonus ≡ object.attr.bonus) × (made.blocks ≡ object.blocks))

-- REDACT: no object; other than user data, wherever it is; from or to within a block, whatever its index; an index over 0 of an odd size
abbrev pub RedactFails : Type 0
RedactFails =
    ((offset length : ℕ) → apply_change (Redact offset length) None ≡ Err NoObject)
    × Fails 20 1536 (Redact 1537 1536) NotUserData
    × Fails 20 1536 (Redact 1536 1536) NotUserData
    × Fails 20 512 (Redact 0 512) NotUserData
    × Fails 19 1536 (Redact 1537 1536) Unaligned
    × Fails 19 1536 (Redact 1536 1537) Unaligned
    × Fails 19 1536 (Redact 1536 1536) OddBlock
    × Fails 19 1536 (Redact 0 3072) OddBlock

-- REDACT of two blocks of a volume, of block 0 of an odd size, and of no block changes these alone
abbrev pub RedactMakes : Type 0
RedactMakes =
    (blocks : ℕ → Block)
    → Makes (Redact 512 1024) (Some (object_of 23 512 blocks))
    (λ made. (made.blocks 0 ≡ blocks 0) × (made.blocks 1 ≡ Redacted) × (made.blocks 2 ≡ Redacted) × (made.blocks 3 ≡ blocks 3))
    × Makes (Redact 0 1536) (Some (object_of 19 1536 blocks)) (λ made. (made.blocks 0 ≡ Redacted) × (made.blocks 1 ≡ blocks 1))
    × Makes (Redact 1536 0) (Some (object_of 19 1536 blocks)) (λ made. (made.blocks 0 ≡ blocks 0) × (made.blocks 1 ≡ blocks 1))

-- OBJECT has its own bonus, and the spill that was there exactly where it keeps it
abbrev pub PutMakes : Type 0
PutMakes =
    (head : ObjectHead) (bonus : List ℕ) (max_block : ℕ) (object : Object)
    → Makes (Put head bonus true max_block) (Some object) (λ made. (made.attr.spill ≡ object.attr.spill) × (made.attr.bonus ≡ bonus))
    × Makes (Put head bonus false max_block) (Some object) (λ made. (made.attr.spill ≡ None) × (made.attr.bonus ≡ bonus))

-- an OBJECT of an absent number has its head and its bonus, no spill, and holes
abbrev pub PutAllocates : Type 0
PutAllocates =
    (head : ObjectHead) (bonus : List ℕ) (max_block i : ℕ)
    → Makes (Put head bonus true max_block) None
    (λ made. (made.attr ≡ record { type_ = head.type_; bonus_type = head.bonus_type; block_size = head.block_size; bonus = bonus; spill = None }) × (made.blocks i ≡ Hole))

-- user data has the type 19 or 23, and no other
abbrev pub UserDataTypes : Type 0
UserDataTypes =
    (attr : Attr)
    → (attr.type_ ≡ 19 → is_user_data attr ≡ true)
    × (attr.type_ ≡ 23 → is_user_data attr ≡ true)
    × (attr.type_ ≢ 19 → attr.type_ ≢ 23 → is_user_data attr ≡ false)

-- a change in a commit leaves the dates of all numbers
abbrev pub DatesNoNumber : Change → Type 0
DatesNoNumber change =
    (number k : ℕ) (snap after : DatedState) → apply_dated number (At k change) snap ≡ Ok after → (j : ℕ) → after.number_date j ≡ snap.number_date j

-- a change in a commit gives its number this date, and leaves those of all others
abbrev pub DatesItsNumber : Change → Type 0
DatesItsNumber change =
    (number k : ℕ) (snap after : DatedState) → apply_dated number (At k change) snap ≡ Ok after
    → (after.number_date k ≡ number) × ((j : ℕ) → j ≢ k → after.number_date j ≡ snap.number_date j)

-- FREE, the tail FREE, REDACT and WRITE date no number
abbrev pub BlocksDateNoNumber : Type 0
BlocksDateNoNumber =
    ((offset length : ℕ) → DatesNoNumber (Free offset length))
    × ((offset : ℕ) → DatesNoNumber (FreeFrom offset))
    × ((offset length : ℕ) → DatesNoNumber (Redact offset length))
    × ((offset type : ℕ) (bytes : List ℕ) → DatesNoNumber (Write offset type bytes))

-- OBJECT and SPILL date their number
abbrev pub AttributesDateNumbers : Type 0
AttributesDateNumbers =
    ((head : ObjectHead) (bonus : List ℕ) (keep_spill : Bool) (max_block : ℕ) → DatesItsNumber (Put head bonus keep_spill max_block))
    × ((bytes : List ℕ) → DatesItsNumber (Spill bytes))

-- SPILL dates no index
abbrev pub SpillDatesNoIndex : Type 0
SpillDatesNoIndex =
    (bytes : List ℕ) (number k : ℕ) (snap after : DatedState) → apply_dated number (At k (Spill bytes)) snap ≡ Ok after
    → (j i : ℕ) → after.index_date j i ≡ snap.index_date j i

-- the tail FREE in commit 9 dates all indices behind it up to 2^43 - 1; REDACT its range
abbrev pub RangesDateBlocks : Type 0
RangesDateBlocks =
    (after : DatedState)
    → (apply_dated 9 (At 1 (FreeFrom 512)) small ≡ Ok after
    → (after.index_date 1 0 ≡ 4) × (after.index_date 1 1 ≡ 9) × (after.index_date 1 8796093022207 ≡ 9) × (after.index_date 1 8796093022208 ≡ 0) × (after.index_date 2 1 ≡ 0))
    × (apply_dated 9 (At 1 (Redact 512 1024)) small ≡ Ok after
    → (after.index_date 1 0 ≡ 4) × (after.index_date 1 1 ≡ 9) × (after.index_date 1 2 ≡ 9) × (after.index_date 1 3 ≡ 3) × (after.index_date 2 1 ≡ 0))

-- a snapshot with one object of this type: data in block 0, a redacted block 1, and holes; and one that dates all its indices with this number
abbrev pub typed : ℕ → ℕ → DatedState
typed type date = record {
  state = λ k. if k == 1 then Some (object_of type 512 (λ i. if i == 0 then Data (replicate 512 170) else (if i == 1 then Redacted else Hole))) else None;
  number_date = λ k. 3;
  index_date = λ k i. date;
}

-- a snapshot of commit 7 lists data of a file and of a volume that each clone dates after it, and nothing of another type, of holes, of redacted blocks, or of commit 7
abbrev pub ListsUserData : Type 0
ListsUserData =
    (red_set (typed 19 4).state 7 (typed 19 8 ∷ []) 1 0 ≡ true)
    × (red_set (typed 23 4).state 7 (typed 23 8 ∷ []) 1 0 ≡ true)
    × (red_set (typed 20 4).state 7 (typed 20 8 ∷ []) 1 0 ≡ false)
    × (red_set (typed 19 4).state 7 (typed 19 8 ∷ []) 1 1 ≡ false)
    × (red_set (typed 19 4).state 7 (typed 19 8 ∷ []) 1 2 ≡ false)
    × (red_set (typed 19 4).state 7 (typed 19 8 ∷ []) 2 0 ≡ false)
    × (red_set (typed 19 4).state 7 (typed 19 7 ∷ []) 1 0 ≡ false)
    × (red_set (typed 19 4).state 7 (typed 19 8 ∷ typed 19 7 ∷ []) 1 0 ≡ false)
    × (red_set (typed 19 4).state 7 (typed 19 8 ∷ typed 19 9 ∷ []) 1 0 ≡ true)

-- a file system whose head has the redaction guids 7 and 9
abbrev pub redacted_tank : Dataset
redacted_tank = record { name = codes "tank/a"; kind = 2; origin = None; head = small; redact = 7 ∷ 9 ∷ [] }

-- its snapshot has them too, the guid 7 * 2^32 + 5 in a pool with the id 7 whose counter was 4, and the head as it is
abbrev pub SnapshotKeepsGuids : Type 0
SnapshotKeepsGuids =
    (held : List Held) (now : ℕ) → let pool : Pool = record (new_pool 7) { number = 4; guids = 4; datasets = redacted_tank ∷ [] } in
    stepped held now (commands.Snapshot (codes "tank/a@s")) pool
    ≡ gives (codes "ok 5") (record pool {
      number = 5;
      guids = 5;
      snapshots = record { name = codes "tank/a@s"; guid = 30064771077; time = now; number = 5; objects = small; redact = 7 ∷ 9 ∷ [] } ∷ [];
    })

-- a new volume has the kind 3
abbrev pub VolumeIsMade : Type 0
VolumeIsMade =
    (held : List Held) (now : ℕ)
    → stepped held now (commands.Volume (codes "tank/v")) (new_pool 1)
    ≡ gives (codes "ok 2") (record (new_pool 1) { number = 2; datasets = record { name = codes "tank/v"; kind = 3; origin = None; head = untouched; redact = [] } ∷ [] })

-- a pair below the end that is in the list of the source, or in the list to redact, is included, whatever its date
abbrev pub ListedIsIncluded : Type 0
ListedIsIncluded =
    (snap : DatedState) (choice : Choice) (k i : ℕ) → i < end_at (snap.state k)
    → (choice.source k i ≡ true → includes_pair snap choice k i ≡ true)
    × (choice.redact k i ≡ true → includes_pair snap choice k i ≡ true)

-- a pair that isn't listed is included where it is dated after the source, and isn't where it is dated at it or before it
abbrev pub DatedIsIncluded : Type 0
DatedIsIncluded =
    (snap : DatedState) (choice : Choice) (number k i : ℕ) → choice.from ≡ Some number
    → i < end_at (snap.state k) → choice.source k i ≡ false → choice.redact k i ≡ false
    → (number < snap.index_date k i → includes_pair snap choice k i ≡ true)
    × (snap.index_date k i ≤ number → includes_pair snap choice k i ≡ false)

-- a number that is dated after the source is included
abbrev pub DatedNumberIsIncluded : Type 0
DatedNumberIsIncluded =
    (snap : DatedState) (choice : Choice) (number k : ℕ) → choice.from ≡ Some number → is_number k ≡ true
    → number < snap.number_date k → includes_number snap choice k ≡ true

-- a number that is dated at the source or before it, with all of its indices, and of which nothing is listed isn't included
abbrev pub EqualDatesAreLeft : Type 0
EqualDatesAreLeft =
    (snap : DatedState) (choice : Choice) (number k : ℕ) → choice.from ≡ Some number → snap.number_date k ≤ number
    → ((i : ℕ) → (snap.index_date k i ≤ number) × (choice.source k i ≡ false) × (choice.redact k i ≡ false))
    → includes_number snap choice k ≡ false

-- a file system without objects
abbrev pub empty_tank : List ℕ → Dataset
empty_tank name = record { name = name; kind = 2; origin = None; head = untouched; redact = [] }

-- a snapshot of one, with this number
abbrev pub empty_snapshot : List ℕ → ℕ → ℕ → Snapshot
empty_snapshot name guid number = record { name = name; guid = guid; time = number; number = number; objects = untouched; redact = [] }

-- datasets stand by name
abbrev pub DatasetsStandByName : Type 0
DatasetsStandByName =
    (held : List Held) (now : ℕ) → let pool : Pool = record (new_pool 1) { datasets = empty_tank (codes "tank/a") ∷ empty_tank (codes "tank/c") ∷ [] } in
    stepped held now (commands.Fs (codes "tank/b")) pool
    ≡ gives (codes "ok 2") (record pool { number = 2; datasets = empty_tank (codes "tank/a") ∷ empty_tank (codes "tank/b") ∷ empty_tank (codes "tank/c") ∷ [] })

-- snapshots stand by dataset, and in a dataset by number
abbrev pub SnapshotsStandByNumber : Type 0
SnapshotsStandByNumber =
    (held : List Held) → let pool : Pool = record (new_pool 1) {
      number = 8;
      guids = 2;
      datasets = empty_tank (codes "tank/a") ∷ empty_tank (codes "tank/b") ∷ [];
      snapshots = empty_snapshot (codes "tank/a@s") 4294967297 5 ∷ empty_snapshot (codes "tank/b@r") 4294967298 6 ∷ [];
    } in
    stepped held 9 (commands.Snapshot (codes "tank/a@b")) pool
    ≡ gives (codes "ok 9") (record pool {
      number = 9;
      guids = 3;
      snapshots = empty_snapshot (codes "tank/a@s") 4294967297 5 ∷ empty_snapshot (codes "tank/a@b") 4294967299 9 ∷ empty_snapshot (codes "tank/b@r") 4294967298 6 ∷ [];
    })

-- a command on a head leaves the other datasets
abbrev pub OtherHeadsStay : Type 0
OtherHeadsStay =
    (held : List Held) (now : ℕ) → let pool : Pool = record (new_pool 1) { datasets = redacted_tank ∷ empty_tank (codes "tank/b") ∷ [] } in
    (made : Stepped) × (stepped held now (commands.Free (codes "tank/b") 1 1) pool ≡ Ok made)
    × (dataset_named (codes "tank/a") made.pool ≡ Some redacted_tank)
    × (dataset : Dataset) × (dataset_named (codes "tank/b") made.pool ≡ Some dataset) × (dataset.head.number_date 1 ≡ 2)

-- FREEOBJECTS in commit 9 dates the numbers from 1 to 2^48 - 1 of its range, absent ones too, and their indices up to 2^43 - 1
abbrev pub FreedAreDated : Type 0
FreedAreDated =
    (after : DatedState)
    → (apply_dated 9 (FreeObjects 0 3) small ≡ Ok after
    → (after.number_date 0 ≡ 0) × (after.number_date 1 ≡ 9) × (after.number_date 2 ≡ 9) × (after.number_date 3 ≡ 0)
    × (after.index_date 0 0 ≡ 0) × (after.index_date 2 8796093022207 ≡ 9) × (after.index_date 2 8796093022208 ≡ 0) × (after.index_date 3 0 ≡ 0))
    × (apply_dated 9 (FreeObjects 281474976710655 2) small ≡ Ok after
    → (after.number_date 281474976710655 ≡ 9) × (after.number_date 281474976710656 ≡ 0) × (after.index_date 281474976710656 0 ≡ 0))

-- block sizes are the multiples of 512 from 512 to 131,072
abbrev pub BlockSizes : Type 0
BlockSizes =
    (is_block_size 512 ≡ true) × (is_block_size 1536 ≡ true) × (is_block_size 131072 ≡ true)
    × (is_block_size 0 ≡ false) × (is_block_size 256 ≡ false) × (is_block_size 1000 ≡ false) × (is_block_size 131584 ≡ false)

-- the content of an index is nothing, its bytes, or that it is redacted, of its object's block size
abbrev pub Contents : Type 0
Contents =
    (i size : ℕ) (bytes : List ℕ)
    → (content_at None i ≡ Empty)
    × (content_at (Some (object_of 19 size (λ j. Hole))) i ≡ Empty)
    × (content_at (Some (object_of 19 size (λ j. Data bytes))) i ≡ BytesOf bytes)
    × (content_at (Some (object_of 19 size (λ j. Redacted))) i ≡ RedactedOf size)

-- a stream that was asked for by a token has the feature 2^20 and the token's point; any other has its view's header
abbrev pub HeadersFrom : Type 0
HeadersFrom =
    (header : Header) (point : Point)
    → (header_from header None ≡ header)
    × ((header_from (record header { features = 4 }) (Some point)).features ≡ 1048580)
    × ((header_from header (Some point)).resume ≡ Some point)

-- each redacted block of a state is one of a file or a volume
abbrev pub RedactsUserData : State → Type 0
RedactsUserData state = (k i : ℕ) (object : Object) → state k ≡ Some object → object.blocks i ≡ Redacted → is_user_data object.attr ≡ true

-- what a redaction bookmark lists can be redacted, where what is redacted already is user data
abbrev pub ListsCanBeRedacted : Type 0
ListsCanBeRedacted =
    (state : State) (number : ℕ) (redactions : List DatedState) → RedactsUserData state → CanRedact state (red_set state number redactions)
