-- Which block a command tells as damaged.
use Rattle.std.specs.Prelude.{◌≡◌, ◌⊎◌, ℕ, List, ◌∷◌, Contains, Some}
use Rattle.zst_outside.specs.Images.{DiskState}
use Rattle.zst_space.specs.FreeSectors.{FreeSectors}
use Rattle.zst_block.specs.Blocks.{SparesTaken}
use Rattle.zst_tree.specs.Damage.{IsSeen, NamesNode, SumsUp}
use Rattle.zst_tree.specs.declared.tree.ObjSet.{ObjSet}
use Rattle.zst_objset.specs.Damage.{DamageFact, IsDamagedBlock, IsDamagedObject, IsDamagedSet}
use Rattle.zst_model.specs.declared.pools.command.Command.{Command}
use Rattle.zst_model.specs.declared.pools.command.Command.TheVariants as commands
use Rattle.zst_model.specs.declared.refusals.subjects.Name.{Name}
use Rattle.zst_dir.specs.Rows.{Rows}
use Rattle.zst_dir.specs.declared.rows.Dataset.{Dataset}
use Rattle.zst_image.specs.Bodies.{Body, free_by}
use Rattle.zst_roots.specs.RowDamage.{IsDamagedInPool}
use Rattle.zst_roots.specs.declared.held.HeldBlocks.{HeldBlocks}
use Rattle.zst_redact.specs.Damage.{IsDamagedAmong}
use Rattle.zst_pool.specs.Lookups.{set_named}
use Rattle.zst_pool.specs.Redactions.{rows_of, sets_of}
use Rattle.zst_pool.specs.declared.fault.PoolFault.{PoolFault}
use Rattle.zst_pool.specs.declared.fault.PoolFault.TheVariants.{Damaged}

-- what a change of the slots of a set may tell: of a node of its tree or of a leaf of dnodes, in an image that is as the disk was but for its free sectors
abbrev pub slots_damage : DiskState → FreeSectors → ObjSet → DamageFact
slots_damage disk space set = IsDamagedSet (SparesTaken space disk.seen) disk.size set

-- what a change of a range of blocks may tell: of a node of the object's tree too, which has to sum up what stands below it
abbrev pub range_damage : DiskState → FreeSectors → ObjSet → DamageFact
range_damage disk space set = IsDamagedObject (SparesTaken space disk.seen) disk.size (SumsUp (SparesTaken space disk.seen)) set

-- what a write of a block may tell: as it looks up the object, or as it changes the object's tree
abbrev pub block_damage : DiskState → FreeSectors → ObjSet → DamageFact
block_damage disk space set sector stated found =
    IsDamagedSet (IsSeen disk.seen) disk.size set sector stated found
    ⊎ IsDamagedObject (SparesTaken space disk.seen) disk.size NamesNode set sector stated found

-- the directory has a row of this dataset, with this object set
pub record HasHead (rows : Rows) (name : List ℕ) (set : ObjSet) : Type 0 where
  pub row : Dataset
  pub among : Contains rows.datasets row
  pub named : row.name ≡ name
  pub head : row.head ≡ set

-- a damage of the object set of a dataset that has a row
abbrev pub OfHead : Rows → List ℕ → (ObjSet → DamageFact) → DamageFact
OfHead rows name Is sector stated found = (set : ObjSet) × HasHead rows name set × Is set sector stated found

-- a damage of the object set of this name
abbrev pub OfSet : Rows → Name → (ObjSet → DamageFact) → DamageFact
OfSet rows name Is sector stated found = (set : ObjSet) × (set_named name rows ≡ Some set) × Is set sector stated found

-- what a list of the objects of a set may tell: of its slots alone
abbrev pub look_damage : DiskState → ObjSet → DamageFact
look_damage disk set = IsDamagedSet (IsSeen disk.seen) disk.size set

-- what a read of a block may tell: of the set's slots, of the object's tree, or of the block
abbrev pub read_damage : DiskState → ObjSet → DamageFact
read_damage disk set sector stated found = (count : ℕ) × IsDamagedBlock (IsSeen disk.seen) disk.size count set sector stated found

-- what a command tells that looks at no object set
abbrev pub NoDamage : DamageFact
NoDamage sector stated found = ⊥

-- what a redaction may tell: of a walk over the object set of one of the snapshots that it names
abbrev pub redact_damage : DiskState → List (List ℕ) → Rows → DamageFact
redact_damage disk names rows = IsDamagedAmong (IsSeen disk.seen) disk.size (sets_of (rows_of names rows))

-- what a reclaim may tell: of a walk over all that the rows reach and that sessions hold, and the texts of the directory and of the free extents
abbrev pub reclaim_damage : List HeldBlocks → DiskState → Body → Rows → DamageFact
reclaim_damage held disk body rows = IsDamagedInPool (IsSeen disk.seen) disk.size body.uber rows held

-- what a command may tell: of the object set of its dataset or of its snapshots, as the disk had it when the command began, with the sectors free that this body leaves so; a reclaim may tell of all that the body and the rows reach, and of what these sessions hold
abbrev pub TellsDamage : Command → List HeldBlocks → Body → Rows → DiskState → DamageFact
TellsDamage (commands.Fs dataset) held body rows disk = NoDamage
TellsDamage (commands.Volume dataset) held body rows disk = NoDamage
TellsDamage (commands.Object dataset k head bonus spill) held body rows disk = OfHead rows dataset (slots_damage disk (free_by body))
TellsDamage (commands.Write dataset k i bytes) held body rows disk = OfHead rows dataset (block_damage disk (free_by body))
TellsDamage (commands.Punch dataset k first count) held body rows disk = OfHead rows dataset (range_damage disk (free_by body))
TellsDamage (commands.Free dataset first count) held body rows disk = OfHead rows dataset (slots_damage disk (free_by body))
TellsDamage (commands.Snapshot name) held body rows disk = NoDamage
TellsDamage (commands.Clone origin dataset) held body rows disk = NoDamage
TellsDamage (commands.Bookmark snapshot bookmark) held body rows disk = NoDamage
TellsDamage (commands.Redact snapshot bookmark redactions) held body rows disk = redact_damage disk (snapshot ∷ redactions) rows
TellsDamage (commands.Rollback destroys snapshot) held body rows disk = NoDamage
TellsDamage (commands.Destroy name) held body rows disk = NoDamage
TellsDamage (commands.Abort dataset) held body rows disk = NoDamage
TellsDamage commands.Reclaim held body rows disk = reclaim_damage held disk body rows
TellsDamage (commands.Read name k i) held body rows disk = OfSet rows name (read_damage disk)
TellsDamage commands.List held body rows disk = NoDamage
TellsDamage (commands.ListObjects name) held body rows disk = OfSet rows name (look_damage disk)

-- E25 comes only of such a damage
abbrev pub IsOf : DamageFact → PoolFault → Type 0
IsOf Is fault = (sector : ℕ) (stated found : List ℕ) → fault ≡ Damaged sector stated found → Is sector stated found
