-- What the read of a bookmark's list answers, as an opening tells it.
use Rattle.std.specs.Prelude.{Option, Some, Err}
use Rattle.std.proofs.Common.{◌≡◌, ℕ, List, refl, sym, ◌∙◌, subst}
use Rattle.zst_space.specs.FreeSectors.{FreeSectors}
use Rattle.zst_block.specs.IoCalls.{Looks}
use Rattle.zst_block.specs.IoStates.{IoState}
use Rattle.zst_block.specs.declared.fault.BlockFault.{BlockFault}
use Rattle.zst_block.specs.declared.fault.BlockFault.TheVariants.{Full, Damaged, DiskFault}
use Rattle.zst_dir.specs.Rows.{Rows}
use Rattle.zst_dir.specs.declared.rows.Bookmark.{Bookmark}
use Rattle.zst_list.specs.StoredLists.{TellsList}
use Rattle.zst_model.specs.fields.Lists.{Runs}
use Rattle.zst_pool.specs.Damage.{IsOf}
use Rattle.zst_pool.specs.Faults.{of_block, or_memory}
use Rattle.zst_pool.specs.Lists.{IsOutside, IsUnread, TellsRow}
use Rattle.zst_pool.specs.Queries.{stop_of}
use Rattle.zst_pool.specs.declared.fault.PoolFault.{PoolFault}
use Rattle.zst_tree.proofs.Damage.{seen_before}
use Rattle.zst_tree.specs.Faults.{GivesOrTells, fault_of}
use Rattle.zst_tree.specs.Indices.{IsNoDamage}
use Rattle.zst_tree.specs.declared.or_memory.OrMemory.{OrMemory}
use Rattle.zst_tree.specs.declared.or_memory.OrMemory.TheVariants.{Fault, Memory}
use Rattle.zst_send.specs.Openings.{IsDamagedList, IsRowAt}

-- the fault of a call that doesn't write
abbrev pub NeverFull : OrMemory BlockFault → Type 0
NeverFull fault = (need largest : ℕ) → ¬ (fault_of {T = Runs} (Err fault) ≡ Some (Full need largest))

-- where no damage is told, the disk failed or no memory was left
pub is_outside : (runs : Runs) (fault : OrMemory BlockFault) → GivesOrTells {T = Runs} (λ list. list ≡ runs) IsNoDamage (Err fault) → NeverFull fault → IsOutside (or_memory of_block fault)
is_outside runs (Fault (Full need largest)) none never = absurd (never need largest refl)
is_outside runs (Fault (Damaged sector stated found)) none never = absurd none
is_outside runs (Fault DiskFault) none never = tt
is_outside runs Memory none never = tt

-- a list isn't read for damage, for the disk or for want of memory
pub is_unread : (fault : OrMemory BlockFault) → NeverFull fault → IsUnread (or_memory of_block fault)
is_unread (Fault (Full need largest)) never = absurd (never need largest refl)
is_unread (Fault (Damaged sector stated found)) never = tt
is_unread (Fault DiskFault) never = tt
is_unread Memory never = tt

-- and what stops the read stops the opening
pub list_stops : (fault : OrMemory BlockFault) → fault_of {T = Runs} (Err fault) ≡ stop_of {T = Runs} (Err (or_memory of_block fault))
list_stops (Fault (Full need largest)) = refl
list_stops (Fault (Damaged sector stated found)) = refl
list_stops (Fault DiskFault) = refl
list_stops Memory = refl

-- what the read tells as damaged is told of the row
row_tells : (end : ℕ) (image : List ℕ) (size : ℕ) (row : Bookmark) (fault : OrMemory BlockFault) → TellsList {T = Runs} end image size row.levels row.root row.runs (Err fault)
    → TellsRow end image size row (or_memory of_block fault)
row_tells end image size row (Fault (Damaged at was are)) told = λ sector stated found same.
    let one : Damaged at was are ≡ Damaged sector stated found = cc same in
    subst (λ (f : BlockFault). TellsList {T = Runs} end image size row.levels row.root row.runs (Err (Fault f))) one told
row_tells end image size row (Fault (Full need largest)) told = λ sector stated found same. absurd (cc same)
row_tells end image size row (Fault DiskFault) told = λ sector stated found same. absurd (cc same)
row_tells end image size row Memory told = λ sector stated found same. absurd (cc same)

-- and of the place at which that stands
pub list_tells : (end : ℕ) (image : List ℕ) (size : ℕ) (rows : Rows) (place : Option ℕ) (row : Bookmark) (fault : OrMemory BlockFault) → IsRowAt rows place row
    → TellsList {T = Runs} end image size row.levels row.root row.runs (Err fault) → IsOf (IsDamagedList end image size rows place) (or_memory of_block fault)
list_tells end image size rows place row fault at told = λ sector stated found same. record {
  row = row;
  at = at;
  tells = λ s t f is. row_tells end image size row fault told s t f (same ∙ is);
}

-- a row at a place that is known
pub row_at : (rows : Rows) (place : Option ℕ) (known : ℕ) (row : Bookmark) → place ≡ Some known → IsRowAt rows (Some known) row → IsRowAt rows place row
row_at rows place known row is at = subst (λ (p : Option ℕ). IsRowAt rows p row) (sym is) at

-- what is told of a list after a call that only read was so before it
pub told_earlier : {old mid : IoState} {stop : Option BlockFault} → Looks old mid stop → (rows : Rows) (place : Option ℕ) (fault : PoolFault) → IsOf (IsDamagedList mid.space.end mid.disk.seen mid.disk.size rows place) fault
    → IsOf (IsDamagedList old.space.end old.disk.seen old.disk.size rows place) fault
told_earlier {old} {mid} looks rows place fault told =
    let seen = seen_before looks (λ (seen : List ℕ) (size : ℕ). IsOf (IsDamagedList mid.space.end seen size rows place) fault) told in
    subst (λ (space : FreeSectors). IsOf (IsDamagedList space.end old.disk.seen old.disk.size rows place) fault) looks.space seen
