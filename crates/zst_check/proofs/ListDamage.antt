-- What is told as damaged of a list, or of the sets with which it is compared, is told of its directory.
use Rattle.std.proofs.Common.{◌≡◌, inl, inr, ⊎_elim, ℕ, List, [], ◌∷◌, All, Contains, refl, sym, subst, arith}
use Rattle.std.specs.Prelude.{Option, Result, Ok, Err}
use Rattle.std.proofs.lemmas.Bool.{cases_lt}
use Rattle.std.proofs.lemmas.List.Elements.{All-head, All-tail}
use Rattle.zst_space.specs.FreeSectors.{FreeSectors}
use Rattle.zst_block.specs.IoCalls.{Looks}
use Rattle.zst_block.specs.IoStates.{IoState}
use Rattle.zst_block.specs.declared.fault.BlockFault.{BlockFault}
use Rattle.zst_block.specs.declared.fault.BlockFault.TheVariants.{Full, Damaged, DiskFault}
use Rattle.zst_compare.specs.Damage.{OfEither}
use Rattle.zst_dir.specs.Rows.{Rows}
use Rattle.zst_dir.specs.declared.rows.Bookmark.{Bookmark}
use Rattle.zst_list.specs.StoredLists.{GivesList, HasList, TellsList}
use Rattle.zst_model.specs.fields.Lists.{Runs}
use Rattle.zst_objset.specs.Damage.{DamageFact, IfDamage, TellsWithin}
use Rattle.zst_objset.proofs.DamageLaws.{IfDamage-weaker}
use Rattle.zst_redact.specs.Damage.{IsDamagedAmong}
use Rattle.zst_traverse.specs.Damage.{IsDamagedCell}
use Rattle.zst_tree.specs.Damage.{IsSeen}
use Rattle.zst_tree.specs.Faults.{IfFault}
use Rattle.zst_tree.specs.Indices.{Blocks}
use Rattle.zst_tree.specs.declared.or_memory.OrMemory.{OrMemory}
use Rattle.zst_tree.specs.declared.or_memory.OrMemory.TheVariants.{Fault, Memory}
use Rattle.zst_tree.specs.declared.tree.ObjSet.{ObjSet}
use Rattle.zst_tree.proofs.Damage.{seen_before}
use Rattle.zst_check.specs.Damage.{IsDamagedInChecked, IsDamagedInStates, IsDamagedList}
use Rattle.zst_check.specs.Redactions.{IsSetOfRow}

-- what is so of each damage of one kind is so of the fault that a call tells, whatever else it gives
pub fault_within : (fewer more : DamageFact) → TellsWithin fewer more → (T U : Type 0) (fault : OrMemory BlockFault)
    → IfFault {T = T} (Err fault) (λ f. IfDamage f fewer) → IfFault {T = U} (Err fault) (λ f. IfDamage f more)
fault_within fewer more within T U (Fault fault) told = IfDamage-weaker fewer more within fault told
fault_within fewer more within T U Memory told = tt

-- and so it is of what a call gives or tells
pub result_within : (fewer more : DamageFact) → TellsWithin fewer more → {T : Type 0} (result : Result T (OrMemory BlockFault)) → IfFault result (λ f. IfDamage f fewer) → IfFault result (λ f. IfDamage f more)
result_within fewer more within (Ok value) told = tt
result_within fewer more within {T = T} (Err fault) told = fault_within fewer more within T T fault told

module _ (images : List ℕ → Type 0) (size : ℕ) (rows : Rows) where
  -- damage of one of some sets of rows is that of a state of the directory
  among_told : (sets : List ObjSet) → All (IsSetOfRow rows.snapshots) sets → TellsWithin (IsDamagedAmong images size sets) (IsDamagedInStates images size rows)
  among_told [] are sector stated found told = absurd told
  among_told (set ∷ sets) are sector stated found told =
      ⊎_elim (λ here. let one = All-head (IsSetOfRow rows.snapshots) set sets are in inr (inl (record {
        row = one.row;
        listed = one.listed;
        told = inr (subst (λ (s : ObjSet). IsDamagedCell images size s sector stated found) (sym one.is_set) here);
      })))
      (λ later. among_told sets (All-tail (IsSetOfRow rows.snapshots) set sets are) sector stated found later) told

-- the read of a list without runs tells no damage, and so what one tells is that of a list with some
pub list_told : (end : ℕ) (image : List ℕ) (size : ℕ) (row : Bookmark) (has : Blocks) (fault : OrMemory BlockFault)
    → ((runs : Runs) → HasList has row.levels row.root row.runs runs → GivesList runs {T = Runs} (λ list. list) (Err fault))
    → TellsList {T = Runs} end image size row.levels row.root row.runs (Err fault) → IfFault {T = Runs} (Err fault) (λ f. IfDamage f (IsDamagedList end image size row))
list_told end image size row has (Fault (Damaged sector stated found)) there told =
    ⊎_elim (λ some. (some, told)) (λ from. absurd (there [] (none (omega (arith, from))))) (cases_lt 0 row.runs)
  where
    none : row.runs ≡ 0 → HasList has row.levels row.root row.runs []
    none is = record { lawful = refl; count_is = sym is; leaves = λ some. absurd (omega (arith, some, is)) }
list_told end image size row has (Fault (Full need largest)) there told = tt
list_told end image size row has (Fault DiskFault) there told = tt
list_told end image size row has Memory there told = tt

-- damage of sets of rows, or of the list of a row, is one of what a check decides
pub checked_told : (end : ℕ) (image : List ℕ) (size : ℕ) (rows : Rows) (sets : List ObjSet) (row : Bookmark) → All (IsSetOfRow rows.snapshots) sets → Contains rows.bookmarks row
    → TellsWithin (OfEither (IsDamagedAmong (IsSeen image) size sets) (IsDamagedList end image size row)) (IsDamagedInChecked end image size rows)
checked_told end image size rows sets row are listed sector stated found told =
    ⊎_elim (λ among. inl (among_told (IsSeen image) size rows sets are sector stated found among)) (λ list. inr (record { row = row; listed = listed; told = list })) told

-- what is told after a call that only read was so before it
pub checked_before : {old mid : IoState} {stop : Option BlockFault} → Looks old mid stop → (rows : Rows) {T : Type 0} (result : Result T (OrMemory BlockFault))
    → IfFault result (λ f. IfDamage f (IsDamagedInChecked mid.space.end mid.disk.seen mid.disk.size rows)) → IfFault result (λ f. IfDamage f (IsDamagedInChecked old.space.end old.disk.seen old.disk.size rows))
checked_before {old} {mid} looks rows result told =
    subst (λ (space : FreeSectors). IfFault result (λ f. IfDamage f (IsDamagedInChecked space.end old.disk.seen old.disk.size rows))) looks.space
    (seen_before looks (λ (seen : List ℕ) (size : ℕ). IfFault result (λ f. IfDamage f (IsDamagedInChecked mid.space.end seen size rows))) told)
