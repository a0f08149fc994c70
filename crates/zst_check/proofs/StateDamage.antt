-- What is told as damaged of a state is told of the states of its directory.
use Rattle.std.proofs.Common.{inl, inr, ⊎_elim, ℕ, List, Contains}
use Rattle.std.specs.Prelude.{Result, Ok, Err}
use Rattle.zst_block.specs.declared.fault.BlockFault.{BlockFault}
use Rattle.zst_block.specs.declared.fault.BlockFault.TheVariants.{Full, Damaged, DiskFault}
use Rattle.zst_compare.specs.Damage.{IsDamagedIn, OfEither}
use Rattle.zst_dir.specs.Rows.{Rows}
use Rattle.zst_dir.specs.declared.rows.Snapshot.{Snapshot}
use Rattle.zst_dnode.specs.declared.dnode.Dnode.{Dnode}
use Rattle.zst_objset.specs.Damage.{IfDamage, IfDamaged, StandsIn}
use Rattle.zst_traverse.specs.Damage.{IsDamagedCell}
use Rattle.zst_tree.specs.Damage.{NamesDamage, SumsUp}
use Rattle.zst_tree.specs.declared.tree.ObjSet.{ObjSet}
use Rattle.zst_check.specs.Damage.{IsDamagedInStates, IsDamagedState}
use Rattle.zst_check.specs.Findings.{IsStateOf, set_of}
use Rattle.zst_check.specs.declared.states.State.{State}
use Rattle.zst_check.specs.declared.states.State.TheVariants as states

module _ (images : List ℕ → Type 0) (size : ℕ) (dir : Rows) where
  damaged_state : (state : State) (sector : ℕ) (stated found : List ℕ) → IsStateOf dir state → IsDamagedState images size (set_of state) sector stated found → IsDamagedInStates images size dir sector stated found
  damaged_state (states.Snapshot row) sector stated found own told = inr (inl (record { row = row.now; listed = own; told = told }))
  damaged_state (states.Head row) sector stated found own told = inl (record { row = row.now; listed = own; told = told })
  damaged_state (states.Partial row) sector stated found own told = inr (inr (record { row = row.now; listed = own; told = told }))

  -- a fault of a walk by the dates of a state's set tells damage of the states
  pub walk_told : (state : State) (fault : BlockFault) → IsStateOf dir state → IfDamage fault (IsDamagedCell images size (set_of state)) → IfDamage fault (IsDamagedInStates images size dir)
  walk_told state (Damaged sector stated found) own told = damaged_state state sector stated found own (inr told)
  walk_told state (Full need largest) own told = tt
  walk_told state DiskFault own told = tt

  -- and so does one of a comparison with a snapshot, of the state or of that
  pub compared_told : (state : State) (earlier : Snapshot) (fault : BlockFault) → IsStateOf dir state → Contains dir.snapshots earlier
      → IfDamage fault (OfEither (IsDamagedIn images size (set_of state)) (IsDamagedIn images size earlier.objects)) → IfDamage fault (IsDamagedInStates images size dir)
  compared_told state earlier (Damaged sector stated found) own listed told =
      ⊎_elim (λ later. damaged_state state sector stated found own (inl later)) (λ before. inr (inl (record { row = earlier; listed = listed; told = inl before }))) told
  compared_told state earlier (Full need largest) own listed told = tt
  compared_told state earlier DiskFault own listed told = tt

-- a fault of a walk in the tree of an object that may stand in a set tells damage of a walk over the set
pub tree_damaged : {T : Type 0} (images : List ℕ → Type 0) (size : ℕ) (set : ObjSet) (dnode : Dnode) → StandsIn images set dnode → (result : Result T BlockFault)
    → NamesDamage images size (SumsUp images) dnode.levels dnode.root result → IfDamaged result (IsDamagedCell images size set)
tree_damaged images size set dnode stands (Ok value) told = tt
tree_damaged images size set dnode stands (Err (Damaged sector stated found)) told = inl (inr (record { dnode = dnode; stands = stands; damaged = told }))
tree_damaged images size set dnode stands (Err (Full need largest)) told = tt
tree_damaged images size set dnode stands (Err DiskFault) told = tt
