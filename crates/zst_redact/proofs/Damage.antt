-- What may be told as damaged of several sets.
use Rattle.std.proofs.Common.{inl, inr, ℕ, ⊎_elim, List, [], ◌∷◌}
use Rattle.std.specs.Prelude.{Result, Ok, Err}
use Rattle.zst_block.specs.declared.fault.BlockFault.{BlockFault}
use Rattle.zst_block.specs.declared.fault.BlockFault.TheVariants.{Full, Damaged, DiskFault}
use Rattle.zst_dnode.specs.declared.dnode.Dnode.{Dnode}
use Rattle.zst_tree.specs.Damage.{NamesDamage, NamesNode, SumsUp, TellsNode}
use Rattle.zst_tree.specs.declared.or_memory.OrMemory.{OrMemory}
use Rattle.zst_tree.specs.declared.or_memory.OrMemory.TheVariants.{Fault, Memory}
use Rattle.zst_tree.specs.declared.tree.ObjSet.{ObjSet}
use Rattle.zst_tree.proofs.Damage.{TellsNode-sums}
use Rattle.zst_objset.specs.Damage.{IfDamage, IfDamaged, IsDamagedSet, StandsIn}
use Rattle.zst_traverse.specs.Damage.{IsDamagedCell}
use Rattle.zst_redact.specs.BuiltLists.{IfTold}
use Rattle.zst_redact.specs.Damage.{IsDamagedAmong}
use Rattle.zst_redact.specs.declared.fault.RedactFault.{RedactFault}
use Rattle.zst_redact.specs.declared.fault.RedactFault.TheVariants.{Limit, Block}

module _ (images : List ℕ → Type 0) (size : ℕ) (set : ObjSet) where
  -- a block of the set's slots
  pub set_told : (fault : BlockFault) → IfDamage fault (IsDamagedSet images size set) → IfDamage fault (IsDamagedCell images size set)
  set_told (Damaged sector stated found) told = inl (inl told)
  set_told (Full need largest) told = tt
  set_told DiskFault told = tt

  -- a node of the tree of an object of the set
  pub tree_told : (dnode : Dnode) → StandsIn images set dnode → (fault : BlockFault) → TellsNode images size (SumsUp images) dnode.levels dnode.root fault → IfDamage fault (IsDamagedCell images size set)
  tree_told dnode stands (Damaged sector stated found) told = inl (inr (record { dnode = dnode; stands = stands; damaged = told }))
  tree_told dnode stands (Full need largest) told = tt
  tree_told dnode stands DiskFault told = tt

  pub tree_damaged : {T : Type 0} (dnode : Dnode) → StandsIn images set dnode → (result : Result T BlockFault) → NamesDamage images size (SumsUp images) dnode.levels dnode.root result → IfDamaged result (IsDamagedCell images size set)
  tree_damaged dnode stands (Ok value) told = tt
  tree_damaged dnode stands (Err fault) told = tree_told dnode stands fault told

  pub node_told : (dnode : Dnode) → StandsIn images set dnode → (fault : BlockFault) → TellsNode images size NamesNode dnode.levels dnode.root fault → IfDamage fault (IsDamagedCell images size set)
  node_told dnode stands fault told = tree_told dnode stands fault (TellsNode-sums images size dnode.levels dnode.root fault told)

  -- a block of the first of the sets, or of the others
  pub first_told : (rest : List ObjSet) (fault : BlockFault) → IfDamage fault (IsDamagedCell images size set) → IfDamage fault (IsDamagedAmong images size (set ∷ rest))
  first_told rest (Damaged sector stated found) told = inl told
  first_told rest (Full need largest) told = tt
  first_told rest DiskFault told = tt

  pub first_damaged : {T : Type 0} (rest : List ObjSet) (result : Result T BlockFault) → IfDamaged result (IsDamagedCell images size set) → IfDamaged result (IsDamagedAmong images size (set ∷ rest))
  first_damaged rest (Ok value) told = tt
  first_damaged rest (Err fault) told = first_told rest fault told

  pub rest_told : (rest : List ObjSet) (fault : BlockFault) → IfDamage fault (IsDamagedAmong images size rest) → IfDamage fault (IsDamagedAmong images size (set ∷ rest))
  rest_told rest (Damaged sector stated found) told = inr told
  rest_told rest (Full need largest) told = tt
  rest_told rest DiskFault told = tt

  pub rest_damaged : {T : Type 0} (rest : List ObjSet) (result : Result T BlockFault) → IfDamaged result (IsDamagedAmong images size rest) → IfDamaged result (IsDamagedAmong images size (set ∷ rest))
  rest_damaged rest (Ok value) told = tt
  rest_damaged rest (Err fault) told = rest_told rest fault told

  -- of one set alone
  one_told : (fault : BlockFault) → IfDamage fault (IsDamagedAmong images size (set ∷ [])) → IfDamage fault (IsDamagedCell images size set)
  one_told (Damaged sector stated found) told = ⊎_elim (λ here. here) (λ none. absurd none) told
  one_told (Full need largest) told = tt
  one_told DiskFault told = tt

  pub one_damaged : {T : Type 0} (result : Result T (OrMemory RedactFault)) → IfTold result (IsDamagedAmong images size (set ∷ [])) → IfTold result (IsDamagedCell images size set)
  one_damaged (Ok value) told = tt
  one_damaged (Err (Fault Limit)) told = tt
  one_damaged (Err (Fault (Block fault))) told = one_told fault told
  one_damaged (Err Memory) told = tt
