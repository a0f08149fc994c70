-- Which block applying a record tells as damaged.
use Rattle.std.specs.Prelude.{ℕ, List}
use Rattle.zst_tree.specs.Damage.{SumsUp}
use Rattle.zst_tree.specs.declared.tree.ObjSet.{ObjSet}
use Rattle.zst_objset.specs.Damage.{DamageFact, IsDamagedObject}

-- of the set's slots, or of a node of an object's tree that doesn't sum up what stands below it
abbrev pub apply_damage : (List ℕ → Type 0) → ℕ → ObjSet → DamageFact
apply_damage images size set = IsDamagedObject images size (SumsUp images) set
