-- Which block a call tells as damaged that looks at several sets.
use Rattle.std.specs.Prelude.{◌⊎◌, ℕ, List, [], ◌∷◌}
use Rattle.zst_tree.specs.declared.tree.ObjSet.{ObjSet}
use Rattle.zst_objset.specs.Damage.{DamageFact}
use Rattle.zst_traverse.specs.Damage.{IsDamagedCell}

-- it is one of a walk over one of these sets
abbrev pub IsDamagedAmong : (List ℕ → Type 0) → ℕ → List ObjSet → DamageFact
IsDamagedAmong images size [] sector stated found = ⊥
IsDamagedAmong images size (set ∷ rest) sector stated found = IsDamagedCell images size set sector stated found ⊎ IsDamagedAmong images size rest sector stated found
