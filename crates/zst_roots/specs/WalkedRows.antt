-- Which snapshots were walked, by a flag for each.
use Rattle.std.specs.Prelude.{◌≡◌, ◌⊎◌, ℕ, ◌<◌, Bool, true, false, List, length, slice_index_or}
use Rattle.zst_dir.specs.declared.rows.Snapshot.{Snapshot}
use Rattle.zst_reach.specs.ReachedSets.{AreMarkedInSet}
use Rattle.zst_tree.specs.Sets.{no_objects}
use Rattle.zst_tree.specs.declared.tree.ObjSet.{ObjSet}

-- the snapshot stands at this place
abbrev pub IsAt : List Snapshot → ℕ → Snapshot → Type 0
IsAt rows place row = (place < length rows) × (slice_index_or rows place row ≡ row)

-- what a snapshot reaches whose flag is set is marked, before the end
abbrev pub AreMarkedIfWalked : (image : List ℕ) → (end : ℕ) → (marks : List ℕ) → List Snapshot → List Bool → Type 0
AreMarkedIfWalked image end marks rows walked = (place : ℕ) (row : Snapshot) → IsAt rows place row → slice_index_or walked place false ≡ true → AreMarkedInSet image end marks row.objects

-- a set has no objects, or is that of a snapshot which stands at some place
abbrev pub IsOfOne : List Snapshot → ObjSet → Type 0
IsOfOne rows set = (set ≡ no_objects) ⊎ ((place : ℕ) × (row : Snapshot) × IsAt rows place row × (set ≡ row.objects))

-- or of one whose flag is set
abbrev pub IsOfWalked : List Snapshot → List Bool → ObjSet → Type 0
IsOfWalked rows walked set = (set ≡ no_objects) ⊎ ((place : ℕ) × (row : Snapshot) × IsAt rows place row × (slice_index_or walked place false ≡ true) × (set ≡ row.objects))
