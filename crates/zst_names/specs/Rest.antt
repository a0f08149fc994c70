-- What is left of a name, from each position in it.
use Rattle.std.specs.Prelude.{◌≡◌, ◌≢◌, ℕ, ◌+◌, ◌<◌, ◌≤◌, Bool, true, false, not, ◌&&◌, ◌||◌, ◌==◌, ◌↔◌, nat_lt, Option, Some, None, List, [], ◌∷◌, length, slice_index}
use Rattle.std.specs.List.{list_all, AllByRecursion}
use Rattle.zst_names.specs.Names.{is_component_byte, IsComponent, parts, dataset_of, component_of}
use Rattle.zst_names.specs.declared.scan.Position.{Position}
use Rattle.zst_names.specs.declared.scan.Position.TheVariants.{InDataset, InComponent}

-- whether a byte may be the next of a component of which some bytes stand
abbrev pub fits_component : ℕ → ℕ → Bool
fits_component used byte = nat_lt used 64 && (is_component_byte byte && (nat_lt 0 used || not (byte == 45)))

-- whether a byte is the mark
abbrev pub is_mark : Option ℕ → ℕ → Bool
is_mark None byte = false
is_mark (Some mark) byte = byte == mark

-- the end of a component of which some bytes stand
pub record IsTail (used : ℕ) (text : List ℕ) : Type 0 where
  pub some : 0 < used + length text
  pub short : used + length text ≤ 64
  pub bytes : list_all is_component_byte text ≡ true
  pub first : used ≡ 0 → slice_index text 0 ≢ 45

-- the end of the component that stands, and the components after it
abbrev pub AreLastParts : ℕ → ℕ → List (List ℕ) → Type 0
AreLastParts components used [] = ⊥
AreLastParts components used (part ∷ later) = IsTail used part × AllByRecursion IsComponent later × (components + length later ≤ 8)

-- the end of a dataset name
abbrev pub IsDatasetRest : ℕ → ℕ → ℕ → List ℕ → Type 0
IsDatasetRest components used place rest = AreLastParts components used (parts rest) × (place + length rest ≤ 190)

-- the end of a name
abbrev pub IsRest : Option ℕ → Position → ℕ → List ℕ → Type 0
IsRest None (InDataset components used) place rest = IsDatasetRest components used place rest
IsRest (Some mark) (InDataset components used) place rest = IsDatasetRest components used place (dataset_of mark rest) × IsComponent (component_of mark rest)
IsRest None (InComponent used) place rest = IsTail used rest
IsRest (Some mark) (InComponent used) place rest = IsTail used rest

-- a name can go on from here
abbrev pub IsOpen : Position → ℕ → Type 0
IsOpen (InDataset components used) place = (components ≤ 8) × (used ≤ 64) × (place ≤ 190) × (used ≡ 0 → place < 190)
IsOpen (InComponent used) place = used ≤ 64

-- where the byte leads: on to a position that has the same ends, or nowhere
abbrev pub Leads : Option ℕ → Position → ℕ → ℕ → Option Position → Type 0
Leads mark position place byte None = (rest : List ℕ) → IsRest mark position place (byte ∷ rest) → ⊥
Leads mark position place byte (Some next) = IsOpen next (place + 1) × ((rest : List ℕ) → IsRest mark position place (byte ∷ rest) ↔ IsRest mark next (place + 1) rest)

-- whether nothing is left
abbrev pub Ends : Option ℕ → Position → Bool → Type 0
Ends mark position whole = (place : ℕ) → IsOpen position place → (whole ≡ true) ↔ IsRest mark position place []
