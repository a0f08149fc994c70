-- The table of a body: 512 bytes.
use Rattle.std.specs.Prelude.{◌≡◌, ℕ, ◌*◌, ◌^◌, ◌<◌, ◌≤◌, List, [], ◌∷◌, ◌++◌, IsTrue}
use Rattle.zst_bytes.specs.Bytes.{number_at}
use Rattle.zst_bytes.specs.Fields.{Field, number, text, laid}
use Rattle.zst_fletcher.specs.WeightSum.{weight_sum}
use Rattle.zst_block.specs.Ptr.{sum_fields, ptr_bytes, ptr_at, PtrFits, is_lawful}
use Rattle.zst_uber.specs.declared.TheConstants.{MAGIC, VERSION}
use Rattle.zst_uber.specs.declared.uber.Uber.{Uber}

-- the fields of a body, one a line: place, width, value
abbrev pub number_fields : Uber → List Field
number_fields uber =
    number 0 8 MAGIC
    ∷ number 8 4 uber.version
    ∷ number 12 4 uber.id
    ∷ number 16 8 uber.number
    ∷ number 24 8 uber.guids
    ∷ number 32 8 uber.sectors
    ∷ number 40 8 uber.end
    ∷ []

-- those of the two trees
abbrev pub tree_fields : Uber → List Field
tree_fields uber =
    number 48 8 uber.dir_levels
    ∷ number 56 8 uber.dir_bytes
    ∷ text 64 64 (ptr_bytes uber.dir_root)
    ∷ number 128 8 uber.free_count
    ∷ number 136 8 uber.free_levels
    ∷ text 144 64 (ptr_bytes uber.free_root)
    ∷ []

-- all fields before the sum
abbrev pub body_fields : Uber → List Field
body_fields uber = number_fields uber ++ tree_fields uber

-- the 480 bytes before the sum; one that no field names is 0
unfoldable pub front_bytes : Uber → List ℕ
front_bytes uber = laid 480 (body_fields uber)

-- the 512 bytes of a body, with the sum of what stands before it
unfoldable pub body_bytes : Uber → List ℕ
body_bytes uber = laid 512 (text 0 480 (front_bytes uber) ∷ sum_fields 480 (weight_sum (front_bytes uber)))

-- what the fields of a body say
abbrev pub uber_at : List ℕ → Uber
uber_at body = record {
  version = number_at body 8 4;
  id = number_at body 12 4;
  number = number_at body 16 8;
  guids = number_at body 24 8;
  sectors = number_at body 32 8;
  end = number_at body 40 8;
  dir_levels = number_at body 48 8;
  dir_bytes = number_at body 56 8;
  dir_root = ptr_at body 64;
  free_count = number_at body 128 8;
  free_levels = number_at body 136 8;
  free_root = ptr_at body 144;
}

-- each value of the two trees has room in its field
pub record TreesFit (uber : Uber) : Type 0 where
  pub dir_levels : uber.dir_levels < 2 ^ 64
  pub dir_bytes : uber.dir_bytes < 2 ^ 64
  pub dir_root : PtrFits uber.dir_root
  pub free_count : uber.free_count < 2 ^ 64
  pub free_levels : uber.free_levels < 2 ^ 64
  pub free_root : PtrFits uber.free_root

-- each value has room in its field
pub record UberFits (uber : Uber) : Type 0 where
  pub version : uber.version < 2 ^ 32
  pub id : uber.id < 2 ^ 32
  pub number : uber.number < 2 ^ 64
  pub guids : uber.guids < 2 ^ 64
  pub sectors : uber.sectors < 2 ^ 64
  pub end : uber.end < 2 ^ 64
  pub trees : TreesFit uber

-- each value is in its range, on a disk of so many bytes
pub record InRange (size : ℕ) (uber : Uber) : Type 0 where
  pub version : uber.version ≡ VERSION
  pub id : (1 ≤ uber.id) × (uber.id < 2 ^ 31)
  pub end : (8 ≤ uber.end) × (uber.end ≤ uber.sectors)
  pub sectors : 512 * uber.sectors ≤ size
  pub levels : (uber.dir_levels ≤ 7) × (uber.free_levels ≤ 7)
  pub dir_root : IsTrue (is_lawful uber.dir_root)
  pub free_root : IsTrue (is_lawful uber.free_root)

-- these bytes are the body of this uber, on a disk of so many bytes
pub record IsBody (size : ℕ) (uber : Uber) (body : List ℕ) : Type 0 where
  pub spelled : body ≡ body_bytes uber
  pub fits : UberFits uber
  pub in_range : InRange size uber
