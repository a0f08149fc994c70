-- WRITE records of neighbouring whole blocks of one object.
use Rattle.std.specs.Prelude.{◌≡◌, ℕ, ◌+◌, ◌*◌, ◌^◌, ◌<◌, true, false, List, [], ◌∷◌, length, take, drop}
use Rattle.zst_model.specs.states.State.{is_block_size, is_odd_size}
use Rattle.zst_objset.specs.BlockRuns.{IsBlockRun}
use Rattle.zst_record.specs.Heads.{Covered}
use Rattle.zst_record.specs.declared.head.Head.TheVariants as heads

-- so many neighbouring blocks, with so many bytes in all, that may be written at once: of a number that an object may have, from this index on, of a size that is a power of two
pub record MayRun (object first size count long : ℕ) : Type 0 where
  pub some : 0 < object
  pub number : object < 2 ^ 48
  pub size_is : is_block_size size ≡ true
  pub even : is_odd_size size ≡ false
  pub run : IsBlockRun first size count long

-- a record is the WRITE of these bytes, a whole block of so many, at an index of an object
pub record IsBlockWrite (object size i : ℕ) (bytes : List ℕ) (c : Covered) : Type 0 where
  pub kind : ℕ
  pub to : ℕ
  pub head_is : c.head ≡ heads.Write object kind (i * size) size to
  pub payload_is : c.payload ≡ bytes
  pub long : length bytes ≡ size

-- records are the WRITEs of neighbouring blocks, from an index on, whose bytes stand one behind the other
unfoldable pub AreBlockWrites : (object size i : ℕ) → List ℕ → List Covered → Type 0
AreBlockWrites object size i bytes [] = bytes ≡ []
AreBlockWrites object size i bytes (c ∷ rest) = IsBlockWrite object size i (take size bytes) c × AreBlockWrites object size (i + 1) (drop size bytes) rest
