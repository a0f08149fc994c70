-- Blocks of trees that are kept: their bytes by their first sectors, the most recently used first.
use Rattle.std.specs.Prelude.{◌≡◌, ◌⊎◌, ℕ, ◌+◌, ◌≤◌, List, [], Contains, nat_eq}
use Rattle.lru.specs.LruCache.{lru_cache, put_entries}

-- no block of this sector is kept
abbrev pub KeepsNone : List (ℕ × List ℕ) → ℕ → Type 0
KeepsNone kept sector = (bytes : List ℕ) → ¬ Contains kept (sector, bytes)

-- the 16 sectors of a block from this one on meet none of these in a row
abbrev pub IsApart : ℕ → ℕ → ℕ → Type 0
IsApart sector first count = (sector + 16 ≤ first) ⊎ (first + count ≤ sector)

-- no block that is kept meets these sectors in a row
abbrev pub AreApart : List (ℕ × List ℕ) → ℕ → ℕ → Type 0
AreApart kept first count = (sector : ℕ) (bytes : List ℕ) → Contains kept (sector, bytes) → IsApart sector first count

-- this block goes first, another of its sector goes out, and of 64 others the last
abbrev pub with_block : List (ℕ × List ℕ) → ℕ → List ℕ → List (ℕ × List ℕ)
with_block kept sector bytes = put_entries nat_eq (lru_cache kept 64) sector bytes

-- the block is kept; or no memory was left: nothing is done where none of its sector was kept, or all is forgotten
abbrev pub Keeps : (old new : List (ℕ × List ℕ)) → ℕ → List ℕ → Type 0
Keeps old new sector bytes = (new ≡ with_block old sector bytes) ⊎ ((new ≡ old) × KeepsNone old sector) ⊎ (new ≡ [])

-- no block that meets these sectors in a row is left: where none met them all are, and else all or none
pub record Forgets (old new : List (ℕ × List ℕ)) (first count : ℕ) : Type 0 where
  pub apart : AreApart new first count
  pub whole : AreApart old first count → new ≡ old
  pub all_or_none : (new ≡ old) ⊎ (new ≡ [])
