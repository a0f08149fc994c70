-- The marks between a dataset's name and a component.
use Rattle.std.specs.Prelude.{◌≡◌, ℕ, nat_lt, true, false, ◌==◌, refl}
use Rattle.zst_names.specs.Names.{is_component_byte}

-- a mark is a character of one byte, and no byte of a dataset's name
pub record IsMark (mark : ℕ) : Type 0 where
  pub ascii : nat_lt mark 128 ≡ true
  pub other : is_component_byte mark ≡ false
  pub slash : (47 == mark) ≡ false

pub at_is_mark : IsMark 64
unfolding is_component_byte
at_is_mark = record { ascii = refl; other = refl; slash = refl }

pub hash_is_mark : IsMark 35
unfolding is_component_byte
hash_is_mark = record { ascii = refl; other = refl; slash = refl }
