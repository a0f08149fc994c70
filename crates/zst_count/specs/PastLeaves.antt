-- Which leaves of a tree are read: an object has indices below 2^43, and a leaf past that bound is no block of the object.
use Rattle.std.specs.Prelude.{ℕ, ◌&&◌, nat_lt, Bool, Option, None, if◌then◌else◌}

-- whether the leaves below a child stand past the bound: only a tree of 7 levels has such leaves, and below its root each child has 2^42, so that those of the first two are the indices below 2^43
abbrev pub is_past : (level : ℕ) → (k : ℕ) → Bool
is_past level k = nat_lt 1 k && nat_lt 6 level

-- which length is told for the leaves below a child: that of the leaves below the node, but none past the bound, where they aren't read
abbrev pub told_below : Option ℕ → (level : ℕ) → (k : ℕ) → Option ℕ
told_below told level k = if is_past level k then None else told
