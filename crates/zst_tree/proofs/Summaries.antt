-- What a pointer says of the first pointers of its node.
use Rattle.std.proofs.Common.{◌≡◌, ℕ, ◌+◌, List, max, refl, false, ◌||◌, add-one}
use Rattle.zst_block.specs.Ptr.{is_present}
use Rattle.zst_tree.specs.Indices.{child, greatest, any_present}

pub greatest_none : (bytes : List ℕ) → greatest bytes 0 ≡ 0
unfolding greatest
greatest_none bytes = refl

pub present_none : (bytes : List ℕ) → any_present bytes 0 ≡ false
unfolding any_present
present_none bytes = refl

pub greatest_more : (bytes : List ℕ) (k : ℕ) → greatest bytes (k + 1) ≡ max (child bytes k).number (greatest bytes k)
unfolding greatest
greatest_more bytes k = rw add-one refl

pub present_more : (bytes : List ℕ) (k : ℕ) → any_present bytes (k + 1) ≡ (is_present (child bytes k) || any_present bytes k)
unfolding any_present
present_more bytes k = rw add-one refl
