-- What is taken is free no longer, and nothing else becomes free.
use Rattle.std.proofs.Common.{◌≡◌, inl, inr, ⊎_elim, ℕ, zero, suc, ◌+◌, ◌-◌, ◌≤◌, ◌==◌, Bool, true, false, cond, nat_le, List, [], ◌∷◌, ◌++◌, length, refl, arith}
use Rattle.std.proofs.lemmas.Bool.{leb-true}
use Rattle.zst_space.specs.FreeSectors.{FreeSectors, IsFree, IsInSome}
use Rattle.zst_space.specs.TakenExtents.{shortened, extents_without, end_without, without, without_blocks}
use Rattle.zst_space.specs.declared.space.Extent.{Extent}

-- of an extent that has so many sectors its first ones are taken
shortened_fewer : (b : Bool) (e : Extent) (es : List Extent) (count sector : ℕ) → count ≤ e.count
    → IsInSome (cond b [] (record { first = e.first + count; count = e.count - count } ∷ []) ++ es) sector → IsInSome (e ∷ es) sector
shortened_fewer true e es count sector fits some = inr some
shortened_fewer false e es count sector fits some = ⊎_elim (λ here. inl (omega (arith, here.0), omega (arith, here.0, here.1, fits))) (λ later. inr later) some

extents_fewer : (extents : List Extent) (count sector : ℕ) → IsInSome (extents_without extents count) sector → IsInSome extents sector
extents_fewer [] count sector some = some
extents_fewer (e ∷ es) count sector some = go (λ later. extents_fewer es count sector later) (nat_le count e.count) refl some
  where
    go : (IsInSome (extents_without es count) sector → IsInSome es sector) → (b : Bool) → nat_le count e.count ≡ b → IsInSome (cond b (shortened e count ++ es) (e ∷ extents_without es count)) sector → IsInSome (e ∷ es) sector
    go rest true fits some = shortened_fewer (count == e.count) e es count sector (leb-true count e.count fits) some
    go rest false fits some = ⊎_elim (λ here. inl here) (λ later. inr (rest later)) some

pub end_later : (extents : List Extent) (end count : ℕ) → end ≤ end_without extents end count
end_later [] end count = omega arith
end_later (e ∷ es) end count = go (end_later es end count) (nat_le count e.count)
  where
    go : end ≤ end_without es end count → (b : Bool) → end ≤ cond b end (end_without es end count)
    go rest true = omega arith
    go rest false = rest

pub blocks_later : (blocks : ℕ) (space : FreeSectors) → space.end ≤ (without_blocks blocks space).end
unfolding without_blocks
blocks_later zero space = omega arith
blocks_later (suc blocks) space = let left = without_blocks blocks space in omega (arith, blocks_later blocks space, end_later left.free left.end 16)

pub without_fewer : (space : FreeSectors) (count sector : ℕ) → IsFree (without space count) sector → IsFree space sector
without_fewer space count sector free = ⊎_elim (λ some. inl (extents_fewer space.free count sector some)) (λ past. inr (omega (arith, past, end_later space.free space.end count))) free

pub blocks_fewer : (first more : ℕ) (space : FreeSectors) (sector : ℕ) → IsFree (without_blocks (first + more) space) sector → IsFree (without_blocks first space) sector
unfolding without_blocks
blocks_fewer first zero space sector free = let same : first + 0 ≡ first = omega arith in rw same at free
blocks_fewer first (suc more) space sector free =
    let next : first + suc more ≡ suc (first + more) = omega arith in
    blocks_fewer first more space sector (without_fewer (without_blocks (first + more) space) 16 sector (rw next at free))

-- no extent is added
shorter : (extents : List Extent) (count : ℕ) → length (extents_without extents count) ≤ length extents
shorter [] count = omega arith
shorter (e ∷ es) count = go (shorter es count) (nat_le count e.count) (count == e.count)
  where
    go : length (extents_without es count) ≤ length es → (b whole : Bool) → length (cond b (cond whole [] (record { first = e.first + count; count = e.count - count } ∷ []) ++ es) (e ∷ extents_without es count)) ≤ suc (length es)
    go rest true true = omega arith
    go rest true false = omega arith
    go rest false whole = omega (arith, rest)

pub blocks_shorter : (blocks : ℕ) (space : FreeSectors) → length ((without_blocks blocks space).free) ≤ length space.free
unfolding without_blocks
blocks_shorter zero space = omega arith
blocks_shorter (suc blocks) space = omega (arith, shorter (without_blocks blocks space).free 16, blocks_shorter blocks space)

-- so many blocks and more
pub blocks_fewer_of : (first all : ℕ) (space : FreeSectors) (sector : ℕ) → first ≤ all → IsFree (without_blocks all space) sector → IsFree (without_blocks first space) sector
blocks_fewer_of first all space sector le free =
    let same : first + (all - first) ≡ all = omega (arith, le) in
    blocks_fewer first (all - first) space sector (rw same free)
