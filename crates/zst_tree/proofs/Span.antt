-- How many indices stand below a pointer.
use Rattle.std.proofs.Common.{◌≡◌, ℕ, zero, suc, ◌+◌, ◌-◌, ◌*◌, ◌/◌, ◌<◌, ◌≤◌, refl, subst, sym, add-zero, arith}
use Rattle.zst_tree.specs.Indices.{span}

pub span-suc : (level : ℕ) → span (suc level) ≡ 128 * span level
unfolding span
span-suc level = refl

pub span_zero : span 0 ≡ 1
unfolding span
span_zero = refl

pub span-pos : (level : ℕ) → 0 < span level
unfolding span
span-pos zero = omega arith
span-pos (suc level) = omega (arith, span-pos level)

pub span-over : (level : ℕ) → 0 < level → span level ≡ 128 * span (level - 1)
span-over level h = let e : level ≡ suc (level - 1) = omega arith in
    let P : ℕ → Type 0 = λ n. span n ≡ 128 * span (level - 1) in subst P (sym e) (span-suc (level - 1))

pub digit-below : (level offset : ℕ) → 0 < level → offset < span level → offset / span (level - 1) < 128
digit-below level offset h lt = grind (arith, span-over level h, span-pos (level - 1))

pub span_seven : span 7 ≡ 562949953421312
unfolding span
span_seven = refl

span-grows : (low high : ℕ) → span low ≤ span (low + high)
span-grows low zero = rw add-zero (omega arith)
span-grows low (suc high) = let e : low + suc high ≡ suc (low + high) = omega arith in rw e (omega (arith, span-suc (low + high), span-grows low high))

pub span_limit : (level : ℕ) → level ≤ 7 → span level ≤ 562949953421312
span_limit level h = let e : level + (7 - level) ≡ 7 = omega arith in
    let P : ℕ → Type 0 = λ n. span level ≤ span n in
    let le : span level ≤ span 7 = subst P e (span-grows level (7 - level)) in omega (arith, span_seven)
