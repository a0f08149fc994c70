-- How many blocks a change writes, by the range's ends.
use Rattle.std.proofs.Common.{◌≡◌, ◌≢◌, ◌⊎◌, inl, inr, ⊎_elim, ◌∙◌, ℕ, zero, suc, ◌+◌, ◌-◌, ◌*◌, ◌<◌, ◌≤◌, refl, ap, arith}
use Rattle.std.proofs.lemmas.Bool.Decides.{nat_tests}
use Rattle.zst_tree.specs.Indices.{span}
use Rattle.zst_tree.specs.Changes.{most}
use Rattle.std.proofs.Math.Nat.{mul-le-mul_right}
use Rattle.zst_tree.proofs.Span.{span-over, span-pos, span-suc, span_zero}
use Rattle.zst_tree.proofs.Sides.{sides}

pub most-whole : (level first below : ℕ) → first ≡ 0 → below ≡ span level → most level first below ≡ 0
unfolding most
most-whole level first below f e = grind (arith, nat_tests)

pub most_two : (level first below : ℕ) → most level first below ≤ 2 * level - 1
unfolding most
most_two level first below = grind (arith, nat_tests)

pub most-start : (level first below : ℕ) → first ≡ 0 → most level first below ≤ level
unfolding most
most-start level first below e = grind (arith, nat_tests)

pub most-end : (level first below : ℕ) → below ≡ span level → most level first below ≤ level
unfolding most
most-end level first below e = grind (arith, nat_tests)

pub most-single : (level first below : ℕ) → below ≡ first + 1 → most level first below ≤ level
unfolding most
most-single level first below e = grind (arith, nat_tests)

-- a range that is no whole subtree, by its kind
pub most-inside : (level first below : ℕ) → first ≢ 0 → below ≢ span level → below ≢ first + 1 → most level first below ≡ 2 * level - 1
unfolding most
most-inside level first below f b o = grind (arith, nat_tests)

pub most-part : (level first below : ℕ) → (first ≡ 0 → below < span level) → level ≤ most level first below
unfolding most
most-part level first below p = grind (arith, nat_tests)

same_or_not : (m n : ℕ) → (m ≡ n) ⊎ (m ≢ n)
same_or_not m n = ⊎_elim (λ a. inr (omega arith)) (λ b. ⊎_elim (λ e. inl e) (λ g. inr (omega arith)) b) (sides m n)

by_kind : {P : Type 0} (level first below : ℕ) → (first ≡ 0 → P) → (below ≡ span level → P) → (below ≡ first + 1 → P) → (first ≢ 0 → below ≢ span level → below ≢ first + 1 → P) → P
by_kind level first below a b c d = ⊎_elim a (λ na. ⊎_elim b (λ nb. ⊎_elim c (λ nc. d na nb nc) (same_or_not below (first + 1))) (same_or_not below (span level))) (same_or_not first 0)

-- the last offset below the last child
last_rest : (level child rest : ℕ) → 0 < level → child < 128 → rest ≤ span (level - 1) → child * span (level - 1) + rest ≡ span level → rest ≡ span (level - 1)
last_rest level child rest h lt le e = let m : child * span (level - 1) ≤ 127 * span (level - 1) = mul-le-mul_right (span (level - 1)) (omega arith) in omega (arith, span-over level h)

pub most-one : (level first below child f b : ℕ) → 0 < level → (first ≡ 0 → below < span level) → child < 128 → f < b → b ≤ span (level - 1) →
    child * span (level - 1) + f ≡ first → child * span (level - 1) + b ≡ below → 1 + most (level - 1) f b ≤ most level first below
most-one level first below child f b h part lt order le ef eb =
    let up : level ≤ most level first below = most-part level first below part in
    by_kind level first below
    (λ e. let z : f ≡ 0 = omega arith in let m : most (level - 1) f b ≤ level - 1 = most-start (level - 1) f b z in omega arith)
    (λ e. let z : b ≡ span (level - 1) = last_rest level child b h lt le (eb ∙ e) in let m : most (level - 1) f b ≤ level - 1 = most-end (level - 1) f b z in omega arith)
    (λ e. let z : b ≡ f + 1 = omega arith in let m : most (level - 1) f b ≤ level - 1 = most-single (level - 1) f b z in omega arith)
    (λ x y z. let m : most (level - 1) f b ≤ 2 * (level - 1) - 1 = most_two (level - 1) f b in let n : most level first below ≡ 2 * level - 1 = most-inside level first below x y z in omega arith)

pub most-both : (level first below low high f b : ℕ) → 0 < level → (first ≡ 0 → below < span level) → low < high → high < 128 → f < span (level - 1) → 0 < b → b ≤ span (level - 1) →
    low * span (level - 1) + f ≡ first → high * span (level - 1) + b ≡ below → 1 + (most (level - 1) f (span (level - 1)) + most (level - 1) 0 b) ≤ most level first below
most-both level first below low high f b h part order lt under some le ef eb =
    let up : level ≤ most level first below = most-part level first below part in
    let left : most (level - 1) f (span (level - 1)) ≤ level - 1 = most-end (level - 1) f (span (level - 1)) refl in
    let right : most (level - 1) 0 b ≤ level - 1 = most-start (level - 1) 0 b refl in
    let apart : (low + 1) * span (level - 1) ≤ high * span (level - 1) = mul-le-mul_right (span (level - 1)) (omega arith) in
    by_kind level first below
    (λ e. let z : f ≡ 0 = omega arith in let m : most (level - 1) f (span (level - 1)) ≡ 0 = most-whole (level - 1) f (span (level - 1)) z refl in omega arith)
    (λ e. let z : b ≡ span (level - 1) = last_rest level high b h lt le (eb ∙ e) in let m : most (level - 1) 0 b ≡ 0 = most-whole (level - 1) 0 b refl z in omega arith)
    (λ e. absurd (omega arith))
    (λ x y z. let n : most level first below ≡ 2 * level - 1 = most-inside level first below x y z in omega arith)

pub digits_same : (part a b c d : ℕ) → b < part → d < part → a * part + b ≡ c * part + d → (a ≡ c) × (b ≡ d)
digits_same part a b c d lb ld e = ⊎_elim
    (λ h. let m : (a + 1) * part ≤ c * part = mul-le-mul_right part (omega arith) in absurd (omega arith))
    (λ r. ⊎_elim (λ same. (same, let m : a * part ≡ c * part = ap (λ n. n * part) same in omega arith))
    (λ h. let m : (c + 1) * part ≤ a * part = mul-le-mul_right part (omega arith) in absurd (omega arith)) r) (sides a c)

pub digits_order : (part a b c d : ℕ) → d < part → a * part + b ≤ c * part + d → a ≤ c
digits_order part a b c d ld le = ⊎_elim (λ h. omega arith) (λ r. ⊎_elim (λ same. omega arith)
    (λ h. let m : (c + 1) * part ≤ a * part = mul-le-mul_right part (omega arith) in absurd (omega arith)) r) (sides a c)

pub part_level : (level first below : ℕ) → first < below → below ≤ span level → (first ≡ 0 → below < span level) → 0 < level
part_level zero first below some le part = let z : first ≡ 0 = omega (arith, span_zero) in absurd (omega (arith, span_zero, part z))
part_level (suc level) first below some le part = omega arith

pub one_level : (level : ℕ) → span level ≡ 1 → level ≡ 0
one_level zero e = refl
one_level (suc level) e = absurd (omega (arith, span-suc level, span-pos level))
