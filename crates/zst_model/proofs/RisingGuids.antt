-- Guids that rise, and one more.
use Rattle.std.proofs.Common.{◌≡◌, ℕ, suc, ◌-◌, ◌<◌, true, nat_lt, List, [], ◌∷◌, ◌++◌, length, get_or, ap, ◌∙◌, arith}
use Rattle.std.proofs.lemmas.Bool.{and_parts}
use Rattle.std.proofs.lemmas.Bool.Decides.{nat_tests}
use Rattle.zst_model.specs.fields.Guids.{is_rising}

-- behind guids that rise another one rises where it is above the last
pub is_rising-push : (guids : List ℕ) (guid last : ℕ) → is_rising guids ≡ true → 0 < length guids → last ≡ get_or guids (length guids - 1) last → is_rising (guids ++ guid ∷ []) ≡ nat_lt last guid
is_rising-push [] guid last rise some is = absurd (omega arith)
is_rising-push (x ∷ []) guid last rise some is = let same : last ≡ x = is in rw same (grind (arith, nat_tests))
is_rising-push (x ∷ y ∷ rest) guid last rise some is =
    let both = and_parts (nat_lt x y) (is_rising (y ∷ rest)) rise in
    let place : length (x ∷ y ∷ rest) - 1 ≡ suc (length (y ∷ rest) - 1) = omega arith in
    let same : last ≡ get_or (y ∷ rest) (length (y ∷ rest) - 1) last = is ∙ ap (λ (k : ℕ). get_or (x ∷ y ∷ rest) k last) place in
    rw both.0 (is_rising-push (y ∷ rest) guid last both.1 (omega arith) same)
