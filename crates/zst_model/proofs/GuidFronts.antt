-- The front of a set of guids.
use Rattle.std.proofs.Common.{◌≡◌, ℕ, zero, suc, ◌<◌, ◌^◌, true, nat_lt, List, [], ◌∷◌, take, refl, arith, length-take}
use Rattle.std.proofs.lemmas.Bool.{and_parts, and_from}
use Rattle.std.proofs.lemmas.List.Elements.{All-take}
use Rattle.zst_model.specs.fields.Guids.{is_rising, IsGuidSet}

-- guids that rise do so in front
is_rising-take : (n : ℕ) (guids : List ℕ) → is_rising guids ≡ true → is_rising (take n guids) ≡ true
is_rising-take zero guids rise = refl
is_rising-take (suc n) [] rise = refl
is_rising-take (suc zero) (x ∷ []) rise = refl
is_rising-take (suc (suc n)) (x ∷ []) rise = refl
is_rising-take (suc zero) (x ∷ y ∷ guids) rise = refl
is_rising-take (suc (suc n)) (x ∷ y ∷ guids) rise =
    let parts = and_parts (nat_lt x y) (is_rising (y ∷ guids)) rise in
    and_from (nat_lt x y) (is_rising (take (suc n) (y ∷ guids))) parts.0 (is_rising-take (suc n) (y ∷ guids) parts.1)

-- the front of a set is one
pub IsGuidSet-front : (n : ℕ) (guids : List ℕ) → IsGuidSet guids → IsGuidSet (take n guids)
IsGuidSet-front n guids set = record {
  few = omega (arith, set.few, length-take n guids);
  rising = is_rising-take n guids set.rising;
  fit = All-take (λ guid. guid < 2 ^ 64) n guids set.fit;
}
