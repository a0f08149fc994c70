-- From a dataset name's end to a name's.
use Rattle.std.proofs.Common.{◌≡◌, ℕ, suc, ◌+◌, Bool, false, ◌==◌, ◌↔◌, Option, Some, None, List, ◌∷◌, refl, arith}
use Rattle.std.specs.List.{before_first, after_first, position_or_len}
use Rattle.zst_names.specs.Names.{dataset_of}
use Rattle.zst_names.specs.Rest.{is_mark, IsDatasetRest, IsRest}
use Rattle.zst_names.specs.declared.scan.Position.TheVariants.{InDataset}

pub before_first-skip : (p : ℕ → Bool) (x : ℕ) (xs : List ℕ) → p x ≡ false → before_first p (x ∷ xs) ≡ x ∷ before_first p xs
before_first-skip p x xs h =
    let e : 1 + position_or_len p xs ≡ suc (position_or_len p xs) = omega arith in
    rw (h, e) refl

pub after_first-skip : (p : ℕ → Bool) (x : ℕ) (xs : List ℕ) → p x ≡ false → after_first p (x ∷ xs) ≡ after_first p xs
after_first-skip p x xs h =
    let e : 1 + position_or_len p xs + 1 ≡ suc (position_or_len p xs + 1) = omega arith in
    rw (h, e) refl

-- what holds of a byte in a dataset name holds before the mark
pub skip : (mark : Option ℕ) (byte : ℕ) → is_mark mark byte ≡ false → (components used components' used' place : ℕ)
    → ((rest : List ℕ) → IsDatasetRest components used place (byte ∷ rest) ↔ IsDatasetRest components' used' (place + 1) rest)
    → (rest : List ℕ) → IsRest mark (InDataset components used) place (byte ∷ rest) ↔ IsRest mark (InDataset components' used') (place + 1) rest
skip None byte h components used components' used' place e rest = e rest
skip (Some mark) byte h components used components' used' place e rest =
    rw (before_first-skip (λ b. b == mark) byte rest h, after_first-skip (λ b. b == mark) byte rest h)
    (λ a. ((e (dataset_of mark rest)).0 a.0, a.1), λ a. ((e (dataset_of mark rest)).1 a.0, a.1))

pub skip_stops : (mark : Option ℕ) (byte : ℕ) → is_mark mark byte ≡ false → (components used place : ℕ)
    → ((rest : List ℕ) → IsDatasetRest components used place (byte ∷ rest) → ⊥)
    → (rest : List ℕ) → IsRest mark (InDataset components used) place (byte ∷ rest) → ⊥
skip_stops None byte h components used place e rest = e rest
skip_stops (Some mark) byte h components used place e rest =
    rw (before_first-skip (λ b. b == mark) byte rest h) (λ a. e (dataset_of mark rest) a.0)
