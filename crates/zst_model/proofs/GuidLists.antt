-- Lists of guids: whether one has any, and which are sets.
use Rattle.std.proofs.Common.{◌≡◌, ℕ, ◌≤◌, true, false, ◌&&◌, nat_le, List, [], ◌∷◌, length, refl, sym, ◌∙◌, arith}
use Rattle.std.proofs.lemmas.Bool.{and_from, and_parts, le-leb, leb-true, lt-ltb, true≢false}
use Rattle.zst_model.specs.fields.Guids.{is_rising}
use Rattle.zst_model.specs.sends.SendPlan.{has_guids}

-- a list without guids is empty
pub no_guids : (guids : List ℕ) → has_guids guids ≡ false → guids ≡ []
no_guids [] h = refl
no_guids (guid ∷ guids) h = absurd (true≢false (sym (lt-ltb 0 (length (guid ∷ guids)) (omega arith)) ∙ h))

-- a set, by its test
pub record IsSet (guids : List ℕ) : Type 0 where
  pub few : length guids ≤ 16
  pub rising : is_rising guids ≡ true

pub set_from_test : (guids : List ℕ) → (nat_le (length guids) 16 && is_rising guids) ≡ true → IsSet guids
set_from_test guids passed =
    let parts = and_parts (nat_le (length guids) 16) (is_rising guids) passed in
    record { few = leb-true (length guids) 16 parts.0; rising = parts.1 }

pub test_from_set : (guids : List ℕ) → IsSet guids → (nat_le (length guids) 16 && is_rising guids) ≡ true
test_from_set guids set = and_from (nat_le (length guids) 16) (is_rising guids) (le-leb (length guids) 16 set.few) set.rising
