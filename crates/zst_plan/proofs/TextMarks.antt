-- What stands behind the first mark of a text.
use Rattle.std.proofs.Common.{◌≡◌, ℕ, ◌+◌, ◌<◌, ◌≤◌, ◌==◌, Bool, true, false, cond, nat_lt, Option, Some, None, List, length, drop, refl, sym, ap, ◌∙◌, arith}
use Rattle.std.proofs.lemmas.Bool.Decides.{nat_tests}
use Rattle.std.proofs.lemmas.List.Sums.{prefix_len-le-length}
use Rattle.std.proofs.lemmas.List.{drop_all}
use Rattle.std.specs.List.{position, position_or_len}
use Rattle.std.specs.Option.{MatchOption}
use Rattle.zst_names.specs.Names.{component_of}
use Rattle.zst_plan.specs.RecvPlan.{behind_mark}

module _ (name : List ℕ) where
  abbrev at : ℕ
  at = position_or_len (λ b. b == 64) name

  at_inside : at ≤ length name
  at_inside = prefix_len-le-length _ name

  -- where a mark was found
  found_inside : (place : ℕ) → position (λ b. b == 64) name ≡ Some place → (at ≡ place) × (at < length name)
  found_inside place is = go (nat_lt at (length name)) refl is
    where
      go : (b : Bool) → nat_lt at (length name) ≡ b → cond b (Some at) None ≡ Some place → (at ≡ place) × (at < length name)
      go true e same = (cc, grind (arith, nat_tests))
      go false e same = absurd (cc)

  none_inside : position (λ b. b == 64) name ≡ None → at ≡ length name
  none_inside is = go (nat_lt at (length name)) refl is
    where
      go : (b : Bool) → nat_lt at (length name) ≡ b → cond b (Some at) None ≡ None → at ≡ length name
      go true e same = absurd (cc)
      go false e same = let le = at_inside in grind (arith, nat_tests)

  pub behind_found : (place : ℕ) → position (λ b. b == 64) name ≡ Some place → (place + 1 ≡ behind_mark name) × (place + 1 ≤ length name) × (drop (place + 1) name ≡ component_of 64 name)
  behind_found place is =
      let there = found_inside place is in
      (omega (arith, there.0, there.1), omega (arith, there.0, there.1), ap (λ n. drop (n + 1) name) (sym there.0))

  pub behind_none : position (λ b. b == 64) name ≡ None → (length name ≡ behind_mark name) × (drop (length name) name ≡ component_of 64 name)
  behind_none is =
      let there = none_inside is in
      (omega (arith, there), drop_all (length name) name (omega arith) ∙ sym (drop_all (at + 1) name (omega (arith, there))))

  -- so a place that was found or the length, whichever there is
  pub behind : (found : Option ℕ) (result : ℕ) {At : ℕ → Type 0} → ((place : ℕ) → At place → result ≡ place + 1) → found ≡ position (λ b. b == 64) name → MatchOption found (result ≡ length name) At
      → (result ≡ behind_mark name) × (result ≤ length name) × (drop result name ≡ component_of 64 name)
  behind None result at is cases = let none = behind_none (sym is) in rw cases (none.0, omega arith, none.1)
  behind (Some place) result at is cases = rw (at place cases) (behind_found place (sym is))
