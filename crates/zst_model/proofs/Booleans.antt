-- Two tests that don't both hold.
use Rattle.std.proofs.Common.{◌≡◌, Bool, true, false, ◌&&◌, refl, sym, ◌∙◌}
use Rattle.std.proofs.lemmas.Bool.{true≢false}

-- of two tests that don't both hold, the one fails where the other holds
pub right_fails : (a b : Bool) → (a && b) ≡ false → a ≡ true → b ≡ false
right_fails true b h e = h
right_fails false b h e = absurd (true≢false (sym e))

pub left_fails : (a b : Bool) → (a && b) ≡ false → b ≡ true → a ≡ false
left_fails true b h e = absurd (true≢false (sym e ∙ h))
left_fails false b h e = refl
