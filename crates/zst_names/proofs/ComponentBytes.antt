-- The bytes of a component.
use Rattle.std.proofs.Common.{◌≡◌, ℕ, ◌<◌, true, arith}
use Rattle.std.proofs.lemmas.Bool.Decides.{nat_tests}
use Rattle.zst_names.specs.Names.{is_component_byte}

-- they are ASCII
pub low_byte : (byte : ℕ) → is_component_byte byte ≡ true → byte < 128
unfolding is_component_byte
low_byte byte passes = grind (arith, nat_tests)
