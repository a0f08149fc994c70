-- The lowest bytes of a number are bytes.
use Rattle.std.proofs.Common.{ℕ, zero, suc, ◌/◌, ◌^◌, ◌<◌, arith}
use Rattle.std.specs.Int.{byte_at, bytes_low_first}
use Rattle.std.proofs.lemmas.List.Elements.{All-cons, All-nil}
use Rattle.std.proofs.lemmas.Nat.{mod_below}
use Rattle.zst_model.specs.states.State.{AreBytes}

byte_small : (i n : ℕ) → byte_at i n < 2 ^ 8
byte_small zero n = mod_below n 256 (omega arith)
byte_small (suc i) n = mod_below (n / 256 ^ suc i) 256 (omega arith)

pub lowest_are_bytes : (i width value : ℕ) → AreBytes (bytes_low_first i width value)
lowest_are_bytes i zero value = All-nil (λ byte. byte < 2 ^ 8)
lowest_are_bytes i (suc width) value =
    All-cons (λ byte. byte < 2 ^ 8) (byte_at i value) (bytes_low_first (suc i) width value) (byte_small i value) (lowest_are_bytes (suc i) width value)
