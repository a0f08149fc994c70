-- The words of each command are in their ranges.
use Rattle.std.proofs.Common.{◌≡◌, ℕ, zero, suc, ◌+◌, ◌*◌, ◌/◌, ◌%◌, ◌-◌, ◌<◌, ◌≤◌, ◌==◌, Bool, true, false, cond, nat_lt, Option, Some, None, IfSome, Result, Ok, Err, IfOk, refl, sym, subst, arith}
use Rattle.zst_bytes.proofs.BytesLaws.{length-number_bytes}
use Rattle.zst_model.specs.declared.pools.command.Command.{Command}
use Rattle.zst_model.specs.declared.pools.command.Command.TheVariants as commands
use Rattle.zst_model.specs.pools.Step.{IsCommand}
use Rattle.zst_model.specs.states.State.{IsHead, is_block_size, largest_block}
use Rattle.zst_gen.specs.Generated.{nth_block, nth_command, nth_of_object, snapshot_name}
use Rattle.zst_gen.proofs.BlockWords.{number_are_bytes, words-long, words_are_bytes}
use Rattle.zst_gen.proofs.NamesFit.{fs_fits, snapshot_fits}

head_fits : IsHead (record { type_ = 19; bonus_type = 0; block_size = 131072 })
unfolding is_block_size largest_block
head_fits = record { some_type = omega arith; type_fits = omega arith; bonus_type_fits = omega arith; size = refl }

of_object_fits : (n k r : ℕ) → 1 ≤ n → n ≤ 64 → 0 < k → IsCommand (nth_of_object n k r)
of_object_fits n k zero low high some = (fs_fits n low high, some, head_fits, (omega (arith, length-number_bytes 8 k), number_are_bytes 8 k), tt)
of_object_fits n k (suc w) low high some =
    let long = words-long k (nth_block w) 32768 in
    (fs_fits n low high, some, omega (arith, long), omega (arith, long), words_are_bytes k (nth_block w) 32768)

pub nth_fits : (n i : ℕ) → 1 ≤ n → n ≤ 64 → IfSome (nth_command n i) IsCommand
nth_fits n zero low high = fs_fits n low high
nth_fits n (suc i) low high = go (nat_lt i (225 * n)) (i == 225 * n)
  where
    go : (t s : Bool) → IfSome (cond t (Some (nth_of_object n (1 + i / 225) (i % 225))) (cond s (Some (commands.Snapshot (snapshot_name n))) None)) IsCommand
    go true s = of_object_fits n (1 + i / 225) (i % 225) low high (omega arith)
    go false true = snapshot_fits n low high
    go false false = tt

-- ---- commands that are made by their numbers

module _ {E : Type 0} (n number : ℕ) (low : 1 ≤ n) (high : n ≤ 64) where
  abbrev IsNth : Result (Option Command) E → Type 0
  IsNth result = IfOk result (λ command. command ≡ nth_command n (suc (number - 1)))

  pub made_fits : (result : Result (Option Command) E) → IsNth result → IfOk result (λ command. IfSome command IsCommand)
  made_fits (Ok command) is = subst (λ (c : Option Command). IfSome c IsCommand) (sym is) (nth_fits n (suc (number - 1)) low high)
  made_fits (Err fault) is = tt
