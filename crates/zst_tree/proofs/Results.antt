-- What a call delivered, carried over.
use Rattle.std.proofs.Common.{◌≡◌, Result, Ok, Err, List, ℕ}
use Rattle.std.specs.Prelude.{IfOk}
use Rattle.zst_block.specs.ReadAnswers.{GivesBlock}
use Rattle.zst_block.specs.declared.fault.BlockFault.{BlockFault}
use Rattle.zst_block.specs.declared.fault.BlockFault.TheVariants.{Full, Damaged, DiskFault}
use Rattle.zst_tree.specs.Indices.{Delivers}

pub delivers_if : {T : Type 0} → (P Q : T → Type 0) (result : Result T BlockFault) → ((value : T) → P value → Q value) → Delivers P result → Delivers Q result
delivers_if P Q (Ok value) more is = more value is
delivers_if P Q (Err fault) more is = is

-- what was loaded of a block that is there
pub delivers_block : (P : Type 0) (bytes loaded : List ℕ) (result : Result (Unit {0}) BlockFault) → GivesBlock bytes loaded result → (loaded ≡ bytes → P) → Delivers (λ done. P) result
delivers_block P bytes loaded (Ok done) is more = more is
delivers_block P bytes loaded (Err (Full need largest)) is more = absurd is
delivers_block P bytes loaded (Err (Damaged sector stated found)) is more = absurd is
delivers_block P bytes loaded (Err DiskFault) is more = is

-- two facts of a result give a third
pub IfOk-both : {T : Type 0} (P Q R : T → Type 0) (result : Result T BlockFault) → ((value : T) → P value → Q value → R value) → IfOk result P → IfOk result Q → IfOk result R
IfOk-both P Q R (Ok value) more one two = more value one two
IfOk-both P Q R (Err fault) more one two = tt
