-- The words for why an item can't be applied.
use Rattle.std.specs.Prelude.{ℕ, List, codes}
use Rattle.zst_model.specs.declared.refusals.apply_fault.ApplyFault.{ApplyFault}
use Rattle.zst_model.specs.declared.refusals.apply_fault.ApplyFault.TheVariants as faults

-- the words of a fault in the text of E21
abbrev pub apply_word : ApplyFault → List ℕ
apply_word faults.NoObject = codes "no object"
apply_word faults.SizeDiffers = codes "size differs"
apply_word faults.Unaligned = codes "unaligned"
apply_word faults.OddBlock = codes "odd block"
apply_word faults.NotUserData = codes "not user data"
