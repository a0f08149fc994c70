-- To which pointers a pointer leads, and what is told of them.
use Rattle.std.specs.Prelude.{Result, Ok, Err, IfErr}
use Rattle.std.proofs.Common.{◌≡◌, inl, inr, ⊎_elim, ℕ, zero, suc, ◌-◌, ◌<◌, List, refl, subst, arith}
use Rattle.std.proofs.lemmas.Bool.{cases_order}
use Rattle.zst_fletcher.specs.WeightSum.{parts_of}
use Rattle.zst_block.specs.Blocks.{IsBlock}
use Rattle.zst_block.specs.ReadAnswers.{ReadAnswers}
use Rattle.zst_block.specs.IoCalls.{TellsDamage}
use Rattle.zst_block.specs.declared.fault.BlockFault.{BlockFault}
use Rattle.zst_block.specs.declared.fault.BlockFault.TheVariants.{Full, Damaged, DiskFault}
use Rattle.zst_block.specs.declared.ptr.Ptr.{Ptr}
use Rattle.zst_tree.specs.Indices.{child}
use Rattle.zst_leaves.specs.Damage.{IsDamagedBelow, IsWrong, LeadsTo, Names, TellsBelow, TellsPtr, TellsText}
use Rattle.zst_leaves.specs.Leaves.{bytes_below, part_length}
use Rattle.zst_tree.specs.declared.or_memory.OrMemory.{OrMemory}
use Rattle.zst_tree.specs.declared.or_memory.OrMemory.TheVariants.{Fault, Memory}

leads_here : (image : List ℕ) (level : ℕ) (ptr : Ptr) (count : ℕ) → LeadsTo image level ptr count level ptr count
unfolding LeadsTo
leads_here image zero ptr count = (refl, refl, refl)
leads_here image (suc level) ptr count = inl (refl, refl, refl)

leads_suc : (image : List ℕ) (level : ℕ) (ptr : Ptr) (node : List ℕ) (k count at : ℕ) (found : Ptr) (part : ℕ) → IsBlock image ptr node → k < 128
    → LeadsTo image level (child node k) (part_length (bytes_below level) count k) at found part → LeadsTo image (suc level) ptr count at found part
unfolding LeadsTo
leads_suc image level ptr node k count at found part block less leads = inr (node, block, k, less, leads)

leads_down : (image : List ℕ) (level : ℕ) (ptr : Ptr) (node : List ℕ) (k count at : ℕ) (found : Ptr) (part : ℕ) → 0 < level → IsBlock image ptr node → k < 128
    → LeadsTo image (level - 1) (child node k) (part_length (bytes_below (level - 1)) count k) at found part → LeadsTo image level ptr count at found part
leads_down image zero ptr node k count at found part inner block less leads = absurd (omega arith)
leads_down image (suc level) ptr node k count at found part inner block less leads =
    let same : suc level - 1 ≡ level = omega arith in
    leads_suc image level ptr node k count at found part block less
    (subst (λ (n : ℕ). LeadsTo image n (child node k) (part_length (bytes_below n) count k) at found part) same leads)

-- what is told of a pointer that is wrong
module _ (image : List ℕ) (size : ℕ) (wrong : Type 0) (ptr : Ptr) where
  pub alike_told : (fault : BlockFault) → fault ≡ Damaged ptr.sector (parts_of ptr.sum) (parts_of ptr.sum) → wrong → TellsPtr image size wrong ptr fault
  alike_told fault is why = rw is (refl, refl, inr (refl, why))

  pub TellsPtr-more : (other : Type 0) → (wrong → other) → (fault : BlockFault) → TellsPtr image size wrong ptr fault → TellsPtr image size other ptr fault
  TellsPtr-more other more (Damaged sector stated found) told = (told.0, told.1, ⊎_elim (λ sums. inl sums) (λ alike. inr (alike.0, more alike.1)) told.2)
  TellsPtr-more other more (Full need largest) told = tt
  TellsPtr-more other more DiskFault told = tt

-- a block of another length isn't one of the layout
pub load_told : (image : List ℕ) (size kind level end : ℕ) (ptr : Ptr) (node : List ℕ) (result : Result (Unit {0}) BlockFault) → TellsDamage image size ptr result → (ptr.length ≡ 8192 → ReadAnswers image size ptr node result)
    → IfErr result (TellsPtr image size (¬ Names kind level end ptr) ptr)
load_told image size kind level end ptr node (Ok done) told answers = tt
load_told image size kind level end ptr node (Err (Full need largest)) told answers = tt
load_told image size kind level end ptr node (Err DiskFault) told answers = tt
load_told image size kind level end ptr node (Err (Damaged sector stated found)) told answers = (
  told.0,
  told.1,
  elim (cases_order ptr.length 8192) [
    | inl long ↦ inl (answers long).2
    | inr other ↦ ⊎_elim (λ sums. inl sums) (λ alike. inr (alike, λ names. let is = names.length_is in ⊎_elim (λ less. absurd (omega arith)) (λ more. absurd (omega arith)) other)) told.2
  ],
)

-- damage of the pointer itself
pub told_here : (end : ℕ) (image : List ℕ) (size level : ℕ) (ptr : Ptr) (count : ℕ) (fault : BlockFault) → TellsPtr image size (IsWrong end image level count ptr) ptr fault → IsDamagedBelow end image size level ptr count fault
told_here end image size level ptr count fault told = record { at = level; ptr = ptr; part = count; leads = leads_here image level ptr count; told = told }

-- damage below one of its children
pub told_below : (end last : ℕ) (image seen : List ℕ) (size now level : ℕ) (ptr : Ptr) (node : List ℕ) (k : ℕ) (under : Ptr) (count piece : ℕ) (fault : OrMemory BlockFault) → 0 < level → last ≡ end → seen ≡ image → now ≡ size → under ≡ child node k
    → piece ≡ part_length (bytes_below (level - 1)) count k → IsBlock image ptr node → k < 128 → TellsBelow {T = Unit {0}} last seen now (level - 1) under piece (Err fault) → TellsBelow {T = Unit {0}} end image size level ptr count (Err fault)
told_below end last image seen size now level ptr node k under count piece Memory inner end_is same as_long is piece_is block less told = tt
told_below end last image seen size now level ptr node k under count piece (Fault fault) inner end_is same as_long is piece_is block less told =
    let whole = part_length (bytes_below (level - 1)) count k in
    let there : IsDamagedBelow end image size (level - 1) (child node k) whole fault =
    subst (λ (n : ℕ). IsDamagedBelow n image size (level - 1) (child node k) whole fault) end_is
    (subst (λ (c : List ℕ). IsDamagedBelow last c size (level - 1) (child node k) whole fault) same
    (subst (λ (n : ℕ). IsDamagedBelow last seen n (level - 1) (child node k) whole fault) as_long
    (subst (λ (p : Ptr). IsDamagedBelow last seen now (level - 1) p whole fault) is
    (subst (λ (n : ℕ). IsDamagedBelow last seen now (level - 1) under n fault) piece_is told)))) in
    record { at = there.at; ptr = there.ptr; part = there.part; leads = leads_down image level ptr node k count there.at there.ptr there.part inner block less there.leads; told = there.told }

-- what is told below the root is told of the text
pub text_told : (end : ℕ) (image : List ℕ) (size levels : ℕ) (root : Ptr) (count : ℕ) {U : Type 0} → (result : Result U (OrMemory BlockFault)) (made fault : OrMemory BlockFault) → result ≡ Err made → made ≡ fault
    → TellsBelow {T = Unit {0}} end image size levels root count (Err fault) → TellsText end image size levels root count result
text_told end image size levels root count {U} result made (Fault fault) is same told = rw (is, same) (inr told)
text_told end image size levels root count {U} result made Memory is same told = rw (is, same) tt
