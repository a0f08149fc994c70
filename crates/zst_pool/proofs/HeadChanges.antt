-- What the definitions of changes make of a head.
use Rattle.std.specs.Prelude.{Result, Ok, Err}
use Rattle.std.proofs.Common.{◌≡◌, ℕ, ◌+◌, ◌*◌, ◌≤◌, ◌<◌, Bool, true, false, ◌&&◌, ◌==◌, not, length, length-append, List, [], ◌∷◌, Option, Some, None, nat_lt, if◌then◌else◌, refl, sym, ap, ◌∙◌, subst, arith}
use Rattle.std.proofs.Math.ListN.{length-replicate}
use Rattle.std.proofs.lemmas.Bool.Decides.{nat_tests}
use Rattle.zst_model.specs.declared.refusals.apply_fault.ApplyFault.{ApplyFault}
use Rattle.zst_model.specs.declared.refusals.apply_fault.ApplyFault.TheVariants.{NoObject, OddBlock, SizeDiffers, Unaligned}
use Rattle.zst_model.specs.declared.refusals.faults.Quantity.TheVariants as quantities
use Rattle.zst_model.specs.declared.refusals.refusal.Refusal.{Refusal}
use Rattle.zst_model.specs.declared.refusals.refusal.Refusal.TheVariants as refusals
use Rattle.zst_model.specs.declared.states.attr.ObjectHead.{ObjectHead}
use Rattle.zst_model.specs.declared.states.item.Change.{Change}
use Rattle.zst_model.specs.declared.states.item.Change.TheVariants.{Put, Spill, Write}
use Rattle.zst_model.specs.declared.states.item.Item.{Item}
use Rattle.zst_model.specs.declared.states.item.Item.TheVariants.{At}
use Rattle.zst_model.specs.states.State.{State, Object, Hole, Data, is_odd_size, number_bound}
use Rattle.zst_model.specs.states.AppliedItems.{unless, ◌>>=◌, apply, apply_change, put_at, is_unaligned, attr_with}
use Rattle.zst_model.specs.states.DatedState.{DatedState, apply_dated, apply_all_dated, size_at, touches_index, touches_number}
use Rattle.zst_model.specs.pools.Pool.{Pool}
use Rattle.zst_model.specs.pools.Step.{applied, cannot_apply, in_indices, of_applying, filled, written}
use Rattle.zst_tree.specs.Indices.{Blocks}
use Rattle.zst_tree.specs.declared.tree.ObjSet.{ObjSet}
use Rattle.zst_objset.specs.Changes.{changed, object_made, object_put, spill_put}
use Rattle.zst_pool.specs.Heads.{ChangeFault, ChangesHead}
use Rattle.zst_block.specs.declared.fault.BlockFault.TheVariants.{Full, Damaged, DiskFault}
use Rattle.zst_objset.specs.declared.fault.ObjFault.TheVariants.{CannotApply, Redacted, Limit, Block}
use Rattle.zst_tree.specs.declared.or_memory.OrMemory.{OrMemory}
use Rattle.zst_objset.specs.declared.fault.ObjFault.{ObjFault}
use Rattle.zst_tree.specs.declared.or_memory.OrMemory.TheVariants.{Fault, Memory}

-- one item that can't be applied
applied_fault : (pool : Pool) (item : Item) (head : DatedState) (fault : ApplyFault) → apply_dated (pool.number + 1) item head ≡ Err fault → applied pool (item ∷ []) head ≡ Err (cannot_apply fault)
applied_fault pool item head fault made = ap (λ (r : Result DatedState ApplyFault). of_applying (r >>= apply_all_dated (pool.number + 1) [])) made

-- a head with the dates of an item
abbrev dated : ℕ → Item → DatedState → State → DatedState
dated number item head state = record {
  state = state;
  number_date = λ k. if touches_number item k then number else head.number_date k;
  index_date = λ k i. if touches_index item head.state k i then number else head.index_date k i;
}

-- a change of an object, as what stands at its number refuses it, and as that is changed
at_fault : (number k : ℕ) (change : Change) (head : DatedState) (found : Option Object) (fault : ApplyFault) → head.state k ≡ found → apply_change change found ≡ Err fault
    → apply_dated number (At k change) head ≡ Err fault
unfolding apply
at_fault number k change head found fault there made =
    ap (λ (r : Result (Option Object) ApplyFault). (r >>= λ (o : Option Object). Ok (put_at head.state k o)) >>= λ state. Ok (dated number (At k change) head state))
    (ap (apply_change change) there ∙ made)

at_there : (number k : ℕ) (change : Change) (head : DatedState) (object : Object) (after : Option Object) → head.state k ≡ Some object → apply_change change (Some object) ≡ Ok after
    → apply_dated number (At k change) head ≡ Ok (dated number (At k change) head (put_at head.state k after))
unfolding apply
at_there number k change head object after there made =
    ap (λ (r : Result (Option Object) ApplyFault). (r >>= λ (o : Option Object). Ok (put_at head.state k o)) >>= λ state. Ok (dated number (At k change) head state))
    (ap (apply_change change) there ∙ made)

-- a block of zeros behind more bytes than it has
filled_long : (size : ℕ) (bytes : List ℕ) → size < length bytes → length (filled size bytes) ≡ length bytes
filled_long size bytes lt = simp (length-append, length-replicate) (omega (arith, lt))

-- and behind no more
pub filled_length : (size : ℕ) (bytes : List ℕ) → length bytes ≤ size → length (filled size bytes) ≡ size
filled_length size bytes le = simp (length-append, length-replicate) (omega (arith, le))

other_number : (a b : ℕ) → b < a → not (a == b) ≡ true
other_number a b lt = grind (arith, nat_tests)

-- an object with a block
abbrev with_block : ℕ → List ℕ → Object → Object
with_block offset bytes object = record { attr = object.attr; blocks = λ i. if i * object.attr.block_size == offset then Data bytes else object.blocks i }

module _ (pool : Pool) (k i : ℕ) (bytes : List ℕ) (head : DatedState) where
  -- a block of an object that is absent
  pub written_absent : head.state k ≡ None → written pool k i bytes head ≡ Err (cannot_apply NoObject)
  unfolding apply_change
  written_absent absent =
      let size = size_at (head.state k) in
      let change = Write (i * size) 0 (filled size bytes) in
      ap (λ (r : Result DatedState Refusal). r >>= λ after. in_indices (i + 1) (Ok after))
      (applied_fault pool (At k change) head NoObject (at_fault (pool.number + 1) k change head None NoObject absent refl))

  -- a block of more bytes than the object's have
  pub written_long : (object : Object) → head.state k ≡ Some object → object.attr.block_size < length bytes → written pool k i bytes head ≡ Err (cannot_apply SizeDiffers)
  unfolding apply_change
  written_long object there long =
      let write = λ (size : ℕ). Write (i * size) 0 (filled size bytes) in
      let size = object.attr.block_size in
      let block = filled size bytes in
      let test : not (length block == size) ≡ true = ap (λ n. not (n == size)) (filled_long size bytes long) ∙ other_number (length bytes) size long in
      let fault : apply_change (write size) (Some object) ≡ Err SizeDiffers =
      ap (λ b. unless b SizeDiffers (unless (is_unaligned size (i * size)) Unaligned (unless (is_odd_size size && nat_lt 0 (i * size)) OddBlock (Ok (Some (with_block (i * size) block object)))))) test in
      ap (λ (r : Result DatedState Refusal). r >>= λ after. in_indices (i + 1) (Ok after))
      (applied_fault pool (At k (write (size_at (head.state k)))) head SizeDiffers
      (ap (λ (o : Option Object). apply_dated (pool.number + 1) (At k (write (size_at o))) head) there ∙ at_fault (pool.number + 1) k (write size) head (Some object) SizeDiffers there fault))

-- an object can be put at each number
put_made : ObjectHead → List ℕ → Option Object → Object
put_made head bonus None = record { attr = attr_with head bonus None; blocks = λ i. Hole }
put_made head bonus (Some object) = record {
  attr = attr_with head bonus None;
  blocks = if object.attr.block_size == head.block_size then object.blocks else λ i. Hole;
}

put_change : (head : ObjectHead) (bonus : List ℕ) (object : Option Object) → apply_change (Put head bonus false 0) object ≡ Ok (Some (put_made head bonus object))
unfolding apply_change put_made
put_change head bonus None = refl
put_change head bonus (Some object) = refl

put_first : (number k : ℕ) (head : ObjectHead) (bonus : List ℕ) (old : DatedState)
    → (mid : DatedState) × (object : Object) × (apply_dated number (At k (Put head bonus false 0)) old ≡ Ok mid) × (mid.state k ≡ Some object)
unfolding apply
put_first number k head bonus old =
    let change = Put head bonus false 0 in
    let object = put_made head bonus (old.state k) in
    let here : (k == k) ≡ true = grind (arith, nat_tests) in (
      dated number (At k change) old (put_at old.state k (Some object)),
      object,
      ap (λ (r : Result (Option Object) ApplyFault). (r >>= λ (o : Option Object). Ok (put_at old.state k o)) >>= λ state. Ok (dated number (At k change) old state)) (put_change head bonus (old.state k)),
      ap (λ b. if b then Some object else old.state k) here,
    )

with_spill : List ℕ → Object → Object
with_spill bytes object = record { attr = record object.attr { spill = Some bytes }; blocks = object.blocks }

-- and then be given its spill block
spill_then : (number k : ℕ) (bytes : List ℕ) (mid : DatedState) (object : Object) → mid.state k ≡ Some object → (after : DatedState) × (spill_put number k bytes mid ≡ Ok after)
unfolding apply_change with_spill
spill_then number k bytes mid object there =
    let spilled = Some (with_spill bytes object) in
    (dated number (At k (Spill bytes)) mid (put_at mid.state k spilled), ap of_applying (at_there number k (Spill bytes) mid object spilled there refl))

-- what passes a test passes what comes after it
passed : {A E : Type 0} (test : Bool) (fault : E) (rest : Result A E) (value : A) → unless test fault rest ≡ Ok value → rest ≡ Ok value
passed true fault rest value is = absurd (cc)
passed false fault rest value is = is

put_then : (number k : ℕ) (head : ObjectHead) (bonus bytes : List ℕ) (old mid : DatedState) → object_put number k head bonus false old ≡ Ok mid → (after : DatedState) × (spill_put number k bytes mid ≡ Ok after)
put_then number k head bonus bytes old mid is =
    let one = put_first number k head bonus old in
    let made : changed number (At k (Put head bonus false 0)) old ≡ Ok one.0 = ap of_applying one.2 in
    let put = passed (nat_lt number_bound (k + 1)) (refusals.Limit quantities.Object number_bound) (changed number (At k (Put head bonus false 0)) old) mid is in
    let same : one.0 ≡ mid = cc in
    spill_then number k bytes mid one.1 (subst (λ (s : DatedState). s.state k ≡ Some one.1) same one.3)

-- what refuses the first of two changes refuses both; where the first finds no room, the second is possible too
first_fault : (first : Result DatedState Refusal) (second : DatedState → Result DatedState Refusal) → ((mid : DatedState) → first ≡ Ok mid → (after : DatedState) × (second mid ≡ Ok after))
    → (fault : OrMemory ObjFault) → ChangeFault first fault → ChangeFault (first >>= second) fault
first_fault first second goes (Fault (CannotApply fault)) is = ap (λ (r : Result DatedState Refusal). r >>= second) is
first_fault first second goes (Fault (Redacted object block)) is = ap (λ (r : Result DatedState Refusal). r >>= second) is
first_fault first second goes (Fault (Limit which number)) is = ap (λ (r : Result DatedState Refusal). r >>= second) is
first_fault first second goes (Fault (Block (Full need largest))) is = let after = goes is.0 is.1 in (after.0, ap (λ (r : Result DatedState Refusal). r >>= second) is.1 ∙ after.1)
first_fault first second goes (Fault (Block (Damaged sector stated found))) is = is
first_fault first second goes (Fault (Block DiskFault)) is = is
first_fault first second goes Memory is = is

-- why an object isn't put, whose spill block would come next
pub put_fault : (number k : ℕ) (head : ObjectHead) (bonus : List ℕ) (spill : Option (List ℕ)) (old : DatedState) (fault : OrMemory ObjFault)
    → ChangeFault (object_put number k head bonus false old) fault → ChangeFault (object_made number k head bonus spill old) fault
put_fault number k head bonus None old fault is = is
put_fault number k head bonus (Some bytes) old fault is = first_fault (object_put number k head bonus false old) (spill_put number k bytes) (put_then number k head bonus bytes old) fault is

-- where it was put, what is made of it then
pub then_spilled : (bound : Option ℕ) (has : Blocks) (set : ObjSet) (number k : ℕ) (head : ObjectHead) (bonus bytes : List ℕ) (old mid : DatedState) (answer : Result (Unit {0}) (OrMemory ObjFault))
    → object_put number k head bonus false old ≡ Ok mid → ChangesHead bound has set (spill_put number k bytes mid) answer → ChangesHead bound has set (object_made number k head bonus (Some bytes) old) answer
then_spilled bound has set number k head bonus bytes old mid answer put is =
    subst (λ (r : Result DatedState Refusal). ChangesHead bound has set r answer) (sym (ap (λ (r : Result DatedState Refusal). r >>= spill_put number k bytes) put)) is
