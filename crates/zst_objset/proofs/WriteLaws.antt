-- What the write of a block is refused for, and what it makes of an object.
use Rattle.std.proofs.Common.{◌≡◌, ◌⊎◌, inl, inr, ℕ, zero, suc, ◌+◌, ◌*◌, ◌%◌, ◌^◌, ◌<◌, ◌≤◌, ◌==◌, ◌&&◌, nat_lt, not, max, Bool, true, false, List, length, refl, sym, ◌∙◌, ap, subst, arith, if◌then◌else◌, Option, Some, None, Result, Ok, Err, eq-eqb, mul-le-mul_right}
use Rattle.std.proofs.Math.Nat.{mul-mod_left}
use Rattle.std.proofs.lemmas.Bool.{cases_lt, cases_order}
use Rattle.std.proofs.lemmas.Bool.Decides.{nat_tests}
use Rattle.zst_block.specs.Ptr.{PtrFits}
use Rattle.zst_dnode.specs.Dnode.{DnodeFits}
use Rattle.zst_dnode.specs.declared.dnode.Dnode.{Dnode}
use Rattle.zst_model.specs.declared.refusals.apply_fault.ApplyFault.{ApplyFault}
use Rattle.zst_model.specs.declared.refusals.apply_fault.ApplyFault.TheVariants.{NoObject, SizeDiffers, OddBlock, Unaligned}
use Rattle.zst_model.specs.declared.refusals.faults.Quantity.TheVariants as quantities
use Rattle.zst_model.specs.declared.refusals.refusal.Refusal.TheVariants as refusals
use Rattle.zst_model.specs.declared.states.item.Change.{Change}
use Rattle.zst_model.specs.declared.states.item.Change.TheVariants.{Write}
use Rattle.zst_model.specs.states.AppliedItems.{apply, apply_change, is_unaligned, unless}
use Rattle.zst_model.specs.states.DatedState.{DatedState, size_at}
use Rattle.zst_model.specs.states.State.{Block, Data, IsObject, IsState, Object, index_bound, is_block_size, is_hole, is_odd_size, largest_block, past_last}
use Rattle.zst_model.specs.pools.Step.{in_indices, of_applying}
use Rattle.zst_tree.specs.Indices.{Blocks}
use Rattle.zst_tree.specs.declared.tree.Tree.{Tree}
use Rattle.zst_objset.specs.Answers.{FindsThere, Refuses}
use Rattle.zst_objset.specs.Changes.{block_written, indices_changed}
use Rattle.zst_objset.specs.Dnodes.{IsThere, tree_of}
use Rattle.zst_objset.specs.BlockRuns.{IsWholeBlock}
use Rattle.zst_objset.specs.BlockWrites.{PutsDataRoot, write_judged}
use Rattle.zst_objset.specs.declared.fault.ObjFault.{ObjFault}
use Rattle.zst_objset.specs.declared.fault.ObjFault.TheVariants as faults
use Rattle.zst_objset.proofs.AnswerLaws.{none_refused, in_indices_far, object_of}
use Rattle.zst_objset.proofs.ChangePuts.{changed_is, changed_to}
use Rattle.zst_objset.proofs.TreeFits.{data_fits, dnode_root, root_fits, with_tree, with_tree_fits}
use Rattle.zst_objset.proofs.RangeIndices.{some_times}

past_step : (hole : Bool) (bound rest : ℕ) → rest ≤ bound → (if hole then rest else suc bound) ≤ suc bound
past_step true bound rest le = omega arith
past_step false bound rest le = omega arith

past_bounded : (blocks : ℕ → Block) (bound : ℕ) → past_last blocks bound ≤ bound
unfolding past_last
past_bounded blocks zero = omega arith
past_bounded blocks (suc bound) = past_step (is_hole (blocks bound)) bound (past_last blocks bound) (past_bounded blocks bound)

past_more : (hole : Bool) (i bound before after : ℕ) → i < bound → after ≡ max before (i + 1) → (if hole then after else suc bound) ≡ max (if hole then before else suc bound) (i + 1)
past_more true i bound before after less is = is
past_more false i bound before after less is = omega arith

-- the end of blocks of which one is no hole, and those past it are as they were
pub past_last-put : (old new : ℕ → Block) (i : ℕ) → is_hole (new i) ≡ false → ((j : ℕ) → i < j → new j ≡ old j) → (bound : ℕ) → i < bound → past_last new bound ≡ max (past_last old bound) (i + 1)
unfolding past_last
past_last-put old new i there same zero less = absurd (omega arith)
past_last-put old new i there same (suc bound) less = go (past_last-put old new i there same bound) (cases_lt i bound)
  where
    go : (i < bound → past_last new bound ≡ max (past_last old bound) (i + 1)) → (i < bound) ⊎ (bound ≤ i)
        → (if is_hole (new bound) then past_last new bound else suc bound) ≡ max (if is_hole (old bound) then past_last old bound else suc bound) (i + 1)
    go below (inl lower) = rw (same bound lower) (past_more (is_hole (old bound)) i bound (past_last old bound) (past_last new bound) lower (below lower))
    go below (inr over) =
        let here : i ≡ bound = omega arith in
        let top : is_hole (new bound) ≡ false = subst (λ (n : ℕ). is_hole (new n) ≡ false) here there in
        let le = past_step (is_hole (old bound)) bound (past_last old bound) (past_bounded old bound) in
        rw top (omega (arith, le))

-- the place of an index
pub same_place : (size i j : ℕ) → 0 < size → (j * size == i * size) ≡ (j == i)
same_place size i j some = go (cases_order j i)
  where
    go : (j ≡ i) ⊎ ((j < i) ⊎ (i < j)) → (j * size == i * size) ≡ (j == i)
    go (inl same) = eq-eqb _ _ (ap (λ (n : ℕ). n * size) same) ∙ sym (eq-eqb _ _ same)
    go (inr (inl lower)) = let more : suc j * size ≤ i * size = mul-le-mul_right size lower in grind (arith, nat_tests, more)
    go (inr (inr higher)) = let more : suc i * size ≤ j * size = mul-le-mul_right size higher in grind (arith, nat_tests, more)

-- the write of a whole block at an index of what stands at a number
abbrev pub write_at : ℕ → List ℕ → Option Object → Change
write_at i bytes there = Write (i * size_at there) 0 bytes

-- an object with a block
abbrev pub written_to : ℕ → List ℕ → Object → Object
written_to i bytes object = record { attr = object.attr; blocks = λ j. if j * object.attr.block_size == i * object.attr.block_size then Data bytes else object.blocks j }

passed : {A E : Type 0} → (test : Bool) (fault : E) (rest : Result A E) → test ≡ false → unless test fault rest ≡ rest
passed test fault rest is = rw is refl

-- what it makes of an object, or its refusals in their order
write_some : (i : ℕ) (bytes : List ℕ) (object : Object) → 0 < object.attr.block_size
    → apply_change (write_at i bytes (Some object)) (Some object)
    ≡ unless (not (length bytes == object.attr.block_size)) SizeDiffers (unless (is_odd_size object.attr.block_size && nat_lt 0 i) OddBlock (Ok (Some (written_to i bytes object))))
unfolding apply_change
write_some i bytes object some =
    let size = object.attr.block_size in
    ap (unless (not (length bytes == size)) SizeDiffers)
    (passed (is_unaligned size (i * size)) Unaligned _ (ap (λ (n : ℕ). not (n == 0)) (mul-mod_left i size))
    ∙ ap (λ (b : Bool). unless (is_odd_size size && b) OddBlock (Ok (Some (written_to i bytes object)))) (some_times i size some))

pub write_is : (i : ℕ) (bytes : List ℕ) (there : Option Object) (object : Object) → there ≡ Some object → 0 < object.attr.block_size
    → apply_change (write_at i bytes there) there
    ≡ unless (not (length bytes == object.attr.block_size)) SizeDiffers (unless (is_odd_size object.attr.block_size && nat_lt 0 i) OddBlock (Ok (Some (written_to i bytes object))))
write_is i bytes there object is some = rw is (write_some i bytes object some)

-- what an object may be written
pub record IsWritable (size i count : ℕ) : Type 0 where
  pub whole : count ≡ size
  pub alone : is_odd_size size ≡ true → i ≡ 0
  pub inside : i < 2 ^ 43

pub index_under : (i : ℕ) → i < 2 ^ 43 → i < index_bound
unfolding index_bound
index_under i less = less

pub judged : (size i count : ℕ) → Ok (tt {0}) ≡ write_judged size i count → IsWritable size i count
unfolding index_bound
judged size i count is = go (not (count == size)) (is_odd_size size && nat_lt 0 i) (nat_lt index_bound (i + 1)) refl refl refl is
  where
    go : (long odd far : Bool) → not (count == size) ≡ long → (is_odd_size size && nat_lt 0 i) ≡ odd → nat_lt index_bound (i + 1) ≡ far
        → Ok (tt {0}) ≡ unless long (faults.CannotApply SizeDiffers) (unless odd (faults.CannotApply OddBlock) (unless far (faults.Limit quantities.Block index_bound) (Ok (tt {0}))))
        → IsWritable size i count
    go true odd far e0 e1 e2 e = absurd (cc)
    go false true far e0 e1 e2 e = absurd (cc)
    go false false true e0 e1 e2 e = absurd (cc)
    go false false false e0 e1 e2 e = record { whole = grind (arith, nat_tests); alone = λ is. grind (arith, nat_tests); inside = grind (arith, nat_tests) }

-- the write of an object that isn't there
write_none : (number k i : ℕ) (bytes : List ℕ) (snap : DatedState) → snap.state k ≡ None → block_written number k i bytes snap ≡ Err (refusals.CannotApply 0 NoObject)
unfolding apply apply_change
write_none number k i bytes snap is = rw is refl

pub write_not_there : (has : Blocks) (number k i : ℕ) (bytes : List ℕ) (snap : DatedState) (fault : ObjFault) → FindsThere has snap k (Err fault) → Refuses (block_written number k i bytes snap) fault
write_not_there has number k i bytes snap fault is = none_refused (block_written number k i bytes snap) has snap k fault (write_none number k i bytes snap) is

-- a block size, as a count of bytes
pub block_some : (size : ℕ) → is_block_size size ≡ true → 0 < size
unfolding is_block_size
block_some size is = grind (arith, nat_tests)

pub block_whole : (size : ℕ) → is_block_size size ≡ true → size % 512 ≡ 0
unfolding is_block_size
block_whole size is = grind (arith, nat_tests)

pub whole_block : (size : ℕ) → is_block_size size ≡ true → IsWholeBlock size
unfolding is_block_size largest_block
whole_block size is = record { some = block_some size is; whole = block_whole size is; small = grind (arith, nat_tests) }

-- the write of one that is there
module _ (has : Blocks) (number k i : ℕ) (bytes : List ℕ) (snap : DatedState) (dnode : Dnode) (there : IsThere has snap k dnode) (lawful : IsState snap.state) where
  is_object : IsObject there.object
  is_object = object_of (snap.state k) there.object there.there (lawful.objects k)

  some_size : 0 < there.object.attr.block_size
  some_size = block_some there.object.attr.block_size is_object.attr.head.size

  makes_write : apply_change (write_at i bytes (snap.state k)) (snap.state k)
      ≡ unless (not (length bytes == dnode.block_size)) SizeDiffers (unless (is_odd_size dnode.block_size && nat_lt 0 i) OddBlock (Ok (Some (written_to i bytes there.object))))
  makes_write = rw (there.is.size_is) (write_is i bytes (snap.state k) there.object there.there some_size)

  write_err : (fault : ApplyFault) → apply_change (write_at i bytes (snap.state k)) (snap.state k) ≡ Err fault → block_written number k i bytes snap ≡ Err (refusals.CannotApply 0 fault)
  unfolding apply
  write_err fault is = rw is refl

  -- the state after it
  abbrev pub after_write : DatedState
  after_write = changed_to number k (write_at i bytes (snap.state k)) snap (written_to i bytes there.object)

  write_ok : apply_change (write_at i bytes (snap.state k)) (snap.state k) ≡ Ok (Some (written_to i bytes there.object)) → block_written number k i bytes snap ≡ in_indices (i + 1) (Ok after_write)
  write_ok made = ap (indices_changed (i + 1)) (ap of_applying (changed_is number k (write_at i bytes (snap.state k)) snap (written_to i bytes there.object) made))

  pub is_refused : (fault : ObjFault) → Err fault ≡ write_judged dnode.block_size i (length bytes) → Refuses (block_written number k i bytes snap) fault
  unfolding index_bound
  is_refused fault is = go (not (length bytes == dnode.block_size)) (is_odd_size dnode.block_size && nat_lt 0 i) (nat_lt index_bound (i + 1)) refl makes_write is
    where
      go : (long odd far : Bool) → nat_lt index_bound (i + 1) ≡ far
          → apply_change (write_at i bytes (snap.state k)) (snap.state k) ≡ unless long SizeDiffers (unless odd OddBlock (Ok (Some (written_to i bytes there.object))))
          → Err fault ≡ unless long (faults.CannotApply SizeDiffers) (unless odd (faults.CannotApply OddBlock) (unless far (faults.Limit quantities.Block index_bound) (Ok (tt {0}))))
          → Refuses (block_written number k i bytes snap) fault
      go true odd far far_is made e = let same : faults.CannotApply SizeDiffers ≡ fault = cc in subst (Refuses (block_written number k i bytes snap)) same (write_err SizeDiffers made)
      go false true far far_is made e = let same : faults.CannotApply OddBlock ≡ fault = cc in subst (Refuses (block_written number k i bytes snap)) same (write_err OddBlock made)
      go false false true far_is made e =
          let same : faults.Limit quantities.Block index_bound ≡ fault = cc in
          subst (Refuses (block_written number k i bytes snap)) same (write_ok made ∙ in_indices_far i after_write (grind (arith, nat_tests)))
      go false false false far_is made e = absurd (cc)

-- its dnode is in its ranges
pub written_fits : (dnode : Dnode) (tree : Tree) (i count : ℕ) → DnodeFits dnode → IsWritable dnode.block_size i count → PutsDataRoot (tree_of dnode) count tree → tree.levels ≤ 7 → PtrFits tree.root → tree.past < 2 ^ 64
    → DnodeFits (with_tree dnode tree (max dnode.end (i + 1)))
unfolding index_bound
written_fits dnode tree i count fits may put levels ptr past =
    with_tree_fits dnode tree (max dnode.end (i + 1)) fits levels ptr past
    (root_fits dnode.block_size (tree_of dnode) tree put.block (dnode_root dnode fits) (data_fits dnode.block_size put.block put.kind (put.length_is ∙ may.whole)) put.root)
    (omega (arith, fits.end, may.inside)) (λ odd. omega (arith, fits.odd odd, may.alone odd))
