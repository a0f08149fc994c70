use Rattle.zst_block.specs.IoStates.{blocks_of, disk_of}
use Rattle.zst_bytes.specs.Bytes.{bytes_at}
use Rattle.zst_dnode.specs.Slot.{SlotFits, slot_bytes}
use Rattle.zst_dnode.specs.declared.slot.Slot.{Slot}
use Rattle.zst_tree.specs.Damage.{IsSeen}
use Rattle.std.proofs.Common.{◌≡◌, ℕ, ◌*◌, ◌%◌, refl, subst, arith}
use Rattle.std.proofs.lemmas.Result.{err_from_is_err_and}
use Rattle.zst_objset.specs.Sets.{HasSlotsIn}
use Rattle.zst_traverse.proofs.NextCells.{absent_in_slot, no_slot_at, none_at, slot_at, there_in_slot}
use Rattle.zst_traverse.proofs.Damage.{dnode_stands, lacking_cell, leaf_told}
use Rattle.zst_traverse.proofs.Numbers.{hole_none}
use Rattle.zst_tree.proofs.StepLooks.{InSteps-none}
use Rattle.zst_traverse.proofs.cells.dnode_in.Goals as goal
use Rattle.zst_objset.specs.Dnodes.{outside}

pub returns-then-leaf-eq0 : goal.returns-then-leaf-eq0
returns-then-leaf-eq0 g c = record {
  found = λ snap pairs honest is. none_at _ (outside pairs (blocks_of c.args.io.now)) snap c.args.number (hole_none _ _ snap c.args.leaf.now.index c.args.leaf.now.ptr c.args.number c.requires.number.2 c.requires.number.0 c.requires.number.1 is c.if-leaf-eq0.true);
  ranges = tt;
  of_walk = λ set honest hangs. record { stands = tt; damaged = tt };
  looks = InSteps-none _ _;
}

pub returns-in_err-load_leaf-clause-found : goal.returns-in_err-load_leaf-clause-found
returns-in_err-load_leaf-clause-found g c = λ snap pairs honest is.
    let p = err_from_is_err_and c.from_residual.result c.from_residual.ensures.1 in
    rw (p.1, p.2) (c.in_err-load_leaf.ensures.slots snap pairs honest is)

pub returns-in-Some-Absent : goal.returns-in-Some-Absent
returns-in-Some-Absent g c = record {
  found = λ snap pairs honest is.
      let slots = subst (λ (j : ℕ). HasSlotsIn (blocks_of c.args.io.now) (outside pairs (blocks_of c.args.io.now)) snap j c.load_leaf.new.io.node) c.requires.number.2 (c.in_ok-load_leaf.ensures.slots snap pairs honest is) in
      absent_in_slot _ _ snap c.args.number c.in-Some-Absent.field-0-0 c.in-Some-Absent.field-0 c.in-Some-Absent.field-0-is
      (slot_at _ _ snap c.args.number _ _ c.in-Some-Absent.field-0 c.requires.number.0 c.requires.number.1 slots c.as_slice.ensures.bytes c.in-Some-Absent.ensures.back);
  ranges = tt;
  of_walk = λ set honest hangs. record { stands = tt; damaged = tt };
  looks = c.in_ok-load_leaf.ensures.looks;
}

pub returns-in-None-clause-found : goal.returns-in-None-clause-found
returns-in-None-clause-found g c = λ snap pairs honest is.
    let slots = subst (λ (j : ℕ). HasSlotsIn (blocks_of c.args.io.now) (outside pairs (blocks_of c.args.io.now)) snap j c.load_leaf.new.io.node) c.requires.number.2 (c.in_ok-load_leaf.ensures.slots snap pairs honest is) in
    absurd (no_slot_at _ _ snap c.args.number _ _ slots c.as_slice.ensures.bytes (c.in-None.ensures.none refl))

pub returns-in-None-clause-of_walk : goal.returns-in-None-clause-of_walk
returns-in-None-clause-of_walk g c = λ set honest hangs. record {
  stands = tt;
  damaged =
      rw c.of_layout.ensures (lacking_cell _ _ set c.args.leaf.now.ptr c.load_leaf.new.io.node hangs (c.in_ok-load_leaf.ensures.loaded honest)
      (record { place = c.args.number % 16; under = omega arith; none = λ slot has. c.in-None.ensures.none refl slot has.fits (rw c.as_slice.ensures.bytes has.spelled) }));
}

pub returns-in_err-load_leaf-clause-ranges : goal.returns-in_err-load_leaf-clause-ranges
returns-in_err-load_leaf-clause-ranges g c =
    let p = err_from_is_err_and c.from_residual.result c.from_residual.ensures.1 in
    rw p.1 tt

pub returns-in_err-load_leaf-clause-of_walk : goal.returns-in_err-load_leaf-clause-of_walk
returns-in_err-load_leaf-clause-of_walk g c = λ set honest hangs.
    let p = err_from_is_err_and c.from_residual.result c.from_residual.ensures.1 in
    let disk = disk_of c.args.io.now in
    rw (p.1, p.2) (record { stands = tt; damaged = leaf_told (IsSeen disk.seen) disk.size set c.args.leaf.now.ptr hangs c.in_err-load_leaf.field-0.0 (c.in_err-load_leaf.ensures.damaged honest) })

pub returns-in_err-load_leaf-clause-looks : goal.returns-in_err-load_leaf-clause-looks
returns-in_err-load_leaf-clause-looks g c =
    let p = err_from_is_err_and c.from_residual.result c.from_residual.ensures.1 in
    rw (p.1, p.2) c.in_err-load_leaf.ensures.looks

pub returns-in-Some-There-clause-of_walk : goal.returns-in-Some-There-clause-of_walk
returns-in-Some-There-clause-of_walk g c = λ set honest hangs.
    let at = 512 * (c.args.number % 16) in
    let read : SlotFits c.in-Some-There.field-0 × (bytes_at c.as_slice.result.now at 512 ≡ slot_bytes c.in-Some-There.field-0) = c.in-Some-There.ensures.spelled in
    let slot = subst (λ (s : Slot). SlotFits s × (bytes_at c.as_slice.result.now at 512 ≡ slot_bytes s)) c.in-Some-There.field-0-is read in
    record {
      stands = dnode_stands (IsSeen (disk_of c.args.io.now).seen) set c.args.leaf.now.ptr c.load_leaf.new.io.node (c.args.number % 16) c.in-Some-There.dnode hangs (c.in_ok-load_leaf.ensures.loaded honest) c.if-leaf-eq0.false
          (omega arith) (record { fits = slot.0; spelled = rw c.as_slice.ensures.bytes at slot.1 });
      damaged = tt;
    }

pub returns-in-Some-There-clause-looks : goal.returns-in-Some-There-clause-looks
returns-in-Some-There-clause-looks g c = c.in_ok-load_leaf.ensures.looks

pub returns-in-None-clause-ranges : goal.returns-in-None-clause-ranges
returns-in-None-clause-ranges g c = tt

pub returns-in-Some-There-clause-found : goal.returns-in-Some-There-clause-found
returns-in-Some-There-clause-found g c = λ snap pairs honest is.
    let slots = subst (λ (j : ℕ). HasSlotsIn (blocks_of c.args.io.now) (outside pairs (blocks_of c.args.io.now)) snap j c.load_leaf.new.io.node) c.requires.number.2 (c.in_ok-load_leaf.ensures.slots snap pairs honest is) in
    there_in_slot _ _ snap c.args.number c.in-Some-There.dnode c.in-Some-There.field-0 c.in-Some-There.field-0-is
    (slot_at _ _ snap c.args.number _ _ c.in-Some-There.field-0 c.requires.number.0 c.requires.number.1 slots c.as_slice.ensures.bytes c.in-Some-There.ensures.back)
