use Rattle.zst_block.proofs.IoCallLemmas.{Looks-none}
use Rattle.std.proofs.Common.{◌≡◌, inl, arith, subst, sym, ℕ}
use Rattle.zst_block.specs.IoStates.{blocks_of}
use Rattle.zst_objset.specs.Dnodes.{outside}
use Rattle.zst_objset.specs.Sets.{HasSlots, HasSlotsIn, LeafIn, LeafIs}
use Rattle.zst_objset.proofs.DamageLaws.{AreAbsent-all, AreAbsent-first}
use Rattle.zst_objset.proofs.LeafLaws.{HasSlots-absent, HasSlots-first, slots_absent, slots_first}
use Rattle.zst_objset.proofs.LeafLaws.{same_calls}
use Rattle.zst_objset.proofs.leaves.load_slots.Goals as goal

pub returns-then-leaf-eq0-clause-slots : goal.returns-then-leaf-eq0-clause-slots
returns-then-leaf-eq0-clause-slots g c = λ snap honest is.
    let has = blocks_of c.args.io.now in
    let all = c.put_slots.ensures in
    let first = c.put_slots-then-leaf-eq0.ensures in
    let zero_is : c.args.leaf ≡ 0 = omega arith in
    subst (λ (j : ℕ). HasSlots has snap j c.put_slots-then-leaf-eq0.new.node) (sym zero_is)
    (HasSlots-first has snap c.args.ptr c.put_slots-then-leaf-eq0.new.node c.put_slots.new.node all.fits (omega arith) (first.long (omega arith)) all.put first.put first.kept (subst (λ (j : ℕ). LeafIs has snap j c.args.ptr) zero_is is))

pub returns-else-leaf-eq0-clause-slots : goal.returns-else-leaf-eq0-clause-slots
returns-else-leaf-eq0-clause-slots g c = λ snap honest is.
    let there = c.put_slots.ensures in
    HasSlots-absent _ snap c.args.leaf c.args.ptr c.put_slots.new.node (omega arith) (omega arith) there.fits (omega arith) (there.long (omega arith)) there.put is

pub returns-then-leaf-eq0-clause-loaded : goal.returns-then-leaf-eq0-clause-loaded
returns-then-leaf-eq0-clause-loaded g c = λ honest.
    let all = c.put_slots.ensures in
    let first = c.put_slots-then-leaf-eq0.ensures in
    inl (omega arith, AreAbsent-first c.put_slots-then-leaf-eq0.new.node c.put_slots.new.node c.args.ptr.number all.fits all.put first.put first.kept)

pub returns-else-leaf-eq0-clause-loaded : goal.returns-else-leaf-eq0-clause-loaded
returns-else-leaf-eq0-clause-loaded g c = λ honest.
    inl (omega arith, AreAbsent-all c.put_slots.new.node c.put_slots.new.node c.args.ptr.number c.put_slots.ensures.fits c.put_slots.ensures.put)

pub returns-then-ptr-ne0-clause-looks : goal.returns-then-ptr-ne0-clause-looks
returns-then-ptr-ne0-clause-looks g c = c.load.ensures.looks

pub returns-then-ptr-ne0-clause-calls : goal.returns-then-ptr-ne0-clause-calls
returns-then-ptr-ne0-clause-calls g c = c.load.ensures.calls

pub returns-then-leaf-eq0-clause-damaged : goal.returns-then-leaf-eq0-clause-damaged
returns-then-leaf-eq0-clause-damaged g c = λ honest. tt

pub returns-then-leaf-eq0-clause-looks : goal.returns-then-leaf-eq0-clause-looks
returns-then-leaf-eq0-clause-looks g c = Looks-none _

pub returns-else-leaf-eq0-clause-damaged : goal.returns-else-leaf-eq0-clause-damaged
returns-else-leaf-eq0-clause-damaged g c = λ honest. tt

pub returns-else-leaf-eq0-clause-looks : goal.returns-else-leaf-eq0-clause-looks
returns-else-leaf-eq0-clause-looks g c = Looks-none _

pub returns-then-leaf-eq0-clause-calls : goal.returns-then-leaf-eq0-clause-calls
returns-then-leaf-eq0-clause-calls g c = same_calls _

pub returns-else-leaf-eq0-clause-calls : goal.returns-else-leaf-eq0-clause-calls
returns-else-leaf-eq0-clause-calls g c = same_calls _

pub returns-then-leaf-eq0-clause-slots_in : goal.returns-then-leaf-eq0-clause-slots_in
returns-then-leaf-eq0-clause-slots_in g c = λ snap pairs honest is.
    let has = blocks_of c.args.io.now in
    let all = c.put_slots.ensures in
    let first = c.put_slots-then-leaf-eq0.ensures in
    let zero_is : c.args.leaf ≡ 0 = omega arith in
    subst (λ (j : ℕ). HasSlotsIn has (outside pairs has) snap j c.put_slots-then-leaf-eq0.new.node) (sym zero_is)
    (slots_first has (outside pairs has) snap c.args.ptr c.put_slots-then-leaf-eq0.new.node c.put_slots.new.node all.fits (omega arith) (first.long (omega arith)) all.put first.put first.kept (subst (λ (j : ℕ). LeafIn has (outside pairs has) snap j c.args.ptr) zero_is is))

pub returns-else-leaf-eq0-clause-slots_in : goal.returns-else-leaf-eq0-clause-slots_in
returns-else-leaf-eq0-clause-slots_in g c = λ snap pairs honest is.
    let there = c.put_slots.ensures in
    slots_absent _ _ snap c.args.leaf c.args.ptr c.put_slots.new.node (omega arith) (omega arith) there.fits (omega arith) (there.long (omega arith)) there.put is
