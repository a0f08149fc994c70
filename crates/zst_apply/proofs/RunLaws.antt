-- WRITE records of neighbouring blocks make what writes of the blocks make.
use Rattle.std.proofs.Common.{◌≡◌, ℕ, ◌+◌, ◌*◌, ◌/◌, ◌^◌, ◌<◌, ◌≤◌, nat_lt, Bool, true, max, List, [], ◌∷◌, length, take, drop, refl, sym, ◌∙◌, ap, subst, arith, Option, Some, Result, Ok, Err}
use Rattle.std.proofs.lemmas.Bool.Decides.{nat_tests}
use Rattle.std.proofs.lemmas.List.{take_all}
use Rattle.std.proofs.lemmas.Nat.{mul-le}
use Rattle.std.specs.Prelude.{None}
use Rattle.zst_block.specs.declared.ptr.Ptr.{Ptr}
use Rattle.zst_block.specs.IoCalls.{Works}
use Rattle.zst_block.specs.IoStates.{IoState}
use Rattle.zst_block.specs.declared.fault.BlockFault.{BlockFault}
use Rattle.zst_block.specs.declared.fault.BlockFault.TheVariants as blocks
use Rattle.zst_block.proofs.IoCallLemmas.{Works-more}
use Rattle.zst_dnode.specs.declared.dnode.Dnode.{Dnode}
use Rattle.zst_laws.specs.Dates.{AppliedIsState}
use Rattle.zst_model.specs.declared.refusals.apply_fault.ApplyFault.{ApplyFault}
use Rattle.zst_model.specs.declared.refusals.faults.Quantity.TheVariants as quantities
use Rattle.zst_model.specs.declared.refusals.refusal.Refusal.{Refusal}
use Rattle.zst_model.specs.declared.refusals.refusal.Refusal.TheVariants as refusals
use Rattle.zst_model.specs.declared.states.item.Change.TheVariants.{Write}
use Rattle.zst_model.specs.declared.states.item.Item.TheVariants.{At}
use Rattle.zst_model.specs.sends.ReceivedRecords.{received}
use Rattle.zst_model.specs.states.AppliedItems.{◌>>=◌, unless}
use Rattle.zst_model.specs.states.DatedState.{DatedState, apply_dated, size_at}
use Rattle.zst_model.specs.states.State.{Block, Data, Hole, Redacted, IsState, Object, end_of, index_bound, is_block_size, is_number, largest_block}
use Rattle.zst_model.specs.pools.Step.{of_applying}
use Rattle.zst_tree.specs.Indices.{Map}
use Rattle.zst_tree.specs.Leaves.{with_leaf}
use Rattle.zst_tree.specs.declared.leaf_puts.Leaf.{Leaf}
use Rattle.zst_objset.specs.Answers.{Changes}
use Rattle.zst_objset.specs.Changes.{block_written}
use Rattle.zst_objset.specs.Dnodes.{BlockIs, SpillIs}
use Rattle.zst_objset.specs.BlockRuns.{IsWritten, blocks_written}
use Rattle.zst_objset.specs.Sets.{IsBounded}
use Rattle.zst_objset.specs.declared.fault.ObjFault.{ObjFault}
use Rattle.zst_objset.specs.declared.fault.ObjFault.TheVariants as faults
use Rattle.zst_objset.proofs.RunLaws.{Anything, IsRun, MayWrite, may_one, may_rest, step, then_is, with_end}
use Rattle.zst_apply.specs.AppliedRecords.{Applies}
use Rattle.zst_apply.specs.AppliedRuns.{run_received}
use Rattle.zst_apply.proofs.ByteRanges.{ends_past}
use Rattle.zst_apply.proofs.EqualChanges.{same_write}
use Rattle.zst_apply.proofs.RecordAnswers.{for_record, limited_is}

-- a record of a whole block says what a write of it says
write_says : (number index k size i kind : ℕ) (bytes : List ℕ) (state : DatedState) → size_at (state.state k) ≡ size → 0 < size → length bytes ≡ size
    → received number index (At k (Write (i * size) kind bytes)) state ≡ for_record index (block_written number k i bytes state)
write_says number index k size i kind bytes state size_is some long =
    let at = size_at (state.state k) in
    let at_some : 0 < at = rw size_is some in
    let place : i * at ≡ i * size = ap (λ (n : ℕ). i * n) size_is in
    let whole : length bytes ≡ 1 * at = long ∙ sym size_is ∙ omega arith in
    let past : nat_lt (index_bound * at) (i * size + length bytes) ≡ nat_lt index_bound (i + 1) =
    ap (λ (n : ℕ). nat_lt (index_bound * at) (n + length bytes)) (sym place) ∙ ap (λ (n : ℕ). nat_lt (index_bound * at) (i * at + n)) whole ∙ ends_past i 1 at at_some in
    let far = refusals.Limit quantities.Block index_bound in
    limited_is index (apply_dated number (At k (Write (i * size) kind bytes)) state) (nat_lt (index_bound * at) (i * size + length bytes)) index_bound
    ∙ ap (λ (b : Bool). for_record index (of_applying (apply_dated number (At k (Write (i * size) kind bytes)) state) >>= λ after. unless b far (Ok after))) past
    ∙ ap (λ (r : Result DatedState ApplyFault). for_record index (of_applying r >>= λ after. unless (nat_lt index_bound (i + 1)) far (Ok after)))
    (same_write number k (i * size) kind 0 bytes state ∙ ap (λ (n : ℕ). apply_dated number (At k (Write n 0 bytes)) state) (sym place))

leaf_for : ℕ → ℕ → Leaf
leaf_for number i = record { index = i; ptr = record { kind = 1; level = 0; length = 0; sector = 0; number = number; sum = record { a = 0; b = 0; c = 0; d = 0 } } }

is_for : (number i : ℕ) (bytes : List ℕ) → IsWritten Anything number i bytes (leaf_for number i)
unfolding leaf_for
is_for number i bytes = record { index_is = refl; block = (refl, tt); dated = refl }

-- both make the same state
pub record Both (number k size i : ℕ) (records : List (ℕ × ℕ)) (bytes : List ℕ) (snap : DatedState) : Type 0 where
  pub now : DatedState
  pub written : blocks_written number k size (length records) i bytes snap ≡ Ok now
  pub received_is : run_received number k size (i * size) records bytes snap ≡ Ok now

pub both : (number k size i : ℕ) (records : List (ℕ × ℕ)) (bytes : List ℕ) (before snap : DatedState) (dnode : Dnode) (map : Map) → AppliedIsState → is_number k ≡ true → 0 < size → dnode.block_size ≡ size → IsRun Anything before snap k dnode map
    → MayWrite size i (length records) bytes → Both number k size i records bytes snap
unfolding blocks_written run_received
both number k size i [] bytes before snap dnode map law is_one some size_is run may = record { now = snap; written = refl; received_is = refl }
both number k size i (one ∷ rest) bytes before snap dnode map law is_one some size_is run may =
    let first = step Anything number k size (length rest) i bytes before snap dnode map (leaf_for number i) law is_one size_is run may (is_for number i (take size bytes)) in
    let more = both number k size (i + 1) rest (drop size bytes) before first.mid (with_end dnode (max dnode.end (i + 1))) (with_leaf map (leaf_for number i)) law is_one some size_is first.run (may_rest size i (length rest) bytes may) in
    let at : size_at (snap.state k) ≡ size = ap size_at run.due.there ∙ (sym run.due.is.size_is ∙ size_is) in
    let says = write_says number one.0 k size i one.1 (take size bytes) snap at some ((may_one size i (length rest) bytes may).whole) ∙ ap (for_record one.0) first.is in
    let place : (i + 1) * size ≡ i * size + size = omega arith in
    record {
      now = more.now;
      written = then_is (block_written number k i (take size bytes) snap) first.mid (blocks_written number k size (length rest) (i + 1) (drop size bytes)) first.is ∙ more.written;
      received_is = then_is (received number one.0 (At k (Write (i * size) one.1 (take size bytes))) snap) first.mid (run_received number k size (i * size + size) rest (drop size bytes)) says
          ∙ subst (λ (n : ℕ). run_received number k size n rest (drop size bytes) first.mid ≡ Ok more.now) place more.received_is;
    }

-- an object of a state, as a run that begins
pub kind_of : Block → ℕ
kind_of Hole = 0
kind_of Redacted = 2
kind_of (Data bytes) = 1

pub spill_kind : Option (List ℕ) → ℕ
spill_kind None = 0
spill_kind (Some bytes) = 1

pub pointer : ℕ → ℕ → Ptr
pointer kind number = record { kind = kind; level = 0; length = 0; sector = 0; number = number; sum = record { a = 0; b = 0; c = 0; d = 0 } }

stands : (block : Block) (number : ℕ) → BlockIs Anything (pointer (kind_of block) number) block
unfolding pointer kind_of
stands Hole number = refl
stands Redacted number = refl
stands (Data bytes) number = (refl, tt)

spills : (spill : Option (List ℕ)) → SpillIs Anything (pointer (spill_kind spill) 0) spill
unfolding pointer spill_kind
spills None = refl
spills (Some bytes) = (refl, tt)

abbrev pub dnode_of : Object → ℕ → Dnode
dnode_of object date = record {
  type_ = object.attr.type_;
  bonus_type = object.attr.bonus_type;
  block_size = object.attr.block_size;
  bonus_len = length object.attr.bonus;
  date = date;
  levels = 0;
  past = 0;
  end = end_of object;
  root = pointer 0 0;
  spill = pointer (spill_kind object.attr.spill) 0;
  bonus = object.attr.bonus;
}

pub run_of : (snap : DatedState) (k : ℕ) (object : Object) → snap.state k ≡ Some object → IsState snap.state → IsBounded snap → IsRun Anything snap snap k (dnode_of object (snap.number_date k)) (λ i. pointer (kind_of (object.blocks i)) (snap.index_date k i))
unfolding pointer
run_of snap k object there lawful bounded = record {
  lawful = lawful;
  bounded = bounded;
  due = record {
    object = object;
    there = there;
    is = record {
      type_is = refl;
      bonus_type_is = refl;
      size_is = refl;
      bonus_is = sym (take_all (length object.attr.bonus) object.attr.bonus (omega arith));
      date_is = refl;
      end_is = refl;
      spill_is = spills object.attr.spill;
      blocks = λ i less. stands (object.blocks i) (snap.index_date k i);
      index_dates = λ i less. refl;
    };
  };
  others = λ j number other. record { state = refl; date = refl; dates = λ i less. refl };
}

-- a call that answers as one definition answers as another that makes the same
pub applies_both : (Holds : DatedState → Type 0) (definition other : Result DatedState Refusal) (now : DatedState) → definition ≡ Ok now → other ≡ Ok now → (result : Result (Unit {0}) ObjFault) → Changes Holds definition result → Applies 0 Holds other result
applies_both Holds definition other now is same (Ok done) made = (made.0, same ∙ (sym is ∙ made.1), made.2)
applies_both Holds definition other now is same (Err (faults.CannotApply fault)) refused = absurd (cc)
applies_both Holds definition other now is same (Err (faults.Redacted object block)) refused = absurd (cc)
applies_both Holds definition other now is same (Err (faults.Limit which limit)) refused = absurd (cc)
applies_both Holds definition other now is same (Err (faults.Block (blocks.Full need largest))) made = (made.0, same ∙ (sym is ∙ made.1))
applies_both Holds definition other now is same (Err (faults.Block (blocks.Damaged sector stated found))) never = never
applies_both Holds definition other now is same (Err (faults.Block blocks.DiskFault)) fails = tt

pub so_many : (number k size i count : ℕ) (records : List (ℕ × ℕ)) (bytes : List ℕ) (snap now : DatedState) → length records ≡ count → blocks_written number k size (length records) i bytes snap ≡ Ok now → blocks_written number k size count i bytes snap ≡ Ok now
so_many number k size i count records bytes snap now long is = subst (λ (n : ℕ). blocks_written number k size n i bytes snap ≡ Ok now) long is

-- ---- a run of one record

-- what one record makes, and no other behind it
pub one_is : (number k size offset : ℕ) (one : ℕ × ℕ) (bytes : List ℕ) (snap now : DatedState) → length bytes ≡ 1 * size → run_received number k size offset (one ∷ []) bytes snap ≡ Ok now
    → received number one.0 (At k (Write offset one.1 bytes)) snap ≡ Ok now
unfolding run_received
one_is number k size offset one bytes snap now long is =
    let whole : take size bytes ≡ bytes = take_all size bytes (omega (arith, long)) in
    by_answer (received number one.0 (At k (Write offset one.1 bytes)) snap) (subst (λ (b : List ℕ). (received number one.0 (At k (Write offset one.1 b)) snap >>= λ s. Ok s) ≡ Ok now) whole is)
  where
    by_answer : (r : Result DatedState Refusal) → (r >>= λ s. Ok s) ≡ Ok now → r ≡ Ok now
    by_answer (Ok made) same = same
    by_answer (Err refusal) same = absurd (cc same)

-- a record that the definition takes is applied alike whatever its index is
pub applies_alike : (index : ℕ) (Holds : DatedState → Type 0) (definition other : Result DatedState Refusal) (now : DatedState) → definition ≡ Ok now → other ≡ Ok now → (result : Result (Unit {0}) ObjFault) → Applies index Holds definition result → Applies 0 Holds other result
applies_alike index Holds definition other now is same (Ok done) made = (made.0, same ∙ (sym is ∙ made.1), made.2)
applies_alike index Holds definition other now is same (Err (faults.CannotApply fault)) refused = absurd (cc)
applies_alike index Holds definition other now is same (Err (faults.Redacted object block)) refused = absurd refused
applies_alike index Holds definition other now is same (Err (faults.Limit which limit)) refused = absurd (cc)
applies_alike index Holds definition other now is same (Err (faults.Block (blocks.Full need largest))) made = (made.0, same ∙ (sym is ∙ made.1))
applies_alike index Holds definition other now is same (Err (faults.Block (blocks.Damaged sector stated found))) never = never
applies_alike index Holds definition other now is same (Err (faults.Block blocks.DiskFault)) fails = tt

-- so a run of one is applied as its record is
pub applies_one : (number k size i : ℕ) (records : List (ℕ × ℕ)) (bytes : List ℕ) (snap now : DatedState) (Holds : DatedState → Type 0) (result : Result (Unit {0}) ObjFault) → length records ≡ 1 → length bytes ≡ 1 * size
    → run_received number k size (i * size) records bytes snap ≡ Ok now → ((one : ℕ × ℕ) → Applies one.0 Holds (received number one.0 (At k (Write (i * size) one.1 bytes)) snap) result)
    → Applies 0 Holds (run_received number k size (i * size) records bytes snap) result
applies_one number k size i [] bytes snap now Holds result few long is did = absurd (omega (arith, few))
applies_one number k size i (one ∷ []) bytes snap now Holds result few long is did =
    applies_alike one.0 Holds (received number one.0 (At k (Write (i * size) one.1 bytes)) snap) (run_received number k size (i * size) (one ∷ []) bytes snap) now (one_is number k size (i * size) one bytes snap now long is) is result (did one)
applies_one number k size i (one ∷ (more ∷ rest)) bytes snap now Holds result few long is did = absurd (omega (arith, few))

-- the place of a block of an object can be told
pub place_fits : (size i : ℕ) → is_block_size size ≡ true → i < 2 ^ 43 → i * size < 2 ^ 64
unfolding is_block_size largest_block
place_fits size i is inside =
    let small : size ≤ 131072 = grind (arith, nat_tests) in
    omega (arith, mul-le i size (2 ^ 43) 131072 (omega (arith, inside)) small)

-- and it takes no more than a run may
pub one_works : {old new : IoState} {stop : Option BlockFault} (size count long : ℕ) → count ≡ 1 → long ≡ size → Works (640 + long / 512) (long / 512) old new stop → Works (count * (size / 512) + 640) (size / 512) old new stop
one_works {old} {new} {stop} size count long alone whole works =
    let own = subst (λ (n : ℕ). Works (640 + n / 512) (n / 512) old new stop) whole works in
    let more : Works (1 * (size / 512) + 640) (size / 512) old new stop = Works-more (omega arith) own in
    subst (λ (n : ℕ). Works (n * (size / 512) + 640) (size / 512) old new stop) (sym alone) more
