-- Blocks of an object that are written one after another, while its tree stays as it is until all of them are.
use Rattle.std.proofs.Common.{◌≡◌, ◌⊎◌, inr, ℕ, ◌+◌, ◌*◌, ◌<◌, ◌≤◌, ◌==◌, ◌&&◌, nat_lt, not, max, Bool, true, false, List, [], ◌∷◌, zero, suc, ◌^◌, length, take, drop, refl, sym, ◌∙◌, ap, subst, arith, if◌then◌else◌, Some, Result, Ok, ⊎_elim, get_or, set, drop-drop, eq-eqb, length-drop, length-take, ◌-◌, mul-le-mul_right, ◌≢◌, Err}
use Rattle.std.proofs.lemmas.List.{get_or-set_other, get_or-set_same, take_all}
use Rattle.std.proofs.lemmas.Bool.{cases_lt, true≢false}
use Rattle.std.proofs.lemmas.Bool.Decides.{nat_tests}
use Rattle.std.proofs.lemmas.List.Elements.{All-drop, All-take}
use Rattle.zst_block.specs.declared.ptr.Ptr.{Ptr}
use Rattle.zst_block.specs.Ptr.{PtrFits}
use Rattle.zst_block.specs.declared.fault.BlockFault.TheVariants as blocks
use Rattle.zst_dnode.specs.declared.dnode.Dnode.{Dnode}
use Rattle.zst_dnode.specs.declared.slot.Slot.TheVariants.{There}
use Rattle.zst_dnode.specs.Dnode.{DnodeFits}
use Rattle.zst_laws.specs.Dates.{AppliedIsState, IsLawfulItem}
use Rattle.zst_model.specs.declared.states.item.Item.TheVariants.{At}
use Rattle.zst_model.specs.declared.refusals.refusal.Refusal.{Refusal}
use Rattle.zst_model.specs.states.AppliedItems.{◌>>=◌, apply_change}
use Rattle.zst_model.specs.states.DatedState.{DatedState}
use Rattle.zst_model.specs.states.State.{AreBytes, Data, IsState, Object, end_of, index_bound, is_hole, is_number, is_odd_size}
use Rattle.zst_model.specs.pools.Step.{of_applying}
use Rattle.zst_model.specs.declared.refusals.apply_fault.ApplyFault.TheVariants.{SizeDiffers}
use Rattle.zst_model.specs.declared.refusals.refusal.Refusal.TheVariants as refusals
use Rattle.zst_model.specs.pools.Soundness.{DatedUpTo}
use Rattle.zst_tree.specs.Indices.{Blocks, Map, TreeIs}
use Rattle.zst_tree.specs.Leaves.{with_leaf, with_leaves}
use Rattle.zst_tree.specs.declared.leaf_puts.Leaf.{Leaf}
use Rattle.zst_tree.specs.declared.tree.Tree.{Tree}
use Rattle.zst_tree.specs.Damage.{NamesNode}
use Rattle.zst_tree.specs.Changes.{TreeDatedUpTo}
use Rattle.zst_tree.proofs.LeafMaps.{here as leaf_here, elsewhere as leaf_elsewhere}
use Rattle.zst_objset.specs.Changes.{block_written, indices_changed}
use Rattle.zst_objset.specs.Dnodes.{BlockIs, IsThere, SpillIs, tree_of}
use Rattle.zst_objset.specs.BlockWrites.{PutsData}
use Rattle.zst_objset.specs.BlockRuns.{AreSoFar, AreWritten, IsWritten, PutsBlocks, block_of, blocks_written}
use Rattle.zst_objset.specs.SlotPuts.{Alike, DatesRise, PutsSlot, dates_to}
use Rattle.zst_objset.specs.Sets.{IsBounded}
use Rattle.zst_objset.specs.Answers.{FindsThere, Refuses}
use Rattle.zst_objset.specs.declared.fault.ObjFault.{ObjFault}
use Rattle.zst_objset.specs.declared.fault.ObjFault.TheVariants as faults
use Rattle.zst_objset.specs.TightSets.{IsTightSlot}
use Rattle.zst_objset.proofs.TightLaws.{alike_same, tight_dated}
use Rattle.zst_objset.proofs.SetGrowth.{IsThere-grows, ObjectIs-grows}
use Rattle.zst_objset.proofs.AnswerLaws.{in_indices_ok, object_of}
use Rattle.zst_objset.proofs.ChangePuts.{beside as beside_number, change_bounded, changed_is, changed_to, date_put, dates_put, kept_at, same as same_number}
use Rattle.zst_objset.proofs.TreeFits.{named_fits, with_tree, with_tree_fits}
use Rattle.zst_objset.proofs.WriteLaws.{IsWritable, index_under, is_refused, write_not_there, block_some, past_last-put, same_place, write_at, write_is, written_to}

-- a dnode is of this object with these dates, but for its tree; this map of its indices has the blocks and their dates
pub record ContentIs (has : Blocks) (dnode : Dnode) (object : Object) (date : ℕ) (dates : ℕ → ℕ) (map : Map) : Type 0 where
  pub type_is : dnode.type_ ≡ object.attr.type_
  pub bonus_type_is : dnode.bonus_type ≡ object.attr.bonus_type
  pub size_is : dnode.block_size ≡ object.attr.block_size
  pub bonus_is : object.attr.bonus ≡ take dnode.bonus_len dnode.bonus
  pub date_is : dnode.date ≡ date
  pub end_is : dnode.end ≡ end_of object
  pub spill_is : SpillIs has dnode.spill object.attr.spill
  pub blocks : (i : ℕ) → i < index_bound → BlockIs has (map i) (object.blocks i)
  pub index_dates : (i : ℕ) → i < index_bound → (map i).number ≡ dates i

-- an object is at a number, and a dnode is that object's, but for its tree
pub record IsDue (has : Blocks) (snap : DatedState) (k : ℕ) (dnode : Dnode) (map : Map) : Type 0 where
  pub object : Object
  pub there : snap.state k ≡ Some object
  pub is : ContentIs has dnode object (snap.number_date k) (snap.index_date k) map

-- from one state to another an object's blocks changed alone, and these are due
pub record IsRun (has : Blocks) (before now : DatedState) (k : ℕ) (dnode : Dnode) (map : Map) : Type 0 where
  pub lawful : IsState now.state
  pub bounded : IsBounded now
  pub due : IsDue has now k dnode map
  pub others : (j : ℕ) → is_number j ≡ true → (j < k) ⊎ (k + 1 ≤ j) → Alike before now j

-- what two changes of another number leave they leave together
Alike-then : (old mid new : DatedState) (j : ℕ) → Alike old mid j → Alike mid new j → Alike old new j
Alike-then old mid new j first second = record {
  state = second.state ∙ first.state;
  date = second.date ∙ first.date;
  dates = λ i less. second.dates i less ∙ first.dates i less;
}

-- nothing is due yet
pub run_begins : (has : Blocks) (snap : DatedState) (k : ℕ) (dnode : Dnode) → IsState snap.state → IsBounded snap → (there : IsThere has snap k dnode) → IsRun has snap snap k dnode there.map
run_begins has snap k dnode lawful bounded there = record {
  lawful = lawful;
  bounded = bounded;
  due = record {
    object = there.object;
    there = there.there;
    is = record {
      type_is = there.is.type_is;
      bonus_type_is = there.is.bonus_type_is;
      size_is = there.is.size_is;
      bonus_is = there.is.bonus_is;
      date_is = there.is.date_is;
      end_is = there.is.end_is;
      spill_is = there.is.spill_is;
      blocks = there.is.blocks;
      index_dates = there.is.index_dates;
    };
  };
  others = λ j number other. alike_same snap j;
}

-- the dnode with another end
abbrev pub with_end : Dnode → ℕ → Dnode
with_end dnode end = record dnode { end = end }

-- one block more is written
module _ (has : Blocks) (number k i : ℕ) (bytes : List ℕ) (before snap : DatedState) (dnode : Dnode) (map : Map) (run : IsRun has before snap k dnode map) (is_one : is_number k ≡ true) (may : IsWritable dnode.block_size i (length bytes)) (all : AreBytes bytes) where
  size_over : 0 < run.due.object.attr.block_size
  size_over = block_some run.due.object.attr.block_size (object_of (snap.state k) run.due.object run.due.there (run.lawful.objects k)).attr.head.size

  made : apply_change (write_at i bytes (snap.state k)) (snap.state k) ≡ Ok (Some (written_to i bytes run.due.object))
  made =
      let whole : not (length bytes == run.due.object.attr.block_size) ≡ false = rw (sym run.due.is.size_is) (grind (arith, nat_tests, may.whole)) in
      write_is i bytes (snap.state k) run.due.object run.due.there size_over ∙ rw (whole, alone (is_odd_size run.due.object.attr.block_size) (rw run.due.is.size_is at may.alone)) refl
    where
      alone : (odd : Bool) → (odd ≡ true → i ≡ 0) → (odd && nat_lt 0 i) ≡ false
      alone true first = let zero_is : i ≡ 0 = first refl in rw zero_is refl
      alone false first = refl

  -- the state after it
  abbrev pub after : DatedState
  after = changed_to number k (write_at i bytes (snap.state k)) snap (written_to i bytes run.due.object)

  pub accepted : block_written number k i bytes snap ≡ Ok after
  accepted = ap (indices_changed (i + 1)) (ap of_applying (changed_is number k (write_at i bytes (snap.state k)) snap (written_to i bytes run.due.object) made)) ∙ in_indices_ok i after may.inside

  lawful_item : IsLawfulItem (At k (write_at i bytes (snap.state k))) snap.state
  unfolding index_bound
  lawful_item = (is_one, (all, λ j over. rw run.due.there (let is : (j == i) ≡ false = grind (arith, nat_tests, may.inside) in rw (same_place run.due.object.attr.block_size i j size_over, is) refl)))

  module _ (block : Ptr) (is : BlockIs has block (Data bytes)) (dated : block.number ≡ number) where
    at : (j : ℕ) → (j == i) ≡ true → with_leaf map (record { index = i; ptr = block }) j ≡ block
    at j test = leaf_here map (record { index = i; ptr = block }) j (grind (arith, nat_tests))

    beside : (j : ℕ) → (j == i) ≡ false → with_leaf map (record { index = i; ptr = block }) j ≡ map j
    beside j test = leaf_elsewhere map (record { index = i; ptr = block }) j (grind (arith, nat_tests))

    block_at : (j : ℕ) → j < index_bound → BlockIs has (with_leaf map (record { index = i; ptr = block }) j) ((written_to i bytes run.due.object).blocks j)
    block_at j less = rw (same_place run.due.object.attr.block_size i j size_over) (go (j == i) refl)
      where
        go : (same : Bool) → (j == i) ≡ same → BlockIs has (with_leaf map (record { index = i; ptr = block }) j) (if same then Data bytes else run.due.object.blocks j)
        go true test = rw (at j test) is
        go false test = rw (beside j test) (run.due.is.blocks j less)

    date_at : (j : ℕ) → j < index_bound → (with_leaf map (record { index = i; ptr = block }) j).number ≡ dates_to number k (write_at i bytes (snap.state k)) snap j
    date_at j less = rw run.due.there (rw (same_place run.due.object.attr.block_size i j size_over) (go (j == i) refl))
      where
        go : (same : Bool) → (j == i) ≡ same → (with_leaf map (record { index = i; ptr = block }) j).number ≡ (if same then number else snap.index_date k j)
        go true test = rw (at j test) dated
        go false test = rw (beside j test) (run.due.is.index_dates j less)

    end_at : max dnode.end (i + 1) ≡ end_of (written_to i bytes run.due.object)
    unfolding index_bound
    end_at = ap (λ (n : ℕ). max n (i + 1)) run.due.is.end_is ∙ sym (past_last-put run.due.object.blocks (written_to i bytes run.due.object).blocks i full same index_bound may.inside)
      where
        full : is_hole ((written_to i bytes run.due.object).blocks i) ≡ false
        full = let is : (i * run.due.object.attr.block_size == i * run.due.object.attr.block_size) ≡ true = eq-eqb _ _ refl in rw is refl

        same : (j : ℕ) → i < j → (written_to i bytes run.due.object).blocks j ≡ run.due.object.blocks j
        same j more = let is : (j == i) ≡ false = grind (arith, nat_tests) in rw (same_place run.due.object.attr.block_size i j size_over, is) refl

    pub run_goes_on : AppliedIsState → IsRun has before after k (with_end dnode (max dnode.end (i + 1))) (with_leaf map (record { index = i; ptr = block }))
    run_goes_on law = record {
      lawful = law number (At k (write_at i bytes (snap.state k))) snap after run.lawful lawful_item (changed_is number k (write_at i bytes (snap.state k)) snap (written_to i bytes run.due.object) made);
      bounded = change_bounded number k (write_at i bytes (snap.state k)) snap (written_to i bytes run.due.object) is_one run.bounded;
      due = record {
        object = written_to i bytes run.due.object;
        there = rw (same_number k) refl;
        is = record {
          type_is = run.due.is.type_is;
          bonus_type_is = run.due.is.bonus_type_is;
          size_is = run.due.is.size_is;
          bonus_is = run.due.is.bonus_is;
          date_is = run.due.is.date_is ∙ sym (date_put number k (write_at i bytes (snap.state k)) snap);
          end_is = end_at;
          spill_is = run.due.is.spill_is;
          blocks = block_at;
          index_dates = λ j less. date_at j less ∙ sym (dates_put number k (write_at i bytes (snap.state k)) snap j less);
        };
      };
      others = λ j number_j other. Alike-then before snap after j (run.others j number_j other) (kept_at number k (write_at i bytes (snap.state k)) snap (written_to i bytes run.due.object) j (beside_number k j other));
    }

-- once its tree has what is due, the slot of the object is put
pub run_ends : (has : Blocks) (before now : DatedState) (k : ℕ) (dnode : Dnode) (map : Map) (tree : Tree) → IsRun has before now k dnode map → TreeIs has tree map → PutsSlot has before now k (k + 1) (There (with_tree dnode tree dnode.end))
run_ends has before now k dnode map tree run stands = record {
  lawful = run.lawful;
  bounded = run.bounded;
  put = λ j number from below. subst (λ (n : ℕ). IsThere has now n (with_tree dnode tree dnode.end)) (omega (arith, from, below)) there;
  kept = λ j number other. run.others j number other;
}
  where
    there : IsThere has now k (with_tree dnode tree dnode.end)
    there = record {
      object = run.due.object;
      there = run.due.there;
      map = map;
      is = record {
        type_is = run.due.is.type_is;
        bonus_type_is = run.due.is.bonus_type_is;
        size_is = run.due.is.size_is;
        bonus_is = run.due.is.bonus_is;
        date_is = run.due.is.date_is;
        end_is = run.due.is.end_is;
        spill_is = run.due.is.spill_is;
        tree = stands;
        blocks = run.due.is.blocks;
        index_dates = run.due.is.index_dates;
      };
    }

-- an object may be written neighbouring whole blocks, which are bytes
pub record MayWrite (size i count : ℕ) (bytes : List ℕ) : Type 0 where
  pub whole : length bytes ≡ count * size
  pub alone : is_odd_size size ≡ true → i + count ≤ 1
  pub inside : i + count ≤ 2 ^ 43
  pub all : AreBytes bytes

pub may_write : (size i count : ℕ) (bytes : List ℕ) → length bytes ≡ count * size → is_odd_size size ≡ false → i + count ≤ 2 ^ 43 → AreBytes bytes → MayWrite size i count bytes
may_write size i count bytes whole even inside all = record { whole = whole; alone = λ odd. absurd (true≢false (sym odd ∙ even)); inside = inside; all = all }

pub may_write_one : (size i : ℕ) (bytes : List ℕ) → IsWritable size i (length bytes) → AreBytes bytes → MayWrite size i 1 bytes
may_write_one size i bytes may all = record { whole = may.whole ∙ omega arith; alone = λ odd. omega (arith, may.alone odd); inside = omega (arith, may.inside); all = all }

pub may_one : (size i count : ℕ) (bytes : List ℕ) → MayWrite size i (suc count) bytes → IsWritable size i (length (take size bytes))
may_one size i count bytes may = record {
  whole = length-take size bytes ∙ omega (arith, may.whole);
  alone = λ odd. omega (arith, may.alone odd);
  inside = omega (arith, may.inside);
}

pub may_rest : (size i count : ℕ) (bytes : List ℕ) → MayWrite size i (suc count) bytes → MayWrite size (i + 1) count (drop size bytes)
may_rest size i count bytes may = record {
  whole = length-drop size bytes ∙ omega (arith, may.whole);
  alone = λ odd. omega (arith, may.alone odd);
  inside = omega (arith, may.inside);
  all = All-drop (λ byte. byte < 2 ^ 8) size bytes may.all;
}

-- what neighbouring blocks make of a state, and what is due then
pub record Runs (has : Blocks) (number k size count i : ℕ) (bytes : List ℕ) (before snap : DatedState) (dnode : Dnode) (map : Map) : Type 0 where
  pub now : DatedState
  pub is : blocks_written number k size count i bytes snap ≡ Ok now
  pub run : IsRun has before now k dnode map

pub then_is : (first : Result DatedState Refusal) (mid : DatedState) (next : DatedState → Result DatedState Refusal) → first ≡ Ok mid → (first >>= next) ≡ next mid
then_is first mid next is = rw is refl

-- the first of them
pub record Step (has : Blocks) (number k size i : ℕ) (bytes : List ℕ) (before snap : DatedState) (dnode : Dnode) (map : Map) (leaf : Leaf) : Type 0 where
  pub mid : DatedState
  pub is : block_written number k i (take size bytes) snap ≡ Ok mid
  pub run : IsRun has before mid k (with_end dnode (max dnode.end (i + 1))) (with_leaf map leaf)

pub step : (has : Blocks) (number k size count i : ℕ) (bytes : List ℕ) (before snap : DatedState) (dnode : Dnode) (map : Map) (leaf : Leaf) → AppliedIsState → is_number k ≡ true → dnode.block_size ≡ size
    → IsRun has before snap k dnode map → MayWrite size i (suc count) bytes → IsWritten has number i (take size bytes) leaf → Step has number k size i bytes before snap dnode map leaf
step has number k size count i bytes before snap dnode map leaf law is_one size_is run may written =
    let may_be : IsWritable dnode.block_size i (length (take size bytes)) = subst (λ (n : ℕ). IsWritable n i (length (take size bytes))) (sym size_is) (may_one size i count bytes may) in
    let first_bytes : AreBytes (take size bytes) = All-take (λ byte. byte < 2 ^ 8) size bytes may.all in
    let same : record { index = i; ptr = leaf.ptr } ≡ leaf = ap (λ (n : ℕ). record { index = n; ptr = leaf.ptr }) (sym written.index_is) in
    record {
      mid = after has number k i (take size bytes) before snap dnode map run is_one may_be first_bytes;
      is = accepted has number k i (take size bytes) before snap dnode map run is_one may_be first_bytes;
      run = subst (λ (l : Leaf). IsRun has before (after has number k i (take size bytes) before snap dnode map run is_one may_be first_bytes) k (with_end dnode (max dnode.end (i + 1))) (with_leaf map l)) same
          (run_goes_on has number k i (take size bytes) before snap dnode map run is_one may_be first_bytes leaf.ptr written.block written.dated law);
    }

pub all_run : (has : Blocks) (number k size count i : ℕ) (bytes : List ℕ) (before snap : DatedState) (dnode : Dnode) (map : Map) (leaves : List Leaf) → AppliedIsState → is_number k ≡ true → dnode.block_size ≡ size → length leaves ≡ suc count
    → IsRun has before snap k dnode map → MayWrite size i (suc count) bytes → AreWritten has number size i bytes leaves
    → Runs has number k size (suc count) i bytes before snap (with_end dnode (max dnode.end (i + suc count))) (with_leaves map leaves)
unfolding AreWritten blocks_written with_leaves
all_run has number k size count i bytes before snap dnode map [] law is_one size_is long run may written = absurd (omega (arith, long))
all_run has number k size zero i bytes before snap dnode map (leaf ∷ []) law is_one size_is long run may written =
    let one = step has number k size zero i bytes before snap dnode map leaf law is_one size_is run may written.0 in
    record {
      now = one.mid;
      is = then_is (block_written number k i (take size bytes) snap) one.mid (blocks_written number k size zero (i + 1) (drop size bytes)) one.is;
      run = one.run;
    }
all_run has number k size zero i bytes before snap dnode map (leaf ∷ (next ∷ rest)) law is_one size_is long run may written = absurd (omega (arith, long))
all_run has number k size (suc count) i bytes before snap dnode map (leaf ∷ rest) law is_one size_is long run may written =
    let one = step has number k size (suc count) i bytes before snap dnode map leaf law is_one size_is run may written.0 in
    let more = all_run has number k size count (i + 1) (drop size bytes) before one.mid (with_end dnode (max dnode.end (i + 1))) (with_leaf map leaf) rest law is_one size_is (omega (arith, long)) one.run (may_rest size i (suc count) bytes may) written.1 in
    let ends : max (max dnode.end (i + 1)) (i + 1 + suc count) ≡ max dnode.end (i + suc (suc count)) = omega arith in
    record {
      now = more.now;
      is = then_is (block_written number k i (take size bytes) snap) one.mid (blocks_written number k size (suc count) (i + 1) (drop size bytes)) one.is ∙ more.is;
      run = subst (λ (n : ℕ). IsRun has before more.now k (with_end dnode n) (with_leaves (with_leaf map leaf) rest)) ends more.run;
    }

-- the blocks of a text of them
pub block_is : (k size : ℕ) (bytes : List ℕ) → take ((k + 1) * size - k * size) (drop (k * size) bytes) ≡ block_of size bytes k
block_is k size bytes = let one : (k + 1) * size - k * size ≡ size = omega arith in ap (λ (n : ℕ). take n (drop (k * size) bytes)) one

pub block_long : (k size count : ℕ) (bytes : List ℕ) → k < count → length bytes ≡ count * size → length (block_of size bytes k) ≡ size
block_long k size count bytes less long =
    let inside : (k + 1) * size ≤ count * size = mul-le-mul_right size (omega arith) in
    length-take size (drop (k * size) bytes) ∙ omega (arith, inside, long, length-drop (k * size) bytes)

IsWritten-grows : (has more : Blocks) → ((ptr : Ptr) (bytes : List ℕ) → has ptr bytes → more ptr bytes) → (number i : ℕ) (bytes : List ℕ) (leaf : Leaf) → IsWritten has number i bytes leaf → IsWritten more number i bytes leaf
IsWritten-grows has more up number i bytes leaf is = record { index_is = is.index_is; block = (is.block.0, up leaf.ptr bytes is.block.1); dated = is.dated }

-- one leaf more is written
pub so_far_more : (has more : Blocks) → ((ptr : Ptr) (bytes : List ℕ) → has ptr bytes → more ptr bytes) → (number size i : ℕ) (bytes : List ℕ) (into : List Leaf) (k : ℕ) (leaf : Leaf) → k < length into
    → AreSoFar has number size i bytes into k → IsWritten more number (i + k) (block_of size bytes k) leaf → AreSoFar more number size i bytes (set into k leaf) (k + 1)
so_far_more has more up number size i bytes into k leaf inside so_far is = λ j d less. ⊎_elim
    (λ lower. subst (IsWritten more number (i + j) (block_of size bytes j)) (sym (get_or-set_other into k j leaf d (omega arith))) (IsWritten-grows has more up number (i + j) (block_of size bytes j) (get_or into j d) (so_far j d lower)))
    (λ over. last j d (omega arith)) (cases_lt j k)
  where
    last : (j : ℕ) (d : Leaf) → j ≡ k → IsWritten more number (i + j) (block_of size bytes j) (get_or (set into k leaf) j d)
    last j d same = subst (λ (n : ℕ). IsWritten more number (i + n) (block_of size bytes n) (get_or (set into k leaf) n d)) (sym same)
        (subst (IsWritten more number (i + k) (block_of size bytes k)) (sym (get_or-set_same into k leaf d inside)) is)

-- all of them are
pub are_written : (has : Blocks) (number size i : ℕ) (bytes : List ℕ) (leaves : List Leaf) → AreSoFar has number size i bytes leaves (length leaves) → AreWritten has number size i bytes leaves
unfolding AreWritten
are_written has number size i bytes [] so_far = tt
are_written has number size i bytes (leaf ∷ rest) so_far = (
  let none : 0 * size ≡ 0 = omega arith in
      let same : i + 0 ≡ i = omega arith in
      subst (λ (n : ℕ). IsWritten has number n (take size bytes) leaf) same
      (subst (λ (m : ℕ). IsWritten has number (i + 0) (take size (drop m bytes)) leaf) none (so_far 0 leaf (omega arith))),
  are_written has number size (i + 1) (drop size bytes) rest
      (λ j d less. let at : i + suc j ≡ i + 1 + j = omega arith in
      let place : size + j * size ≡ suc j * size = omega arith in
      let text : drop (suc j * size) bytes ≡ drop (j * size) (drop size bytes) = sym (drop-drop (j * size) size bytes ∙ ap (λ (n : ℕ). drop n bytes) place) in
      subst (λ (n : ℕ). IsWritten has number n (take size (drop (j * size) (drop size bytes))) (get_or rest j d)) at
      (subst (λ (l : List ℕ). IsWritten has number (i + suc j) (take size l) (get_or rest j d)) text (so_far (suc j) d (omega arith)))),
)

pub AreWritten-grows : (has more : Blocks) → ((ptr : Ptr) (bytes : List ℕ) → has ptr bytes → more ptr bytes) → (number size i : ℕ) (bytes : List ℕ) (leaves : List Leaf) → AreWritten has number size i bytes leaves → AreWritten more number size i bytes leaves
unfolding AreWritten
AreWritten-grows has more up number size i bytes [] written = tt
AreWritten-grows has more up number size i bytes (first ∷ rest) written = (
  IsWritten-grows has more up number i (take size bytes) first written.0,
  AreWritten-grows has more up number size (i + 1) (drop size bytes) rest written.1,
)

-- a list of leaves that name blocks where every pointer does, to show that the definition accepts
made_up : (number i count : ℕ) → List Leaf
made_up number i zero = []
made_up number i (suc count) = record { index = i; ptr = record { kind = 1; level = 0; length = 0; sector = 0; number = number; sum = record { a = 0; b = 0; c = 0; d = 0 } } } ∷ made_up number (i + 1) count

-- every pointer names every text
abbrev pub Anything : Blocks
Anything ptr bytes = Unit {0}

made_up-long : (number i count : ℕ) → length (made_up number i count) ≡ count
unfolding made_up
made_up-long number i zero = refl
made_up-long number i (suc count) = omega (arith, made_up-long number (i + 1) count)

made_up-written : (number size i count : ℕ) (bytes : List ℕ) → AreWritten Anything number size i bytes (made_up number i count)
unfolding AreWritten made_up
made_up-written number size i zero bytes = tt
made_up-written number size i (suc count) bytes = (record { index_is = refl; block = (refl, tt); dated = refl }, made_up-written number size (i + 1) count (drop size bytes))

-- so the definition makes something of the state
pub all_accepted : (has : Blocks) (number k size count i : ℕ) (bytes : List ℕ) (snap : DatedState) (dnode : Dnode) → AppliedIsState → is_number k ≡ true → dnode.block_size ≡ size → 0 < count → IsState snap.state → IsBounded snap → IsThere has snap k dnode
    → MayWrite size i count bytes → (after : DatedState) × (blocks_written number k size count i bytes snap ≡ Ok after)
all_accepted has number k size zero i bytes snap dnode law is_one size_is some lawful bounded there may = absurd (omega (arith, some))
all_accepted has number k size (suc count) i bytes snap dnode law is_one size_is some lawful bounded there may =
    let anything = IsThere-grows has Anything (λ ptr text is. tt) snap k dnode there in
    let runs = all_run Anything number k size count i bytes snap snap dnode anything.map (made_up number i (suc count)) law is_one size_is (made_up-long number i (suc count)) (run_begins Anything snap k dnode lawful bounded anything) may (made_up-written number size i (suc count) bytes) in
    (runs.now, runs.is)

-- the first block is refused
first_err : (first : Result DatedState Refusal) (refusal : Refusal) (next : DatedState → Result DatedState Refusal) → first ≡ Err refusal → (first >>= next) ≡ Err refusal
first_err first refusal next is = rw is refl

pub no_blocks_there : (has : Blocks) (number k size count i : ℕ) (bytes : List ℕ) (snap : DatedState) (fault : ObjFault) → 0 < count → FindsThere has snap k (Err fault) → Refuses (blocks_written number k size count i bytes snap) fault
unfolding blocks_written
no_blocks_there has number k size zero i bytes snap fault some is = absurd (omega (arith, some))
no_blocks_there has number k size (suc count) i bytes snap (faults.CannotApply fault) some is = first_err (block_written number k i (take size bytes) snap) (refusals.CannotApply 0 fault) (blocks_written number k size count (i + 1) (drop size bytes)) (write_not_there has number k i (take size bytes) snap (faults.CannotApply fault) is)
no_blocks_there has number k size (suc count) i bytes snap (faults.Redacted object block) some is = absurd is
no_blocks_there has number k size (suc count) i bytes snap (faults.Limit which limit) some is = absurd is
no_blocks_there has number k size (suc count) i bytes snap (faults.Block (blocks.Full need largest)) some is = absurd is
no_blocks_there has number k size (suc count) i bytes snap (faults.Block (blocks.Damaged sector stated found)) some is = absurd is
no_blocks_there has number k size (suc count) i bytes snap (faults.Block blocks.DiskFault) some is = tt

pub blocks_differ : (has : Blocks) (number k size count i : ℕ) (bytes : List ℕ) (snap : DatedState) (dnode : Dnode) → IsThere has snap k dnode → IsState snap.state → size ≢ dnode.block_size → 0 < count → length bytes ≡ count * size
    → Refuses (blocks_written number k size count i bytes snap) (faults.CannotApply SizeDiffers)
unfolding blocks_written
blocks_differ has number k size zero i bytes snap dnode there lawful differs some long = absurd (omega (arith, some))
blocks_differ has number k size (suc count) i bytes snap dnode there lawful differs some long =
    let one : length (take size bytes) ≡ size = length-take size bytes ∙ omega (arith, long) in
    let test : not (length (take size bytes) == dnode.block_size) ≡ true = rw one (grind (arith, nat_tests)) in
    first_err (block_written number k i (take size bytes) snap) (refusals.CannotApply 0 SizeDiffers) (blocks_written number k size count (i + 1) (drop size bytes))
    (is_refused has number k i (take size bytes) snap dnode there lawful (faults.CannotApply SizeDiffers) (rw test refl))

-- the dnode is in its ranges
pub run_fits : (dnode : Dnode) (tree : Tree) (size i count : ℕ) → DnodeFits dnode → dnode.block_size ≡ size → is_odd_size size ≡ false → i + count ≤ 2 ^ 43 → (0 < tree.levels) × NamesNode tree.levels tree.root → tree.levels ≤ 7 → PtrFits tree.root → tree.past < 2 ^ 64
    → DnodeFits (with_tree dnode tree (max dnode.end (i + count)))
unfolding index_bound
run_fits dnode tree size i count fits size_is even inside root levels ptr past =
    with_tree_fits dnode tree (max dnode.end (i + count)) fits levels ptr past (named_fits dnode.block_size tree.levels tree.root root.0 root.1.kind) (omega (arith, fits.end, inside))
    (λ odd. absurd (true≢false (sym odd ∙ (ap is_odd_size size_is ∙ even))))

-- nothing is due yet, over more blocks
pub run_begins_over : (has more : Blocks) → ((ptr : Ptr) (bytes : List ℕ) → has ptr bytes → more ptr bytes) → (snap : DatedState) (k : ℕ) (dnode : Dnode) → IsState snap.state → IsBounded snap → (there : IsThere has snap k dnode) → IsRun more snap snap k dnode there.map
run_begins_over has more up snap k dnode lawful bounded there =
    let is = ObjectIs-grows has more up dnode there.object (snap.number_date k) (snap.index_date k) there.map there.is in
    run_begins more snap k dnode lawful bounded (record { object = there.object; there = there.there; map = there.map; is = is })

-- leaves for later indices leave an index as it is
kept_before : (has : Blocks) (number size i j : ℕ) (bytes : List ℕ) (map : Map) (leaves : List Leaf) → j < i → AreWritten has number size i bytes leaves → with_leaves map leaves j ≡ map j
unfolding AreWritten with_leaves
kept_before has number size i j bytes map [] less written = refl
kept_before has number size i j bytes map (first ∷ rest) less written =
    kept_before has number size (i + 1) j (drop size bytes) (with_leaf map first) rest (omega arith) written.1 ∙ leaf_elsewhere map first j (omega (arith, written.0.index_is))

-- so the first index has the date of the commit
first_dated : (has : Blocks) (number size i : ℕ) (bytes : List ℕ) (map : Map) (leaves : List Leaf) → 0 < length leaves → AreWritten has number size i bytes leaves → (with_leaves map leaves i).number ≡ number
unfolding AreWritten with_leaves
first_dated has number size i bytes map [] some written = absurd (omega (arith, some))
first_dated has number size i bytes map (first ∷ rest) some written =
    ap (λ (ptr : Ptr). ptr.number) (kept_before has number size (i + 1) i (drop size bytes) (with_leaf map first) rest (omega arith) written.1 ∙ leaf_here map first i (sym written.0.index_is)) ∙ written.0.dated

-- the slot of an object with a later tree tells no later date than one of its indices has
pub run_tight : (has : Blocks) (number k size i : ℕ) (bytes : List ℕ) (before now : DatedState) (was : Dnode) (map : Map) (leaves : List Leaf) (tree : Tree) (end : ℕ) → DatedUpTo number before → IsTightSlot before k (There was) → TreeDatedUpTo number tree
    → 0 < length leaves → i < index_bound → AreWritten has number size i bytes leaves → IsRun has before now k (with_end was end) (with_leaves map leaves) → IsTightSlot now k (There (with_tree was tree end))
run_tight has number k size i bytes before now was map leaves tree end dated tight early some inside written run =
    let was_early = tight_dated number before k (There was) dated tight in
    let here : number ≡ now.index_date k i = sym (first_dated has number size i bytes map leaves some written) ∙ run.due.is.index_dates i inside in
    inr (i, inside, omega (arith, was_early, early.0, early.1, here))

-- and no number bounds the dates of the state that doesn't bound those before it, since one of the indices has the commit's
pub run_rises : (has : Blocks) (number k size i : ℕ) (bytes : List ℕ) (before now : DatedState) (was : Dnode) (map : Map) (leaves : List Leaf) (end : ℕ) → DatedUpTo number before
    → 0 < length leaves → i < index_bound → AreWritten has number size i bytes leaves → IsRun has before now k (with_end was end) (with_leaves map leaves) → DatesRise before now
run_rises has number k size i bytes before now was map leaves end dated some inside written run bound later =
    let here : number ≡ now.index_date k i = sym (first_dated has number size i bytes map leaves some written) ∙ run.due.is.index_dates i inside in
    record { numbers = λ j. omega (arith, here, later.indices k i, dated.numbers j); indices = λ j m. omega (arith, here, later.indices k i, dated.indices j m) }

-- an object that is tight has a tree of no later date
pub tree_early : (number k : ℕ) (snap : DatedState) (dnode : Dnode) → DatedUpTo number snap → IsTightSlot snap k (There dnode) → TreeDatedUpTo number (tree_of dnode)
tree_early number k snap dnode dated tight = let early = tight_dated number snap k (There dnode) dated tight in (omega (arith, early), omega (arith, early))

-- what is put once a tree has the blocks
pub record BlocksEnd (has : Blocks) (number k size count i : ℕ) (bytes : List ℕ) (before : DatedState) (was made : Dnode) (tree : Tree) : Type 0 where
  pub now : DatedState
  pub is : blocks_written number k size count i bytes before ≡ Ok now
  pub puts : PutsSlot has before now k (k + 1) (There made)
  pub tight : DatedUpTo number before → IsTightSlot before k (There was) → TreeDatedUpTo number tree → IsTightSlot now k (There made)
  pub rises : DatedUpTo number before → DatesRise before now

pub blocks_end : (has : Blocks) (number k size count i : ℕ) (bytes : List ℕ) (before : DatedState) (was made : Dnode) (map : Map) (tree : Tree) → AppliedIsState → is_number k ≡ true → was.block_size ≡ size → 0 < count → IsRun has before before k was map
    → MayWrite size i count bytes → PutsBlocks has map number size count i bytes tree → made ≡ with_tree was tree (max was.end (i + count)) → BlocksEnd has number k size count i bytes before was made tree
blocks_end has number k size zero i bytes before was made map tree law is_one size_is some run may put made_is = absurd (omega (arith, some))
blocks_end has number k size (suc count) i bytes before was made map tree law is_one size_is some run may put made_is =
    let end = max was.end (i + suc count) in
    let runs = all_run has number k size count i bytes before before was map put.leaves law is_one size_is put.long run may put.written in
    record {
      now = runs.now;
      is = runs.is;
      puts = subst (λ (d : Dnode). PutsSlot has before runs.now k (k + 1) (There d)) (sym made_is) (run_ends has before runs.now k (with_end was end) (with_leaves map put.leaves) tree runs.run put.tree_is);
      tight = λ dated tight early. subst (λ (d : Dnode). IsTightSlot runs.now k (There d)) (sym made_is)
          (run_tight has number k size i bytes before runs.now was map put.leaves tree end dated tight early (omega (arith, put.long)) (index_under i (omega (arith, may.inside))) put.written runs.run);
      rises = λ dated. run_rises has number k size i bytes before runs.now was map put.leaves end dated (omega (arith, put.long)) (index_under i (omega (arith, may.inside))) put.written runs.run;
    }

-- a write of one block
written_last : (number k size i : ℕ) (bytes : List ℕ) (first : Result DatedState Refusal) → (first >>= blocks_written number k size 0 i bytes) ≡ first
unfolding blocks_written
written_last number k size i bytes (Ok snap) = refl
written_last number k size i bytes (Err refusal) = refl

pub one_written : (number k size i : ℕ) (bytes : List ℕ) (snap : DatedState) → length bytes ≡ size → blocks_written number k size 1 i bytes snap ≡ block_written number k i bytes snap
unfolding blocks_written
one_written number k size i bytes snap whole =
    written_last number k size (i + 1) (drop size bytes) (block_written number k i (take size bytes) snap)
    ∙ ap (λ (text : List ℕ). block_written number k i text snap) (take_all size bytes (omega (arith, whole)))

-- a tree that has it
pub puts_one : (has : Blocks) (old : Map) (number size i : ℕ) (bytes : List ℕ) (tree : Tree) → length bytes ≡ size → PutsData has old i bytes number tree → PutsBlocks has old number size 1 i bytes tree
unfolding AreWritten with_leaves
puts_one has old number size i bytes tree whole put = record {
  leaves = record { index = i; ptr = put.block } ∷ [];
  long = refl;
  written = (record { index_is = refl; block = subst (λ (text : List ℕ). BlockIs has put.block (Data text)) (sym (take_all size bytes (omega (arith, whole)))) put.is; dated = put.date }, tt);
  tree_is = record { whole = put.tree_is.whole; stands = put.tree_is.stands; agrees = λ j less. same j less ∙ put.tree_is.agrees j less };
}
  where
    same : (j : ℕ) → j < 2 ^ 44 → with_leaf old (record { index = i; ptr = put.block }) j ≡ put.map j
    same j less = ⊎_elim
        (λ lower. leaf_elsewhere old (record { index = i; ptr = put.block }) j (omega arith) ∙ sym (put.puts.beside.before j (omega arith) lower))
        (λ over. ⊎_elim
        (λ higher. leaf_elsewhere old (record { index = i; ptr = put.block }) j (omega arith) ∙ sym (put.puts.beside.behind j (omega arith) less))
        (λ at. leaf_here old (record { index = i; ptr = put.block }) j (omega arith) ∙ sym (put.puts.inside.is j (omega arith) (omega arith))) (cases_lt i j)) (cases_lt j i)
