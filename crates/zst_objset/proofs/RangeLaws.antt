-- What a change of a range of indices makes, and what it is refused for.
use Rattle.std.proofs.Common.{◌≡◌, ℕ, ◌+◌, ◌*◌, ◌<◌, ◌≤◌, ◌==◌, ◌||◌, ◌&&◌, not, nat_lt, length, Bool, true, false, refl, sym, ap, ◌∙◌, subst, arith, Option, Some, None, Result, Ok, Err, if◌then◌else◌}
use Rattle.std.proofs.Math.Nat.{mul-mod_left}
use Rattle.std.proofs.Math.Path.{fun_ext}
use Rattle.std.proofs.lemmas.Bool.{false≢true}
use Rattle.std.proofs.lemmas.Bool.Decides.{nat_tests}
use Rattle.zst_block.specs.Ptr.{hole_of, redacted_of}
use Rattle.zst_block.specs.declared.ptr.Ptr.{Ptr}
use Rattle.zst_dnode.specs.Dnode.{DnodeFits}
use Rattle.zst_dnode.specs.declared.dnode.Dnode.{Dnode}
use Rattle.zst_laws.specs.Dates.{IsLawfulItem}
use Rattle.zst_model.proofs.Sizes.{size_of_lawful}
use Rattle.zst_model.specs.declared.refusals.apply_fault.ApplyFault.{ApplyFault}
use Rattle.zst_model.specs.declared.refusals.apply_fault.ApplyFault.TheVariants.{NoObject, NotUserData, OddBlock, Unaligned}
use Rattle.zst_model.specs.declared.states.item.Change.{Change}
use Rattle.zst_model.specs.declared.states.item.Change.TheVariants.{Free, Redact}
use Rattle.zst_model.specs.declared.states.item.Item.TheVariants.{At}
use Rattle.zst_model.specs.states.AppliedItems.{◌>>=◌, apply_change, is_unaligned, unless, within}
use Rattle.zst_model.specs.states.DatedState.{DatedState, dates_index, dates_number}
use Rattle.zst_model.specs.states.State.{Block, Hole, Redacted, Object, IsObject, IsState, end_of, index_bound, is_number, is_odd_size}
use Rattle.zst_tree.specs.Indices.{Blocks, Map, TreeIs}
use Rattle.zst_tree.specs.declared.tree.Tree.{Tree}
use Rattle.zst_objset.specs.Changes.{changed}
use Rattle.zst_objset.specs.Dnodes.{BlockIs, IsThere, ObjectIs, tree_of}
use Rattle.zst_objset.specs.SlotPuts.{MakesDnode, date_to, dates_to}
use Rattle.zst_objset.specs.Ranges.{change_of, free_of, put_range, range_check, redact_of, redaction_check, with_range}
use Rattle.zst_objset.specs.declared.ranges.RangeChange.{RangeChange}
use Rattle.zst_objset.specs.declared.ranges.RangeChange.TheVariants as ranges
use Rattle.zst_objset.proofs.AnswerLaws.{object_of}
use Rattle.zst_objset.proofs.ChangePuts.{changed_to}
use Rattle.zst_objset.proofs.IndicesChanged.{change_made}
use Rattle.zst_objset.proofs.RangeIndices.{one_times, some_times, within_times}
use Rattle.zst_objset.proofs.TreeFits.{with_tree}

aligned : (size n : ℕ) → is_unaligned size (n * size) ≡ false
aligned size n = rw (mul-mod_left n size) refl

-- what a change of a range makes of an object's blocks
range_blocks : (first count size : ℕ) (block : Block) (blocks : ℕ → Block) → 0 < size
    → ◌≡◌ {A = ℕ → Block} (λ i. if within (first * size) (count * size) (i * size) then block else blocks i) (put_range first count block blocks)
range_blocks first count size block blocks some = fun_ext (λ i. ap (λ b. if b then block else blocks i) (within_times first count size i some))

-- a FREE makes holes of it
free_makes : (first count : ℕ) (object : Object) → 0 < object.attr.block_size → apply_change (free_of first count (Some object)) (Some object) ≡ Ok (Some (with_range first count Hole object))
unfolding apply_change
free_makes first count object some =
    let size = object.attr.block_size in
    ap (λ b. unless (b || is_unaligned size (count * size)) Unaligned made) (aligned size first)
    ∙ ap (λ b. unless b Unaligned made) (aligned size count)
    ∙ ap (λ blocks. Ok (Some (record { attr = object.attr; blocks = blocks }))) (range_blocks first count size Hole object.blocks some)
  where
    made : Result (Option Object) ApplyFault
    made = Ok (Some (record { attr = object.attr; blocks = λ i. if within (first * object.attr.block_size) (count * object.attr.block_size) (i * object.attr.block_size) then Hole else object.blocks i }))

checked_then : {A : Type 0} (a b : Bool) (x y : ApplyFault) (made : A) → unless a x (unless b y (Ok made)) ≡ (unless a x (unless b y (Ok tt)) >>= λ (done : Unit {0}). Ok made)
checked_then true b x y made = refl
checked_then false true x y made = refl
checked_then false false x y made = refl

-- a REDACT redacts it, or is refused
redact_makes : (first count : ℕ) (dnode : Dnode) (object : Object) → dnode.type_ ≡ object.attr.type_ → dnode.block_size ≡ object.attr.block_size → 0 < object.attr.block_size
    → apply_change (redact_of first count (Some object)) (Some object) ≡ (redaction_check dnode first count >>= λ done. Ok (Some (with_range first count Redacted object)))
unfolding apply_change
redact_makes first count dnode object type_is size_is some =
    let size = object.attr.block_size in
    let odd = is_odd_size size && (nat_lt 0 (count * size) && nat_lt size (first * size + count * size)) in
    ap (λ b. unless user NotUserData (unless (b || is_unaligned size (count * size)) Unaligned (unless odd OddBlock made))) (aligned size first)
    ∙ ap (λ b. unless user NotUserData (unless b Unaligned (unless odd OddBlock made))) (aligned size count)
    ∙ ap (λ b. unless user NotUserData (unless (is_odd_size size && (b && nat_lt size (first * size + count * size))) OddBlock made)) (some_times count size some)
    ∙ ap (λ b. unless user NotUserData (unless (is_odd_size size && (nat_lt 0 count && b)) OddBlock made)) (one_times first count size some)
    ∙ ap (λ blocks. unless user NotUserData (unless (is_odd_size size && (nat_lt 0 count && nat_lt 1 (first + count))) OddBlock (Ok (Some (record { attr = object.attr; blocks = blocks }))))) (range_blocks first count size Redacted object.blocks some)
    ∙ ap (λ n. unless (not (n == 19 || n == 23)) NotUserData (unless (is_odd_size size && (nat_lt 0 count && nat_lt 1 (first + count))) OddBlock (Ok (Some (with_range first count Redacted object))))) (sym type_is)
    ∙ ap (λ n. unless (not (dnode.type_ == 19 || dnode.type_ == 23)) NotUserData (unless (is_odd_size n && (nat_lt 0 count && nat_lt 1 (first + count))) OddBlock (Ok (Some (with_range first count Redacted object))))) (sym size_is)
    ∙ checked_then (not (dnode.type_ == 19 || dnode.type_ == 23)) (is_odd_size dnode.block_size && (nat_lt 0 count && nat_lt 1 (first + count))) NotUserData OddBlock (Some (with_range first count Redacted object))
  where
    user : Bool
    user = not (object.attr.type_ == 19 || object.attr.type_ == 23)

    made : Result (Option Object) ApplyFault
    made = Ok (Some (record { attr = object.attr; blocks = λ i. if within (first * object.attr.block_size) (count * object.attr.block_size) (i * object.attr.block_size) then Redacted else object.blocks i }))

-- no object stands there
pub no_free : (offset length : ℕ) → apply_change (Free offset length) None ≡ Err NoObject
unfolding apply_change
no_free offset length = refl

pub no_redact : (offset length : ℕ) → apply_change (Redact offset length) None ≡ Err NoObject
unfolding apply_change
no_redact offset length = refl

pub no_change : (change : RangeChange) (first count : ℕ) (state : Option Object) → apply_change (change_of change first count state) None ≡ Err NoObject
no_change ranges.Punch first count state = no_free _ _
no_change ranges.Redact first count state = no_redact _ _

-- or one does
module _ (first count : ℕ) (state : Option Object) (object : Object) (there : state ≡ Some object) (lawful : IsObject object) where
  free_made : apply_change (free_of first count state) state ≡ Ok (Some (with_range first count Hole object))
  free_made = rw there (free_makes first count object (size_of_lawful object lawful))

  redact_made : (dnode : Dnode) → dnode.type_ ≡ object.attr.type_ → dnode.block_size ≡ object.attr.block_size → (check : Result (Unit {0}) ApplyFault) → redaction_check dnode first count ≡ check
      → apply_change (redact_of first count state) state ≡ (check >>= λ done. Ok (Some (with_range first count Redacted object)))
  redact_made dnode type_is size_is check is =
      rw there (redact_makes first count dnode object type_is size_is (size_of_lawful object lawful))
      ∙ ap (λ (r : Result (Unit {0}) ApplyFault). r >>= λ done. Ok (Some (with_range first count Redacted object))) is

-- what the definition makes of an object that is there
module _ (has : Blocks) (number k first count : ℕ) (state : DatedState) (dnode : Dnode) (lawful : IsState state.state) (there : IsThere has state k dnode) where
  abbrev object_there : IsObject there.object
  object_there = object_of (state.state k) there.object there.there (lawful.objects k)

  free_is : changed number (At k (free_of first count (state.state k))) state ≡ Ok (changed_to number k (free_of first count (state.state k)) state (with_range first count Hole there.object))
  free_is = change_made number k (free_of first count (state.state k)) state (with_range first count Hole there.object) (free_made first count (state.state k) there.object there.there object_there)

  redact_is : redaction_check dnode first count ≡ Ok tt
      → changed number (At k (redact_of first count (state.state k))) state ≡ Ok (changed_to number k (redact_of first count (state.state k)) state (with_range first count Redacted there.object))
  redact_is checked =
      change_made number k (redact_of first count (state.state k)) state (with_range first count Redacted there.object)
      (redact_made first count (state.state k) there.object there.there object_there dnode there.is.type_is there.is.size_is (Ok tt) checked)

  redact_refused : (fault : ApplyFault) → redaction_check dnode first count ≡ Err fault → apply_change (redact_of first count (state.state k)) (state.state k) ≡ Err fault
  redact_refused fault checked = redact_made first count (state.state k) there.object there.there object_there dnode there.is.type_is there.is.size_is (Err fault) checked

  pub change_is : (change : RangeChange) → range_check change dnode first count ≡ Ok tt
      → (after : DatedState) × (changed number (At k (change_of change first count (state.state k))) state ≡ Ok after)
  change_is ranges.Punch checked = (_, free_is)
  change_is ranges.Redact checked = (_, redact_is checked)

  pub change_fails : (change : RangeChange) (fault : ApplyFault) → range_check change dnode first count ≡ Err fault → apply_change (change_of change first count (state.state k)) (state.state k) ≡ Err fault
  change_fails ranges.Punch fault checked = absurd (cc)
  change_fails ranges.Redact fault checked = redact_refused fault checked

odd_checked : (a odd some past : Bool) → unless a NotUserData (unless (odd && (some && past)) OddBlock (Ok tt)) ≡ Ok (tt {0}) → odd ≡ true → some ≡ true → past ≡ false
odd_checked true odd some past checked is_odd is_some = absurd (cc)
odd_checked false true true true checked is_odd is_some = absurd (cc)
odd_checked false true true false checked is_odd is_some = refl
odd_checked false true false past checked is_odd is_some = absurd (false≢true is_some)
odd_checked false false some past checked is_odd is_some = absurd (false≢true is_odd)

-- with an odd block size a redaction that isn't refused has no index over 0
pub redacted_odd : (dnode : Dnode) (first count : ℕ) → redaction_check dnode first count ≡ Ok tt → is_odd_size dnode.block_size ≡ true → 0 < count → first + count ≤ 1
redacted_odd dnode first count checked odd some =
    let test : nat_lt 0 count ≡ true = grind (arith, nat_tests) in
    let past : nat_lt 1 (first + count) ≡ false = odd_checked _ _ _ _ checked odd test in
    grind (arith, nat_tests)

-- A change of this commit gives a block to a range of an object's indices, and a leaf with its date stands for the block.
pub record Fills (has : Blocks) (number k first count : ℕ) (change : Change) (block : Block) (leaf : Ptr) (state : DatedState) (object : Object) : Type 0 where
  pub made : apply_change change (state.state k) ≡ Ok (Some (with_range first count block object))
  pub lawful : IsLawfulItem (At k change) state.state
  pub undated : dates_number change ≡ false
  pub dates : (i : ℕ) → dates_index change (state.state k) i ≡ within first count i
  pub stands : BlockIs has leaf block
  pub number_is : leaf.number ≡ number

module _ (has : Blocks) (number k first count : ℕ) (state : DatedState) (object : Object) (there : state.state k ≡ Some object) (lawful : IsObject object) (is_one : is_number k ≡ true) where
  inside_range : (i : ℕ) → within (first * object.attr.block_size) (count * object.attr.block_size) (i * object.attr.block_size) ≡ within first count i
  inside_range i = within_times first count object.attr.block_size i (size_of_lawful object lawful)

  -- a punch, and a redaction that isn't refused
  pub Fills-free : Fills has number k first count (free_of first count (state.state k)) Hole (hole_of number) state object
  Fills-free = record {
    made = free_made first count (state.state k) object there lawful;
    lawful = (is_one, tt);
    undated = refl;
    dates = λ i. rw there (inside_range i);
    stands = refl;
    number_is = refl;
  }

  pub Fills-redact : (dnode : Dnode) → dnode.type_ ≡ object.attr.type_ → dnode.block_size ≡ object.attr.block_size → first + count ≤ index_bound → redaction_check dnode first count ≡ Ok tt
      → Fills has number k first count (redact_of first count (state.state k)) Redacted (redacted_of number) state object
  Fills-redact dnode type_is size_is range checked = record {
    made = redact_made first count (state.state k) object there lawful dnode type_is size_is (Ok tt) checked;
    lawful = (is_one, λ i over. rw there (inside_range i ∙ past i over));
    undated = refl;
    dates = λ i. rw there (inside_range i);
    stands = refl;
    number_is = refl;
  }
    where
      past : (i : ℕ) → index_bound ≤ i → within first count i ≡ false
      past i over = grind (arith, nat_tests)

-- A tree has a leaf at each index of a range, and else what another map has.
pub record HasRange (has : Blocks) (tree : Tree) (first count : ℕ) (leaf : Ptr) (map put : Map) : Type 0 where
  pub holds : TreeIs has tree put
  pub puts : (i : ℕ) → i < index_bound → put i ≡ put_range first count leaf map i

module _ (has : Blocks) (number k first count : ℕ) (change : Change) (block : Block) (leaf : Ptr) (state : DatedState) (dnode : Dnode) (tree : Tree) (end : ℕ) (put : Map) (object : Object) (map : Map) (was : ObjectIs has dnode object (state.number_date k) (state.index_date k) map)
    (fills : Fills has number k first count change block leaf state object) (has_range : HasRange has tree first count leaf map put) (end_is : end ≡ end_of (with_range first count block object)) where
  block_at : (i : ℕ) (t : Bool) → within first count i ≡ t → BlockIs has (map i) (object.blocks i) → BlockIs has (put_range first count leaf map i) (put_range first count block object.blocks i)
  block_at i true test old = rw test fills.stands
  block_at i false test old = rw test old

  date_at : (i : ℕ) (t : Bool) → within first count i ≡ t → (map i).number ≡ state.index_date k i → (put_range first count leaf map i).number ≡ dates_to number k change state i
  date_at i true test old = rw (fills.dates i, test) fills.number_is
  date_at i false test old = rw (fills.dates i, test) old

  -- the object's dnode, with that tree
  range_object : ObjectIs has (with_tree dnode tree end) (with_range first count block object) (date_to number k change state) (dates_to number k change state) put
  range_object = record {
    type_is = was.type_is;
    bonus_type_is = was.bonus_type_is;
    size_is = was.size_is;
    bonus_is = was.bonus_is;
    date_is = rw fills.undated was.date_is;
    end_is = end_is;
    spill_is = was.spill_is;
    tree = has_range.holds;
    blocks = λ i less. subst (λ (ptr : Ptr). BlockIs has ptr (put_range first count block object.blocks i)) (sym (has_range.puts i less)) (block_at i (within first count i) refl (was.blocks i less));
    index_dates = λ i less. ap (λ (ptr : Ptr). ptr.number) (has_range.puts i less) ∙ date_at i (within first count i) refl (was.index_dates i less);
  }

  pub makes_range : DnodeFits (with_tree dnode tree end) → MakesDnode has number k change state (with_tree dnode tree end)
  makes_range fits = record {
    object = with_range first count block object;
    made = fills.made;
    lawful = fills.lawful;
    fits = fits;
    map = put;
    is = range_object;
  }

-- the tree of an object, as code has it
pub tree_is : (has : Blocks) (dnode : Dnode) (tree : Tree) (map : Map) → tree ≡ tree_of dnode → TreeIs has (tree_of dnode) map → TreeIs has tree map
tree_is has dnode tree map same is = subst (λ (t : Tree). TreeIs has t map) (sym same) is
