-- What a walk finds comes first of what is left of a view.
use Rattle.std.proofs.Common.{◌≡◌, ℕ, ◌+◌, ◌*◌, ◌<◌, ◌≤◌, Bool, true, false, List, [], ◌∷◌, ◌++◌, map, pred, take, Some, None, refl, sym, ap, ◌∙◌, arith, subst, if◌then◌else◌}
use Rattle.std.proofs.lemmas.Bool.{cond-true, cond-false, true≢false}
use Rattle.zst_block.specs.declared.ptr.Ptr.{Ptr}
use Rattle.zst_dnode.specs.declared.dnode.Dnode.{Dnode}
use Rattle.zst_model.specs.declared.sends.header.Header.{Header}
use Rattle.zst_model.specs.declared.sends.header.Point.{Point}
use Rattle.zst_model.specs.declared.states.cell.Cell.{Cell}
use Rattle.zst_model.specs.declared.states.cell.Cell.TheVariants as cells
use Rattle.zst_model.specs.declared.states.item.Change.TheVariants as changes
use Rattle.zst_model.specs.declared.states.item.Item.{Item}
use Rattle.zst_model.specs.declared.states.item.Item.TheVariants.{At, FreeObjects}
use Rattle.zst_model.specs.sends.Inclusion.{Choice, includes_pair}
use Rattle.zst_model.specs.sends.Items.{joined, opening, put_change, spill_change, tail_change}
use Rattle.zst_model.specs.sends.View.{View, object_view, view_of}
use Rattle.zst_model.specs.states.DatedState.{DatedState, size_at}
use Rattle.zst_model.specs.states.State.{Object, IsObject, IsState, Block, end_of, index_bound, number_bound}
use Rattle.zst_model.specs.states.State as states
use Rattle.zst_model.proofs.ObjectNumbers.{number_over_none}
use Rattle.zst_laws.specs.Walk.{walk_left, BlockRunIsNext, GoneRunIsNext, ObjectIsNext, WalkEnds, run_change}
use Rattle.zst_objset.proofs.EndLaws.{end_bounded}
use Rattle.zst_objset.specs.Dnodes.{ObjectIn}
use Rattle.zst_traverse.specs.Cells.{CellIs, IsNextCellIn, IsNextGone, IsNextObjectIn, IsNextPairs, NoneLeft, first_number, told_block}
use Rattle.zst_traverse.specs.declared.walk_entry.WalkEntry.{WalkEntry}
use Rattle.zst_traverse.specs.declared.walk_entry.WalkEntry.TheVariants as found
use Rattle.zst_tree.specs.Indices.{Blocks}
use Rattle.zst_send.specs.DueItems.{AreBehind, AreDue, IsFirst, due_of, due_pairs}
use Rattle.zst_send.specs.WalkPositions.{GoesTo, IsPositionOf, position_after}
use Rattle.zst_send.specs.declared.due_items.DueItems.{DueItems}
use Rattle.zst_send.specs.declared.due_items.DueItems.TheVariants as dues
use Rattle.zst_send.specs.declared.walk_position.WalkPosition.{WalkPosition}
use Rattle.zst_send.proofs.Sizes.{data_most, object_lawful, spill_most}
use Rattle.zst_send.proofs.WalkGaps.{counts_by_pair, is_counted, nothing_behind, nothing_below, number_there, shown_gone, shown_there}

-- the four laws of walks that a step cites
pub record WalkLaws : Type 0 where
  pub ends : WalkEnds
  pub object : ObjectIsNext
  pub gone : GoneRunIsNext
  pub blocks : BlockRunIsNext

-- a number that may be found is at or past the point's, and past it where its own slot was passed over
pub from_point : (point : Point) (slot : Bool) (k : ℕ) → first_number point slot ≤ k → point.object ≤ k
from_point point true k le = le
from_point point false k le = omega arith

pub past_slot : (point : Point) (slot : Bool) (k : ℕ) → first_number point slot ≤ k → slot ≡ false → point.object < k
past_slot point true k le e = absurd (true≢false e)
past_slot point false k le e = omega arith

module _ (has : Blocks) (reads : ℕ → ℕ → Blocks) (header : Header) (snap : DatedState) (choice : Choice) where
  abbrev view : View
  view = view_of header snap choice

  -- ---- an object

  -- the items of an object's opening are due by its dnode
  opening_due : (k : ℕ) (dnode : Dnode) (object : Object) (date : ℕ) (dates : ℕ → ℕ) (tree : ℕ → Ptr) → IsObject object → ObjectIn has (reads k) dnode object date dates tree
      → AreDue has (dues.Object k dnode) (map (At k) (opening (object_view snap choice k object)))
  opening_due k dnode object date dates tree lawful is =
      let shown = object_view snap choice k object in
      record {
        first = At k (put_change shown);
        later = map (At k) (spill_change object.attr.spill ++ (tail_change shown ∷ []));
        are = refl;
        is_first =
            ap (λ (t : ℕ). At k (changes.Put (record { type_ = t; bonus_type = object.attr.bonus_type; block_size = object.attr.block_size }) object.attr.bonus false (pred (end_of object)))) (sym is.type_is)
            ∙ ap (λ (t : ℕ). At k (changes.Put (record { type_ = dnode.type_; bonus_type = t; block_size = object.attr.block_size }) object.attr.bonus false (pred (end_of object)))) (sym is.bonus_type_is)
            ∙ ap (λ (t : ℕ). At k (changes.Put (record { type_ = dnode.type_; bonus_type = dnode.bonus_type; block_size = t }) object.attr.bonus false (pred (end_of object)))) (sym is.size_is)
            ∙ ap (λ (b : List ℕ). At k (changes.Put (record { type_ = dnode.type_; bonus_type = dnode.bonus_type; block_size = dnode.block_size }) b false (pred (end_of object)))) is.bonus_is
            ∙ ap (λ (e : ℕ). At k (changes.Put (record { type_ = dnode.type_; bonus_type = dnode.bonus_type; block_size = dnode.block_size }) (take dnode.bonus_len dnode.bonus) false (pred e))) (sym is.end_is);
        are_behind = (
          object.attr.spill,
          is.spill_is,
          spill_most object lawful,
          ap (λ (e : ℕ). map (At k) (spill_change object.attr.spill ++ (changes.FreeFrom (e * object.attr.block_size) ∷ []))) (sym is.end_is)
              ∙ ap (λ (t : ℕ). map (At k) (spill_change object.attr.spill ++ (changes.FreeFrom (dnode.end * t) ∷ []))) (sym is.size_is),
        );
      }

  object_goes : WalkLaws → IsState snap.state → (position : WalkPosition) (k : ℕ) (dnode : Dnode) → NoneLeft snap choice position.point position.slot
      → IsNextObjectIn has reads snap choice (first_number position.point position.slot) k dnode
      → GoesTo has snap view position (position_after position (found.Object k dnode)) (Some (dues.Object k dnode))
  object_goes laws lawful position k dnode left next =
      let object = next.is.object in
      let shown = object_view snap choice k object in
      let is = next.is.is in (
        map (At k) (opening shown),
        opening_due k dnode object (snap.number_date k) (snap.index_date k) next.is.map (object_lawful snap k object lawful next.is.there) is,
        ap joined (laws.object view position.point position.slot k shown (is_counted snap choice k next.included)
            (nothing_below header snap choice position.point position.slot k left next.none_before)
            (from_point position.point position.slot k next.from_on) (past_slot position.point position.slot k next.from_on)
            (shown_there header snap choice k object next.included next.is.there)),
        λ slot. record { object = object; there = next.is.there; type_is = is.type_is; size_is = is.size_is },
      )

  -- ---- numbers without objects

  gone_goes : WalkLaws → (position : WalkPosition) (first count : ℕ) → NoneLeft snap choice position.point position.slot
      → IsNextGone snap choice (first_number position.point position.slot) first count
      → GoesTo has snap view position (position_after position (found.Gone first count)) (Some (dues.Absent first count))
  gone_goes laws position first count left next =
      let some : 0 < count = next.some in (
        FreeObjects first count ∷ [],
        record { first = FreeObjects first count; later = []; are = refl; is_first = refl; are_behind = refl },
        laws.gone view position.point position.slot first count (number_over_none first (is_counted snap choice first (next.included first (omega arith) (omega arith)))) some next.under
            (nothing_below header snap choice position.point position.slot first left next.none_before)
            (from_point position.point position.slot first next.from_on) (past_slot position.point position.slot first next.from_on)
            (λ j from below. shown_gone header snap choice j (next.included j from below) (next.absent j from below)),
        λ slot. absurd (true≢false slot),
      )

  -- ---- indices of the point's object

  alone : (due : DueItems) (item : Item) → IsFirst has due item → AreBehind has due [] → AreDue has due (item ∷ [])
  alone due item first behind = record { first = item; later = []; are = refl; is_first = first; are_behind = behind }

  -- a block of data that is told is the object's: a withheld one is told as redacted
  told_data : (k i : ℕ) (block : Block) (bytes : List ℕ) → told_block choice k i block ≡ states.Data bytes → block ≡ states.Data bytes
  told_data k i block bytes is = go (choice.redact k i) is
    where
      go : (b : Bool) → (if b then states.Redacted else block) ≡ states.Data bytes → block ≡ states.Data bytes
      go true e = absurd (cc)
      go false e = e

  -- the block of a run that is told as this cell
  block_told : (what : Cell) (ptr : Ptr) (object : Object) (k first count : ℕ) → IsObject object → 0 < count
      → ((i : ℕ) → first ≤ i → i < first + count → CellIs has what ptr (told_block choice k i (object.blocks i))) → (what ≡ cells.Data → count ≡ 1)
      → (block : Block) × ((i : ℕ) → first ≤ i → i < first + count → told_block choice k i (object.blocks i) ≡ block)
      × ((bytes : List ℕ) → block ≡ states.Data bytes → count ≡ 1)
      × AreDue has (due_pairs k first count object.attr.type_ object.attr.block_size what ptr) (At k (run_change object.attr first count block) ∷ [])
  block_told cells.Hole ptr object k first count lawful some blocks one =
      (states.Hole, blocks, (λ bytes e. absurd (cc)), alone (dues.Holes k (first * object.attr.block_size) (count * object.attr.block_size)) (At k (changes.Free (first * object.attr.block_size) (count * object.attr.block_size))) refl refl)
  block_told cells.Redacted ptr object k first count lawful some blocks one =
      (states.Redacted, blocks, (λ bytes e. absurd (cc)), alone (dues.Redacted k (first * object.attr.block_size) (count * object.attr.block_size)) (At k (changes.Redact (first * object.attr.block_size) (count * object.attr.block_size))) refl refl)
  block_told cells.Data ptr object k first count lawful some blocks one =
      let told = blocks first (omega arith) (omega arith) in
      let single : count ≡ 1 = one refl in (
        states.Data told.0,
        (λ i from below. let same : i ≡ first = omega (arith, single) in ap (λ (j : ℕ). told_block choice k j (object.blocks j)) same ∙ told.1),
        (λ bytes e. single),
        alone (dues.Block k object.attr.type_ (first * object.attr.block_size) ptr) (At k (changes.Write (first * object.attr.block_size) object.attr.type_ told.0))
            (told.0, told.3, data_most object first told.0 lawful (told_data k first (object.blocks first) told.0 told.1), refl) refl,
      )

  -- an object's size is that of what stands at its number
  size_there : (k : ℕ) (object : Object) → snap.state k ≡ Some object → size_at (snap.state k) ≡ object.attr.block_size
  size_there k object there = ap size_at there

  pairs_due : WalkLaws → IsState snap.state → (point : Point) (type size first count : ℕ) (what : Cell) (ptr : Ptr) → 0 < size
      → (next : IsNextPairs has snap choice point first count what ptr) → type ≡ next.object.attr.type_ → size ≡ next.object.attr.block_size
      → (items : List Item) × AreDue has (due_pairs point.object first count type size what ptr) items
      × (joined (walk_left view point false) ≡ joined (items ++ walk_left view (record { object = point.object; offset = (first + count) * size }) false))
  pairs_due laws lawful point type size first count what ptr some next type_is size_is =
      let object = next.object in
      let k = point.object in
      let shown = object_view snap choice k object in
      let positive : 0 < count = next.some in
      let below : first + count ≤ end_of object = next.under in
      let ends : end_of object ≤ index_bound = end_bounded object in
      let told = block_told what ptr object k first count (object_lawful snap k object lawful next.there) positive next.blocks next.one in
      let number = number_there snap k object lawful next.there in
      let counted = counts_by_pair snap choice k first number (omega arith) (next.included first (omega arith) (omega arith)) in (
        At k (run_change object.attr first count told.0) ∷ [],
        subst (λ (t : ℕ). AreDue has (due_pairs k first count t size what ptr) (At k (run_change object.attr first count told.0) ∷ [])) (sym type_is)
            (subst (λ (s : ℕ). AreDue has (due_pairs k first count object.attr.type_ s what ptr) (At k (run_change object.attr first count told.0) ∷ [])) (sym size_is) told.3),
        laws.blocks view point shown first count told.0 number (shown_there header snap choice k object counted next.there)
            (subst (λ (s : ℕ). 0 < s) size_is some) positive below next.from_on
            (λ j l high. cond-false (includes_pair snap choice k j) _ _ (next.none_before j l (subst (λ (s : ℕ). point.offset ≤ j * s) (sym (size_there k object next.there)) high)))
            (λ j from l. cond-true (includes_pair snap choice k j) _ _ (next.included j from l) ∙ ap Some (told.1 j from l))
            told.2
            ∙ ap (λ (s : ℕ). joined (At k (run_change object.attr first count told.0) ∷ walk_left view (record { object = k; offset = (first + count) * s }) false)) (sym size_is),
      )

  -- two objects that stand at one number are one
  one_there : (k : ℕ) (one other : Object) → snap.state k ≡ Some one → snap.state k ≡ Some other → one ≡ other
  one_there k one other a b = let same : Some one ≡ Some other = sym a ∙ b in cc

  pairs_go : WalkLaws → IsState snap.state → (position : WalkPosition) (k first count : ℕ) (what : Cell) (ptr : Ptr) → 0 < position.block_size → IsPositionOf snap position
      → position.slot ≡ false → k ≡ position.point.object → IsNextPairs has snap choice position.point first count what ptr
      → GoesTo has snap view position (position_after position (found.Pairs k first count what ptr)) (Some (due_pairs k first count position.type_ position.block_size what ptr))
  pairs_go laws lawful position k first count what ptr some of slot same next =
      let passed = of slot in
      let one : passed.object ≡ next.object = one_there position.point.object passed.object next.object passed.there next.there in
      let due = pairs_due laws lawful position.point position.type_ position.block_size first count what ptr some next
      (passed.type_is ∙ ap (λ (o : Object). o.attr.type_) one) (passed.size_is ∙ ap (λ (o : Object). o.attr.block_size) one) in (
        due.0,
        subst (λ (j : ℕ). AreDue has (due_pairs j first count position.type_ position.block_size what ptr) due.0) (sym same) due.1,
        ap (λ (s : Bool). joined (walk_left view position.point s)) slot ∙ due.2
            ∙ ap (λ (j : ℕ). joined (due.0 ++ walk_left view (record { object = j; offset = (first + count) * position.block_size }) false)) (sym same),
        λ passed_over. record { object = passed.object; there = ap snap.state same ∙ passed.there; type_is = passed.type_is; size_is = passed.size_is },
      )

  -- ---- what is found

  -- what is found at a position comes first of what is left there
  pub found_goes : WalkLaws → IsState snap.state → (position : WalkPosition) (next : WalkEntry) → 0 < position.block_size → IsPositionOf snap position
      → IsNextCellIn has reads snap choice position.point position.slot (Some next)
      → GoesTo has snap view position (position_after position next) (Some (due_of next (position_after position next).type_ (position_after position next).block_size))
  found_goes laws lawful position (found.Object k dnode) some of next = object_goes laws lawful position k dnode next.0 next.1
  found_goes laws lawful position (found.Gone first count) some of next = gone_goes laws position first count next.0 next.1
  found_goes laws lawful position (found.Pairs k first count what ptr) some of next = pairs_go laws lawful position k first count what ptr some of next.0 next.1 next.2

  -- where nothing is found, nothing is left there, and nothing behind all numbers
  pub none_goes : WalkLaws → (position new : WalkPosition) → IsNextCellIn has reads snap choice position.point position.slot None
      → number_bound ≤ new.point.object → new.slot ≡ true → GoesTo has snap view position new None
  none_goes laws position new next far slot = (
    laws.ends view position.point position.slot (nothing_below header snap choice position.point position.slot number_bound next.0 next.1),
    nothing_behind header snap choice laws.ends new.point new.slot far,
    λ passed_over. absurd (true≢false (sym slot ∙ passed_over)),
  )
