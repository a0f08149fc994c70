-- Which indices of an object are next.
use Rattle.std.proofs.Common.{◌≡◌, ◌≢◌, inl, inr, ⊎_elim, if◌then◌else◌, Bool, ℕ, ◌+◌, ◌*◌, ◌<◌, ◌≤◌, ◌==◌, ◌||◌, nat_lt, min, ◌↔◌, true, false, List, refl, sym, ◌∙◌, ap, subst, arith}
use Rattle.std.specs.Prelude.{Option, Some, None}
use Rattle.std.proofs.lemmas.Bool.{and_from, and_left, and_right, le-ltb, lt-ltb, or_from, or_left, or_right, true≢false, cases_lt, eq-eqb, eqb-false, eqb-true}
use Rattle.zst_space.specs.FreeSectors.{FreeSectors}
use Rattle.zst_block.proofs.BlocksLaws.{IsBlock-length}
use Rattle.zst_block.specs.Blocks.{Has}
use Rattle.zst_block.specs.declared.ptr.Ptr.{Ptr}
use Rattle.zst_dnode.specs.declared.dnode.Dnode.{Dnode}
use Rattle.zst_model.specs.declared.sends.header.Point.{Point}
use Rattle.zst_model.specs.declared.states.cell.Cell.{Cell}
use Rattle.zst_model.specs.declared.states.cell.Cell.TheVariants as cells
use Rattle.zst_model.specs.fields.Lists.{Runs, has_pair}
use Rattle.zst_model.specs.sends.Inclusion.{Choice, includes_pair, is_after}
use Rattle.zst_model.specs.states.DatedState.{DatedState, size_at}
use Rattle.zst_model.specs.states.State.{Block, BlockFits, Hole, IsObject, Redacted, Data, Object, end_at, index_bound}
use Rattle.zst_tree.specs.Lookups.{Shows}
use Rattle.zst_tree.specs.Indices.{Blocks, Map}
use Rattle.zst_tree.specs.Damage.{HangsIn, MayHave}
use Rattle.zst_tree.specs.declared.tree.ObjSet.{ObjSet}
use Rattle.zst_objset.specs.Damage.{IsNoData, StandsIn}
use Rattle.zst_objset.specs.Dnodes.{BlockIs, IsThereIn, ObjectIn, outside, read_unless, tree_of}
use Rattle.zst_traverse.specs.Cells.{CellIs, choice_with, IsNextPairs, told_block}
use Rattle.zst_traverse.specs.Dates.{FindsLate}
use Rattle.zst_traverse.specs.Runs.{outside_indices, cell_of, count_of, FindsIn, IsRun, IsTurn, TakesTurn}
use Rattle.zst_traverse.specs.StandingEntries.{CellStands}
use Rattle.zst_traverse.specs.declared.pairs.Run.{Run}
use Rattle.zst_traverse.specs.declared.pairs.Turn.{Turn}

-- what a pointer of a kind stands for is told
hole_cell : (ptr : Ptr) (size : ℕ) (what : Cell) → cell_of ptr size ≡ Some what → ptr.kind ≡ 0 → what ≡ cells.Hole
hole_cell ptr size what is kind = let e : cell_of ptr size ≡ Some cells.Hole = rw kind refl in cc

redacted_cell : (ptr : Ptr) (size : ℕ) (what : Cell) → cell_of ptr size ≡ Some what → ptr.kind ≡ 2 → what ≡ cells.Redacted
redacted_cell ptr size what is kind = let e : cell_of ptr size ≡ Some cells.Redacted = rw kind refl in cc

-- data, where the length is right
if_data : (right : Bool) (what : Cell) → (if right then Some cells.Data else None) ≡ Some what → what ≡ cells.Data
if_data true what is = cc
if_data false what is = absurd (cc)

data_cell : (ptr : Ptr) (size : ℕ) (what : Cell) → cell_of ptr size ≡ Some what → ptr.kind ≡ 1 → what ≡ cells.Data
data_cell ptr size what is kind =
    let e : cell_of ptr size ≡ (if ptr.length == size then Some cells.Data else None) = rw kind refl in
    if_data (ptr.length == size) what (sym e ∙ is)

cell_is : (has : Blocks) (ptr : Ptr) (size : ℕ) (block : Block) (what : Cell) → cell_of ptr size ≡ Some what → BlockIs has ptr block → CellIs has what ptr block
cell_is has ptr size Hole what is kind = subst (λ (w : Cell). CellIs has w ptr Hole) (sym (hole_cell ptr size what is kind)) refl
cell_is has ptr size Redacted what is kind = subst (λ (w : Cell). CellIs has w ptr Redacted) (sym (redacted_cell ptr size what is kind)) refl
cell_is has ptr size (Data bytes) what is (kind, there) = subst (λ (w : Cell). CellIs has w ptr (Data bytes)) (sym (data_cell ptr size what is kind)) (bytes, refl, kind, there)

-- data of the right length is told
named_data : (ptr : Ptr) (size : ℕ) → ptr.kind ≡ 1 → ptr.length ≡ size → cell_of ptr size ≡ Some cells.Data
named_data ptr size kind same = rw (kind, eq-eqb ptr.length size same) refl

-- a pointer that has none is of no kind that has one, or is no data of this length
pub no_cell : (ptr : Ptr) (size : ℕ) → cell_of ptr size ≡ None → (ptr.kind ≢ 0) × IsNoData size ptr × (ptr.kind ≢ 2)
no_cell ptr size none = (
  λ kind. let e : cell_of ptr size ≡ Some cells.Hole = rw kind refl in absurd (cc),
  go (ptr.length == size) refl,
  λ kind. let e : cell_of ptr size ≡ Some cells.Redacted = rw kind refl in absurd (cc),
)
  where
    go : (right : Bool) → (ptr.length == size) ≡ right → IsNoData size ptr
    go true is = inl (λ kind. let e : cell_of ptr size ≡ Some cells.Data = named_data ptr size kind (eqb-true ptr.length size is) in absurd (cc))
    go false is = inr (eqb-false ptr.length size is)

-- what is told as data is of the right length
data_told : (hole other redacted right : Bool) → (if hole then Some cells.Hole else (if other then (if right then Some cells.Data else None) else (if redacted then Some cells.Redacted else None))) ≡ Some cells.Data → (other ≡ true) × (right ≡ true)
data_told true other redacted right is = absurd (cc)
data_told false true redacted true is = (refl, refl)
data_told false true redacted false is = absurd (cc)
data_told false false true right is = absurd (cc)
data_told false false false right is = absurd (cc)

-- what a look-up in the tree of an object that may stand in the set is told as may stand there
pub cell_stands : (images : List ℕ → Type 0) (set : ObjSet) (dnode : Dnode) → StandsIn images set dnode → (ptr : Ptr) → HangsIn (MayHave images) (tree_of dnode) ptr → (what : Cell) → cell_of ptr dnode.block_size ≡ Some what → CellStands images set what ptr
cell_stands images set dnode stands ptr hangs cells.Hole is = tt
cell_stands images set dnode stands ptr hangs cells.Redacted is = tt
cell_stands images set dnode stands ptr hangs cells.Data is =
    let told = data_told (ptr.kind == 0) (ptr.kind == 1) (ptr.kind == 2) (ptr.length == dnode.block_size) is in
    let kind : ptr.kind ≡ 1 = eqb-true ptr.kind 1 told.0 in
    record {
      dnode = dnode;
      stands = stands;
      hangs = ⊎_elim (λ below. below) (λ past. let none : ptr.kind ≡ 0 = ap (λ (p : Ptr). p.kind) past in absurd (omega (arith, none, kind))) hangs;
      is_data = kind;
      length_is = eqb-true ptr.length dnode.block_size told.1;
    }

module _ (has : Blocks) (snap : DatedState) (source : Option ℕ) (listed withheld : Runs) (point : Point) (dnode : Dnode) (is : IsThereIn has (outside (has_pair withheld) has) snap point.object dnode) where
  abbrev choice : Choice
  choice = choice_with source listed withheld

  abbrev is_late : ℕ → Bool
  is_late i = is_after source (is.map i).number

  size_is : size_at (snap.state point.object) ≡ dnode.block_size
  size_is = ap size_at is.there ∙ sym is.is.size_is

  end_is : end_at (snap.state point.object) ≡ dnode.end
  end_is = ap end_at is.there ∙ sym is.is.end_is

  quiet_pair : (i : ℕ) → i < index_bound → is_late i ≡ false → has_pair listed point.object i ≡ false → has_pair withheld point.object i ≡ false → includes_pair snap choice point.object i ≡ false
  quiet_pair i less early unlisted shown =
      and_right (nat_lt i (end_at (snap.state point.object))) _
      (or_from (is_after source (snap.index_date point.object i)) _ (subst (λ (n : ℕ). is_after source n ≡ false) (is.is.index_dates i less) early) (or_from (has_pair listed point.object i) _ unlisted shown))

  past_pair : (i : ℕ) → end_at (snap.state point.object) ≤ i → includes_pair snap choice point.object i ≡ false
  past_pair i over = and_left (nat_lt i (end_at (snap.state point.object))) _ (le-ltb _ _ over)

  taken_pair : (i : ℕ) → i < end_at (snap.state point.object) → (is_after source (snap.index_date point.object i) || (has_pair listed point.object i || has_pair withheld point.object i)) ≡ true → includes_pair snap choice point.object i ≡ true
  taken_pair i below yes_it = and_from (nat_lt i (end_at (snap.state point.object))) _ (lt-ltb _ _ below) yes_it

  module _ (from : ℕ) (place : (i : ℕ) → (point.offset ≤ i * dnode.block_size) ↔ (from ≤ i)) (end : dnode.end ≤ index_bound) where
    at_place : (i : ℕ) → point.offset ≤ i * size_at (snap.state point.object) → from ≤ i
    at_place i past = (place i).0 (subst (λ (n : ℕ). point.offset ≤ i * n) size_is past)

    -- where no index below the end is late or in a list, none is included
    pub no_pairs_left : TakesTurn is_late (has_pair listed point.object) (has_pair withheld point.object) from dnode.end None
        → (i : ℕ) → point.offset ≤ i * size_at (snap.state point.object) → includes_pair snap choice point.object i ≡ false
    no_pairs_left none i past = ⊎_elim
        (λ below. let at = none i (at_place i past) below in quiet_pair i (omega arith) at.0 at.1 at.2)
        (λ over. past_pair i (let same = end_is in omega arith))
        (cases_lt i dnode.end)

    -- a withheld pair, or the run at the first index that is late or listed, is next
    module _ (turn : Turn) (first : IsTurn is_late (has_pair listed point.object) (has_pair withheld point.object) from dnode.end turn) where
      none_to : (i : ℕ) → i < turn.index → point.offset ≤ i * size_at (snap.state point.object) → includes_pair snap choice point.object i ≡ false
      none_to i less past =
          let on = at_place i past in
          let under = first.under in
          quiet_pair i (omega arith) (first.none_late i on less) (first.none_listed i on less) (first.none_withheld i on less)

      from_place : point.offset ≤ turn.index * is.object.attr.block_size
      from_place = subst (λ (n : ℕ). point.offset ≤ turn.index * n) is.is.size_is ((place turn.index).1 first.from_on)

      pub withheld_next : (run : Run) → turn.is_withheld ≡ true → run.first ≡ turn.index → run.count ≡ 1 → run.what ≡ cells.Redacted
          → IsNextPairs has snap choice point run.first run.count run.what run.ptr
      withheld_next run hidden at one what =
          let alone = first.alone hidden in
          let there = is.is.end_is in
          let under = first.under in
          let some = first.some in record {
            object = is.object;
            there = is.there;
            some = omega arith;
            from_on = subst (λ (n : ℕ). point.offset ≤ n * is.object.attr.block_size) (sym at) from_place;
            under = omega arith;
            none_before = λ i less past. none_to i (omega arith) past;
            included = λ i u l. taken_pair i (let e = end_is in omega arith)
                (or_right (is_after source (snap.index_date point.object i)) _ (or_right (has_pair listed point.object i) _ (subst (λ (n : ℕ). has_pair withheld point.object n ≡ true) (let same : turn.index ≡ i = omega arith in same) alone.0)));
            blocks = λ i u l. subst (λ (w : Cell). CellIs has w run.ptr (told_block choice point.object i (is.object.blocks i))) (sym what)
                (ap (λ (t : Bool). if t then Redacted else is.object.blocks i) (subst (λ (n : ℕ). has_pair withheld point.object n ≡ true) (let same : turn.index ≡ i = omega arith in same) alone.0));
            one = λ is_data. one;
          }

      pub pairs_next : (run : Run) → turn.is_withheld ≡ false → IsRun has (has_pair withheld point.object) is.object (snap.index_date point.object) turn.index run → run.count ≤ turn.most
          → IsNextPairs has snap choice point run.first run.count run.what run.ptr
      pairs_next run shown alike most =
          let same = alike.first in
          let under = alike.under in
          let there = is.is.end_is in
          let below = first.under in
          let some = first.some in
          record {
            object = is.object;
            there = is.there;
            some = alike.some;
            from_on = subst (λ (n : ℕ). point.offset ≤ n * is.object.attr.block_size) (sym same) from_place;
            under = omega arith;
            none_before = λ i less past. none_to i (omega arith) past;
            included = λ i u l. taken_pair i (let e = end_is in omega arith) (⊎_elim
                (λ late. or_left (is_after source (snap.index_date point.object i)) _ (subst (λ (n : ℕ). is_after source n ≡ true) (sym (alike.same i (omega arith) (omega arith)))
                (subst (λ (n : ℕ). is_after source n ≡ true) (is.is.index_dates turn.index (omega arith)) late)))
                (λ (pair, alone). or_right (is_after source (snap.index_date point.object i)) _ (or_left (has_pair listed point.object i) _
                (subst (λ (n : ℕ). has_pair listed point.object n ≡ true) (let one : turn.index ≡ i = omega arith in one) pair)))
                (first.because shown));
            blocks = λ i u l.
                let read = first.shown shown i (omega arith) (omega arith) in
                subst (CellIs has run.what run.ptr) (sym (ap (λ (t : Bool). if t then Redacted else is.object.blocks i) read)) (alike.blocks i (omega arith) (omega arith) read);
            one = alike.one;
          }

-- a block that is read is there
read_block : (has : Blocks) (withheld : Bool) (ptr : Ptr) (block : Block) → withheld ≡ false → BlockIs (read_unless withheld has) ptr block → BlockIs has ptr block
read_block has true ptr block read is = absurd (true≢false read)
read_block has false ptr block read is = is

-- what is told of indices that are alike
pub record IsCounted (what : Cell) (alike_are left_are count : ℕ) : Type 0 where
  pub some : 0 < count
  pub alike : count ≤ alike_are
  pub left : count ≤ left_are
  pub one : what ≡ cells.Data → count ≡ 1

pub counted : (what : Cell) (alike left count : ℕ) → count ≡ count_of what alike left → 0 < alike → 0 < left → IsCounted what alike left count
unfolding count_of
counted cells.Hole alike left count is some more = record { some = omega (arith, is, some, more); alike = omega (arith, is); left = omega (arith, is); one = λ is_data. absurd (cc) }
counted cells.Redacted alike left count is some more = record { some = omega (arith, is, some, more); alike = omega (arith, is); left = omega (arith, is); one = λ is_data. absurd (cc) }
counted cells.Data alike left count is some more = record { some = omega (arith, is); alike = omega (arith, is, some); left = omega (arith, is, more); one = λ is_data. is }

-- what a look-up in an object's tree shows is a run
pub is_run : (has : Blocks) (withheld : ℕ → Bool) (dnode : Dnode) (object : Object) (date : ℕ) (dates : ℕ → ℕ) (map : Map) → ObjectIn has (outside_indices withheld has) dnode object date dates map → (index : ℕ) → index < dnode.end → dnode.end ≤ index_bound → (run : Run) (alike : ℕ)
    → Shows map index (run.ptr, alike) → run.first ≡ index → 0 < run.count → run.count ≤ alike → index + run.count ≤ dnode.end → cell_of run.ptr dnode.block_size ≡ Some run.what → (run.what ≡ cells.Data → run.count ≡ 1) → IsRun has withheld object dates index run
unfolding index_bound
is_run has withheld dnode object date dates map is index below end run alike shows first some most under what one = record {
  first = first;
  some = some;
  under = let e = is.end_is in omega arith;
  same = λ i u l. sym (is.index_dates i (omega arith)) ∙ ap (λ (p : Ptr). p.number) (shows.same i u (omega arith) (omega arith) ∙ sym (shows.same index (omega arith) (omega (arith, shows.some)) (omega arith))) ∙ is.index_dates index (omega arith);
  blocks = λ i u l read. cell_is has run.ptr dnode.block_size (object.blocks i) run.what what (subst (λ (p : Ptr). BlockIs has p (object.blocks i)) (shows.same i u (omega arith) (omega arith))
      (read_block has (withheld i) (map i) (object.blocks i) read (is.blocks i (omega arith))));
  one = one;
}

-- what is dated late is found as late
pub late_in : (map : Map) (source : Option ℕ) (from below : ℕ) (found : Option ℕ) → FindsLate map source from below found → FindsIn (λ i. is_after source (map i).number) from below found
late_in map source from below None none = none
late_in map source from below (Some found) first = record { from_on = first.from_on; under = first.under; passes = first.late; none_before = first.none_before }

-- fewer of a run are a run
pub shorter_run : (has : Blocks) (withheld : ℕ → Bool) (object : Object) (dates : ℕ → ℕ) (index most : ℕ) (run less : Run) → 0 < most → less.first ≡ run.first → less.count ≡ min run.count most → less.what ≡ run.what → less.ptr ≡ run.ptr
    → IsRun has withheld object dates index run → IsRun has withheld object dates index less
shorter_run has withheld object dates index most run less some first count what ptr is =
    let a = is.some in
    let b = is.under in record {
      first = first ∙ is.first;
      some = omega arith;
      under = omega arith;
      same = λ i u l. is.same i u (omega arith);
      blocks = λ i u l read. subst (λ (w : Cell). CellIs has w less.ptr (object.blocks i)) (sym what) (subst (λ (p : Ptr). CellIs has run.what p (object.blocks i)) (sym ptr) (is.blocks i u (omega arith) read));
      one = λ is_data. let alone = is.one (sym what ∙ is_data) in omega arith;
    }

-- a pointer of an object's map is of a kind that has a cell
cell_there : (image : List ℕ) (space : FreeSectors) (ptr : Ptr) (size : ℕ) (block : Block) → BlockFits size block → BlockIs (Has image space) ptr block → cell_of ptr size ≡ None → ⊥
cell_there image space ptr size Hole fits kind none = (no_cell ptr size none).0 kind
cell_there image space ptr size Redacted fits kind none = (no_cell ptr size none).2 kind
cell_there image space ptr size (Data bytes) fits (kind, there) none =
    let e : cell_of ptr size ≡ Some cells.Data = named_data ptr size kind (sym (IsBlock-length image ptr bytes there.block) ∙ fits.0) in absurd (cc)

pub run_has_cell : (image : List ℕ) (space : FreeSectors) (dnode : Dnode) (object : Object) (date : ℕ) (dates : ℕ → ℕ) (map : Map) → IsObject object → (withheld : ℕ → Bool) → ObjectIn (Has image space) (outside_indices withheld (Has image space)) dnode object date dates map → (index : ℕ) → withheld index ≡ false → index < dnode.end → dnode.end ≤ index_bound → (ptr : Ptr) (alike : ℕ)
    → Shows map index (ptr, alike) → cell_of ptr dnode.block_size ≡ None → ⊥
unfolding index_bound
run_has_cell image space dnode object date dates map lawful withheld is index read below end ptr alike shows none =
    let has = Has image space in
    let some = shows.some in
    cell_there image space ptr dnode.block_size (object.blocks index) (subst (λ (n : ℕ). BlockFits n (object.blocks index)) (sym is.size_is) (lawful.fits index)) (subst (λ (p : Ptr). BlockIs has p (object.blocks index)) (shows.same index (omega arith) (omega arith) (omega arith)) (read_block has (withheld index) (map index) (object.blocks index) read (is.blocks index (omega arith)))) none
