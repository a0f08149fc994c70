-- An image reads as one pool.
use Rattle.std.proofs.Common.{◌≡◌, ℕ, ◌<◌, ◌^◌, Bool, Option, Some, None, List, [], ◌∷◌, length, filter, refl, sym, ◌∙◌, ap, subst, arith}
use Rattle.zst_space.specs.FreeSectors.{FreeSectors}
use Rattle.zst_space.specs.declared.space.Extent.{Extent}
use Rattle.zst_marks.specs.Marks.{Apart}
use Rattle.zst_extents.specs.StoredExtents.{HasExtents}
use Rattle.zst_extents.proofs.ExtentGrowth.{HasExtents-grows}
use Rattle.zst_block.proofs.BlocksLaws.{Has-fewer}
use Rattle.zst_block.specs.Blocks.{Has}
use Rattle.zst_block.specs.declared.ptr.Ptr.{Ptr}
use Rattle.zst_uber.specs.Body.{body_bytes, uber_at}
use Rattle.zst_uber.proofs.BodyLaws.{uber_at-body_bytes}
use Rattle.zst_uber.specs.declared.uber.Uber.{Uber}
use Rattle.zst_model.specs.states.DatedState.{DatedState}
use Rattle.zst_model.specs.fields.Lists.{Runs}
use Rattle.zst_model.specs.pools.Pool.{Pool}
use Rattle.zst_model.specs.pools.Pool as plain
use Rattle.zst_tree.specs.Indices.{Blocks}
use Rattle.zst_tree.specs.declared.tree.ObjSet.{ObjSet}
use Rattle.zst_objset.specs.Sets.{SetHolds}
use Rattle.zst_list.specs.StoredLists.{HasList}
use Rattle.zst_list.proofs.OneList.{RootsHaveOne}
use Rattle.zst_dir.specs.Rows.{Rows}
use Rattle.zst_dir.specs.Spelling.{IsDir, dir_bytes}
use Rattle.zst_dir.specs.declared.rows.Dataset.{Dataset}
use Rattle.zst_dir.specs.declared.rows.Snapshot.{Snapshot}
use Rattle.zst_dir.specs.declared.rows.Bookmark.{Bookmark}
use Rattle.zst_dir.specs.declared.rows.Partial.{Partial}
use Rattle.zst_dir.specs.RowNames.{Match}
use Rattle.zst_image.specs.Bodies.{Body, behind_end, free_by}
use Rattle.zst_image.specs.Reads.{DatasetIs, SnapshotIs, BookmarkIs, PartialIs, SetIs, HasDir, ReadsAs, RowsAre, bound_of}
use Rattle.zst_image.proofs.Extents.{behind_end-fewer}

-- what stands in the sectors of two bodies that an image has as its latest is one
one_uber : {tight : Bool} (body other : Body) (rows others : Rows) (pool another : Pool) (image : List ℕ) → ReadsAs tight body rows pool image → ReadsAs tight other others another image → body.uber ≡ other.uber
one_uber body other rows others pool another image first second =
    let same : body_bytes body.uber ≡ body_bytes other.uber = cc (first.stands, second.stands) in
    sym (uber_at-body_bytes body.uber first.fits) ∙ ap uber_at same ∙ uber_at-body_bytes other.uber second.fits

-- one count's extents that are apart stand below a root
abbrev pub ExtentsAreOne : Type 0
ExtentsAreOne = (image : List ℕ) (space : FreeSectors) (levels : ℕ) (root : Ptr) (count end : ℕ) (extents other : List Extent) → end < 2 ^ 64 → Apart 8 extents end → Apart 8 other end
    → HasExtents (Has image space) levels root count extents → HasExtents (Has image space) levels root count other → extents ≡ other

-- extents that stand over free sectors stand over those behind the end alone
behind : (image : List ℕ) (body : Body) → HasExtents (Has image (free_by body)) body.uber.free_levels body.uber.free_root body.uber.free_count body.free
    → HasExtents (Has image (behind_end body.uber)) body.uber.free_levels body.uber.free_root body.uber.free_count body.free
behind image body is =
    HasExtents-grows (Has image (free_by body)) (Has image (behind_end body.uber)) (λ ptr bytes has. Has-fewer image (free_by body) (behind_end body.uber) ptr bytes (behind_end-fewer body) has)
    body.uber.free_levels body.uber.free_root body.uber.free_count body.free is

-- bodies with equal parts are equal
pub same_body : (body other : Body) → body.uber ≡ other.uber → body.free ≡ other.free → body ≡ other
same_body body other uber free =
    let made : ◌≡◌ {A = Body} (record { uber = body.uber; free = body.free }) (record { uber = other.uber; free = other.free }) = cc (uber, free) in
    made

-- two bodies that an image has as its latest are one, with their free extents
pub one_body : {tight : Bool} → ExtentsAreOne → (body other : Body) (rows others : Rows) (pool another : Pool) (image : List ℕ) → ReadsAs tight body rows pool image → ReadsAs tight other others another image → body ≡ other
one_body one body other rows others pool another image first second =
    let same = one_uber body other rows others pool another image first second in
    let uber = body.uber in
    let again : HasExtents (Has image (behind_end uber)) uber.free_levels uber.free_root uber.free_count other.free =
    subst (λ (u : Uber). HasExtents (Has image (behind_end u)) u.free_levels u.free_root u.free_count other.free) (sym same) (behind image other second.described.extents) in
    let apart : Apart 8 other.free uber.end = subst (λ (u : Uber). Apart 8 other.free u.end) (sym same) second.described.apart in
    same_body body other same
    (one image (behind_end uber) uber.free_levels uber.free_root uber.free_count uber.end body.free other.free (omega (arith, first.fits.end)) first.described.apart apart (behind image body first.described.extents) again)

-- bytes are those of one directory
abbrev pub BytesAreOne : Type 0
BytesAreOne = (rows others : Rows) (bytes : List ℕ) → length bytes < 2 ^ 64 → IsDir rows bytes → IsDir others bytes → rows ≡ others

-- two directories that a body names are one
one_dir : RootsHaveOne → BytesAreOne → (body : Body) (rows others : Rows) (image : List ℕ) → body.uber.dir_bytes < 2 ^ 64 → HasDir (Has image (free_by body)) body.uber rows → HasDir (Has image (free_by body)) body.uber others → rows ≡ others
one_dir one_text one_directory body rows others image short first second =
    let text = one_text image (free_by body) body.uber.dir_levels body.uber.dir_root (dir_bytes rows) (dir_bytes others) (sym first.count_is ∙ second.count_is) first.leaves second.leaves in
    one_directory rows others (dir_bytes rows) (omega (arith, short, first.count_is)) first.directory (subst (λ (bytes : List ℕ). IsDir others bytes) (sym text) second.directory)

-- and so are the rows by which an image reads as a pool
pub one_rows : {tight : Bool} → ExtentsAreOne → RootsHaveOne → BytesAreOne → (body other : Body) (rows others : Rows) (pool another : Pool) (image : List ℕ) → ReadsAs tight body rows pool image → ReadsAs tight other others another image → rows ≡ others
one_rows {tight = tight} one one_text one_directory body other rows others pool another image first second =
    let same = one_body one body other rows others pool another image first second in
    let again = subst (λ (b : Body). ReadsAs tight b others another image) (sym same) second in
    one_dir one_text one_directory body rows others image first.fits.trees.dir_bytes first.described.directory again.described.directory

-- lists that match the same are one, where each row stands for one thing
Match-one : {A B : Type 0} (Is : A → B → Type 0) → ((x : A) (y z : B) → Is x y → Is x z → y ≡ z) → (xs : List A) (ys zs : List B) → Match Is xs ys → Match Is xs zs → ys ≡ zs
Match-one Is one [] [] [] m n = refl
Match-one Is one [] [] (z ∷ zs) m n = absurd n
Match-one Is one [] (y ∷ ys) zs m n = absurd m
Match-one Is one (x ∷ xs) [] zs m n = absurd m
Match-one Is one (x ∷ xs) (y ∷ ys) [] m n = absurd n
Match-one Is one (x ∷ xs) (y ∷ ys) (z ∷ zs) m n =
    let first = one x y z m.0 n.0 in
    let rest = Match-one Is one xs ys zs m.1 n.1 in
    cc (first, rest)

-- what has equal parts is equal
one_dataset : (y z : plain.Dataset) → y.name ≡ z.name → y.kind ≡ z.kind → y.origin ≡ z.origin → y.head ≡ z.head → y.redact ≡ z.redact → y ≡ z
one_dataset y z name kind origin head redact =
    let made : ◌≡◌ {A = plain.Dataset} (record { name = y.name; kind = y.kind; origin = y.origin; head = y.head; redact = y.redact }) (record { name = z.name; kind = z.kind; origin = z.origin; head = z.head; redact = z.redact }) = cc (name, kind, origin, head, redact) in
    made

one_snapshot : (y z : plain.Snapshot) → y.name ≡ z.name → y.guid ≡ z.guid → y.time ≡ z.time → y.number ≡ z.number → y.objects ≡ z.objects → y.redact ≡ z.redact → y ≡ z
one_snapshot y z name guid time number objects redact =
    let made : ◌≡◌ {A = plain.Snapshot} (record { name = y.name; guid = y.guid; time = y.time; number = y.number; objects = y.objects; redact = y.redact }) (record { name = z.name; guid = z.guid; time = z.time; number = z.number; objects = z.objects; redact = z.redact }) = cc (name, guid, time, number, objects, redact) in
    made

one_bookmark : (y z : plain.Bookmark) → y.name ≡ z.name → y.guid ≡ z.guid → y.time ≡ z.time → y.number ≡ z.number → y.redact ≡ z.redact → y.runs ≡ z.runs → y ≡ z
one_bookmark y z name guid time number redact runs =
    let made : ◌≡◌ {A = plain.Bookmark} (record { name = y.name; guid = y.guid; time = y.time; number = y.number; redact = y.redact; runs = y.runs }) (record { name = z.name; guid = z.guid; time = z.time; number = z.number; redact = z.redact; runs = z.runs }) = cc (name, guid, time, number, redact, runs) in
    made

one_partial : (y z : plain.Partial) → y.target ≡ z.target → y.component ≡ z.component → y.keep ≡ z.keep → y.header ≡ z.header → y.base ≡ z.base → y.objects ≡ z.objects → y.point ≡ z.point → y ≡ z
one_partial y z target component keep header base objects point =
    let made : ◌≡◌ {A = plain.Partial} (record { target = y.target; component = y.component; keep = y.keep; header = y.header; base = y.base; objects = y.objects; point = y.point }) (record { target = z.target; component = z.component; keep = z.keep; header = z.header; base = z.base; objects = z.objects; point = z.point }) = cc (target, component, keep, header, base, objects, point) in
    made

one_pool_is : (y z : Pool) → y.id ≡ z.id → y.number ≡ z.number → y.guids ≡ z.guids → y.datasets ≡ z.datasets → y.snapshots ≡ z.snapshots → y.bookmarks ≡ z.bookmarks → y.partials ≡ z.partials → y ≡ z
one_pool_is y z id number guids datasets snapshots bookmarks partials =
    let made : ◌≡◌ {A = Pool} (record { id = y.id; number = y.number; guids = y.guids; datasets = y.datasets; snapshots = y.snapshots; bookmarks = y.bookmarks; partials = y.partials }) (record { id = z.id; number = z.number; guids = z.guids; datasets = z.datasets; snapshots = z.snapshots; bookmarks = z.bookmarks; partials = z.partials }) = cc (id, number, guids, datasets, snapshots, bookmarks, partials) in
    made

-- a set holds one dated state
abbrev pub SetsHoldOne : Type 0
SetsHoldOne = (set : ObjSet) (image : List ℕ) (space : FreeSectors) (state other : DatedState) → SetHolds (Has image space) set state → SetHolds (Has image space) set other → state ≡ other

-- below a root stands one list of a count
abbrev pub ListsAreOne : Type 0
ListsAreOne = (image : List ℕ) (space : FreeSectors) (levels : ℕ) (root : Ptr) (count : ℕ) (runs other : Runs) → HasList (Has image space) levels root count runs → HasList (Has image space) levels root count other → runs ≡ other

BookmarkIs-one : ListsAreOne → (image : List ℕ) (space : FreeSectors) (row : Bookmark) (y z : plain.Bookmark) → BookmarkIs (Has image space) row y → BookmarkIs (Has image space) row z → y ≡ z
BookmarkIs-one one image space row y z first second =
    let runs = one image space row.levels row.root row.runs y.runs z.runs first.list second.list in
    one_bookmark y z (first.named.name ∙ sym second.named.name) (first.named.guid ∙ sym second.named.guid) (first.named.time ∙ sym second.named.time) (first.named.number ∙ sym second.named.number) (first.named.redact ∙ sym second.named.redact) runs

-- a set that is known to be of a state holds it
pub SetIs-holds : (bound : Option ℕ) (has : Blocks) (set : ObjSet) (state : DatedState) → SetIs bound has set state → SetHolds has set state
SetIs-holds None has set state is = is
SetIs-holds (Some number) has set state is = is.0.holds

module _ (one : SetsHoldOne) (bound : Option ℕ) (image : List ℕ) (space : FreeSectors) where
  DatasetIs-one : (row : Dataset) (y z : plain.Dataset) → DatasetIs bound (Has image space) row y → DatasetIs bound (Has image space) row z → y ≡ z
  DatasetIs-one row y z first second =
      let head = one row.head image space y.head z.head (SetIs-holds bound (Has image space) row.head y.head first.head) (SetIs-holds bound (Has image space) row.head z.head second.head) in
      one_dataset y z (first.named.name ∙ sym second.named.name) (first.named.kind ∙ sym second.named.kind) (first.named.origin ∙ sym second.named.origin) head (first.named.redact ∙ sym second.named.redact)

  SnapshotIs-one : (row : Snapshot) (y z : plain.Snapshot) → SnapshotIs bound (Has image space) row y → SnapshotIs bound (Has image space) row z → y ≡ z
  SnapshotIs-one row y z first second =
      let objects = one row.objects image space y.objects z.objects (SetIs-holds bound (Has image space) row.objects y.objects first.objects) (SetIs-holds bound (Has image space) row.objects z.objects second.objects) in
      one_snapshot y z (first.named.name ∙ sym second.named.name) (first.named.guid ∙ sym second.named.guid) (first.named.time ∙ sym second.named.time) (first.named.number ∙ sym second.named.number) objects (first.named.redact ∙ sym second.named.redact)

  PartialIs-one : (row : Partial) (y z : plain.Partial) → PartialIs bound (Has image space) row y → PartialIs bound (Has image space) row z → y ≡ z
  PartialIs-one row y z first second =
      let objects = one row.objects image space y.objects z.objects (SetIs-holds bound (Has image space) row.objects y.objects first.objects) (SetIs-holds bound (Has image space) row.objects z.objects second.objects) in
      one_partial y z (first.named.target ∙ sym second.named.target) (first.named.component ∙ sym second.named.component) (first.named.keep ∙ sym second.named.keep) (first.named.header ∙ sym second.named.header) (first.named.base ∙ sym second.named.base) objects (first.named.point ∙ sym second.named.point)

-- the pool by one body and these rows
pool_by : {tight : Bool} → SetsHoldOne → ListsAreOne → (body : Body) (rows : Rows) (pool another : Pool) (image : List ℕ) → ReadsAs tight body rows pool image → ReadsAs tight body rows another image → pool ≡ another
pool_by {tight = tight} one one_list body rows pool another image first second =
    let a = first.described in
    let b = second.described in
    let space = free_by body in
    let number = a.number ∙ sym b.number in
    let bound = bound_of tight pool.number in
    let others = subst (λ (n : ℕ). RowsAre (bound_of tight n) (Has image space) rows another) (sym number) b.rows_are in
    let datasets = Match-one (DatasetIs bound (Has image space)) (DatasetIs-one one bound image space) rows.datasets pool.datasets another.datasets a.rows_are.datasets others.datasets in
    let snapshots = Match-one (SnapshotIs bound (Has image space)) (SnapshotIs-one one bound image space) rows.snapshots pool.snapshots another.snapshots a.rows_are.snapshots others.snapshots in
    let bookmarks = Match-one (BookmarkIs (Has image space)) (BookmarkIs-one one_list image space) rows.bookmarks pool.bookmarks another.bookmarks a.rows_are.bookmarks others.bookmarks in
    let partials = Match-one (PartialIs bound (Has image space)) (PartialIs-one one bound image space) (filter (λ row. row.keep) rows.partials) pool.partials another.partials a.rows_are.partials others.partials in
    one_pool_is pool another (a.id ∙ sym b.id) number (a.guids ∙ sym b.guids) datasets snapshots bookmarks partials

-- an image reads as one pool
pub one_pool : {tight : Bool} → ExtentsAreOne → RootsHaveOne → BytesAreOne → SetsHoldOne → ListsAreOne → (body other : Body) (rows others : Rows) (pool another : Pool) (image : List ℕ) → ReadsAs tight body rows pool image → ReadsAs tight other others another image → pool ≡ another
one_pool {tight = tight} one one_text one_directory one_state one_list body other rows others pool another image first second =
    let first_body = one_body one body other rows others pool another image first second in
    let same = one_rows one one_text one_directory body other rows others pool another image first second in
    pool_by one_state one_list body rows pool another image first (subst (λ (b : Body). ReadsAs tight b rows another image) (sym first_body) (subst (λ (r : Rows). ReadsAs tight other r another image) (sym same) second))
