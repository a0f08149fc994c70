-- The lines of rows are those of the pool that the rows stand for.
use Rattle.std.proofs.Common.{◌≡◌, ℕ, suc, ◌<◌, Bool, true, false, cond, not, ◌==◌, List, [], ◌∷◌, length, get_or, filter, map, Some, is_some, refl, sym, subst, ap, ◌∙◌, arith, Option}
use Rattle.std.specs.List.{AllPairs, find, flat_map}
use Rattle.std.specs.Str.{bytes_eq}
use Rattle.std.proofs.lemmas.Bool.{false_from_ne_true}
use Rattle.std.proofs.lemmas.Bool.Decides.{nat_tests}
use Rattle.zst_names.specs.Names.{dataset_of}
use Rattle.zst_block.specs.Blocks.{Has}
use Rattle.zst_space.specs.FreeSectors.{FreeSectors}
use Rattle.zst_tree.specs.Indices.{Blocks}
use Rattle.zst_model.specs.pools.AnswerLines as plain
use Rattle.zst_model.specs.pools.Pool.{Pool, dataset_named, dataset_of_bookmark, dataset_of_snapshot, inserted, is_before, partial_of}
use Rattle.zst_model.specs.pools.Pool as pool
use Rattle.zst_model.proofs.InsertedLaws.{AllPairs-head, AllPairs-map, AllPairs-tail}
use Rattle.zst_model.proofs.OrderLaws.{not_before_itself, same_bytes}
use Rattle.zst_dir.specs.Rows.{Rows, IsLawful}
use Rattle.zst_dir.specs.declared.rows.Dataset.{Dataset}
use Rattle.zst_dir.specs.declared.rows.Snapshot.{Snapshot}
use Rattle.zst_dir.specs.declared.rows.Bookmark.{Bookmark}
use Rattle.zst_dir.specs.declared.rows.Partial.{Partial}
use Rattle.zst_dir.specs.RowNames.{Match}
use Rattle.zst_image.specs.Reads.{BookmarkIs, DatasetIs, PartialIs, RunsBy, SnapshotIs}
use Rattle.zst_listing.specs.Rows.{bookmark_line, dataset_line, lines_of, partial_line, snapshot_line}
use Rattle.zst_listing.proofs.MergedNames.{merged-places, with_names}
use Rattle.zst_listing.proofs.PartialWalk.{all_lines, is_missing}

-- what matches and passes gives the same lines
lines-Match : {A B : Type 0} (Is : A → B → Type 0) (p : A → Bool) (q : B → Bool) (f : A → List ℕ) (g : B → List ℕ)
    → ((x : A) (y : B) → Is x y → p x ≡ q y) → ((x : A) (y : B) → Is x y → f x ≡ g y)
    → (xs : List A) (ys : List B) → Match Is xs ys → map f (filter p xs) ≡ map g (filter q ys)
lines-Match Is p q f g same alike [] [] m = refl
lines-Match Is p q f g same alike [] (y ∷ ys) m = absurd m
lines-Match Is p q f g same alike (x ∷ xs) [] m = absurd m
lines-Match Is p q f g same alike (x ∷ xs) (y ∷ ys) m = rw (same x y m.0) (go (q y) (alike x y m.0) (lines-Match Is p q f g same alike xs ys m.1))
  where
    go : (t : Bool) → f x ≡ g y → map f (filter p xs) ≡ map g (filter q ys) → map f (cond t (x ∷ filter p xs) (filter p xs)) ≡ map g (cond t (y ∷ filter q ys) (filter q ys))
    go true line rest = rw line (ap (λ l. g y ∷ l) rest)
    go false line rest = rest

-- where no row passes, none is left
none-filter : {A : Type 0} (p : A → Bool) (xs : List A) → ((k : ℕ) (d : A) → k < length xs → p (get_or xs k d) ≡ false) → filter p xs ≡ []
none-filter p [] h = refl
none-filter p (x ∷ xs) h =
    let first : p x ≡ false = h 0 x (omega arith) in
    rw first (none-filter p xs (λ k d below. h (suc k) d (omega (arith, below))))

-- where one row at most passes, the lines of those that pass are that of the first
line-Match : {A B : Type 0} (Is : A → B → Type 0) (p : A → Bool) (q : B → Bool) (f : A → List ℕ) (g : B → List ℕ)
    → ((x : A) (y : B) → Is x y → p x ≡ q y) → ((x : A) (y : B) → Is x y → f x ≡ g y)
    → (xs : List A) (ys : List B) → AllPairs (λ a b. p a ≡ true → p b ≡ false) xs → Match Is xs ys → map f (filter p xs) ≡ plain.line_of g (find q ys)
line-Match Is p q f g same alike [] [] apart m = refl
line-Match Is p q f g same alike [] (y ∷ ys) apart m = absurd m
line-Match Is p q f g same alike (x ∷ xs) [] apart m = absurd m
line-Match {A = A} Is p q f g same alike (x ∷ xs) (y ∷ ys) apart m =
    go (p x) refl (same x y m.0) (alike x y m.0) (line-Match Is p q f g same alike xs ys (AllPairs-tail (λ a b. p a ≡ true → p b ≡ false) x xs apart) m.1)
  where
    go : (t : Bool) → p x ≡ t → p x ≡ q y → f x ≡ g y → map f (filter p xs) ≡ plain.line_of g (find q ys)
        → map f (filter p (x ∷ xs)) ≡ plain.line_of g (find q (y ∷ ys))
    go true e both line rest =
        let alone : filter p xs ≡ [] = none-filter p xs (λ k d below. (AllPairs-head (λ a b. p a ≡ true → p b ≡ false) x xs apart) k d below e) in
        rw (e, sym both ∙ e, alone, line) refl
    go false e both line rest = rw (e, sym both ∙ e) rest

-- nothing passes of one exactly where nothing is found of the other
no_zero : (n : ℕ) → (suc n == 0) ≡ false
no_zero n = grind (arith, nat_tests)

none-Match : {A B : Type 0} (Is : A → B → Type 0) (p : A → Bool) (q : B → Bool) → ((x : A) (y : B) → Is x y → p x ≡ q y)
    → (xs : List A) (ys : List B) → Match Is xs ys → (length (filter p xs) == 0) ≡ not (is_some (find q ys))
none-Match Is p q same [] [] m = refl
none-Match Is p q same [] (y ∷ ys) m = absurd m
none-Match Is p q same (x ∷ xs) [] m = absurd m
none-Match Is p q same (x ∷ xs) (y ∷ ys) m = rw (same x y m.0) (go (q y) (none-Match Is p q same xs ys m.1))
  where
    go : (t : Bool) → (length (filter p xs) == 0) ≡ not (is_some (find q ys))
        → (length (cond t (x ∷ filter p xs) (filter p xs)) == 0) ≡ not (is_some (cond t (Some y) (find q ys)))
    go true rest = no_zero (length (filter p xs))
    go false rest = rest

-- names of what matches are the same
names-Match : {A B : Type 0} (Is : A → B → Type 0) (f : A → List ℕ) (g : B → List ℕ) → ((x : A) (y : B) → Is x y → g y ≡ f x)
    → (xs : List A) (ys : List B) → Match Is xs ys → map g ys ≡ map f xs
names-Match Is f g alike [] [] m = refl
names-Match Is f g alike [] (y ∷ ys) m = absurd m
names-Match Is f g alike (x ∷ xs) [] m = absurd m
names-Match Is f g alike (x ∷ xs) (y ∷ ys) m = rw (alike x y m.0) (ap (λ l. f x ∷ l) (names-Match Is f g alike xs ys m.1))

-- targets that are put in
targets-Match : (Is : Partial → pool.Partial → Type 0) (test : List ℕ → Bool) (q : pool.Partial → Bool) (names : List (List ℕ))
    → ((x : Partial) (y : pool.Partial) → Is x y → test x.target ≡ q y) → ((x : Partial) (y : pool.Partial) → Is x y → y.target ≡ x.target)
    → (xs : List Partial) (ys : List pool.Partial) → Match Is xs ys → plain.with_targets (filter q ys) names ≡ with_names (filter test (map (λ x. x.target) xs)) names
targets-Match Is test q names same alike [] [] m = refl
targets-Match Is test q names same alike [] (y ∷ ys) m = absurd m
targets-Match Is test q names same alike (x ∷ xs) [] m = absurd m
targets-Match Is test q names same alike (x ∷ xs) (y ∷ ys) m = rw (same x y m.0) (go (q y) (alike x y m.0) (targets-Match Is test q names same alike xs ys m.1))
  where
    go : (t : Bool) → y.target ≡ x.target → plain.with_targets (filter q ys) names ≡ with_names (filter test (map (λ z. z.target) xs)) names
        → plain.with_targets (cond t (y ∷ filter q ys) (filter q ys)) names ≡ with_names (cond t (x.target ∷ filter test (map (λ z. z.target) xs)) (filter test (map (λ z. z.target) xs))) names
    go true target rest = rw (target, rest) refl
    go false target rest = rest

flat_map-same : {A B : Type 0} (f g : A → List B) → ((x : A) → f x ≡ g x) → (xs : List A) → flat_map f xs ≡ flat_map g xs
flat_map-same f g same [] = refl
flat_map-same f g same (x ∷ xs) = rw (same x, flat_map-same f g same xs) refl

-- rows whose names rise have a name once
rising-once : {A : Type 0} (key : A → List ℕ) (name : List ℕ) (rows : List A) → AllPairs (λ a b. is_before (key a) (key b) ≡ true) rows
    → AllPairs (λ a b. bytes_eq (key a) name ≡ true → bytes_eq (key b) name ≡ false) rows
rising-once key name rows rises i j d below inside = λ first.
    let at : ℕ → List ℕ = λ k. key (get_or rows k d) in
    false_from_ne_true (bytes_eq (at j) name) (λ second.
    let one : at i ≡ at j = same_bytes (at i) name first ∙ sym (same_bytes (at j) name second) in
    not_before_itself (at i) (subst (λ n. is_before (at i) n ≡ true) (sym one) (rises i j d below inside)))

-- the line of a row is that of what it stands for
dataset-line : {bound : Option ℕ} (has : Blocks) (row : Dataset) (dataset : pool.Dataset) → DatasetIs bound has row dataset → dataset_line row ≡ plain.dataset_line dataset
dataset-line has row dataset is = rw (is.named.name, is.named.kind, is.named.origin) refl

snapshot-line : {bound : Option ℕ} (has : Blocks) (row : Snapshot) (snapshot : pool.Snapshot) → SnapshotIs bound has row snapshot → snapshot_line row ≡ plain.snapshot_line snapshot
snapshot-line has row snapshot is = rw (is.named.name, is.named.guid, is.named.time, is.named.number, is.named.redact) refl

bookmark-line : (has : Blocks) (row : Bookmark) (bookmark : pool.Bookmark) → BookmarkIs has row bookmark → bookmark_line row ≡ plain.bookmark_line bookmark
bookmark-line has row bookmark is = rw (is.named.name, is.named.guid, is.named.number, is.named.redact, is.list.count_is) refl

partial-line : {bound : Option ℕ} (has : Blocks) (row : Partial) (partial : pool.Partial) → PartialIs bound has row partial → partial_line row ≡ plain.partial_line partial
partial-line has row partial is = rw (is.named.target, is.named.header, is.named.point) refl

-- the lines of a name are those of the pool
lines-of : {bound : Option ℕ} (has : Blocks) (rows : Rows) (running : Pool) → IsLawful rows → RunsBy bound has rows running → (name : List ℕ) → lines_of rows name ≡ plain.lines_of running name
unfolding lines_of
lines-of {bound = bound} has rows running lawful runs name =
    rw (
      line-Match (DatasetIs bound has) (λ row. bytes_eq row.name name) (λ dataset. bytes_eq dataset.name name) dataset_line plain.dataset_line
          (λ row dataset is. ap (λ n. bytes_eq n name) (sym is.named.name)) (dataset-line has) rows.datasets running.datasets
          (rising-once (λ row. row.name) name rows.datasets lawful.ordered.datasets) runs.datasets,
      lines-Match (SnapshotIs bound has) (λ row. bytes_eq (dataset_of 64 row.name) name) (λ snapshot. bytes_eq (dataset_of_snapshot snapshot) name) snapshot_line plain.snapshot_line
          (λ row snapshot is. ap (λ n. bytes_eq (dataset_of 64 n) name) (sym is.named.name)) (snapshot-line has) rows.snapshots running.snapshots runs.snapshots,
      lines-Match (BookmarkIs has) (λ row. bytes_eq (dataset_of 35 row.name) name) (λ bookmark. bytes_eq (dataset_of_bookmark bookmark) name) bookmark_line plain.bookmark_line
          (λ row bookmark is. ap (λ n. bytes_eq (dataset_of 35 n) name) (sym is.named.name)) (bookmark-line has) rows.bookmarks running.bookmarks runs.bookmarks,
      line-Match (PartialIs bound has) (λ row. bytes_eq row.target name) (λ partial. bytes_eq partial.target name) partial_line plain.partial_line
          (λ row partial is. ap (λ n. bytes_eq n name) (sym is.named.target)) (partial-line has) rows.partials running.partials
          (rising-once (λ row. row.target) name rows.partials lawful.ordered.partials) runs.partials,
    ) refl

-- a target that no row of a dataset has is one that no dataset has
missing-Match : {bound : Option ℕ} (has : Blocks) (rows : Rows) (running : Pool) → RunsBy bound has rows running → (row : Partial) (partial : pool.Partial) → PartialIs bound has row partial
    → is_missing rows row.target ≡ not (is_some (dataset_named partial.target running))
missing-Match {bound = bound} has rows running runs row partial is =
    none-Match (DatasetIs bound has) (λ dataset. bytes_eq dataset.name row.target) (λ dataset. bytes_eq dataset.name row.target)
    (λ dataset other same. ap (λ n. bytes_eq n row.target) (sym same.named.name)) rows.datasets running.datasets runs.datasets
    ∙ ap (λ n. not (is_some (dataset_named n running))) (sym is.named.target)

-- so the lines of all the names are those of the pool
pub lines_are : {bound : Option ℕ} (image : List ℕ) (space : FreeSectors) (rows : Rows) (running : Pool) → IsLawful rows → RunsBy bound (Has image space) rows running → all_lines rows ≡ plain.pool_lines running
unfolding plain.pool_lines
lines_are {bound = bound} image space rows running lawful runs =
    let has = Has image space in
    let targets = map (λ (row : Partial). row.target) rows.partials in
    let names = map (λ (row : Dataset). row.name) rows.datasets in
    let placed = merged-places (is_missing rows) targets names
    (AllPairs-map (λ (a b : Partial). is_before a.target b.target ≡ true) (λ a b. is_before a b ≡ true) (λ (row : Partial). row.target) (λ a b h. h) rows.partials lawful.ordered.partials) in
    let listed = targets-Match (PartialIs bound has) (is_missing rows) (λ partial. not (is_some (dataset_named partial.target running))) names
    (missing-Match has rows running runs) (λ row partial is. is.named.target) rows.partials running.partials runs.partials in
    let named = names-Match (DatasetIs bound has) (λ (row : Dataset). row.name) (λ dataset. dataset.name) (λ row dataset is. is.named.name) rows.datasets running.datasets runs.datasets in
    ap (flat_map (lines_of rows)) (placed ∙ sym listed)
    ∙ flat_map-same (lines_of rows) (plain.lines_of running) (lines-of has rows running lawful runs) _
    ∙ ap (λ ns. flat_map (plain.lines_of running) (plain.with_targets (filter (λ partial. not (is_some (dataset_named partial.target running))) running.partials) ns)) (sym named)
