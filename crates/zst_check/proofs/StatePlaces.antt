-- The state at a place of a directory is that at the place of the pool's rows.
use Rattle.std.proofs.Common.{◌≡◌, ℕ, zero, suc, ◌-◌, ◌<◌, ◌≤◌, Bor, List, [], ◌∷◌, ◌++◌, length, map, Some, None, Contains, HoldsAt, refl, sym, ap, ◌∙◌, subst, arith}
use Rattle.std.proofs.lemmas.List.{length-append, length-map, get_or-map, get_or_append_left, get_or-append_right}
use Rattle.zst_model.specs.pools.Ancestry.{InDataset}
use Rattle.zst_model.specs.pools.Pool.{Pool}
use Rattle.zst_model.specs.pools.Pool as plain
use Rattle.zst_model.specs.pools.Rows.{rows, snapshot_row, head_row, partial_row}
use Rattle.zst_names.specs.Names.{dataset_of}
use Rattle.zst_tree.specs.Indices.{Blocks}
use Rattle.zst_dir.specs.RowNames.{Match}
use Rattle.zst_dir.specs.Rows.{Rows}
use Rattle.zst_dir.specs.declared.rows.Dataset.{Dataset}
use Rattle.zst_dir.specs.declared.rows.Snapshot.{Snapshot}
use Rattle.zst_dir.specs.declared.rows.Partial.{Partial}
use Rattle.zst_dir.proofs.Matches.{length-Match}
use Rattle.zst_image.specs.Reads.{RunsBy, DatasetIs, SnapshotIs, PartialIs}
use Rattle.zst_check.specs.FailingPlaces.{IsStateNamed, SnapshotState, HeadState, PartialState}
use Rattle.zst_check.specs.Findings.{StandsFor}
use Rattle.zst_check.specs.declared.states.State.TheVariants as states

-- at a place of a list stands what matches one
pub record StandsOpposite {A B : Type 0} (Is : A → B → Type 0) (ys : List B) (place : ℕ) (one : A) : Type 0 where
  pub other : B
  pub listed : Contains ys other
  pub under : place < length ys
  pub at : HoldsAt (λ y. y ≡ other) ys place
  pub is : Is one other

-- of lists that match so does what stands at the place of one
pub opposite : {A B : Type 0} (Is : A → B → Type 0) (xs : List A) (ys : List B) (place : ℕ) (one : A) → Match Is xs ys → place < length xs → HoldsAt (λ x. one ≡ x) xs place → StandsOpposite Is ys place one
opposite Is [] ys place one match under at = absurd (omega (arith, under))
opposite Is (x ∷ xs) [] place one match under at = absurd match
opposite {A = A} Is (x ∷ xs) (y ∷ ys) zero one match under at = record {
  other = y;
  listed = (0, omega arith, refl);
  under = omega arith;
  at = λ d. refl;
  is = subst (λ (z : A). Is z y) (sym (at x)) match.0;
}
opposite Is (x ∷ xs) (y ∷ ys) (suc place) one match under at =
    let rest = opposite Is xs ys place one match.1 (omega arith) at in
    record {
      other = rest.other;
      listed = (suc rest.listed.0, let less = rest.listed.1 in omega arith, rest.listed.2);
      under = let less = rest.under in omega arith;
      at = rest.at;
      is = rest.is;
    }

-- what holds of what is made of an element holds at its place of the list of what is made
at_mapped : {B C : Type 0} (P : C → Type 0) (f : B → C) (ys : List B) (place : ℕ) (other : B) → place < length ys → HoldsAt (λ y. y ≡ other) ys place → P (f other) → HoldsAt P (map f ys) place
at_mapped P f ys place other under at holds d = subst P (sym (get_or-map f ys place other d under ∙ ap f (at other))) holds

-- what holds at a place of one list holds there in front of another
at_front : {C : Type 0} (P : C → Type 0) (xs ys : List C) (place : ℕ) → place < length xs → HoldsAt P xs place → HoldsAt P (xs ++ ys) place
at_front P xs ys place under holds d = subst P (sym (get_or_append_left xs ys d place under)) (holds d)

-- and so far behind another
at_behind : {C : Type 0} (P : C → Type 0) (xs ys : List C) (place count : ℕ) → length xs ≡ count → count ≤ place → HoldsAt P ys (place - count) → HoldsAt P (xs ++ ys) place
at_behind P xs ys place count long over holds d = subst P (sym (get_or-append_right xs ys count place d long over)) (holds d)

module _ (has : Blocks) (dir : Rows) (pool : Pool) (runs : RunsBy None has dir pool) where
  -- as many rows stand for as many snapshots, and for as many datasets
  snapshot_count : length (map snapshot_row pool.snapshots) ≡ length dir.snapshots
  snapshot_count = length-map pool.snapshots snapshot_row ∙ sym (length-Match (SnapshotIs None has) dir.snapshots pool.snapshots runs.snapshots)

  head_count : length (map (head_row pool.number) pool.datasets) ≡ length dir.datasets
  head_count = length-map pool.datasets (head_row pool.number) ∙ sym (length-Match (DatasetIs None has) dir.datasets pool.datasets runs.datasets)

  partial_count : length (map (partial_row pool.number) pool.partials) ≡ length dir.partials
  partial_count = length-map pool.partials (partial_row pool.number) ∙ sym (length-Match (PartialIs None has) dir.partials pool.partials runs.partials)

  -- a snapshot's row stands for its dated state
  snapshot_stands : (row : Bor Snapshot) (snapshot : plain.Snapshot) → Contains pool.snapshots snapshot → SnapshotIs None has row.now snapshot → StandsFor has pool (states.Snapshot row) (snapshot_row snapshot)
  snapshot_stands row snapshot there is = record {
    holds = is.objects;
    number_is = is.named.number;
    named = subst (λ (name : List ℕ). IsStateNamed pool name (snapshot_row snapshot)) is.named.name (SnapshotState snapshot there);
    placed = ap (λ (name : List ℕ). InDataset (dataset_of 64 name) (Some snapshot.number)) is.named.name ∙ ap (λ (n : ℕ). InDataset (dataset_of 64 row.now.name) (Some n)) is.named.number;
  }

  head_stands : (row : Bor Dataset) (dataset : plain.Dataset) → Contains pool.datasets dataset → DatasetIs None has row.now dataset → StandsFor has pool (states.Head row) (head_row pool.number dataset)
  head_stands row dataset there is = record {
    holds = is.head;
    number_is = refl;
    named = subst (λ (name : List ℕ). IsStateNamed pool name (head_row pool.number dataset)) is.named.name (HeadState dataset there);
    placed = ap (λ (name : List ℕ). InDataset name None) is.named.name;
  }

  partial_stands : (row : Bor Partial) (partial : plain.Partial) → Contains pool.partials partial → PartialIs None has row.now partial → StandsFor has pool (states.Partial row) (partial_row pool.number partial)
  partial_stands row partial there is = record {
    holds = is.objects;
    number_is = refl;
    named = subst (λ (name : List ℕ). IsStateNamed pool name (partial_row pool.number partial)) is.named.target (PartialState partial there);
    placed = (partial, there, is.named, refl);
  }

  -- the snapshots stand first, then the heads, then the partial states
  pub snapshot_at : (place : ℕ) (row : Bor Snapshot) → place < length dir.snapshots → HoldsAt (λ x. row.now ≡ x) dir.snapshots place → HoldsAt (StandsFor has pool (states.Snapshot row)) (rows pool) place
  snapshot_at place row under at =
      let found = opposite (SnapshotIs None has) dir.snapshots pool.snapshots place row.now runs.snapshots under at in
      let count = snapshot_count in
      at_front (StandsFor has pool (states.Snapshot row)) (map snapshot_row pool.snapshots) (map (head_row pool.number) pool.datasets ++ map (partial_row pool.number) pool.partials) place (omega arith)
      (at_mapped (StandsFor has pool (states.Snapshot row)) snapshot_row pool.snapshots place found.other found.under found.at (snapshot_stands row found.other found.listed found.is))

  pub head_at : (place : ℕ) (row : Bor Dataset) → length dir.snapshots ≤ place → place - length dir.snapshots < length dir.datasets → HoldsAt (λ x. row.now ≡ x) dir.datasets (place - length dir.snapshots)
      → HoldsAt (StandsFor has pool (states.Head row)) (rows pool) place
  head_at place row over under at =
      let behind = place - length dir.snapshots in
      let found = opposite (DatasetIs None has) dir.datasets pool.datasets behind row.now runs.datasets under at in
      let count = head_count in
      at_behind (StandsFor has pool (states.Head row)) (map snapshot_row pool.snapshots) (map (head_row pool.number) pool.datasets ++ map (partial_row pool.number) pool.partials) place (length dir.snapshots) snapshot_count over
      (at_front (StandsFor has pool (states.Head row)) (map (head_row pool.number) pool.datasets) (map (partial_row pool.number) pool.partials) behind (omega arith)
      (at_mapped (StandsFor has pool (states.Head row)) (head_row pool.number) pool.datasets behind found.other found.under found.at (head_stands row found.other found.listed found.is)))

  pub partial_at : (place : ℕ) (row : Bor Partial) → length dir.snapshots ≤ place → length dir.datasets ≤ place - length dir.snapshots → place - length dir.snapshots - length dir.datasets < length dir.partials
      → HoldsAt (λ x. row.now ≡ x) dir.partials (place - length dir.snapshots - length dir.datasets) → HoldsAt (StandsFor has pool (states.Partial row)) (rows pool) place
  partial_at place row over past under at =
      let behind = place - length dir.snapshots - length dir.datasets in
      let found = opposite (PartialIs None has) dir.partials pool.partials behind row.now runs.partials under at in
      at_behind (StandsFor has pool (states.Partial row)) (map snapshot_row pool.snapshots) (map (head_row pool.number) pool.datasets ++ map (partial_row pool.number) pool.partials) place (length dir.snapshots) snapshot_count over
      (at_behind (StandsFor has pool (states.Partial row)) (map (head_row pool.number) pool.datasets) (map (partial_row pool.number) pool.partials) (place - length dir.snapshots) (length dir.datasets) head_count past
      (at_mapped (StandsFor has pool (states.Partial row)) (partial_row pool.number) pool.partials behind found.other found.under found.at (partial_stands row found.other found.listed found.is)))

  -- and nothing behind
  pub none_at : (place : ℕ) → length dir.snapshots ≤ place → length dir.datasets ≤ place - length dir.snapshots → length dir.partials ≤ place - length dir.snapshots - length dir.datasets → length (rows pool) ≤ place
  none_at place over past behind =
      omega (
        arith,
        snapshot_count,
        head_count,
        partial_count,
        length-append (map snapshot_row pool.snapshots) (map (head_row pool.number) pool.datasets ++ map (partial_row pool.number) pool.partials),
        length-append (map (head_row pool.number) pool.datasets) (map (partial_row pool.number) pool.partials),
      )
