-- What is found among the rows of a directory holds what is found in the pool that they stand for.
use Rattle.std.proofs.Common.{◌≡◌, ℕ, Bool, true, false, cond, List, [], ◌∷◌, Option, Some, None, option_map, refl, sym, ap}
use Rattle.std.specs.Prelude.{Option, None, is_some}
use Rattle.std.specs.List.{find}
use Rattle.std.specs.Str.{bytes_eq}
use Rattle.zst_model.specs.declared.refusals.subjects.Name.TheVariants as names
use Rattle.zst_model.specs.states.DatedState.{DatedState}
use Rattle.zst_model.specs.pools.Pool.{Pool}
use Rattle.zst_model.specs.pools.Step.{state_named}
use Rattle.zst_tree.specs.Indices.{Blocks}
use Rattle.zst_tree.specs.declared.tree.ObjSet.{ObjSet}
use Rattle.zst_objset.specs.Sets.{SetHolds}
use Rattle.zst_dir.specs.Rows.{Rows}
use Rattle.zst_pool.specs.Lookups.{FindsState, set_named}
use Rattle.zst_dir.specs.RowNames.{AreNamed, Match, NamesDataset, NamesSnapshot}
use Rattle.zst_image.specs.Reads.{RunsBy, DatasetIs, SnapshotIs}
use Rattle.zst_dnode.specs.declared.dnode.Dnode.{Dnode}
use Rattle.zst_model.specs.declared.refusals.subjects.Name.{Name}
use Rattle.zst_model.specs.states.State.{Object}
use Rattle.zst_objset.specs.Dnodes.{DnodeAt}
use Rattle.zst_dir.proofs.Matches.{FoundAlike, found-Match}

-- of lists that match, the first rows that pass
finds : {A B : Type 0} (has : Blocks) (Is : A → B → Type 0) (p : A → Bool) (q : B → Bool) (set : A → ObjSet) (state : B → DatedState) → ((x : A) (y : B) → Is x y → p x ≡ q y)
    → ((x : A) (y : B) → Is x y → SetHolds has (set x) (state y)) → (xs : List A) (ys : List B) → Match Is xs ys → FindsState has (option_map state (find q ys)) (option_map set (find p xs))
finds {A = A} {B = B} has Is p q set state same holds xs ys m = go (find p xs) (find q ys) (found-Match Is p q same xs ys m)
  where
    go : (row : Option A) (found : Option B) → FoundAlike Is row found → FindsState has (option_map state found) (option_map set row)
    go None None is = tt
    go None (Some y) is = absurd is
    go (Some x) None is = absurd is
    go (Some x) (Some y) is = holds x y is

module _ (has : Blocks) (rows : Rows) (pool : Pool) (are : RunsBy None has rows pool) where
  pub finds_head : (name : List ℕ) → FindsState has (state_named (names.Dataset name) pool) (set_named (names.Dataset name) rows)
  finds_head name =
      finds has (DatasetIs None has) (λ d. bytes_eq d.name name) (λ d. bytes_eq d.name name) (λ d. d.head) (λ d. d.head) (λ x y is. ap (λ n. bytes_eq n name) (sym is.named.name)) (λ x y is. is.head)
      rows.datasets pool.datasets are.datasets

  pub finds_objects : (name : List ℕ) → FindsState has (state_named (names.Snapshot name) pool) (set_named (names.Snapshot name) rows)
  finds_objects name =
      finds has (SnapshotIs None has) (λ s. bytes_eq s.name name) (λ s. bytes_eq s.name name) (λ s. s.objects) (λ s. s.objects) (λ x y is. ap (λ n. bytes_eq n name) (sym is.named.name)) (λ x y is. is.objects)
      rows.snapshots pool.snapshots are.snapshots

-- what is found at a number, and what isn't
pub none_found : (has : Blocks) (state : Option Object) (date : ℕ) (dates : ℕ → ℕ) → DnodeAt has state date dates None → state ≡ None
none_found has None date dates is = refl
none_found has (Some object) date dates is = absurd is

pub some_found : (has : Blocks) (state : Option Object) (date : ℕ) (dates : ℕ → ℕ) (dnode : Dnode) → DnodeAt has state date dates (Some dnode)
    → (object : Object) × (state ≡ Some object) × (dnode.block_size ≡ object.attr.block_size)
some_found has None date dates dnode is = absurd is
some_found has (Some object) date dates dnode is = (object, refl, is.1.size_is)

-- of lists that match, a row that passes is found in both or in neither
found_alike : {A B X Y : Type 0} (Is : A → B → Type 0) (p : A → Bool) (q : B → Bool) (f : A → X) (g : B → Y) → ((x : A) (y : B) → Is x y → p x ≡ q y) → (xs : List A) (ys : List B) → Match Is xs ys
    → is_some (option_map f (find p xs)) ≡ is_some (option_map g (find q ys))
found_alike Is p q f g same [] [] m = refl
found_alike Is p q f g same [] (y ∷ ys) m = absurd m
found_alike Is p q f g same (x ∷ xs) [] m = absurd m
found_alike {A = A} {B = B} Is p q f g same (x ∷ xs) (y ∷ ys) m = rw (same x y m.0) (go (q y) (found_alike Is p q f g same xs ys m.1))
  where
    go : (b : Bool) → is_some (option_map f (find p xs)) ≡ is_some (option_map g (find q ys))
        → is_some (option_map f (cond b (Some x) (find p xs))) ≡ is_some (option_map g (cond b (Some y) (find q ys)))
    go true rest = refl
    go false rest = rest

-- a set is found exactly where the pool that the rows name has a state
pub found_named : (rows : Rows) (pool : Pool) → AreNamed rows pool → (name : Name) → is_some (set_named name rows) ≡ is_some (state_named name pool)
found_named rows pool are (names.Dataset name) =
    found_alike NamesDataset (λ d. bytes_eq d.name name) (λ d. bytes_eq d.name name) (λ d. d.head) (λ d. d.head) (λ x y is. ap (λ n. bytes_eq n name) (sym is.name)) rows.datasets pool.datasets are.datasets
found_named rows pool are (names.Snapshot name) =
    found_alike NamesSnapshot (λ s. bytes_eq s.name name) (λ s. bytes_eq s.name name) (λ s. s.objects) (λ s. s.objects) (λ x y is. ap (λ n. bytes_eq n name) (sym is.name)) rows.snapshots pool.snapshots are.snapshots
found_named rows pool are (names.Bookmark name) = refl
