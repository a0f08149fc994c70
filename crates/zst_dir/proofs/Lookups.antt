-- What a look-up tells of the names that are there.
use Rattle.std.proofs.Common.{◌≡◌, ℕ, ◌<◌, Bool, true, false, cond, List, [], ◌∷◌, get_or, length, Some, None, is_some, nat_lt, refl, sym, ap, ◌∙◌, arith}
use Rattle.std.specs.List.{Contains, position, position_or_len}
use Rattle.std.specs.Str.{bytes_eq}
use Rattle.std.proofs.lemmas.Bool.{true≢false, ltb-true, ltb-false}
use Rattle.std.proofs.lemmas.List.Elements.{Contains-get_or}
use Rattle.std.proofs.lemmas.List.Sums.{fails_before_first, passes_at_first}
use Rattle.zst_model.proofs.OrderLaws.{same_bytes, bytes_same}
use Rattle.zst_dir.specs.Rows.{Rows, HasDataset, HasSnapshot}
use Rattle.zst_dir.specs.declared.rows.Dataset.{Dataset}
use Rattle.zst_dir.specs.declared.rows.Snapshot.{Snapshot}

-- without a place no element passes
pub none_passes : {A : Type 0} (test : A → Bool) (xs : List A) (x : A) → is_some (position test xs) ≡ false → Contains xs x → test x ≡ false
none_passes {A = A} test xs x none there = go (nat_lt (position_or_len test xs) (length xs)) refl none
  where
    go : (t : Bool) → nat_lt (position_or_len test xs) (length xs) ≡ t → is_some (cond t (Some (position_or_len test xs)) None) ≡ false → test x ≡ false
    go true e h = absurd (true≢false h)
    go false e h =
        ap test (sym there.2) ∙ fails_before_first test xs there.0 x (omega (arith, there.1, ltb-false (position_or_len test xs) (length xs) e))

-- with a place some element passes
pub some_passes : {A : Type 0} (test : A → Bool) (xs : List A) → is_some (position test xs) ≡ true → (x : A) × Contains xs x × (test x ≡ true)
some_passes test [] some = absurd (true≢false (sym some))
some_passes {A = A} test (y ∷ ys) some = go (nat_lt (position_or_len test (y ∷ ys)) (length (y ∷ ys))) refl some
  where
    place : ℕ
    place = position_or_len test (y ∷ ys)

    go : (t : Bool) → nat_lt place (length (y ∷ ys)) ≡ t → is_some (cond t (Some place) None) ≡ true → (x : A) × Contains (y ∷ ys) x × (test x ≡ true)
    go true e h =
        let inside : place < length (y ∷ ys) = ltb-true place (length (y ∷ ys)) e in
        (get_or (y ∷ ys) place y, Contains-get_or (y ∷ ys) place y inside, passes_at_first test (y ∷ ys) y inside)
    go false e h = absurd (true≢false (sym h))

-- a dataset or a snapshot that isn't found isn't there, and one that is found is there
pub no_dataset : (rows : Rows) (name : List ℕ) → is_some (position (λ dataset. bytes_eq dataset.name name) rows.datasets) ≡ false → HasDataset rows name → ⊥
no_dataset rows name none has =
    true≢false (sym (bytes_same has.0.name name has.2) ∙ none_passes (λ (d : Dataset). bytes_eq d.name name) rows.datasets has.0 none has.1)

pub has_dataset : (rows : Rows) (name : List ℕ) → is_some (position (λ dataset. bytes_eq dataset.name name) rows.datasets) ≡ true → HasDataset rows name
has_dataset rows name some =
    let found = some_passes (λ (d : Dataset). bytes_eq d.name name) rows.datasets some in (found.0, found.1, same_bytes found.0.name name found.2)

pub no_snapshot : (rows : Rows) (name : List ℕ) → is_some (position (λ snapshot. bytes_eq snapshot.name name) rows.snapshots) ≡ false → HasSnapshot rows name → ⊥
no_snapshot rows name none has =
    true≢false (sym (bytes_same has.0.name name has.2) ∙ none_passes (λ (s : Snapshot). bytes_eq s.name name) rows.snapshots has.0 none has.1)

pub has_snapshot : (rows : Rows) (name : List ℕ) → is_some (position (λ snapshot. bytes_eq snapshot.name name) rows.snapshots) ≡ true → HasSnapshot rows name
has_snapshot rows name some =
    let found = some_passes (λ (s : Snapshot). bytes_eq s.name name) rows.snapshots some in (found.0, found.1, same_bytes found.0.name name found.2)
