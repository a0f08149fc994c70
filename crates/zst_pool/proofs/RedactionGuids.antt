-- The guids of redaction snapshots, each in its place.
use Rattle.std.proofs.Common.{◌≡◌, inl, inr, ℕ, zero, suc, ◌+◌, ◌-◌, ◌<◌, ◌≤◌, ◌^◌, true, false, ◌==◌, List, [], ◌∷◌, ◌++◌, length, map, get_or, drop, insert, nat_lt, nat_le, None, position, is_some, if◌then◌else◌, refl, sym, ap, ◌∙◌, subst, arith, add-one, drop-cons}
use Rattle.std.specs.List.{All, Contains, list_any}
use Rattle.std.proofs.lemmas.Bool.{or_parts}
use Rattle.std.proofs.lemmas.Bool.Decides.{nat_tests}
use Rattle.std.proofs.lemmas.List.{drop_all}
use Rattle.std.proofs.lemmas.List.Elements.{All-head, All-tail}
use Rattle.zst_model.specs.fields.Guids.{IsGuidSet}
use Rattle.zst_model.specs.pools.Pool as plain
use Rattle.zst_model.specs.pools.Step.{with_guid}
use Rattle.zst_model.proofs.InsertedLaws.{All-from_contains, contains_cases, contains_nothing}
use Rattle.zst_laws.proofs.pools.AcceptedRedactions.{guid_of_one, guids_length, guids_rise}
use Rattle.zst_dir.specs.Rows.{IsSnapshotRow}
use Rattle.zst_dir.specs.declared.rows.Snapshot.{Snapshot}
use Rattle.zst_dir.proofs.Matches.{is_some-position}
use Rattle.zst_pool.specs.Plans.{bare_snapshot}
use Rattle.zst_pool.specs.Redactions.{row_guids}

-- behind a lesser guid the search goes on
past_lesser : (guid next : ℕ) (rest : List ℕ) → nat_le guid next ≡ false → with_guid guid (next ∷ rest) ≡ next ∷ with_guid guid rest
past_lesser guid next rest more =
    let less : nat_lt guid next ≡ false = grind (arith, nat_tests, more) in
    let other : (guid == next) ≡ false = grind (arith, nat_tests, more) in
    ap (λ b. if b then guid ∷ next ∷ rest else (if guid == next then next ∷ rest else next ∷ with_guid guid rest)) less
    ∙ ap (λ b. if b then next ∷ rest else next ∷ with_guid guid rest) other

-- a guid above all others stands behind them
put_last : (guid : ℕ) (guids : List ℕ) → list_any (λ other. nat_le guid other) guids ≡ false → with_guid guid guids ≡ guids ++ guid ∷ []
put_last guid [] none = refl
put_last guid (next ∷ rest) none =
    let parts = or_parts (nat_le guid next) (list_any (λ other. nat_le guid other) rest) none in
    past_lesser guid next rest parts.0 ∙ ap (λ (l : List ℕ). next ∷ l) (put_last guid rest parts.1)

pub put_behind : (guid : ℕ) (guids : List ℕ) → position (λ other. nat_le guid other) guids ≡ None → with_guid guid guids ≡ guids ++ guid ∷ []
put_behind guid guids none = put_last guid guids (sym (is_some-position (λ other. nat_le guid other) guids) ∙ ap is_some none)

-- one that is there stays alone
pub put_there : (guid : ℕ) (guids : List ℕ) (place d : ℕ) → place < length guids → get_or guids place d ≡ guid → ((k : ℕ) → k < place → nat_le guid (get_or guids k d) ≡ false) → with_guid guid guids ≡ guids
put_there guid [] place d inside same before = absurd (omega (arith, inside))
put_there guid (next ∷ rest) zero d inside same before =
    let less : nat_lt guid next ≡ false = grind (arith, nat_tests, same) in
    let equal : (guid == next) ≡ true = grind (arith, nat_tests, same) in
    ap (λ b. if b then guid ∷ next ∷ rest else (if guid == next then next ∷ rest else next ∷ with_guid guid rest)) less
    ∙ ap (λ b. if b then next ∷ rest else next ∷ with_guid guid rest) equal
put_there guid (next ∷ rest) (suc place) d inside same before =
    past_lesser guid next rest (before 0 (omega arith)) ∙ ap (λ (l : List ℕ). next ∷ l) (put_there guid rest place d (omega (arith, inside)) same (λ k less. before (suc k) (omega (arith, less))))

-- and one that isn't stands before the first that is greater
pub put_before : (guid : ℕ) (guids : List ℕ) (place d : ℕ) → place < length guids → guid < get_or guids place d → ((k : ℕ) → k < place → nat_le guid (get_or guids k d) ≡ false) → with_guid guid guids ≡ insert guids place guid
put_before guid [] place d inside less before = absurd (omega (arith, inside))
put_before guid (next ∷ rest) zero d inside less before =
    let first : nat_lt guid next ≡ true = grind (arith, nat_tests, less) in
    ap (λ b. if b then guid ∷ next ∷ rest else (if guid == next then next ∷ rest else next ∷ with_guid guid rest)) first
put_before guid (next ∷ rest) (suc place) d inside less before =
    past_lesser guid next rest (before 0 (omega arith)) ∙ ap (λ (l : List ℕ). next ∷ l) (put_before guid rest place d (omega (arith, inside)) less (λ k lt. before (suc k) (omega (arith, lt))))

-- ---- those of rows, from the last on

pub guids_none : (rows : List Snapshot) → row_guids (drop (length rows) rows) ≡ []
guids_none rows = ap row_guids (drop_all (length rows) rows (omega arith))

pub guids_more : (rows : List Snapshot) (done : ℕ) (row : Snapshot) (before after : List ℕ) → done < length rows → row ≡ get_or rows (length rows - 1 - done) row
    → before ≡ row_guids (drop (length rows - done) rows) → after ≡ with_guid row.guid before → after ≡ row_guids (drop (length rows - (done + 1)) rows)
guids_more rows done row before after inside is stood put =
    let place = length rows - 1 - done in
    let drops : drop place rows ≡ get_or rows place row ∷ drop (place + 1) rows = rw add-one (drop-cons rows place row (omega (arith, inside))) in
    let here : length rows - (done + 1) ≡ place = omega arith in
    let next : place + 1 ≡ length rows - done = omega (arith, inside) in
    put ∙ ap (with_guid row.guid) stood
    ∙ ap (λ (n : ℕ). row_guids (row ∷ drop n rows)) (sym next)
    ∙ ap (λ (r : Snapshot). row_guids (r ∷ drop (place + 1) rows)) is
    ∙ ap row_guids (sym drops)
    ∙ ap (λ (n : ℕ). row_guids (drop n rows)) (sym here)

-- at the first row all are in
pub guids_all : (rows : List Snapshot) (done : ℕ) → length rows ≤ done → row_guids (drop (length rows - done) rows) ≡ row_guids rows
guids_all rows done all = let none : length rows - done ≡ 0 = omega (arith, all) in ap (λ (n : ℕ). row_guids (drop n rows)) none

-- they are a set
bare_length : (rows : List Snapshot) → length (map bare_snapshot rows) ≡ length rows
bare_length [] = refl
bare_length (row ∷ rows) = ap suc (bare_length rows)

each_fits : (rows : List Snapshot) → All IsSnapshotRow rows → (snapshot : plain.Snapshot) → Contains (map bare_snapshot rows) snapshot → snapshot.guid < 2 ^ 64
each_fits [] all snapshot there = absurd (contains_nothing snapshot there)
each_fits (row ∷ rows) all snapshot there = elim (contains_cases (bare_snapshot row) (map bare_snapshot rows) snapshot there) [
  | inl e ↦ subst (λ (s : plain.Snapshot). s.guid < 2 ^ 64) e (All-head IsSnapshotRow row rows all).guid.1
  | inr later ↦ each_fits rows (All-tail IsSnapshotRow row rows all) snapshot later
]

pub guids_lawful : (rows : List Snapshot) → length rows ≤ 16 → All IsSnapshotRow rows → IsGuidSet (row_guids rows)
guids_lawful rows few all = record {
  few = omega (arith, few, guids_length (map bare_snapshot rows), bare_length rows);
  rising = guids_rise (map bare_snapshot rows);
  fit = All-from_contains (λ guid. guid < 2 ^ 64) (row_guids rows) (λ guid there.
      let one = guid_of_one (map bare_snapshot rows) guid there in subst (λ (g : ℕ). g < 2 ^ 64) one.2 (each_fits rows all one.0 one.1));
}
