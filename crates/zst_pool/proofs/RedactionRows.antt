-- What a redaction finds by the rows of a directory, and the rows that it makes.
use Rattle.std.specs.Prelude.{Result, Ok, Err}
use Rattle.std.proofs.Common.{◌≡◌, inl, inr, ℕ, zero, suc, ◌+◌, ◌<◌, ◌≤◌, Bool, true, false, cond, not, ◌==◌, List, [], ◌∷◌, ◌++◌, length, get_or, drop, Option, Some, None, is_some, is_none, find, position, bytes_eq, nat_lt, if◌then◌else◌, refl, sym, ap, ◌∙◌, subst, arith, add-one, append_assoc, drop-cons}
use Rattle.std.specs.Option.{option_map_or}
use Rattle.std.specs.List.{All, AllZip}
use Rattle.std.proofs.lemmas.Bool.{true≢false}
use Rattle.std.proofs.lemmas.Option.{same_Some}
use Rattle.std.proofs.lemmas.List.{append-nil, drop_all}
use Rattle.std.proofs.lemmas.List.Elements.{All-cons, All-contains, All-nil}
use Rattle.zst_names.specs.Names.{dataset_of}
use Rattle.zst_model.specs.declared.refusals.refusal.Refusal.{Refusal}
use Rattle.zst_model.specs.declared.refusals.subjects.Name.TheVariants as names
use Rattle.zst_model.specs.states.AppliedItems.{unless, ◌>>=◌}
use Rattle.zst_model.specs.pools.Ancestry.{OfSnapshot}
use Rattle.zst_model.specs.pools.Pool.{Pool, dataset_of_snapshot, inserted, is_before, snapshot_named}
use Rattle.zst_model.specs.pools.Pool as plain
use Rattle.zst_model.specs.pools.RedSet.{objects_of}
use Rattle.zst_model.specs.pools.Step.{Stepped, find_each, guids_of, no_such, not_ancestor, or_else, redaction_of, with_guid, with_redaction}
use Rattle.zst_model.specs.sends.SendPlan.{comes_before}
use Rattle.zst_model.proofs.Options.{none_there}
use Rattle.zst_model.proofs.Results.{bind_ok, ok_parts}
use Rattle.zst_laws.proofs.pools.Rows.{named_found, or_else_ok}
use Rattle.zst_tree.specs.Indices.{Blocks}
use Rattle.zst_tree.specs.declared.tree.Tree.{Tree}
use Rattle.zst_list.specs.StoredLists.{HasList}
use Rattle.zst_objset.specs.Sets.{SetHolds}
use Rattle.zst_dir.specs.RowNames.{AreNamed, Match, NamesSnapshot, StandAlike}
use Rattle.zst_dir.specs.Rows.{IsSnapshotRow, Rows}
use Rattle.zst_dir.specs.declared.rows.Snapshot.{Snapshot}
use Rattle.zst_dir.proofs.Matches.{Match-alike, any_is_found, inserted-Match, is_some-position}
use Rattle.zst_dir.proofs.NamedRows.{snapshot_is_there}
use Rattle.zst_image.specs.Reads.{BookmarkIs, RunsBy, SnapshotIs}
use Rattle.zst_pool.specs.Lineage.{if_few_bookmarks, if_free_bookmark, with_marked}
use Rattle.zst_pool.specs.Redactions.{comes_after, if_descend, if_redacts, if_short, if_whole, left_of, redaction_row, row_guids, rows_of, sets_of, snapshot_row, with_found}

-- ---- what is found

-- what stands at one place of two lists, or in neither
abbrev pub FindsAlike : {A B : Type 0} → List A → List B → Option A → Option B → Type 0
FindsAlike xs ys None None = Unit {0}
FindsAlike xs ys None (Some y) = ⊥
FindsAlike xs ys (Some x) None = ⊥
FindsAlike xs ys (Some x) (Some y) = StandAlike xs ys x y

found_later : {A B : Type 0} (x : A) (y : B) (xs : List A) (ys : List B) (o : Option A) (r : Option B) → FindsAlike xs ys o r → FindsAlike (x ∷ xs) (y ∷ ys) o r
found_later x y xs ys None None is = tt
found_later x y xs ys None (Some b) is = absurd is
found_later x y xs ys (Some a) None is = absurd is
found_later x y xs ys (Some a) (Some b) is = inr is

find_alike : {A B : Type 0} (Is : A → B → Type 0) (p : A → Bool) (q : B → Bool) → ((x : A) (y : B) → Is x y → p x ≡ q y) → (xs : List A) (ys : List B) → Match Is xs ys → FindsAlike xs ys (find p xs) (find q ys)
find_alike Is p q same [] [] m = tt
find_alike Is p q same [] (y ∷ ys) m = absurd m
find_alike Is p q same (x ∷ xs) [] m = absurd m
find_alike {A = A} {B = B} Is p q same (x ∷ xs) (y ∷ ys) m = rw (same x y m.0) (go (q y) (find_alike Is p q same xs ys m.1))
  where
    go : (b : Bool) → FindsAlike xs ys (find p xs) (find q ys) → FindsAlike (x ∷ xs) (y ∷ ys) (cond b (Some x) (find p xs)) (cond b (Some y) (find q ys))
    go true rest = inl (refl, refl)
    go false rest = found_later x y xs ys (find p xs) (find q ys) rest

-- the first that passes is found
pub find_first : {A : Type 0} (p : A → Bool) (xs : List A) (place : ℕ) (d : A) → place < length xs → p (get_or xs place d) ≡ true → ((k : ℕ) → k < place → p (get_or xs k d) ≡ false) → find p xs ≡ Some (get_or xs place d)
find_first p [] place d inside passes before = absurd (omega (arith, inside))
find_first p (x ∷ xs) zero d inside passes before = ap (λ b. cond b (Some x) (find p xs)) passes
find_first p (x ∷ xs) (suc place) d inside passes before =
    ap (λ b. cond b (Some x) (find p xs)) (before 0 (omega arith)) ∙ find_first p xs place d (omega (arith, inside)) passes (λ k less. before (suc k) (omega (arith, less)))

some_there : {A : Type 0} (o : Option A) → is_none o ≡ false → is_some o ≡ true
some_there None is = absurd (true≢false is)
some_there (Some x) is = refl

none_some : {A : Type 0} (o : Option A) → is_none o ≡ true → is_some o ≡ false
none_some None is = refl
none_some (Some x) is = absurd (true≢false (sym is))

-- a row that is found is one more
one_more : {A : Type 0} (o : Option A) (rest : List A) → is_some o ≡ true → length (with_found o rest) ≡ suc (length rest)
one_more None rest there = absurd (true≢false (sym there))
one_more (Some x) rest there = refl

-- where no name is missed, there are as many rows
pub rows_as_many : (rows : Rows) (words : List (List ℕ)) → find (λ name. is_none (position (λ snapshot. bytes_eq snapshot.name name) rows.snapshots)) words ≡ None → length (rows_of words rows) ≡ length words
rows_as_many rows [] none = refl
rows_as_many rows (word ∷ rest) none = go (is_missed word) refl (rows_as_many rows rest) none
  where
    is_missed : List ℕ → Bool
    is_missed name = is_none (position (λ snapshot. bytes_eq snapshot.name name) rows.snapshots)

    found : is_missed word ≡ false → is_some (snapshot_row word rows) ≡ true
    found is =
        let test = λ (snapshot : Snapshot). bytes_eq snapshot.name word in
        sym (any_is_found test rows.snapshots) ∙ sym (is_some-position test rows.snapshots) ∙ some_there (position test rows.snapshots) is

    go : (b : Bool) → is_missed word ≡ b → (find is_missed rest ≡ None → length (rows_of rest rows) ≡ length rest) → cond b (Some word) (find is_missed rest) ≡ None → length (rows_of (word ∷ rest) rows) ≡ length (word ∷ rest)
    go true e more is = absurd (cc)
    go false e more is = one_more (snapshot_row word rows) (rows_of rest rows) (found e) ∙ ap suc (more is)

module _ (rows : Rows) (pool : Pool) (are : AreNamed rows pool) where
  -- whether no row has a name
  abbrev is_absent : List ℕ → Bool
  is_absent name = is_none (position (λ snapshot. bytes_eq snapshot.name name) rows.snapshots)

  -- the snapshots of these names, each at the place of its row
  abbrev Found : List (List ℕ) → Type 0
  Found words = (found : List plain.Snapshot) × (find_each words pool ≡ Ok found) × Match (StandAlike rows.snapshots pool.snapshots) (rows_of words rows) found

  row_alike : (name : List ℕ) → FindsAlike rows.snapshots pool.snapshots (snapshot_row name rows) (snapshot_named name pool)
  row_alike name =
      find_alike NamesSnapshot (λ snapshot. bytes_eq snapshot.name name) (λ snapshot. bytes_eq snapshot.name name)
      (λ x y is. ap (λ n. bytes_eq n name) (sym is.name)) rows.snapshots pool.snapshots are.snapshots

  there_is : (name : List ℕ) → is_absent name ≡ false → is_some (snapshot_named name pool) ≡ true
  there_is name is = sym (snapshot_is_there rows pool are name) ∙ some_there (position (λ snapshot. bytes_eq snapshot.name name) rows.snapshots) is

  absent_is : (name : List ℕ) → is_absent name ≡ true → snapshot_named name pool ≡ None
  absent_is name is = none_there (snapshot_named name pool) (sym (snapshot_is_there rows pool are name) ∙ none_some (position (λ snapshot. bytes_eq snapshot.name name) rows.snapshots) is)

  -- one more that is found
  one_found : (name : List ℕ) (rest : List (List ℕ)) (row : Option Snapshot) (snapshot : Option plain.Snapshot) → is_some snapshot ≡ true → FindsAlike rows.snapshots pool.snapshots row snapshot → Found rest
      → (found : List plain.Snapshot) × (or_else (no_such (names.Snapshot name)) snapshot (λ s. find_each rest pool >>= λ others. Ok (s ∷ others)) ≡ Ok found)
      × Match (StandAlike rows.snapshots pool.snapshots) (with_found row (rows_of rest rows)) found
  one_found name rest None None there alike more = absurd (true≢false (sym there))
  one_found name rest None (Some s) there alike more = absurd alike
  one_found name rest (Some r) None there alike more = absurd alike
  one_found name rest (Some r) (Some s) there alike more = (s ∷ more.0, ap (λ (o : Result (List plain.Snapshot) Refusal). o >>= λ others. Ok (s ∷ others)) more.1, (alike, more.2))

  -- where no name is missed, each snapshot is found
  pub each_found : (words : List (List ℕ)) → find is_absent words ≡ None → Found words
  each_found [] none = ([], refl, tt)
  each_found (word ∷ rest) none = go (is_absent word) refl (each_found rest) none
    where
      go : (b : Bool) → is_absent word ≡ b → (find is_absent rest ≡ None → Found rest) → cond b (Some word) (find is_absent rest) ≡ None → Found (word ∷ rest)
      go true e more is = absurd (cc)
      go false e more is = one_found word rest (snapshot_row word rows) (snapshot_named word pool) (there_is word e) (row_alike word) (more is)

  -- what is refused later is so where one more is there
  one_later : (word : List ℕ) (rest : List (List ℕ)) (snapshot : Option plain.Snapshot) (refusal : Refusal) → is_some snapshot ≡ true → find_each rest pool ≡ Err refusal
      → or_else (no_such (names.Snapshot word)) snapshot (λ s. find_each rest pool >>= λ others. Ok (s ∷ others)) ≡ Err refusal
  one_later word rest None refusal there is = absurd (true≢false (sym there))
  one_later word rest (Some s) refusal there is = ap (λ (o : Result (List plain.Snapshot) Refusal). o >>= λ others. Ok (s ∷ others)) is

  -- and the first that is missed is refused
  pub first_refused : (words : List (List ℕ)) (name : List ℕ) → find is_absent words ≡ Some name → find_each words pool ≡ Err (no_such (names.Snapshot name))
  first_refused [] name is = absurd (cc)
  first_refused (word ∷ rest) name is = go (is_absent word) refl (first_refused rest name) is
    where
      go : (b : Bool) → is_absent word ≡ b → (find is_absent rest ≡ Some name → find_each rest pool ≡ Err (no_such (names.Snapshot name))) → cond b (Some word) (find is_absent rest) ≡ Some name
          → find_each (word ∷ rest) pool ≡ Err (no_such (names.Snapshot name))
      go true e more is =
          ap (λ o. or_else (no_such (names.Snapshot word)) o (λ s. find_each rest pool >>= λ others. Ok (s ∷ others))) (absent_is word e)
          ∙ ap (λ (n : List ℕ). Err (no_such (names.Snapshot n))) (same_Some word name is)
      go false e more is = one_later word rest (snapshot_named word pool) (no_such (names.Snapshot name)) (there_is word e) (more is)

-- ---- the definition, once its snapshots are found

module _ (of name : List ℕ) (words : List (List ℕ)) (pool : Pool) where
  -- what it makes of the snapshot
  abbrev checked : plain.Snapshot → List plain.Snapshot → Result Stepped Refusal
  checked snapshot redactions =
      unless (not (bytes_eq (dataset_of_snapshot snapshot) (dataset_of 35 name))) (not_ancestor (names.Bookmark name) (names.Snapshot of))
      (if_free_bookmark name pool (if_whole snapshot.redact (if_descend pool snapshot redactions (if_few_bookmarks pool (if_short (redaction_of name snapshot redactions) pool)))))

  pub redacts_none : snapshot_named of pool ≡ None → with_redaction of name words pool ≡ Err (no_such (names.Snapshot of))
  redacts_none none = ap (λ o. or_else (no_such (names.Snapshot of)) o (λ snapshot. find_each words pool >>= λ redactions. checked snapshot redactions)) none

  module _ (taken : plain.Snapshot) (there : snapshot_named of pool ≡ Some taken) where
    at_taken : with_redaction of name words pool ≡ (find_each words pool >>= λ redactions. checked taken redactions)
    at_taken = ap (λ o. or_else (no_such (names.Snapshot of)) o (λ snapshot. find_each words pool >>= λ redactions. checked snapshot redactions)) there

    pub redacts_absent : (refusal : Refusal) → find_each words pool ≡ Err refusal → with_redaction of name words pool ≡ Err refusal
    redacts_absent refusal is = at_taken ∙ ap (λ (r : Result (List plain.Snapshot) Refusal). r >>= λ redactions. checked taken redactions) is

    pub redacts_found : (redactions : List plain.Snapshot) → taken.name ≡ of → find_each words pool ≡ Ok redactions
        → with_redaction of name words pool ≡ if_redacts of name taken redactions pool (if_short (redaction_of name taken redactions) pool)
    redacts_found redactions named each =
        let rest = if_free_bookmark name pool (if_whole taken.redact (if_descend pool taken redactions (if_few_bookmarks pool (if_short (redaction_of name taken redactions) pool)))) in
        at_taken ∙ ap (λ (r : Result (List plain.Snapshot) Refusal). r >>= λ redactions. checked taken redactions) each
        ∙ ap (λ (n : List ℕ). unless (not (bytes_eq (dataset_of 64 n) (dataset_of 35 name))) (not_ancestor (names.Bookmark name) (names.Snapshot of)) rest) named

-- ---- who descends of the snapshot

module _ (pool : Pool) (taken : plain.Snapshot) where
  abbrev strays : plain.Snapshot → Bool
  strays redaction = not (comes_before pool (OfSnapshot taken) redaction)

  -- what is found of the first name
  after_is : (word : List ℕ) (first : plain.Snapshot) (b : Bool) → snapshot_named word pool ≡ Some first → comes_after pool taken word ≡ b → comes_before pool (OfSnapshot taken) first ≡ b
  after_is word first b there is = sym (ap (λ o. option_map_or (λ redaction. comes_before pool (OfSnapshot taken) redaction) o true) there) ∙ is

  -- where the snapshot stands before each, none strays
  pub all_descend : (words : List (List ℕ)) (found : List plain.Snapshot) → find_each words pool ≡ Ok found → ((j : ℕ) (d : List ℕ) → j < length words → comes_after pool taken (get_or words j d) ≡ true)
      → find (λ redaction. not (comes_before pool (OfSnapshot taken) redaction)) found ≡ None
  all_descend [] found is each = subst (λ (f : List plain.Snapshot). find strays f ≡ None) (ok_parts [] found is) refl
  all_descend (word ∷ rest) found is each =
      let first = or_else_ok (no_such (names.Snapshot word)) (snapshot_named word pool) (λ s. find_each rest pool >>= λ others. Ok (s ∷ others)) found is in
      let others = bind_ok (find_each rest pool) (λ others. Ok (first.0 ∷ others)) found first.2 in
      let passes = after_is word first.0 true first.1 (each 0 word (omega arith)) in
      let more = all_descend rest others.0 others.1 (λ j d below. each (suc j) d (omega (arith, below))) in
      subst (λ (f : List plain.Snapshot). find strays f ≡ None) (ok_parts (first.0 ∷ others.0) found others.2) (ap (λ b. cond (not b) (Some first.0) (find strays others.0)) passes ∙ more)

  -- and the first before which it doesn't stand is found
  pub first_strays : (words : List (List ℕ)) (found : List plain.Snapshot) (k : ℕ) (d : List ℕ) → find_each words pool ≡ Ok found → k < length words
      → ((j : ℕ) (e : List ℕ) → j < k → comes_after pool taken (get_or words j e) ≡ true) → comes_after pool taken (get_or words k d) ≡ false
      → (redaction : plain.Snapshot) × (find (λ redaction. not (comes_before pool (OfSnapshot taken) redaction)) found ≡ Some redaction) × (redaction.name ≡ get_or words k d)
  first_strays [] found k d is below before stops = absurd (omega (arith, below))
  first_strays (word ∷ rest) found zero d is below before stops =
      let first = or_else_ok (no_such (names.Snapshot word)) (snapshot_named word pool) (λ s. find_each rest pool >>= λ others. Ok (s ∷ others)) found is in
      let others = bind_ok (find_each rest pool) (λ others. Ok (first.0 ∷ others)) found first.2 in
      let fails = after_is word first.0 false first.1 stops in (
        first.0,
        subst (λ (f : List plain.Snapshot). find strays f ≡ Some first.0) (ok_parts (first.0 ∷ others.0) found others.2) (ap (λ b. cond (not b) (Some first.0) (find strays others.0)) fails),
        (named_found (λ (s : plain.Snapshot). s.name) word pool.snapshots first.0 first.1).1,
      )
  first_strays (word ∷ rest) found (suc k) d is below before stops =
      let first = or_else_ok (no_such (names.Snapshot word)) (snapshot_named word pool) (λ s. find_each rest pool >>= λ others. Ok (s ∷ others)) found is in
      let others = bind_ok (find_each rest pool) (λ others. Ok (first.0 ∷ others)) found first.2 in
      let passes = after_is word first.0 true first.1 (before 0 word (omega arith)) in
      let more = first_strays rest others.0 k d others.1 (omega (arith, below)) (λ j e less. before (suc j) e (omega (arith, less))) stops in (
        more.0,
        subst (λ (f : List plain.Snapshot). find strays f ≡ Some more.0) (ok_parts (first.0 ∷ others.0) found others.2) (ap (λ b. cond (not b) (Some first.0) (find strays others.0)) passes ∙ more.1),
        more.2,
      )

-- ---- what the rows hold

-- one that is found stands before the rest
found_first : {A : Type 0} (o : Option A) (rest : List A) → with_found o [] ++ rest ≡ with_found o rest
found_first None rest = refl
found_first (Some x) rest = refl

-- rows gathered name by name: with those of the names that are left they are the rows of all
abbrev pub Gathers : Rows → List (List ℕ) → ℕ → List Snapshot → Type 0
Gathers rows words place gathered = gathered ++ rows_of (drop place words) rows ≡ rows_of words rows

pub gathers_more : (rows : Rows) (words : List (List ℕ)) (place : ℕ) (word : List ℕ) (gathered more : List Snapshot) → place < length words → word ≡ get_or words place word
    → more ≡ gathered ++ with_found (snapshot_row word rows) [] → Gathers rows words place gathered → Gathers rows words (place + 1) more
gathers_more rows words place word gathered more inside is pushed stands =
    let rest = rows_of (drop (place + 1) words) rows in
    let here : drop place words ≡ get_or words place word ∷ drop (place + 1) words = rw add-one (drop-cons words place word inside) in
    ap (λ (l : List Snapshot). l ++ rest) pushed
    ∙ append_assoc gathered (with_found (snapshot_row word rows) []) rest
    ∙ ap (λ (l : List Snapshot). gathered ++ l) (found_first (snapshot_row word rows) rest)
    ∙ ap (λ (w : List ℕ). gathered ++ rows_of (w ∷ drop (place + 1) words) rows) is
    ∙ ap (λ (ws : List (List ℕ)). gathered ++ rows_of ws rows) (sym here)
    ∙ stands

pub gathers_all : (rows : Rows) (words : List (List ℕ)) (place : ℕ) (gathered : List Snapshot) → length words ≤ place → Gathers rows words place gathered → gathered ≡ rows_of words rows
gathers_all rows words place gathered all stands =
    sym (append-nil gathered) ∙ ap (λ (ws : List (List ℕ)). gathered ++ rows_of ws rows) (sym (drop_all place words all)) ∙ stands

-- each is a row
with_all : {A : Type 0} (P : A → Type 0) (o : Option A) (rest : List A) → ((x : A) → o ≡ Some x → P x) → All P rest → All P (with_found o rest)
with_all P None rest is all = all
with_all P (Some x) rest is all = All-cons P x rest (is x refl) all

pub rows_lawful : (rows : Rows) → All IsSnapshotRow rows.snapshots → (words : List (List ℕ)) → All IsSnapshotRow (rows_of words rows)
rows_lawful rows lawful [] = All-nil IsSnapshotRow
rows_lawful rows lawful (word ∷ rest) =
    with_all IsSnapshotRow (snapshot_row word rows) (rows_of rest rows)
    (λ row is. All-contains IsSnapshotRow rows.snapshots row lawful (named_found (λ (s : Snapshot). s.name) word rows.snapshots row is).0) (rows_lawful rows lawful rest)

-- what stands at the places of lists that match matches
pub each_alike : {A B : Type 0} (Is : A → B → Type 0) (xs : List A) (ys : List B) → Match Is xs ys → (ps : List A) (qs : List B) → Match (StandAlike xs ys) ps qs → Match Is ps qs
each_alike Is xs ys m [] [] alike = tt
each_alike Is xs ys m [] (q ∷ qs) alike = absurd alike
each_alike Is xs ys m (p ∷ ps) [] alike = absurd alike
each_alike Is xs ys m (p ∷ ps) (q ∷ qs) alike = (Match-alike Is xs ys p q m alike.0, each_alike Is xs ys m ps qs alike.1)

-- the sets of rows hold the states of the snapshots for which they stand
pub sets_hold : (has : Blocks) (rows : List Snapshot) (redactions : List plain.Snapshot) → Match (SnapshotIs None has) rows redactions → AllZip (SetHolds has) (sets_of rows) (objects_of redactions)
sets_hold has [] [] m = tt
sets_hold has [] (s ∷ redactions) m = absurd m
sets_hold has (row ∷ rows) [] m = absurd m
sets_hold has (row ∷ rows) (s ∷ redactions) m = (m.0.objects, sets_hold has rows redactions m.1)

-- their guids are those of the snapshots that they name
pub same_guids : (rows : List Snapshot) (redactions : List plain.Snapshot) → Match NamesSnapshot rows redactions → row_guids rows ≡ guids_of redactions
same_guids [] [] m = refl
same_guids [] (s ∷ redactions) m = absurd m
same_guids (row ∷ rows) [] m = absurd m
same_guids (row ∷ rows) (s ∷ redactions) m = ap (λ (g : ℕ). with_guid g (row_guids rows)) (sym m.0.guid) ∙ ap (with_guid s.guid) (same_guids rows redactions m.1)

-- with one guid there are some
put_some : (guid : ℕ) (guids : List ℕ) → with_guid guid guids ≡ [] → ⊥
put_some guid [] none = cc none
put_some guid (next ∷ rest) none = go (nat_lt guid next) (guid == next) none
  where
    go : (t u : Bool) → (if t then guid ∷ next ∷ rest else (if u then next ∷ rest else next ∷ with_guid guid rest)) ≡ [] → ⊥
    go true u is = cc is
    go false true is = cc is
    go false false is = cc is

guids_some : (rows : List Snapshot) → 0 < length rows → row_guids rows ≡ [] → ⊥
guids_some [] some none = omega (arith, some)
guids_some (row ∷ rows) some none = put_some row.guid (row_guids rows) none

-- the rows with that of a redaction bookmark
pub redaction_runs : {bound : Option ℕ} (has : Blocks) (rows : Rows) (pool : Pool) → RunsBy bound has rows pool → (name : List ℕ) (row : Snapshot) (others : List Snapshot) (taken : plain.Snapshot) (redactions : List plain.Snapshot) (count : ℕ) (tree : Tree)
    → 0 < length others → SnapshotIs bound has row taken → row_guids others ≡ guids_of redactions → HasList has tree.levels tree.root count (left_of taken redactions)
    → RunsBy bound has (record rows { bookmarks = inserted (λ a b. is_before a.name b.name) (redaction_row name row (row_guids others) count tree) rows.bookmarks }) (with_marked (redaction_of name taken redactions) pool)
redaction_runs has rows pool runs name row others taken redactions count tree some is guids list = record {
  datasets = runs.datasets;
  snapshots = runs.snapshots;
  bookmarks = inserted-Match (BookmarkIs has) (λ a b. is_before a.name b.name) (λ a b. is_before a.name b.name) (redaction_row name row (row_guids others) count tree) (redaction_of name taken redactions)
      (λ x y matches. ap (is_before name) (sym matches.named.name))
      (record {
        named = record { name = refl; guid = is.named.guid; time = is.named.time; number = is.named.number; redact = sym guids };
        list = list;
        no_list = λ none. absurd (guids_some others some none);
      })
      rows.bookmarks pool.bookmarks runs.bookmarks;
  partials = runs.partials;
}
