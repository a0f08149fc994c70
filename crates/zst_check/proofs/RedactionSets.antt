-- The redaction snapshots of a bookmark, one for each guid, and their sets.
use Rattle.std.proofs.Common.{◌≡◌, inl, inr, ℕ, zero, suc, ◌<◌, true, List, [], ◌∷◌, ◌++◌, length, Some, Contains, get_or, nat_lt, refl, sym, ap, ◌∙◌, subst, arith}
use Rattle.std.specs.List.{AllZip}
use Rattle.std.proofs.lemmas.Bool.{and_parts, ltb-true}
use Rattle.std.proofs.lemmas.List.{get_or-map, get_or_default, length-map}
use Rattle.std.proofs.lemmas.List.Elements.{Contains-get_or}
use Rattle.zst_dir.specs.declared.rows.Snapshot.{Snapshot as Row}
use Rattle.zst_dir.specs.RowNames.{Match, NamesSnapshot, StandAlike}
use Rattle.zst_dir.proofs.Matches.{length-Match}
use Rattle.zst_model.specs.fields.Guids.{IsGuidSet, is_rising}
use Rattle.zst_model.specs.pools.Pool.{Pool, Snapshot}
use Rattle.zst_model.proofs.InsertedLaws.{contains_cases, contains_first, contains_later, contains_nothing}
use Rattle.zst_tree.specs.declared.tree.ObjSet.{ObjSet}
use Rattle.zst_laws.specs.RedactionLists.{AreRedactions, each_guid}
use Rattle.zst_check.specs.Findings.{StandsAtPlace}
use Rattle.zst_check.specs.Redactions.{AreSetsOf, IsOnlyBehind, IsSetOf}
use Rattle.zst_check.proofs.OnlyPlaces.{alike_at}

-- two lists that go together, with one more each
zip_more : {A B : Type 0} (R : A → B → Type 0) (xs : List A) (ys : List B) (x : A) (y : B) → AllZip R xs ys → R x y → AllZip R (xs ++ x ∷ []) (ys ++ y ∷ [])
zip_more R [] [] x y all is = (is, tt)
zip_more R [] (b ∷ ys) x y all is = absurd all
zip_more R (a ∷ xs) [] x y all is = absurd all
zip_more R (a ∷ xs) (b ∷ ys) x y all is = (all.0, zip_more R xs ys x y all.1 is)

-- lists as long as each other go together where each does with the one at its place
zip_from : {A B : Type 0} (R : A → B → Type 0) (xs : List A) (ys : List B) → length xs ≡ length ys → ((k : ℕ) (d : A) (e : B) → k < length xs → R (get_or xs k d) (get_or ys k e)) → AllZip R xs ys
zip_from R [] [] long each = tt
zip_from R [] (b ∷ ys) long each = absurd (omega (arith, long))
zip_from R (a ∷ xs) [] long each = absurd (omega (arith, long))
zip_from R (a ∷ xs) (b ∷ ys) long each = (each zero a b (omega arith), zip_from R xs ys (omega (arith, long)) (λ k d e inside. each (suc k) d e (omega (arith, inside))))

-- what one list has goes together with something of the other
zip_left : {A B : Type 0} (R : A → B → Type 0) (xs : List A) (ys : List B) → AllZip R xs ys → (y : B) → Contains ys y → (x : A) × R x y
zip_left R [] [] all y there = absurd (contains_nothing y there)
zip_left R [] (b ∷ ys) all y there = absurd all
zip_left R (a ∷ xs) [] all y there = absurd all
zip_left {A = A} {B = B} R (a ∷ xs) (b ∷ ys) all y there = elim (contains_cases b ys y there) [
  | inl same ↦ (a, subst (λ (z : B). R a z) same all.0)
  | inr later ↦ zip_left R xs ys all.1 y later
]

zip_right : {A B : Type 0} (R : A → B → Type 0) (xs : List A) (ys : List B) → AllZip R xs ys → (x : A) → Contains xs x → (y : B) × Contains ys y × R x y
zip_right R [] [] all x there = absurd (contains_nothing x there)
zip_right R [] (b ∷ ys) all x there = absurd all
zip_right R (a ∷ xs) [] all x there = absurd all
zip_right {A = A} {B = B} R (a ∷ xs) (b ∷ ys) all x there = elim (contains_cases a xs x there) [
  | inl same ↦ (b, contains_first b ys, subst (λ (z : A). R z b) same all.0)
  | inr later ↦ let found = zip_right R xs ys all.1 x later in (found.0, contains_later b ys found.0 found.1, found.2)
]

-- guids that rise stand at one place each
rises_over : (guid : ℕ) (guids : List ℕ) → is_rising (guid ∷ guids) ≡ true → (k : ℕ) → k < length guids → guid < get_or guids k 0
rises_over guid [] rising k inside = absurd (omega (arith, inside))
rises_over guid (next ∷ rest) rising zero inside = ltb-true guid next (and_parts (nat_lt guid next) (is_rising (next ∷ rest)) rising).0
rises_over guid (next ∷ rest) rising (suc k) inside =
    let parts = and_parts (nat_lt guid next) (is_rising (next ∷ rest)) rising in
    let less = ltb-true guid next parts.0 in
    let over = rises_over next rest parts.1 k (omega (arith, inside)) in
    omega (arith, less, over)

rest_rises : (guid : ℕ) (guids : List ℕ) → is_rising (guid ∷ guids) ≡ true → is_rising guids ≡ true
rest_rises guid [] rising = refl
rest_rises guid (next ∷ rest) rising = (and_parts (nat_lt guid next) (is_rising (next ∷ rest)) rising).1

one_place : (guids : List ℕ) → is_rising guids ≡ true → (j k : ℕ) → j < length guids → k < length guids → get_or guids j 0 ≡ get_or guids k 0 → j ≡ k
one_place [] rising j k inside within same = absurd (omega (arith, inside))
one_place (guid ∷ guids) rising zero zero inside within same = refl
one_place (guid ∷ guids) rising zero (suc k) inside within same = let over = rises_over guid guids rising k (omega (arith, within)) in absurd (omega (arith, over, same))
one_place (guid ∷ guids) rising (suc j) zero inside within same = let over = rises_over guid guids rising j (omega (arith, inside)) in absurd (omega (arith, over, same))
one_place (guid ∷ guids) rising (suc j) (suc k) inside within same = ap suc (one_place guids (rest_rises guid guids rising) j k (omega (arith, inside)) (omega (arith, within)) same)

module _ (pool : Pool) (own : Snapshot) where
  -- a snapshot for each guid, which is the only one with it that stands behind
  abbrev pub AreOnly : List ℕ → List Snapshot → Type 0
  AreOnly guids redactions = AllZip (IsOnlyBehind pool own) guids redactions

  guids_are : (guids : List ℕ) (redactions : List Snapshot) → AreOnly guids redactions → each_guid redactions ≡ guids
  guids_are [] [] only = refl
  guids_are [] (redaction ∷ redactions) only = absurd only
  guids_are (guid ∷ guids) [] only = absurd only
  guids_are (guid ∷ guids) (redaction ∷ redactions) only = rw (only.0.behind.guid_is, guids_are guids redactions only.1) refl

  -- those are the redaction snapshots
  pub are_redactions : (guids : List ℕ) (redactions : List Snapshot) → AreOnly guids redactions → AreRedactions pool own guids redactions
  are_redactions guids redactions only = record {
    guids_are = guids_are guids redactions only;
    there = λ redaction has. (zip_left (IsOnlyBehind pool own) guids redactions only redaction has).1.behind.there;
    later = λ redaction has. (zip_left (IsOnlyBehind pool own) guids redactions only redaction has).1.behind.later;
    alone = λ other there later among.
        let found = zip_right (IsOnlyBehind pool own) guids redactions only other.guid among in
        subst (Contains redactions) (sym (found.2.alone other (record { there = there; guid_is = refl; later = later }))) found.1;
  }

  -- and no others are
  same_only : (guids : List ℕ) (redactions others : List Snapshot) → AreOnly guids redactions → AreOnly guids others → redactions ≡ others
  same_only [] [] [] only also = refl
  same_only [] (redaction ∷ redactions) others only also = absurd only
  same_only [] [] (other ∷ others) only also = absurd also
  same_only (guid ∷ guids) [] others only also = absurd only
  same_only (guid ∷ guids) (redaction ∷ redactions) [] only also = absurd also
  same_only (guid ∷ guids) (redaction ∷ redactions) (other ∷ others) only also = rw (also.0.alone redaction only.0.behind, same_only guids redactions others only.1 also.1) refl

  module _ (guids : List ℕ) (set : IsGuidSet guids) (redactions : List Snapshot) (are : AreRedactions pool own guids redactions) where
    as_long : length guids ≡ length redactions
    as_long = ap length (sym are.guids_are) ∙ length-map redactions (λ (snapshot : Snapshot). snapshot.guid)

    guid_at : (k : ℕ) (e : Snapshot) → k < length redactions → get_or guids k 0 ≡ (get_or redactions k e).guid
    guid_at k e inside = ap (λ (all : List ℕ). get_or all k 0) (sym are.guids_are) ∙ get_or-map (λ (snapshot : Snapshot). snapshot.guid) redactions k e 0 inside

    only_at : (k : ℕ) (d : ℕ) (e : Snapshot) → k < length guids → IsOnlyBehind pool own (get_or guids k d) (get_or redactions k e)
    only_at k d e inside =
        let within : k < length redactions = omega (arith, inside, as_long) in
        let has = Contains-get_or redactions k e within in
        subst (λ (guid : ℕ). IsOnlyBehind pool own guid (get_or redactions k e)) (get_or_default guids k 0 d inside) (record {
          behind = record { there = are.there (get_or redactions k e) has; guid_is = sym (guid_at k e within); later = are.later (get_or redactions k e) has };
          alone = λ other is.
              let found = are.alone other is.there is.later (subst (Contains guids) (sym is.guid_is) (Contains-get_or guids k 0 inside)) in
              let near : found.0 < length guids = omega (arith, found.1, as_long) in
              let place = one_place guids set.rising found.0 k near inside (guid_at found.0 other found.1 ∙ (ap (λ (s : Snapshot). s.guid) found.2 ∙ is.guid_is)) in
              sym found.2 ∙ (get_or_default redactions found.0 other e found.1 ∙ ap (λ (n : ℕ). get_or redactions n e) place);
        })

    -- each redaction snapshot is the only one with its guid
    pub only_redactions : AreOnly guids redactions
    only_redactions = zip_from (IsOnlyBehind pool own) guids redactions as_long only_at

  -- a bookmark has no two lists of redaction snapshots
  pub same_redactions : (guids : List ℕ) → IsGuidSet guids → (redactions others : List Snapshot) → AreRedactions pool own guids redactions → AreRedactions pool own guids others → redactions ≡ others
  same_redactions guids set redactions others are also = same_only guids redactions others (only_redactions guids set redactions are) (only_redactions guids set others also)

  -- and none, where one of its guids isn't that of an only one
  pub no_redactions : (guids : List ℕ) → IsGuidSet guids → (k d : ℕ) → k < length guids
      → ((snapshot : Snapshot) → IsOnlyBehind pool own (get_or guids k d) snapshot → ⊥) → (redactions : List Snapshot) → AreRedactions pool own guids redactions → ⊥
  no_redactions guids set k d inside none redactions are =
      go redactions are (omega (arith, inside, as_long guids set redactions are))
    where
      go : (redactions : List Snapshot) → AreRedactions pool own guids redactions → k < length redactions → ⊥
      go [] are within = omega (arith, within)
      go (redaction ∷ rest) are within = none (get_or (redaction ∷ rest) k redaction) (only_at guids set (redaction ∷ rest) are k d redaction inside)

-- the redaction snapshots of the guids so far, and their sets
pub record HasSetsFor (all : List Row) (pool : Pool) (own : Snapshot) (guids : List ℕ) (sets : List ObjSet) : Type 0 where
  pub redactions : List Snapshot
  pub only : AreOnly pool own guids redactions
  pub sets_are : AreSetsOf all pool.snapshots sets redactions

pub has_none : (all : List Row) (pool : Pool) (own : Snapshot) → HasSetsFor all pool own [] []
has_none all pool own = record { redactions = []; only = tt; sets_are = tt }

-- with one more
pub has_more : (all : List Row) (pool : Pool) (own : Snapshot) (guids : List ℕ) (sets : List ObjSet) → HasSetsFor all pool own guids sets → (guid : ℕ) (place : ℕ) (row : Row) → Match NamesSnapshot all pool.snapshots
    → place < length all → row ≡ get_or all place row → ((snapshot : Snapshot) → StandsAtPlace pool.snapshots (Some place) snapshot → IsOnlyBehind pool own guid snapshot)
    → HasSetsFor all pool own (guids ++ guid ∷ []) (sets ++ row.objects ∷ [])
has_more all pool own guids sets has guid place row match inside is only = record {
  redactions = has.redactions ++ there ∷ [];
  only = zip_more (IsOnlyBehind pool own) guids has.redactions guid there has.only (only there (λ d. get_or_default pool.snapshots place d own within));
  sets_are = zip_more (IsSetOf all pool.snapshots) sets has.redactions row.objects there has.sets_are (record {
    row = row;
    alike = subst (λ (other : Row). StandAlike all pool.snapshots other there) (sym is) (alike_at NamesSnapshot all pool.snapshots match place row own inside);
    is_set = refl;
  });
}
  where
    there : Snapshot
    there = get_or pool.snapshots place own

    within : place < length pool.snapshots
    within = omega (arith, inside, length-Match NamesSnapshot all pool.snapshots match)
