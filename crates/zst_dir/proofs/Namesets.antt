-- A set of the names of snapshots that differ.
use Rattle.std.proofs.Common.{◌≡◌, ◌≢◌, ℕ, ◌<◌, Bool, true, false, cond, ◌⊎◌, inl, inr, List, [], ◌∷◌, ◌++◌, length, get_or, take, refl, sym, ap, ◌∙◌, arith, bytes_eq, length-take}
use Rattle.std.proofs.lemmas.Bool.{true≢false, cases_Bool}
use Rattle.std.proofs.lemmas.List.{get_or-take, get_or_read}
use Rattle.std.proofs.lemmas.List.Elements.{Contains-append_left, Contains-push, Contains-push_cases, Contains-get_or}
use Rattle.std.proofs.lemmas.List.Quantifiers.{all_pairs_push}
use Rattle.std.proofs.lemmas.Map.Text.{is_eq-slice_cmp}
use Rattle.std.specs.BTreeSet.{BTreeSet}
use Rattle.std.specs.Cmp.Lexicographic.{slice_cmp}
use Rattle.std.specs.List.{AllPairs, list_any}
use Rattle.std.specs.Ordering.{nat_cmp, is_eq}
use Rattle.zst_model.proofs.OrderLaws.{same_bytes, bytes_same}
use Rattle.zst_dir.specs.declared.rows.Snapshot.{Snapshot}
use Rattle.zst_dir.specs.RowChecks.{HasNamed, AreNamesOf, has}

-- snapshots no two of which have one name
abbrev pub Differ : List Snapshot → Type 0
Differ snapshots = AllPairs (λ a b. a.name ≢ b.name) snapshots

-- after some snapshots: their names differ, and the set has them
pub record Collected (snapshots : List Snapshot) (names : BTreeSet (List ℕ)) : Type 0 where
  pub names_of : AreNamesOf snapshots names
  pub differ : Differ snapshots

-- one more name
named_more : (snapshots : List Snapshot) (snapshot : Snapshot) (name : List ℕ) → HasNamed snapshots name → HasNamed (snapshots ++ snapshot ∷ []) name
named_more snapshots snapshot name there = (there.0, Contains-append_left snapshots (snapshot ∷ []) there.0 there.1, there.2)

named_cases : (snapshots : List Snapshot) (snapshot : Snapshot) (name : List ℕ) → HasNamed (snapshots ++ snapshot ∷ []) name → (snapshot.name ≡ name) ⊎ HasNamed snapshots name
named_cases snapshots snapshot name there = elim (Contains-push_cases snapshots snapshot there.0 there.1) [
  | inl old ↦ inr (there.0, old, there.2)
  | inr same ↦ inl (ap (λ (s : Snapshot). s.name) same ∙ there.2)
]

at_name : (key name : List ℕ) (old new : Bool) → new ≡ cond (is_eq (slice_cmp nat_cmp key name)) true old → (new ≡ true) → (key ≡ name) ⊎ (old ≡ true)
at_name key name old new is has_it = go (cases_Bool (bytes_eq key name))
  where
    go : (bytes_eq key name ≡ true) ⊎ (bytes_eq key name ≡ false) → (key ≡ name) ⊎ (old ≡ true)
    go (inl same) = inl (same_bytes key name same)
    go (inr other) = inr (sym (is ∙ ap (λ t. cond t true old) (is_eq-slice_cmp key name ∙ other)) ∙ has_it)

pub collected_more : (snapshots : List Snapshot) (snapshot : Snapshot) (names more : BTreeSet (List ℕ)) → Collected snapshots names → has names snapshot.name ≡ false
    → ((name : List ℕ) → has more name ≡ cond (is_eq (slice_cmp nat_cmp snapshot.name name)) true (has names name)) → Collected (snapshots ++ snapshot ∷ []) more
collected_more snapshots snapshot names more collected absent updated = record {
  names_of = λ name. (
    λ has_it. elim (at_name snapshot.name name (has names name) (has more name) (updated name) has_it) [
      | inl same ↦ (snapshot, Contains-push snapshots snapshot, same)
      | inr old ↦ named_more snapshots snapshot name ((collected.names_of name).0 old)
    ],
    λ there. elim (named_cases snapshots snapshot name there) [
      | inl same ↦ updated name ∙ ap (λ t. cond t true (has names name)) (is_eq-slice_cmp snapshot.name name ∙ bytes_same snapshot.name name same)
      | inr old ↦ updated name ∙ ap (λ t. cond (is_eq (slice_cmp nat_cmp snapshot.name name)) true t) ((collected.names_of name).1 old) ∙ either (is_eq (slice_cmp nat_cmp snapshot.name name))
    ],
  );
  differ = all_pairs_push (λ a b. a.name ≢ b.name) snapshots snapshot collected.differ
      (λ k d below same. true≢false (sym ((collected.names_of snapshot.name).1 (get_or snapshots k d, Contains-get_or snapshots k d below, same)) ∙ absent));
}
  where
    either : (t : Bool) → cond t true true ≡ true
    either true = refl
    either false = refl

-- a name that the set has already is that of two
pub not_differ : (all : List Snapshot) (names : BTreeSet (List ℕ)) (i : ℕ) (snapshot : Snapshot) → Collected (take i all) names → i < length all → snapshot ≡ get_or all i snapshot → has names snapshot.name ≡ true → Differ all → ⊥
not_differ all names i snapshot collected below is present differ =
    let there = (collected.names_of snapshot.name).0 present in
    let other = there.0 in
    let place = there.1.0 in
    let earlier : place < i = omega (arith, there.1.1, length-take i all) in
    let first : get_or all place other ≡ other = sym (get_or-take i all place other earlier) ∙ there.1.2 in
    let second : snapshot ≡ get_or all i other = get_or_read all i snapshot below is other in
    differ place i other earlier below (ap (λ (s : Snapshot). s.name) first ∙ there.2 ∙ ap (λ (s : Snapshot). s.name) second)

-- of no snapshots there are no names
pub collected_none : (names : BTreeSet (List ℕ)) → names.keys ≡ [] → Collected [] names
collected_none names none = record {
  names_of = λ name. (
    λ has_it. absurd (true≢false (sym has_it ∙ ap (λ keys. list_any (λ key. is_eq (slice_cmp nat_cmp name key)) keys) none)),
    λ there. absurd (omega (arith, there.1.1)),
  );
  differ = λ i j d before below. absurd (omega (arith, below));
}
