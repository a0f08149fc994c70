-- The names of the file system and its snapshot are names.
use Rattle.std.proofs.Common.{◌≡◌, ◌≢◌, ℕ, zero, suc, ◌+◌, ◌<◌, ◌≤◌, ◌==◌, Bool, true, not, ◌&&◌, nat_lt, nat_le, List, [], ◌∷◌, length, get_or, inl, inr, refl, subst, arith}
use Rattle.std.specs.Fmt.{digits}
use Rattle.std.specs.List.{AllByRecursion, list_all, range_with_len}
use Rattle.std.proofs.lemmas.Bool.{and_parts, cases_eq}
use Rattle.std.proofs.lemmas.Bool.Decides.{nat_tests}
use Rattle.std.proofs.lemmas.List.Elements.{All-from_recursion}
use Rattle.zst_names.specs.Names.{is_component_byte, IsComponent, IsDataset, IsSnapshot, component_of, dataset_of, parts}
use Rattle.zst_gen.specs.Generated.{fs_name, snapshot_name}

-- tests that compute
abbrev is_component : List ℕ → Bool
is_component text = (nat_lt 0 (length text) && nat_le (length text) 64) && (list_all is_component_byte text && not (get_or text 0 0 == 45))

abbrev is_dataset : List ℕ → Bool
is_dataset text = list_all is_component (parts text) && (nat_le (length (parts text)) 8 && nat_le (length text) 190)

abbrev is_snapshot : List ℕ → Bool
is_snapshot text = is_dataset (dataset_of 64 text) && is_component (component_of 64 text)

component_passes : (text : List ℕ) → is_component text ≡ true → IsComponent text
component_passes text passes =
    let both = and_parts (nat_lt 0 (length text) && nat_le (length text) 64) (list_all is_component_byte text && not (get_or text 0 0 == 45)) passes in
    let sizes = and_parts (nat_lt 0 (length text)) (nat_le (length text) 64) both.0 in
    let bytes = and_parts (list_all is_component_byte text) (not (get_or text 0 0 == 45)) both.1 in
    record { some = some (length text) sizes.0; short = short (length text) 64 sizes.1; bytes = bytes.0; first = first (get_or text 0 0) bytes.1 }
  where
    some : (n : ℕ) → nat_lt 0 n ≡ true → 0 < n
    some n is = grind (arith, nat_tests)

    short : (n most : ℕ) → nat_le n most ≡ true → n ≤ most
    short n most is = grind (arith, nat_tests)

    first : (byte : ℕ) → not (byte == 45) ≡ true → byte ≢ 45
    first byte is = grind (arith, nat_tests)

components_pass : (texts : List (List ℕ)) → list_all is_component texts ≡ true → AllByRecursion IsComponent texts
components_pass [] passes = tt
components_pass (text ∷ rest) passes =
    let both = and_parts (is_component text) (list_all is_component rest) passes in
    (component_passes text both.0, components_pass rest both.1)

dataset_passes : (text : List ℕ) → is_dataset text ≡ true → IsDataset text
dataset_passes text passes =
    let both = and_parts (list_all is_component (parts text)) (nat_le (length (parts text)) 8 && nat_le (length text) 190) passes in
    let sizes = and_parts (nat_le (length (parts text)) 8) (nat_le (length text) 190) both.1 in
    record { components = All-from_recursion IsComponent (parts text) (components_pass (parts text) both.0); few = within (length (parts text)) 8 sizes.0; short = within (length text) 190 sizes.1 }
  where
    within : (n most : ℕ) → nat_le n most ≡ true → n ≤ most
    within n most is = grind (arith, nat_tests)

-- what holds of each number of a range holds of one
passes_at : (p : ℕ → Bool) (a count n : ℕ) → list_all p (range_with_len a count) ≡ true → a ≤ n → n < a + count → p n ≡ true
passes_at p a zero n all low high = absurd (omega arith)
passes_at p a (suc count) n all low high =
    let both = and_parts (p a) (list_all p (range_with_len (a + 1) count)) all in
    elim (cases_eq a n) [
      | inl same ↦ subst (λ (m : ℕ). p m ≡ true) same both.0
      | inr other ↦ passes_at p (a + 1) count n both.1 (omega arith) (omega arith)
    ]

datasets_pass : list_all (λ n. is_dataset (fs_name n)) (range_with_len 1 64) ≡ true
unfolding is_component_byte digits
datasets_pass = refl

snapshots_pass : list_all (λ n. is_snapshot (snapshot_name n)) (range_with_len 1 64) ≡ true
unfolding is_component_byte digits
snapshots_pass = refl

pub fs_fits : (n : ℕ) → 1 ≤ n → n ≤ 64 → IsDataset (fs_name n)
fs_fits n low high = dataset_passes (fs_name n) (passes_at (λ m. is_dataset (fs_name m)) 1 64 n datasets_pass low (omega arith))

pub snapshot_fits : (n : ℕ) → 1 ≤ n → n ≤ 64 → IsSnapshot (snapshot_name n)
snapshot_fits n low high =
    let text = snapshot_name n in
    let both = and_parts (is_dataset (dataset_of 64 text)) (is_component (component_of 64 text)) (passes_at (λ m. is_snapshot (snapshot_name m)) 1 64 n snapshots_pass low (omega arith)) in
    (dataset_passes (dataset_of 64 text) both.0, component_passes (component_of 64 text) both.1)

-- the snapshot's component
pub g_fits : IsComponent (103 ∷ [])
unfolding is_component_byte
g_fits = component_passes (103 ∷ []) refl
