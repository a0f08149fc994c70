-- The texts of names: their bytes are ASCII, and their parts make them.
use Rattle.std.proofs.Common.{◌≡◌, ℕ, Some, inl, inr, ◌<◌, ◌^◌, true, ◌==◌, List, [], ◌∷◌, ◌++◌, length, sym, subst, ap, arith, length-append}
use Rattle.std.proofs.lemmas.Bool.{eqb-true, and_parts, cases_Bool}
use Rattle.std.proofs.lemmas.List.Elements.{recursion_from_All, All-from_recursion}
use Rattle.std.proofs.lemmas.Str.Ascii.{IsAscii-from_all, IsAscii-nil}
use Rattle.std.specs.List.{list_all, onto_first, AllByRecursion}
use Rattle.zst_names.specs.Names.{is_component_byte, IsComponent, IsDataset, IsName, IsSnapshot, IsBookmark, parts, dataset_of, component_of}
use Rattle.zst_names.proofs.MarkedNames.{joined}
use Rattle.zst_names.proofs.ComponentBytes.{low_byte}
use Rattle.zst_dir.specs.RowReads.{IsPlain}

-- each byte is below 128
AreLow : List ℕ → Type 0
AreLow bytes = AllByRecursion (λ byte. byte < 128) bytes

low_bytes : (bytes : List ℕ) → list_all is_component_byte bytes ≡ true → AreLow bytes
unfolding AreLow
low_bytes [] pass = tt
low_bytes (byte ∷ bytes) pass =
    let both = and_parts (is_component_byte byte) (list_all is_component_byte bytes) pass in
    (low_byte byte both.0, low_bytes bytes both.1)

low_components : (ps : List (List ℕ)) → AllByRecursion IsComponent ps → AllByRecursion AreLow ps
low_components [] each = tt
low_components (p ∷ ps) each = (low_bytes p each.0.bytes, low_components ps each.1)

low_onto : (byte : ℕ) (ps : List (List ℕ)) → AllByRecursion AreLow (onto_first byte ps) → (byte < 128) × AllByRecursion AreLow ps
unfolding AreLow
low_onto byte [] each = (each.0.0, tt)
low_onto byte (p ∷ ps) each = (each.0.0, (each.0.1, each.1))

low_parts : (text : List ℕ) → AllByRecursion AreLow (parts text) → AreLow text
unfolding AreLow
low_parts [] each = tt
low_parts (byte ∷ text) each =
    elim (cases_Bool (byte == 47)) [
      | inl slash ↦ (let rest : AllByRecursion AreLow ([] ∷ parts text) = rw slash at each in (omega (arith, eqb-true byte 47 slash), low_parts text rest.1))
      | inr other ↦ (let first = low_onto byte (parts text) (rw other at each) in (first.0, low_parts text first.1))
    ]

-- so names are plain
plain_of_low : (text : List ℕ) → AreLow text → length text < 2 ^ 63 → IsPlain text
unfolding AreLow
plain_of_low text low short = record { ascii = IsAscii-from_all text (All-from_recursion (λ byte. byte < 128) text low); short = short }

low_dataset : (text : List ℕ) → IsDataset text → AreLow text
low_dataset text name = low_parts text (low_components (parts text) (recursion_from_All IsComponent (parts text) name.components))

low_append : (front back : List ℕ) → AreLow front → AreLow back → AreLow (front ++ back)
unfolding AreLow
low_append [] back low rest = rest
low_append (byte ∷ front) back low rest = (low.0, low_append front back low.1 rest)

pub plain_component : (text : List ℕ) → IsComponent text → IsPlain text
plain_component text name = plain_of_low text (low_bytes text name.bytes) (omega (arith, name.short))

pub plain_dataset : (text : List ℕ) → IsDataset text → IsPlain text
plain_dataset text name = plain_of_low text (low_dataset text name) (omega (arith, name.short))

-- and so is the name of a snapshot or of a bookmark
plain_marked : (mark : ℕ) (text : List ℕ) → mark < 128 → IsName (Some mark) text → IsPlain text
unfolding AreLow
plain_marked mark text low name =
    let dataset = dataset_of mark text in
    let component = component_of mark text in
    let parts_low : AreLow (dataset ++ mark ∷ component) = low_append dataset (mark ∷ component) (low_dataset dataset name.0) (low, low_bytes component name.1.bytes) in
    let same : text ≡ dataset ++ mark ∷ component = joined mark text name.1 in
    plain_of_low text (subst AreLow (sym same) parts_low) (omega (arith, ap length same, length-append dataset (mark ∷ component), name.0.short, name.1.short))

pub plain_snapshot : (text : List ℕ) → IsSnapshot text → IsPlain text
plain_snapshot text name = plain_marked 64 text (omega arith) name

pub plain_bookmark : (text : List ℕ) → IsBookmark text → IsPlain text
plain_bookmark text name = plain_marked 35 text (omega arith) name

-- a snapshot's name, of its dataset and its component
pub snapshot_of_parts : (name dataset component : List ℕ) → IsSnapshot name → dataset_of 64 name ≡ dataset → component ≡ component_of 64 name → dataset ++ 64 ∷ component ≡ name
snapshot_of_parts name dataset component whole of_dataset of_component = rw (of_component, ← of_dataset) (sym (joined 64 name whole.1))

pub plain_empty : IsPlain []
plain_empty = record { ascii = IsAscii-nil; short = omega arith }
