-- The walk over the partial states: the lines so far, and those of the names that are left.
use Rattle.std.proofs.Common.{◌≡◌, ℕ, zero, suc, ◌+◌, Bool, true, false, cond, not, ◌==◌, List, [], ◌∷◌, ◌++◌, length, take, drop, map, if◌then◌else◌, refl, sym, ap, ◌∙◌, arith, append_assoc}
use Rattle.std.specs.List.{flat_map, position_or_len}
use Rattle.std.proofs.lemmas.Grind.{flat_map-append}
use Rattle.std.proofs.lemmas.List.{append-nil, drop-map, take-map}
use Rattle.zst_model.specs.pools.Pool.{is_before}
use Rattle.zst_dir.specs.Rows.{Rows}
use Rattle.zst_dir.specs.declared.rows.Dataset.{Dataset}
use Rattle.zst_dir.specs.declared.rows.Partial.{Partial}
use Rattle.zst_listing.specs.Rows.{datasets_of, lines_of}
use Rattle.zst_listing.proofs.MergedNames.{merged, place_among}
use Rattle.zst_listing.proofs.RangeLaws.{InOrder}

-- no dataset has this name
abbrev pub is_missing : Rows → List ℕ → Bool
is_missing rows target = length (datasets_of target rows.datasets) == 0

-- the names of these datasets, and between them the targets of these partial states that no dataset has
abbrev pub names_of : Rows → List Partial → List Dataset → List (List ℕ)
names_of rows partials datasets = merged (is_missing rows) (map (λ partial. partial.target) partials) (map (λ dataset. dataset.name) datasets)

-- the lines of all the names
abbrev pub all_lines : Rows → List (List ℕ)
all_lines rows = flat_map (lines_of rows) (names_of rows rows.partials rows.datasets)

-- the lines so far, with those of the names of these partial states and datasets, are all the lines
pub record Walked (rows : Rows) (partials : List Partial) (datasets : List Dataset) (lines : List (List ℕ)) : Type 0 where
  pub in_order : InOrder (λ dataset. dataset.name) datasets
  pub left : lines ++ flat_map (lines_of rows) (names_of rows partials datasets) ≡ all_lines rows

pub walked_first : (rows : Rows) → InOrder (λ dataset. dataset.name) rows.datasets → Walked rows rows.partials rows.datasets []
walked_first rows ordered = record { in_order = ordered; left = refl }

-- the place of a row is that of its name among the names
place_of_name : (target : List ℕ) (datasets : List Dataset) → place_among target (map (λ d. d.name) datasets) ≡ position_or_len (λ d. is_before target d.name) datasets
place_of_name target [] = refl
place_of_name target (dataset ∷ datasets) = ap (λ n. cond (not (is_before target dataset.name)) (1 + n) 0) (place_of_name target datasets)

-- the lines of a target that may be left out
abbrev pub target_lines : Rows → List ℕ → List (List ℕ)
target_lines rows target = if is_missing rows target then lines_of rows target else []

of_target : (rows : Rows) (target : List ℕ) → flat_map (lines_of rows) (if is_missing rows target then target ∷ [] else []) ≡ target_lines rows target
of_target rows target = go (is_missing rows target)
  where
    go : (t : Bool) → flat_map (lines_of rows) (if t then target ∷ [] else []) ≡ (if t then lines_of rows target else [])
    go true = append-nil (lines_of rows target)
    go false = refl

-- the lines of the datasets that a target doesn't stand before, those of the target, and those of what is left
split : (rows : Rows) (partial : Partial) (partials : List Partial) (datasets : List Dataset) (place : ℕ) → place ≡ position_or_len (λ d. is_before partial.target d.name) datasets
    → flat_map (lines_of rows) (names_of rows (partial ∷ partials) datasets)
    ≡ flat_map (lines_of rows) (map (λ d. d.name) (take place datasets)) ++ (target_lines rows partial.target ++ flat_map (lines_of rows) (names_of rows partials (drop place datasets)))
split rows partial partials datasets place is =
    let target = partial.target in
    let names = map (λ (d : Dataset). d.name) datasets in
    let at : place_among target names ≡ place = place_of_name target datasets ∙ sym is in
    let middle : List (List ℕ) = if is_missing rows target then target ∷ [] else [] in
    let rest = merged (is_missing rows) (map (λ (p : Partial). p.target) partials) in
    let lines = flat_map (lines_of rows) in
    ap (λ n. lines (take n names ++ (middle ++ rest (drop n names)))) at
    ∙ flat_map-append (lines_of rows) (take place names) (middle ++ rest (drop place names))
    ∙ ap (λ l. lines (take place names) ++ l) (flat_map-append (lines_of rows) middle (rest (drop place names)))
    ∙ ap (λ l. lines (take place names) ++ (l ++ lines (rest (drop place names)))) (of_target rows target)
    ∙ ap (λ l. lines l ++ (target_lines rows target ++ lines (rest (drop place names)))) (take-map (λ (d : Dataset). d.name) place datasets)
    ∙ ap (λ l. lines (map (λ (d : Dataset). d.name) (take place datasets)) ++ (target_lines rows target ++ lines (rest l))) (drop-map (λ (d : Dataset). d.name) place datasets)

order-drop : {A : Type 0} (key : A → List ℕ) (place : ℕ) (rows : List A) → InOrder key rows → InOrder key (drop place rows)
order-drop key zero rows ordered = ordered
order-drop key (suc place) [] ordered = ordered
order-drop key (suc place) (row ∷ rows) ordered = order-drop key place rows (λ i j d below inside. ordered (suc i) (suc j) d (omega (arith, below)) (omega (arith, inside)))

pub walked_more : (rows : Rows) (partial : Partial) (partials : List Partial) (datasets : List Dataset) (lines : List (List ℕ)) (place : ℕ)
    → place ≡ position_or_len (λ d. is_before partial.target d.name) datasets → Walked rows (partial ∷ partials) datasets lines
    → Walked rows partials (drop place datasets) ((lines ++ flat_map (lines_of rows) (map (λ d. d.name) (take place datasets))) ++ target_lines rows partial.target)
walked_more rows partial partials datasets lines place is walked =
    let front = flat_map (lines_of rows) (map (λ (d : Dataset). d.name) (take place datasets)) in
    let middle = target_lines rows partial.target in
    let back = flat_map (lines_of rows) (names_of rows partials (drop place datasets)) in
    record {
      in_order = order-drop (λ d. d.name) place datasets walked.in_order;
      left = append_assoc (lines ++ front) middle back ∙ append_assoc lines front (middle ++ back) ∙ ap (λ l. lines ++ l) (sym (split rows partial partials datasets place is)) ∙ walked.left;
    }

-- where no partial state is left, the lines of the datasets are
pub walked_last : (rows : Rows) (datasets : List Dataset) (lines : List (List ℕ)) → Walked rows [] datasets lines
    → lines ++ flat_map (lines_of rows) (map (λ d. d.name) datasets) ≡ all_lines rows
walked_last rows datasets lines walked = walked.left
