use Rattle.std.proofs.Common.{◌≡◌, ◌<◌, ◌≤◌, ℕ, List, true, is_some, sym, ap, ◌∙◌, arith}
use Rattle.std.specs.List.{position}
use Rattle.std.specs.Str.{bytes_eq}
use Rattle.std.proofs.lemmas.Bool.{true≢false, leb-true, le-leb}
use Rattle.zst_model.specs.pools.Ancestry.{IsOrigin}
use Rattle.zst_model.specs.pools.Pool.{Snapshot}
use Rattle.zst_names.specs.Names.{dataset_of}
use Rattle.zst_check.proofs.PlacedBookmarks.{placed_from, passes_dataset, passes_number, passes_origin, passes_guids}
use Rattle.zst_check.proofs.bookmarks.is_placed.Goals.{then-is_some, else-is_some, then-row-number, else-row-number}
use Rattle.zst_check.proofs.bookmarks.is_placed.Goals as goal

pub returns-then-is_above_origin : goal.returns-then-is_above_origin
returns-then-is_above_origin c = λ pool mark are same names.
    let two : (c.if-is_some.value ≡ true) × ((origin : Snapshot) → IsOrigin pool origin (dataset_of 35 c.args.row.now.name) → origin.number < c.args.row.now.number) =
    elim c.if-row-number.branch [
      | then-row-number w ↦ (w.if-row-number.true, (w.is_above_origin.ensures pool are).0 (sym w.value-is ∙ c.if-is_above_origin.true))
      | else-row-number w ↦ absurd (true≢false (sym c.if-is_above_origin.true ∙ w.value-is ∙ w.if-row-number.false))
    ] in
    let one : (c.is_some.result ≡ true) × (c.args.row.now.number ≤ c.args.number) =
    elim c.if-is_some.branch [
      | then-is_some w ↦ (w.if-is_some.true, leb-true c.args.row.now.number c.args.number (sym w.value-is ∙ two.0))
      | else-is_some w ↦ absurd (true≢false (sym two.0 ∙ w.value-is ∙ w.if-is_some.false))
    ] in (
      λ guids.
          placed_from c.args.dir.now pool are c.args.row.now mark names
          (ap (λ (n : List ℕ). is_some (position (λ dataset. bytes_eq dataset.name n) c.args.dir.now.datasets)) (sym c.dataset.ensures) ∙ ap is_some (sym c.dataset-2.ensures) ∙ sym c.is_some.ensures ∙ one.0)
          (omega (arith, one.1, same)) two.1 (sym c.has_guid.ensures ∙ guids),
      λ is. c.has_guid.ensures ∙ passes_guids c.args.dir.now pool are c.args.row.now mark names is,
    )

pub returns-else-is_above_origin : goal.returns-else-is_above_origin
returns-else-is_above_origin c = λ pool mark are same names. (
  λ passes. absurd (true≢false (sym passes ∙ c.if-is_above_origin.false)),
  λ is.
      let there : c.is_some.result ≡ true =
      c.is_some.ensures ∙ ap is_some c.dataset-2.ensures
      ∙ ap (λ (n : List ℕ). is_some (position (λ dataset. bytes_eq dataset.name n) c.args.dir.now.datasets)) c.dataset.ensures
      ∙ passes_dataset c.args.dir.now pool are c.args.row.now mark names is in
      let low : c.if-is_some.value ≡ true =
      elim c.if-is_some.branch [
        | then-is_some w ↦ w.value-is ∙ le-leb c.args.row.now.number c.args.number (omega (arith, passes_number c.args.dir.now pool are c.args.row.now mark names is, same))
        | else-is_some w ↦ absurd (true≢false (sym there ∙ w.if-is_some.false))
      ] in
      elim c.if-row-number.branch [
        | then-row-number w ↦ w.value-is ∙ (w.is_above_origin.ensures pool are).1 (passes_origin c.args.dir.now pool are c.args.row.now mark names is)
        | else-row-number w ↦ absurd (true≢false (sym low ∙ w.if-row-number.false))
      ],
)
