use Rattle.std.proofs.Common.{◌≡◌, ◌+◌, ◌==◌, true, false, sym, ◌∙◌, arith}
use Rattle.std.proofs.lemmas.Bool.Decides.{nat_tests}
use Rattle.zst_names.specs.Rest.{fits_component}
use Rattle.zst_names.proofs.Parts.{fits_short, slash_rest, slash_needs, byte_rest, byte_needs}
use Rattle.zst_names.proofs.NameEnds.{skip, skip_stops}
use Rattle.zst_names.proofs.scan.next_in_dataset.Goals as goal
use Rattle.zst_names.proofs.scan.next_in_dataset.Goals.{then-used-eq0-2-via-then-used-eq0-2, then-used-eq0-2-via-else-used-eq0-2+then-components-eq-COMPONENTS, then-used-eq0-2-via-else-used-eq0-2+else-components-eq-COMPONENTS+then-place-ge-DATASET_BYTES, then-place-eq-DATASET_BYTES-via-then-place-eq-DATASET_BYTES, then-place-eq-DATASET_BYTES-via-else-place-eq-DATASET_BYTES+then-not-fits_component}

-- a `/` that can't stand here
pub returns-then-used-eq0-2 : goal.returns-then-used-eq0-2
returns-then-used-eq0-2 c =
    skip_stops c.args.mark c.args.byte (sym c.is_mark.ensures ∙ c.if-is_mark.false) c.args.components c.args.used c.args.place (λ rest h.
    let needs = slash_needs c.args.components c.args.used c.args.place c.args.byte c.if-byte-eq47.true rest h in
    elim c.then-used-eq0-2.branch [
      | then-used-eq0-2-via-then-used-eq0-2 w ↦ omega (arith, needs.0)
      | then-used-eq0-2-via-else-used-eq0-2+then-components-eq-COMPONENTS w ↦ omega (arith, needs.1)
      | then-used-eq0-2-via-else-used-eq0-2+else-components-eq-COMPONENTS+then-place-ge-DATASET_BYTES w ↦ omega (arith, needs.2)
    ])

-- a `/` that can
pub returns-then-byte-eq47 : goal.returns-then-byte-eq47
returns-then-byte-eq47 c = (
  (omega arith, omega arith, omega arith, λ e. omega arith),
  skip c.args.mark c.args.byte (sym c.is_mark.ensures ∙ c.if-is_mark.false) c.args.components c.args.used (c.args.components + 1) 0 c.args.place
      (slash_rest c.args.components c.args.used c.args.place c.args.byte c.if-byte-eq47.true (omega arith) (omega (arith, c.requires.1))),
)

-- another byte that can't stand here
pub returns-then-place-eq-DATASET_BYTES : goal.returns-then-place-eq-DATASET_BYTES
returns-then-place-eq-DATASET_BYTES c =
    let other : (c.args.byte == 47) ≡ false = grind (arith, nat_tests, c.if-byte-eq47.false) in
    skip_stops c.args.mark c.args.byte (sym c.is_mark.ensures ∙ c.if-is_mark.false) c.args.components c.args.used c.args.place (λ rest h.
    let needs = byte_needs c.args.components c.args.used c.args.place c.args.byte other rest h in
    elim c.then-place-eq-DATASET_BYTES.branch [
      | then-place-eq-DATASET_BYTES-via-then-place-eq-DATASET_BYTES w ↦ omega (arith, needs.1)
      | then-place-eq-DATASET_BYTES-via-else-place-eq-DATASET_BYTES+then-not-fits_component w ↦ cc (needs.0, w.fits_component.ensures, w.if-not-fits_component.true)
    ])

-- another byte that can
pub returns : goal.returns
returns c =
    let other : (c.args.byte == 47) ≡ false = grind (arith, nat_tests, c.if-byte-eq47.false) in
    let fits : fits_component c.args.used c.args.byte ≡ true = cc (c.fits_component.ensures, c.if-not-fits_component.false) in (
      (omega (arith, c.requires.0), omega (arith, fits_short c.args.used c.args.byte fits), omega (arith, c.requires.2), λ e. absurd (omega (arith, e))),
      skip c.args.mark c.args.byte (sym c.is_mark.ensures ∙ c.if-is_mark.false) c.args.components c.args.used c.args.components (c.args.used + 1) c.args.place
          (byte_rest c.args.components c.args.used c.args.place c.args.byte other fits),
    )
