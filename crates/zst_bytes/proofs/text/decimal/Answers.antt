use Rattle.std.proofs.Common.{◌≡◌, true, false, refl, inl, inr, ◌∙◌}
use Rattle.std.specs.Fmt.{decimal}
use Rattle.zst_bytes.proofs.Digits.{parsed_is_written, written_is_parsed, written_is_bare}
use Rattle.zst_bytes.proofs.text.decimal.Goals as goal

pub returns-then-not-is_bare-clause-exact : goal.returns-then-not-is_bare-clause-exact
returns-then-not-is_bare-clause-exact c = λ n fits is.
    let same : c.as_bytes.result.now ≡ decimal n = c.as_bytes.ensures.value ∙ is in
    elim (written_is_bare n fits) [
      | inl zero ↦ (let never : false ≡ true = c.if-not-is_bare.ensures.zero (same ∙ zero) in cc)
      | inr above ↦ (let never : false ≡ true = c.if-not-is_bare.ensures.above (rw same above) in cc)
    ]

pub returns-clause-found : goal.returns-clause-found
returns-clause-found c =
    rw c.ok.ensures.value (parsed_is_written c.args.text.now c.parse.result c.parse.ensures.value.0 (rw (← c.as_bytes.ensures.value) (c.if-not-is_bare.ensures.unsigned refl)) (rw (← c.as_bytes.ensures.value) (c.if-not-is_bare.ensures.shortest refl)))

pub returns-clause-exact : goal.returns-clause-exact
returns-clause-exact c = λ n fits is. c.ok.ensures.value ∙ written_is_parsed c.args.text.now c.parse.result n c.parse.ensures.value.0 fits is
