use Rattle.std.proofs.Common.{◌≡◌, ◌-◌, ◌<◌, ◌^◌, ℕ, List, get_or, take, drop, length, refl, arith, ap, ◌∙◌, sym, subst, length-take}
use Rattle.std.proofs.lemmas.Bool.{false≢true}
use Rattle.std.proofs.lemmas.List.{take_rest}
use Rattle.std.proofs.lemmas.List.Elements.{All-from_get_or}
use Rattle.std.specs.List.{All}
use Rattle.zst_model.specs.fields.Guids.{IsGuidSet}
use Rattle.zst_token.proofs.FieldLaws.{fields_none, fields_some, fields_short, redact_set, from_redact_set}
use Rattle.zst_token.proofs.fields.token_of_numbers.Goals as goal

pub returns-then-not-fits_token : goal.returns-then-not-fits_token
returns-then-not-fits_token c =
    fields_none c.args.numbers.now c.in-len7-up.len_at_least
    (λ right. false≢true (sym c.if-not-fits_token.true ∙ c.fits_token.ensures.1 (right.flags, right.some_to, right.object)))

pub returns-in_default : goal.returns-in_default
returns-in_default c = fields_short c.args.numbers.now c.in_default.len_below

pub returns-in_default-split_at_checked : goal.returns-in_default-split_at_checked
returns-in_default-split_at_checked c =
    let numbers = c.args.numbers.now in
    let cases = c.in_default-split_at_checked.ensures.cases in
    fields_none numbers c.in-len7-up.len_at_least (λ right. omega (arith, right.count, cases, ap length (take_rest numbers 7), length-take (get_or numbers 5 0) (drop 7 numbers)))

-- what the slice behind seven numbers is cut into
cut : (numbers part : List ℕ) (f : List ℕ → List ℕ) → part ≡ f (take (length numbers - 7) (drop 7 numbers)) → part ≡ f (drop 7 numbers)
cut numbers part f is = is ∙ ap f (take_rest numbers 7)

pub returns-then-second-others : goal.returns-then-second-others
returns-then-second-others c =
    let numbers = c.args.numbers.now in
    let count = get_or numbers 5 0 in
    let second = cut numbers c.in-Some.second.now (drop count) c.in-Some.ensures.cases.2 in
    fields_none numbers c.in-len7-up.len_at_least (λ right. omega (arith, c.if-second-others.true, ap length second, right.from_count))

pub returns-in_default-from_slice : goal.returns-in_default-from_slice
returns-in_default-from_slice c =
    let numbers = c.args.numbers.now in
    let count = get_or numbers 5 0 in
    let first = cut numbers c.in-Some.first.now (take count) c.in-Some.ensures.cases.1 in
    let fit : All (λ n. n < 2 ^ 64) numbers = All-from_get_or (λ n. n < 2 ^ 64) numbers 0 (λ i below. omega (arith, c.type_inv.numbers i)) in
    fields_none numbers c.in-len7-up.len_at_least
    (λ right. false≢true (c.in_default-from_slice.ensures.exact.1 (subst IsGuidSet (sym first) (redact_set numbers fit right.redact))))

pub returns-in_default-from_slice-2 : goal.returns-in_default-from_slice-2
returns-in_default-from_slice-2 c =
    let numbers = c.args.numbers.now in
    let count = get_or numbers 5 0 in
    let second = cut numbers c.in-Some.second.now (drop count) c.in-Some.ensures.cases.2 in
    let fit : All (λ n. n < 2 ^ 64) numbers = All-from_get_or (λ n. n < 2 ^ 64) numbers 0 (λ i below. omega (arith, c.type_inv.numbers i)) in
    fields_none numbers c.in-len7-up.len_at_least
    (λ right. false≢true (c.in_default-from_slice-2.ensures.exact.1 (subst IsGuidSet (sym second) (from_redact_set numbers fit right.from_redact))))

pub returns : goal.returns
returns c =
    let numbers = c.args.numbers.now in
    let count = get_or numbers 5 0 in
    let cases = c.in-Some.ensures.cases in
    let first = cut numbers c.in-Some.first.now (take count) cases.1 in
    let second = cut numbers c.in-Some.second.now (drop count) cases.2 in
    let redact = c.in-Some-from_slice.ensures.found in
    let from_redact = c.in-Some-from_slice-2.ensures.found in
    let fits = c.fits_token.ensures.0 c.if-not-fits_token.false in
    fields_some numbers c.in-Some-from_slice.redact c.in-Some-from_slice-2.from_redact c.in-len7-up.len_at_least
    fits.0 fits.1 fits.2
    (redact ∙ first) (from_redact ∙ second) (omega (arith, cases.0, ap length (take_rest numbers 7))) (ap length from_redact ∙ c.if-second-others.false)
    (subst IsGuidSet (sym redact) (c.in-Some-from_slice.ensures.exact.0 refl)) (subst IsGuidSet (sym from_redact) (c.in-Some-from_slice-2.ensures.exact.0 refl))
