use Rattle.std.proofs.Common.{◌≡◌, ◌-◌, ◌<◌, ◌^◌, ◌&&◌, Ok, ℕ, List, true, get_or, take, drop, length, refl, arith, ap, ◌∙◌, sym, subst, length-take}
use Rattle.std.proofs.lemmas.Bool.{and_from, and_parts, false≢true}
use Rattle.std.proofs.lemmas.List.{take_rest}
use Rattle.std.proofs.lemmas.List.Elements.{All-drop, All-from_get_or, All-take}
use Rattle.std.specs.List.{All}
use Rattle.zst_model.specs.declared.sends.header.Header.{Header}
use Rattle.zst_model.specs.fields.Guids.{IsGuidSet}
use Rattle.zst_model.proofs.GuidLists.{IsSet}
use Rattle.zst_record.specs.Payload.{goes_with_redacted, goes_with_resuming, goes_with_source, said_beside}
use Rattle.zst_record.proofs.PayloadFields.{AreRight, numbers_right, numbers_short, numbers_wrong, point_in, redact_in, from_redact_in}
use Rattle.zst_record.proofs.payload.content_of.Goals.{then-second-others-via-then-second-others, then-second-others-via-else-second-others+then-not-goes_with}
use Rattle.zst_record.proofs.payload.content_of.Goals as goal

-- a set of numbers of 64 bits
guid_set : (guids : List ℕ) → All (λ n. n < 2 ^ 64) guids → IsSet guids → IsGuidSet guids
guid_set guids fit set = record { few = set.few; rising = set.rising; fit = fit }

-- what the slice behind four numbers is cut into
cut : (numbers part : List ℕ) (f : List ℕ → List ℕ) → part ≡ f (take (length numbers - 4) (drop 4 numbers)) → part ≡ f (drop 4 numbers)
cut numbers part f is = is ∙ ap f (take_rest numbers 4)

-- what the code tests of the parts of right numbers
goes_together : (numbers : List ℕ) (header : Header) (first second : List ℕ) → first ≡ redact_in numbers → second ≡ from_redact_in numbers → AreRight header numbers
    → (goes_with_redacted header.features first && (goes_with_resuming header.features (point_in numbers) && goes_with_source header.from second)) ≡ true
goes_together numbers header first second first_is second_is right =
    and_from _ _ (ap (goes_with_redacted header.features) first_is ∙ right.redacted)
    (and_from _ _ right.resumed (ap (goes_with_source header.from) second_is ∙ right.source))

-- parts that pass these tests are right
goes_apart : (numbers : List ℕ) (header : Header) (first second : List ℕ) → first ≡ redact_in numbers → second ≡ from_redact_in numbers
    → length (redact_in numbers) ≡ get_or numbers 2 0 → length (from_redact_in numbers) ≡ get_or numbers 3 0 → IsGuidSet (redact_in numbers) → IsGuidSet (from_redact_in numbers)
    → (goes_with_redacted header.features first && (goes_with_resuming header.features (point_in numbers) && goes_with_source header.from second)) ≡ true → AreRight header numbers
goes_apart numbers header first second first_is second_is count from_count set from_set goes =
    let a = and_parts (goes_with_redacted header.features first) _ goes in
    let b = and_parts (goes_with_resuming header.features (point_in numbers)) (goes_with_source header.from second) a.1 in
    record {
      count = count;
      from_count = from_count;
      redact_set = record { few = set.few; rising = set.rising };
      from_set = record { few = from_set.few; rising = from_set.rising };
      redacted = sym (ap (goes_with_redacted header.features) first_is) ∙ a.0;
      resumed = b.0;
      source = sym (ap (goes_with_source header.from) second_is) ∙ b.1;
    }

pub returns-in_default : goal.returns-in_default
returns-in_default c = c.wrong.ensures ∙ sym (numbers_short c.args.header c.args.numbers.now c.in_default.len_below)

pub returns-in_default-split_at_checked : goal.returns-in_default-split_at_checked
returns-in_default-split_at_checked c =
    let numbers = c.args.numbers.now in
    let cases = c.in_default-split_at_checked.ensures.cases in
    c.wrong-in_default-split_at_checked.ensures
    ∙ sym (numbers_wrong c.args.header numbers c.in-len4-up.len_at_least
    (λ right. omega (arith, right.count, cases, ap length (take_rest numbers 4), length-take (get_or numbers 2 0) (drop 4 numbers))))

pub returns-then-second-others : goal.returns-then-second-others
returns-then-second-others c =
    let numbers = c.args.numbers.now in
    let header = c.args.header in
    let count = get_or numbers 2 0 in
    let first = cut numbers c.in-Some.first.now (take count) c.in-Some.ensures.cases.1 in
    let second = cut numbers c.in-Some.second.now (drop count) c.in-Some.ensures.cases.2 in
    c.wrong-then-second-others.ensures
    ∙ sym (numbers_wrong header numbers c.in-len4-up.len_at_least (λ right. elim c.then-second-others.branch [
      | then-second-others-via-then-second-others w ↦ omega (arith, w.if-second-others.true, ap length second, right.from_count)
      | then-second-others-via-else-second-others+then-not-goes_with w ↦
          false≢true (sym w.if-not-goes_with.true ∙ w.goes_with.ensures ∙ goes_together numbers header c.in-Some.first.now c.in-Some.second.now first second right)
    ]))

pub returns-in_default-from_slice : goal.returns-in_default-from_slice
returns-in_default-from_slice c =
    let numbers = c.args.numbers.now in
    let count = get_or numbers 2 0 in
    let first = cut numbers c.in-Some.first.now (take count) c.in-Some.ensures.cases.1 in
    let fit : All (λ n. n < 2 ^ 64) numbers = All-from_get_or (λ n. n < 2 ^ 64) numbers 0 (λ i below. omega (arith, c.type_inv.numbers i)) in
    let fits : All (λ n. n < 2 ^ 64) (redact_in numbers) = All-take (λ n. n < 2 ^ 64) count (drop 4 numbers) (All-drop (λ n. n < 2 ^ 64) 4 numbers fit) in
    c.wrong-in_default-from_slice.ensures
    ∙ sym (numbers_wrong c.args.header numbers c.in-len4-up.len_at_least
    (λ right. false≢true (c.in_default-from_slice.ensures.exact.1 (subst IsGuidSet (sym first) (guid_set (redact_in numbers) fits right.redact_set)))))

pub returns-in_default-from_slice-2 : goal.returns-in_default-from_slice-2
returns-in_default-from_slice-2 c =
    let numbers = c.args.numbers.now in
    let count = get_or numbers 2 0 in
    let second = cut numbers c.in-Some.second.now (drop count) c.in-Some.ensures.cases.2 in
    let fit : All (λ n. n < 2 ^ 64) numbers = All-from_get_or (λ n. n < 2 ^ 64) numbers 0 (λ i below. omega (arith, c.type_inv.numbers i)) in
    let fits : All (λ n. n < 2 ^ 64) (from_redact_in numbers) = All-drop (λ n. n < 2 ^ 64) count (drop 4 numbers) (All-drop (λ n. n < 2 ^ 64) 4 numbers fit) in
    c.wrong-in_default-from_slice-2.ensures
    ∙ sym (numbers_wrong c.args.header numbers c.in-len4-up.len_at_least
    (λ right. false≢true (c.in_default-from_slice-2.ensures.exact.1 (subst IsGuidSet (sym second) (guid_set (from_redact_in numbers) fits right.from_set)))))

pub returns : goal.returns
returns c =
    let numbers = c.args.numbers.now in
    let header = c.args.header in
    let count = get_or numbers 2 0 in
    let cases = c.in-Some.ensures.cases in
    let first = cut numbers c.in-Some.first.now (take count) cases.1 in
    let second = cut numbers c.in-Some.second.now (drop count) cases.2 in
    let redact = c.in-Some-from_slice.ensures.found ∙ first in
    let from_redact = c.in-Some-from_slice-2.ensures.found ∙ second in
    let set = subst IsGuidSet first (c.in-Some-from_slice.ensures.exact.0 refl) in
    let from_set = subst IsGuidSet second (c.in-Some-from_slice-2.ensures.exact.0 refl) in
    let goes = sym c.goes_with.ensures ∙ c.if-not-goes_with.false in
    let right : AreRight header numbers =
    goes_apart numbers header c.in-Some.first.now c.in-Some.second.now first second
    (omega (arith, cases.0, ap length (take_rest numbers 4), length-take (get_or numbers 2 0) (drop 4 numbers))) (sym (ap length second) ∙ c.if-second-others.false) set from_set goes in
    ap (λ (h : Header). Ok h)
    (c.said_beside.ensures ∙ ap (λ (l : List ℕ). said_beside header (point_in numbers) l c.in-Some-from_slice-2.from_redact) redact
    ∙ ap (λ (l : List ℕ). said_beside header (point_in numbers) (redact_in numbers) l) from_redact)
    ∙ sym (numbers_right header numbers c.in-len4-up.len_at_least right)
