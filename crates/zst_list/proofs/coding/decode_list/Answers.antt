use Rattle.std.proofs.Common.{◌≡◌, Option, Some, None, refl, ap, sym, ◌∙◌, subst}
use Rattle.std.specs.Option.{IsSome}
use Rattle.std.proofs.lemmas.Bool.{true≢false}
use Rattle.std.proofs.lemmas.Slice.Eq.{bytes_eq-Decides}
use Rattle.zst_model.specs.fields.Lists.{Runs, IsRunList}
use Rattle.zst_list.specs.Spelling.{list_bytes}
use Rattle.zst_list.proofs.ListBytes.{each_fits}
use Rattle.zst_list.proofs.coding.decode_list.Goals as goal

-- an option with something is some
none_is_some : {A : Type 0} {P : Type 0} (o : Option A) → ((x : A) → o ≡ Some x → ⊥) → IsSome o → P
none_is_some None not some = absurd (true≢false (sym some))
none_is_some (Some x) not some = absurd (not x refl)

pub returns-then-not-branch-clause-found : goal.returns-then-not-branch-clause-found
returns-then-not-branch-clause-found c = λ runs is.
    let given = c.in_ok-read_runs.ensures.exact runs (each_fits runs is.lawful) is.count_is is.spelled in
    absurd (cc (given.0, c.if-not-branch.true))

pub returns-in_default-clause-found : goal.returns-in_default-clause-found
returns-in_default-clause-found c = λ runs is.
    let given = c.in_ok-read_runs.ensures.exact runs (each_fits runs is.lawful) is.count_is is.spelled in
    let lawful = subst IsRunList (sym given.1) is.lawful in
    none_is_some c.new.result c.in_default.not-Some (c.new.ensures.lawful.1 lawful)

pub returns-then-eq-clause-found : goal.returns-then-eq-clause-found
returns-then-eq-clause-found c = λ runs is.
    let given = c.in_ok-read_runs.ensures.exact runs (each_fits runs is.lawful) is.count_is is.spelled in
    ap (λ (l : Runs). Some l) (c.in-Some.ensures.same ∙ given.1)

pub returns-else-eq-clause-found : goal.returns-else-eq-clause-found
returns-else-eq-clause-found c = λ runs is.
    let given = c.in_ok-read_runs.ensures.exact runs (each_fits runs is.lawful) is.count_is is.spelled in
    let same = c.in_ok-encode_list.ensures ∙ ap list_bytes (c.runs.ensures.same ∙ c.in-Some.ensures.same ∙ given.1) ∙ sym is.spelled in
    let equal = (bytes_eq-Decides c.as_slice.result.now c.args.bytes.now).1 (c.as_slice.ensures.value ∙ same) in
    absurd (true≢false (sym equal ∙ sym c.eq.ensures ∙ c.if-eq.false))
