use Rattle.std.proofs.Common.{◌≡◌, ◌∙◌, ◌<◌, ◌==◌, ℕ, List, nat_le, get_or, length, true, false, Some, None, position, sym, ap, subst, arith}
use Rattle.std.proofs.lemmas.Bool.Decides.{nat_tests}
use Rattle.std.proofs.lemmas.List.Quantifiers.{position-Some}
use Rattle.zst_pool.proofs.RedactionGuids.{put_before, put_behind, put_there}
use Rattle.zst_pool.proofs.redactions.put_guid.Goals as goal

-- the place that was found, in the guids themselves
found_in : (guid : ℕ) (seen guids : List ℕ) (place : ℕ) → seen ≡ guids → position (λ other. nat_le guid other) seen ≡ Some place → position (λ other. nat_le guid other) guids ≡ Some place
found_in guid seen guids place same is = subst (λ (l : List ℕ). position (λ other. nat_le guid other) l ≡ Some place) same is

pub is_at-requires : goal.is_at-requires
is_at-requires c =
    let at = position-Some (λ (other : ℕ). nat_le c.args.guid other) c.as_slice.result.now c.in-Some.place 0 (sym c.place_of.ensures ∙ c.in-Some.is) in
    let inside = at.0 in
    omega (arith, inside, ap (λ (l : List ℕ). length l) c.as_slice.ensures.value, ap (λ (l : List ℕ). length l) c.as_slice-2.ensures.value)

pub insert-requires : goal.insert-requires
insert-requires c =
    let at = position-Some (λ (other : ℕ). nat_le c.args.guid other) c.as_slice.result.now c.in-Some.place 0 (sym c.place_of.ensures ∙ c.in-Some.is) in
    let inside = at.0 in
    omega (arith, inside, ap (λ (l : List ℕ). length l) c.as_slice.ensures.value)

pub returns-in_default : goal.returns-in_default
returns-in_default c =
    let guid = c.args.guid in
    let guids = c.args.guids.now.items in
    let none = subst (λ (l : List ℕ). position (λ other. nat_le guid other) l ≡ None) c.as_slice.ensures.value (sym c.place_of.ensures ∙ c.in_default.is) in
    c.in_ok-push.ensures.items ∙ sym (put_behind guid guids none)

pub returns-then-is_at : goal.returns-then-is_at
returns-then-is_at c =
    let guid = c.args.guid in
    let guids = c.args.guids.now.items in
    let at = position-Some (λ (other : ℕ). nat_le guid other) guids c.in-Some.place guid (found_in guid c.as_slice.result.now guids c.in-Some.place c.as_slice.ensures.value (sym c.place_of.ensures ∙ c.in-Some.is)) in
    let here : (get_or guids c.in-Some.place guid == guid) ≡ true = ap (λ (l : List ℕ). get_or l c.in-Some.place guid == guid) (sym c.as_slice-2.ensures.value) ∙ sym c.is_at.ensures ∙ c.if-is_at.true in
    let same : get_or guids c.in-Some.place guid ≡ guid = grind (arith, nat_tests, here) in
    sym (put_there guid guids c.in-Some.place guid at.0 same at.2)

pub returns : goal.returns
returns c =
    let guid = c.args.guid in
    let guids = c.args.guids.now.items in
    let at = position-Some (λ (other : ℕ). nat_le guid other) guids c.in-Some.place guid (found_in guid c.as_slice.result.now guids c.in-Some.place c.as_slice.ensures.value (sym c.place_of.ensures ∙ c.in-Some.is)) in
    let here : (get_or guids c.in-Some.place guid == guid) ≡ false = ap (λ (l : List ℕ). get_or l c.in-Some.place guid == guid) (sym c.as_slice-2.ensures.value) ∙ sym c.is_at.ensures ∙ c.if-is_at.false in
    let le : nat_le guid (get_or guids c.in-Some.place guid) ≡ true = at.1 in
    let less : guid < get_or guids c.in-Some.place guid = grind (arith, nat_tests, here, le) in
    c.in_ok-insert.ensures.items ∙ sym (put_before guid guids c.in-Some.place guid at.0 less at.2)
