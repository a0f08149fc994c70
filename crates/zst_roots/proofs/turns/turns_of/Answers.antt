use Rattle.std.proofs.Common.{inl, inr, ◌≡◌, ◌<◌, ℕ, [], ◌∷◌, ◌++◌, length, get_or, subst, arith}
use Rattle.std.specs.List.{Contains}
use Rattle.std.proofs.lemmas.Bool.{cases_lt}
use Rattle.std.proofs.lemmas.List.Elements.{All-push, Contains-append_left, Contains-push}
use Rattle.std.proofs.lemmas.List.Sorted.{All-permutation, Contains-permutation}
use Rattle.zst_roots.proofs.turns.turns_of.Goals as goal

pub loop-place-preserved : goal.loop-place-preserved
loop-place-preserved c =
    let inv = c.loop-place.invariant in
    let place = c.loop-place.place in
    let number = (get_or c.args.rows.now place c.index-rows-place.result).number in
    let turns = c.loop-place.turns.items in
    let pushed = c.in_ok-push.ensures.items in
    record {
      each = λ other under. elim (cases_lt other place) [
        | inl earlier ↦ (let had = inv.each other earlier in (had.0, rw pushed (Contains-append_left turns ((number, place) ∷ []) (had.0, other) had.1)))
        | inr on ↦ (
            let same : place ≡ other = omega (arith, on, under) in
            (number, rw pushed (subst (λ (p : ℕ). Contains (turns ++ (number, place) ∷ []) (number, p)) same (Contains-push turns (number, place))))
            )
      ];
      inside = rw pushed (All-push (λ (turn : ℕ × ℕ). turn.1 < length c.args.rows.now) turns (number, place) inv.inside (omega arith));
    }

pub returns-clause-each : goal.returns-clause-each
returns-clause-each c = λ place under.
    let had = c.loop-place.invariant.each place (omega (arith, under, c.loop-place-test.false)) in
    (had.0, Contains-permutation _ _ (had.0, place) c.in_ok-sort.ensures.permutation had.1)

pub returns-clause-inside : goal.returns-clause-inside
returns-clause-inside c = All-permutation (λ (turn : ℕ × ℕ). turn.1 < length c.args.rows.now) _ _ c.in_ok-sort.ensures.permutation c.loop-place.invariant.inside
