-- Lines that are read one after another.
use Rattle.std.proofs.Common.{◌≡◌, ℕ, suc, ◌+◌, List, ◌∷◌, ◌++◌, length, refl, subst, arith}
use Rattle.zst_script.specs.Scripts.{ScriptEnd, AllRead, Says, Nothing, Passes, Event', Stops, ScriptsGoOn}
use Rattle.zst_script.specs.declared.event.Event.{Event}

behind : (number : ℕ) (lines more : List (List ℕ)) (events later : List Event) (front end : ScriptEnd)
    → Says number lines events front → front ≡ AllRead → Says (number + length lines) more later end → Says number (lines ++ more) (events ++ later) end
behind number lines more events later front end (Nothing n) all says = let same : n + 0 ≡ n = omega arith in subst (λ (k : ℕ). Says k more later end) same says
behind number lines more events later front end (Passes n line rest said last passed on) all says =
    let same : n + length (line ∷ rest) ≡ suc n + length rest = omega arith in
    Passes n line (rest ++ more) (said ++ later) end passed (behind (suc n) rest more said later last end on all (subst (λ (k : ℕ). Says k more later end) same says))
behind number lines more events later front end (Event' n line rest event said last other is on) all says =
    let same : n + length (line ∷ rest) ≡ suc n + length rest = omega arith in
    Event' n line (rest ++ more) event (said ++ later) end other is
    (behind (suc n) rest more said later last end on all (subst (λ (k : ℕ). Says k more later end) same says))
behind number lines more events later front end (Stops n line rest other none) all says = absurd cc

pub go_on : ScriptsGoOn
go_on number lines more events later end read says = behind number lines more events later AllRead end read refl says
