-- What is so of one of several sets.
use Rattle.std.proofs.Common.{◌≡◌, ℕ, ◌≤◌, refl, subst, arith, List, [], ◌∷◌, length}
use Rattle.std.specs.Prelude.{Option, Some, None, Result, Ok, Err, IfOk, IfSome}
use Rattle.std.specs.List.{AllZip}
use Rattle.zst_block.specs.declared.fault.BlockFault.{BlockFault}
use Rattle.zst_model.specs.states.DatedState.{DatedState}
use Rattle.zst_model.specs.states.State.{IsObject, IsObjectOrNone, IsState, Object, State}
use Rattle.zst_tree.specs.Indices.{Blocks}
use Rattle.zst_tree.specs.declared.tree.ObjSet.{ObjSet}
use Rattle.zst_objset.specs.Sets.{SetHolds}

pub no_sets : (sets : List ObjSet) → length sets ≡ 0 → sets ≡ []
no_sets [] none = refl
no_sets (set ∷ rest) none = absurd (omega arith)

-- what follows where the first set holds a state follows where all hold theirs
pub first_undamaged : (has : Blocks) (set : ObjSet) (rest : List ObjSet) (P : Type 0) (kept : List DatedState) → AllZip (SetHolds has) (set ∷ rest) kept → ((first : DatedState) → SetHolds has set first → P) → P
first_undamaged has set rest P [] each then = absurd each
first_undamaged has set rest P (first ∷ kept) each then = then first each.0

-- what is at or after a number is at or after an earlier one
pub range_on : (from later : ℕ) → from ≤ later → (result : Result (Option ℕ) BlockFault) → IfOk result (λ found. IfSome found (λ to. later ≤ to)) → IfOk result (λ found. IfSome found (λ to. from ≤ to))
range_on from later on (Ok None) range = tt
range_on from later on (Ok (Some to)) range = omega (arith, on, range)
range_on from later on (Err fault) range = tt

-- an object of a lawful state is lawful
pub lawful_at : (state : State) → IsState state → (k : ℕ) (object : Object) → state k ≡ Some object → IsObject object
lawful_at state lawful k object there = subst IsObjectOrNone there (lawful.objects k)
