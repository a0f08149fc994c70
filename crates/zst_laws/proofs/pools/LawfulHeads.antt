-- The items of a command that is accepted leave a lawful head.
use Rattle.std.proofs.Common.{subst, ◌≡◌, ℕ, ◌+◌, ◌-◌, ◌*◌, ◌^◌, ◌<◌, ◌≤◌, true, false, List, [], ◌∷◌, length, map, replicate, Option, Some, None, IfSome, Ok, refl, sym, arith, ◌==◌, mul-le-mul_right, ne_eqb}
use Rattle.std.proofs.lemmas.List.Elements.{All-append, All-replicate}
use Rattle.zst_model.specs.declared.states.attr.ObjectHead.{ObjectHead}
use Rattle.zst_model.specs.declared.refusals.faults.Quantity.TheVariants as quantities
use Rattle.zst_model.specs.declared.states.item.Change.{Change}
use Rattle.zst_model.specs.declared.states.item.Change.TheVariants.{Put, Free, Write}
use Rattle.zst_model.specs.declared.states.item.Item.{Item}
use Rattle.zst_model.specs.declared.states.item.Item.TheVariants.{FreeObjects, At}
use Rattle.zst_model.specs.states.State.{State, Object, IsObject, IsObjectOrNone, IsState, is_number, number_bound, index_bound, AreBytes, IsHead, IsBonus, IsSpill}
use Rattle.zst_model.specs.states.AppliedItems.{apply, apply_change, put_at}
use Rattle.zst_model.specs.states.DatedState.{DatedState, size_at, apply_dated, apply_all_dated}
use Rattle.zst_model.specs.sends.Items.{spill_change}
use Rattle.zst_model.specs.pools.Pool.{Pool}
use Rattle.zst_model.specs.pools.Step.{in_numbers, applied, filled, written, punched}
use Rattle.zst_model.proofs.Sizes.{size_of_lawful}
use Rattle.zst_model.proofs.ObjectNumbers.{number_from}
use Rattle.zst_model.proofs.Results.{ok_parts, bind_ok}
use Rattle.zst_laws.specs.Dates.{AreLawfulItems}
use Rattle.zst_laws.proofs.histories.Dates.{remembered_itself, remembered_through}
use Rattle.zst_laws.proofs.pools.Rows.{limited_ok, of_applying_ok}
use Rattle.zst_laws.proofs.sends.ExactSends.{number_there}
use Rattle.zst_laws.proofs.sends.Joins.{absent_free}

-- lawful items that are applied in the next commit leave a lawful state
pub applied_is_lawful : (pool : Pool) (items : List Item) (head after : DatedState)
    → IsState head.state → AreLawfulItems items head.state → applied pool items head ≡ Ok after → IsState after.state
applied_is_lawful pool items head after s lawful h =
    (remembered_through head after 0 (pool.number + 1) items head.state s lawful (omega arith) (remembered_itself head 0)
    (of_applying_ok (apply_all_dated (pool.number + 1) items head) after h)).0

-- a change that needs an object found one where it was applied
object_there : (number k : ℕ) (change : Change) (head after : DatedState) → ((p : Option Object) → apply_change change None ≡ Ok p → ⊥)
    → apply_all_dated number (At k change ∷ []) head ≡ Ok after → (object : Object) × (head.state k ≡ Some object)
unfolding apply
object_there number k change head after needs h =
    let dated = bind_ok (apply_dated number (At k change) head) (apply_all_dated number []) after h in
    let whole = bind_ok (apply (At k change) head.state) _ dated.0 dated.1 in
    let changed = bind_ok (apply_change change (head.state k)) (λ o. Ok (put_at head.state k o)) whole.0 whole.1 in
    found (head.state k) changed.0 changed.1
  where
    found : (o p : Option Object) → apply_change change o ≡ Ok p → (object : Object) × (o ≡ Some object)
    found None p e = absurd (needs p e)
    found (Some object) p e = (object, refl)

write_needs : (offset type : ℕ) (bytes : List ℕ) (p : Option Object) → apply_change (Write offset type bytes) None ≡ Ok p → ⊥
unfolding apply_change
write_needs offset type bytes p h = absurd (cc)

-- an index past another one stands at another place
place_differs : (size i j : ℕ) → 0 < size → i < j → (j * size == i * size) ≡ false
place_differs size i j some l =
    let m : (i + 1) * size ≤ j * size = mul-le-mul_right size (omega arith) in
    ne_eqb (j * size) (i * size) (λ e. omega (arith, m, e))

-- object
abbrev pub object_items : ℕ → ObjectHead → List ℕ → Option (List ℕ) → List Item
object_items k object bonus spill = map (At k) (Put object bonus false 0 ∷ spill_change spill)

pub object_items_are_lawful : (k : ℕ) (object : ObjectHead) (bonus : List ℕ) (spill : Option (List ℕ)) (state : State)
    → is_number k ≡ true → IsHead object → IsBonus bonus → IfSome spill IsSpill → AreLawfulItems (object_items k object bonus spill) state
object_items_are_lawful k object bonus None state number head few is_spill = ((number, (head, few)), λ after e. tt)
object_items_are_lawful k object bonus (Some bytes) state number head few is_spill = ((number, (head, few)), λ after e. ((number, is_spill), λ last f. tt))

pub object_is_lawful : (pool : Pool) (k : ℕ) (object : ObjectHead) (bonus : List ℕ) (spill : Option (List ℕ)) (head after : DatedState)
    → IsState head.state → 0 < k → IsHead object → IsBonus bonus → IfSome spill IsSpill
    → in_numbers (k + 1) (applied pool (map (At k) (Put object bonus false 0 ∷ spill_change spill)) head) ≡ Ok after → IsState after.state
object_is_lawful pool k object bonus spill head after s some is_head few is_spill h =
    let below = limited_ok quantities.Object number_bound (k + 1) _ after h in
    let number = number_from k some (omega (arith, below.0)) in
    applied_is_lawful pool (object_items k object bonus spill) head after s
    (object_items_are_lawful k object bonus spill head.state number is_head few is_spill) below.1

-- bytes are filled up with bytes
filled_are_bytes : (size : ℕ) (bytes : List ℕ) → AreBytes bytes → AreBytes (filled size bytes)
filled_are_bytes size bytes all =
    All-append (λ byte. byte < 2 ^ 8) bytes (replicate (size - length bytes) 0) all (All-replicate (λ byte. byte < 2 ^ 8) (size - length bytes) 0 (omega arith))

-- write
pub write_is_lawful : (pool : Pool) (k i : ℕ) (bytes : List ℕ) (head after : DatedState)
    → IsState head.state → 0 < k → AreBytes bytes → written pool k i bytes head ≡ Ok after → IsState after.state
write_is_lawful pool k i bytes head after s some all h =
    let size = size_at (head.state k) in
    let items = At k (Write (i * size) 0 (filled size bytes)) ∷ [] in
    let made = bind_ok (applied pool items head) _ after h in
    let below = limited_ok quantities.Block index_bound (i + 1) _ after made.2 in
    let there = object_there (pool.number + 1) k _ head made.0 (write_needs _ _ _) (of_applying_ok _ made.0 made.1) in
    let object : IsObject there.0 = subst IsObjectOrNone there.1 (s.objects k) in
    let sized : 0 < size = subst (λ o. 0 < size_at o) (sym there.1) (size_of_lawful there.0 object) in
    let lawful : AreLawfulItems items head.state = ((number_there head.state s k there.0 there.1, (filled_are_bytes size bytes all, λ j past. place_differs size i j sized (omega (arith, below.0)))), λ later e. tt) in
    subst (λ d. IsState d.state) (ok_parts made.0 after below.1) (applied_is_lawful pool items head made.0 s lawful made.1)

-- punch
pub punch_is_lawful : (pool : Pool) (k first count : ℕ) (head after : DatedState)
    → IsState head.state → 0 < k → punched pool k first count head ≡ Ok after → IsState after.state
punch_is_lawful pool k first count head after s some h =
    let size = size_at (head.state k) in
    let items = At k (Free (first * size) (count * size)) ∷ [] in
    let made = bind_ok (applied pool items head) _ after h in
    let below = limited_ok quantities.Block index_bound (first + count) _ after made.2 in
    let there = object_there (pool.number + 1) k _ head made.0 (absent_free _ _) (of_applying_ok _ made.0 made.1) in
    let lawful : AreLawfulItems items head.state = ((number_there head.state s k there.0 there.1, tt), λ later e. tt) in
    subst (λ d. IsState d.state) (ok_parts made.0 after below.1) (applied_is_lawful pool items head made.0 s lawful made.1)

-- free
pub free_is_lawful : (pool : Pool) (first count : ℕ) (head after : DatedState)
    → IsState head.state → in_numbers (first + count) (applied pool (FreeObjects first count ∷ []) head) ≡ Ok after → IsState after.state
free_is_lawful pool first count head after s h =
    applied_is_lawful pool (FreeObjects first count ∷ []) head after s (tt, λ later e. tt) (limited_ok quantities.Object number_bound (first + count) _ after h).1
