-- The words of a set's calls are those of the commands of a pool.
use Rattle.std.specs.Prelude.{Bool, true, false, ℕ, ◌+◌, ◌*◌, List, [], ◌∷◌, map, Option, Some, None, Result, Ok, Err, nat_lt}
use Rattle.std.proofs.Common.{◌≡◌, refl, ap, sym, ◌∙◌}
use Rattle.zst_model.specs.declared.states.attr.ObjectHead.{ObjectHead}
use Rattle.zst_model.specs.declared.states.item.Change.TheVariants.{Free, Put, Spill, Write}
use Rattle.zst_model.specs.declared.states.item.Item.{Item}
use Rattle.zst_model.specs.declared.states.item.Item.TheVariants.{At, FreeObjects}
use Rattle.zst_model.specs.declared.refusals.apply_fault.ApplyFault.{ApplyFault}
use Rattle.zst_model.specs.declared.refusals.apply_fault.ApplyFault.TheVariants.{NoObject}
use Rattle.zst_model.specs.sends.Items.{spill_change}
use Rattle.zst_model.specs.states.State.{Block, Hole, Redacted, Data, Object, index_bound, number_bound}
use Rattle.zst_model.specs.states.AppliedItems.{◌>>=◌, unless}
use Rattle.zst_model.specs.states.DatedState.{DatedState, apply_dated, apply_all_dated, size_at}
use Rattle.zst_model.specs.pools.Pool.{Pool}
use Rattle.zst_model.specs.pools.Step.{answered, applied, block_read, cannot_apply, filled, in_numbers, of_applying, or_else, punched, written}
use Rattle.zst_objset.specs.Changes.{block_found, block_lines, block_written, changed, found_at, holes_made, object_made, objects_freed, spill_put}

-- what comes next of what comes next of nothing
bind_ok : {A E : Type 0} → (result : Result A E) → (result >>= λ made. Ok made) ≡ result
bind_ok (Ok made) = refl
bind_ok (Err fault) = refl

-- a test that comes first also comes first of what follows
unless_then : {A B E : Type 0} → (test : Bool) (fault : E) (rest : Result A E) (next : A → Result B E) → (unless test fault rest >>= next) ≡ unless test fault (rest >>= next)
unless_then true fault rest next = refl
unless_then false fault rest next = refl

-- one item
one : (pool : Pool) (item : Item) (snap : DatedState) → applied pool (item ∷ []) snap ≡ changed (pool.number + 1) item snap
one pool item snap = ap of_applying (bind_ok (apply_dated (pool.number + 1) item snap))

-- two items
two : (pool : Pool) (item other : Item) (snap : DatedState) → applied pool (item ∷ other ∷ []) snap ≡ (changed (pool.number + 1) item snap >>= changed (pool.number + 1) other)
two pool item other snap = go (apply_dated (pool.number + 1) item snap)
  where
    go : (made : Result DatedState ApplyFault) → of_applying (made >>= apply_all_dated (pool.number + 1) (other ∷ [])) ≡ (of_applying made >>= changed (pool.number + 1) other)
    go (Ok made) = one pool other made
    go (Err fault) = refl

pub object_is_command : (pool : Pool) (k : ℕ) (head : ObjectHead) (bonus : List ℕ) (spill : Option (List ℕ)) (snap : DatedState)
    → object_made (pool.number + 1) k head bonus spill snap ≡ in_numbers (k + 1) (applied pool (map (At k) (Put head bonus false 0 ∷ spill_change spill)) snap)
object_is_command pool k head bonus None snap = rw (one pool (At k (Put head bonus false 0)) snap) refl
object_is_command pool k head bonus (Some bytes) snap =
    unless_then (nat_lt number_bound (k + 1)) _ (changed (pool.number + 1) (At k (Put head bonus false 0)) snap) (spill_put (pool.number + 1) k bytes)
    ∙ ap (in_numbers (k + 1)) (sym (two pool (At k (Put head bonus false 0)) (At k (Spill bytes)) snap))

pub free_is_command : (pool : Pool) (first count : ℕ) (snap : DatedState) → objects_freed (pool.number + 1) first count snap ≡ in_numbers (first + count) (applied pool (FreeObjects first count ∷ []) snap)
free_is_command pool first count snap = rw (one pool (FreeObjects first count) snap) refl

pub write_is_command : (pool : Pool) (k i : ℕ) (bytes : List ℕ) (snap : DatedState) → block_written (pool.number + 1) k i (filled (size_at (snap.state k)) bytes) snap ≡ written pool k i bytes snap
write_is_command pool k i bytes snap = rw (one pool (At k (Write (i * size_at (snap.state k)) 0 (filled (size_at (snap.state k)) bytes))) snap) refl

pub punch_is_command : (pool : Pool) (k first count : ℕ) (snap : DatedState) → holes_made (pool.number + 1) k first count snap ≡ punched pool k first count snap
punch_is_command pool k first count snap = rw (one pool (At k (Free (first * size_at (snap.state k)) (count * size_at (snap.state k)))) snap) refl

limited_then : {A B E : Type 0} → (test : Bool) (fault : E) (made : A) (next : A → Result B E) → (unless test fault (Ok made) >>= next) ≡ unless test fault (next made)
limited_then test fault made next = unless_then test fault (Ok made) next

read_block : (pool : Pool) (k i : ℕ) (block : Block) → (block_found k i block >>= λ found. answered pool (block_lines found)) ≡ block_read pool k i block
read_block pool k i Hole = limited_then (nat_lt index_bound (i + 1)) _ Hole _
read_block pool k i Redacted = refl
read_block pool k i (Data bytes) = limited_then (nat_lt index_bound (i + 1)) _ (Data bytes) _

pub read_is_command : (pool : Pool) (k i : ℕ) (snap : DatedState)
    → (found_at k i snap >>= λ block. answered pool (block_lines block)) ≡ or_else (cannot_apply NoObject) (snap.state k) (λ object. block_read pool k i (object.blocks i))
read_is_command pool k i snap = go (snap.state k)
  where
    go : (there : Option Object) → (or_else (cannot_apply NoObject) there (λ object. block_found k i (object.blocks i)) >>= λ block. answered pool (block_lines block)) ≡ or_else (cannot_apply NoObject) there (λ object. block_read pool k i (object.blocks i))
    go None = refl
    go (Some object) = read_block pool k i (object.blocks i)
