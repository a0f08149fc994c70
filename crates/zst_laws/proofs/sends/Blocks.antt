-- What the changes of one object do.
use Rattle.std.proofs.Common.{inl, inr, ◌⊎◌, subst, ◌≡◌, ℕ, zero, suc, ◌+◌, ◌*◌, ◌<◌, ◌≤◌, Bool, true, false, not, cond, List, [], ◌∷◌, ◌++◌, length, map, Option, Some, None, IfSome, unwrap_or, Ok, refl, sym, ap, ◌∙◌, arith, ◌==◌, nat_lt, nat_le, ◌&&◌, ◌||◌, if◌then◌else◌, eq-eqb, mul-le-mul_right}
use Rattle.std.proofs.Math.Path.{fun_ext}
use Rattle.std.proofs.Math.Nat.{mul-mod_left, mod_self}
use Rattle.std.proofs.lemmas.Bool.{cases_order, or_from, not_from_true, and_left, and_right}
use Rattle.std.proofs.lemmas.Bool.Decides.{nat_tests}
use Rattle.zst_model.specs.states.State.{State, Object, Block, Hole, Redacted, Data, is_user_data, is_odd_size}
use Rattle.zst_model.specs.declared.states.attr.Attr.{Attr}
use Rattle.zst_model.specs.declared.states.item.Change.{Change}
use Rattle.zst_model.specs.declared.states.item.Item.TheVariants.{At}
use Rattle.zst_model.specs.declared.refusals.apply_fault.ApplyFault.TheVariants.{SizeDiffers, Unaligned, OddBlock, NotUserData}
use Rattle.zst_model.specs.states.AppliedItems.{apply, apply_all, apply_change, apply_changes, ◌>>=◌, within, put_at, is_unaligned}
use Rattle.zst_model.specs.sends.View.{ObjectView, MayShow, IsShown, There}
use Rattle.zst_model.specs.sends.Items.{put_change, spill_change, tail_change, block_change, change_at, opening, block_changes}
use Rattle.zst_laws.proofs.sends.AppliedItemLemmas.{bind-bind, unless_from, aligned_from, put_here, put-put, put_same}
use Rattle.zst_laws.proofs.sends.Fold.{swept, sweep}

pub apply_changes-append : (xs ys : List Change) (o : Option Object) → apply_changes (xs ++ ys) o ≡ (apply_changes xs o >>= apply_changes ys)
apply_changes-append [] ys o = refl
apply_changes-append (x ∷ xs) ys o =
    ap (λ f. apply_change x o >>= f) (fun_ext (apply_changes-append xs ys)) ∙ sym (bind-bind (apply_change x o) (apply_changes xs) (apply_changes ys))

-- changes of one number, as items of a state
pub changes_at : (k : ℕ) (cs : List Change) (s : State) → apply_all (map (At k) cs) s ≡ (apply_changes cs (s k) >>= λ o. Ok (put_at s k o))
unfolding apply
changes_at k [] s = ap (λ f. Ok f) (sym (put_same s k))
changes_at k (c ∷ cs) s =
    bind-bind (apply_change c (s k)) (λ o. Ok (put_at s k o)) (apply_all (map (At k) cs))
    ∙ ap (λ f. apply_change c (s k) >>= f) (fun_ext (λ o.
    changes_at k cs (put_at s k o)
    ∙ ap (λ x. apply_changes cs x >>= λ p. Ok (put_at (put_at s k o) k p)) (put_here s k o)
    ∙ ap (λ f. apply_changes cs o >>= f) (fun_ext (λ p. ap (λ f. Ok f) (put-put s k o p)))))
    ∙ sym (bind-bind (apply_change c (s k)) (apply_changes cs) (λ o. Ok (put_at s k o)))

-- the place of an index lies in the range of one block exactly where the index is that block's
pub same_place : (size i j : ℕ) → 0 < size → (j * size == i * size) ≡ (j == i)
same_place size i j pos = go (cases_order j i)
  where
    go : (j ≡ i) ⊎ ((j < i) ⊎ (i < j)) → (j * size == i * size) ≡ (j == i)
    go (inl e) = eq-eqb _ _ (ap (λ x. x * size) e) ∙ sym (eq-eqb _ _ e)
    go (inr (inl l)) = let m : suc j * size ≤ i * size = mul-le-mul_right size l in grind (arith, nat_tests, m)
    go (inr (inr l)) = let m : suc i * size ≤ j * size = mul-le-mul_right size l in grind (arith, nat_tests, m)

pub within_block : (size i j : ℕ) → 0 < size → within (i * size) size (j * size) ≡ (j == i)
within_block size i j pos = go (cases_order j i)
  where
    go : (j ≡ i) ⊎ ((j < i) ⊎ (i < j)) → within (i * size) size (j * size) ≡ (j == i)
    go (inl e) = ap (λ x. within (i * size) size (x * size)) e ∙ grind (arith, nat_tests)
    go (inr (inl l)) = let m : suc j * size ≤ i * size = mul-le-mul_right size l in grind (arith, nat_tests, m)
    go (inr (inr l)) = let m : suc i * size ≤ j * size = mul-le-mul_right size l in grind (arith, nat_tests, m)

-- an index over 0 of an odd size takes no block
odd_free : (odd : Bool) (size i a b : ℕ) → (0 < i → odd ≡ false) → (i ≡ 0 → b ≤ a) → (odd && nat_lt a b) ≡ false
odd_free odd size zero a b h z = and_right odd _ (let l : b ≤ a = z refl in grind (arith, nat_tests))
odd_free odd size (suc i) a b h z = and_left odd _ (h (omega arith))

-- a range of no length takes none
less_odd : (odd some far : Bool) → (odd && far) ≡ false → (odd && (some && far)) ≡ false
less_odd false some far h = refl
less_odd true false far h = refl
less_odd true true far h = h

pub one_block : (attr : Attr) (i : ℕ) (shown : Option Block) (f : ℕ → Block) → 0 < attr.block_size → IfSome shown (MayShow attr i)
    → apply_changes (block_change attr i shown) (Some (record { attr = attr; blocks = f }))
    ≡ Ok (Some (record { attr = attr; blocks = put_at f i (unwrap_or shown (f i)) }))
unfolding apply_change
one_block attr i None f pos h = ap (λ g. Ok (Some (record { attr = attr; blocks = g }))) (sym (put_same f i))
one_block attr i (Some Hole) f pos h =
    let size = attr.block_size in
    ap (λ r. r >>= apply_changes [])
    (unless_from (is_unaligned size (i * size) || is_unaligned size size) Unaligned _
    (or_from _ _ (aligned_from size (i * size) (mul-mod_left i size)) (aligned_from size size (mod_self size)))
    ∙ ap (λ g. Ok (Some (record { attr = attr; blocks = g }))) (fun_ext (λ j. ap (λ b. cond b Hole (f j)) (within_block size i j pos))))
one_block attr i (Some Redacted) f pos h =
    let size = attr.block_size in
    let small : i ≡ 0 → i * size + size ≤ size = λ e. subst (λ n. n * size + size ≤ size) (sym e) (omega arith) in
    ap (λ r. r >>= apply_changes [])
    (unless_from (not (is_user_data attr)) NotUserData _ (not_from_true _ h.0)
    ∙ unless_from (is_unaligned size (i * size) || is_unaligned size size) Unaligned _
    (or_from _ _ (aligned_from size (i * size) (mul-mod_left i size)) (aligned_from size size (mod_self size)))
    ∙ unless_from (is_odd_size size && (nat_lt 0 size && nat_lt size (i * size + size))) OddBlock _ (less_odd (is_odd_size size) (nat_lt 0 size) (nat_lt size (i * size + size)) (odd_free (is_odd_size size) size i size (i * size + size) h.1 small))
    ∙ ap (λ g. Ok (Some (record { attr = attr; blocks = g }))) (fun_ext (λ j. ap (λ b. cond b Redacted (f j)) (within_block size i j pos))))
one_block attr i (Some (Data bytes)) f pos h =
    let size = attr.block_size in
    let small : i ≡ 0 → i * size ≤ 0 = λ e. subst (λ n. n * size ≤ 0) (sym e) (omega arith) in
    ap (λ r. r >>= apply_changes [])
    (unless_from (not (length bytes == size)) SizeDiffers _ (not_from_true _ (eq-eqb _ _ h.0))
    ∙ unless_from (is_unaligned size (i * size)) Unaligned _ (aligned_from size (i * size) (mul-mod_left i size))
    ∙ unless_from (is_odd_size size && nat_lt 0 (i * size)) OddBlock _ (odd_free (is_odd_size size) size i 0 (i * size) h.1 small)
    ∙ ap (λ g. Ok (Some (record { attr = attr; blocks = g }))) (fun_ext (λ j. ap (λ b. cond b (Data bytes) (f j)) (same_place size i j pos))))

-- what the blocks of a view make of an index, from an offset on
abbrev pub block_from : ObjectView → ℕ → ℕ → Block → Block
block_from view offset i old = if nat_le offset (i * view.attr.block_size) then unwrap_or (view.blocks i) old else old

pub one_change : (view : ObjectView) (offset i : ℕ) (f : ℕ → Block) → 0 < view.attr.block_size → IfSome (view.blocks i) (MayShow view.attr i)
    → apply_changes (change_at view offset i) (Some (record { attr = view.attr; blocks = f }))
    ≡ Ok (Some (record { attr = view.attr; blocks = put_at f i (block_from view offset i (f i)) }))
one_change view offset i f pos h = go (nat_le offset (i * view.attr.block_size))
  where
    go : (b : Bool) → apply_changes (if b then block_change view.attr i (view.blocks i) else []) (Some (record { attr = view.attr; blocks = f }))
        ≡ Ok (Some (record { attr = view.attr; blocks = put_at f i (if b then unwrap_or (view.blocks i) (f i) else f i) }))
    go true = one_block view.attr i (view.blocks i) f pos h
    go false = ap (λ g. Ok (Some (record { attr = view.attr; blocks = g }))) (sym (put_same f i))

-- all the blocks of a view, from an offset on
pub blocks_apply : (view : ObjectView) (offset : ℕ) (f : ℕ → Block) → IsShown (There view)
    → apply_changes (block_changes view offset) (Some (record { attr = view.attr; blocks = f }))
    ≡ Ok (Some (record { attr = view.attr; blocks = swept (block_from view offset) 0 view.end f }))
blocks_apply view offset f h =
    sweep apply_changes (λ g. Some (record { attr = view.attr; blocks = g })) (change_at view offset) (block_from view offset)
    (λ i b. i < view.end) (λ z. refl) apply_changes-append
    (λ i g l. one_change view offset i g h.0 (h.1 i l)) view.end 0 f (λ i low high. omega (arith, high))

-- the blocks that an OBJECT keeps, and those after the tail FREE
abbrev pub kept : Attr → Option Object → ℕ → Block
kept attr None = λ i. Hole
kept attr (Some object) = if object.attr.block_size == attr.block_size then object.blocks else λ i. Hole

abbrev pub opened : ObjectView → Option Object → ℕ → Block
opened view o i = if nat_le (view.end * view.attr.block_size) (i * view.attr.block_size) then Hole else kept view.attr o i

tail_applies : (view : ObjectView) (f : ℕ → Block)
    → apply_changes (tail_change view ∷ []) (Some (record { attr = view.attr; blocks = f }))
    ≡ Ok (Some (record { attr = view.attr; blocks = λ i. if nat_le (view.end * view.attr.block_size) (i * view.attr.block_size) then Hole else f i }))
unfolding apply_change
tail_applies view f = ap (λ r. r >>= apply_changes []) (unless_from (is_unaligned view.attr.block_size (view.end * view.attr.block_size)) Unaligned _ (aligned_from view.attr.block_size (view.end * view.attr.block_size) (mul-mod_left view.end view.attr.block_size)))

pub put_keeps : (view : ObjectView) (o : Option Object) → apply_change (put_change view) o ≡ Ok (Some (record { attr = record view.attr { spill = None }; blocks = kept view.attr o }))
unfolding apply_change
put_keeps view None = refl
put_keeps view (Some object) = refl

spill_applies : (attr : Attr) (spill : Option (List ℕ)) (f : ℕ → Block) → apply_changes (spill_change spill) (Some (record { attr = record attr { spill = None }; blocks = f })) ≡ Ok (Some (record { attr = record attr { spill = spill }; blocks = f }))
unfolding apply_change
spill_applies attr None f = refl
spill_applies attr (Some bytes) f = refl

-- OBJECT, and SPILL where there is one
pub head_applies : (view : ObjectView) (o : Option Object) → apply_changes (put_change view ∷ spill_change view.attr.spill) o ≡ Ok (Some (record { attr = view.attr; blocks = kept view.attr o }))
head_applies view o = ap (λ r. r >>= apply_changes (spill_change view.attr.spill)) (put_keeps view o) ∙ spill_applies view.attr view.attr.spill (kept view.attr o)

pub opening_applies : (view : ObjectView) (o : Option Object) → apply_changes (opening view) o ≡ Ok (Some (record { attr = view.attr; blocks = opened view o }))
opening_applies view o =
    apply_changes-append (put_change view ∷ spill_change view.attr.spill) (tail_change view ∷ []) o
    ∙ ap (λ r. r >>= apply_changes (tail_change view ∷ [])) (head_applies view o)
    ∙ tail_applies view (kept view.attr o)

-- what a view of an object makes of what stands at its number
abbrev pub settled : ObjectView → ℕ → Option Object → Option Object
settled view offset o = Some (record { attr = view.attr; blocks = swept (block_from view offset) 0 view.end (opened view o) })

pub object_applies : (view : ObjectView) (offset : ℕ) (o : Option Object) → IsShown (There view)
    → apply_changes (opening view ++ block_changes view offset) o ≡ Ok (settled view offset o)
object_applies view offset o h =
    apply_changes-append (opening view) (block_changes view offset) o
    ∙ ap (λ r. r >>= apply_changes (block_changes view offset)) (opening_applies view o)
    ∙ blocks_apply view offset (opened view o) h
