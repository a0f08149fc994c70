-- Joined items do what the single ones do.
use Rattle.std.proofs.Common.{subst, not, ◌||◌, option_map, eqb-true, ◌≡◌, ℕ, ◌+◌, ◌*◌, Bool, true, false, List, [], ◌∷◌, Option, Some, None, Ok, refl, sym, ap, ◌∙◌, arith, ◌==◌, nat_lt, ◌&&◌, if◌then◌else◌}
use Rattle.std.proofs.Math.Path.{fun_ext}
use Rattle.std.proofs.lemmas.Bool.{or_parts, or_from}
use Rattle.std.proofs.lemmas.Bool.Decides.{nat_tests}
use Rattle.zst_model.specs.states.State.{State, Object, Hole, Redacted, is_user_data, is_odd_size}
use Rattle.zst_model.specs.declared.states.item.Change.{Change}
use Rattle.zst_model.specs.declared.states.item.Change.TheVariants.{Free, Redact}
use Rattle.zst_model.specs.declared.states.item.Item.{Item}
use Rattle.zst_model.specs.declared.states.item.Item.TheVariants.{FreeObjects, At}
use Rattle.zst_model.specs.declared.refusals.apply_fault.ApplyFault.TheVariants.{Unaligned, NotUserData, OddBlock}
use Rattle.zst_model.specs.states.AppliedItems.{apply, apply_change, apply_all, is_unaligned, ◌>>=◌, put_at}
use Rattle.zst_model.specs.sends.Items.{join, join_changes, before, before_item, joined}
use Rattle.zst_model.proofs.Results.{ok_parts, bind_ok, unless_ok}
use Rattle.zst_laws.proofs.sends.AppliedItemLemmas.{unless_from, range-range, aligned-add, put_here, put-put}

pub joined_if : {A : Type 0} (b : Bool) (x z : A) → (if b then Some x else None) ≡ Some z → (b ≡ true) × (x ≡ z)
joined_if true x z h = (refl, cc)
joined_if false x z h = absurd (cc)

pub joined_if' : {A : Type 0} (b : Bool) (o : Option A) (z : A) → (if b then o else None) ≡ Some z → (b ≡ true) × (o ≡ Some z)
joined_if' true o z h = (refl, h)
joined_if' false o z h = absurd (cc)

pub mapped : {A B : Type 0} (f : A → B) (o : Option A) (z : B) → option_map f o ≡ Some z → (x : A) × (o ≡ Some x) × (f x ≡ z)
mapped f (Some x) z h = (x, refl, cc)
mapped f None z h = absurd (cc)

-- with these blocks, as `with_blocks` gives
frees_touch : (object : Object) (x m y n : ℕ) (p q : Option Object) → x + m ≡ y → apply_change (Free x m) (Some object) ≡ Ok p → apply_change (Free y n) p ≡ Ok q → apply_change (Free x (m + n)) (Some object) ≡ Ok q
unfolding apply_change
frees_touch object x m y n p q touch a b =
    let size = object.attr.block_size in
    let first = unless_ok (is_unaligned size x || is_unaligned size m) Unaligned _ p a in
    let again = subst (λ r. apply_change (Free y n) r ≡ Ok q) (sym (ok_parts _ p first.1)) b in
    let second = unless_ok (is_unaligned size y || is_unaligned size n) Unaligned _ q again in
    let starts = or_parts (is_unaligned size x) (is_unaligned size m) first.0 in
    let ends = or_parts (is_unaligned size y) (is_unaligned size n) second.0 in
    unless_from (is_unaligned size x || is_unaligned size (m + n)) Unaligned _ (or_from _ _ starts.0 (aligned-add size m n starts.1 ends.1))
    ∙ ap (λ f. Ok (Some (record { attr = object.attr; blocks = f }))) (fun_ext (λ i. range-range x m y n (i * size) Hole (object.blocks i) touch))
    ∙ second.1

-- two ranges without an odd block have none together
odd_touch : (odd : Bool) (size x m y n : ℕ) → x + m ≡ y → (odd && (nat_lt 0 m && nat_lt size (x + m))) ≡ false → (odd && (nat_lt 0 n && nat_lt size (y + n))) ≡ false
    → (odd && (nat_lt 0 (m + n) && nat_lt size (x + (m + n)))) ≡ false
odd_touch false size x m y n e a b = refl
odd_touch true size x m y n e a b = grind (arith, nat_tests)

redacts_touch : (object : Object) (x m y n : ℕ) (p q : Option Object) → x + m ≡ y → apply_change (Redact x m) (Some object) ≡ Ok p → apply_change (Redact y n) p ≡ Ok q → apply_change (Redact x (m + n)) (Some object) ≡ Ok q
unfolding apply_change
redacts_touch object x m y n p q touch a b =
    let size = object.attr.block_size in
    let users = unless_ok (not (is_user_data object.attr)) NotUserData _ p a in
    let first = unless_ok (is_unaligned size x || is_unaligned size m) Unaligned _ p users.1 in
    let odd = unless_ok (is_odd_size size && (nat_lt 0 m && nat_lt size (x + m))) OddBlock _ p first.1 in
    let again = subst (λ r. apply_change (Redact y n) r ≡ Ok q) (sym (ok_parts _ p odd.1)) b in
    let users' = unless_ok (not (is_user_data object.attr)) NotUserData _ q again in
    let second = unless_ok (is_unaligned size y || is_unaligned size n) Unaligned _ q users'.1 in
    let odd' = unless_ok (is_odd_size size && (nat_lt 0 n && nat_lt size (y + n))) OddBlock _ q second.1 in
    let starts = or_parts (is_unaligned size x) (is_unaligned size m) first.0 in
    let ends = or_parts (is_unaligned size y) (is_unaligned size n) second.0 in
    unless_from _ NotUserData _ users.0
    ∙ unless_from (is_unaligned size x || is_unaligned size (m + n)) Unaligned _ (or_from _ _ starts.0 (aligned-add size m n starts.1 ends.1))
    ∙ unless_from _ OddBlock _ (odd_touch (is_odd_size size) size x m y n touch odd.0 odd'.0)
    ∙ ap (λ f. Ok (Some (record { attr = object.attr; blocks = f }))) (fun_ext (λ i. range-range x m y n (i * size) Redacted (object.blocks i) touch))
    ∙ odd'.1

pub absent_free : (x m : ℕ) (p : Option Object) → apply_change (Free x m) None ≡ Ok p → ⊥
unfolding apply_change
absent_free x m p h = cc

absent_redact : (x m : ℕ) (p : Option Object) → apply_change (Redact x m) None ≡ Ok p → ⊥
unfolding apply_change
absent_redact x m p h = cc

pub changes_touch : (c d e : Change) (o p q : Option Object) → join_changes c d ≡ Some e → apply_change c o ≡ Ok p → apply_change d p ≡ Ok q → apply_change e o ≡ Ok q
changes_touch (Free x m) (Free y n) e None p q j a b = absurd (absent_free x m p a)
changes_touch (Free x m) (Free y n) e (Some object) p q j a b =
    let parts = joined_if (x + m == y) (Free x (m + n)) e j in
    subst (λ z. apply_change z (Some object) ≡ Ok q) parts.1 (frees_touch object x m y n p q (eqb-true (x + m) y parts.0) a b)
changes_touch (Redact x m) (Redact y n) e None p q j a b = absurd (absent_redact x m p a)
changes_touch (Redact x m) (Redact y n) e (Some object) p q j a b =
    let parts = joined_if (x + m == y) (Redact x (m + n)) e j in
    subst (λ z. apply_change z (Some object) ≡ Ok q) parts.1 (redacts_touch object x m y n p q (eqb-true (x + m) y parts.0) a b)
changes_touch c d e o p q j a b = absurd (cc)

-- two items that join do together what they do one after the other
pub join_applies : (x y z : Item) (s t u : State) → join x y ≡ Some z → apply x s ≡ Ok t → apply y t ≡ Ok u → apply z s ≡ Ok u
unfolding apply
join_applies (FreeObjects f m) (FreeObjects g n) z s t u j a b =
    let parts = joined_if (f + m == g) (FreeObjects f (m + n)) z j in
    subst (λ z. apply z s ≡ Ok u) parts.1
    (ap (λ w. Ok w) (fun_ext (λ k. range-range f m g n k None (s k) (eqb-true (f + m) g parts.0)))
    ∙ ap (λ w. apply (FreeObjects g n) w) (ok_parts _ t a) ∙ b)
join_applies (At k c) (At i d) z s t u j a b =
    let same = joined_if' (k == i) (option_map (At k) (join_changes c d)) z j in
    let change = mapped (At k) (join_changes c d) z same.1 in
    let first = bind_ok (apply_change c (s k)) (λ o. Ok (put_at s k o)) t a in
    let b' = subst (λ i. apply (At i d) t ≡ Ok u) (sym (eqb-true k i same.0)) b in
    let second = bind_ok (apply_change d (t k)) (λ o. Ok (put_at t k o)) u b' in
    let mid : t ≡ put_at s k first.0 = sym (ok_parts _ t first.2) in
    let here : t k ≡ first.0 = ap (λ w. w k) mid ∙ put_here s k first.0 in
    let both = changes_touch c d change.0 (s k) first.0 second.0 change.1 first.1 (subst (λ o. apply_change d o ≡ Ok second.0) here second.1) in
    subst (λ z. apply z s ≡ Ok u) change.2
    (ap (λ r. r >>= λ o. Ok (put_at s k o)) both
    ∙ ap (λ w. Ok w) (sym (put-put s k first.0 second.0) ∙ ap (λ w. put_at w k second.0) (sym mid))
    ∙ second.2)
join_applies x y z s t u j a b = absurd (cc)

pub before_applies : (x : Item) (ys : List Item) (s t u : State) → apply x s ≡ Ok t → apply_all ys t ≡ Ok u → apply_all (before x ys) s ≡ Ok u
before_applies x [] s t u a b = ap (λ r. r >>= λ v. Ok v) a ∙ b
before_applies x (y ∷ ys) s t u a b = go (join x y) refl
  where
    go : (o : Option Item) → join x y ≡ o → apply_all (before_item x o y ys) s ≡ Ok u
    go (Some z) e =
        let parts = bind_ok (apply y t) (apply_all ys) u b in
        ap (λ r. r >>= apply_all ys) (join_applies x y z s t parts.0 e a parts.1) ∙ parts.2
    go None e = ap (λ r. r >>= apply_all (y ∷ ys)) a ∙ b

pub joined_applies : (xs : List Item) (s u : State) → apply_all xs s ≡ Ok u → apply_all (joined xs) s ≡ Ok u
joined_applies [] s u h = h
joined_applies (x ∷ xs) s u h =
    let parts = bind_ok (apply x s) (apply_all xs) u h in
    before_applies x (joined xs) s parts.0 u parts.1 (joined_applies xs parts.0 u parts.2)
