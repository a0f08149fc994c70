-- Joining from the front, as a writer does it.
use Rattle.std.proofs.Common.{inl, inr, ◌⊎◌, ◌≡◌, ℕ, ◌+◌, Bool, true, false, List, [], ◌∷◌, Option, Some, None, option_map, refl, sym, ap, ◌∙◌, arith, ◌==◌, if◌then◌else◌, eqb-true, eq-eqb}
use Rattle.std.proofs.lemmas.Bool.{cond-true, cond-false, true≢false}
use Rattle.zst_model.specs.declared.states.item.Change.{Change}
use Rattle.zst_model.specs.declared.states.item.Change.TheVariants.{Put, Spill, FreeFrom, Free, Redact, Write}
use Rattle.zst_model.specs.declared.states.item.Item.{Item}
use Rattle.zst_model.specs.declared.states.item.Item.TheVariants.{FreeObjects, At}
use Rattle.zst_model.specs.sends.Items.{join, join_changes, before, before_item}
use Rattle.zst_laws.proofs.sends.Joins.{joined_if, joined_if', mapped}

apart_if : {A : Type 0} (b : Bool) (x : A) → (if b then Some x else None) ≡ None → b ≡ false
apart_if true x h = absurd (cc)
apart_if false x h = refl

-- the number at which a run begins decides whether it joins
same_sum : (a m b n : ℕ) → (a + m == b) ≡ true → a + (m + n) ≡ b + n
same_sum a m b n e = omega (arith, eqb-true (a + m) b e)

-- three that follow one another join either way
changes_assoc : (c d e z w : Change) → join_changes c d ≡ Some z → join_changes d e ≡ Some w → (u : Change) × (join_changes c w ≡ Some u) × (join_changes z e ≡ Some u)
changes_assoc (Free a m) (Free b n) (Free c l) z w p q =
    let first = joined_if (a + m == b) (Free a (m + n)) z p in
    let second = joined_if (b + n == c) (Free b (n + l)) w q in
    let assoc : m + (n + l) ≡ (m + n) + l = omega arith in (
      Free a (m + (n + l)),
      ap (join_changes (Free a m)) (sym second.1) ∙ cond-true (a + m == b) _ _ first.0,
      ap (λ v. join_changes v (Free c l)) (sym first.1) ∙ cond-true (a + (m + n) == c) _ _ (eq-eqb _ _ (same_sum a m b n first.0 ∙ eqb-true (b + n) c second.0)) ∙ ap (λ s. Some (Free a s)) (sym assoc),
    )
changes_assoc (Redact a m) (Redact b n) (Redact c l) z w p q =
    let first = joined_if (a + m == b) (Redact a (m + n)) z p in
    let second = joined_if (b + n == c) (Redact b (n + l)) w q in
    let assoc : m + (n + l) ≡ (m + n) + l = omega arith in (
      Redact a (m + (n + l)),
      ap (join_changes (Redact a m)) (sym second.1) ∙ cond-true (a + m == b) _ _ first.0,
      ap (λ v. join_changes v (Redact c l)) (sym first.1) ∙ cond-true (a + (m + n) == c) _ _ (eq-eqb _ _ (same_sum a m b n first.0 ∙ eqb-true (b + n) c second.0)) ∙ ap (λ s. Some (Redact a s)) (sym assoc),
    )
changes_assoc c d e z w p q = absurd (cc)

-- what the middle does not join, the two before it do not
changes_stop : (c d e z : Change) → join_changes c d ≡ Some z → join_changes d e ≡ None → join_changes z e ≡ None
changes_stop (Free a m) (Free b n) (Free c l) z p q =
    let first = joined_if (a + m == b) (Free a (m + n)) z p in
    ap (λ v. join_changes v (Free c l)) (sym first.1) ∙ cond-false (a + (m + n) == c) _ _ (ap (λ s. s == c) (same_sum a m b n first.0) ∙ apart_if (b + n == c) _ q)
changes_stop (Redact a m) (Redact b n) (Redact c l) z p q =
    let first = joined_if (a + m == b) (Redact a (m + n)) z p in
    ap (λ v. join_changes v (Redact c l)) (sym first.1) ∙ cond-false (a + (m + n) == c) _ _ (ap (λ s. s == c) (same_sum a m b n first.0) ∙ apart_if (b + n == c) _ q)
changes_stop (Free a m) (Free b n) (Put head bonus keep x) z p q = ap (λ v. join_changes v (Put head bonus keep x)) (sym (joined_if (a + m == b) (Free a (m + n)) z p).1)
changes_stop (Free a m) (Free b n) (Spill x) z p q = ap (λ v. join_changes v (Spill x)) (sym (joined_if (a + m == b) (Free a (m + n)) z p).1)
changes_stop (Free a m) (Free b n) (FreeFrom x) z p q = ap (λ v. join_changes v (FreeFrom x)) (sym (joined_if (a + m == b) (Free a (m + n)) z p).1)
changes_stop (Free a m) (Free b n) (Redact x y) z p q = ap (λ v. join_changes v (Redact x y)) (sym (joined_if (a + m == b) (Free a (m + n)) z p).1)
changes_stop (Free a m) (Free b n) (Write x t y) z p q = ap (λ v. join_changes v (Write x t y)) (sym (joined_if (a + m == b) (Free a (m + n)) z p).1)
changes_stop (Redact a m) (Redact b n) (Put head bonus keep x) z p q = ap (λ v. join_changes v (Put head bonus keep x)) (sym (joined_if (a + m == b) (Redact a (m + n)) z p).1)
changes_stop (Redact a m) (Redact b n) (Spill x) z p q = ap (λ v. join_changes v (Spill x)) (sym (joined_if (a + m == b) (Redact a (m + n)) z p).1)
changes_stop (Redact a m) (Redact b n) (FreeFrom x) z p q = ap (λ v. join_changes v (FreeFrom x)) (sym (joined_if (a + m == b) (Redact a (m + n)) z p).1)
changes_stop (Redact a m) (Redact b n) (Free x y) z p q = ap (λ v. join_changes v (Free x y)) (sym (joined_if (a + m == b) (Redact a (m + n)) z p).1)
changes_stop (Redact a m) (Redact b n) (Write x t y) z p q = ap (λ v. join_changes v (Write x t y)) (sym (joined_if (a + m == b) (Redact a (m + n)) z p).1)
changes_stop c d e z p q = absurd (cc)

-- what does not join the first, does not join what begins with it
changes_apart : (c d e w : Change) → join_changes c d ≡ None → join_changes d e ≡ Some w → join_changes c w ≡ None
changes_apart (Free a m) (Free b n) (Free c l) w p q =
    ap (join_changes (Free a m)) (sym (joined_if (b + n == c) (Free b (n + l)) w q).1) ∙ cond-false (a + m == b) _ _ (apart_if (a + m == b) _ p)
changes_apart (Redact a m) (Redact b n) (Redact c l) w p q =
    ap (join_changes (Redact a m)) (sym (joined_if (b + n == c) (Redact b (n + l)) w q).1) ∙ cond-false (a + m == b) _ _ (apart_if (a + m == b) _ p)
changes_apart c (Free b n) (Free d l) w p q = ap (join_changes c) (sym (joined_if (b + n == d) (Free b (n + l)) w q).1)
changes_apart c (Redact b n) (Redact d l) w p q = ap (join_changes c) (sym (joined_if (b + n == d) (Redact b (n + l)) w q).1)
changes_apart c d e w p q = absurd (cc)

mapped_from : {A B : Type 0} (f : A → B) (o : Option A) (x : A) → o ≡ Some x → option_map f o ≡ Some (f x)
mapped_from f o x e = ap (option_map f) e

not_mapped : {A B : Type 0} (f : A → B) (o : Option A) → option_map f o ≡ None → o ≡ None
not_mapped f None h = refl
not_mapped f (Some x) h = absurd (cc)

-- two numbers that differ join nothing
none_at : (b : Bool) (o : Option Item) → (if b then o else None) ≡ None → (b ≡ false) ⊎ ((b ≡ true) × (o ≡ None))
none_at true o h = inr (refl, h)
none_at false o h = inl refl

pub join_assoc : (p q y z w : Item) → join p q ≡ Some z → join q y ≡ Some w → (u : Item) × (join p w ≡ Some u) × (join z y ≡ Some u)
join_assoc (FreeObjects a m) (FreeObjects b n) (FreeObjects c l) z w p q =
    let first = joined_if (a + m == b) (FreeObjects a (m + n)) z p in
    let second = joined_if (b + n == c) (FreeObjects b (n + l)) w q in
    let assoc : m + (n + l) ≡ (m + n) + l = omega arith in (
      FreeObjects a (m + (n + l)),
      ap (join (FreeObjects a m)) (sym second.1) ∙ cond-true (a + m == b) _ _ first.0,
      ap (λ v. join v (FreeObjects c l)) (sym first.1) ∙ cond-true (a + (m + n) == c) _ _ (eq-eqb _ _ (same_sum a m b n first.0 ∙ eqb-true (b + n) c second.0)) ∙ ap (λ s. Some (FreeObjects a s)) (sym assoc),
    )
join_assoc (At i c) (At j d) (At k e) z w p q =
    let one = joined_if' (i == j) (option_map (At i) (join_changes c d)) z p in
    let two = joined_if' (j == k) (option_map (At j) (join_changes d e)) w q in
    let first = mapped (At i) (join_changes c d) z one.1 in
    let second = mapped (At j) (join_changes d e) w two.1 in
    let both = changes_assoc c d e first.0 second.0 first.1 second.1 in
    let ik : (i == k) ≡ true = eq-eqb i k (eqb-true i j one.0 ∙ eqb-true j k two.0) in (
      At i both.0,
      ap (join (At i c)) (sym second.2) ∙ cond-true (i == j) _ _ one.0 ∙ ap (option_map (At i)) both.1,
      ap (λ v. join v (At k e)) (sym first.2) ∙ cond-true (i == k) _ _ ik ∙ ap (option_map (At i)) both.2,
    )
join_assoc p q y z w a b = absurd (cc)

pub join_stop : (p q y z : Item) → join p q ≡ Some z → join q y ≡ None → join z y ≡ None
join_stop (FreeObjects a m) (FreeObjects b n) (FreeObjects c l) z p q =
    let first = joined_if (a + m == b) (FreeObjects a (m + n)) z p in
    ap (λ v. join v (FreeObjects c l)) (sym first.1) ∙ cond-false (a + (m + n) == c) _ _ (ap (λ s. s == c) (same_sum a m b n first.0) ∙ apart_if (b + n == c) _ q)
join_stop (FreeObjects a m) (FreeObjects b n) (At k e) z p q = ap (λ v. join v (At k e)) (sym (joined_if (a + m == b) (FreeObjects a (m + n)) z p).1)
join_stop (At i c) (At j d) (At k e) z p q =
    let one = joined_if' (i == j) (option_map (At i) (join_changes c d)) z p in
    let first = mapped (At i) (join_changes c d) z one.1 in
    ap (λ v. join v (At k e)) (sym first.2) ∙ go (i == k) refl first.0 first.1 (eqb-true i j one.0) (none_at (j == k) _ q)
  where
    go : (t : Bool) → (i == k) ≡ t → (v : Change) → join_changes c d ≡ Some v → i ≡ j → ((j == k) ≡ false) ⊎ (((j == k) ≡ true) × (option_map (At j) (join_changes d e) ≡ None)) → (if t then option_map (At i) (join_changes v e) else None) ≡ None
    go false s v f ij n = refl
    go true s v f ij (inl n) = absurd (true≢false (sym (eq-eqb j k (sym ij ∙ eqb-true i k s)) ∙ n))
    go true s v f ij (inr (t, n)) = ap (option_map (At i)) (changes_stop c d e v f (not_mapped (At j) (join_changes d e) n))
join_stop (At i c) (At j d) (FreeObjects f m) z p q =
    let one = joined_if' (i == j) (option_map (At i) (join_changes c d)) z p in
    ap (λ v. join v (FreeObjects f m)) (sym (mapped (At i) (join_changes c d) z one.1).2)
join_stop p q y z a b = absurd (cc)

pub join_apart : (p q y w : Item) → join p q ≡ None → join q y ≡ Some w → join p w ≡ None
join_apart (FreeObjects a m) (FreeObjects b n) (FreeObjects c l) w p q =
    ap (join (FreeObjects a m)) (sym (joined_if (b + n == c) (FreeObjects b (n + l)) w q).1) ∙ cond-false (a + m == b) _ _ (apart_if (a + m == b) _ p)
join_apart (At i c) (FreeObjects b n) (FreeObjects d l) w p q = ap (join (At i c)) (sym (joined_if (b + n == d) (FreeObjects b (n + l)) w q).1)
join_apart (FreeObjects a m) (At j d) (At k e) w p q =
    let two = joined_if' (j == k) (option_map (At j) (join_changes d e)) w q in
    ap (join (FreeObjects a m)) (sym (mapped (At j) (join_changes d e) w two.1).2)
join_apart (At i c) (At j d) (At k e) w p q =
    let two = joined_if' (j == k) (option_map (At j) (join_changes d e)) w q in
    let second = mapped (At j) (join_changes d e) w two.1 in
    ap (join (At i c)) (sym second.2) ∙ go (i == j) refl second.0 second.1 (none_at (i == j) _ p)
  where
    go : (t : Bool) → (i == j) ≡ t → (v : Change) → join_changes d e ≡ Some v → ((i == j) ≡ false) ⊎ (((i == j) ≡ true) × (option_map (At i) (join_changes c d) ≡ None)) → (if t then option_map (At i) (join_changes c v) else None) ≡ None
    go false s v f n = refl
    go true s v f (inl n) = absurd (true≢false (sym s ∙ n))
    go true s v f (inr (t, n)) = ap (option_map (At i)) (changes_apart c d e v (not_mapped (At i) (join_changes c d) n) f)
join_apart p q y w a b = absurd (cc)

-- an item that joins the next goes into it
pub before-joined : (p q z : Item) (ys : List Item) → join p q ≡ Some z → before p (before q ys) ≡ before z ys
before-joined p q z [] j = ap (λ o. before_item p o q []) j
before-joined p q z (y ∷ ys) j = go (join q y) refl
  where
    go : (o : Option Item) → join q y ≡ o → before p (before_item q o y ys) ≡ before_item z (join z y) y ys
    go (Some w) e = let both = join_assoc p q y z w j e in ap (λ o. before_item p o w ys) both.1 ∙ sym (ap (λ o. before_item z o y ys) both.2)
    go None e = ap (λ o. before_item p o q (y ∷ ys)) j ∙ sym (ap (λ o. before_item z o y ys) (join_stop p q y z j e))

-- one that does not is an item of its own
pub before-apart : (p q : Item) (ys : List Item) → join p q ≡ None → before p (before q ys) ≡ p ∷ before q ys
before-apart p q [] j = ap (λ o. before_item p o q []) j
before-apart p q (y ∷ ys) j = go (join q y) refl
  where
    go : (o : Option Item) → join q y ≡ o → before p (before_item q o y ys) ≡ p ∷ before_item q o y ys
    go (Some w) e = ap (λ o. before_item p o w ys) (join_apart p q y w j e)
    go None e = ap (λ o. before_item p o q (y ∷ ys)) j
