-- The order of names, and the order of rows that have a dataset and a number.
use Rattle.std.proofs.Common.{inl, inr, ◌⊎◌, subst, ◌≡◌, ◌≢◌, ℕ, ◌<◌, ◌≤◌, Bool, true, false, ◌&&◌, ◌||◌, List, nat_lt, refl, sym, ap, ◌∙◌, arith}
use Rattle.std.specs.declared.cmp.Ordering.{Ordering}
use Rattle.std.specs.declared.cmp.Ordering.TheVariants.{Less, Equal, Greater}
use Rattle.std.specs.Ordering.{nat_cmp, is_lt, ordering_reverse}
use Rattle.std.specs.Cmp.Lexicographic.{slice_cmp}
use Rattle.std.specs.List.{AllPairs, Contains}
use Rattle.std.specs.Str.{bytes_eq}
use Rattle.std.proofs.lemmas.Bool.{cases_lt, true≢false, false_from_ne_true, ltb-true, lt-ltb, and_parts, and_from, or_cases, or_left, or_right}
use Rattle.std.proofs.lemmas.Cmp.{nat_list_cmp_total}
use Rattle.std.proofs.lemmas.Map.Lookups.{exact_bytes}
use Rattle.std.proofs.lemmas.Slice.Eq.{bytes_eq-Decides}
use Rattle.zst_model.specs.pools.Pool.{is_before, inserted}
use Rattle.zst_model.proofs.InsertedLaws.{AllPairs-inserted}

-- names that test as equal are one
pub same_bytes : (a b : List ℕ) → bytes_eq a b ≡ true → a ≡ b
same_bytes a b = (bytes_eq-Decides a b).0

-- a name tests as equal to itself
pub bytes_same : (a b : List ℕ) → a ≡ b → bytes_eq a b ≡ true
bytes_same a b = (bytes_eq-Decides a b).1

-- the only answer that says less is `Less`
less_from : (o : Ordering) → is_lt o ≡ true → o ≡ Less
less_from Less h = refl
less_from Equal h = absurd (true≢false (sym h))
less_from Greater h = absurd (true≢false (sym h))

-- what stands before a name stands before all that this name stands before
pub before_trans : (a b c : List ℕ) → is_before a b ≡ true → is_before b c ≡ true → is_before a c ≡ true
before_trans a b c h k =
    ap is_lt (nat_list_cmp_total.trans a b c (less_from (slice_cmp nat_cmp a b) h) (less_from (slice_cmp nat_cmp b c) k))

-- no name stands before itself
pub not_before_itself : (a : List ℕ) → is_before a a ≡ true → ⊥
not_before_itself a h =
    let less = less_from (slice_cmp nat_cmp a a) h in
    let back : ordering_reverse (slice_cmp nat_cmp a a) ≡ Greater = ap ordering_reverse less in
    let same = nat_list_cmp_total.antisymm a a in
    absurd (cc)

-- of two names one stands before the other, or they are one
pub before_cases : (a b : List ℕ) → (is_before a b ≡ true) ⊎ ((a ≡ b) ⊎ (is_before b a ≡ true))
before_cases a b = go (slice_cmp nat_cmp a b) refl
  where
    go : (o : Ordering) → slice_cmp nat_cmp a b ≡ o → (is_before a b ≡ true) ⊎ ((a ≡ b) ⊎ (is_before b a ≡ true))
    go Less e = inl (ap is_lt e)
    go Equal e = inr (inl (exact_bytes a b e))
    go Greater e = inr (inr (ap is_lt (nat_list_cmp_total.antisymm b a ∙ ap ordering_reverse e)))

-- of two names that differ one stands before the other
pub before_total : (a b : List ℕ) → a ≢ b → is_before a b ≡ false → is_before b a ≡ true
before_total a b differ h = elim (before_cases a b) [
  | inl first ↦ absurd (true≢false (sym first ∙ h))
  | inr (inl same) ↦ absurd (differ same)
  | inr (inr second) ↦ second
]

-- whether a row stands before another: by dataset, then by number (`snapshot_is_before` is this of snapshots)
abbrev pub row_is_before : {A : Type 0} → (A → List ℕ) → (A → ℕ) → A → A → Bool
row_is_before dataset number a b = is_before (dataset a) (dataset b) || (bytes_eq (dataset a) (dataset b) && nat_lt (number a) (number b))

-- a row stands before another: its dataset does, or in one dataset its number is lower
abbrev pub RowIsBefore : {A : Type 0} → (A → List ℕ) → (A → ℕ) → A → A → Type 0
RowIsBefore dataset number a b = (is_before (dataset a) (dataset b) ≡ true) ⊎ ((dataset a ≡ dataset b) × (number a < number b))

-- what the test of two rows says
pub row_before_parts : {A : Type 0} (dataset : A → List ℕ) (number : A → ℕ) (a b : A)
    → row_is_before dataset number a b ≡ true → RowIsBefore dataset number a b
row_before_parts dataset number a b h =
    elim (or_cases (is_before (dataset a) (dataset b)) (bytes_eq (dataset a) (dataset b) && nat_lt (number a) (number b)) h) [
      | inl k ↦ inl k
      | inr k ↦
          let both = and_parts (bytes_eq (dataset a) (dataset b)) (nat_lt (number a) (number b)) k in
          inr (same_bytes (dataset a) (dataset b) both.0, ltb-true (number a) (number b) both.1)
    ]

-- a row that stands before another passes the test
pub row_before_from : {A : Type 0} (dataset : A → List ℕ) (number : A → ℕ) (a b : A)
    → RowIsBefore dataset number a b → row_is_before dataset number a b ≡ true
row_before_from dataset number a b (inl h) = or_left (is_before (dataset a) (dataset b)) _ h
row_before_from dataset number a b (inr (e, l)) =
    or_right (is_before (dataset a) (dataset b)) _
    (and_from (bytes_eq (dataset a) (dataset b)) (nat_lt (number a) (number b)) (bytes_same (dataset a) (dataset b) e) (lt-ltb (number a) (number b) l))

-- what stands before a row stands before all that this row stands before
pub row_before_trans : {A : Type 0} (dataset : A → List ℕ) (number : A → ℕ) (a b c : A)
    → row_is_before dataset number a b ≡ true → row_is_before dataset number b c ≡ true → row_is_before dataset number a c ≡ true
row_before_trans {A = A} dataset number a b c h k = row_before_from dataset number a c (go (row_before_parts dataset number a b h) (row_before_parts dataset number b c k))
  where
    go : RowIsBefore dataset number a b → RowIsBefore dataset number b c → RowIsBefore dataset number a c
    go (inl p) (inl q) = inl (before_trans (dataset a) (dataset b) (dataset c) p q)
    go (inl p) (inr (e, l)) = inl (subst (λ d. is_before (dataset a) d ≡ true) e p)
    go (inr (e, l)) (inl q) = inl (subst (λ d. is_before d (dataset c) ≡ true) (sym e) q)
    go (inr (e, l)) (inr (f, m)) = inr (e ∙ f, omega arith)

-- of two rows at most one stands before the other
pub row_before_one_way : {A : Type 0} (dataset : A → List ℕ) (number : A → ℕ) (a b : A)
    → row_is_before dataset number a b ≡ true → row_is_before dataset number b a ≡ false
row_before_one_way {A = A} dataset number a b h =
    false_from_ne_true (row_is_before dataset number b a) (λ k. go (row_before_parts dataset number a a (row_before_trans dataset number a b a h k)))
  where
    go : RowIsBefore dataset number a a → ⊥
    go (inl p) = not_before_itself (dataset a) p
    go (inr (e, l)) = omega arith

-- a row that stands before another stands before all that don't stand before that one
pub row_before_later : {A : Type 0} (dataset : A → List ℕ) (number : A → ℕ) (a b c : A)
    → row_is_before dataset number a b ≡ true → row_is_before dataset number c b ≡ false → row_is_before dataset number a c ≡ true
row_before_later {A = A} dataset number a b c h not_back =
    row_before_from dataset number a c (go (before_cases (dataset b) (dataset c)) (row_before_parts dataset number a b h))
  where
    back : RowIsBefore dataset number c b → ⊥
    back k = true≢false (sym (row_before_from dataset number c b k) ∙ not_back)

    behind : dataset b ≡ dataset c → number b ≤ number c
    behind e = elim (cases_lt (number c) (number b)) [
      | inl lt ↦ absurd (back (inr (sym e, lt)))
      | inr le ↦ le
    ]

    go : (is_before (dataset b) (dataset c) ≡ true) ⊎ ((dataset b ≡ dataset c) ⊎ (is_before (dataset c) (dataset b) ≡ true))
        → RowIsBefore dataset number a b → RowIsBefore dataset number a c
    go (inl q) (inl p) = inl (before_trans (dataset a) (dataset b) (dataset c) p q)
    go (inl q) (inr (e, l)) = inl (subst (λ d. is_before d (dataset c) ≡ true) (sym e) q)
    go (inr (inl f)) (inl p) = inl (subst (λ d. is_before (dataset a) d ≡ true) f p)
    go (inr (inl f)) (inr (e, l)) = let le = behind f in inr (e ∙ f, omega arith)
    go (inr (inr q)) p = absurd (back (inl q))

-- names that differ do so with another put in
pub names_differ-inserted : {A : Type 0} (name : A → List ℕ) (comes_before : A → A → Bool) (row : A) (xs : List A)
    → ((x : A) → Contains xs x → name x ≢ name row)
    → AllPairs (λ a b. name a ≢ name b) xs → AllPairs (λ a b. name a ≢ name b) (inserted comes_before row xs)
names_differ-inserted name comes_before row xs differs =
    AllPairs-inserted (λ a b. name a ≢ name b) comes_before row xs
    (λ x there h e. differs x there (sym e))
    (λ x there h. differs x there)
    (λ x y there h apart e. differs y there (sym e))

-- rows in the order of their names are so with another put in its place
pub names_rise-inserted : {A : Type 0} (name : A → List ℕ) (row : A) (xs : List A) → ((x : A) → Contains xs x → name x ≢ name row)
    → AllPairs (λ a b. is_before (name a) (name b) ≡ true) xs
    → AllPairs (λ a b. is_before (name a) (name b) ≡ true) (inserted (λ a b. is_before (name a) (name b)) row xs)
names_rise-inserted name row xs differs =
    AllPairs-inserted (λ a b. is_before (name a) (name b) ≡ true) (λ a b. is_before (name a) (name b)) row xs
    (λ x there h. h)
    (λ x there h. before_total (name row) (name x) (λ e. differs x there (sym e)) h)
    (λ x y there h k. before_trans (name row) (name x) (name y) h k)

-- rows of which none stands before an earlier one are so with another put in its place
pub rows_rise-inserted : {A : Type 0} (dataset : A → List ℕ) (number : A → ℕ) (row : A) (xs : List A)
    → AllPairs (λ a b. row_is_before dataset number b a ≡ false) xs
    → AllPairs (λ a b. row_is_before dataset number b a ≡ false) (inserted (row_is_before dataset number) row xs)
rows_rise-inserted dataset number row xs =
    AllPairs-inserted (λ a b. row_is_before dataset number b a ≡ false) (row_is_before dataset number) row xs
    (λ x there h. row_before_one_way dataset number row x h)
    (λ x there h. h)
    (λ x y there h not_back. false_from_ne_true (row_is_before dataset number y row) (λ back. true≢false (sym (row_before_trans dataset number y row x back h) ∙ not_back)))
