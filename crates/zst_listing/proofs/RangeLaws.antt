-- The rows of a name, in rows that stand in the order of their names.
use Rattle.std.proofs.Common.{inl, inr, ◌⊎◌, subst, ◌≡◌, ℕ, zero, suc, ◌-◌, ◌<◌, ◌≤◌, Bool, true, false, not, List, [], ◌∷◌, length, get_or, take, drop, refl, sym, ap, ◌∙◌, arith, length-drop}
use Rattle.std.specs.declared.cmp.Ordering.{Ordering}
use Rattle.std.specs.declared.cmp.Ordering.TheVariants.{Less, Equal, Greater}
use Rattle.std.specs.Ordering.{nat_cmp, is_le, is_lt, ordering_reverse}
use Rattle.std.specs.Cmp.Lexicographic.{slice_cmp}
use Rattle.std.specs.List.{AllPairs, filter, position_or_len}
use Rattle.std.specs.List.Sorted.{IsPartitionPoint, IsPartitionedBy}
use Rattle.std.specs.Str.{bytes_eq}
use Rattle.std.proofs.lemmas.Bool.{cases_lt, true≢false, false_from_ne_true}
use Rattle.std.proofs.lemmas.Cmp.{nat_list_cmp_total}
use Rattle.std.proofs.lemmas.List.{take_all}
use Rattle.std.proofs.lemmas.List.Sums.{position_or_len_is}
use Rattle.zst_model.specs.pools.Pool.{is_before}
use Rattle.zst_model.proofs.OrderLaws.{before_trans, before_cases, not_before_itself, bytes_same}
use Rattle.zst_model.proofs.NameTests.{before_upto, differ}

-- whether a name stands before another, and whether it doesn't stand behind it
abbrev pub stands_before : List ℕ → List ℕ → Bool
stands_before name key = is_before key name

abbrev pub stands_upto : List ℕ → List ℕ → Bool
stands_upto name key = is_le (slice_cmp nat_cmp key name)

-- a name doesn't stand behind another exactly where that one doesn't stand before it
pub upto_is : (name key : List ℕ) → stands_upto name key ≡ not (is_before name key)
upto_is name key = ap is_le (nat_list_cmp_total.antisymm key name) ∙ turned (slice_cmp nat_cmp name key)
  where
    turned : (o : Ordering) → is_le (ordering_reverse o) ≡ not (is_lt o)
    turned Less = refl
    turned Equal = refl
    turned Greater = refl

-- a name that doesn't stand behind one that stands before a third stands before the third
pub upto_before : (a b c : List ℕ) → is_before b a ≡ false → is_before b c ≡ true → is_before a c ≡ true
upto_before a b c h before = elim (before_cases a b) [
  | inl first ↦ before_trans a b c first before
  | inr (inl same) ↦ subst (λ n. is_before n c ≡ true) (sym same) before
  | inr (inr behind) ↦ absurd (true≢false (sym behind ∙ h))
]

-- what doesn't stand behind a name the name doesn't stand before, and the other way round
not_behind : (key name : List ℕ) → stands_upto name key ≡ true → is_before name key ≡ false
not_behind key name h = go (is_before name key) (sym (upto_is name key) ∙ h)
  where
    go : (t : Bool) → not t ≡ true → t ≡ false
    go true e = absurd (true≢false (sym e))
    go false e = refl

is_behind : (key name : List ℕ) → stands_upto name key ≡ false → is_before name key ≡ true
is_behind key name h = go (is_before name key) (sym (upto_is name key) ∙ h)
  where
    go : (t : Bool) → not t ≡ false → t ≡ true
    go true e = refl
    go false e = absurd (true≢false e)

-- rows stand in the order of their names
abbrev pub InOrder : {A : Type 0} → (A → List ℕ) → List A → Type 0
InOrder key rows = AllPairs (λ a b. is_before (key b) (key a) ≡ false) rows

-- the rows that pass a test stand first, where with each row the one before it passes
parted : {A : Type 0} (key : A → List ℕ) (test : List ℕ → Bool) (rows : List A)
    → ((a b : List ℕ) → is_before b a ≡ false → test b ≡ true → test a ≡ true) → InOrder key rows → IsPartitionedBy (λ row. test (key row)) rows
parted {A = A} key test rows chain ordered i j d le inside passes = go (cases_lt i j)
  where
    at : ℕ → List ℕ
    at k = key (get_or rows k d)

    go : (i < j) ⊎ (j ≤ i) → test (at i) ≡ true
    go (inl l) = chain (at i) (at j) (ordered i j d l inside) passes
    go (inr l) = let one : j ≡ i = omega arith in subst (λ k. test (at k) ≡ true) one passes

-- those that stand before a name stand first, and so do those that don't stand behind it
pub before_parted : {A : Type 0} (key : A → List ℕ) (name : List ℕ) (rows : List A) → InOrder key rows → IsPartitionedBy (λ row. stands_before name (key row)) rows
before_parted key name rows ordered = parted key (stands_before name) rows (λ a b h before. upto_before a b name h before) ordered

pub upto_parted : {A : Type 0} (key : A → List ℕ) (name : List ℕ) (rows : List A) → InOrder key rows → IsPartitionedBy (λ row. stands_upto name (key row)) rows
upto_parted key name rows ordered = parted key (stands_upto name) rows (λ a b h upto. earlier a b h (not_behind b name upto)) ordered
  where
    earlier : (a b : List ℕ) → is_before b a ≡ false → is_before name b ≡ false → stands_upto name a ≡ true
    earlier a b h out = upto_is name a ∙ ap not (false_from_ne_true (is_before name a) (λ k. true≢false (sym (before_upto name a b k h) ∙ out)))

-- the rows before a place pass a test, and the others don't
abbrev pub Parts : {A : Type 0} → (A → Bool) → List A → ℕ → Type 0
Parts test rows place = IsPartitionPoint (λ row. test row ≡ true) (λ row. test row ≡ false) rows place

-- the places between which the rows of a name stand
pub record AreBetween {A : Type 0} (key : A → List ℕ) (name : List ℕ) (rows : List A) (start end : ℕ) : Type 0 where
  pub inside : end ≤ length rows
  pub front : Parts (λ row. stands_before name (key row)) rows start
  pub back : Parts (λ row. stands_upto name (key row)) rows end

-- they are those of the name
pub record AreThose {A : Type 0} (key : A → List ℕ) (name : List ℕ) (rows : List A) (start end : ℕ) : Type 0 where
  pub ordered : start ≤ length (take end rows)
  pub those : drop start (take end rows) ≡ filter (λ row. bytes_eq (key row) name) rows

-- of the rows behind the first the same holds
rest_front : {A : Type 0} (test : A → Bool) (row : A) (rows : List A) (place : ℕ) → Parts test (row ∷ rows) (suc place) → Parts test rows place
rest_front test row rows place parts = (
  λ k d low below. parts.0 (suc k) d (omega arith) (omega (arith, below)),
  λ k d low below. parts.1 (suc k) d (omega (arith, low)) (omega (arith, below)),
)

rest_behind : {A : Type 0} (test : A → Bool) (row : A) (rows : List A) → Parts test (row ∷ rows) 0 → Parts test rows 0
rest_behind test row rows parts = (
  λ k d low below. absurd (omega (arith, below)),
  λ k d low below. parts.1 (suc k) d (omega arith) (omega (arith, below)),
)

first_front : {A : Type 0} (test : A → Bool) (row : A) (rows : List A) (place : ℕ) → Parts test (row ∷ rows) (suc place) → test row ≡ true
first_front test row rows place parts = parts.0 0 row (omega arith) (omega arith)

first_behind : {A : Type 0} (test : A → Bool) (row : A) (rows : List A) → Parts test (row ∷ rows) 0 → test row ≡ false
first_behind test row rows parts = parts.1 0 row (omega arith) (omega arith)

equals : (key name : List ℕ) → is_before key name ≡ false → is_before name key ≡ false → bytes_eq key name ≡ true
equals key name h k = elim (before_cases key name) [
  | inl before ↦ absurd (true≢false (sym before ∙ h))
  | inr (inl same) ↦ bytes_same key name same
  | inr (inr behind) ↦ absurd (true≢false (sym behind ∙ k))
]

skipped : {A : Type 0} (test : A → Bool) (row : A) (rows : List A) → test row ≡ false → filter test (row ∷ rows) ≡ filter test rows
skipped test row rows e = rw e refl

kept : {A : Type 0} (test : A → Bool) (row : A) (rows : List A) → test row ≡ true → filter test (row ∷ rows) ≡ row ∷ filter test rows
kept test row rows e = rw e refl

-- rows between the two places are those of the name
pub between_are_those : {A : Type 0} (key : A → List ℕ) (name : List ℕ) (rows : List A) (start end : ℕ) → start ≤ length rows
    → AreBetween key name rows start end → AreThose key name rows start end
between_are_those key name [] start end bound between =
    let none : end ≡ 0 = omega (arith, between.inside) in
    let first : start ≡ 0 = omega (arith, bound) in
    rw (none, first) (record { ordered = omega arith; those = refl })
between_are_those {A = A} key name (row ∷ rows) (suc start) (suc end) bound between =
    let first : is_before (key row) name ≡ true = first_front (λ r. stands_before name (key r)) row rows start between.front in
    let rest : AreThose key name rows start end = between_are_those key name rows start end (omega (arith, bound)) (record {
      inside = omega (arith, between.inside);
      front = rest_front (λ r. stands_before name (key r)) row rows start between.front;
      back = rest_front (λ r. stands_upto name (key r)) row rows end between.back;
    }) in
    let other = differ (key row) name (λ same. not_before_itself name (subst (λ k. is_before k name ≡ true) same first)) in
    record { ordered = omega (arith, rest.ordered); those = rest.those ∙ sym (skipped (λ r. bytes_eq (key r) name) row rows other) }
between_are_those {A = A} key name (row ∷ rows) (suc start) zero bound between =
    let first : is_before (key row) name ≡ true = first_front (λ r. stands_before name (key r)) row rows start between.front in
    let behind : is_before name (key row) ≡ true = is_behind (key row) name (first_behind (λ r. stands_upto name (key r)) row rows between.back) in
    absurd (not_before_itself name (before_trans name (key row) name behind first))
between_are_those {A = A} key name (row ∷ rows) zero (suc end) bound between =
    let not_first : is_before (key row) name ≡ false = first_behind (λ r. stands_before name (key r)) row rows between.front in
    let upto : is_before name (key row) ≡ false = not_behind (key row) name (first_front (λ r. stands_upto name (key r)) row rows end between.back) in
    let rest : AreThose key name rows 0 end = between_are_those key name rows 0 end (omega arith) (record {
      inside = omega (arith, between.inside);
      front = rest_behind (λ r. stands_before name (key r)) row rows between.front;
      back = rest_front (λ r. stands_upto name (key r)) row rows end between.back;
    }) in
    record { ordered = omega arith; those = ap (λ (l : List A). row ∷ l) rest.those ∙ sym (kept (λ r. bytes_eq (key r) name) row rows (equals (key row) name not_first upto)) }
between_are_those {A = A} key name (row ∷ rows) zero zero bound between =
    let behind : is_before name (key row) ≡ true = is_behind (key row) name (first_behind (λ r. stands_upto name (key r)) row rows between.back) in
    let rest : AreThose key name rows 0 0 = between_are_those key name rows 0 0 (omega arith) (record {
      inside = omega arith;
      front = rest_behind (λ r. stands_before name (key r)) row rows between.front;
      back = rest_behind (λ r. stands_upto name (key r)) row rows between.back;
    }) in
    let other = differ (key row) name (λ same. not_before_itself name (subst (λ k. is_before name k ≡ true) same behind)) in
    record { ordered = omega arith; those = rest.those ∙ sym (skipped (λ r. bytes_eq (key r) name) row rows other) }

-- what is left from a place on is that many rows behind it
pub whole_rest : {A : Type 0} (start : ℕ) (rows : List A) → take (length rows - start) (drop start rows) ≡ drop start rows
whole_rest start rows = take_all (length rows - start) (drop start rows) (omega (arith, length-drop start rows))

-- the place behind those that don't stand behind a name is that of the first that the name stands before
pub place_is : {A : Type 0} (key : A → List ℕ) (name : List ℕ) (rows : List A) (place : ℕ) → place ≤ length rows
    → Parts (λ row. stands_upto name (key row)) rows place
    → place ≡ position_or_len (λ row. is_before name (key row)) rows
place_is key name [] place bound point = omega (arith, bound)
place_is key name (row ∷ rows) place bound point =
    sym (position_or_len_is (λ r. is_before name (key r)) (row ∷ rows) place row bound
    (λ k below. not_behind (key (get_or (row ∷ rows) k row)) name (point.0 k row (omega arith) below))
    (λ inside. is_behind (key (get_or (row ∷ rows) place row)) name (point.1 place row (omega arith) inside)))

-- rows whose names rise stand in the order of their names
pub rising-in_order : {A : Type 0} (key : A → List ℕ) (rows : List A) → AllPairs (λ a b. is_before (key a) (key b) ≡ true) rows → InOrder key rows
rising-in_order key rows rises i j d below inside =
    let first : ℕ → List ℕ = λ k. key (get_or rows k d) in
    false_from_ne_true (is_before (first j) (first i)) (λ back. not_before_itself (first i) (before_trans (first i) (first j) (first i) (rises i j d below inside) back))
