-- What a receive is planned over, and what its partial state has become of it.
use Rattle.std.proofs.Common.{◌≡◌, ◌≢◌, ◌⊎◌, inl, inr, ℕ, ◌≤◌, Bool, true, false, List, [], ◌∷◌, ◌++◌, Option, Some, None, IfSome, option_map, AllPairs, Contains, filter, if◌then◌else◌, refl, sym, ap, ◌∙◌, subst, cond, arith}
use Rattle.std.specs.Prelude.{bytes_eq}
use Rattle.std.proofs.lemmas.Bool.{true≢false}
use Rattle.std.proofs.lemmas.List.Elements.{All-contains}
use Rattle.std.proofs.lemmas.Option.{same_Some}
use Rattle.zst_model.proofs.InsertedLaws.{AllPairs-head, AllPairs-tail, contains_cases, contains_first, contains_later, contains_nothing}
use Rattle.zst_model.proofs.OrderLaws.{bytes_same, same_bytes}
use Rattle.zst_model.specs.pools.Pool.{Pool, Dataset, Snapshot, Bookmark, Partial, HasDataset, HasSnapshot, dataset_of_snapshot, dataset_of_bookmark, snapshot_is_before}
use Rattle.zst_model.specs.pools.Soundness.{DatedUpTo}
use Rattle.zst_model.specs.states.DatedState.{DatedState}
use Rattle.zst_model.proofs.UniqueElements.{same_named}
use Rattle.zst_plan.specs.RecvPlan.{is_dated_after, last_of}
use Rattle.zst_pool.specs.Partials.{last_from, last_where, latest_snapshot}
use Rattle.zst_replication.proofs.EarlierDates.{Stays}
use Rattle.zst_laws.proofs.pools.Descent.{Rises}

-- ---- the last that passes a test

-- the last that passes is the last of those that pass
last_of_all : {A : Type 0} (x : A) (xs : List A) → last_from (λ y. true) (Some x) xs ≡ last_of (x ∷ xs)
last_of_all x [] = refl
last_of_all x (y ∷ ys) = last_of_all y ys

last_kept : {A : Type 0} (p : A → Bool) (found : Option A) (xs : List A) → last_from p found xs ≡ last_from (λ y. true) found (filter p xs)
last_kept p found [] = refl
last_kept {A = A} p found (x ∷ xs) = go (p x) (λ o. last_kept p o xs)
  where
    go : (t : Bool) → ((o : Option A) → last_from p o xs ≡ last_from (λ y. true) o (filter p xs))
        → last_from p (if t then Some x else found) xs ≡ last_from (λ y. true) found (cond t (x ∷ filter p xs) (filter p xs))
    go true rest = rest (Some x)
    go false rest = rest found

pub last_is : {A : Type 0} (p : A → Bool) (xs : List A) → last_of (filter p xs) ≡ last_where p xs
last_is {A = A} p xs = go (filter p xs) ∙ sym (last_kept p None xs)
  where
    go : (ys : List A) → last_of ys ≡ last_from (λ y. true) None ys
    go [] = refl
    go (y ∷ ys) = sym (last_of_all y ys)

-- all others that pass stand before it
abbrev IsLast : {A : Type 0} → (A → A → Type 0) → (A → Bool) → List A → A → Type 0
IsLast {A = A} R p xs last = Contains xs last × (p last ≡ true) × ((x : A) → Contains xs x → p x ≡ true → (x ≡ last) ⊎ R x last)

last_stands : {A : Type 0} (R : A → A → Type 0) (p : A → Bool) (xs : List A) (found : Option A) (last : A) → AllPairs R xs → last_from p found xs ≡ Some last
    → ((found ≡ Some last) × ((x : A) → Contains xs x → p x ≡ false)) ⊎ IsLast R p xs last
last_stands R p [] found last pairs e = inl (e, λ x there. absurd (contains_nothing x there))
last_stands {A = A} R p (y ∷ ys) found last pairs e =
    go (p y) refl (last_stands R p ys (if p y then Some y else found) last (AllPairs-tail R y ys pairs) e)
  where
    fails : (x : A) → p y ≡ false → ((x : A) → Contains ys x → p x ≡ false) → (y ≡ x) ⊎ Contains ys x → p x ≡ false
    fails x is rest (inl same) = ap p (sym same) ∙ is
    fails x is rest (inr later) = rest x later

    behind : (x : A) → Contains ys last → (y ≡ x) ⊎ Contains ys x → (Contains ys x → (x ≡ last) ⊎ R x last) → (x ≡ last) ⊎ R x last
    behind x there (inl same) rest = inr (subst (λ (z : A). R z last) same (All-contains (R y) ys last (AllPairs-head R y ys pairs) there))
    behind x there (inr later) rest = rest later

    only : (x : A) → y ≡ last → ((x : A) → Contains ys x → p x ≡ false) → p x ≡ true → (y ≡ x) ⊎ Contains ys x → (x ≡ last) ⊎ R x last
    only x same none passes (inl first) = inl (sym first ∙ same)
    only x same none passes (inr later) = absurd (true≢false (sym passes ∙ none x later))

    go : (t : Bool) → p y ≡ t → (((if t then Some y else found) ≡ Some last) × ((x : A) → Contains ys x → p x ≡ false)) ⊎ IsLast R p ys last
        → ((found ≡ Some last) × ((x : A) → Contains (y ∷ ys) x → p x ≡ false)) ⊎ IsLast R p (y ∷ ys) last
    go t is (inr later) = inr (contains_later y ys last later.0, later.1, λ x there passes. behind x later.0 (contains_cases y ys x there) (λ k. later.2 x k passes))
    go true is (inl now) =
        let same = same_Some y last now.0 in
        inr (subst (λ (z : A). Contains (y ∷ ys) z) same (contains_first y ys), ap p (sym same) ∙ is, λ x there passes. only x same now.1 passes (contains_cases y ys x there))
    go false is (inl before) = inl (before.0, λ x there. fails x is before.1 (contains_cases y ys x there))

last_where_stands : {A : Type 0} (R : A → A → Type 0) (p : A → Bool) (xs : List A) (last : A) → AllPairs R xs → last_where p xs ≡ Some last → IsLast R p xs last
last_where_stands {A = A} R p xs last pairs e = go (last_stands R p xs None last pairs e)
  where
    go : ((◌≡◌ {A = Option A} None (Some last)) × ((x : A) → Contains xs x → p x ≡ false)) ⊎ IsLast R p xs last → IsLast R p xs last
    go (inl none) = absurd (let no = none.0 in cc)
    go (inr is) = is

-- ---- what a receive is planned over

-- the latest snapshot of a dataset
pub record IsLatest (pool : Pool) (name : List ℕ) (latest : Snapshot) : Type 0 where
  pub there : Contains pool.snapshots latest
  pub own : dataset_of_snapshot latest ≡ name
  pub most : (other : Snapshot) → Contains pool.snapshots other → dataset_of_snapshot other ≡ name → other.number ≤ latest.number

-- it is the last one of the dataset
pub latest_is : (pool : Pool) (name : List ℕ) → AllPairs Rises pool.snapshots → (latest : Snapshot) → latest_snapshot name pool ≡ Some latest → IsLatest pool name latest
latest_is pool name rise latest e =
    let is = last_where_stands Rises (λ s. bytes_eq (dataset_of_snapshot s) name) pool.snapshots latest rise e in
    let own = same_bytes (dataset_of_snapshot latest) name is.1 in record {
      there = is.0;
      own = own;
      most = λ other there same. elim (is.2 other there (bytes_same (dataset_of_snapshot other) name same)) [
        | inl one ↦ let e = ap (λ (s : Snapshot). s.number) one in omega arith
        | inr less ↦ let l = less (same ∙ sym own) in omega arith
      ];
    }

-- two latest snapshots have one number
pub latest_number : (pool : Pool) (name : List ℕ) (a b : Snapshot) → IsLatest pool name a → IsLatest pool name b → a.number ≡ b.number
latest_number pool name a b is also = let up = also.most a is.there is.own in let down = is.most b also.there also.own in omega (arith, up, down)

-- a dataset may go back to its latest snapshot, which has this number: its head has no later date, or no bookmark of the dataset is later
abbrev pub MayGoBack : Pool → List ℕ → ℕ → Type 0
MayGoBack pool name number =
    ((dataset : Dataset) × Contains pool.datasets dataset × (dataset.name ≡ name) × (is_dated_after number dataset.head ≡ false))
    ⊎ ((bookmark : Bookmark) → Contains pool.bookmarks bookmark → dataset_of_bookmark bookmark ≡ name → bookmark.number ≤ number)

-- an old snapshot or none, and the latest one of a target that is there and may go back to it
pub record IsOver (pool : Pool) (target : List ℕ) (base : Option Snapshot) : Type 0 where
  pub there : IfSome base (λ snapshot. Contains pool.snapshots snapshot)
  pub onto : ((latest : Snapshot) × (base ≡ Some latest) × IsLatest pool target latest × MayGoBack pool target latest.number) ⊎ (HasDataset pool target → ⊥)

-- a partial state begins afresh with these objects, over a base
pub record IsAfresh (start : Pool) (partial : Partial) (from : DatedState) : Type 0 where
  pub base : Option Snapshot
  pub over : IsOver start partial.target base
  pub named : partial.base ≡ option_map (λ snapshot. snapshot.name) base
  pub objects : (snapshot : Snapshot) → base ≡ Some snapshot → from ≡ snapshot.objects

-- or with those of an old one of its target and base
pub record IsResumed (olds : List Partial) (partial : Partial) (from : DatedState) : Type 0 where
  pub old : Partial
  pub there : Contains olds old
  pub target : old.target ≡ partial.target
  pub base : old.base ≡ partial.base
  pub objects : from ≡ old.objects

-- a partial state has grown from these: what they are dated up to the pool's number stays, and its snapshot's name is free
pub record Grown (start : Pool) (olds : List Partial) (number : ℕ) (partial : Partial) : Type 0 where
  pub from : DatedState
  pub origin : IsAfresh start partial from ⊎ IsResumed olds partial from
  pub based : (name : List ℕ) → partial.base ≡ Some name → HasSnapshot start name
  pub free : HasSnapshot start (partial.target ++ 64 ∷ partial.component) → ⊥
  pub stays : Stays start.number from partial.objects
  pub dated : DatedUpTo number partial.objects

-- so has the same one further on
pub grown_on : (start : Pool) (olds : List Partial) (number more : ℕ) (partial next : Partial) → partial.target ≡ next.target → partial.component ≡ next.component → partial.base ≡ next.base
    → (grown : Grown start olds number partial) → Stays start.number grown.from next.objects → DatedUpTo more next.objects → Grown start olds more next
grown_on start olds number more partial next target component base grown stays dated = record {
  from = grown.from;
  origin = elim grown.origin [
    | inl is ↦ inl (record { base = is.base; over = subst (λ (t : List ℕ). IsOver start t is.base) target is.over; named = sym base ∙ is.named; objects = is.objects })
    | inr is ↦ inr (record { old = is.old; there = is.there; target = is.target ∙ target; base = is.base ∙ base; objects = is.objects })
  ];
  based = λ name e. grown.based name (base ∙ e);
  free = λ has. grown.free (subst (HasSnapshot start) (ap (λ (c : List ℕ). next.target ++ 64 ∷ c) (sym component) ∙ ap (λ (t : List ℕ). t ++ 64 ∷ partial.component) (sym target)) has);
  stays = stays;
  dated = dated;
}

-- snapshots stand in their order, and their names differ
pub record AreOrdered (snapshots : List Snapshot) : Type 0 where
  pub order : AllPairs (λ a b. snapshot_is_before b a ≡ false) snapshots
  pub differ : AllPairs (λ a b. a.name ≢ b.name) snapshots

-- a base is the snapshot of its name
pub named_base : (start : Pool) → AreOrdered start.snapshots → (base : Option Snapshot) → IfSome base (λ snapshot. Contains start.snapshots snapshot) → (other : Snapshot) → Contains start.snapshots other
    → option_map (λ snapshot. snapshot.name) base ≡ Some other.name → base ≡ Some other
named_base start named None has other there e = absurd cc
named_base start named (Some snapshot) has other there e =
    ap (λ (s : Snapshot). Some s) (same_named start.snapshots named.differ snapshot other has there (same_Some snapshot.name other.name e))

-- it is there
pub base_named : (start : Pool) (base : Option Snapshot) → IfSome base (λ snapshot. Contains start.snapshots snapshot) → (name : List ℕ) → option_map (λ snapshot. snapshot.name) base ≡ Some name → HasSnapshot start name
base_named start None has name e = absurd cc
base_named start (Some snapshot) has name e = (snapshot, has, same_Some snapshot.name name e)
