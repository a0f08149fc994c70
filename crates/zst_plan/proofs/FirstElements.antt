-- What is found first in a list, and what is found last.
use Rattle.std.proofs.Common.{◌≡◌, inl, inr, ◌⊎◌, Bool, true, false, cond, List, [], ◌∷◌, ◌++◌, Some, None, Contains, AllPairs, filter, find, refl, sym, ap, ◌∙◌, subst}
use Rattle.std.proofs.lemmas.Bool.{false_from_ne_true, true≢false}
use Rattle.std.proofs.lemmas.Option.{same_Some}
use Rattle.std.proofs.lemmas.List.Elements.{All-head, Contains-append_left}
use Rattle.zst_model.proofs.InsertedLaws.{contains_cases, contains_first, contains_later, contains_nothing, AllPairs-head, AllPairs-tail}
use Rattle.zst_model.proofs.FoundElements.{none_passes}
use Rattle.zst_laws.proofs.pools.Rows.{none_from_absent}
use Rattle.zst_laws.specs.LineageRefusals.{NoneHolds}
use Rattle.zst_plan.specs.AcceptedStreams.{IsFirst}
use Rattle.zst_plan.specs.RecvPlan.{last_of}

-- what stands behind others that don't pass
found_behind : {A : Type 0} (p : A → Bool) (x : A) (behind before : List A) → p x ≡ true → ((y : A) → Contains before y → p y ≡ false)
    → find p (before ++ x ∷ behind) ≡ Some x
found_behind {A = A} p x behind [] passes none = ap (λ (t : Bool). cond t (Some x) (find p behind)) passes
found_behind {A = A} p x behind (y ∷ before) passes none =
    ap (λ (t : Bool). cond t (Some y) (find p (before ++ x ∷ behind))) (none y (contains_first y before))
    ∙ found_behind p x behind before passes (λ z k. none z (contains_later y before z k))

-- the first of those of which something holds is found by a test of it, and where it holds of none, none is found
module _ {A : Type 0} (p : A → Bool) (Is : A → Type 0) (xs : List A) (says : (y : A) → Contains xs y → p y ≡ true → Is y) where
  pub first_found : (x : A) → p x ≡ true → IsFirst Is xs x → find p xs ≡ Some x
  first_found x passes first =
      subst (λ (ys : List A). find p ys ≡ Some x) (sym first.stands)
      (found_behind p x first.behind first.before passes
      (λ y k. false_from_ne_true (p y)
      (λ e. first.none_before y k (says y (subst (λ (ys : List A). Contains ys y) (sym first.stands) (Contains-append_left first.before (x ∷ first.behind) y k)) e))))

  pub none_found : NoneHolds Is xs → find p xs ≡ None
  none_found none = none_from_absent p xs (λ y k. false_from_ne_true (p y) (λ e. none y k (says y k e)))

-- the first is in the list
pub first_there : {A : Type 0} (Is : A → Type 0) (xs : List A) (x : A) → IsFirst Is xs x → Contains xs x
first_there {A = A} Is xs x first = subst (λ (ys : List A). Contains ys x) (sym first.stands) (go first.before)
  where
    go : (before : List A) → Contains (before ++ x ∷ first.behind) x
    go [] = contains_first x first.behind
    go (y ∷ before) = contains_later y (before ++ x ∷ first.behind) x (go before)

-- what a test of something finds is the first of which it holds, and where it finds none, it holds of none
pub found_is_first : {A : Type 0} (p : A → Bool) (Is : A → Type 0) (xs : List A) → ((y : A) → Contains xs y → p y ≡ true → Is y) → ((y : A) → Contains xs y → Is y → p y ≡ true)
    → (x : A) → find p xs ≡ Some x → IsFirst Is xs x
found_is_first {A = A} p Is [] says passes x h = absurd (cc)
found_is_first {A = A} p Is (y ∷ ys) says passes x h =
    go (p y) refl h (found_is_first p Is ys (λ z k. says z (contains_later y ys z k)) (λ z k. passes z (contains_later y ys z k)) x)
  where
    none : (before : List A) → NoneHolds Is before → p y ≡ false → (z : A) → (y ≡ z) ⊎ Contains before z → Is z → ⊥
    none before others e z (inl same) holds = true≢false (sym (passes y (contains_first y ys) (subst Is (sym same) holds)) ∙ e)
    none before others e z (inr k) holds = others z k holds

    go : (t : Bool) → p y ≡ t → cond t (Some y) (find p ys) ≡ Some x → (find p ys ≡ Some x → IsFirst Is ys x) → IsFirst Is (y ∷ ys) x
    go true e is rest =
        let same = same_Some y x is in
        record {
          before = [];
          behind = ys;
          stands = ap (λ (z : A). z ∷ ys) same;
          holds = subst Is same (says y (contains_first y ys) e);
          none_before = λ z k. absurd (contains_nothing z k);
        }
    go false e is rest =
        let later = rest is in
        record {
          before = y ∷ later.before;
          behind = later.behind;
          stands = ap (λ (zs : List A). y ∷ zs) later.stands;
          holds = later.holds;
          none_before = λ z k. none later.before later.none_before e z (contains_cases y later.before z k);
        }

pub none_holds : {A : Type 0} (p : A → Bool) (Is : A → Type 0) (xs : List A) → ((y : A) → Contains xs y → Is y → p y ≡ true) → find p xs ≡ None → NoneHolds Is xs
none_holds p Is xs passes h y k holds = true≢false (sym (passes y k holds) ∙ none_passes p xs h y k)

-- a filter that none passes leaves nothing
pub filter_none : {A : Type 0} (p : A → Bool) (xs : List A) → ((x : A) → Contains xs x → p x ≡ false) → filter p xs ≡ []
filter_none {A = A} p [] fails = refl
filter_none {A = A} p (y ∷ ys) fails =
    ap (λ (t : Bool). cond t (y ∷ filter p ys) (filter p ys)) (fails y (contains_first y ys))
    ∙ filter_none p ys (λ x k. fails x (contains_later y ys x k))

-- of a list whose pairs are related the last is the one that is related to no other
pub last_is : {A : Type 0} (R : A → A → Type 0) (xs : List A) (x : A) → AllPairs R xs → Contains xs x
    → ((other : A) → Contains xs other → (other ≡ x) ⊎ (R x other → ⊥)) → last_of xs ≡ Some x
last_is {A = A} R [] x pairs there alone = absurd (contains_nothing x there)
last_is {A = A} R (y ∷ []) x pairs there alone = only (contains_cases y [] x there)
  where
    only : (y ≡ x) ⊎ Contains [] x → last_of (y ∷ []) ≡ Some x
    only (inl e) = ap (λ z. Some z) e
    only (inr k) = absurd (contains_nothing x k)
last_is {A = A} R (y ∷ z ∷ rest) x pairs there alone =
    last_is R (z ∷ rest) x (AllPairs-tail R y (z ∷ rest) pairs) (later (contains_cases y (z ∷ rest) x there)) (λ other k. alone other (contains_later y (z ∷ rest) other k))
  where
    related : R y z
    related = All-head (R y) z rest (AllPairs-head R y (z ∷ rest) pairs)

    moved : y ≡ x → (z ≡ x) ⊎ (R x z → ⊥) → Contains (z ∷ rest) x
    moved e (inl same) = subst (Contains (z ∷ rest)) same (contains_first z rest)
    moved e (inr apart) = absurd (apart (subst (λ w. R w z) e related))

    later : (y ≡ x) ⊎ Contains (z ∷ rest) x → Contains (z ∷ rest) x
    later (inl e) = moved e (alone z (contains_later y (z ∷ rest) z (contains_first z rest)))
    later (inr k) = k
