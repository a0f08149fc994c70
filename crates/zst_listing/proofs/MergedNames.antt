-- Names in order, and targets put between them one after another, or each in its place.
use Rattle.std.proofs.Common.{◌≡◌, ℕ, suc, ◌<◌, Bool, true, false, List, [], ◌∷◌, ◌++◌, length, get_or, take, drop, filter, if◌then◌else◌, refl, sym, ap, ◌∙◌, arith}
use Rattle.std.specs.List.{AllPairs, position_or_len}
use Rattle.std.proofs.lemmas.Bool.{true≢false, false_from_ne_true}
use Rattle.std.proofs.lemmas.List.Elements.{All-filter}
use Rattle.zst_model.specs.pools.Pool.{is_before, inserted}
use Rattle.zst_model.proofs.InsertedLaws.{AllPairs-head, AllPairs-tail}
use Rattle.zst_model.proofs.OrderLaws.{before_trans}

-- the place of the first name that this one stands before, or the end
abbrev pub place_among : List ℕ → List (List ℕ) → ℕ
place_among name names = position_or_len (λ other. is_before name other) names

-- names, and between them the targets of which the test holds
abbrev pub merged : (List ℕ → Bool) → List (List ℕ) → List (List ℕ) → List (List ℕ)
merged test [] names = names
merged test (target ∷ rest) names =
    take (place_among target names) names
    ++ ((if test target then target ∷ [] else [])
    ++ merged test rest (drop (place_among target names) names))

-- each of the names put in its place among the others
abbrev pub with_names : List (List ℕ) → List (List ℕ) → List (List ℕ)
with_names [] names = names
with_names (name ∷ rest) names = inserted is_before name (with_names rest names)

-- a name passes over those that it doesn't stand before
inserted-over : (target name : List ℕ) (names : List (List ℕ)) → is_before target name ≡ false → inserted is_before target (name ∷ names) ≡ name ∷ inserted is_before target names
unfolding inserted
inserted-over target name names e = rw e refl

-- a name stands in front of those of which it stands before the first
inserted-front : (target name : List ℕ) (names : List (List ℕ)) → is_before target name ≡ true → inserted is_before target (name ∷ names) ≡ target ∷ name ∷ names
unfolding inserted
inserted-front target name names e = rw e refl

inserted-none : (target : List ℕ) → inserted is_before target [] ≡ target ∷ []
unfolding inserted
inserted-none target = refl

-- later names than a target, which pass over what the target passes over
abbrev pub Later : List ℕ → List (List ℕ) → Type 0
Later target rest = (k : ℕ) (d : List ℕ) → k < length rest → is_before target (get_or rest k d) ≡ true

later_first : (target name : List ℕ) (rest : List (List ℕ)) → Later target (name ∷ rest) → is_before target name ≡ true
later_first target name rest h = h 0 name (omega arith)

later_rest : (target name : List ℕ) (rest : List (List ℕ)) → Later target (name ∷ rest) → Later target rest
later_rest target name rest h k d below = h (suc k) d (omega (arith, below))

-- what doesn't stand before a name, its successors neither
passes : (target later name : List ℕ) → is_before target later ≡ true → is_before target name ≡ false → is_before later name ≡ false
passes target later name h out = false_from_ne_true (is_before later name) (λ k. true≢false (sym (before_trans target later name h k) ∙ out))

-- later names pass over a name that the target passes over
with_names-over : (target name : List ℕ) (rest names : List (List ℕ)) → is_before target name ≡ false → Later target rest
    → with_names rest (name ∷ names) ≡ name ∷ with_names rest names
with_names-over target name [] names out later = refl
with_names-over target name (other ∷ rest) names out later =
    ap (inserted is_before other) (with_names-over target name rest names out (later_rest target other rest later))
    ∙ inserted-over other name (with_names rest names) (passes target other name (later_first target other rest later) out)

-- a target stands before the first of what is there with later names put in
abbrev pub Before : List ℕ → List (List ℕ) → Type 0
Before target [] = Unit {0}
Before target (name ∷ names) = is_before target name ≡ true

before_inserted : (target other : List ℕ) (names : List (List ℕ)) → is_before target other ≡ true → Before target names → Before target (inserted is_before other names)
unfolding inserted
before_inserted target other [] h before = h
before_inserted target other (name ∷ names) h before = go (is_before other name)
  where
    go : (t : Bool) → Before target (if t then other ∷ name ∷ names else name ∷ inserted is_before other names)
    go true = h
    go false = before

before_with_names : (target : List ℕ) (rest names : List (List ℕ)) → Later target rest → Before target names → Before target (with_names rest names)
before_with_names target [] names later before = before
before_with_names target (other ∷ rest) names later before =
    before_inserted target other (with_names rest names) (later_first target other rest later) (before_with_names target rest names (later_rest target other rest later) before)

inserted-before : (target : List ℕ) (names : List (List ℕ)) → Before target names → inserted is_before target names ≡ target ∷ names
inserted-before target [] before = inserted-none target
inserted-before target (name ∷ names) before = inserted-front target name names before

-- the place is the first, or one more than that among the others
place-first : (target name : List ℕ) (names : List (List ℕ)) → is_before target name ≡ true → place_among target (name ∷ names) ≡ 0
place-first target name names e = rw e refl

place-later : (target name : List ℕ) (names : List (List ℕ)) → is_before target name ≡ false → place_among target (name ∷ names) ≡ suc (place_among target names)
place-later target name names e = rw e (omega arith)

-- the front of the names, with the target and the later names behind it
abbrev pub parted : (target : List ℕ) (middle : List (List ℕ)) (rest names : List (List ℕ)) → List (List ℕ)
parted target middle rest names = take (place_among target names) names ++ (middle ++ with_names rest (drop (place_among target names) names))

parted-first : (target : List ℕ) (middle : List (List ℕ)) (rest : List (List ℕ)) (name : List ℕ) (names : List (List ℕ)) → is_before target name ≡ true
    → parted target middle rest (name ∷ names) ≡ middle ++ with_names rest (name ∷ names)
parted-first target middle rest name names e = rw (place-first target name names e) refl

parted-later : (target : List ℕ) (middle : List (List ℕ)) (rest : List (List ℕ)) (name : List ℕ) (names : List (List ℕ)) → is_before target name ≡ false
    → parted target middle rest (name ∷ names) ≡ name ∷ parted target middle rest names
parted-later target middle rest name names e = rw (place-later target name names e) refl

-- later names stand behind the front
with_names-parted : (target : List ℕ) (rest names : List (List ℕ)) → Later target rest → with_names rest names ≡ parted target [] rest names
with_names-parted target rest [] later = refl
with_names-parted target rest (name ∷ names) later = go (is_before target name) refl (with_names-parted target rest names later)
  where
    go : (t : Bool) → is_before target name ≡ t → with_names rest names ≡ parted target [] rest names → with_names rest (name ∷ names) ≡ parted target [] rest (name ∷ names)
    go true e inner = sym (parted-first target [] rest name names e)
    go false e inner = with_names-over target name rest names e later ∙ ap (λ (l : List (List ℕ)). name ∷ l) inner ∙ sym (parted-later target [] rest name names e)

-- so does the target, before them
inserted-parted : (target : List ℕ) (rest names : List (List ℕ)) → Later target rest → inserted is_before target (with_names rest names) ≡ parted target (target ∷ []) rest names
inserted-parted target rest [] later = inserted-before target (with_names rest []) (before_with_names target rest [] later tt)
inserted-parted target rest (name ∷ names) later = go (is_before target name) refl (inserted-parted target rest names later)
  where
    go : (t : Bool) → is_before target name ≡ t → inserted is_before target (with_names rest names) ≡ parted target (target ∷ []) rest names
        → inserted is_before target (with_names rest (name ∷ names)) ≡ parted target (target ∷ []) rest (name ∷ names)
    go true e inner = inserted-before target (with_names rest (name ∷ names)) (before_with_names target rest (name ∷ names) later e) ∙ sym (parted-first target (target ∷ []) rest name names e)
    go false e inner =
        ap (inserted is_before target) (with_names-over target name rest names e later)
        ∙ inserted-over target name (with_names rest names) e
        ∙ ap (λ (l : List (List ℕ)). name ∷ l) inner
        ∙ sym (parted-later target (target ∷ []) rest name names e)

later_filter : (test : List ℕ → Bool) (target : List ℕ) (rest : List (List ℕ)) → Later target rest → Later target (filter test rest)
later_filter test target rest later = λ k d below. All-filter test (λ name. is_before target name ≡ true) rest (λ j e inside. later j e inside) k d below

-- targets in order, put between the names one after another, stand each in its place
pub merged-places : (test : List ℕ → Bool) (targets names : List (List ℕ)) → AllPairs (λ a b. is_before a b ≡ true) targets
    → merged test targets names ≡ with_names (filter test targets) names
merged-places test [] names ordered = refl
merged-places test (target ∷ rest) names ordered =
    go (test target) refl (merged-places test rest (drop (place_among target names) names) (AllPairs-tail (λ a b. is_before a b ≡ true) target rest ordered))
  where
    later : Later target (filter test rest)
    later = later_filter test target rest (AllPairs-head (λ a b. is_before a b ≡ true) target rest ordered)

    behind : List (List ℕ)
    behind = drop (place_among target names) names

    go : (t : Bool) → test target ≡ t → merged test rest behind ≡ with_names (filter test rest) behind → merged test (target ∷ rest) names ≡ with_names (filter test (target ∷ rest)) names
    go true e inner = rw (e, inner) (sym (inserted-parted target (filter test rest) names later))
    go false e inner = rw (e, inner) (sym (with_names-parted target (filter test rest) names later))
