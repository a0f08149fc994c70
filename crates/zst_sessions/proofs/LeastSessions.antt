-- The least id of the sessions that pass a test, found from the first to the last.
use Rattle.std.proofs.Common.{◌≡◌, ℕ, ◌+◌, ◌<◌, ◌≤◌, Bool, true, false, cond, ◌&&◌, List, [], ◌∷◌, ◌++◌, length, map, filter, get_or, take, Option, Some, None, refl, sym, ap, ◌∙◌, arith}
use Rattle.std.specs.List.{All}
use Rattle.std.proofs.lemmas.List.{take_all, take_more}
use Rattle.std.proofs.lemmas.List.Elements.{All-cons, All-nil}
use Rattle.zst_model.specs.pools.Sessions.{Held, id_of, least_id, lesser}
use Rattle.zst_sessions.specs.SessionHolders.{lesser_of}

-- the lesser of two ids and a third, whichever comes first
lesser-twice : (a b : ℕ) (least : Option ℕ) → lesser a (Some (lesser b least)) ≡ lesser b (Some (lesser a least))
lesser-twice a b None = omega arith
lesser-twice a b (Some c) = omega arith

-- the least id of the elements that pass a test
abbrev pub least_where : {A : Type 0} → (A → ℕ) → (A → Bool) → List A → Option ℕ
least_where id test [] = None
least_where id test (x ∷ rest) = cond (test x) (Some (lesser (id x) (least_where id test rest))) (least_where id test rest)

module _ {A : Type 0} (id : A → ℕ) (test : A → Bool) where
  -- of one more element
  one_more : (xs : List A) (y : A) → least_where id test (xs ++ y ∷ []) ≡ cond (test y) (Some (lesser (id y) (least_where id test xs))) (least_where id test xs)
  one_more [] y = refl
  one_more (x ∷ xs) y = ap (λ (o : Option ℕ). cond (test x) (Some (lesser (id x) o)) o) (one_more xs y) ∙ go (test x) (test y)
    where
      rest : Option ℕ
      rest = least_where id test xs

      go : (s t : Bool) → cond s (Some (lesser (id x) (cond t (Some (lesser (id y) rest)) rest))) (cond t (Some (lesser (id y) rest)) rest)
          ≡ cond t (Some (lesser (id y) (cond s (Some (lesser (id x) rest)) rest))) (cond s (Some (lesser (id x) rest)) rest)
      go true true = ap (λ (n : ℕ). Some n) (lesser-twice (id x) (id y) rest)
      go true false = refl
      go false true = refl
      go false false = refl

  -- of the elements up to a place
  up_to : (xs : List A) (i : ℕ) (x : A) → i < length xs → x ≡ get_or xs i x
      → least_where id test (take (i + 1) xs) ≡ cond (test x) (Some (lesser (id x) (least_where id test (take i xs)))) (least_where id test (take i xs))
  up_to xs i x inside is =
      ap (least_where id test) (take_more xs i x inside) ∙ one_more (take i xs) (get_or xs i x)
      ∙ ap (λ (y : A). cond (test y) (Some (lesser (id y) (least_where id test (take i xs)))) (least_where id test (take i xs))) (sym is)

  pub least-passes : (xs : List A) (i : ℕ) (x : A) (least : Option ℕ) → i < length xs → x ≡ get_or xs i x → test x ≡ true → least ≡ least_where id test (take i xs)
      → Some (lesser (id x) least) ≡ least_where id test (take (i + 1) xs)
  least-passes xs i x least inside is passes so = ap (λ (o : Option ℕ). Some (lesser (id x) o)) so ∙ sym (up_to xs i x inside is ∙ rw passes refl)

  pub least-fails : (xs : List A) (i : ℕ) (x : A) (least : Option ℕ) → i < length xs → x ≡ get_or xs i x → test x ≡ false → least ≡ least_where id test (take i xs)
      → least ≡ least_where id test (take (i + 1) xs)
  least-fails xs i x least inside is fails so = so ∙ sym (up_to xs i x inside is ∙ rw fails refl)

  pub least-all : (xs : List A) (i : ℕ) (least : Option ℕ) → length xs ≤ i → least ≡ least_where id test (take i xs) → least ≡ least_where id test xs
  least-all xs i least all so = so ∙ ap (least_where id test) (take_all i xs all)

  -- where there is none, none passes
  pub none_passes : (xs : List A) → least_where id test xs ≡ None → All (λ x. test x ≡ false) xs
  none_passes [] none = All-nil (λ x. test x ≡ false)
  none_passes (x ∷ xs) none = go (test x) refl (none_passes xs) none
    where
      go : (t : Bool) → test x ≡ t → (least_where id test xs ≡ None → All (λ y. test y ≡ false) xs)
          → cond t (Some (lesser (id x) (least_where id test xs))) (least_where id test xs) ≡ None → All (λ y. test y ≡ false) (x ∷ xs)
      go true is on some = absurd cc
      go false is on rest = All-cons (λ y. test y ≡ false) x xs is (on rest)

-- the least id of those that are kept, as what they hold or claim
pub least_kept : {A : Type 0} (keep : A → Bool) (code : A → Held) (test : Held → Bool) (xs : List A)
    → least_where (λ x. id_of (code x)) (λ x. keep x && test (code x)) xs ≡ least_id test (map code (filter keep xs))
least_kept keep code test [] = refl
least_kept {A = A} keep code test (x ∷ xs) = go (keep x) (least_kept keep code test xs)
  where
    least : Option ℕ
    least = least_where (λ y. id_of (code y)) (λ y. keep y && test (code y)) xs

    go : (k : Bool) → least ≡ least_id test (map code (filter keep xs))
        → cond (k && test (code x)) (Some (lesser (id_of (code x)) least)) least ≡ least_id test (map code (cond k (x ∷ filter keep xs) (filter keep xs)))
    go true before = ap (λ (o : Option ℕ). cond (test (code x)) (Some (lesser (id_of (code x)) o)) o) before
    go false before = before

-- of two lists one after another
pub least-append : (test : Held → Bool) (xs ys : List Held) → least_id test (xs ++ ys) ≡ lesser_of (least_id test xs) (least_id test ys)
least-append test [] ys = refl
least-append test (x ∷ xs) ys = ap (λ (o : Option ℕ). cond (test x) (Some (lesser (id_of x) o)) o) (least-append test xs ys) ∙ go (test x) (least_id test xs) (least_id test ys)
  where
    go : (t : Bool) (a b : Option ℕ) → cond t (Some (lesser (id_of x) (lesser_of a b))) (lesser_of a b) ≡ lesser_of (cond t (Some (lesser (id_of x) a)) a) b
    go true None b = refl
    go true (Some n) None = refl
    go true (Some n) (Some m) = ap (λ (k : ℕ). Some k) (omega arith)
    go false a b = refl

-- where none of them passes there is none
pub least_of_none : {A : Type 0} (code : A → Held) (test : Held → Bool) → ((x : A) → test (code x) ≡ false) → (xs : List A) → least_id test (map code xs) ≡ None
least_of_none code test fails [] = refl
least_of_none code test fails (x ∷ xs) =
    ap (λ (t : Bool). cond t (Some (lesser (id_of (code x)) (least_id test (map code xs)))) (least_id test (map code xs))) (fails x) ∙ least_of_none code test fails xs

-- and the other is the lesser then
pub lesser_of_none : (least other : Option ℕ) → other ≡ None → lesser_of least other ≡ least
lesser_of_none None other is = is
lesser_of_none (Some id) other is = ap (λ (o : Option ℕ). Some (lesser id o)) is

-- tests that answer alike find the same
pub least_alike : (p q : Held → Bool) → ((one : Held) → p one ≡ q one) → (xs : List Held) → least_id p xs ≡ least_id q xs
least_alike p q same [] = refl
least_alike p q same (x ∷ xs) =
    ap (λ (t : Bool). cond t (Some (lesser (id_of x) (least_id p xs))) (least_id p xs)) (same x)
    ∙ ap (λ (o : Option ℕ). cond (q x) (Some (lesser (id_of x) o)) o) (least_alike p q same xs)
