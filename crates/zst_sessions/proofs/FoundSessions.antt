-- Sessions that are found by their ids in changed lists.
use Rattle.std.proofs.Common.{◌≡◌, ◌<◌, ℕ, zero, suc, Bool, true, false, List, [], ◌∷◌, ◌++◌, length, get_or, map, find, Option, Some, refl, sym, ap, ◌∙◌, cond, ◌==◌, eqb-true, if◌then◌else◌, arith}
use Rattle.std.specs.List.{position}
use Rattle.std.proofs.lemmas.List.Quantifiers.{position-Some}
use Rattle.zst_sessions.specs.World.{OpenSend}

-- the first one that a test passes is found
first_there : {A : Type 0} (test : A → Bool) (d : A) (xs : List A) (i : ℕ) → i < length xs → test (get_or xs i d) ≡ true → ((k : ℕ) → k < i → test (get_or xs k d) ≡ false) → find test xs ≡ Some (get_or xs i d)
first_there test d [] i below here before = absurd (omega (arith, below))
first_there test d (x ∷ xs) zero below here before = ap (λ (t : Bool). cond t (Some x) (find test xs)) here
first_there test d (x ∷ xs) (suc i) below here before =
    ap (λ (t : Bool). cond t (Some x) (find test xs)) (before 0 (omega arith))
    ∙ first_there test d xs i (omega (arith, below)) here (λ k lt. before (suc k) (omega (arith, lt)))

pub found_there : {A : Type 0} (test : A → Bool) (xs : List A) (place : ℕ) (x : A) → position test xs ≡ Some place → get_or xs place x ≡ x → find test xs ≡ Some x
found_there test xs place x is at =
    let first = position-Some test xs place x is in
    first_there test x xs place first.0 first.1 first.2 ∙ ap (λ (y : _). Some y) at

-- one that is found is found in a longer list too
pub found_front : {A : Type 0} (test : A → Bool) (xs ys : List A) (x : A) → find test xs ≡ Some x → find test (xs ++ ys) ≡ Some x
found_front test [] ys x e = absurd cc
found_front test (a ∷ xs) ys x e = go (test a) e (found_front test xs ys x)
  where
    go : (t : Bool) → cond t (Some a) (find test xs) ≡ Some x → (find test xs ≡ Some x → find test (xs ++ ys) ≡ Some x) → cond t (Some a) (find test (xs ++ ys)) ≡ Some x
    go true e on = e
    go false e on = on e

module _ (put : OpenSend) where
  abbrev pub placed : OpenSend → OpenSend
  placed one = if one.id == put.id then put else one

  -- one in place of that with its id is found by that
  pub found_put : (sends : List OpenSend) (one : OpenSend) → find (λ send. send.id == put.id) sends ≡ Some one → find (λ send. send.id == put.id) (map placed sends) ≡ Some put
  found_put [] one e = absurd cc
  found_put (a ∷ rest) one e = go (a.id == put.id) refl e (found_put rest one)
    where
      own : (put.id == put.id) ≡ true
      own = grind arith

      go : (t : Bool) → (a.id == put.id) ≡ t → cond t (Some a) (find (λ send. send.id == put.id) rest) ≡ Some one
          → (find (λ send. send.id == put.id) rest ≡ Some one → find (λ send. send.id == put.id) (map placed rest) ≡ Some put)
          → find (λ send. send.id == put.id) (cond t put a ∷ map placed rest) ≡ Some put
      go true is e on = ap (λ (t : Bool). cond t (Some put) (find (λ send. send.id == put.id) (map placed rest))) own
      go false is e on = ap (λ (t : Bool). cond t (Some a) (find (λ send. send.id == put.id) (map placed rest))) is ∙ on e

  -- and all others are as before
  pub found_other : (sends : List OpenSend) (id : ℕ) → (put.id == id) ≡ false → find (λ send. send.id == id) (map placed sends) ≡ find (λ send. send.id == id) sends
  found_other [] id differs = refl
  found_other (a ∷ rest) id differs = go (a.id == put.id) refl (found_other rest id differs)
    where
      go : (t : Bool) → (a.id == put.id) ≡ t → find (λ send. send.id == id) (map placed rest) ≡ find (λ send. send.id == id) rest
          → find (λ send. send.id == id) (cond t put a ∷ map placed rest) ≡ find (λ send. send.id == id) (a ∷ rest)
      go true is more =
          ap (λ (t : Bool). cond t (Some put) (find (λ send. send.id == id) (map placed rest))) differs ∙ more
          ∙ sym (ap (λ (n : ℕ). cond (n == id) (Some a) (find (λ send. send.id == id) rest)) (eqb-true a.id put.id is) ∙ ap (λ (t : Bool). cond t (Some a) (find (λ send. send.id == id) rest)) differs)
      go false is more = ap (λ (o : Option OpenSend). cond (a.id == id) (Some a) o) more
