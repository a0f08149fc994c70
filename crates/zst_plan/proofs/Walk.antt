-- The walk from origin to origin.
use Rattle.std.proofs.Common.{◌≡◌, ℕ, zero, suc, ◌<◌, ◌≤◌, Bool, true, false, ◌||◌, if◌then◌else◌, nat_lt, Option, Some, None, refl, sym, ap, ◌∙◌, arith}
use Rattle.std.specs.Option.{option_and_then, option_map_or}
use Rattle.std.proofs.lemmas.Bool.Decides.{nat_tests}
use Rattle.zst_model.specs.pools.Ancestry.{Source}
use Rattle.zst_model.specs.pools.Pool.{Pool, Snapshot}
use Rattle.zst_model.specs.sends.SendPlan.{comes_before, earlier_origin, is_before_in, is_earlier, marks, origin_of}

-- an origin is gone on to only where its number is below
abbrev pub below : Snapshot → Option Snapshot → Option Snapshot
below later o = option_and_then (λ origin. if nat_lt origin.number later.number then Some origin else None) o

-- tests that answer alike of lesser numbers answer alike of the origin
same_tests : (later : Snapshot) (f g : Snapshot → Bool) → ((o : Snapshot) → o.number < later.number → f o ≡ g o) → (o : Option Snapshot)
    → option_map_or f (below later o) false ≡ option_map_or g (below later o) false
same_tests later f g same None = refl
same_tests later f g same (Some origin) = go (nat_lt origin.number later.number) refl
  where
    go : (b : Bool) → nat_lt origin.number later.number ≡ b → option_map_or f (if b then Some origin else None) false ≡ option_map_or g (if b then Some origin else None) false
    go true e = same origin (grind (e, nat_tests, arith))
    go false e = refl

-- none has a number below 0
none_below : (later : Snapshot) → later.number ≤ 0 → (f : Snapshot → Bool) (o : Option Snapshot) → option_map_or f (below later o) false ≡ false
none_below later least f None = refl
none_below later least f (Some origin) = go (nat_lt origin.number later.number) refl
  where
    go : (b : Bool) → nat_lt origin.number later.number ≡ b → option_map_or f (if b then Some origin else None) false ≡ false
    go true e = let less : origin.number < later.number = grind (e, nat_tests, arith) in absurd (omega (arith, less, least))
    go false e = refl

or_false : (b : Bool) → (b || false) ≡ b
or_false true = refl
or_false false = refl

module _ (pool : Pool) (source : Source) where
  -- as many steps as the snapshot's number are enough
  enough : (d e : ℕ) (later : Snapshot) → later.number ≤ d → later.number ≤ e → is_before_in d pool source later ≡ is_before_in e pool source later
  unfolding is_before_in
  enough zero zero later least most = refl
  enough zero (suc e) later least most =
      sym (ap (λ b. is_earlier source later || b) (none_below later least (λ origin. marks source origin || is_before_in e pool source origin) (origin_of pool later)) ∙ or_false (is_earlier source later))
  enough (suc d) zero later most least =
      ap (λ b. is_earlier source later || b) (none_below later least (λ origin. marks source origin || is_before_in d pool source origin) (origin_of pool later)) ∙ or_false (is_earlier source later)
  enough (suc d) (suc e) later least most =
      ap (λ b. is_earlier source later || b)
      (same_tests later (λ origin. marks source origin || is_before_in d pool source origin) (λ origin. marks source origin || is_before_in e pool source origin)
      (λ origin less. ap (λ b. marks source origin || b) (enough d e origin (omega (arith, less, least)) (omega (arith, less, most)))) (origin_of pool later))

  -- so the test goes on to the origin
  goes_on : (later : Snapshot) → comes_before pool source later
      ≡ (is_earlier source later || option_map_or (λ origin. marks source origin || comes_before pool source origin) (earlier_origin pool later) false)
  unfolding is_before_in
  goes_on later =
      enough later.number (suc later.number) later (omega arith) (omega arith)
      ∙ ap (λ b. is_earlier source later || b)
      (same_tests later (λ origin. marks source origin || is_before_in later.number pool source origin) (λ origin. marks source origin || comes_before pool source origin)
      (λ origin less. ap (λ b. marks source origin || b) (enough later.number origin.number origin (omega (arith, less)) (omega arith))) (origin_of pool later))

  -- past an origin that the source doesn't mark, where it isn't earlier
  pub walks_on : (later origin : Snapshot) → earlier_origin pool later ≡ Some origin → is_earlier source later ≡ false → marks source origin ≡ false
      → comes_before pool source later ≡ comes_before pool source origin
  walks_on later origin next not_earlier not_marks =
      goes_on later ∙ ap (λ b. b || option_map_or (λ o. marks source o || comes_before pool source o) (earlier_origin pool later) false) not_earlier
      ∙ ap (λ o. option_map_or (λ o. marks source o || comes_before pool source o) o false) next
      ∙ ap (λ b. b || comes_before pool source origin) not_marks

  -- it ends where the source is earlier or marks the origin
  pub walk_finds : (later origin : Snapshot) → earlier_origin pool later ≡ Some origin → (is_earlier source later || marks source origin) ≡ true
      → comes_before pool source later ≡ true
  walk_finds later origin next h =
      goes_on later ∙ ap (λ o. is_earlier source later || option_map_or (λ o. marks source o || comes_before pool source o) o false) next
      ∙ either (is_earlier source later) (marks source origin) (comes_before pool source origin) h
    where
      either : (a b c : Bool) → (a || b) ≡ true → (a || (b || c)) ≡ true
      either true b c h = refl
      either false true c h = refl
      either false false c h = absurd (cc)

  -- and where there is no such origin
  pub walk_ends : (later : Snapshot) → earlier_origin pool later ≡ None → comes_before pool source later ≡ is_earlier source later
  walk_ends later none =
      goes_on later ∙ ap (λ o. is_earlier source later || option_map_or (λ o. marks source o || comes_before pool source o) o false) none ∙ or_false (is_earlier source later)
