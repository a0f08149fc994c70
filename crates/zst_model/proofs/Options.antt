-- What tests of options say.
use Rattle.std.proofs.Common.{◌≡◌, true, false, Option, Some, None, is_some, refl, sym}
use Rattle.std.proofs.lemmas.Bool.{true≢false}

-- an option that the test fails is none
pub none_there : {A : Type 0} (o : Option A) → is_some o ≡ false → o ≡ None
none_there None h = refl
none_there (Some x) h = absurd (true≢false h)

-- and one that passes it has something
pub there_is : {A : Type 0} (o : Option A) → is_some o ≡ true → (x : A) × (o ≡ Some x)
there_is None h = absurd (true≢false (sym h))
there_is (Some x) h = (x, refl)
