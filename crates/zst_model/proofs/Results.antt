-- What a result is where it is done, and where a refusal was handed on.
use Rattle.std.proofs.Common.{◌≡◌, ℕ, Bool, true, false, Result, Ok, Err, refl, ap}
use Rattle.std.specs.Prelude.{IsErrAnd}
use Rattle.zst_model.specs.declared.refusals.apply_fault.ApplyFault.{ApplyFault}
use Rattle.zst_model.specs.sends.ReceivedRecords.{of_record}
use Rattle.zst_model.specs.states.AppliedItems.{unless, ◌>>=◌}

-- what is done in one way is one
pub ok_parts : {A E : Type 0} (x y : A) → ◌≡◌ {A = Result A E} (Ok x) (Ok y) → x ≡ y
ok_parts x y h = cc

-- what is only handed on stays
pub bind-ok : {A E : Type 0} (r : Result A E) → (r >>= λ x. Ok x) ≡ r
bind-ok (Ok x) = refl
bind-ok (Err fault) = refl

-- what is done in two steps is done in each
pub bind_ok : {A B E : Type 0} (r : Result A E) (next : A → Result B E) (y : B) → (r >>= next) ≡ Ok y → (x : A) × (r ≡ Ok x) × (next x ≡ Ok y)
bind_ok (Ok x) next y h = (x, refl, h)
bind_ok (Err fault) next y h = absurd (cc)

-- and what is done behind a test failed it
pub unless_ok : {A E : Type 0} (test : Bool) (fault : E) (rest : Result A E) (x : A) → unless test fault rest ≡ Ok x → (test ≡ false) × (rest ≡ Ok x)
unless_ok true fault rest x h = absurd (cc)
unless_ok false fault rest x h = (refl, h)

-- a record that was accepted can be applied
pub of_record_ok : {A : Type 0} (index : ℕ) (r : Result A ApplyFault) (x : A) → of_record index r ≡ Ok x → r ≡ Ok x
of_record_ok index (Ok made) x h = ap (λ y. Ok y) (ok_parts made x h)
of_record_ok index (Err fault) x h = absurd (cc)

-- a refusal that was handed on
pub err_is : {T E : Type 0} (result : Result T E) (fault : E) → IsErrAnd result (λ e. e ≡ fault) → result ≡ Err fault
err_is (Ok x) fault h = absurd h
err_is (Err e) fault h = ap (λ f. Err f) h
