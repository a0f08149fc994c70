-- What holds of each head that the checks of a record let pass.
use Rattle.std.proofs.Common.{◌≡◌, ℕ, Bool, true, false, cond, List, Option, Some, None, Ok, Err, refl, subst}
use Rattle.zst_model.specs.declared.sends.header.Header.{Header}
use Rattle.zst_model.specs.declared.refusals.stream_fault.StreamFault.{StreamFault}
use Rattle.zst_record.specs.declared.head.Head.{Head}
use Rattle.zst_record.specs.Decoding.{Decoded, check, named}

-- what holds of each head that is answered
abbrev pub Gives : (Head → Type 0) → Decoded → Type 0
Gives P d = (head : Head) → d ≡ Ok head → P head

abbrev answer : Head → Decoded
answer head = Ok head

pub gives-err : (P : Head → Type 0) (f : StreamFault) → Gives P (Err f)
gives-err P f head e = absurd cc

ok-is : (one other : Head) → answer one ≡ answer other → one ≡ other
ok-is one other e = cc

pub gives-ok : (P : Head → Type 0) (head : Head) → P head → Gives P (Ok head)
gives-ok P head h other e = subst P (ok-is head other e) h

pub gives-check : (P : Head → Type 0) (b : Bool) (f : StreamFault) (next : Decoded) → (b ≡ true → Gives P next) → Gives P (check b f next)
gives-check P true f next h = h refl
gives-check P false f next h = gives-err P f

pub gives-if : (P : Head → Type 0) (b : Bool) (x y : Decoded) → Gives P x → Gives P y → Gives P (cond b x y)
gives-if P true x y h g = h
gives-if P false x y h g = g

pub gives-named : (P : Head → Type 0) (next : Header → Decoded) (make : List ℕ → Header) (field : Option (List ℕ)) → ((name : List ℕ) → field ≡ Some name → Gives P (next (make name)))
    → Gives P (named next make field)
unfolding named
gives-named P next make None h = gives-err P _
gives-named P next make (Some name) h = h name refl
