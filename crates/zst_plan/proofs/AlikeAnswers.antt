-- What two answers that are alike say of each other.
use Rattle.std.proofs.Common.{◌≡◌, ℕ, List, get_or, Option, None, Some, Result, Ok, Err, refl, sym, ap, ◌∙◌, subst}
use Rattle.std.specs.Prelude.{IsErrAnd}
use Rattle.std.proofs.lemmas.List.{get_or_default}
use Rattle.zst_dir.specs.RowNames.{Match}
use Rattle.zst_dir.proofs.Matches.{Match-alike}
use Rattle.zst_model.proofs.Results.{err_is}
use Rattle.zst_plan.specs.Places.{AnswerAlike, FindAlike, StandsAt}

-- what answers alike found and refused
pub ok_alike : {A B E : Type 0} (Is : A → B → Type 0) (x : A) (r : Result B E) → AnswerAlike Is (Ok x) r → (y : B) × (r ≡ Ok y) × Is x y
ok_alike Is x (Ok y) alike = (y, refl, alike)
ok_alike Is x (Err fault) alike = absurd alike

pub err_alike : {A B E : Type 0} (Is : A → B → Type 0) (fault : E) (r : Result B E) → AnswerAlike Is (Err fault) r → r ≡ Err fault
err_alike Is fault (Ok y) alike = absurd alike
err_alike Is fault (Err other) alike = ap (λ f. Err f) (sym alike)

-- both refuse the same
pub both_refuse : {A B E : Type 0} (Is : A → B → Type 0) (result : Result A E) (definition : Result B E) (fault : E) → result ≡ Err fault → definition ≡ Err fault
    → AnswerAlike Is result definition
both_refuse Is result definition fault refused defined =
    subst (λ r. AnswerAlike Is r definition) (sym refused) (subst (λ d. AnswerAlike Is (Err fault) d) (sym defined) refl)

-- an answer that refuses, one that doesn't, and one that is handed on
pub refuses : {A B E : Type 0} (Is : A → B → Type 0) (result : Result A E) (definition : Result B E) (fault : E) → IsErrAnd result (λ e. e ≡ fault) → definition ≡ Err fault
    → AnswerAlike Is result definition
refuses Is result definition fault refused defined = both_refuse Is result definition fault (err_is result fault refused) defined

pub answers : {A B E : Type 0} (Is : A → B → Type 0) (x : A) (y : B) (definition : Result B E) → definition ≡ Ok y → Is x y → AnswerAlike Is (Ok x) definition
answers Is x y definition defined is = subst (AnswerAlike Is (Ok x)) (sym defined) is

pub hands_on : {A B E : Type 0} (Is : A → B → Type 0) (result : Result A E) (definition next : Result B E) → definition ≡ next → AnswerAlike Is result next → AnswerAlike Is result definition
hands_on Is result definition next defined alike = subst (AnswerAlike Is result) (sym defined) alike

-- what is found where nothing is, and where something is
pub none_alike : {A B : Type 0} (Is : A → B → Type 0) (other : Option B) → FindAlike Is None other → other ≡ None
none_alike Is None alike = refl
none_alike Is (Some y) alike = absurd alike

pub some_alike : {A B : Type 0} (Is : A → B → Type 0) (x : A) (other : Option B) → FindAlike Is (Some x) other → (y : B) × (other ≡ Some y) × Is x y
some_alike Is x None alike = absurd alike
some_alike Is x (Some y) alike = (y, refl, alike)

-- what a place has stands for what stands there in the other list
pub at_names : {A B : Type 0} (Is : A → B → Type 0) (rows : List A) (others : List B) (place : ℕ) (row : A) (other : B)
    → Match Is rows others → StandsAt rows others place other → row ≡ get_or rows place row → Is row other
at_names {A = A} Is rows others place row other m at is =
    let same : at.row ≡ row = sym at.is_there ∙ get_or_default rows place at.row row at.below ∙ sym is in
    subst (λ (r : A). Is r other) same (Match-alike Is rows others at.row other m at.alike)
