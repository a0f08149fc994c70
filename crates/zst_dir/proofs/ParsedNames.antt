-- Names that are read from a text which may be empty, and what parsing a text gives.
use Rattle.std.proofs.Common.{◌≡◌, ℕ, true, false, ◌==◌, List, [], ◌∷◌, length, Option, Some, None, Result, Ok, Err, IsOk, IfOk, IfSome, refl, sym, subst, ap, ◌∙◌, arith}
use Rattle.std.proofs.lemmas.Bool.{eqb-true, eqb-false}
use Rattle.std.specs.Result.{result_ok}
use Rattle.zst_bytes.specs.Words.{text_bytes}
use Rattle.zst_names.specs.Names.{IsSnapshot}
use Rattle.zst_dir.specs.RowReads.{IsPlain}
use Rattle.zst_dir.specs.Spelling.{name_bytes}
use Rattle.zst_dir.proofs.Texts.{plain_snapshot, plain_empty}

-- a text that is a name is parsed as that name
pub result_ok-parsed : {E : Type 0} (parsed : Result (List ℕ) E) (text value : List ℕ) → IfOk parsed (λ name. name ≡ text) → IsOk parsed → text ≡ value → result_ok parsed ≡ Some value
result_ok-parsed (Ok name) text value same fine is = ap Some (same ∙ is)
result_ok-parsed (Err fault) text value same fine is = cc

-- the text of a name, empty where there is none
abbrev pub text_of : Option (List ℕ) → List ℕ
text_of None = []
text_of (Some name) = name

pub spelled : (name : Option (List ℕ)) → name_bytes name ≡ text_bytes (text_of name)
spelled None = refl
spelled (Some name) = refl

pub plain_text_of : (name : Option (List ℕ)) → IfSome name IsSnapshot → IsPlain (text_of name)
plain_text_of None whole = plain_empty
plain_text_of (Some name) whole = plain_snapshot name whole

-- an empty text is no name
pub none_where_empty : (name : Option (List ℕ)) (text : List ℕ) → IfSome name IsSnapshot → text ≡ text_of name → (length text == 0) ≡ true → None ≡ name
none_where_empty None text whole is empty = refl
none_where_empty (Some []) text whole is empty = absurd (omega (arith, whole.1.some))
none_where_empty (Some (byte ∷ name)) text whole is empty = absurd (omega (arith, eqb-true (length text) 0 empty, ap length is))

-- another text is one
pub some_where_not : (name : Option (List ℕ)) (text : List ℕ) → IfSome name IsSnapshot → text ≡ text_of name → (length text == 0) ≡ false → IsSnapshot text × (name ≡ Some text)
some_where_not None text whole is some = absurd (eqb-false (length text) 0 some (ap length is))
some_where_not (Some name) text whole is some = (subst IsSnapshot (sym is) whole, ap Some (sym is))
