use Rattle.std.proofs.Common.{◌≡◌, ℕ, List, Result, Ok, Err, Some, Bor, MatchResult, sym, subst, ap, ◌∙◌}
use Rattle.std.proofs.lemmas.Str.{IsUtf8-from_ascii}
use Rattle.std.specs.Option.{option_copied}
use Rattle.std.specs.Result.{result_ok}
use Rattle.std.specs.Str.{IsUtf8, IsValidUpTo}
use Rattle.std.specs.Str.{valid_up_to}
use Rattle.zst_dir.proofs.fields.read_str.Goals as goal

-- a text of bytes that are UTF-8
utf8_text : {E : Type 0} (Q : E → Type 0) (r : Result (Bor (List ℕ)) E) (bytes text : List ℕ) → MatchResult r (λ s. (s.now ≡ bytes) × IsUtf8 bytes) (λ e. ¬ (IsUtf8 bytes) × Q e) → bytes ≡ text → IsUtf8 text → option_copied (result_ok r) ≡ Some text
utf8_text Q (Ok s) bytes text cases same valid = ap Some (cases.0 ∙ same)
utf8_text Q (Err e) bytes text cases same valid = absurd (cases.0 (subst IsUtf8 (sym same) valid))

pub returns : goal.returns
returns c = record {
  exact = λ text rest plain is.
      let read = c.in_ok-text.ensures.exact text rest plain.short is in
      let same : c.in_ok-text.field-0.now ≡ text = cc read.0 in
      (ap option_copied c.ok.ensures.value ∙ utf8_text (λ e. IsValidUpTo c.in_ok-text.field-0.now (valid_up_to e)) c.from_utf8.result c.in_ok-text.field-0.now text c.from_utf8.ensures.cases same (IsUtf8-from_ascii text plain.ascii), read.1);
}
