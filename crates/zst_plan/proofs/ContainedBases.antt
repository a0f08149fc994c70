-- What a stream that is contained in a redacted base is for.
use Rattle.std.proofs.Common.{◌≡◌, ⊎_elim, ℕ, ◌+◌, Bool, true, false, not, List, [], ◌∷◌, length, Option, Some, None, All, Contains, bit_and, ◌==◌, refl, sym, ap, ◌∙◌, subst, arith}
use Rattle.std.specs.List.{list_all}
use Rattle.std.proofs.lemmas.Bool.{and_parts, eqb-true, false≢true, lt-ltb, ltb-true, not_from_true, or_cases}
use Rattle.std.proofs.lemmas.List.Elements.{All-cons, All-nil}
use Rattle.zst_model.proofs.InsertedLaws.{contains_first, contains_later}
use Rattle.zst_model.specs.pools.Ancestry.{Source, OfSnapshot, OfBookmark}
use Rattle.zst_model.specs.pools.Pool.{Bookmark}
use Rattle.zst_model.specs.sends.Features.{redacts, sa_spill}
use Rattle.zst_model.specs.sends.Headers.{Sent, features_of, guid_of_source, header_of, redacted_part, redaction_guids, source_guids}
use Rattle.zst_model.specs.sends.SendPlan.{has_guids}
use Rattle.zst_laws.specs.RedactionLists.{IsCovered, ToOne, ByRedaction, BySource}
use Rattle.zst_plan.specs.ContainedBases.{ContainedIsCovered, SendsWhole}
use Rattle.zst_plan.specs.RecvPlan.{is_among, is_redacted}

-- a guid that is found among some is one of them
pub among : (guids : List ℕ) (guid : ℕ) → is_among guids guid ≡ true → Contains guids guid
among [] guid is = absurd (false≢true is)
among (first ∷ rest) guid is = ⊎_elim
    (λ here. subst (Contains (first ∷ rest)) (eqb-true first guid here) (contains_first first rest))
    (λ later. contains_later first rest guid (among rest guid later))
    (or_cases (first == guid) (is_among rest guid) is)

pub all_among : (guids stated : List ℕ) → list_all (is_among guids) stated ≡ true → All (Contains guids) stated
all_among guids [] is = All-nil (Contains guids)
all_among guids (first ∷ rest) is =
    let both = and_parts (is_among guids first) (list_all (is_among guids) rest) is in
    All-cons (Contains guids) first rest (among guids first both.0) (all_among guids rest both.1)

-- whether a stream that states these redaction guids may have REDACT records
abbrev may_redact : List ℕ → Bool
may_redact stated = not (bit_and (redacted_part stated + sa_spill) redacts == 0)

module _ (sent : Sent) (guids : List ℕ) (whole : SendsWhole sent) where
  -- a stream that may have REDACT records has a redaction bookmark
  by_redaction : (redaction : Option Bookmark) → sent.redaction ≡ redaction → is_redacted (header_of sent) ≡ true → list_all (is_among guids) (header_of sent).redact ≡ true → IsCovered sent guids
  unfolding features_of redacts sa_spill
  by_redaction None e is all =
      let none : is_redacted (header_of sent) ≡ false = ap may_redact (ap (redaction_guids sent.snapshot) e ∙ whole.snapshot) in absurd (false≢true (sym none ∙ is))
  by_redaction (Some bookmark) e is all = ByRedaction bookmark e (all_among guids bookmark.redact (rw e at all))

  -- and one that states the guids of its source is from a redaction bookmark
  by_source : (source : Source) → sent.source ≡ Some source → has_guids (header_of sent).from_redact ≡ true → list_all (is_among guids) (header_of sent).from_redact ≡ true → IsCovered sent guids
  by_source (OfSnapshot snapshot) e some all =
      let none : has_guids (header_of sent).from_redact ≡ false =
      ap (λ (o : Option Source). has_guids (source_guids o)) e ∙ ap (λ (stated : List ℕ). has_guids stated) (whole.source snapshot e) in
      absurd (false≢true (sym none ∙ some))
  by_source (OfBookmark bookmark) e some all = BySource bookmark e (ltb-true 0 (length bookmark.redact) (rw e at some)) (all_among guids bookmark.redact (rw e at all))

-- each case of the test is one of these, for a base that has guids and a stream that isn't full
pub contained_covers : ContainedIsCovered
contained_covers sent source guids whole e guid some is = ⊎_elim
    (λ none. absurd (false≢true (sym (not_from_true (has_guids guids) (lt-ltb 0 (length guids) some)) ∙ none)))
    (λ rest. ⊎_elim
    (λ full. let from : (header_of sent).from ≡ guid_of_source source = rw e refl in let zero = eqb-true (header_of sent).from 0 full in absurd (omega arith))
    (λ more. ⊎_elim
    (λ to. ToOne (among guids sent.snapshot.guid to))
    (λ last. ⊎_elim
    (λ redaction. let both = and_parts (is_redacted (header_of sent)) _ redaction in by_redaction sent guids whole sent.redaction refl both.0 both.1)
    (λ from. let both = and_parts (has_guids (header_of sent).from_redact) _ from in by_source sent guids whole source e both.0 both.1)
    (or_cases _ _ last))
    (or_cases _ _ more))
    (or_cases _ _ rest))
    (or_cases _ _ is)
