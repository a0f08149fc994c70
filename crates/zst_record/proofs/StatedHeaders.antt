-- A header that fits a BEGIN without a payload can be stated.
use Rattle.std.proofs.Common.{◌≡◌, inl, inr, ℕ, ◌+◌, ◌^◌, ◌<◌, ◌==◌, ◌||◌, true, false, List, [], length, None, Option, Some, get_or, refl, sym, ap, ◌∙◌, subst, arith}
use Rattle.std.specs.Int.Bits.{and_zero_l}
use Rattle.std.specs.List.{Contains, position_or_len}
use Rattle.std.specs.Prelude.{bit_and}
use Rattle.std.proofs.lemmas.Bool.{cases_eq, ne_eqb, eqb-true, eqb-false, not-false}
use Rattle.std.proofs.lemmas.List.Elements.{All-nil}
use Rattle.std.proofs.lemmas.List.Sums.{fails_before_first}
use Rattle.std.proofs.lemmas.Nat.{and_assoc}
use Rattle.zst_model.specs.declared.sends.header.Header.{Header}
use Rattle.zst_model.specs.declared.sends.header.Point.{Point}
use Rattle.zst_model.specs.fields.Guids.{IsGuidSet}
use Rattle.zst_model.specs.pools.Pool.{IsKind, IsStated}
use Rattle.zst_model.specs.sends.Features.{redacts, resuming}
use Rattle.zst_model.specs.states.State.{AreBytes}
use Rattle.zst_record.specs.Decoding.{needs_payload}
use Rattle.zst_record.specs.RecordValues.{BeginFits}
use Rattle.zst_record.specs.Payload.{StatesPayload, StatesResume, bare}

kind-is : (kind : ℕ) → ((kind == 2) || (kind == 3)) ≡ true → IsKind kind
kind-is kind is =
    elim (cases_eq kind 2) [
      | inl two ↦ inl two
      | inr other ↦ inr (eqb-true kind 3 (rw (ne_eqb kind 2 other) at is))
    ]

guid-some : (guid : ℕ) → (guid == 0) ≡ false → 0 < guid
guid-some guid there =
    elim (cases_eq guid 0) [
      | inl none ↦ absurd (eqb-false guid 0 there none)
      | inr some ↦ omega arith
    ]

no_zero-name : (name : List ℕ) → position_or_len (λ b. b == 0) name ≡ length name → ¬ (Contains name 0)
no_zero-name name none there =
    let fails : (get_or name there.0 0 == 0) ≡ false = fails_before_first (λ (b : ℕ). b == 0) name there.0 0 (omega (arith, there.1, none)) in
    eqb-false (get_or name there.0 0) 0 fails there.2

pub no_guids : IsGuidSet []
no_guids = record { few = omega arith; rising = refl; fit = All-nil (λ guid. guid < 2 ^ 64) }

-- a stream that needs no payload is neither resumed nor redacted
pub not-resumed : (features : ℕ) → needs_payload features ≡ false → bit_and features resuming ≡ 0
unfolding needs_payload redacts resuming
not-resumed features none =
    let mask : bit_and features (2 ^ 20 + 2 ^ 21) ≡ 0 = eqb-true _ 0 (not-false _ none) in
    sym (and_assoc (2 ^ 20) features (2 ^ 20 + 2 ^ 21)) ∙ ap (λ (n : ℕ). bit_and n (2 ^ 20)) mask ∙ and_zero_l (2 ^ 20)

pub not-redacted : (features : ℕ) → needs_payload features ≡ false → bit_and features redacts ≡ 0
unfolding needs_payload redacts resuming
not-redacted features none =
    let mask : bit_and features (2 ^ 20 + 2 ^ 21) ≡ 0 = eqb-true _ 0 (not-false _ none) in
    sym (and_assoc (2 ^ 21) features (2 ^ 20 + 2 ^ 21)) ∙ ap (λ (n : ℕ). bit_and n (2 ^ 21)) mask ∙ and_zero_l (2 ^ 21)

no_point : (features : ℕ) (resume : Option Point) → StatesResume features resume → bit_and features resuming ≡ 0 → resume ≡ None
no_point features None states none = refl
no_point features (Some point) states none = absurd (eqb-false (bit_and features resuming) 0 states.resumed none)

-- a header that BEGIN states with its payload, in a stream that isn't resumed
pub said-stated : (header said : Header) (len : ℕ) → BeginFits header len → AreBytes header.name → bare said ≡ header → StatesPayload said → bit_and said.features resuming ≡ 0 → IsStated said
unfolding bare
said-stated header said len fits all same states none =
    let f : BeginFits (bare said) len = subst (λ (h : Header). BeginFits h len) (sym same) fits in
    let short = f.name in
    record {
      kind = kind-is said.kind f.kind;
      flags = f.flags;
      features = f.features;
      time = f.time;
      to = (guid-some said.to f.to_there, f.to);
      from = f.from;
      name = record { short = omega arith; bytes = subst AreBytes (sym (ap (λ (h : Header). h.name) same)) all; no_zero = no_zero-name said.name f.no_zero };
      redact = states.redact;
      from_redact = states.from_redact;
      resume = no_point said.features said.resume states.resume none;
      unresumed = none;
      redacted = states.redacted;
      source = states.source;
    }

pub begin-stated : (header : Header) → BeginFits header 0 → AreBytes header.name → IsStated header
begin-stated header f all =
    let none = f.stated refl in
    let short = f.name in
    record {
      kind = kind-is header.kind f.kind;
      flags = f.flags;
      features = f.features;
      time = f.time;
      to = (guid-some header.to f.to_there, f.to);
      from = f.from;
      name = record { short = omega arith; bytes = all; no_zero = no_zero-name header.name f.no_zero };
      redact = subst IsGuidSet (sym f.no_redact) no_guids;
      from_redact = subst IsGuidSet (sym f.no_from_redact) no_guids;
      resume = f.no_resume;
      unresumed = not-resumed header.features none;
      redacted = ap (λ (n : ℕ). n == 0) (not-redacted header.features none) ∙ sym (ap (λ (l : List ℕ). length l == 0) f.no_redact);
      source = λ some. absurd (omega (arith, some, ap (λ (l : List ℕ). length l) f.no_from_redact));
    }
