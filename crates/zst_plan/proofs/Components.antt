-- Where a text stops being a component.
use Rattle.std.proofs.Common.{◌≡◌, ℕ, zero, suc, ◌+◌, ◌<◌, ◌≤◌, min, Bool, true, false, not, ◌&&◌, ◌==◌, nat_lt, List, [], ◌∷◌, ◌++◌, length, take, refl, sym, ◌∙◌, subst, inl, inr, arith, length-append, length-take-le, if◌then◌else◌}
use Rattle.std.proofs.Math.Seq.{take-length}
use Rattle.std.proofs.lemmas.Bool.Decides.{nat_tests, eqb_tells}
use Rattle.std.proofs.lemmas.List.{append-nil}
use Rattle.std.proofs.lemmas.List.Sums.{prefix_len-le-length}
use Rattle.std.proofs.lemmas.List.Elements.{All-nil, All-cons}
use Rattle.std.proofs.lemmas.Str.{IsUtf8-from_ascii}
use Rattle.std.proofs.lemmas.Str.Ascii.{IsAscii-from_all}
use Rattle.std.specs.List.{All, list_all, position_or_len}
use Rattle.std.specs.Str.{IsUtf8}
use Rattle.std.proofs.lemmas.Bool.{and_parts}
use Rattle.zst_names.specs.Names.{is_component_byte, IsComponent, StopsAt}
use Rattle.zst_names.proofs.ComponentBytes.{low_byte}
use Rattle.zst_plan.specs.RecvPlan.{component_stop, is_component}

-- a byte that no component has
abbrev pub is_other : ℕ → Bool
is_other byte = not (is_component_byte byte)

-- the bytes before the first other one are a component's
all_before : (text : List ℕ) (q : ℕ) → q ≤ position_or_len is_other text → list_all is_component_byte (take q text) ≡ true
all_before [] zero le = refl
all_before [] (suc q) le = refl
all_before (byte ∷ text) zero le = refl
all_before (byte ∷ text) (suc q) le = go (is_component_byte byte) refl (all_before text q)
  where
    go : (b : Bool) → is_component_byte byte ≡ b → (q ≤ position_or_len is_other text → list_all is_component_byte (take q text) ≡ true)
        → (is_component_byte byte && list_all is_component_byte (take q text)) ≡ true
    go true e later = rw e (later (omega (arith, rw e at le)))
    go false e later = absurd (omega (arith, rw e at le))

-- and none past it
none_past : (text : List ℕ) (q : ℕ) (rest : List ℕ) → q ≤ length text → list_all is_component_byte (take q text ++ rest) ≡ true → q ≤ position_or_len is_other text
none_past text zero rest le all = omega arith
none_past [] (suc q) rest le all = absurd (omega (arith, le))
none_past (byte ∷ text) (suc q) rest le all =
    let both = and_parts (is_component_byte byte) (list_all is_component_byte (take q text ++ rest)) all in
    let further = none_past text q rest (omega (arith, le)) both.1 in
    rw both.0 (omega (arith, further))

pub stop_inside : (text : List ℕ) → component_stop text ≤ length text
stop_inside [] = omega arith
stop_inside (byte ∷ text) =
    let within = prefix_len-le-length (λ b. not (is_other b)) (byte ∷ text) in
    elim (byte == 45) as (λ t. (if t then 0 else min 64 (position_or_len is_other (byte ∷ text))) ≤ length (byte ∷ text)) [ true ↦ omega arith | false ↦ omega (arith, within) ]

-- up to there it is a component
pub up_to_stop : (text : List ℕ) (q : ℕ) → 0 < q → q ≤ component_stop text → IsComponent (take q text)
up_to_stop text zero some le = absurd (omega (arith, some))
up_to_stop [] (suc q) some le = absurd (omega (arith, le))
up_to_stop (byte ∷ text) (suc q) some le = elim (eqb_tells byte 45) [
  | inl e ↦ absurd (omega (arith, rw e.0 at le))
  | inr e ↦
      let short : suc q ≤ min 64 (position_or_len is_other (byte ∷ text)) = rw e.0 at le in
      let inside : suc q ≤ length (byte ∷ text) = omega (arith, le, stop_inside (byte ∷ text)) in
      let long = length-take-le (suc q) (byte ∷ text) inside in
      record {
        some = omega (arith, long);
        short = omega (arith, long, short);
        bytes = all_before (byte ∷ text) (suc q) (omega (arith, short));
        first = e.1;
      }
]

-- and past it none goes on
pub none_goes_on : (text : List ℕ) (q : ℕ) (rest : List ℕ) → q ≤ length text → IsComponent (take q text ++ rest) → q ≤ component_stop text
none_goes_on text zero rest le name = omega arith
none_goes_on [] (suc q) rest le name = absurd (omega (arith, le))
none_goes_on (byte ∷ text) (suc q) rest le name = elim (eqb_tells byte 45) [
  | inl e ↦ absurd (name.first e.1)
  | inr e ↦
      let bytes = none_past (byte ∷ text) (suc q) rest le name.bytes in
      let long = length-take-le q text (omega (arith, le)) in
      let short = name.short in
      rw e.0 (omega (arith, bytes, long, short, length-append (take q text) rest))
]

-- so it is one exactly where the test says so
pub passes : (text : List ℕ) → IsComponent text → is_component text ≡ true
passes text name =
    let whole : take (length text) text ++ [] ≡ text = append-nil (take (length text) text) ∙ take-length text in
    let high = none_goes_on text (length text) [] (omega arith) (subst IsComponent (sym whole) name) in
    let low = stop_inside text in
    let some = name.some in
    grind (arith, nat_tests)

pub fails : (text : List ℕ) → (IsComponent text → ⊥) → is_component text ≡ false
fails text none = go (nat_lt 0 (length text)) (component_stop text == length text) refl refl
  where
    go : (a b : Bool) → nat_lt 0 (length text) ≡ a → (component_stop text == length text) ≡ b → (a && b) ≡ false
    go false b some whole = refl
    go true false some whole = refl
    go true true some whole =
        let more : 0 < length text = grind (arith, nat_tests) in
        let end : component_stop text ≡ length text = grind (arith, nat_tests) in
        absurd (none (subst IsComponent (take-length text) (up_to_stop text (length text) more (omega (arith, end)))))

-- and it stops where the scan says
pub stops_there : (text : List ℕ) (place : ℕ) → StopsAt IsComponent text place → place ≡ component_stop text
stops_there text place at = elim at.stops [
  | inl h ↦
      let low = none_goes_on text place at.goes.0 (omega (arith, h.0)) at.goes.1 in
      let next : place + 1 ≤ component_stop text → ⊥ =
      λ le. h.1 ([], subst IsComponent (sym (append-nil (take (place + 1) text))) (up_to_stop text (place + 1) (omega arith) le)) in
      omega (arith, low, next)
  | inr h ↦
      let low = none_goes_on text place at.goes.0 (omega (arith, h.0)) at.goes.1 in
      omega (arith, low, h.0, stop_inside text)
]

-- its bytes are ASCII
low_bytes : (text : List ℕ) → list_all is_component_byte text ≡ true → All (λ byte. byte < 128) text
low_bytes [] all = All-nil (λ byte. byte < 128)
low_bytes (byte ∷ text) all =
    let both = and_parts (is_component_byte byte) (list_all is_component_byte text) all in
    All-cons (λ byte. byte < 128) byte text (low_byte byte both.0) (low_bytes text both.1)

pub is_text : (text : List ℕ) → IsComponent text → IsUtf8 text
is_text text name = IsUtf8-from_ascii text (IsAscii-from_all text (low_bytes text name.bytes))
