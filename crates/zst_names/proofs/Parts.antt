-- What a byte in front does to the parts of a text, and to what is left of a name.
use Rattle.std.proofs.Common.{◌≡◌, ◌≢◌, ℕ, ◌+◌, ◌<◌, ◌≤◌, Bool, true, false, cond, not, ◌&&◌, ◌||◌, ◌==◌, nat_lt, ◌↔◌, List, [], ◌∷◌, length, refl, subst, arith}
use Rattle.std.proofs.lemmas.Bool.Decides.{nat_tests}
use Rattle.std.specs.List.{list_all, onto_first, AllByRecursion}
use Rattle.std.proofs.lemmas.Bool.{and_parts}
use Rattle.zst_names.specs.Names.{is_component_byte, IsComponent, parts}
use Rattle.zst_names.specs.Rest.{fits_component, IsTail, AreLastParts, IsDatasetRest}

-- a component is the end of one of which nothing stands
pub tail_of_component : (text : List ℕ) → IsComponent text → IsTail 0 text
tail_of_component text h = record { some = omega (arith, h.some); short = omega (arith, h.short); bytes = h.bytes; first = λ _. h.first }

pub component_of_tail : (text : List ℕ) → IsTail 0 text → IsComponent text
component_of_tail text h = record { some = omega (arith, h.some); short = omega (arith, h.short); bytes = h.bytes; first = h.first refl }

pub true_and : (a b : Bool) → a ≡ true → b ≡ true → (a && b) ≡ true
true_and a b h k = rw (h, k) refl

-- a byte may stand where it fits
pub fits_tail : (used byte : ℕ) (text : List ℕ) → IsTail used (byte ∷ text) → fits_component used byte ≡ true
fits_tail used byte text h =
    let bytes = and_parts (is_component_byte byte) (list_all is_component_byte text) h.bytes in
    let room : used < 64 = omega (arith, h.short) in
    let first : used ≡ 0 → byte ≢ 45 = h.first in
    let good : is_component_byte byte ≡ true = bytes.0 in
    grind (arith, nat_tests)

-- which leaves room for it
pub fits_short : (used byte : ℕ) → fits_component used byte ≡ true → used < 64
fits_short used byte h =
    let room : nat_lt used 64 ≡ true = (and_parts (nat_lt used 64) (is_component_byte byte && (nat_lt 0 used || not (byte == 45))) h).0 in
    grind (arith, nat_tests)

pub tail_after : (used byte : ℕ) (text : List ℕ) → IsTail used (byte ∷ text) → IsTail (used + 1) text
tail_after used byte text h =
    record {
      some = omega arith;
      short = omega (arith, h.short);
      bytes = (and_parts (is_component_byte byte) (list_all is_component_byte text) h.bytes).1;
      first = λ e. absurd (omega (arith, e));
    }

pub tail_before : (used byte : ℕ) (text : List ℕ) → fits_component used byte ≡ true → IsTail (used + 1) text → IsTail used (byte ∷ text)
tail_before used byte text f h =
    let outer = and_parts (nat_lt used 64) (is_component_byte byte && (nat_lt 0 used || not (byte == 45))) f in
    let inner = and_parts (is_component_byte byte) (nat_lt 0 used || not (byte == 45)) outer.1 in
    let last : (nat_lt 0 used || not (byte == 45)) ≡ true = inner.1 in
    record {
      some = omega arith;
      short = omega (arith, h.short);
      bytes = true_and (is_component_byte byte) (list_all is_component_byte text) inner.0 h.bytes;
      first = λ e. λ k. absurd (grind (arith, nat_tests));
    }

-- a text has a part
pub onto_first_some : (byte : ℕ) (ps : List (List ℕ)) → 0 < length (onto_first byte ps)
onto_first_some byte [] = omega arith
onto_first_some byte (p ∷ ps) = omega arith

pub parts_some : (text : List ℕ) → 0 < length (parts text)
parts_some [] = omega arith
parts_some (byte ∷ text) =
    elim (byte == 47) as (λ t. 0 < length (cond t ([] ∷ parts text) (onto_first byte (parts text)))) [ true ↦ omega arith | false ↦ onto_first_some byte (parts text) ]

-- the parts of no text are no components
pub no_parts : (text : List ℕ) → AllByRecursion IsComponent (parts text) → 0 < length text
no_parts [] h = absurd (omega (arith, h.0.some))
no_parts (byte ∷ text) h = omega arith

-- a `/` ends a component, and the next begins
pub slash_to : (components used : ℕ) (ps : List (List ℕ)) → 0 < length ps → AreLastParts components used ([] ∷ ps) → AreLastParts (components + 1) 0 ps
slash_to components used [] some h = absurd (omega (arith, some))
slash_to components used (p ∷ ps) some h = (tail_of_component p h.1.0, h.1.1, omega (arith, h.2))

pub slash_from : (components used : ℕ) (ps : List (List ℕ)) → 0 < used → used ≤ 64 → AreLastParts (components + 1) 0 ps → AreLastParts components used ([] ∷ ps)
slash_from components used [] some short h = absurd h
slash_from components used (p ∷ ps) some short h =
    (record { some = omega arith; short = omega arith; bytes = refl; first = λ e. absurd (omega arith) }, (component_of_tail p h.0, h.1), omega (arith, h.2))

-- another byte goes into the component that stands
pub byte_to : (components used byte : ℕ) (ps : List (List ℕ)) → 0 < length ps → AreLastParts components used (onto_first byte ps) → (fits_component used byte ≡ true) × AreLastParts components (used + 1) ps
byte_to components used byte [] some h = absurd (omega (arith, some))
byte_to components used byte (p ∷ ps) some h = (fits_tail used byte p h.0, (tail_after used byte p h.0, h.1, h.2))

pub byte_from : (components used byte : ℕ) (ps : List (List ℕ)) → fits_component used byte ≡ true → AreLastParts components (used + 1) ps → AreLastParts components used (onto_first byte ps)
byte_from components used byte [] f h = absurd h
byte_from components used byte (p ∷ ps) f h = (tail_before used byte p f h.0, h.1, h.2)

-- the same of a dataset name's end
pub slash_rest : (components used place byte : ℕ) → byte ≡ 47 → 0 < used → used ≤ 64 → (rest : List ℕ) → IsDatasetRest components used place (byte ∷ rest) ↔ IsDatasetRest (components + 1) 0 (place + 1) rest
slash_rest components used place byte e some short rest =
    rw e (
      λ h. (slash_to components used (parts rest) (parts_some rest) h.0, omega (arith, h.1)),
      λ h. (slash_from components used (parts rest) some short h.0, omega (arith, h.1)),
    )

-- a `/` needs a byte before it, a component after it, and the room for that
pub slash_needs : (components used place byte : ℕ) → byte ≡ 47 → (rest : List ℕ) → IsDatasetRest components used place (byte ∷ rest) → (0 < used) × (components < 8) × (place + 1 < 190)
slash_needs components used place byte e rest h0 =
    let h : IsDatasetRest components used place (47 ∷ rest) = subst (λ (b : ℕ). IsDatasetRest components used place (b ∷ rest)) e h0 in
    (omega (arith, h.0.0.some), omega (arith, h.0.2, parts_some rest), omega (arith, h.1, no_parts rest h.0.1))

pub byte_rest : (components used place byte : ℕ) → (byte == 47) ≡ false → fits_component used byte ≡ true → (rest : List ℕ) → IsDatasetRest components used place (byte ∷ rest) ↔ IsDatasetRest components (used + 1) (place + 1) rest
byte_rest components used place byte e f rest =
    rw e (
      λ h. ((byte_to components used byte (parts rest) (parts_some rest) h.0).1, omega (arith, h.1)),
      λ h. (byte_from components used byte (parts rest) f h.0, omega (arith, h.1)),
    )

pub byte_needs : (components used place byte : ℕ) → (byte == 47) ≡ false → (rest : List ℕ) → IsDatasetRest components used place (byte ∷ rest) → (fits_component used byte ≡ true) × (place < 190)
byte_needs components used place byte e rest h =
    let parted : AreLastParts components used (onto_first byte (parts rest)) = rw e at h.0 in
    ((byte_to components used byte (parts rest) (parts_some rest) parted).0, omega (arith, h.1))
