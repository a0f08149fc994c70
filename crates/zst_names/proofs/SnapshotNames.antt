-- How long a snapshot's name is, and which bytes it has.
use Rattle.std.proofs.Common.{◌≡◌, ℕ, ◌^◌, ◌<◌, ◌≤◌, true, List, [], ◌∷◌, length, sym, ap, subst, inl, inr, arith, length-append}
use Rattle.std.proofs.lemmas.Bool.Decides.{eqb_tells, nat_tests}
use Rattle.std.proofs.lemmas.List.Elements.{All-nil, All-cons, All-append, recursion_from_All}
use Rattle.std.specs.List.{AllByRecursion, list_all, All}
use Rattle.std.proofs.lemmas.Bool.{and_parts}
use Rattle.zst_names.specs.Names.{is_component_byte, IsComponent, IsSnapshot, parts, dataset_of, component_of}
use Rattle.zst_names.proofs.MarkedNames.{IsPlain, joined, plain_parts, plain_onto}

-- a byte that isn't 0
abbrev pub IsTextByte : ℕ → Type 0
IsTextByte byte = (0 < byte) × (byte < 2 ^ 8)

component_byte : (byte : ℕ) → is_component_byte byte ≡ true → IsTextByte byte
unfolding is_component_byte
component_byte byte h = grind (arith, nat_tests)

component_bytes : (text : List ℕ) → list_all is_component_byte text ≡ true → All IsTextByte text
component_bytes [] h = All-nil IsTextByte
component_bytes (byte ∷ text) h =
    let both = and_parts (is_component_byte byte) (list_all is_component_byte text) h in
    All-cons IsTextByte byte text (component_byte byte both.0) (component_bytes text both.1)

dataset_bytes : (text : List ℕ) → AllByRecursion IsPlain (parts text) → All IsTextByte text
dataset_bytes [] h = All-nil IsTextByte
dataset_bytes (byte ∷ text) h = elim (eqb_tells byte 47) [
  | inl e ↦ All-cons IsTextByte byte text (omega (arith, e.1)) (dataset_bytes text (rw e.0 at h).1)
  | inr e ↦
      let plain = plain_onto byte (parts text) (rw e.0 at h) in
      All-cons IsTextByte byte text (component_byte byte plain.0) (dataset_bytes text plain.1)
]

-- at most 255 bytes, none of them 0
pub snapshot_bytes : (text : List ℕ) → IsSnapshot text → All IsTextByte text
snapshot_bytes text h =
    let dataset = dataset_bytes (dataset_of 64 text) (plain_parts (parts (dataset_of 64 text)) (recursion_from_All IsComponent (parts (dataset_of 64 text)) h.0.components)) in
    let component = component_bytes (component_of 64 text) h.1.bytes in
    subst (All IsTextByte) (sym (joined 64 text h.1))
    (All-append IsTextByte (dataset_of 64 text) (64 ∷ component_of 64 text) dataset (All-cons IsTextByte 64 (component_of 64 text) (omega arith) component))

pub snapshot_length : (text : List ℕ) → IsSnapshot text → length text ≤ 255
snapshot_length text h = omega (arith, ap length (joined 64 text h.1), length-append (dataset_of 64 text) (64 ∷ component_of 64 text), h.0.short, h.1.short)
