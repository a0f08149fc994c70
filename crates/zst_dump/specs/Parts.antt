-- The parts of a line: words, numbers, guids, names and lengths.
use Rattle.std.specs.Prelude.{ℕ, ◌-◌, ◌^◌, Bool, ◌==◌, ◌&&◌, not, nat_le, if◌then◌else◌, List, [], ◌∷◌, ◌++◌, flat_map, codes, decimal}
use Rattle.hex.specs.Hex.{encode_lower}
use Rattle.zst_model.specs.refusals.Texts.{guid_text}
use Rattle.zst_dump.specs.declared.part.Part.{Part}
use Rattle.zst_dump.specs.declared.part.Part.TheVariants as parts

-- a byte of a name that stands as it is: one that is printed, but no backslash
abbrev pub is_plain : ℕ → Bool
is_plain byte = nat_le 33 byte && nat_le byte 126 && not (byte == 92)

-- every other byte: `\x` and two digits
abbrev pub code_of : ℕ → List ℕ
code_of byte = codes "\\x" ++ encode_lower (byte ∷ [])

-- a byte of a name
unfoldable pub escaped : ℕ → List ℕ
escaped byte = if is_plain byte then byte ∷ [] else code_of byte

-- a name
abbrev pub name_text : List ℕ → List ℕ
name_text name = flat_map escaped name

-- the length of a FREE: all ones go to the object's end
unfoldable pub length_text : ℕ → List ℕ
length_text count = if count == 2 ^ 64 - 1 then codes "to-end" else decimal count

-- what a part of the code prints
abbrev pub part_text : Part → List ℕ
part_text (parts.Words words) = words.now
part_text (parts.Number number) = decimal number
part_text (parts.Guid guid) = guid_text guid
part_text (parts.Name name) = name_text name.now
part_text (parts.Length count) = length_text count
