-- The place of the first word of a line that can't stand there, and the fault of the first that is no name or no token.
use Rattle.std.specs.Prelude.{◌≡◌, ◌≢◌, ◌⊎◌, ℕ, ◌+◌, List, [], ◌∷◌, IsOk, Err, codes}
use Rattle.std.specs.List.{AllZip}
use Rattle.zst_model.specs.states.State.{largest_bonus}
use Rattle.zst_token.specs.Parser.{token_of}
use Rattle.zst_line.specs.declared.kind.Kind.{Kind}
use Rattle.zst_line.specs.declared.line.LineFault.{LineFault}
use Rattle.zst_line.specs.declared.line.LineFault.TheVariants.{BadName, BadToken}
use Rattle.zst_line.specs.declared.word_slot.WordSlot.{WordSlot}
use Rattle.zst_line.specs.declared.word_slot.WordSlot.TheVariants.{Image, Token, Name, Number, BlockSize, Bonus, Spill, HexBytes, Given}
use Rattle.zst_line.specs.Words.{IsText, IsHex, IsNumber, IsSize, IsSpill}
use Rattle.zst_line.specs.NameKinds.{FitsName, IsNamed, NamedStops}
use Rattle.zst_line.specs.Grammar.{word_of, places_of}

-- a word that may stand at a place; whether it is a name or a token is judged after all places
abbrev pub Fits : WordSlot → List ℕ → Type 0
Fits Image word = IsText word
Fits Token word = IsText word
Fits (Name names) word = FitsName names word
Fits (Number low high) word = IsNumber low high word
Fits BlockSize word = IsSize word
Fits Bonus word = (word ≡ codes "none") ⊎ IsHex 1 largest_bonus word
Fits Spill word = (word ≡ codes "none") ⊎ IsSpill word
Fits (HexBytes most) word = IsHex 1 most word
Fits Given word = Unit {0}

-- the place of the first word that can't stand there, counted from a place on: one that doesn't fit, one too many, or the count of words where one is missing
abbrev pub Stops : ℕ → List WordSlot → List (List ℕ) → ℕ → Type 0
Stops place [] [] at = ⊥
Stops place [] (word ∷ words) at = at ≡ place
Stops place (slot ∷ slots) [] at = at ≡ place
Stops place (slot ∷ slots) (word ∷ words) at = (¬ (Fits slot word) × (at ≡ place)) ⊎ (Fits slot word × Stops (place + 1) slots words at)

-- a word is a name or a token where one has to stand
abbrev pub IsReadAt : WordSlot → List ℕ → Type 0
IsReadAt (Name names) word = IsNamed word
IsReadAt Token word = IsOk (token_of word)
IsReadAt slot word = Unit {0}

-- the fault of a word that isn't the name or the token that has to stand there: where it stops being one
abbrev pub Misread : WordSlot → List ℕ → LineFault → Type 0
Misread (Name names) word (BadName at) = NamedStops word at
Misread Token word (BadToken at) = token_of word ≡ Err (record { place = at })
Misread slot word fault = ⊥

-- the fault of the first word that has to be a name or a token and is none
abbrev pub FirstMisread : List WordSlot → List (List ℕ) → LineFault → Type 0
FirstMisread [] words fault = ⊥
FirstMisread (slot ∷ slots) [] fault = ⊥
FirstMisread (slot ∷ slots) (word ∷ words) fault = Misread slot word fault ⊎ (IsReadAt slot word × FirstMisread slots words fault)

-- words whose first names a line; the others and their places have this fact
pub record OfLine (Fact : List WordSlot → List (List ℕ) → Type 0) (words : List (List ℕ)) : Type 0 where
  pub kind : Kind
  pub rest : List (List ℕ)
  pub spelled : words ≡ word_of kind ∷ rest
  pub fact : Fact (places_of kind rest) rest

-- E1: there is no first word or it names no line, or the place of the first of the others that can't stand there
abbrev pub UsageAt : List (List ℕ) → ℕ → Type 0
UsageAt words at = (((kind : Kind) (rest : List (List ℕ)) → words ≢ word_of kind ∷ rest) × (at ≡ 0)) ⊎ OfLine (λ slots rest. Stops 1 slots rest at) words

-- E2 or E16: each word can stand where it is, and this is the fault of the first that is no name or no token
abbrev pub MisreadAs : LineFault → List (List ℕ) → Type 0
MisreadAs fault words = OfLine (λ slots rest. AllZip Fits slots rest × FirstMisread slots rest fault) words

-- a word that stands where it may, and is a name or a token where one has to stand
abbrev pub Takes : WordSlot → List ℕ → Type 0
Takes slot word = Fits slot word × IsReadAt slot word

-- a line: each word stands where it may, and each name and each token is one
abbrev pub IsLine : List (List ℕ) → Type 0
IsLine words = OfLine (λ slots rest. AllZip Takes slots rest) words
