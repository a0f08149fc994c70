-- The places of a line with options: they end in those of its named words, and the value of an option fits its place.
use Rattle.std.proofs.Common.{◌≡◌, ℕ, suc, ◌+◌, ◌<◌, Bool, true, false, Option, Some, None, List, [], ◌∷◌, ◌++◌, length, take, drop, get_or, bytes_eq, if◌then◌else◌, refl, ap, sym, ◌∙◌, IfSome}
use Rattle.std.proofs.lemmas.Bool.{lt-ltb}
use Rattle.std.specs.List.{AllZip}
use Rattle.zst_line.specs.declared.kind.Kind.{Kind}
use Rattle.zst_line.specs.declared.name_kinds.Names.{Names}
use Rattle.zst_line.specs.declared.options.OptionValue.{OptionValue}
use Rattle.zst_line.specs.declared.options.OptionValue.TheVariants.{Nothing, NameOf}
use Rattle.zst_line.specs.declared.word_slot.WordSlot.{WordSlot}
use Rattle.zst_line.specs.declared.word_slot.WordSlot.TheVariants.{Name, Given}
use Rattle.zst_line.specs.Grammar.{named, option_of, new_option, stands_in, value_of, places_behind, goes_on, places_of, option_at, word_at}
use Rattle.zst_line.specs.WordFaults.{Takes}
use Rattle.zst_line.specs.Line.{first_of, value_behind}
use Rattle.zst_line.specs.Words.{IsOption}
use Rattle.zst_line.proofs.WordWalk.{drop_at}
use Rattle.zst_model.proofs.NameTests.{differ}
use Rattle.zst_model.proofs.OrderLaws.{same_bytes}

-- the places from a word on, by what the option takes that it is
abbrev pub step : Kind → List (List ℕ) → List ℕ → List (List ℕ) → Option OptionValue → List WordSlot
step kind before word words taken = elim taken [
  | None ↦ named kind (length (word ∷ words))
  | Some taking ↦ Given ∷ places_behind kind (before ++ word ∷ []) (value_of taking) words
]

-- places that end in those of the named words
pub record Ends (kind : Kind) (places : List WordSlot) : Type 0 where
  pub front : List WordSlot
  pub count : ℕ
  pub ends : places ≡ front ++ named kind count

with_place : (kind : Kind) (slot : WordSlot) (places : List WordSlot) → Ends kind places → Ends kind (slot ∷ places)
with_place kind slot places e = record { front = slot ∷ e.front; count = e.count; ends = ap (λ (rest : List WordSlot). slot ∷ rest) e.ends }

step_ends : (kind : Kind) (before : List (List ℕ)) (word : List ℕ) (words : List (List ℕ)) → ((value : Option WordSlot) → Ends kind (places_behind kind (before ++ word ∷ []) value words))
    → (taken : Option OptionValue) → Ends kind (step kind before word words taken)
step_ends kind before word words behind None = record { front = []; count = length (word ∷ words); ends = refl }
step_ends kind before word words behind (Some taking) = with_place kind Given (places_behind kind (before ++ word ∷ []) (value_of taking) words) (behind (value_of taking))

pub ends : (kind : Kind) (before : List (List ℕ)) (value : Option WordSlot) (words : List (List ℕ)) → Ends kind (places_behind kind before value words)
ends kind before (Some value) [] = record { front = value ∷ []; count = 0; ends = refl }
ends kind before (Some value) (word ∷ words) = with_place kind value (places_behind kind (before ++ word ∷ []) None words) (ends kind (before ++ word ∷ []) None words)
ends kind before None [] = record { front = []; count = 0; ends = refl }
ends kind before None (word ∷ words) = step_ends kind before word words (λ value. ends kind (before ++ word ∷ []) value words) (new_option kind before word)

-- the last of two named words, which has to be what the last place takes
pub record LastTakes (slot : WordSlot) (words : List (List ℕ)) : Type 0 where
  pub before : ℕ
  pub long : length words ≡ suc (suc before)
  pub takes : Takes slot (get_or words (suc before) [])

last_of : (front : List WordSlot) (one last : WordSlot) (words : List (List ℕ)) → AllZip Takes (front ++ one ∷ last ∷ []) words → LastTakes last words
last_of [] one last [] fits = absurd fits
last_of [] one last (a ∷ []) fits = absurd fits.1
last_of [] one last (a ∷ b ∷ []) fits = record { before = 0; long = refl; takes = fits.1.0 }
last_of [] one last (a ∷ b ∷ c ∷ words) fits = absurd fits.1.1
last_of (slot ∷ front) one last [] fits = absurd fits
last_of (slot ∷ front) one last (word ∷ words) fits =
    let later = last_of front one last words fits.1 in
    record { before = suc later.before; long = ap suc later.long; takes = later.takes }

pub last_takes : (kind : Kind) (one last : WordSlot) (words : List (List ℕ)) → ((count : ℕ) → named kind count ≡ one ∷ last ∷ []) → AllZip Takes (places_behind kind [] None words) words → LastTakes last words
last_takes kind one last words two fits =
    let e = ends kind [] None words in
    last_of e.front one last words (rw (e.ends, two e.count) at fits)

-- a place that takes no word that begins with `-`
abbrev pub Refuses : WordSlot → Type 0
Refuses slot = (word : List ℕ) → Takes slot word → IsOption word → ⊥

abbrev pub AllRefuse : List WordSlot → Type 0
AllRefuse [] = Unit {0}
AllRefuse (slot ∷ slots) = Refuses slot × AllRefuse slots

abbrev ValueRefuses : Option WordSlot → Type 0
ValueRefuses None = Unit {0}
ValueRefuses (Some slot) = Refuses slot

value_refuses : (taking : OptionValue) → ValueRefuses (value_of taking)
value_refuses Nothing = tt
value_refuses (NameOf names) = λ word takes is. takes.0.0 is

-- a word that is no option isn't the one that a value is looked for behind
passed : (option word : List ℕ) (words : List (List ℕ)) → IsOption option → (IsOption word → ⊥) → value_behind option (word ∷ words) ≡ value_behind option words
passed option word words is other = rw (differ word option (λ e. other (rw e is))) refl

no_value : (slots : List WordSlot) (words : List (List ℕ)) (option : List ℕ) → IsOption option → AllRefuse slots → AllZip Takes slots words → value_behind option words ≡ None
no_value [] [] option is refuse fits = refl
no_value [] (word ∷ words) option is refuse fits = absurd fits
no_value (slot ∷ slots) [] option is refuse fits = absurd fits
no_value (slot ∷ slots) (word ∷ words) option is refuse fits = passed option word words is (refuse.0 word fits.0) ∙ no_value slots words option is refuse.1 fits.1

-- an option of a line, and the names that its value may be
pub record TakesName (kind : Kind) (option : List ℕ) (names : Names) : Type 0 where
  pub is : IsOption option
  pub takes : option_of kind option ≡ Some (NameOf names)
  pub others : (count : ℕ) → AllRefuse (named kind count)

-- an option that the line has is taken unless it stands before
abbrev pub chosen : Option OptionValue → Bool → Option OptionValue
chosen taken stands = elim taken [
  | None ↦ None
  | Some taking ↦ if stands then None else Some taking
]

new_is : (kind : Kind) (before : List (List ℕ)) (word : List ℕ) (taking : OptionValue) → option_of kind word ≡ Some taking → new_option kind before word ≡ (if stands_in before word then None else Some taking)
new_is kind before word taking is = ap (λ (taken : Option OptionValue). chosen taken (stands_in before word)) is

unless_before : (stands : Bool) (one other : OptionValue) → (if stands then None else Some one) ≡ Some other → one ≡ other
unless_before true one other e = absurd cc
unless_before false one other e = cc

taken_is : (kind : Kind) (before : List (List ℕ)) (option : List ℕ) (names : Names) (taking : OptionValue) → option_of kind option ≡ Some (NameOf names) → new_option kind before option ≡ Some taking
    → NameOf names ≡ taking
taken_is kind before option names taking is new = unless_before (stands_in before option) (NameOf names) taking (sym (new_is kind before option (NameOf names) is) ∙ new)

-- the word behind an option is the value that its place takes
value_next : (kind : Kind) (before : List (List ℕ)) (names : Names) (words : List (List ℕ)) (value : List ℕ) → AllZip Takes (places_behind kind before (Some (Name names)) words) words → first_of words ≡ Some value
    → Takes (Name names) value
value_next kind before names [] value fits e = absurd fits
value_next kind before names (word ∷ words) value fits e = let same : word ≡ value = cc in rw same at fits.0

-- what is known of the words behind a word
abbrev KnownBehind : Kind → List (List ℕ) → List (List ℕ) → List ℕ → Names → List ℕ → Type 0
KnownBehind kind before words option names value =
    (pending : Option WordSlot) → ValueRefuses pending → AllZip Takes (places_behind kind before pending words) words → value_behind option words ≡ Some value → Takes (Name names) value

at_option : (kind : Kind) (before : List (List ℕ)) (word : List ℕ) (words : List (List ℕ)) (option : List ℕ) (names : Names) (value : List ℕ) → TakesName kind option names
    → KnownBehind kind (before ++ word ∷ []) words option names value → (taking : OptionValue) → new_option kind before word ≡ Some taking
    → AllZip Takes (places_behind kind (before ++ word ∷ []) (value_of taking) words) words
    → (same : Bool) → bytes_eq word option ≡ same → (if same then first_of words else value_behind option words) ≡ Some value → Takes (Name names) value
at_option kind before word words option names value t behind taking new fits true same e =
    let is : word ≡ option = same_bytes word option same in
    let known = taken_is kind before option names taking t.takes (rw is at new) in
    value_next kind (before ++ word ∷ []) names words value (rw (← known) at fits) e
at_option kind before word words option names value t behind taking new fits false same e = behind (value_of taking) (value_refuses taking) fits e

step_value : (kind : Kind) (before : List (List ℕ)) (word : List ℕ) (words : List (List ℕ)) (option : List ℕ) (names : Names) (value : List ℕ) → TakesName kind option names
    → KnownBehind kind (before ++ word ∷ []) words option names value → (taken : Option OptionValue) → new_option kind before word ≡ taken
    → AllZip Takes (step kind before word words taken) (word ∷ words) → value_behind option (word ∷ words) ≡ Some value → Takes (Name names) value
step_value kind before word words option names value t behind None new fits e =
    let none = no_value (named kind (length (word ∷ words))) (word ∷ words) option t.is (t.others (length (word ∷ words))) fits in absurd cc
step_value kind before word words option names value t behind (Some taking) new fits e =
    at_option kind before word words option names value t behind taking new fits.1 (bytes_eq word option) refl e

value_of_option : (kind : Kind) (before : List (List ℕ)) (words : List (List ℕ)) (option : List ℕ) (names : Names) (value : List ℕ) → TakesName kind option names → KnownBehind kind before words option names value
value_of_option kind before [] option names value t (Some slot) refuses fits e = absurd fits
value_of_option kind before [] option names value t None refuses fits e = absurd cc
value_of_option kind before (word ∷ words) option names value t (Some slot) refuses fits e =
    value_of_option kind (before ++ word ∷ []) words option names value t None tt fits.1 (sym (passed option word words t.is (refuses word fits.0)) ∙ e)
value_of_option kind before (word ∷ words) option names value t None refuses fits e =
    step_value kind before word words option names value t (value_of_option kind (before ++ word ∷ []) words option names value t) (new_option kind before word) refl fits e

pub value_takes : (kind : Kind) (words : List (List ℕ)) (option : List ℕ) (names : Names) (value : List ℕ) → TakesName kind option names → AllZip Takes (places_behind kind [] None words) words
    → value_behind option words ≡ Some value → Takes (Name names) value
value_takes kind words option names value t fits e = value_of_option kind [] words option names value t None tt fits e

if_some : (names : Names) (value : Option (List ℕ)) → ((word : List ℕ) → value ≡ Some word → Takes (Name names) word) → IfSome value (Takes (Name names))
if_some names None takes = tt
if_some names (Some word) takes = takes word refl

pub value_fits : (kind : Kind) (words : List (List ℕ)) (option : List ℕ) (names : Names) → TakesName kind option names → AllZip Takes (places_behind kind [] None words) words
    → IfSome (value_behind option words) (Takes (Name names))
value_fits kind words option names t fits = if_some names (value_behind option words) (λ word e. value_takes kind words option names word t fits e)

-- a line without options has the places of its named words
pub without_options : (kind : Kind) (words : List (List ℕ)) → ((word : List ℕ) → option_of kind word ≡ None) → places_behind kind [] None words ≡ named kind (length words)
without_options kind [] none = refl
without_options kind (word ∷ words) none = ap (λ (taken : Option OptionValue). step kind [] word words (chosen taken (stands_in [] word))) (none word)

pub named_fits : (kind : Kind) (words : List (List ℕ)) → ((word : List ℕ) → option_of kind word ≡ None) → goes_on kind words ≡ false → AllZip Takes (places_of kind words) words → AllZip Takes (named kind (length words)) words
named_fits kind words none whole fits = rw (whole, without_options kind words none) at fits

-- the option at a place
pub option_known : (kind : Kind) (words : List (List ℕ)) (place : ℕ) (taking : OptionValue) → place < length words → option_of kind (word_at words place) ≡ Some taking
    → option_at kind words place ≡ (if stands_in (take place words) (word_at words place) then None else Some taking)
option_known kind words place taking h is = rw (lt-ltb place (length words) h) (new_is kind (take place words) (word_at words place) taking is)

-- the value behind an option, word by word
pub value_turn : (option : List ℕ) (words : List (List ℕ)) (i : ℕ) (word : List ℕ) (same : Bool) → i < length words → word_at words i ≡ word → bytes_eq word option ≡ same
    → value_behind option (drop i words) ≡ (if same then first_of (drop (i + 1) words) else value_behind option (drop (i + 1) words))
value_turn option words i word same h here is = rw (drop_at words i [] h, here, is) refl
