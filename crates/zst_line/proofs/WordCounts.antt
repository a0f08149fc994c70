-- A line has few words: each of its options stands once, with its value behind it, and the most named words has `redact`.
use Rattle.std.proofs.Common.{◌≡◌, ℕ, ◌+◌, ◌*◌, ◌-◌, ◌≤◌, ◌||◌, ◌⊎◌, min, max, Bool, true, false, Option, Some, None, List, [], ◌∷◌, ◌++◌, length, bytes_eq, if◌then◌else◌, nat_lt, codes, refl, sym, ap, ◌∙◌, inl, inr, arith, lit≤}
use Rattle.std.proofs.lemmas.List.{length-replicate}
use Rattle.std.proofs.lemmas.List.Folds.{list_any-append}
use Rattle.std.proofs.lemmas.Slice.Eq.{bytes_eq-Decides}
use Rattle.std.proofs.lemmas.Slice.Zip.{AllZip-long}
use Rattle.zst_line.specs.declared.kind.Kind.{Kind}
use Rattle.zst_line.specs.declared.kind.Kind.TheVariants as kinds
use Rattle.zst_line.specs.declared.options.OptionValue.{OptionValue}
use Rattle.zst_line.specs.declared.options.OptionValue.TheVariants.{Nothing, NameOf}
use Rattle.zst_line.specs.declared.word_slot.WordSlot.{WordSlot}
use Rattle.zst_line.specs.declared.word_slot.WordSlot.TheVariants.{Given, Image, Name, Token}
use Rattle.zst_line.specs.Grammar.{dataset_or_snapshot, goes_on, last_snapshots, named, new_option, option_of, places_behind, places_of, snapshot, stands_in, value_of}
use Rattle.zst_line.specs.WordFaults.{IsLine, Takes}
use Rattle.zst_line.proofs.OptionPlaces.{chosen, step}
use Rattle.zst_model.proofs.OrderLaws.{same_bytes}

-- ---- the options of a line

-- the words that are options of a line
abbrev option_words : Kind → List (List ℕ)
option_words kinds.Rollback = codes "-r" ∷ []
option_words kinds.Send = codes "-i" ∷ codes "--redact" ∷ []
option_words kinds.Receive = codes "-s" ∷ codes "-F" ∷ codes "--origin" ∷ []
option_words kind = []

-- a word is one of these
abbrev IsOneOf : List ℕ → List (List ℕ) → Type 0
IsOneOf word [] = ⊥
IsOneOf word (other ∷ others) = (word ≡ other) ⊎ IsOneOf word others

either : (word other : List ℕ) (others : List (List ℕ)) (one rest : Option OptionValue) (taking : OptionValue) (same : Bool) → bytes_eq word other ≡ same → (rest ≡ Some taking → IsOneOf word others)
    → (if same then one else rest) ≡ Some taking → IsOneOf word (other ∷ others)
either word other others one rest taking true same behind is = inl (same_bytes word other same)
either word other others one rest taking false same behind is = inr (behind is)

option_is : (kind : Kind) (word : List ℕ) (taking : OptionValue) → option_of kind word ≡ Some taking → IsOneOf word (option_words kind)
option_is kinds.Rollback word taking is = either word (codes "-r") [] _ _ taking (bytes_eq word (codes "-r")) refl (λ none. absurd (cc none)) is
option_is kinds.Send word taking is =
    either word (codes "-i") (codes "--redact" ∷ []) _ _ taking (bytes_eq word (codes "-i")) refl
    (either word (codes "--redact") [] _ _ taking (bytes_eq word (codes "--redact")) refl (λ none. absurd (cc none))) is
option_is kinds.Receive word taking is =
    either word (codes "-s") (codes "-F" ∷ codes "--origin" ∷ []) _ _ taking (bytes_eq word (codes "-s")) refl
    (either word (codes "-F") (codes "--origin" ∷ []) _ _ taking (bytes_eq word (codes "-F")) refl
    (either word (codes "--origin") [] _ _ taking (bytes_eq word (codes "--origin")) refl (λ none. absurd (cc none)))) is
option_is kinds.Dump word taking is = absurd (cc is)
option_is kinds.Create word taking is = absurd (cc is)
option_is kinds.Fs word taking is = absurd (cc is)
option_is kinds.Volume word taking is = absurd (cc is)
option_is kinds.Object word taking is = absurd (cc is)
option_is kinds.Write word taking is = absurd (cc is)
option_is kinds.Punch word taking is = absurd (cc is)
option_is kinds.Free word taking is = absurd (cc is)
option_is kinds.Read word taking is = absurd (cc is)
option_is kinds.List word taking is = absurd (cc is)
option_is kinds.Snapshot word taking is = absurd (cc is)
option_is kinds.Clone word taking is = absurd (cc is)
option_is kinds.Bookmark word taking is = absurd (cc is)
option_is kinds.Destroy word taking is = absurd (cc is)
option_is kinds.Redact word taking is = absurd (cc is)
option_is kinds.Abort word taking is = absurd (cc is)
option_is kinds.Token word taking is = absurd (cc is)
option_is kinds.Check word taking is = absurd (cc is)
option_is kinds.Gen word taking is = absurd (cc is)
option_is kinds.Reclaim word taking is = absurd (cc is)
option_is kinds.Replay word taking is = absurd (cc is)

-- ---- those that may still come

abbrev weight : Bool → ℕ
weight true = 0
weight false = 1

-- how many of these options don't stand among the words before
abbrev unseen : List (List ℕ) → List (List ℕ) → ℕ
unseen [] before = 0
unseen (option ∷ options) before = weight (stands_in before option) + unseen options before

weight_falls : (one other : Bool) → (one ≡ true → other ≡ true) → weight other ≤ weight one
weight_falls true true later = lit≤ tt
weight_falls true false later = absurd (let both = later refl in cc both)
weight_falls false true later = lit≤ tt
weight_falls false false later = lit≤ tt

stands_still : (before : List (List ℕ)) (word option : List ℕ) → stands_in before option ≡ true → stands_in (before ++ word ∷ []) option ≡ true
stands_still before word option stands =
    list_any-append (λ other. bytes_eq other option) before (word ∷ []) ∙ ap (λ (b : Bool). b || stands_in (word ∷ []) option) stands

stands_now : (before : List (List ℕ)) (word : List ℕ) → stands_in (before ++ word ∷ []) word ≡ true
stands_now before word =
    list_any-append (λ other. bytes_eq other word) before (word ∷ []) ∙ ap (λ (b : Bool). stands_in before word || (b || false)) ((bytes_eq-Decides word word).1 refl)
    ∙ elim (stands_in before word) as (λ b. (b || true) ≡ true) [ true ↦ refl | false ↦ refl ]

-- behind a word no more may come
fewer : (options before : List (List ℕ)) (word : List ℕ) → unseen options (before ++ word ∷ []) ≤ unseen options before
fewer [] before word = lit≤ tt
fewer (option ∷ options) before word =
    let one = weight_falls (stands_in before option) (stands_in (before ++ word ∷ []) option) (stands_still before word option) in
    let others = fewer options before word in
    omega (arith, one, others)

-- and behind a new option one less
one_fewer : (options before : List (List ℕ)) (word : List ℕ) → stands_in before word ≡ false → IsOneOf word options → unseen options (before ++ word ∷ []) + 1 ≤ unseen options before
one_fewer [] before word new among = absurd among
one_fewer (option ∷ options) before word new (inl same) =
    let gone : weight (stands_in (before ++ word ∷ []) option) ≡ 0 = ap weight (ap (stands_in (before ++ word ∷ [])) (sym same) ∙ stands_now before word) in
    let there : weight (stands_in before option) ≡ 1 = ap weight (ap (stands_in before) (sym same) ∙ new) in
    let others = fewer options before word in
    omega (arith, gone, there, others)
one_fewer (option ∷ options) before word new (inr among) =
    let one = weight_falls (stands_in before option) (stands_in (before ++ word ∷ []) option) (stands_still before word option) in
    let others = one_fewer options before word new among in
    omega (arith, one, others)

-- an option that is taken is one of the line's, and stood not before
taken_new : (kind : Kind) (before : List (List ℕ)) (word : List ℕ) (taking : OptionValue) → new_option kind before word ≡ Some taking → (stands_in before word ≡ false) × IsOneOf word (option_words kind)
taken_new kind before word taking new = go (option_of kind word) refl (stands_in before word) refl new
  where
    go : (found : Option OptionValue) → option_of kind word ≡ found → (stands : Bool) → stands_in before word ≡ stands → chosen found stands ≡ Some taking
        → (stands_in before word ≡ false) × IsOneOf word (option_words kind)
    go None is stands at taken = absurd (cc taken)
    go (Some one) is true at taken = absurd (cc taken)
    go (Some one) is false at taken = (at, option_is kind word one is)

-- ---- the places of a line

-- no line has more than nineteen named words, nor more than three options
record IsShort (kind : Kind) (count : ℕ) : Type 0 where
  words : length (named kind count) ≤ 19
  options : unseen (option_words kind) [] ≤ 3

is_short : (kind : Kind) (count : ℕ) → IsShort kind count
is_short kinds.Dump count = record { words = lit≤ tt; options = lit≤ tt }
is_short kinds.Create count = record { words = lit≤ tt; options = lit≤ tt }
is_short kinds.Fs count = record { words = lit≤ tt; options = lit≤ tt }
is_short kinds.Volume count = record { words = lit≤ tt; options = lit≤ tt }
is_short kinds.Object count = record { words = lit≤ tt; options = lit≤ tt }
is_short kinds.Write count = record { words = lit≤ tt; options = lit≤ tt }
is_short kinds.Punch count = record { words = lit≤ tt; options = lit≤ tt }
is_short kinds.Free count = record { words = lit≤ tt; options = lit≤ tt }
is_short kinds.Read count = record { words = lit≤ tt; options = lit≤ tt }
is_short kinds.List count = record {
  words = elim (nat_lt count 2) as (λ t. length ((if t then Image ∷ [] else Image ∷ Name dataset_or_snapshot ∷ []) ++ []) ≤ 19) [ true ↦ lit≤ tt | false ↦ lit≤ tt ];
  options = lit≤ tt;
}
is_short kinds.Snapshot count = record { words = lit≤ tt; options = lit≤ tt }
is_short kinds.Clone count = record { words = lit≤ tt; options = lit≤ tt }
is_short kinds.Bookmark count = record { words = lit≤ tt; options = lit≤ tt }
is_short kinds.Rollback count = record { words = lit≤ tt; options = lit≤ tt }
is_short kinds.Destroy count = record { words = lit≤ tt; options = lit≤ tt }
is_short kinds.Redact count =
    let most = length-replicate (last_snapshots kinds.Redact count) (Name snapshot) in
    let is : last_snapshots kinds.Redact count ≡ max 1 (min 16 (count - 3)) = refl in
    record { words = omega (arith, most, is); options = lit≤ tt }
is_short kinds.Send count = record { words = lit≤ tt; options = lit≤ tt }
is_short kinds.Receive count = record { words = lit≤ tt; options = lit≤ tt }
is_short kinds.Abort count = record { words = lit≤ tt; options = lit≤ tt }
is_short kinds.Token count = record { words = lit≤ tt; options = lit≤ tt }
is_short kinds.Check count = record { words = lit≤ tt; options = lit≤ tt }
is_short kinds.Gen count = record { words = lit≤ tt; options = lit≤ tt }
is_short kinds.Reclaim count = record { words = lit≤ tt; options = lit≤ tt }
is_short kinds.Replay count = record { words = lit≤ tt; options = lit≤ tt }

-- an option's value that is awaited
abbrev awaited : Option WordSlot → ℕ
awaited None = 0
awaited (Some slot) = 1

one_value : (taking : OptionValue) → awaited (value_of taking) ≤ 1
one_value Nothing = lit≤ tt
one_value (NameOf names) = lit≤ tt

-- so few places words have that stand behind those before
abbrev HasFew : Kind → List (List ℕ) → Option WordSlot → List WordSlot → Type 0
HasFew kind before value places = length places ≤ awaited value + 2 * unseen (option_words kind) before + 19

few_behind : (kind : Kind) (before : List (List ℕ)) (word : List ℕ) (words : List (List ℕ)) → ((value : Option WordSlot) → HasFew kind (before ++ word ∷ []) value (places_behind kind (before ++ word ∷ []) value words))
    → (taken : Option OptionValue) → new_option kind before word ≡ taken → HasFew kind before None (step kind before word words taken)
few_behind kind before word words behind None new = let few = (is_short kind (length (word ∷ words))).words in omega (arith, few)
few_behind kind before word words behind (Some taking) new =
    let known = taken_new kind before word taking new in
    let falls = one_fewer (option_words kind) before word known.0 known.1 in
    let value = one_value taking in
    let later = behind (value_of taking) in
    omega (arith, falls, value, later)

few : (kind : Kind) (before : List (List ℕ)) (value : Option WordSlot) (words : List (List ℕ)) → HasFew kind before value (places_behind kind before value words)
few kind before (Some value) [] = let short = (is_short kind 0).words in omega (arith, short)
few kind before (Some value) (word ∷ words) =
    let later = few kind (before ++ word ∷ []) None words in
    let falls = fewer (option_words kind) before word in
    omega (arith, later, falls)
few kind before None [] = let short = (is_short kind 0).words in omega (arith, short)
few kind before None (word ∷ words) = few_behind kind before word words (λ value. few kind (before ++ word ∷ []) value words) (new_option kind before word) refl

few_places : (kind : Kind) (words : List (List ℕ)) (goes : Bool) → length (if goes then Given ∷ Token ∷ Image ∷ [] else places_behind kind [] None words) ≤ 25
few_places kind words true = lit≤ tt
few_places kind words false =
    let places = few kind [] None words in
    let short = (is_short kind 0).options in
    omega (arith, places, short)

-- a line has at most so many words; in truth at most 20
pub line_few : (words : List (List ℕ)) → IsLine words → length words ≤ 26
line_few words is =
    let places = few_places is.kind is.rest (goes_on is.kind is.rest) in
    let fits = AllZip-long Takes (places_of is.kind is.rest) is.rest is.fact in
    let whole = ap length is.spelled in
    omega (arith, places, fits, whole)
