-- The places of words, found option by option.
use Rattle.std.proofs.Common.{◌≡◌, ℕ, ◌+◌, ◌-◌, ◌<◌, ◌≤◌, Bool, true, false, Option, Some, None, List, [], ◌∷◌, ◌++◌, length, take, drop, if◌then◌else◌, nat_lt, refl, ap, sym, ◌∙◌, inl, inr, arith, append_assoc, length-append, length-drop}
use Rattle.std.proofs.lemmas.Bool.{lt-ltb, ltb-true, cases_lt}
use Rattle.std.proofs.lemmas.List.{take_more, drop_all}
use Rattle.zst_line.specs.declared.kind.Kind.{Kind}
use Rattle.zst_line.specs.declared.options.OptionValue.{OptionValue}
use Rattle.zst_line.specs.declared.options.OptionValue.TheVariants.{Nothing, NameOf}
use Rattle.zst_line.specs.declared.word_slot.WordSlot.{WordSlot}
use Rattle.zst_line.specs.declared.word_slot.WordSlot.TheVariants.{Name, Given}
use Rattle.zst_line.specs.Grammar.{named, new_option, option_at, option_places, places_behind, value_of, word_at}
use Rattle.zst_line.proofs.WordWalk.{drop_at}
use Rattle.zst_line.proofs.OptionPlaces.{step}

-- the places of the words from a place on, where no value is awaited
abbrev pub behind : Kind → List (List ℕ) → ℕ → List WordSlot
behind kind words place = places_behind kind (take place words) None (drop place words)

new_at : (kind : Kind) (words : List (List ℕ)) (place : ℕ) → place < length words → option_at kind words place ≡ new_option kind (take place words) (word_at words place)
new_at kind words place h = rw (lt-ltb place (length words) h) refl

from_word : (kind : Kind) (words : List (List ℕ)) (place : ℕ) (taken : Option OptionValue) → place < length words → option_at kind words place ≡ taken
    → behind kind words place ≡ step kind (take place words) (word_at words place) (drop (place + 1) words) taken
from_word kind words place taken h e =
    rw (drop_at words place [] h) (ap (λ (found : Option OptionValue). step kind (take place words) (word_at words place) (drop (place + 1) words) found) (sym (new_at kind words place h) ∙ e))

none_past : (kind : Kind) (words : List (List ℕ)) (place : ℕ) (taking : OptionValue) (there : Bool) → (if there then new_option kind (take place words) (word_at words place) else None) ≡ Some taking → there ≡ true
none_past kind words place taking true e = refl
none_past kind words place taking false e = absurd cc

pub option_there : (kind : Kind) (words : List (List ℕ)) (place : ℕ) (taking : OptionValue) → option_at kind words place ≡ Some taking → place < length words
option_there kind words place taking e = ltb-true place (length words) (none_past kind words place taking (nat_lt place (length words)) e)

value_next : (kind : Kind) (words : List (List ℕ)) (place : ℕ) (value : WordSlot) → place ≤ length words
    → places_behind kind (take place words) (Some value) (drop place words) ≡ value ∷ behind kind words (place + 1)
value_next kind words place value most =
    elim (cases_lt place (length words)) [
      | inl h ↦
          rw (drop_at words place [] h) (ap (λ (before : List (List ℕ)). value ∷ places_behind kind before None (drop (place + 1) words)) (sym (take_more words place [] h)))
      | inr h ↦ rw (drop_all place words h, drop_all (place + 1) words (omega arith)) refl
    ]

option_next : (kind : Kind) (words : List (List ℕ)) (place : ℕ) (taking : OptionValue) → option_at kind words place ≡ Some taking
    → behind kind words place ≡ Given ∷ places_behind kind (take (place + 1) words) (value_of taking) (drop (place + 1) words)
option_next kind words place taking e =
    let h = option_there kind words place taking e in
    from_word kind words place (Some taking) h e
    ∙ ap (λ (before : List (List ℕ)). Given ∷ places_behind kind before (value_of taking) (drop (place + 1) words)) (sym (take_more words place [] h))

behind_option : (kind : Kind) (words : List (List ℕ)) (place : ℕ) (taking : OptionValue) → option_at kind words place ≡ Some taking
    → behind kind words place ≡ option_places taking ++ behind kind words (place + length (option_places taking))
behind_option kind words place Nothing e = option_next kind words place Nothing e
behind_option kind words place (NameOf names) e =
    let h = option_there kind words place (NameOf names) e in
    let next : place + 1 + 1 ≡ place + 2 = omega arith in
    option_next kind words place (NameOf names) e
    ∙ ap (λ (later : List WordSlot). Given ∷ later) (rw next at (value_next kind words (place + 1) (Name names) (omega arith)))

-- the places that stand, with those of one more option
pub one_option_more : (kind : Kind) (words : List (List ℕ)) (all places next : List WordSlot) (taking : OptionValue) → all ≡ places ++ behind kind words (length places)
    → option_at kind words (length places) ≡ Some taking → next ≡ places ++ option_places taking → all ≡ next ++ behind kind words (length next)
one_option_more kind words all places next taking was e is =
    let long : length next ≡ length places + length (option_places taking) = simp length-append at (ap length is) in
    let here = behind_option kind words (length places) taking e in
    let later : all ≡ places ++ (option_places taking ++ behind kind words (length places + length (option_places taking))) = was ∙ ap (λ (rest : List WordSlot). places ++ rest) here in
    rw (long, is, append_assoc) later

-- behind the options stand the named words
pub named_behind : (kind : Kind) (words : List (List ℕ)) (place : ℕ) → option_at kind words place ≡ None → behind kind words place ≡ named kind (length words - place)
named_behind kind words place e =
    elim (cases_lt place (length words)) [
      | inl h ↦
          let cut : length (drop (place + 1) words) ≡ length words - (place + 1) = length-drop (place + 1) words in
          let long : length (word_at words place ∷ drop (place + 1) words) ≡ length words - place = omega arith in
          from_word kind words place None h e ∙ ap (named kind) long
      | inr h ↦
          let none : length words - place ≡ 0 = omega arith in
          rw (drop_all place words h, none) refl
    ]
