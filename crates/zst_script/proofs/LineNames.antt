-- A line that words say sends from a name that a send may be from, and receives into one that a receive may be into.
use Rattle.std.proofs.Common.{◌≡◌, ℕ, zero, suc, true, List, ◌∷◌, ◌++◌, [], length, get_or, Option, Some, None, IfSome, codes, option_map, refl, sym, ap, ◌∙◌, subst, arith, length-append}
use Rattle.std.proofs.lemmas.Bool.{false≢true}
use Rattle.std.specs.List.{AllZip}
use Rattle.zst_line.specs.declared.kind.Kind.{Kind}
use Rattle.zst_line.specs.declared.kind.Kind.TheVariants as kinds
use Rattle.zst_line.specs.declared.line.Line.{Line}
use Rattle.zst_line.specs.declared.line.Line.TheVariants.{Dump, Create, Step, Send, Resume, Receive, Token, Check, Gen, Replay}
use Rattle.zst_line.specs.declared.name_kinds.NameKind.{NameKind}
use Rattle.zst_line.specs.declared.name_kinds.NameKind.TheVariants as name_kinds
use Rattle.zst_line.specs.declared.word_slot.WordSlot.TheVariants as slots
use Rattle.zst_line.specs.Grammar.{dataset_or_snapshot, places_of, snapshot_or_bookmark, word_at, word_of}
use Rattle.zst_line.specs.Line.{as_name, name_of, value_behind}
use Rattle.zst_line.specs.NameKinds.{kind_of_name, takes}
use Rattle.zst_line.specs.WordFaults.{Takes}
use Rattle.zst_line.proofs.FirstWords.{same_kind}
use Rattle.zst_line.proofs.OptionPlaces.{last_takes, value_fits}
use Rattle.zst_model.specs.declared.refusals.subjects.Name.{Name}
use Rattle.zst_model.proofs.NameTests.{differ}
use Rattle.zst_script.specs.Asks.{IsSource, IsTarget, NamesFit}
use Rattle.zst_script.specs.Lines.{AreLine}

-- a word that stands for what a send is from names no dataset
source_of_kind : (kind : NameKind) (word : List ℕ) → takes snapshot_or_bookmark kind ≡ true → IsSource (as_name kind word)
source_of_kind name_kinds.Dataset word taken = absurd (false≢true taken)
source_of_kind name_kinds.Snapshot word taken = tt
source_of_kind name_kinds.Bookmark word taken = tt

sources : (value : Option (List ℕ)) → IfSome value (Takes (slots.Name snapshot_or_bookmark)) → IfSome (option_map name_of value) IsSource
sources None fits = tt
sources (Some word) fits = source_of_kind (kind_of_name word) word fits.0.1

-- the word behind `-i` of a send that doesn't go on from a token stands where such a name may
source_fits : (rest : List (List ℕ)) → (word_at (codes "send" ∷ rest) 1 ≡ codes "-t" → ⊥) → AllZip Takes (places_of kinds.Send rest) rest
    → IfSome (value_behind (codes "-i") rest) (Takes (slots.Name snapshot_or_bookmark))
source_fits rest plain fits =
    value_fits kinds.Send rest (codes "-i") snapshot_or_bookmark (record { is = refl; takes = refl; others = λ count. (λ word t. t.0.1, (λ word t. t.0.0, tt)) })
    (rw (differ (word_at rest 0) (codes "-t") plain) at fits)

from_source : (words rest behind : List (List ℕ)) (kind : Kind) (from : Option Name) → words ≡ word_of kind ∷ rest → words ≡ codes "send" ∷ behind → (word_at words 1 ≡ codes "-t" → ⊥)
    → from ≡ option_map name_of (value_behind (codes "-i") words) → AllZip Takes (places_of kind rest) rest → IfSome from IsSource
from_source words rest behind kind from spelled begins plain is fits =
    let same = same_kind kind kinds.Send rest behind (sym spelled ∙ begins) in
    let words_are : words ≡ codes "send" ∷ rest = spelled ∙ ap (λ (k : Kind). word_of k ∷ rest) same in
    let found = source_fits rest (λ e. plain (ap (λ (w : List (List ℕ)). word_at w 1) words_are ∙ e)) (subst (λ (k : Kind). AllZip Takes (places_of k rest) rest) same fits) in
    subst (λ (name : Option Name). IfSome name IsSource) (sym (is ∙ ap (λ (w : List (List ℕ)). option_map name_of (value_behind (codes "-i") w)) words_are))
    (sources (value_behind (codes "-i") rest) found)

-- a word that stands for what a receive is into names no bookmark
target_of_kind : (kind : NameKind) (word : List ℕ) → takes dataset_or_snapshot kind ≡ true → IsTarget (as_name kind word)
target_of_kind name_kinds.Dataset word taken = tt
target_of_kind name_kinds.Snapshot word taken = tt
target_of_kind name_kinds.Bookmark word taken = absurd (false≢true taken)

-- the last of words that end in two
last_is : (options : List (List ℕ)) (image word : List ℕ) (before : ℕ) → length (options ++ image ∷ word ∷ []) ≡ suc (suc before) → get_or (options ++ image ∷ word ∷ []) (suc before) [] ≡ word
last_is [] image word zero long = refl
last_is [] image word (suc before) long = absurd (omega (arith, long))
last_is (option ∷ options) image word zero long = absurd (omega (arith, long, length-append options (image ∷ word ∷ [])))
last_is (option ∷ options) image word (suc before) long = last_is options image word before (omega (arith, long))

into_target : (words rest options : List (List ℕ)) (image word : List ℕ) (kind : Kind) → words ≡ word_of kind ∷ rest → words ≡ codes "receive" ∷ (options ++ image ∷ word ∷ [])
    → AllZip Takes (places_of kind rest) rest → IsTarget (name_of word)
into_target words rest options image word kind spelled begins fits =
    let same = same_kind kind kinds.Receive rest (options ++ image ∷ word ∷ []) (sym spelled ∙ begins) in
    let both : word_of kind ∷ rest ≡ codes "receive" ∷ (options ++ image ∷ word ∷ []) = sym spelled ∙ begins in
    let rest_is : rest ≡ options ++ image ∷ word ∷ [] = cc both in
    let end = last_takes kinds.Receive slots.Image (slots.Name dataset_or_snapshot) rest (λ count. refl) (subst (λ (k : Kind). AllZip Takes (places_of k rest) rest) same fits) in
    let long : length (options ++ image ∷ word ∷ []) ≡ suc (suc end.before) = ap (λ (l : List (List ℕ)). length l) (sym rest_is) ∙ end.long in
    let last : get_or rest (suc end.before) [] ≡ word = ap (λ (l : List (List ℕ)). get_or l (suc end.before) []) rest_is ∙ last_is options image word end.before long in
    target_of_kind (kind_of_name word) word (subst (λ (w : List ℕ). Takes (slots.Name dataset_or_snapshot) w) last end.takes).0.1

pub names_fit : (line : Line) (words : List (List ℕ)) → AreLine line words → NamesFit line
names_fit Dump words are = tt
names_fit (Create image sectors id) words are = tt
names_fit (Step image command) words are = tt
names_fit (Send image from redacts snapshot) words (said, is) = from_source words said.rest (is.0.0 ++ image ∷ snapshot ∷ []) said.kind from said.spelled is.0.1 is.1 is.2 said.fact
names_fit (Resume image token) words are = tt
names_fit (Receive image keeps forces origin target) words (said, is) =
    subst IsTarget (sym is.1) (into_target words said.rest is.2.0 image is.0 said.kind said.spelled is.2.1 said.fact)
names_fit (Token image dataset) words are = tt
names_fit (Check image) words are = tt
names_fit (Gen image steps) words are = tt
names_fit (Replay here there) words are = tt
