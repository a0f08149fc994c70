-- What the words of a line say is fit for a replay of lawful pools.
use Rattle.std.proofs.Common.{◌≡◌, ℕ, zero, suc, true, Bool, List, ◌∷◌, ◌++◌, [], length, get_or, Option, codes, refl, sym, ap, ◌∙◌, subst, arith, length-append}
use Rattle.std.proofs.lemmas.Bool.{false≢true}
use Rattle.std.specs.List.{AllZip}
use Rattle.zst_line.specs.declared.kind.Kind.{Kind}
use Rattle.zst_line.specs.declared.kind.Kind.TheVariants as kinds
use Rattle.zst_line.specs.declared.line.Line.TheVariants as lines
use Rattle.zst_line.specs.declared.name_kinds.NameKind.{NameKind}
use Rattle.zst_line.specs.declared.name_kinds.NameKind.TheVariants as name_kinds
use Rattle.zst_line.specs.declared.word_slot.WordSlot.TheVariants as slots
use Rattle.zst_line.specs.Grammar.{dataset_or_snapshot, places_of, word_of}
use Rattle.zst_line.specs.Line.{as_name}
use Rattle.zst_line.specs.NameKinds.{IsNameOf, kind_of_name, takes}
use Rattle.zst_line.specs.WordFaults.{Takes}
use Rattle.zst_line.proofs.FirstWords.{same_kind}
use Rattle.zst_line.proofs.OptionPlaces.{last_takes}
use Rattle.zst_model.specs.declared.refusals.subjects.Name.{Name}
use Rattle.zst_script.specs.Asks.{receipt_of}
use Rattle.zst_script.specs.Lines.{AreLine}
use Rattle.zst_script.specs.declared.event.Event.TheVariants as events
use Rattle.zst_interleaving.specs.LawfulFeeds.{IsAsk}
use Rattle.zst_interleaving.specs.LawfulWorlds.{LinesAreFit}

-- a name of a dataset or of a snapshot asks for a target, and for a snapshot
asks_of_kind : (keeps forces : Bool) (origin : Option (List ℕ)) (kind : NameKind) (word : List ℕ) → takes dataset_or_snapshot kind ≡ true → IsNameOf kind word → IsAsk (receipt_of keeps forces origin (as_name kind word))
asks_of_kind keeps forces origin name_kinds.Dataset word taken is = record { target = is; snapshot = tt }
asks_of_kind keeps forces origin name_kinds.Snapshot word taken is = record { target = is.0; snapshot = is }
asks_of_kind keeps forces origin name_kinds.Bookmark word taken is = absurd (false≢true taken)

-- the last of words that end in two
last_is : (options : List (List ℕ)) (image word : List ℕ) (before : ℕ) → length (options ++ image ∷ word ∷ []) ≡ suc (suc before) → get_or (options ++ image ∷ word ∷ []) (suc before) [] ≡ word
last_is [] image word zero long = refl
last_is [] image word (suc before) long = absurd (omega (arith, long))
last_is (option ∷ options) image word zero long = absurd (omega (arith, long, length-append options (image ∷ word ∷ [])))
last_is (option ∷ options) image word (suc before) long = last_is options image word before (omega (arith, long))

-- the word that a receive is into is a name
into_name : (words rest options : List (List ℕ)) (image word : List ℕ) (kind : Kind) → words ≡ word_of kind ∷ rest → words ≡ codes "receive" ∷ (options ++ image ∷ word ∷ [])
    → AllZip Takes (places_of kind rest) rest → Takes (slots.Name dataset_or_snapshot) word
into_name words rest options image word kind spelled begins fits =
    let same = same_kind kind kinds.Receive rest (options ++ image ∷ word ∷ []) (sym spelled ∙ begins) in
    let both : word_of kind ∷ rest ≡ codes "receive" ∷ (options ++ image ∷ word ∷ []) = sym spelled ∙ begins in
    let rest_is : rest ≡ options ++ image ∷ word ∷ [] = cc both in
    let end = last_takes kinds.Receive slots.Image (slots.Name dataset_or_snapshot) rest (λ count. refl) (subst (λ (k : Kind). AllZip Takes (places_of k rest) rest) same fits) in
    let long : length (options ++ image ∷ word ∷ []) ≡ suc (suc end.before) = ap (λ (l : List (List ℕ)). length l) (sym rest_is) ∙ end.long in
    let last : get_or rest (suc end.before) [] ≡ word = ap (λ (l : List (List ℕ)). get_or l (suc end.before) []) rest_is ∙ last_is options image word end.before long in
    subst (λ (w : List ℕ). Takes (slots.Name dataset_or_snapshot) w) last end.takes

line_asks : (image : List ℕ) (keeps forces : Bool) (origin : Option (List ℕ)) (target : Name) (words : List (List ℕ)) → AreLine (lines.Receive image keeps forces origin target) words → IsAsk (receipt_of keeps forces origin target)
line_asks image keeps forces origin target words (said, is) =
    let named = into_name words said.rest is.2.0 image is.0 said.kind said.spelled is.2.1 said.fact in
    subst (λ (n : Name). IsAsk (receipt_of keeps forces origin n)) (sym is.1) (asks_of_kind keeps forces origin (kind_of_name is.0) is.0 named.0.1 named.1)

pub lines_fit : LinesAreFit
lines_fit (events.Step side command) words is = is.1.1.1.1
lines_fit (events.Receive side id ask) words is = subst IsAsk (sym is.2.0) (line_asks _ ask.keep ask.force ask.origin is.1 _ is.2.3)
lines_fit (events.Token side dataset) words is = tt
lines_fit (events.Check side) words is = tt
lines_fit (events.Send side id ask) words is = tt
lines_fit (events.Resume side id dataset) words is = tt
lines_fit (events.Pump sends receives count) words is = tt
lines_fit (events.Drop sends count) words is = tt
lines_fit (events.Close id) words is = tt
lines_fit (events.Cut id) words is = tt
lines_fit (events.Reopen side) words is = tt
