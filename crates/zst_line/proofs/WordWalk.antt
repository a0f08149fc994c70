-- The words of a line and their places, taken one by one.
use Rattle.std.proofs.Common.{◌≡◌, ℕ, zero, suc, replicate, ◌+◌, ◌<◌, ◌≤◌, List, [], ◌∷◌, length, map, get_or, drop, string_bytes, String, Global, refl, inl, inr, arith, add-one}
use Rattle.std.proofs.Math.Seq.{drop-cons}
use Rattle.std.proofs.lemmas.List.{drop_all, get_or-map}
use Rattle.std.proofs.lemmas.Bool.{cases_lt}
use Rattle.std.proofs.lemmas.List.Elements.{All-from_recursion}
use Rattle.std.specs.List.{All, AllZip, AllByRecursion}
use Rattle.zst_line.specs.declared.kind.Kind.TheVariants as kinds
use Rattle.zst_line.specs.declared.line.LineFault.{LineFault}
use Rattle.zst_line.specs.declared.word_slot.WordSlot.{WordSlot}
use Rattle.zst_line.specs.declared.word_slot.WordSlot.TheVariants.{Image, Name}
use Rattle.zst_line.specs.Grammar.{last_snapshots, named, snapshot, word_at}
use Rattle.zst_line.specs.WordFaults.{Fits, Stops, IsReadAt, FirstMisread, Misread, Takes}

-- what stands from a place on
pub drop_at : {X : Type 0} → (xs : List X) (i : ℕ) (d : X) → i < length xs → drop i xs ≡ get_or xs i d ∷ drop (i + 1) xs
drop_at xs i d h = rw add-one (drop-cons xs i d h)

-- the words before an index fit their places: what stands from there on decides
pub record Decided (slots : List WordSlot) (words : List (List ℕ)) (i : ℕ) : Type 0 where
  pub fit : AllZip Fits (drop i slots) (drop i words) → AllZip Fits slots words
  pub stop : (at : ℕ) → Stops (i + 1) (drop i slots) (drop i words) at → Stops 1 slots words at

pub decided_first : (slots : List WordSlot) (words : List (List ℕ)) → Decided slots words 0
decided_first slots words = record { fit = λ h. h; stop = λ at h. h }

pub decided_next : (slots : List WordSlot) (words : List (List ℕ)) (i : ℕ) (slot : WordSlot) → i < length slots → i < length words → slot ≡ get_or slots i slot
    → Fits slot (word_at words i) → Decided slots words i → Decided slots words (i + 1)
decided_next slots words i slot hs hw is fits d =
    let slots_here : drop i slots ≡ slot ∷ drop (i + 1) slots = rw is (drop_at slots i slot hs) in
    let words_here = drop_at words i [] hw in record {
      fit = λ h. d.fit (rw (slots_here, words_here) (fits, h));
      stop = λ at h. d.stop at (rw (slots_here, words_here) (inr (fits, h)));
    }

-- the word at the index doesn't fit, or is missing
pub stops_here : (slots : List WordSlot) (words : List (List ℕ)) (i : ℕ) (slot : WordSlot) → i < length slots → slot ≡ get_or slots i slot
    → ¬ ((i < length words) × Fits slot (word_at words i)) → Decided slots words i → Stops 1 slots words (i + 1)
stops_here slots words i slot hs is other d =
    let slots_here : drop i slots ≡ slot ∷ drop (i + 1) slots = rw is (drop_at slots i slot hs) in
    elim (cases_lt i (length words)) [
      | inl hw ↦ d.stop (i + 1) (rw (slots_here, drop_at words i [] hw) (inl (λ fits. other (hw, fits), refl)))
      | inr hw ↦ d.stop (i + 1) (rw (slots_here, drop_all i words hw) refl)
    ]

-- all words fit, and there are no others
pub fit_all : (slots : List WordSlot) (words : List (List ℕ)) → length words ≤ length slots → Decided slots words (length slots) → AllZip Fits slots words
fit_all slots words h d = d.fit (rw (drop_all (length slots) slots (omega arith), drop_all (length slots) words h) tt)

-- all words that have a place fit, and there are others
pub stops_behind : (slots : List WordSlot) (words : List (List ℕ)) → length slots < length words → Decided slots words (length slots)
    → Stops 1 slots words (length slots + 1)
stops_behind slots words h d =
    d.stop (length slots + 1) (rw (drop_all (length slots) slots (omega arith), drop_at words (length slots) [] h) refl)

-- the word at a place, of texts
pub word_here : (words : List (String Global)) (i : ℕ) (d : String Global) → i < length words → word_at (map string_bytes words) i ≡ string_bytes (get_or words i d)
word_here words i d h = get_or-map string_bytes words i d [] h

-- the words before an index are names and tokens where one has to stand: what stands from there on decides
pub record Named (slots : List WordSlot) (words : List (List ℕ)) (i : ℕ) : Type 0 where
  pub names : AllZip IsReadAt (drop i slots) (drop i words) → AllZip IsReadAt slots words
  pub stop : (fault : LineFault) → FirstMisread (drop i slots) (drop i words) fault → FirstMisread slots words fault

pub named_first : (slots : List WordSlot) (words : List (List ℕ)) → Named slots words 0
named_first slots words = record { names = λ h. h; stop = λ fault h. h }

pub named_next : (slots : List WordSlot) (words : List (List ℕ)) (i : ℕ) → i < length slots → i < length words → IsReadAt (get_or slots i Image) (word_at words i) → Named slots words i → Named slots words (i + 1)
named_next slots words i hs hw name d =
    let slots_here = drop_at slots i Image hs in
    let words_here = drop_at words i [] hw in record {
      names = λ h. d.names (rw (slots_here, words_here) (name, h));
      stop = λ fault h. d.stop fault (rw (slots_here, words_here) (inr (name, h)));
    }

pub misread_here : (slots : List WordSlot) (words : List (List ℕ)) (i : ℕ) (fault : LineFault) → i < length slots → i < length words → Misread (get_or slots i Image) (word_at words i) fault → Named slots words i → FirstMisread slots words fault
misread_here slots words i fault hs hw stops d = d.stop fault (rw (drop_at slots i Image hs, drop_at words i [] hw) (inl stops))

pub names_all : (slots : List WordSlot) (words : List (List ℕ)) → length words ≡ length slots → Named slots words (length slots) → AllZip IsReadAt slots words
names_all slots words h d = d.names (rw (drop_all (length slots) slots (omega arith), drop_all (length slots) words (omega arith)) tt)

-- words that fit and are names and tokens are taken
pub both : (slots : List WordSlot) (words : List (List ℕ)) → AllZip Fits slots words → AllZip IsReadAt slots words → AllZip Takes slots words
both [] [] fits names = tt
both [] (word ∷ words) fits names = absurd fits
both (slot ∷ slots) [] fits names = absurd fits
both (slot ∷ slots) (word ∷ words) fits names = ((fits.0, names.0), both slots words fits.1 names.1)

pub three_words : (words : List (List ℕ)) → length words ≡ 3 → words ≡ word_at words 0 ∷ word_at words 1 ∷ word_at words 2 ∷ []
three_words [] e = absurd (omega arith)
three_words (a ∷ []) e = absurd (omega arith)
three_words (a ∷ b ∷ []) e = absurd (omega arith)
three_words (a ∷ b ∷ c ∷ []) e = refl
three_words (a ∷ b ∷ c ∷ d ∷ words) e = absurd (omega arith)

taken_in_turn : (count : ℕ) (slot : WordSlot) (words : List (List ℕ)) → AllZip Takes (replicate count slot) words → AllByRecursion (Takes slot) words
taken_in_turn zero slot [] fits = tt
taken_in_turn zero slot (word ∷ words) fits = absurd fits
taken_in_turn (suc count) slot [] fits = absurd fits
taken_in_turn (suc count) slot (word ∷ words) fits = (fits.0, taken_in_turn count slot words fits.1)

-- words at places that take the same
pub all_taken : (count : ℕ) (slot : WordSlot) (words : List (List ℕ)) → AllZip Takes (replicate count slot) words → All (Takes slot) words
all_taken count slot words fits = All-from_recursion (Takes slot) words (taken_in_turn count slot words fits)

-- the last snapshots of a redaction
pub snapshots_taken : (words : List (List ℕ)) → AllZip Takes (named kinds.Redact (length words)) words → All (Takes (Name snapshot)) (drop 3 words)
snapshots_taken [] fits = absurd fits
snapshots_taken (a ∷ []) fits = absurd fits.1
snapshots_taken (a ∷ b ∷ []) fits = absurd fits.1.1
snapshots_taken (a ∷ b ∷ c ∷ words) fits = all_taken (last_snapshots kinds.Redact (length (a ∷ b ∷ c ∷ words))) (Name snapshot) words fits.1.1.1
