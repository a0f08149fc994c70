-- No words have two answers.
use Rattle.std.proofs.Common.{◌≡◌, ◌≢◌, ℕ, ◌+◌, List, [], ◌∷◌, drop, Result, Ok, Err, is_ok, refl, sym, ap, ◌∙◌, inl, inr}
use Rattle.std.proofs.lemmas.Bool.{false≢true}
use Rattle.std.proofs.lemmas.List.{take-append-drop}
use Rattle.std.specs.List.{AllZip}
use Rattle.zst_names.specs.Names.{StopsAt}
use Rattle.zst_names.proofs.Places.{same_place}
use Rattle.zst_token.specs.declared.fault.TokenFault.{TokenFault}
use Rattle.zst_token.specs.declared.token.Token as tokens
use Rattle.zst_line.specs.declared.line.LineFault.{LineFault}
use Rattle.zst_line.specs.declared.line.LineFault.TheVariants as faults
use Rattle.zst_line.specs.declared.word_slot.WordSlot.{WordSlot}
use Rattle.zst_line.specs.declared.word_slot.WordSlot.TheVariants.{Token, Name}
use Rattle.zst_line.specs.Grammar.{word_of, places_of}
use Rattle.zst_line.specs.WordFaults.{Fits, Stops, IsReadAt, Misread, FirstMisread, OfLine, UsageAt, MisreadAs, Takes, IsLine}
use Rattle.zst_line.specs.NameKinds.{IsNameOf, kind_of_name}
use Rattle.zst_line.specs.Line.{LineAnswers, OneAnswer}
use Rattle.zst_line.proofs.FirstWords.{same_kind}
use Rattle.zst_line.proofs.SameLine.{same_line}

-- what one fact says of words it says beside another
moved : (P Q : List WordSlot → List (List ℕ) → Type 0) (words : List (List ℕ)) (p : OfLine P words) → OfLine Q words → Q (places_of p.kind p.rest) p.rest
moved P Q words p q =
    let e : word_of p.kind ∷ p.rest ≡ word_of q.kind ∷ q.rest = sym p.spelled ∙ q.spelled in
    let rest : p.rest ≡ q.rest = ap (λ words. drop 1 words) e in
    rw (same_kind p.kind q.kind p.rest q.rest e, rest) q.fact

-- places and names stop once
fit_and_stop : (slots : List WordSlot) (words : List (List ℕ)) (place at : ℕ) → AllZip Fits slots words → Stops place slots words at → ⊥
fit_and_stop [] [] place at fits stops = stops
fit_and_stop [] (word ∷ words) place at fits stops = fits
fit_and_stop (slot ∷ slots) [] place at fits stops = fits
fit_and_stop (slot ∷ slots) (word ∷ words) place at fits (inl here) = here.0 fits.0
fit_and_stop (slot ∷ slots) (word ∷ words) place at fits (inr later) = fit_and_stop slots words (place + 1) at fits.1 later.1

stop_once : (slots : List WordSlot) (words : List (List ℕ)) (place a b : ℕ) → Stops place slots words a → Stops place slots words b → a ≡ b
stop_once [] [] place a b p q = absurd p
stop_once [] (word ∷ words) place a b p q = p ∙ sym q
stop_once (slot ∷ slots) [] place a b p q = p ∙ sym q
stop_once (slot ∷ slots) (word ∷ words) place a b (inl p) (inl q) = p.1 ∙ sym q.1
stop_once (slot ∷ slots) (word ∷ words) place a b (inl p) (inr q) = absurd (p.0 q.0)
stop_once (slot ∷ slots) (word ∷ words) place a b (inr p) (inl q) = absurd (q.0 p.0)
stop_once (slot ∷ slots) (word ∷ words) place a b (inr p) (inr q) = stop_once slots words (place + 1) a b p.1 q.1

is_and_stops : (IsOne : List ℕ → Type 0) (word : List ℕ) (at : ℕ) → IsOne word → StopsAt IsOne word at → ⊥
is_and_stops IsOne word at is stops =
    elim stops.stops [
      | inl here ↦ here.1 (drop (at + 1) word, rw take-append-drop is)
      | inr end ↦ end.1 is
    ]

read_and_misread : (slot : WordSlot) (word : List ℕ) (fault : LineFault) → IsReadAt slot word → Misread slot word fault → ⊥
read_and_misread (Name names) word (faults.BadName at) is stops = is_and_stops (IsNameOf (kind_of_name word)) word at is stops
read_and_misread Token word (faults.BadToken at) is stops = absurd (false≢true (ap is_ok (sym stops) ∙ is))
read_and_misread slot word fault is stops = stops

-- what is misread has one fault
abbrev place_of : Result tokens.Token TokenFault → ℕ
place_of (Ok token) = 0
place_of (Err fault) = fault.place

same_misread : (slot : WordSlot) (word : List ℕ) (a b : LineFault) → Misread slot word a → Misread slot word b → a ≡ b
same_misread (Name names) word (faults.BadName a) (faults.BadName b) p q = ap faults.BadName (same_place (IsNameOf (kind_of_name word)) word a b p q)
same_misread (Name names) word (faults.BadName a) other p q = absurd q
same_misread Token word (faults.BadToken a) (faults.BadToken b) p q = ap faults.BadToken (ap place_of (sym p ∙ q))
same_misread Token word (faults.BadToken a) other p q = absurd q
same_misread slot word fault other p q = absurd p

all_read_and_misread : (slots : List WordSlot) (words : List (List ℕ)) (fault : LineFault) → AllZip IsReadAt slots words → FirstMisread slots words fault → ⊥
all_read_and_misread [] words fault names stops = stops
all_read_and_misread (slot ∷ slots) [] fault names stops = stops
all_read_and_misread (slot ∷ slots) (word ∷ words) fault names (inl here) = read_and_misread slot word fault names.0 here
all_read_and_misread (slot ∷ slots) (word ∷ words) fault names (inr later) = all_read_and_misread slots words fault names.1 later.1

misread_once : (slots : List WordSlot) (words : List (List ℕ)) (a b : LineFault) → FirstMisread slots words a → FirstMisread slots words b → a ≡ b
misread_once [] words a b p q = absurd p
misread_once (slot ∷ slots) [] a b p q = absurd p
misread_once (slot ∷ slots) (word ∷ words) a b (inl p) (inl q) = same_misread slot word a b p q
misread_once (slot ∷ slots) (word ∷ words) a b (inl p) (inr q) = absurd (read_and_misread slot word a q.0 p)
misread_once (slot ∷ slots) (word ∷ words) a b (inr p) (inl q) = absurd (read_and_misread slot word b p.0 q)
misread_once (slot ∷ slots) (word ∷ words) a b (inr p) (inr q) = misread_once slots words a b p.1 q.1

-- what each answer says of the places
abbrev StopsFact : ℕ → List WordSlot → List (List ℕ) → Type 0
StopsFact at slots rest = Stops 1 slots rest at

abbrev MisreadFact : LineFault → List WordSlot → List (List ℕ) → Type 0
MisreadFact fault slots rest = AllZip Fits slots rest × FirstMisread slots rest fault

abbrev LineFact : List WordSlot → List (List ℕ) → Type 0
LineFact slots rest = AllZip Takes slots rest

all_fit : (slots : List WordSlot) (words : List (List ℕ)) → AllZip Takes slots words → AllZip Fits slots words
all_fit [] [] takes = tt
all_fit [] (word ∷ words) takes = absurd takes
all_fit (slot ∷ slots) [] takes = absurd takes
all_fit (slot ∷ slots) (word ∷ words) takes = (takes.0.0, all_fit slots words takes.1)

all_read : (slots : List WordSlot) (words : List (List ℕ)) → AllZip Takes slots words → AllZip IsReadAt slots words
all_read [] [] takes = tt
all_read [] (word ∷ words) takes = absurd takes
all_read (slot ∷ slots) [] takes = absurd takes
all_read (slot ∷ slots) (word ∷ words) takes = (takes.0.1, all_read slots words takes.1)

-- words that all fit their places have no fault of usage
fit_is_no_usage : (P : List WordSlot → List (List ℕ) → Type 0) (words : List (List ℕ)) (at : ℕ) → ((slots : List WordSlot) (rest : List (List ℕ)) → P slots rest → AllZip Fits slots rest)
    → OfLine P words → UsageAt words at → ⊥
fit_is_no_usage P words at fit p (inl none) = none.0 p.kind p.rest p.spelled
fit_is_no_usage P words at fit p (inr q) = fit_and_stop (places_of p.kind p.rest) p.rest 1 at (fit (places_of p.kind p.rest) p.rest p.fact) (moved P (StopsFact at) words p q)

usage_once : (words : List (List ℕ)) (a b : ℕ) → UsageAt words a → UsageAt words b → a ≡ b
usage_once words a b (inl p) (inl q) = p.1 ∙ sym q.1
usage_once words a b (inl p) (inr q) = absurd (p.0 q.kind q.rest q.spelled)
usage_once words a b (inr p) (inl q) = absurd (q.0 p.kind p.rest p.spelled)
usage_once words a b (inr p) (inr q) = stop_once (places_of p.kind p.rest) p.rest 1 a b p.fact (moved (StopsFact a) (StopsFact b) words p q)

misread_so_once : (words : List (List ℕ)) (a b : LineFault) → MisreadAs a words → MisreadAs b words → a ≡ b
misread_so_once words a b p q = misread_once (places_of p.kind p.rest) p.rest a b p.fact.1 (moved (MisreadFact a) (MisreadFact b) words p q).1

read_is_not_misread : (words : List (List ℕ)) (fault : LineFault) → IsLine words → MisreadAs fault words → ⊥
read_is_not_misread words fault p q = all_read_and_misread (places_of p.kind p.rest) p.rest fault (all_read (places_of p.kind p.rest) p.rest p.fact) (moved LineFact (MisreadFact fault) words p q).1

line_has_no_fault : (words : List (List ℕ)) (fault : LineFault) → IsLine words → LineAnswers words (Err fault) → fault ≢ faults.Memory → ⊥
line_has_no_fault words (faults.Usage at) line answer other = fit_is_no_usage LineFact words at all_fit line answer
line_has_no_fault words (faults.BadName at) line answer other = read_is_not_misread words (faults.BadName at) line answer
line_has_no_fault words (faults.BadToken at) line answer other = read_is_not_misread words (faults.BadToken at) line answer
line_has_no_fault words faults.Memory line answer other = other refl

misread_fits : (fault : LineFault) (slots : List WordSlot) (rest : List (List ℕ)) → MisreadFact fault slots rest → AllZip Fits slots rest
misread_fits fault slots rest h = h.0

one_fault : (words : List (List ℕ)) (one two : LineFault) → LineAnswers words (Err one) → LineAnswers words (Err two) → one ≢ faults.Memory → two ≢ faults.Memory → one ≡ two
one_fault words faults.Memory two p q m n = absurd (m refl)
one_fault words one faults.Memory p q m n = absurd (n refl)
one_fault words (faults.Usage a) (faults.Usage b) p q m n = ap faults.Usage (usage_once words a b p q)
one_fault words (faults.Usage a) (faults.BadName b) p q m n = absurd (fit_is_no_usage (MisreadFact (faults.BadName b)) words a (misread_fits (faults.BadName b)) q p)
one_fault words (faults.Usage a) (faults.BadToken b) p q m n = absurd (fit_is_no_usage (MisreadFact (faults.BadToken b)) words a (misread_fits (faults.BadToken b)) q p)
one_fault words (faults.BadName a) (faults.Usage b) p q m n = absurd (fit_is_no_usage (MisreadFact (faults.BadName a)) words b (misread_fits (faults.BadName a)) p q)
one_fault words (faults.BadToken a) (faults.Usage b) p q m n = absurd (fit_is_no_usage (MisreadFact (faults.BadToken a)) words b (misread_fits (faults.BadToken a)) p q)
one_fault words (faults.BadName a) (faults.BadName b) p q m n = misread_so_once words (faults.BadName a) (faults.BadName b) p q
one_fault words (faults.BadName a) (faults.BadToken b) p q m n = misread_so_once words (faults.BadName a) (faults.BadToken b) p q
one_fault words (faults.BadToken a) (faults.BadName b) p q m n = misread_so_once words (faults.BadToken a) (faults.BadName b) p q
one_fault words (faults.BadToken a) (faults.BadToken b) p q m n = misread_so_once words (faults.BadToken a) (faults.BadToken b) p q

pub one_answer : OneAnswer
one_answer words (Ok one) (Ok other) p q m n = ap Ok (same_line one other words p.1 q.1)
one_answer words (Ok one) (Err fault) p q m n = absurd (line_has_no_fault words fault p.0 q (λ e. n (ap Err e)))
one_answer words (Err fault) (Ok other) p q m n = absurd (line_has_no_fault words fault q.0 p (λ e. m (ap Err e)))
one_answer words (Err one) (Err two) p q m n = ap Err (one_fault words one two p q (λ e. m (ap Err e)) (λ e. n (ap Err e)))
