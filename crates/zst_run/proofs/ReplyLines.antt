-- The lines of a reply, one after the other.
use Rattle.std.specs.Prelude.{Result, Ok, Err, codes}
use Rattle.std.proofs.Common.{◌≡◌, ℕ, ◌+◌, ◌<◌, List, [], ◌∷◌, ◌++◌, length, get_or, take, drop, take-append-drop, refl, sym, ap, ◌∙◌, subst, add-one, drop-cons}
use Rattle.std.specs.Fmt.{digits}
use Rattle.std.proofs.lemmas.Grind.{flat_map-append}
use Rattle.std.proofs.lemmas.List.{append-nil, take_more}
use Rattle.zst_outside.specs.Printing.{Prints}
use Rattle.zst_outside.specs.States.{SinkState, HandedOn}
use Rattle.zst_model.specs.pools.AnswerLines.{ok_line}
use Rattle.zst_model.specs.declared.refusals.refusal.Refusal.{Refusal}
use Rattle.zst_model.specs.declared.refusals.refusal.Refusal.TheVariants as refusals
use Rattle.zst_run.specs.Replies.{Replied, Replies, reply_text}

-- a line with its line feed
abbrev pub ended : List ℕ → List ℕ
ended line = line ++ codes "\n"

-- the text of lines is that of those before a place, of the one there, and of those behind it
pub reply_at : (lines : List (List ℕ)) (i : ℕ) (d : List ℕ) → i < length lines
    → reply_text lines ≡ reply_text (take i lines) ++ (ended (get_or lines i d) ++ reply_text (drop (i + 1) lines))
reply_at lines i d h =
    ap reply_text (sym (take-append-drop i lines)) ∙ flat_map-append ended (take i lines) (drop i lines)
    ∙ (let e : drop i lines ≡ get_or lines i d ∷ drop (i + 1) lines = rw add-one (drop-cons lines i d h) in ap (λ (rest : List (List ℕ)). reply_text (take i lines) ++ reply_text rest) e)

-- with one line more
pub reply_more : (lines : List (List ℕ)) (i : ℕ) (d : List ℕ) → i < length lines → reply_text (take (i + 1) lines) ≡ reply_text (take i lines) ++ ended (get_or lines i d)
reply_more lines i d h =
    ap reply_text (take_more lines i d h) ∙ flat_map-append ended (take i lines) (get_or lines i d ∷ [])
    ∙ ap (λ (t : List ℕ). reply_text (take i lines) ++ t) (append-nil (ended (get_or lines i d)))

-- the answer of what writes the lines
pub replied_all : {E : Type 0} (out out' : SinkState) (lines : List (List ℕ)) → Prints {E = E} out out' (reply_text lines) (Ok (tt {0})) → HandedOn out' → Replied out out' (Ok lines) (Ok (tt {0}))
replied_all out out' lines prints handed_on = (record { front = prints.front; whole = prints.whole; fault = tt }, handed_on, tt)

pub replied_front : {E : Type 0} (out out' : SinkState) (lines : List (List ℕ)) (fault : E) → Prints {T = Unit {0}} out out' (reply_text lines) (Err fault)
    → Replied out out' (Ok lines) (Err refusals.SinkFault)
replied_front out out' lines fault prints = (record { front = prints.front; whole = tt; fault = prints.fault }, tt, refl)

-- and of what writes one line
pub line_written : {E : Type 0} (out out' : SinkState) (line : List ℕ) → Prints {E = E} out out' (line ++ codes "\n") (Ok (tt {0})) → HandedOn out' → Replied out out' (Ok (line ∷ [])) (Ok (tt {0}))
line_written {E = E} out out' line prints handed_on =
    replied_all out out' (line ∷ []) (subst (λ (text : List ℕ). Prints {T = Unit {0}} {E = E} out out' text (Ok (tt {0}))) (sym (append-nil (line ++ codes "\n"))) prints) handed_on

-- what is refused writes nothing
pub replies_refused : (Is : Result (List (List ℕ)) Refusal → Type 0) (out : SinkState) (refusal : Refusal) → Is (Err refusal) → Replies Is out out (Err refusal)
replies_refused Is out refusal is = record { answer = Err refusal; does = is; replied = (refl, refl) }

pub replies_lines : (Is : Result (List (List ℕ)) Refusal → Type 0) (out out' : SinkState) (lines : List (List ℕ)) (result : Result (Unit {0}) Refusal)
    → Is (Ok lines) → Replied out out' (Ok lines) result → Replies Is out out' result
replies_lines Is out out' lines result is replied = record { answer = Ok lines; does = is; replied = replied }

-- the line of a new pool
pub first_written : {E : Type 0} (out out' : SinkState) → Prints {E = E} out out' (codes "ok 1\n") (Ok (tt {0})) → HandedOn out' → Replied out out' (Ok (ok_line 1 ∷ [])) (Ok (tt {0}))
unfolding digits
first_written out out' prints handed_on = replied_all out out' (ok_line 1 ∷ []) prints handed_on

pub first_lost : {E : Type 0} (out out' : SinkState) (fault : E) → Prints {T = Unit {0}} out out' (codes "ok 1\n") (Err fault)
    → Replied out out' (Ok (ok_line 1 ∷ [])) (Err refusals.SinkFault)
unfolding digits
first_lost out out' fault prints = replied_front out out' (ok_line 1 ∷ []) fault prints
