-- No line says two events.
use Rattle.std.proofs.Common.{◌≡◌, ℕ, false, bytes_eq, List, ◌∷◌, [], drop, codes, decimal, refl, sym, ap, ◌∙◌, subst, arith}
use Rattle.std.proofs.lemmas.Bool.{false≢true}
use Rattle.std.proofs.lemmas.Fmt.{decimal_injective}
use Rattle.std.proofs.lemmas.Slice.Eq.{bytes_eq-Decides}
use Rattle.zst_line.specs.declared.line.Line.{Line}
use Rattle.zst_line.specs.declared.line.Line.TheVariants as lines
use Rattle.zst_line.specs.Grammar.{word_at}
use Rattle.zst_line.proofs.SameLine.{same_line}
use Rattle.zst_script.specs.Asks.{ask_of, receipt_of}
use Rattle.zst_script.specs.Lines.{AreLine, EventIs, IsCount, IsId, OnPool, before_last, with_image, word_for}
use Rattle.zst_script.specs.Scripts.{OneEvent}
use Rattle.zst_script.specs.declared.event.Event.{Event}
use Rattle.zst_script.specs.declared.event.Event.TheVariants as events
use Rattle.zst_script.specs.declared.event.Side.{Side}
use Rattle.zst_script.specs.declared.event.Side.TheVariants.{Here, There}
use Rattle.zst_script.proofs.EventForms.{form_is, form_of}

same_id : (a b : ℕ) → IsId a → IsId b → decimal a ≡ decimal b → a ≡ b
same_id a b small fits = decimal_injective a b (omega arith) (omega arith)

same_count : (a b : ℕ) → IsCount a → IsCount b → decimal a ≡ decimal b → a ≡ b
same_count a b small fits =
    let one = small.1 in
    let other = fits.1 in
    decimal_injective a b (omega arith) (omega arith)

clash : (word other : List ℕ) → bytes_eq word other ≡ false → word ≡ other → ⊥
clash word other differs same = false≢true (sym differs ∙ (bytes_eq-Decides word other).1 same)

same_side : (a b : Side) → word_for a ≡ word_for b → a ≡ b
same_side Here Here e = refl
same_side Here There e = absurd (clash (codes "here") (codes "there") refl e)
same_side There Here e = absurd (clash (codes "there") (codes "here") refl e)
same_side There There e = refl

-- words on two pools are on one, and the same stand behind the word for it
record SamePool (a b : Side) (rest more : List (List ℕ)) : Type 0 where
  side : a ≡ b
  behind : rest ≡ more

same_pool : (a b : Side) (rest more words : List (List ℕ)) → OnPool a rest words → OnPool b more words → SamePool a b rest more
same_pool a b rest more words p q =
    let same : word_for a ∷ rest ≡ word_for b ∷ more = sym p ∙ q in
    record { side = same_side a b (ap (λ (w : List (List ℕ)). word_at w 0) same); behind = ap (λ (w : List (List ℕ)). drop 1 w) same }

-- lines that are read of the same words, each with the image of its pool, are one
same_read : (read : List ℕ → List (List ℕ) → List (List ℕ)) (a b : Side) (rest more : List (List ℕ)) (line other : Line) → SamePool a b rest more
    → AreLine line (read (word_for a) rest) → AreLine other (read (word_for b) more) → line ≡ other
same_read read a b rest more line other same p q =
    let words : read (word_for b) more ≡ read (word_for a) rest = ap (λ (w : List ℕ). read w more) (sym (ap word_for same.side)) ∙ ap (read (word_for a)) (sym same.behind) in
    same_line line other (read (word_for a) rest) p.1 (subst (AreLine other) words q).1

one_event : (a b : Event) (words : List (List ℕ)) → EventIs a words → EventIs b words → a ≡ b
one_event (events.Step side command) (events.Step other command') words p q =
    let same = same_pool side other p.0 q.0 words p.1.0 q.1.0 in
    let side_is = same.side in
    let line = same_read with_image side other p.0 q.0 (lines.Step (word_for side) command) (lines.Step (word_for other) command') same p.1.1 q.1.1 in
    cc
one_event (events.Token side dataset) (events.Token other dataset') words p q =
    let same = same_pool side other p.0 q.0 words p.1.0 q.1.0 in
    let side_is = same.side in
    let line = same_read with_image side other p.0 q.0 (lines.Token (word_for side) dataset) (lines.Token (word_for other) dataset') same p.1.1 q.1.1 in
    cc
one_event (events.Step side command) (events.Token other dataset) words p q =
    let same = same_pool side other p.0 q.0 words p.1.0 q.1.0 in
    cc (same_read with_image side other p.0 q.0 (lines.Step (word_for side) command) (lines.Token (word_for other) dataset) same p.1.1 q.1.1)
one_event (events.Token side dataset) (events.Step other command) words p q =
    let same = same_pool side other p.0 q.0 words p.1.0 q.1.0 in
    cc (same_read with_image side other p.0 q.0 (lines.Token (word_for side) dataset) (lines.Step (word_for other) command) same p.1.1 q.1.1)
one_event (events.Check side) (events.Check other) words p q = ap events.Check (same_pool side other p.0 q.0 words p.1.0 q.1.0).side
one_event (events.Step side command) (events.Check other) words p q =
    let same = same_pool side other p.0 q.0 words p.1.0 q.1.0 in
    cc (same_read with_image side other p.0 q.0 (lines.Step (word_for side) command) (lines.Check (word_for other)) same p.1.1 q.1.1)
one_event (events.Check side) (events.Step other command) words p q =
    let same = same_pool side other p.0 q.0 words p.1.0 q.1.0 in
    cc (same_read with_image side other p.0 q.0 (lines.Check (word_for side)) (lines.Step (word_for other) command) same p.1.1 q.1.1)
one_event (events.Token side dataset) (events.Check other) words p q =
    let same = same_pool side other p.0 q.0 words p.1.0 q.1.0 in
    cc (same_read with_image side other p.0 q.0 (lines.Token (word_for side) dataset) (lines.Check (word_for other)) same p.1.1 q.1.1)
one_event (events.Check side) (events.Token other dataset) words p q =
    let same = same_pool side other p.0 q.0 words p.1.0 q.1.0 in
    cc (same_read with_image side other p.0 q.0 (lines.Check (word_for side)) (lines.Token (word_for other) dataset) same p.1.1 q.1.1)
one_event (events.Send side id ask) (events.Send other number ask') words p q =
    let pools = same_pool side other (codes "send" ∷ decimal id ∷ p.0) (codes "send" ∷ decimal number ∷ q.0) words p.2.2 q.2.2 in
    let side_is = pools.side in
    let id_is = same_id id number p.2.1 q.2.1 (ap (λ (w : List (List ℕ)). word_at w 1) pools.behind) in
    let same : SamePool side other p.0 q.0 = record { side = pools.side; behind = ap (λ (w : List (List ℕ)). drop 2 w) pools.behind } in
    let line = same_read (λ image rest. codes "send" ∷ before_last image rest) side other p.0 q.0 (lines.Send (word_for side) p.1 ask.redact ask.snap) (lines.Send (word_for other) q.1 ask'.redact ask'.snap) same p.2.3 q.2.3 in
    let one = p.2.0 in
    let two = q.2.0 in
    let asks : ask_of p.1 ask.redact ask.snap ≡ ask_of q.1 ask'.redact ask'.snap = cc in
    let ask_is : ask ≡ ask' = one ∙ asks ∙ sym two in
    cc
one_event (events.Receive side id ask) (events.Receive other number ask') words p q =
    let pools = same_pool side other (codes "receive" ∷ decimal id ∷ p.0) (codes "receive" ∷ decimal number ∷ q.0) words p.2.2 q.2.2 in
    let side_is = pools.side in
    let id_is = same_id id number p.2.1 q.2.1 (ap (λ (w : List (List ℕ)). word_at w 1) pools.behind) in
    let same : SamePool side other p.0 q.0 = record { side = pools.side; behind = ap (λ (w : List (List ℕ)). drop 2 w) pools.behind } in
    let line =
    same_read (λ image rest. codes "receive" ∷ before_last image rest) side other p.0 q.0 (lines.Receive (word_for side) ask.keep ask.force ask.origin p.1)
    (lines.Receive (word_for other) ask'.keep ask'.force ask'.origin q.1) same p.2.3 q.2.3
    in
    let one = p.2.0 in
    let two = q.2.0 in
    let asks : receipt_of ask.keep ask.force ask.origin p.1 ≡ receipt_of ask'.keep ask'.force ask'.origin q.1 = cc in
    let ask_is : ask ≡ ask' = one ∙ asks ∙ sym two in
    cc
one_event (events.Resume side id dataset) (events.Resume other number dataset') words p q =
    let pools = same_pool side other (codes "resume" ∷ decimal id ∷ dataset ∷ []) (codes "resume" ∷ decimal number ∷ dataset' ∷ []) words p.0 q.0 in
    let side_is = pools.side in
    let id_is = same_id id number p.1 q.1 (ap (λ (w : List (List ℕ)). word_at w 1) pools.behind) in
    let dataset_is : dataset ≡ dataset' = ap (λ (w : List (List ℕ)). word_at w 2) pools.behind in
    cc
one_event (events.Reopen side) (events.Reopen other) words p q = ap events.Reopen (same_pool side other (codes "reopen" ∷ []) (codes "reopen" ∷ []) words p q).side
one_event (events.Pump sends receives count) (events.Pump sends' receives' count') words p q =
    let words_are = sym p.0 ∙ q.0 in
    let one = same_id sends sends' p.1 q.1 (ap (λ (w : List (List ℕ)). word_at w 1) words_are) in
    let two = same_id receives receives' p.2 q.2 (ap (λ (w : List (List ℕ)). word_at w 2) words_are) in
    let three = same_count count count' p.3 q.3 (ap (λ (w : List (List ℕ)). word_at w 3) words_are) in
    cc
one_event (events.Drop sends count) (events.Drop sends' count') words p q =
    let words_are = sym p.0 ∙ q.0 in
    let one = same_id sends sends' p.1 q.1 (ap (λ (w : List (List ℕ)). word_at w 1) words_are) in
    let two = same_count count count' p.2 q.2 (ap (λ (w : List (List ℕ)). word_at w 2) words_are) in
    cc
one_event (events.Close sends) (events.Close sends') words p q = ap events.Close (same_id sends sends' p.1 q.1 (ap (λ (w : List (List ℕ)). word_at w 1) (sym p.0 ∙ q.0)))
one_event (events.Cut receives) (events.Cut receives') words p q = ap events.Cut (same_id receives receives' p.1 q.1 (ap (λ (w : List (List ℕ)). word_at w 1) (sym p.0 ∙ q.0)))
one_event a b words p q = let form : form_of a ≡ form_of b = sym (form_is a words p) ∙ form_is b words q in absurd (cc form)

pub line_says_one : OneEvent
line_says_one line a b p q = one_event a b _ p.says q.says
