use Rattle.std.proofs.Common.{◌≡◌, ℕ, List, ◌∷◌, map, length, string_bytes, sym, ap, ◌∙◌, arith}
use Rattle.std.proofs.lemmas.List.{length-map}
use Rattle.std.proofs.lemmas.Slice.Zip.{AllZip-long}
use Rattle.std.specs.List.{AllZip}
use Rattle.zst_line.specs.declared.word_slot.WordSlot.{WordSlot}
use Rattle.zst_line.specs.Grammar.{places_of, word_of}
use Rattle.zst_line.specs.WordFaults.{Fits, IsReadAt, FirstMisread, Takes}
use Rattle.zst_line.proofs.WordWalk.{both}
use Rattle.zst_line.proofs.MisreadWords.{misread_answers}
use Rattle.zst_line.proofs.parser.parse.Goals as goal

taken : (fitting naming places : List WordSlot) (words : List (List ℕ)) → fitting ≡ places → naming ≡ places → AllZip Fits fitting words → AllZip IsReadAt naming words → AllZip Takes places words
taken fitting naming places words one other fits names = both places words (rw one at fits) (rw other at names)

pub first_misread-requires : goal.first_misread-requires
first_misread-requires c =
    let rest = c.in-Some.rest.now in
    let one = c.as_slice.ensures.value in
    let other = c.as_slice-2.ensures.value in
    let long = AllZip-long Fits c.as_slice.result.now (map string_bytes rest) c.in_default-first_misplaced.ensures.place in
    let count = length-map rest string_bytes in
    let same : c.as_slice.result.now ≡ c.as_slice-2.result.now = cc in
    let lengths = ap length same in
    omega arith

pub spelled-requires : goal.spelled-requires
spelled-requires c =
    let words = map string_bytes c.in-Some.rest.now in
    let one = c.as_slice.ensures.value in
    let other = c.as_slice-2.ensures.value in
    let made = c.in_ok-slots.ensures in
    let fitting : c.as_slice.result.now ≡ places_of c.in-Some-kind_of.kind words = cc in
    let naming : c.as_slice-2.result.now ≡ places_of c.in-Some-kind_of.kind words = cc in
    let takes = taken c.as_slice.result.now c.as_slice-2.result.now (places_of c.in-Some-kind_of.kind words) words fitting naming c.in_default-first_misplaced.ensures.place c.in_default-first_misread.ensures in
    takes

pub returns : goal.returns
returns c =
    let words = map string_bytes c.in-Some.rest.now in
    let one = c.as_slice.ensures.value in
    let other = c.as_slice-2.ensures.value in
    let made = c.in_ok-slots.ensures in
    let fitting : c.as_slice.result.now ≡ places_of c.in-Some-kind_of.kind words = cc in
    let naming : c.as_slice-2.result.now ≡ places_of c.in-Some-kind_of.kind words = cc in
    let takes = taken c.as_slice.result.now c.as_slice-2.result.now (places_of c.in-Some-kind_of.kind words) words fitting naming c.in_default-first_misplaced.ensures.place c.in_default-first_misread.ensures in
    let text : string_bytes c.in-Some.first.now ≡ word_of c.in-Some-kind_of.kind = sym c.as_str.ensures.value ∙ c.in-Some-kind_of.ensures in
    let said : map string_bytes c.args.words.now ≡ word_of c.in-Some-kind_of.kind ∷ words = ap (map string_bytes) c.in-Some.ensures.cases.0 ∙ ap (λ (word : List ℕ). word ∷ words) text in
    (record { kind = c.in-Some-kind_of.kind; rest = words; spelled = said; fact = takes }, rw said c.in_ok-spelled.ensures)

pub returns-in-Some-first_misread : goal.returns-in-Some-first_misread
returns-in-Some-first_misread c =
    let words = map string_bytes c.in-Some.rest.now in
    let kind = c.in-Some-kind_of.kind in
    let fault = c.in-Some-first_misread.fault in
    let one = c.as_slice.ensures.value in
    let other = c.as_slice-2.ensures.value in
    let made = c.in_ok-slots.ensures in
    let fitting : c.as_slice.result.now ≡ places_of kind words = cc in
    let naming : c.as_slice-2.result.now ≡ places_of kind words = cc in
    let text : string_bytes c.in-Some.first.now ≡ word_of kind = sym c.as_str.ensures.value ∙ c.in-Some-kind_of.ensures in
    let said : map string_bytes c.args.words.now ≡ word_of kind ∷ words = ap (map string_bytes) c.in-Some.ensures.cases.0 ∙ ap (λ (word : List ℕ). word ∷ words) text in
    let fits : AllZip Fits (places_of kind words) words = rw fitting at c.in_default-first_misplaced.ensures.place in
    let stops : FirstMisread (places_of kind words) words fault = rw naming at c.in-Some-first_misread.ensures in
    misread_answers (map string_bytes c.args.words.now) fault (record { kind = kind; rest = words; spelled = said; fact = (fits, stops) })
