-- Which items have a byte in a part of a send's text, and what they pay.
use Rattle.std.proofs.Common.{◌≡◌, ℕ, ◌+◌, ◌*◌, ◌<◌, ◌≤◌, Bool, true, false, min, if◌then◌else◌, List, [], ◌∷◌, ◌++◌, refl, sym, arith}
use Rattle.std.specs.Prelude.{max}
use Rattle.std.proofs.lemmas.Bool.{lt-ltb, ltb-true, true≢false}
use Rattle.zst_model.specs.declared.states.item.Item.{Item}
use Rattle.zst_model.specs.states.DatedState.{DatedState}
use Rattle.zst_send.specs.Costs.{calls_for, cells_of}
use Rattle.zst_send.specs.Records.{overlap, reads_of, size_of, sizes_of, touched}

-- what two parts have in common
overlap_more : (start size place count more : ℕ) → count ≤ more → overlap start size place count ≡ true → overlap start size place more ≡ true
overlap_more start size place count more less e =
    let both : max start place < min (start + size) (place + count) = ltb-true _ _ e in
    lt-ltb _ _ (omega (arith, both, less))

overlap_some : (start size place count : ℕ) → 0 < size → 0 < count → start < place + count → place < start + size → overlap start size place count ≡ true
overlap_some start size place count some any before behind = lt-ltb _ _ (omega (arith, some, any, before, behind))

overlap_none : (start size place count : ℕ) → place + count ≤ start → overlap start size place count ≡ false
overlap_none start size place count far = go (overlap start size place count) refl
  where
    go : (b : Bool) → overlap start size place count ≡ b → b ≡ false
    go true e = let both : max start place < min (start + size) (place + count) = ltb-true _ _ e in absurd (omega (arith, both, far))
    go false e = refl

module _ (snap : DatedState) where
  -- an item more pays no less
  pays_more : (item : Item) (some more : List Item) (paid : ℕ) (b c : Bool) → (b ≡ true → c ≡ true) → calls_for snap some + paid ≤ calls_for snap more
      → calls_for snap (if b then item ∷ some else some) + paid ≤ calls_for snap (if c then item ∷ more else more)
  pays_more item some more paid true true keeps less = omega (arith, less)
  pays_more item some more paid true false keeps less = absurd (true≢false (sym (keeps refl)))
  pays_more item some more paid false true keeps less = omega (arith, less)
  pays_more item some more paid false false keeps less = less

  -- a longer part has no fewer of them
  pub touched_more : (place count more start : ℕ) (items : List Item) → count ≤ more → calls_for snap (touched place count start items) ≤ calls_for snap (touched place more start items)
  touched_more place count more start [] less = omega arith
  touched_more place count more start (item ∷ items) less =
      let rest = touched_more place count more (start + size_of item) items less in
      let both = pays_more item (touched place count (start + size_of item) items) (touched place more (start + size_of item) items) 0
      (overlap start (size_of item) place count) (overlap start (size_of item) place more) (overlap_more start (size_of item) place count more less) (omega (arith, rest)) in
      omega (arith, both)

  -- a record that begins at the end of a part is one of a longer part besides
  pub touched_next : (place count more start : ℕ) (put : List Item) (item : Item) (later : List Item) → place + count ≡ start + sizes_of put → count < more
      → calls_for snap (touched place count start (put ++ item ∷ later)) + (64 * cells_of snap item + reads_of item) ≤ calls_for snap (touched place more start (put ++ item ∷ later))
  touched_next place count more start [] item later ends less =
      let tail = touched_more place count more (start + size_of item) later (omega (arith, less)) in
      let here : overlap start (size_of item) place more ≡ true = overlap_some start (size_of item) place more (omega arith) (omega (arith, less)) (omega (arith, ends, less)) (omega (arith, ends)) in
      let not_yet : overlap start (size_of item) place count ≡ false = overlap_none start (size_of item) place count (omega (arith, ends)) in
      rw (here, not_yet) (omega (arith, tail))
  touched_next place count more start (first ∷ put) item later ends less =
      pays_more first (touched place count (start + size_of first) (put ++ item ∷ later)) (touched place more (start + size_of first) (put ++ item ∷ later)) (64 * cells_of snap item + reads_of item)
      (overlap start (size_of first) place count) (overlap start (size_of first) place more) (overlap_more start (size_of first) place count more (omega (arith, less)))
      (touched_next place count more (start + size_of first) put item later (omega (arith, ends)) less)

  -- a record that has a byte of a part pays its block
  pub touched_there : (place count start : ℕ) (first : List Item) (last : Item) (later : List Item) → 0 < count → start + sizes_of first < place + count → place < start + sizes_of first + size_of last
      → reads_of last ≤ calls_for snap (touched place count start (first ++ last ∷ later))
  touched_there place count start [] last later some before behind =
      let here : overlap start (size_of last) place count ≡ true = overlap_some start (size_of last) place count (omega arith) some (omega (arith, before)) (omega (arith, behind)) in
      rw here (omega arith)
  touched_there place count start (item ∷ first) last later some before behind =
      let rest = touched_there place count (start + size_of item) first last later some (omega (arith, before)) (omega (arith, behind)) in
      let both = pays_more item [] (touched place count (start + size_of item) (first ++ last ∷ later)) (reads_of last) false (overlap start (size_of item) place count) (λ e. absurd (true≢false (sym e))) (omega (arith, rest)) in
      omega (arith, both)
