-- Where a line ends in bytes that were searched for a line feed.
use Rattle.std.proofs.Common.{◌≡◌, ◌≢◌, ℕ, ◌+◌, ◌<◌, ◌≤◌, List, ◌∷◌, ◌++◌, Some, None, length, get_or, take, drop, sym, ap, ◌∙◌, arith, eq-eqb, eqb-true, take-add}
use Rattle.std.proofs.lemmas.List.{drop_more, get_or-drop, get_or-take, length-drop, length-take-le, take-append-drop, take_all}
use Rattle.std.proofs.lemmas.List.Elements.{All-append, All-from_get_or, All-same}
use Rattle.memchr.specs.Find.{IsFirstByte, Nowhere, Passes, is_byte}
use Rattle.zst_script.specs.LineStages.{EndsAt, HasNoEnd}

abbrev EndsNone : ℕ → Type 0
EndsNone byte = byte ≢ 10

-- no line ends where no line feed stands
none_ends : (bytes : List ℕ) (n : ℕ) → n ≤ length bytes → Nowhere (Passes (is_byte 10) bytes) 0 n → HasNoEnd (take n bytes)
none_ends bytes n within nowhere =
    All-from_get_or EndsNone (take n bytes) 0 (λ i less.
    let low : i < n = omega (arith, less, length-take-le n bytes within) in
    λ is. nowhere i (omega arith) low (eq-eqb _ _ (sym (get_or-take n bytes i 0 low) ∙ is)))

-- the same of what was searched before and what was searched behind it
joined : (held : List ℕ) (searched n : ℕ) → HasNoEnd (take searched held) → HasNoEnd (take n (drop searched held)) → HasNoEnd (take (searched + n) held)
joined held searched n before behind =
    All-same EndsNone (take (searched + n) held) (take searched held ++ take n (drop searched held)) (take-add searched n held)
    (All-append EndsNone (take searched held) (take n (drop searched held)) before behind)

-- the line ends at the first line feed
pub found : (held : List ℕ) (searched place : ℕ) → searched ≤ length held → HasNoEnd (take searched held)
    → IsFirstByte (is_byte 10) (drop searched held) (Some place) → EndsAt held (searched + place)
found held searched place within before first =
    let len = length-drop searched held in
    let inside : searched + place < length held = omega (arith, len, first.0.high) in
    let feed : get_or held (searched + place) 0 ≡ 10 = sym (get_or-drop searched held place 0) ∙ eqb-true _ _ first.1 in
    record {
      inside = inside;
      whole = joined held searched place before (none_ends (drop searched held) place (omega (arith, len)) first.0.before);
      parts = sym (take-append-drop (searched + place) held)
          ∙ ap (λ (l : List ℕ). take (searched + place) held ++ l)
          (drop_more held (searched + place) 0 inside ∙ ap (λ (byte : ℕ). byte ∷ drop (searched + place + 1) held) feed);
    }

-- where there is none, the line has no end
pub unfound : (held : List ℕ) (searched : ℕ) → searched ≤ length held → HasNoEnd (take searched held) → IsFirstByte (is_byte 10) (drop searched held) None → HasNoEnd held
unfound held searched within before nowhere =
    let n = length (drop searched held) in
    let len = length-drop searched held in
    All-same EndsNone held (take (searched + n) held) (sym (take_all (searched + n) held (omega (arith, len))))
    (joined held searched n before (none_ends (drop searched held) n (omega arith) nowhere))
