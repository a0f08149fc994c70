-- The loop that reads a list of rows: it begins, goes on, stops and ends.
use Rattle.std.proofs.Common.{◌≡◌, ℕ, ◌+◌, ◌<◌, ◌^◌, List, [], ◌∷◌, ◌++◌, length, Option, Some, None, refl, sym, subst, ap, ◌∙◌, arith, append_assoc, length-append}
use Rattle.std.proofs.lemmas.List.{append-nil}
use Rattle.std.proofs.lemmas.List.Elements.{All-push}
use Rattle.std.specs.List.{All, flat_map}
use Rattle.zst_bytes.specs.Words.{word}
use Rattle.zst_dir.specs.RowReads.{ReadsBack, AreRows, Appends}
use Rattle.zst_dir.specs.Spelling.{rows_bytes}
use Rattle.zst_dir.proofs.ReadFronts.{Stands, stands_first, stands_next, stands_more, stands_last, fits_next}

-- after so many of the counted rows: those that have been read stand behind the old ones, and the rest is as it was spelled
pub record Reading {A : Type 0} (bytes : A → List ℕ) (IsRow : A → Type 0) (start : List ℕ) (before : List A) (count counter : ℕ) (now : List A) (cursor : List ℕ) : Type 0 where
  pub read : List A
  pub is : now ≡ before ++ read
  pub at : length read ≡ counter
  pub each : All IsRow read
  pub stands : (rows : List A) (rest : List ℕ) → AreRows IsRow rows → start ≡ rows_bytes bytes rows ++ rest → (count ≡ length rows) × Stands bytes rows rest read cursor

-- what reading the count says
abbrev pub CountsBack : List ℕ → List ℕ → Option ℕ → Type 0
CountsBack start cursor counted = (n : ℕ) (rest : List ℕ) → n < 2 ^ 64 → start ≡ word n ++ rest → (counted ≡ Some n) × (cursor ≡ rest)

-- the count is that of the rows, and behind it they stand
pub count_of : {A : Type 0} (bytes : A → List ℕ) (IsRow : A → Type 0) (start cursor : List ℕ) (counted : Option ℕ) → CountsBack start cursor counted → (rows : List A) (rest : List ℕ) → AreRows IsRow rows → start ≡ rows_bytes bytes rows ++ rest → (counted ≡ Some (length rows)) × (cursor ≡ flat_map bytes rows ++ rest)
count_of bytes IsRow start cursor counted counts rows rest are is =
    counts (length rows) (flat_map bytes rows ++ rest) are.count (is ∙ append_assoc (word (length rows)) (flat_map bytes rows) rest)

-- without a count there are no rows
pub not_counted : {A : Type 0} (bytes : A → List ℕ) (IsRow : A → Type 0) (start cursor : List ℕ) → CountsBack start cursor None → (rows : List A) (rest : List ℕ) → AreRows IsRow rows → start ≡ rows_bytes bytes rows ++ rest → ⊥
not_counted bytes IsRow start cursor counts rows rest are is = let count = count_of bytes IsRow start cursor None counts rows rest are is in cc count.0

-- at first none has been read
pub reading_first : {A : Type 0} (bytes : A → List ℕ) (IsRow : A → Type 0) (start cursor : List ℕ) (before : List A) (count : ℕ) → CountsBack start cursor (Some count) → Reading bytes IsRow start before count 0 before cursor
reading_first bytes IsRow start cursor before count counts = record {
  read = [];
  is = sym (append-nil before);
  at = refl;
  each = λ k d below. absurd (omega (arith, below));
  stands = λ rows rest are is.
      let counted = count_of bytes IsRow start cursor (Some count) counts rows rest are is in
      (cc counted.0, stands_first bytes rows rest cursor counted.1);
}

-- where the next row isn't read, there are no such rows
pub reading_stops : {A : Type 0} (bytes : A → List ℕ) (IsRow : A → Type 0) (start : List ℕ) (before : List A) (count counter : ℕ) (now : List A) (cursor after : List ℕ) → Reading bytes IsRow start before count counter now cursor → counter < count → ReadsBack bytes IsRow cursor after None
    → (rows : List A) (rest : List ℕ) → AreRows IsRow rows → start ≡ rows_bytes bytes rows ++ rest → ⊥
reading_stops bytes IsRow start before count counter now cursor after reading below back rows rest are is =
    let stood = reading.stands rows rest are is in
    let next = stands_next bytes rows rest reading.read cursor stood.1 (omega (arith, reading.at, stood.0)) in
    let none = back next.row (flat_map bytes next.left ++ rest) (fits_next IsRow bytes rows rest reading.read cursor are.each next) next.spelled in
    cc none.0

-- where it is, one more has been
pub reading_more : {A : Type 0} (bytes : A → List ℕ) (IsRow : A → Type 0) (start : List ℕ) (before : List A) (count counter : ℕ) (now : List A) (cursor after : List ℕ) (row : A) → Reading bytes IsRow start before count counter now cursor → counter < count → IsRow row → ReadsBack bytes IsRow cursor after (Some row)
    → Reading bytes IsRow start before count (counter + 1) (now ++ row ∷ []) after
reading_more {A = A} bytes IsRow start before count counter now cursor after row reading below fits back = record {
  read = reading.read ++ row ∷ [];
  is = ap (λ rows. rows ++ row ∷ []) reading.is ∙ append_assoc before reading.read (row ∷ []);
  at = omega (arith, reading.at, length-append reading.read (row ∷ []));
  each = All-push IsRow reading.read row reading.each fits;
  stands = λ rows rest are is.
      let stood = reading.stands rows rest are is in
      let next = stands_next bytes rows rest reading.read cursor stood.1 (omega (arith, reading.at, stood.0)) in
      let some = back next.row (flat_map bytes next.left ++ rest) (fits_next IsRow bytes rows rest reading.read cursor are.each next) next.spelled in
      let same : next.row ≡ row = cc some.0 in
      (stood.0, subst (λ (last : A). Stands bytes rows rest (reading.read ++ last ∷ []) after) same (stands_more bytes rows rest reading.read cursor after next some.1));
}

-- at last all have been, and the rest is left
pub reading_rows : {A : Type 0} (bytes : A → List ℕ) (IsRow : A → Type 0) (start : List ℕ) (before : List A) (count counter : ℕ) (now : List A) (cursor : List ℕ) → Reading bytes IsRow start before count counter now cursor → Appends IsRow before now
reading_rows bytes IsRow start before count counter now cursor reading = record { rows = reading.read; is = reading.is; each = reading.each }

pub reading_last : {A : Type 0} (bytes : A → List ℕ) (IsRow : A → Type 0) (start : List ℕ) (before : List A) (count counter : ℕ) (now : List A) (cursor : List ℕ) → Reading bytes IsRow start before count counter now cursor → counter ≡ count
    → (rows : List A) (rest : List ℕ) → AreRows IsRow rows → start ≡ rows_bytes bytes rows ++ rest → (now ≡ before ++ rows) × (cursor ≡ rest)
reading_last bytes IsRow start before count counter now cursor reading all rows rest are is =
    let stood = reading.stands rows rest are is in
    let last = stands_last bytes rows rest reading.read cursor stood.1 (omega (arith, reading.at, stood.0)) in
    (reading.is ∙ ap (λ read. before ++ read) last.0, last.1)
