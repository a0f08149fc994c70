-- A list of which a front has been read, while the bytes of the rest stand in front.
use Rattle.std.proofs.Common.{◌≡◌, ℕ, ◌<◌, List, [], ◌∷◌, ◌++◌, length, refl, sym, ap, ◌∙◌, arith, append_assoc, length-append, subst}
use Rattle.std.proofs.lemmas.List.{append-nil}
use Rattle.std.proofs.lemmas.List.Elements.{All-head, All-tail}
use Rattle.std.specs.List.{All, flat_map}

-- these rows of a list have been read, and the bytes of those that are left stand before the rest
pub record Stands {A : Type 0} (bytes : A → List ℕ) (whole : List A) (rest : List ℕ) (read : List A) (cursor : List ℕ) : Type 0 where
  pub left : List A
  pub split : whole ≡ read ++ left
  pub spelled : cursor ≡ flat_map bytes left ++ rest

-- at first none has been read
pub stands_first : {A : Type 0} (bytes : A → List ℕ) (whole : List A) (rest cursor : List ℕ) → cursor ≡ flat_map bytes whole ++ rest → Stands bytes whole rest [] cursor
stands_first bytes whole rest cursor is = record { left = whole; split = refl; spelled = is }

-- the row that is next, and what stands behind it
pub record Next {A : Type 0} (bytes : A → List ℕ) (whole : List A) (rest : List ℕ) (read : List A) (cursor : List ℕ) : Type 0 where
  pub row : A
  pub left : List A
  pub split : whole ≡ (read ++ row ∷ []) ++ left
  pub spelled : cursor ≡ bytes row ++ (flat_map bytes left ++ rest)

next_of : {A : Type 0} (bytes : A → List ℕ) (whole : List A) (rest : List ℕ) (read left : List A) (cursor : List ℕ) → whole ≡ read ++ left → cursor ≡ flat_map bytes left ++ rest → length read < length whole → Next bytes whole rest read cursor
next_of bytes whole rest read [] cursor split spelled below = absurd (omega (arith, ap length split, length-append read []))
next_of bytes whole rest read (row ∷ left) cursor split spelled below = record {
  row = row;
  left = left;
  split = split ∙ sym (append_assoc read (row ∷ []) left);
  spelled = spelled ∙ append_assoc (bytes row) (flat_map bytes left) rest;
}

-- where not all have been read, one is next
pub stands_next : {A : Type 0} (bytes : A → List ℕ) (whole : List A) (rest : List ℕ) (read : List A) (cursor : List ℕ) → Stands bytes whole rest read cursor → length read < length whole → Next bytes whole rest read cursor
stands_next bytes whole rest read cursor stands below = next_of bytes whole rest read stands.left cursor stands.split stands.spelled below

-- once it has been read, it is the last of those that have
pub stands_more : {A : Type 0} (bytes : A → List ℕ) (whole : List A) (rest : List ℕ) (read : List A) (cursor after : List ℕ) → (next : Next bytes whole rest read cursor) → after ≡ flat_map bytes next.left ++ rest → Stands bytes whole rest (read ++ next.row ∷ []) after
stands_more bytes whole rest read cursor after next is = record { left = next.left; split = next.split; spelled = is }

end_of : {A : Type 0} (bytes : A → List ℕ) (whole : List A) (rest : List ℕ) (read left : List A) (cursor : List ℕ) → whole ≡ read ++ left → cursor ≡ flat_map bytes left ++ rest → length read ≡ length whole → (read ≡ whole) × (cursor ≡ rest)
end_of bytes whole rest read [] cursor split spelled all = (sym (split ∙ append-nil read), spelled)
end_of bytes whole rest read (row ∷ left) cursor split spelled all = absurd (omega (arith, ap length split, length-append read (row ∷ left)))

-- at last all have been read, and the rest is left
pub stands_last : {A : Type 0} (bytes : A → List ℕ) (whole : List A) (rest : List ℕ) (read : List A) (cursor : List ℕ) → Stands bytes whole rest read cursor → length read ≡ length whole → (read ≡ whole) × (cursor ≡ rest)
stands_last bytes whole rest read cursor stands all = end_of bytes whole rest read stands.left cursor stands.split stands.spelled all

-- what holds of each row holds of the next
fits_at : {A : Type 0} (Fits : A → Type 0) (read left : List A) (row : A) → All Fits ((read ++ row ∷ []) ++ left) → Fits row
fits_at Fits [] left row each = All-head Fits row left each
fits_at Fits (other ∷ read) left row each = fits_at Fits read left row (All-tail Fits other ((read ++ row ∷ []) ++ left) each)

pub fits_next : {A : Type 0} (Fits : A → Type 0) (bytes : A → List ℕ) (whole : List A) (rest : List ℕ) (read : List A) (cursor : List ℕ) → All Fits whole → (next : Next bytes whole rest read cursor) → Fits next.row
fits_next Fits bytes whole rest read cursor each next = fits_at Fits read next.left next.row (subst (All Fits) next.split each)

-- the last of two lists that are the same is the same
pub last_is : {A : Type 0} (front : List A) (one other : A) → front ++ one ∷ [] ≡ front ++ other ∷ [] → one ≡ other
last_is [] one other same = cc
last_is (row ∷ front) one other same = let rest : front ++ one ∷ [] ≡ front ++ other ∷ [] = cc in last_is front one other rest
