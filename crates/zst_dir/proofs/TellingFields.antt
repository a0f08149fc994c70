-- Bytes that tell what they spell, and where they end.
use Rattle.std.proofs.Common.{◌≡◌, ℕ, ◌<◌, ◌^◌, Bool, true, false, List, [], ◌∷◌, ◌++◌, length, take, drop, Option, Some, None, IfSome, refl, sym, ap, ◌∙◌, arith, append_assoc}
use Rattle.std.proofs.lemmas.List.{take_at, drop_at}
use Rattle.std.proofs.lemmas.List.Elements.{All-head, All-tail}
use Rattle.std.specs.List.{All, flat_map}
use Rattle.zst_bytes.proofs.BytesLaws.{length-number_bytes, number-again}
use Rattle.zst_bytes.specs.Fields.{zeros}
use Rattle.zst_bytes.specs.Words.{word, padding, text_bytes, words_bytes}
use Rattle.zst_block.specs.Ptr.{ptr_bytes, ptr_at, PtrFits}
use Rattle.zst_block.specs.declared.ptr.Ptr.{Ptr}
use Rattle.zst_block.proofs.PtrLaws.{length-ptr_bytes, ptr_at-range}
use Rattle.zst_names.specs.Names.{IsSnapshot}
use Rattle.zst_model.specs.fields.Guids.{IsGuidSet}
use Rattle.zst_tree.specs.Sets.{set_bytes, SetFits}
use Rattle.zst_tree.proofs.SetBytes.{bytes_at-whole, set_parts, set_of_parts}
use Rattle.zst_dir.specs.RowReads.{AreRows}
use Rattle.zst_dir.specs.Spelling.{name_bytes, flag, rows_bytes}
use Rattle.zst_dir.proofs.Guids.{words_parts}
use Rattle.zst_dir.proofs.ParsedNames.{text_of, spelled, plain_text_of, none_where_empty}

-- whatever follows, the bytes of a value that fits tell it, and what follows
abbrev pub Tells : {A : Type 0} → (A → List ℕ) → (A → Type 0) → Type 0
Tells {A} bytes Fits = (x y : A) (after behind : List ℕ) → Fits x → Fits y → bytes x ++ after ≡ bytes y ++ behind → (x ≡ y) × (after ≡ behind)

-- fronts of one length are one
fronts : (a b after behind : List ℕ) → length a ≡ length b → a ++ after ≡ b ++ behind → (a ≡ b) × (after ≡ behind)
fronts a b after behind long same = (
  sym (take_at a after (length a) refl) ∙ ap (take (length a)) same ∙ take_at b behind (length a) (sym long),
  sym (drop_at a after (length a) refl) ∙ ap (drop (length a)) same ∙ drop_at b behind (length a) (sym long),
)

pub word_tells : Tells word (λ n. n < 2 ^ 64)
word_tells x y after behind x_fits y_fits same =
    let parts = fronts (word x) (word y) after behind (length-number_bytes 8 x ∙ sym (length-number_bytes 8 y)) same in
    let first = number-again 8 x (omega (arith, x_fits)) in
    let second = number-again 8 y (omega (arith, y_fits)) in
    (cc (first, second, parts.0), parts.1)

text_parts : (text rest : List ℕ) → text_bytes text ++ rest ≡ word (length text) ++ (text ++ (zeros (padding (length text)) ++ rest))
unfolding text_bytes
text_parts text rest = simp append_assoc

pub text_tells : Tells text_bytes (λ text. length text < 2 ^ 64)
text_tells x y after behind x_fits y_fits same =
    let long = word_tells (length x) (length y) _ _ x_fits y_fits (sym (text_parts x after) ∙ same ∙ text_parts y behind) in
    let text = fronts x y _ _ long.0 long.1 in
    (text.0, (fronts (zeros (padding (length x))) (zeros (padding (length y))) after behind (ap (λ (n : ℕ). length (zeros (padding n))) long.0) text.1).1)

-- a name that may be missing
one_name : (x y : Option (List ℕ)) → IfSome x IsSnapshot → IfSome y IsSnapshot → text_of x ≡ text_of y → x ≡ y
one_name None y x_is y_is same = none_where_empty y [] y_is same refl
one_name (Some x) None x_is y_is same = sym (none_where_empty (Some x) [] x_is (sym same) refl)
one_name (Some x) (Some y) x_is y_is same = ap (λ (name : List ℕ). Some name) same

-- values of a list
list_tells : {A : Type 0} (bytes : A → List ℕ) (Fits : A → Type 0) → Tells bytes Fits → (xs ys : List A) (after behind : List ℕ) → All Fits xs → All Fits ys → length xs ≡ length ys
    → flat_map bytes xs ++ after ≡ flat_map bytes ys ++ behind → (xs ≡ ys) × (after ≡ behind)
list_tells bytes Fits tells [] [] after behind xs_fit ys_fit long same = (refl, same)
list_tells bytes Fits tells [] (y ∷ ys) after behind xs_fit ys_fit long same = absurd (omega (arith, long))
list_tells bytes Fits tells (x ∷ xs) [] after behind xs_fit ys_fit long same = absurd (omega (arith, long))
list_tells bytes Fits tells (x ∷ xs) (y ∷ ys) after behind xs_fit ys_fit long same =
    let first = tells x y (flat_map bytes xs ++ after) (flat_map bytes ys ++ behind) (All-head Fits x xs xs_fit) (All-head Fits y ys ys_fit)
    (sym (append_assoc (bytes x) (flat_map bytes xs) after) ∙ same ∙ append_assoc (bytes y) (flat_map bytes ys) behind) in
    let rest = list_tells bytes Fits tells xs ys after behind (All-tail Fits x xs xs_fit) (All-tail Fits y ys ys_fit) (omega (arith, long)) first.1 in
    (cc (first.0, rest.0), rest.1)

pub rows_tell : {A : Type 0} (bytes : A → List ℕ) (Fits : A → Type 0) → Tells bytes Fits → Tells (rows_bytes bytes) (AreRows Fits)
rows_tell bytes Fits tells xs ys after behind xs_are ys_are same =
    let long = word_tells (length xs) (length ys) _ _ xs_are.count ys_are.count
    (sym (append_assoc (word (length xs)) (flat_map bytes xs) after) ∙ same ∙ append_assoc (word (length ys)) (flat_map bytes ys) behind) in
    list_tells bytes Fits tells xs ys after behind xs_are.each ys_are.each long.0 long.1

pub guids_tell : Tells words_bytes IsGuidSet
guids_tell x y after behind x_is y_is same =
    let long = word_tells (length x) (length y) _ _ (omega (arith, x_is.few)) (omega (arith, y_is.few)) (sym (words_parts x after) ∙ same ∙ words_parts y behind) in
    list_tells word (λ n. n < 2 ^ 64) word_tells x y after behind x_is.fit y_is.fit long.0 long.1

-- a snapshot's name is short
short_of : (name : Option (List ℕ)) → IfSome name IsSnapshot → length (text_of name) < 2 ^ 64
short_of name whole = let plain = plain_text_of name whole in omega (arith, plain.short)

pub name_tells : Tells name_bytes (λ name. IfSome name IsSnapshot)
name_tells x y after behind x_is y_is same =
    let text = text_tells (text_of x) (text_of y) after behind (short_of x x_is) (short_of y y_is)
    (ap (λ (bytes : List ℕ). bytes ++ after) (sym (spelled x)) ∙ same ∙ ap (λ (bytes : List ℕ). bytes ++ behind) (spelled y)) in
    (one_name x y x_is y_is text.0, text.1)

flag_fits : (yes : Bool) → flag yes < 2 ^ 64
flag_fits true = omega arith
flag_fits false = omega arith

one_flag : (x y : Bool) → flag x ≡ flag y → x ≡ y
one_flag true true same = refl
one_flag true false same = absurd (omega (arith, same))
one_flag false true same = absurd (omega (arith, same))
one_flag false false same = refl

pub flag_tells : (x y : Bool) (after behind : List ℕ) → word (flag x) ++ after ≡ word (flag y) ++ behind → (x ≡ y) × (after ≡ behind)
flag_tells x y after behind same =
    let number = word_tells (flag x) (flag y) after behind (flag_fits x) (flag_fits y) same in
    (one_flag x y number.0, number.1)

ptr_again : (ptr : Ptr) → PtrFits ptr → ptr_at (ptr_bytes ptr) 0 ≡ ptr
ptr_again ptr fits = ptr_at-range (ptr_bytes ptr) 0 ptr (omega (arith, length-ptr_bytes ptr)) fits (bytes_at-whole 64 (ptr_bytes ptr) (length-ptr_bytes ptr))

pub ptr_tells : Tells ptr_bytes PtrFits
ptr_tells x y after behind x_fits y_fits same =
    let parts = fronts (ptr_bytes x) (ptr_bytes y) after behind (length-ptr_bytes x ∙ sym (length-ptr_bytes y)) same in
    (sym (ptr_again x x_fits) ∙ ap (λ (bytes : List ℕ). ptr_at bytes 0) parts.0 ∙ ptr_again y y_fits, parts.1)

pub set_tells : Tells set_bytes SetFits
set_tells x y after behind x_fits y_fits same =
    let levels = word_tells x.tree.levels y.tree.levels _ _ (omega (arith, x_fits.levels)) (omega (arith, y_fits.levels)) (sym (set_parts x after) ∙ same ∙ set_parts y behind) in
    let past = word_tells x.tree.past y.tree.past _ _ x_fits.past y_fits.past levels.1 in
    let root = ptr_tells x.tree.root y.tree.root after behind x_fits.root y_fits.root past.1 in
    (set_of_parts y x.tree.levels x.tree.past x.tree.root levels.0 past.0 root.0, root.1)
