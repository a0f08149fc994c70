-- The image among the words of a line of a pool.
use Rattle.std.proofs.Common.{◌≡◌, ℕ, zero, suc, ◌-◌, ◌<◌, ◌≤◌, max, true, false, if◌then◌else◌, bytes_eq, String, Global, string_bytes, List, ◌∷◌, ◌++◌, [], length, map, drop, insert, codes, refl, sym, ap, ◌∙◌, arith, length-append}
use Rattle.std.proofs.lemmas.List.{length-map}
use Rattle.zst_line.specs.Grammar.{word_at}
use Rattle.zst_line.specs.Line.{Says}
use Rattle.zst_model.specs.declared.pools.command.Command.{Command}
use Rattle.zst_model.specs.declared.pools.command.Command.TheVariants as commands
use Rattle.zst_script.specs.EventWords.{behind_options}
use Rattle.zst_script.specs.Lines.{before_last, with_image}

-- ---- where it is put

pub length_with : (image : List ℕ) (rest : List (List ℕ)) → length (before_last image rest) ≡ suc (length rest)
length_with image [] = refl
length_with image (word ∷ []) = refl
length_with image (word ∷ next ∷ rest) = ap suc (length_with image (next ∷ rest))

-- no word is lost
pub with_image_long : (image : List ℕ) (rest : List (List ℕ)) → length rest ≤ length (with_image image rest)
with_image_long image [] = omega arith
with_image_long image (command ∷ rest) =
    let put = length_with image rest in
    elim (bytes_eq command (codes "rollback")) as (λ t. length (command ∷ rest) ≤ length (if t then command ∷ before_last image rest else command ∷ image ∷ rest)) [
      | true ↦ omega (arith, put)
      | false ↦ omega arith
    ]

-- before the last of words that one stands before
pub put_before_last : (image first : List ℕ) (rest : List (List ℕ)) → insert (first ∷ rest) (max 1 (length rest)) image ≡ first ∷ before_last image rest
put_before_last image first [] = refl
put_before_last image first (word ∷ []) = refl
put_before_last image first (word ∷ next ∷ rest) =
    let at : max 1 (length (word ∷ next ∷ rest)) ≡ suc (max 1 (length (next ∷ rest))) = omega arith in
    rw at (ap (λ (words : List (List ℕ)). first ∷ words) (put_before_last image word (next ∷ rest)))

-- ---- which image a line says

-- the first word of a command's line stays the first
pub first_kept : (image : List ℕ) (rest : List (List ℕ)) → word_at (with_image image rest) 0 ≡ word_at rest 0
first_kept image [] = refl
first_kept image (command ∷ rest) = elim (bytes_eq command (codes "rollback")) as (λ t. word_at (if t then command ∷ before_last image rest else command ∷ image ∷ rest) 0 ≡ command) [ true ↦ refl | false ↦ refl ]

-- the word behind that of another command than `rollback` is the image
plain : (image verb other : List ℕ) (rest tail : List (List ℕ)) → bytes_eq verb (codes "rollback") ≡ false → with_image image rest ≡ verb ∷ other ∷ tail → other ≡ image
plain image verb other [] tail differs e = absurd cc
plain image verb other (command ∷ rest) tail differs e =
    let first : command ≡ verb = sym (first_kept image (command ∷ rest)) ∙ ap (λ (words : List (List ℕ)). word_at words 0) e in
    let test : bytes_eq command (codes "rollback") ≡ false = ap (λ (word : List ℕ). bytes_eq word (codes "rollback")) first ∙ differs in
    sym (ap (λ (words : List (List ℕ)). word_at words 1) (rw test at e))

-- the last but one of words into which it was put is the image
pub last_but_one : (image other last : List ℕ) (rest options : List (List ℕ)) → before_last image rest ≡ options ++ other ∷ last ∷ [] → other ≡ image
last_but_one image other last [] options e = absurd (omega (arith, ap length e, length-append options (other ∷ last ∷ [])))
last_but_one image other last (word ∷ []) [] e = sym (ap (λ (words : List (List ℕ)). word_at words 0) e)
last_but_one image other last (word ∷ []) (option ∷ options) e = absurd (omega (arith, ap length e, length-append options (other ∷ last ∷ [])))
last_but_one image other last (word ∷ next ∷ rest) [] e = absurd (omega (arith, ap length e, length_with image (next ∷ rest)))
last_but_one image other last (word ∷ next ∷ rest) (option ∷ options) e = last_but_one image other last (next ∷ rest) options (ap (λ (words : List (List ℕ)). drop 1 words) e)

rolled : (image other last : List ℕ) (rest options : List (List ℕ)) → with_image image rest ≡ codes "rollback" ∷ (options ++ other ∷ last ∷ []) → other ≡ image
rolled image other last [] options e = absurd cc
rolled image other last (command ∷ rest) options e =
    let first : command ≡ codes "rollback" = sym (first_kept image (command ∷ rest)) ∙ ap (λ (words : List (List ℕ)). word_at words 0) e in
    let test : bytes_eq command (codes "rollback") ≡ true = ap (λ (word : List ℕ). bytes_eq word (codes "rollback")) first in
    last_but_one image other last rest options (ap (λ (words : List (List ℕ)). drop 1 words) (rw test at e))

-- the image that a command's line says is the one that was put in
pub step_image : (image other : List ℕ) (command : Command) (rest : List (List ℕ)) → Says command other (with_image image rest) → other ≡ image
step_image image other (commands.Fs dataset) rest says = plain image (codes "fs") other rest _ refl says
step_image image other (commands.Volume dataset) rest says = plain image (codes "volume") other rest _ refl says
step_image image other (commands.Object dataset k head bonus spill) rest says = plain image (codes "object") other rest _ refl says.4
step_image image other (commands.Write dataset k i bytes) rest says = plain image (codes "write") other rest _ refl says.1.1
step_image image other (commands.Punch dataset k first count) rest says = plain image (codes "punch") other rest _ refl says
step_image image other (commands.Free dataset first count) rest says = plain image (codes "free") other rest _ refl says
step_image image other (commands.Snapshot name) rest says = plain image (codes "snapshot") other rest _ refl says
step_image image other (commands.Clone origin dataset) rest says = plain image (codes "clone") other rest _ refl says
step_image image other (commands.Bookmark snapshot bookmark) rest says = plain image (codes "bookmark") other rest _ refl says
step_image image other (commands.Redact snapshot bookmark redactions) rest says = plain image (codes "redact") other rest _ refl says
step_image image other (commands.Rollback destroys snapshot) rest says = rolled image other snapshot rest says.0.0 says.0.1
step_image image other (commands.Destroy name) rest says = plain image (codes "destroy") other rest _ refl says.1.1
step_image image other (commands.Abort dataset) rest says = plain image (codes "abort") other rest _ refl says
step_image image other commands.Reclaim rest says = plain image (codes "reclaim") other rest _ refl says
step_image image other (commands.Read name k i) rest says = plain image (codes "read") other rest _ refl says.1.1
step_image image other commands.List rest says = plain image (codes "list") other rest _ refl says
step_image image other (commands.ListObjects name) rest says = plain image (codes "list") other rest _ refl says.1.1

pub token_image : (image other dataset : List ℕ) (rest : List (List ℕ)) → with_image image rest ≡ codes "token" ∷ other ∷ dataset ∷ [] → other ≡ image
token_image image other dataset rest says = plain image (codes "token") other rest (dataset ∷ []) refl says

pub check_image : (image other : List ℕ) (rest : List (List ℕ)) → with_image image rest ≡ codes "check" ∷ other ∷ [] → other ≡ image
check_image image other rest says = plain image (codes "check") other rest [] refl says

-- ---- words as texts

map_insert : {A B : Type 0} (f : A → B) (xs : List A) (i : ℕ) (x : A) → map f (insert xs i x) ≡ insert (map f xs) i (f x)
map_insert f [] zero x = refl
map_insert f [] (suc i) x = refl
map_insert f (y ∷ xs) zero x = refl
map_insert f (y ∷ xs) (suc i) x = ap (λ ys. f y ∷ ys) (map_insert f xs i x)

-- the image put before the last of the words behind the first
pub put_behind : (words words' : List (String Global)) (image : String Global) (place : ℕ) → 0 < length words → place ≡ max (length words - 1) 1 → words' ≡ insert words place image
    → map string_bytes words' ≡ behind_options (string_bytes image) (map string_bytes words)
put_behind [] words' image place some is put = absurd (omega arith)
put_behind (first ∷ rest) words' image place some is put =
    let long = length-map rest string_bytes in
    let at : place ≡ max 1 (length (map string_bytes rest)) = omega arith in
    ap (map string_bytes) put ∙ map_insert string_bytes (first ∷ rest) place image ∙ ap (λ (i : ℕ). insert (map string_bytes (first ∷ rest)) i (string_bytes image)) at
    ∙ put_before_last (string_bytes image) (string_bytes first) (map string_bytes rest)
