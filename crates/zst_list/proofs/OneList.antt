-- The bytes of a list tell its runs, so that below a root stands one list.
use Rattle.std.proofs.Common.{◌≡◌, ℕ, zero, suc, ◌+◌, ◌^◌, ◌<◌, List, [], ◌∷◌, ◌++◌, length, take, refl, sym, ◌∙◌, ap, arith, append_assoc}
use Rattle.std.specs.List.{All}
use Rattle.std.proofs.lemmas.List.{append_cancel_left, take_at, nil_from_length}
use Rattle.std.proofs.lemmas.List.Elements.{All-head, All-tail}
use Rattle.zst_bytes.specs.Words.{word}
use Rattle.zst_bytes.proofs.BytesLaws.{length-number_bytes, number-again}
use Rattle.zst_space.specs.FreeSectors.{FreeSectors}
use Rattle.zst_block.specs.Blocks.{Has}
use Rattle.zst_block.specs.declared.ptr.Ptr.{Ptr}
use Rattle.zst_model.specs.declared.states.cell.Run.{Run}
use Rattle.zst_model.specs.fields.Lists.{Runs}
use Rattle.zst_model.proofs.OneList.{same_run}
use Rattle.zst_leaves.specs.Leaves.{HasLeaves}
use Rattle.zst_list.specs.RunReads.{FitsWords}
use Rattle.zst_list.specs.Spelling.{gap_bytes, list_bytes, run_bytes, runs_bytes}
use Rattle.zst_list.specs.StoredLists.{HasList, list_length}
use Rattle.zst_list.proofs.ListBytes.{each_fits}
use Rattle.zst_list.proofs.Sizes.{length-list}

-- a word in front tells its number, and what follows
word_front : (n k : ℕ) (after behind : List ℕ) → n < 2 ^ 64 → k < 2 ^ 64 → word n ++ after ≡ word k ++ behind → (n ≡ k) × (after ≡ behind)
word_front n k after behind n_fits k_fits same =
    let front = sym (take_at (word n) after 8 (length-number_bytes 8 n)) ∙ ap (take 8) same ∙ take_at (word k) behind 8 (length-number_bytes 8 k) in
    let first = number-again 8 n (omega (arith, n_fits)) in
    let second = number-again 8 k (omega (arith, k_fits)) in
    let number : n ≡ k = cc (first, second, front) in
    (number, append_cancel_left (word n) after behind (same ∙ ap (λ (m : ℕ). word m ++ behind) (sym number)))

run_parts : (run : Run) (rest : List ℕ) → run_bytes run ++ rest ≡ word run.object ++ (word run.first ++ (word run.count ++ rest))
unfolding run_bytes
run_parts run rest = simp append_assoc

run_tells : (x y : Run) (after behind : List ℕ) → FitsWords x → FitsWords y → run_bytes x ++ after ≡ run_bytes y ++ behind → (x ≡ y) × (after ≡ behind)
run_tells x y after behind x_fits y_fits same =
    let object = word_front x.object y.object _ _ x_fits.object y_fits.object (sym (run_parts x after) ∙ same ∙ run_parts y behind) in
    let first = word_front x.first y.first _ _ x_fits.first y_fits.first object.1 in
    let count = word_front x.count y.count after behind x_fits.count y_fits.count first.1 in
    (same_run x y object.0 first.0 count.0, count.1)

-- lists of as many runs that have the same bytes are one
runs_tell : (place : ℕ) (xs ys : Runs) → All FitsWords xs → All FitsWords ys → length xs ≡ length ys → runs_bytes place xs ≡ runs_bytes place ys → xs ≡ ys
unfolding runs_bytes
runs_tell place [] [] xs_fit ys_fit long same = refl
runs_tell place [] (y ∷ ys) xs_fit ys_fit long same = absurd (omega (arith, long))
runs_tell place (x ∷ xs) [] xs_fit ys_fit long same = absurd (omega (arith, long))
runs_tell place (x ∷ xs) (y ∷ ys) xs_fit ys_fit long same =
    let more = runs_bytes (place + 1) xs in
    let others = runs_bytes (place + 1) ys in
    let first = run_tells x y (gap_bytes place ++ more) (gap_bytes place ++ others) (All-head FitsWords x xs xs_fit) (All-head FitsWords y ys ys_fit)
    (sym (append_assoc (run_bytes x) (gap_bytes place) more) ∙ same ∙ append_assoc (run_bytes y) (gap_bytes place) others) in
    let rest = runs_tell (place + 1) xs ys (All-tail FitsWords x xs xs_fit) (All-tail FitsWords y ys ys_fit) (omega (arith, long)) (append_cancel_left (gap_bytes place) more others first.1) in
    cc (first.0, rest)

-- below a root stands one text of a length
abbrev pub RootsHaveOne : Type 0
RootsHaveOne = (image : List ℕ) (space : FreeSectors) (levels : ℕ) (root : Ptr) (text other : List ℕ) → length text ≡ length other → HasLeaves (Has image space) levels root text → HasLeaves (Has image space) levels root other → text ≡ other

-- and so one list of a count
pub one_list : RootsHaveOne → (image : List ℕ) (space : FreeSectors) (levels : ℕ) (root : Ptr) (count : ℕ) (runs other : Runs) → HasList (Has image space) levels root count runs → HasList (Has image space) levels root count other → runs ≡ other
one_list one image space levels root zero runs other first second = nil_from_length runs first.count_is ∙ sym (nil_from_length other second.count_is)
one_list one image space levels root (suc count) runs other first second =
    let long = first.count_is ∙ sym second.count_is in
    let text = one image space levels root (list_bytes runs) (list_bytes other) (length-list runs ∙ ap list_length long ∙ sym (length-list other)) (first.leaves (omega arith)) (second.leaves (omega arith)) in
    runs_tell 0 runs other (each_fits runs first.lawful) (each_fits other second.lawful) long text
