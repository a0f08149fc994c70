-- What the items of a view do, number by number.
use Rattle.std.proofs.Common.{◌≡◌, ℕ, pred, Bool, true, false, cond, [], ◌++◌, Option, None, Ok, refl, sym, ap, ◌∙◌, arith, ◌==◌, nat_lt, if◌then◌else◌}
use Rattle.std.proofs.Math.Path.{fun_ext}
use Rattle.std.proofs.lemmas.Bool.Decides.{nat_tests}
use Rattle.zst_model.specs.states.State.{State, Object, number_bound}
use Rattle.zst_model.specs.declared.sends.header.Point.{Point}
use Rattle.zst_model.specs.states.AppliedItems.{apply, apply_all, ◌>>=◌, within, put_at}
use Rattle.zst_model.specs.sends.View.{View, Shown, Left, Gone, There, IsShown, IsView}
use Rattle.zst_model.specs.sends.Items.{number_items, items_at, single_items, items, opening, block_changes}
use Rattle.zst_laws.proofs.sends.AppliedItemLemmas.{put_same, apply_all-append}
use Rattle.zst_laws.proofs.sends.Fold.{swept, sweep}
use Rattle.zst_laws.proofs.sends.Joins.{joined_applies}
use Rattle.zst_laws.proofs.sends.Blocks.{settled, object_applies, changes_at}

-- what a view makes of a number, from an offset on
abbrev pub made : Shown → ℕ → Option Object → Option Object
made Left offset old = old
made Gone offset old = None
made (There object) offset old = settled object offset old

one_number : (k j : ℕ) (x y : Option Object) → cond (within k 1 j) x y ≡ cond (j == k) x y
one_number k j x y = grind (arith, nat_tests)

pub number_applies : (k offset : ℕ) (shown : Shown) (s : State) → IsShown shown → apply_all (number_items k offset shown) s ≡ Ok (put_at s k (made shown offset (s k)))
unfolding apply
number_applies k offset Left s h = ap (λ f. Ok f) (sym (put_same s k))
number_applies k offset Gone s h = ap (λ f. Ok f) (fun_ext (λ j. one_number k j None (s j)))
number_applies k offset (There object) s h =
    changes_at k (opening object ++ block_changes object offset) s
    ∙ ap (λ r. r >>= λ o. Ok (put_at s k o)) (object_applies object offset (s k) h)

-- the offset from which the items have the blocks of a number
abbrev pub offset_at : Point → ℕ → ℕ
offset_at point k = if k == point.object then point.offset else 0

abbrev pub made_from : View → Point → ℕ → Option Object → Option Object
made_from view point k old = if nat_lt k point.object then old else made (view.shown k) (offset_at point k) old

pub each_number : (view : View) (point : Point) → IsView view → (k : ℕ) (s : State) → apply_all (items_at view point k) s ≡ Ok (put_at s k (made_from view point k (s k)))
each_number view point h k s = go (nat_lt k point.object)
  where
    go : (b : Bool) → apply_all (if b then [] else number_items k (offset_at point k) (view.shown k)) s ≡ Ok (put_at s k (if b then s k else made (view.shown k) (offset_at point k) (s k)))
    go true = ap (λ f. Ok f) (sym (put_same s k))
    go false = number_applies k (offset_at point k) (view.shown k) s (h.inside k)

-- the single items of a view from a point, on any state
pub singles_apply : (view : View) (point : Point) (s : State) → IsView view → apply_all (single_items view point) s ≡ Ok (swept (made_from view point) 1 (pred number_bound) s)
unfolding single_items
singles_apply view point s h =
    sweep apply_all (λ f. f) (items_at view point) (made_from view point) (λ k x. Unit {0}) (λ z. refl) apply_all-append
    (λ k f _. each_number view point h k f) (pred number_bound) 1 s (λ k low high. tt)

-- and so the joined ones
pub items_apply : (view : View) (point : Point) (s : State) → IsView view → apply_all (items view point) s ≡ Ok (swept (made_from view point) 1 (pred number_bound) s)
items_apply view point s h = joined_applies (single_items view point) s (swept (made_from view point) 1 (pred number_bound) s) (singles_apply view point s h)
