-- Freeing a range of numbers, part by part, in a leaf and in whole leaves.
use Rattle.std.specs.Prelude.{Option, None, Ok, Err}
use Rattle.std.proofs.Common.{◌≡◌, ◌⊎◌, inl, inr, ℕ, ◌+◌, ◌*◌, ◌^◌, ◌<◌, ◌≤◌, ◌&&◌, ◌||◌, nat_lt, Bool, true, false, List, refl, sym, ◌∙◌, ap, subst, arith, if◌then◌else◌}
use Rattle.std.proofs.Math.Path.{fun_ext}
use Rattle.std.proofs.lemmas.Bool.Decides.{nat_tests}
use Rattle.zst_block.specs.Ptr.{hole_of}
use Rattle.zst_block.specs.declared.ptr.Ptr.{Ptr}
use Rattle.zst_dnode.specs.declared.slot.Slot.TheVariants.{Absent}
use Rattle.zst_model.specs.declared.refusals.faults.Quantity.TheVariants as quantities
use Rattle.zst_model.specs.declared.refusals.refusal.Refusal.TheVariants as refusals
use Rattle.zst_model.specs.states.AppliedItems.{apply}
use Rattle.zst_model.specs.states.DatedState.{DatedState}
use Rattle.zst_model.specs.states.State.{Object, IsObjectOrNone, IsState, is_number, index_bound, number_bound}
use Rattle.zst_tree.specs.Indices.{Blocks, Map, Puts, TreeIs}
use Rattle.zst_tree.specs.declared.tree.ObjSet.{ObjSet}
use Rattle.zst_objset.specs.Changes.{objects_freed}
use Rattle.zst_objset.specs.Dnodes.{IsAbsent}
use Rattle.zst_objset.specs.FreedNumbers.{freed, is_in}
use Rattle.zst_objset.specs.SlotPuts.{Alike, PutsSlot}
use Rattle.zst_objset.specs.Sets.{IsBounded, LeafIs, SetHolds}
use Rattle.zst_objset.proofs.ChangePuts.{over, under}
use Rattle.zst_objset.proofs.SetGrowth.{LeafIs-grows}
use Rattle.zst_objset.proofs.OneState.{dated_made}
use Rattle.zst_objset.proofs.SetPuts.{inside, outside, Sides, sides, LeafIs-alike}

-- the definition accepts where the range ends at 2^48 at most, and makes this
pub objects_freed_is : (number first count : ℕ) (old : DatedState) → first + count ≤ 2 ^ 48 → objects_freed number first count old ≡ Ok (freed number first (first + count) old)
unfolding apply number_bound
objects_freed_is number first count old le = let test : nat_lt 281474976710656 (first + count) ≡ false = grind (arith, nat_tests) in rw test refl

pub objects_freed_far : (number first count : ℕ) (old : DatedState) → 2 ^ 48 < first + count → objects_freed number first count old ≡ Err (refusals.Limit quantities.Object 281474976710656)
unfolding number_bound
objects_freed_far number first count old past = let test : nat_lt 281474976710656 (first + count) ≡ true = grind (arith, nat_tests) in rw test refl

-- whether a number is in a range
is_inside : (first below k : ℕ) → first ≤ k → k < below → is_in first below k ≡ true
is_inside first below k from less = grind (arith, nat_tests)

is_beside : (first below k : ℕ) → (k < first) ⊎ (below ≤ k) → is_in first below k ≡ false
is_beside first below k (inl before) = grind (arith, nat_tests)
is_beside first below k (inr behind) = grind (arith, nat_tests)

-- what isn't a number isn't dated, and no index past the last
untouched_number : (t n : Bool) (x y : ℕ) → n ≡ false → (if t && n then x else y) ≡ y
untouched_number true n x y is = rw is refl
untouched_number false n x y is = refl

untouched_numbers_index : (t n b : Bool) (x y : ℕ) → n ≡ false → (if (t && n) && b then x else y) ≡ y
untouched_numbers_index true n b x y is = rw is refl
untouched_numbers_index false n b x y is = refl

none_there : (t : Bool) (object : Option Object) → object ≡ None → (if t then None else object) ≡ None
none_there true object is = refl
none_there false object is = is

object_there : (t : Bool) (object : Option Object) → IsObjectOrNone object → IsObjectOrNone (if t then None else object)
object_there true object is = tt
object_there false object is = is

module _ (number first below : ℕ) (old : DatedState) where
  -- each number of the range has an absent slot of the date
  pub freed_puts : (has : Blocks) → IsState old.state → IsBounded old → PutsSlot has old (freed number first below old) first below (Absent number)
  freed_puts has lawful bounded = record {
    lawful = record {
      zero = none_there (is_in first below 0) (old.state 0) lawful.zero;
      bounded = λ k past. none_there (is_in first below k) (old.state k) (lawful.bounded k past);
      objects = λ k. object_there (is_in first below k) (old.state k) (lawful.objects k);
    };
    bounded = record {
      no_number = λ k none. untouched_number (is_in first below k) (is_number k) number (old.number_date k) none ∙ bounded.no_number k none;
      no_numbers_index = λ k i none. untouched_numbers_index (is_in first below k) (is_number k) (nat_lt i index_bound) number (old.index_date k i) none ∙ bounded.no_numbers_index k i none;
      no_index = λ k i past. untouched_number (is_in first below k && is_number k) (nat_lt i index_bound) number (old.index_date k i) (over i past) ∙ bounded.no_index k i past;
    };
    put = λ k is_one from less. absent_at k is_one (is_inside first below k from less);
    kept = λ k is_one beside. alike_at k (is_beside first below k beside);
  }
    where
      absent_at : (k : ℕ) → is_number k ≡ true → is_in first below k ≡ true → IsAbsent (freed number first below old) k number
      absent_at k is_one test = record {
        none = rw test refl;
        date_is = rw (test, is_one) refl;
        dates = λ i less. rw (test, is_one, under i less) refl;
      }

      alike_at : (k : ℕ) → is_in first below k ≡ false → Alike old (freed number first below old) k
      alike_at k test = record { state = rw test refl; date = rw test refl; dates = λ i less. rw test refl }

-- a range of no numbers
pub freed-none : (number first below : ℕ) (old : DatedState) → first ≡ below → freed number first below old ≡ old
freed-none number first below old same = dated_made _ _ _ old (fun_ext (λ k. rw (none k) refl)) (fun_ext (λ k. rw (none k) refl)) (fun_ext (λ k. fun_ext (λ i. rw (none k) refl)))
  where
    none : (k : ℕ) → is_in first below k ≡ false
    none k = grind (arith, nat_tests)

-- two ranges that meet are one
joined : {A : Type 0} (t u v : Bool) (x y : A) → (t || u) ≡ v → (if t then x else (if u then x else y)) ≡ (if v then x else y)
joined true u v x y is = rw (← is) refl
joined false u v x y is = rw (← is) refl

both : (t u n : Bool) → ((t && n) || (u && n)) ≡ ((t || u) && n)
both true u true = refl
both true true false = refl
both true false false = refl
both false u n = refl

pub freed-then : (number first middle below : ℕ) (old : DatedState) → first ≤ middle → middle ≤ below → freed number middle below (freed number first middle old) ≡ freed number first below old
freed-then number first middle below old le more = dated_made _ _ _ (freed number first below old)
    (fun_ext (λ k. joined _ _ _ None (old.state k) (ranges k)))
    (fun_ext (λ k. joined _ _ _ number (old.number_date k) (numbers k)))
    (fun_ext (λ k. fun_ext (λ i. joined _ _ _ number (old.index_date k i) (indices k i))))
  where
    ranges : (k : ℕ) → (is_in middle below k || is_in first middle k) ≡ is_in first below k
    ranges k = grind (arith, nat_tests)

    numbers : (k : ℕ) → ((is_in middle below k && is_number k) || (is_in first middle k && is_number k)) ≡ (is_in first below k && is_number k)
    numbers k = both (is_in middle below k) (is_in first middle k) (is_number k) ∙ ap (λ (t : Bool). t && is_number k) (ranges k)

    indices : (k i : ℕ) → (((is_in middle below k && is_number k) && nat_lt i index_bound) || ((is_in first middle k && is_number k) && nat_lt i index_bound)) ≡ ((is_in first below k && is_number k) && nat_lt i index_bound)
    indices k i = both (is_in middle below k && is_number k) (is_in first middle k && is_number k) (nat_lt i index_bound) ∙ ap (λ (t : Bool). t && nat_lt i index_bound) (numbers k)

-- three ranges that meet
pub freed-parts : (number first middle last below : ℕ) (old : DatedState) → first ≤ middle → middle ≤ last → last ≤ below → freed number last below (freed number middle last (freed number first middle old)) ≡ freed number first below old
freed-parts number first middle last below old a b c = ap (freed number last below) (freed-then number first middle last old a b) ∙ freed-then number first last below old (omega (arith, a, b)) c

-- a map with one pointer at each index of a range
abbrev pub with_holes : Map → ℕ → ℕ → Ptr → Map
with_holes map first below ptr i = if is_in first below i then ptr else map i

pub Puts-holes : (map : Map) (first below end : ℕ) (ptr : Ptr) → end ≡ below → Puts map (with_holes map first below ptr) first end ptr
Puts-holes map first below end ptr same = record {
  inside = record { is = λ i from less. inside first below i ptr (map i) from (omega (arith, less, same)) };
  beside = record { before = λ i base less. outside first below i ptr (map i) (inl less); behind = λ i past above. outside first below i ptr (map i) (inr (omega (arith, past, same))) };
}

-- holes in place of whole leaves
pub SetHolds-holes : (has more : Blocks) → ((ptr : Ptr) (bytes : List ℕ) → has ptr bytes → more ptr bytes) → (set made : ObjSet) (old new : DatedState) (first below date : ℕ)
    → PutsSlot has old new (16 * first) (16 * below) (Absent date) → (holds : SetHolds has set old) → made.tree.levels ≤ 7 → TreeIs more made.tree (with_holes holds.map first below (hole_of date)) → SetHolds more made new
SetHolds-holes has more up set made old new first below date puts holds levels tree = record {
  lawful = puts.lawful;
  bounded = puts.bounded;
  levels = levels;
  map = with_holes holds.map first below (hole_of date);
  tree = tree;
  leaves = λ i less. leaf_at i less (sides first below i);
}
  where
    apart : (i s : ℕ) → s < 16 → (i < first) ⊎ (below ≤ i) → (16 * i + s < 16 * first) ⊎ (16 * below ≤ 16 * i + s)
    apart i s small (inl before) = inl (omega arith)
    apart i s small (inr behind) = inr (omega arith)

    leaf_at : (i : ℕ) → i < 2 ^ 44 → Sides first below i → LeafIs more new i (with_holes holds.map first below (hole_of date) i)
    leaf_at i less (inl within) =
        subst (LeafIs more new i) (sym (inside first below i (hole_of date) (holds.map i) within.0 within.1))
        (inl (record { kind = refl; absent = λ s small is_one. puts.put (16 * i + s) is_one (omega (arith, within.0)) (omega (arith, within.1, small)) }))
    leaf_at i less (inr beside) =
        subst (LeafIs more new i) (sym (outside first below i (hole_of date) (holds.map i) beside))
        (LeafIs-grows has more up new i (holds.map i) (LeafIs-alike has old new i (holds.map i) (λ s small is_one. puts.kept (16 * i + s) is_one (apart i s small beside)) (holds.leaves i less)))
