-- A change of one object puts the slot of its number, and leaves all others.
use Rattle.std.proofs.Common.{◌≡◌, ◌⊎◌, inl, inr, ℕ, ◌+◌, ◌<◌, ◌≤◌, ◌==◌, ◌&&◌, nat_lt, Bool, true, false, refl, sym, ◌∙◌, subst, ap, arith, if◌then◌else◌, Some, Ok}
use Rattle.std.proofs.lemmas.Bool.{true≢false}
use Rattle.std.proofs.lemmas.Bool.Decides.{nat_tests}
use Rattle.zst_dnode.specs.declared.dnode.Dnode.{Dnode}
use Rattle.zst_dnode.specs.declared.slot.Slot.TheVariants.{There}
use Rattle.zst_laws.specs.Dates.{AppliedIsState, IsLawfulItem}
use Rattle.zst_model.specs.declared.states.item.Change.{Change}
use Rattle.zst_model.specs.declared.states.item.Item.TheVariants.{At}
use Rattle.zst_model.specs.states.State.{Object, IsState, is_number, index_bound}
use Rattle.zst_model.specs.states.AppliedItems.{apply, apply_change, put_at}
use Rattle.zst_model.specs.states.DatedState.{DatedState, apply_dated, dates_index, dates_number}
use Rattle.zst_model.specs.pools.Step.{of_applying}
use Rattle.zst_tree.specs.Indices.{Blocks, Map}
use Rattle.zst_objset.specs.Dnodes.{ObjectIs, SlotIs}
use Rattle.zst_objset.specs.SlotPuts.{Alike, PutsSlot, MakesDnode, date_to, dates_to}
use Rattle.zst_objset.specs.Changes.{changed}
use Rattle.zst_objset.specs.Sets.{IsBounded}

pub same : (j : ℕ) → (j == j) ≡ true
same j = grind (arith, nat_tests)

pub beside : (j k : ℕ) → (k < j) ⊎ (j + 1 ≤ k) → (k == j) ≡ false
beside j k (inl less) = grind (arith, nat_tests)
beside j k (inr more) = grind (arith, nat_tests)

no_number_beside : (j k : ℕ) → is_number j ≡ true → is_number k ≡ false → (t : Bool) → (k == j) ≡ t → t ≡ false
no_number_beside j k number none true test = let is : k ≡ j = grind (arith, nat_tests) in absurd (true≢false (sym number ∙ subst (λ (n : ℕ). is_number n ≡ false) is none))
no_number_beside j k number none false test = refl

pub under : (i : ℕ) → i < index_bound → nat_lt i index_bound ≡ true
under i less = grind (arith, nat_tests)

pub over : (i : ℕ) → index_bound ≤ i → nat_lt i index_bound ≡ false
over i le = grind (arith, nat_tests)

-- tests of a number and an index
at_number : {A : Type 0} (t : Bool) (d : Bool) (x y : A) → t ≡ true → (if t && d then x else y) ≡ (if d then x else y)
at_number t d x y is = rw is refl

no_at : {A : Type 0} (t : Bool) (d : Bool) (x y : A) → t ≡ false → (if t && d then x else y) ≡ y
no_at t d x y is = rw is refl

at_index : {A : Type 0} (t d b : Bool) (x y : A) → t ≡ true → b ≡ true → (if (t && d) && b then x else y) ≡ (if d then x else y)
at_index t true b x y is less = rw (is, less) refl
at_index t false b x y is less = rw (is) refl

no_at_index : {A : Type 0} (t d b : Bool) (x y : A) → t ≡ false → (if (t && d) && b then x else y) ≡ y
no_at_index t d b x y is = rw is refl

no_index_at : {A : Type 0} (t b : Bool) (x y : A) → b ≡ false → (if t && b then x else y) ≡ y
no_index_at true b x y is = rw is refl
no_index_at false b x y is = refl

module _ (number j : ℕ) (change : Change) (old : DatedState) where
  -- the state after the change, with its dates
  abbrev pub changed_to : Object → DatedState
  changed_to object = record {
    state = put_at old.state j (Some object);
    number_date = λ k. if k == j && dates_number change then number else old.number_date k;
    index_date = λ k i. if (k == j && dates_index change (old.state j) i) && nat_lt i index_bound then number else old.index_date k i;
  }

  -- the definition makes it
  pub changed_is : (object : Object) → apply_change change (old.state j) ≡ Ok (Some object) → apply_dated number (At j change) old ≡ Ok (changed_to object)
  unfolding apply
  changed_is object is = rw is refl

  pub kept_at : (object : Object) (k : ℕ) → (k == j) ≡ false → Alike old (changed_to object) k
  kept_at object k other = record {
    state = rw other refl;
    date = no_at (k == j) (dates_number change) number (old.number_date k) other;
    dates = λ i less. no_at_index (k == j) (dates_index change (old.state j) i) (nat_lt i index_bound) number (old.index_date k i) other;
  }

  -- the dates of the number and of its indices
  pub date_put : (if j == j && dates_number change then number else old.number_date j) ≡ date_to number j change old
  date_put = at_number (j == j) (dates_number change) number (old.number_date j) (same j)

  pub dates_put : (i : ℕ) → i < index_bound → (if (j == j && dates_index change (old.state j) i) && nat_lt i index_bound then number else old.index_date j i) ≡ dates_to number j change old i
  dates_put i less = at_index (j == j) (dates_index change (old.state j) i) (nat_lt i index_bound) number (old.index_date j i) (same j) (under i less)

  -- what isn't a number or an index has the date 0 still
  pub change_bounded : (object : Object) → is_number j ≡ true → IsBounded old → IsBounded (changed_to object)
  change_bounded object is_one bounded = record {
    no_number = λ k none. no_at (k == j) (dates_number change) number (old.number_date k) (no_number_beside j k is_one none (k == j) refl) ∙ bounded.no_number k none;
    no_numbers_index = λ k i none. no_at_index (k == j) (dates_index change (old.state j) i) (nat_lt i index_bound) number (old.index_date k i) (no_number_beside j k is_one none (k == j) refl) ∙ bounded.no_numbers_index k i none;
    no_index = λ k i le. no_index_at (k == j && dates_index change (old.state j) i) (nat_lt i index_bound) number (old.index_date k i) (over i le) ∙ bounded.no_index k i le;
  }

  -- the slot of the number is put
  pub change_puts : (has : Blocks) (object : Object) (dnode : Dnode) (map : Map) → is_number j ≡ true → IsState old.state → IsBounded old → apply_change change (old.state j) ≡ Ok (Some object) → IsLawfulItem (At j change) old.state
      → AppliedIsState → ObjectIs has dnode object (date_to number j change old) (dates_to number j change old) map → PutsSlot has old (changed_to object) j (j + 1) (There dnode)
  change_puts has object dnode map is_one lawful bounded is item law object_is = record {
    lawful = law number (At j change) old (changed_to object) lawful item (changed_is object is);
    bounded = change_bounded object is_one bounded;
    put = λ k number_k from below. subst (λ (n : ℕ). SlotIs has (changed_to object) n (There dnode)) (omega (arith, from, below)) here;
    kept = λ k number_k other. kept_at object k (beside j k other);
  }
    where
      here : SlotIs has (changed_to object) j (There dnode)
      here = record {
        object = object;
        there = rw (same j) refl;
        map = map;
        is = record {
          type_is = object_is.type_is;
          bonus_type_is = object_is.bonus_type_is;
          size_is = object_is.size_is;
          bonus_is = object_is.bonus_is;
          date_is = object_is.date_is ∙ sym date_put;
          end_is = object_is.end_is;
          spill_is = object_is.spill_is;
          tree = object_is.tree;
          blocks = object_is.blocks;
          index_dates = λ i less. object_is.index_dates i less ∙ sym (dates_put i less);
        };
      }

-- what a change makes of an object is what the definition makes, and its slot is put
pub makes_dnode : (has : Blocks) (number j : ℕ) (change : Change) (old : DatedState) (dnode : Dnode) → IsState old.state → IsBounded old → AppliedIsState → (makes : MakesDnode has number j change old dnode)
    → (changed number (At j change) old ≡ Ok (changed_to number j change old makes.object)) × PutsSlot has old (changed_to number j change old makes.object) j (j + 1) (There dnode)
makes_dnode has number j change old dnode lawful bounded law makes = (
  ap of_applying (changed_is number j change old makes.object makes.made),
  change_puts number j change old has makes.object dnode makes.map makes.lawful.0 lawful bounded makes.made makes.lawful law makes.is,
)
