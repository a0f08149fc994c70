-- What a change of an object is refused for, and what a spill makes of it.
use Rattle.std.proofs.Common.{◌≡◌, ℕ, ◌%◌, ◌^◌, ◌<◌, true, List, refl, sym, ap, subst, arith, Option, Some, None, Result, Ok, Err}
use Rattle.std.proofs.lemmas.Bool.Decides.{nat_tests}
use Rattle.zst_block.specs.Ptr.{PtrFits}
use Rattle.zst_block.specs.declared.fault.BlockFault.{BlockFault}
use Rattle.zst_block.specs.declared.fault.BlockFault.TheVariants.{Full, Damaged, DiskFault}
use Rattle.zst_block.specs.declared.ptr.Ptr.{Ptr}
use Rattle.zst_dnode.specs.Dnode.{DnodeFits}
use Rattle.zst_dnode.specs.declared.dnode.Dnode.{Dnode}
use Rattle.zst_model.specs.declared.refusals.apply_fault.ApplyFault.TheVariants.{NoObject}
use Rattle.zst_model.specs.declared.refusals.refusal.Refusal.{Refusal}
use Rattle.zst_model.specs.declared.refusals.refusal.Refusal.TheVariants as refusals
use Rattle.zst_model.specs.declared.states.item.Change.{Change}
use Rattle.zst_model.specs.declared.states.item.Change.TheVariants.{Spill}
use Rattle.zst_model.specs.declared.states.item.Item.TheVariants.{At}
use Rattle.zst_model.specs.states.AppliedItems.{apply, apply_change}
use Rattle.zst_model.specs.states.DatedState.{DatedState}
use Rattle.zst_model.specs.states.State.{IsSpill, Object, is_number, is_spill_size}
use Rattle.zst_model.specs.pools.Step.{of_applying}
use Rattle.zst_tree.specs.Indices.{Blocks, IsNoDamage}
use Rattle.zst_objset.specs.Answers.{BlockStops, FindsThere, Refuses}
use Rattle.zst_objset.specs.Changes.{changed}
use Rattle.zst_objset.specs.Dnodes.{IsThere, ObjectIs}
use Rattle.zst_objset.specs.declared.fault.ObjFault.{ObjFault}
use Rattle.zst_objset.proofs.AnswerLaws.{none_refused}
use Rattle.zst_objset.specs.SlotPuts.{MakesDnode, date_to, dates_to}
use Rattle.zst_objset.proofs.ChangePuts.{changed_is, changed_to}

changed_none : (number k : ℕ) (change : Change) (snap : DatedState) → apply_change change None ≡ Err NoObject → snap.state k ≡ None → changed number (At k change) snap ≡ Err (refusals.CannotApply 0 NoObject)
unfolding apply
changed_none number k change snap is none = rw (none, is) refl

-- a change of an object that isn't there
pub change_not_there : (has : Blocks) (number k : ℕ) (change : Change) (snap : DatedState) (fault : ObjFault) → apply_change change None ≡ Err NoObject → FindsThere has snap k (Err fault) → Refuses (changed number (At k change) snap) fault
change_not_there has number k change snap fault none is = none_refused (changed number (At k change) snap) has snap k fault (changed_none number k change snap none) is

-- a block's fault where the definition accepts
pub stops : {A : Type 0} (definition : Result A Refusal) (after : A) (fault : BlockFault) → definition ≡ Ok after → IsNoDamage fault → BlockStops definition fault
stops definition after (Full need largest) is undamaged = (after, is)
stops definition after (Damaged sector stated found) is undamaged = undamaged
stops definition after DiskFault is undamaged = tt

pub undamaged_write : (fault : BlockFault) → ((sector : ℕ) (stated found : List ℕ) → ◌≡◌ {A = Result Ptr BlockFault} (Err fault) (Err (Damaged sector stated found)) → ⊥) → IsNoDamage fault
undamaged_write (Full need largest) never = tt
undamaged_write (Damaged sector stated found) never = never sector stated found refl
undamaged_write DiskFault never = tt

-- an object with another spill
abbrev pub spilled : Object → List ℕ → Object
spilled object bytes = record { attr = record object.attr { spill = Some bytes }; blocks = object.blocks }

pub no_spill : (bytes : List ℕ) → apply_change (Spill bytes) None ≡ Err NoObject
unfolding apply_change
no_spill bytes = refl

pub spill_makes : (bytes : List ℕ) (state : Option Object) (object : Object) → state ≡ Some object → apply_change (Spill bytes) state ≡ Ok (Some (spilled object bytes))
unfolding apply_change
spill_makes bytes state object is = rw is refl

pub spill_is : (number k : ℕ) (bytes : List ℕ) (snap : DatedState) (object : Object) → snap.state k ≡ Some object → changed number (At k (Spill bytes)) snap ≡ Ok (changed_to number k (Spill bytes) snap (spilled object bytes))
spill_is number k bytes snap object is = ap of_applying (changed_is number k (Spill bytes) snap (spilled object bytes) (spill_makes bytes (snap.state k) object is))

-- its dnode
pub spill_object : (has : Blocks) (number k : ℕ) (bytes : List ℕ) (snap : DatedState) (dnode : Dnode) (spill : Ptr) (there : IsThere has snap k dnode) → spill.kind ≡ 1 → has spill bytes
    → ObjectIs has (record dnode { spill = spill; date = number }) (spilled there.object bytes) (date_to number k (Spill bytes) snap) (dates_to number k (Spill bytes) snap) there.map
spill_object has number k bytes snap dnode spill there kind is = record {
  type_is = there.is.type_is;
  bonus_type_is = there.is.bonus_type_is;
  size_is = there.is.size_is;
  bonus_is = there.is.bonus_is;
  date_is = refl;
  end_is = there.is.end_is;
  spill_is = (kind, is);
  tree = there.is.tree;
  blocks = there.is.blocks;
  index_dates = there.is.index_dates;
}

-- so the change makes it
pub spill_makes_dnode : (has : Blocks) (number k : ℕ) (bytes : List ℕ) (snap : DatedState) (dnode made : Dnode) (spill : Ptr) → IsThere has snap k dnode → is_number k ≡ true → IsSpill bytes → spill.kind ≡ 1 → has spill bytes
    → made ≡ record dnode { spill = spill; date = number } → DnodeFits (record dnode { spill = spill; date = number }) → MakesDnode has number k (Spill bytes) snap made
spill_makes_dnode has number k bytes snap dnode made spill there is_one size kind is made_is fits = subst (MakesDnode has number k (Spill bytes) snap) (sym made_is) (record {
  object = spilled there.object bytes;
  made = spill_makes bytes (snap.state k) there.object there.there;
  lawful = (is_one, size);
  fits = fits;
  map = there.map;
  is = spill_object has number k bytes snap dnode spill there kind is;
})

pub spill_fits : (dnode : Dnode) (spill : Ptr) (number : ℕ) → DnodeFits dnode → PtrFits spill → number < 2 ^ 64 → spill.kind ≡ 1 → is_spill_size spill.length ≡ true → DnodeFits (record dnode { spill = spill; date = number })
spill_fits dnode spill number fits ptr small kind size = record {
  head = fits.head;
  bonus = fits.bonus;
  date = small;
  levels = fits.levels;
  past = fits.past;
  end = fits.end;
  odd = fits.odd;
  root_fits = fits.root_fits;
  root_lawful = fits.root_lawful;
  root = fits.root;
  spill_fits = ptr;
  spill_lawful = rw kind refl;
  spill = rw (kind, size) refl;
}

pub spill_some : (n : ℕ) → is_spill_size n ≡ true → 0 < n
unfolding is_spill_size
spill_some n is = grind (arith, nat_tests)

pub spill_whole : (n : ℕ) → is_spill_size n ≡ true → n % 512 ≡ 0
unfolding is_spill_size
spill_whole n is = grind (arith, nat_tests)

pub spill_small : (n : ℕ) → is_spill_size n ≡ true → n < 4294967296
unfolding is_spill_size
spill_small n is = grind (arith, nat_tests)
