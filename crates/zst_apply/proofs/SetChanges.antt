-- What calls on a set answer, one after another, is what a record's call answers.
use Rattle.std.proofs.Common.{◌≡◌, ℕ, [], ◌∷◌, List, Result, Ok, Err, refl, sym, subst}
use Rattle.std.specs.Prelude.{None, IfErr, OnErr, OnOk}
use Rattle.zst_space.specs.FreeSectors.{FreeSectors}
use Rattle.zst_block.specs.Blocks.{Has, SparesTaken}
use Rattle.zst_block.specs.IoStates.{IoState}
use Rattle.zst_block.specs.IoCalls.{Looks, Works}
use Rattle.zst_block.proofs.IoCallLemmas.{Works-after, Works-looks}
use Rattle.zst_model.specs.declared.refusals.faults.Quantity.TheVariants as quantities
use Rattle.zst_model.specs.declared.refusals.refusal.Refusal.{Refusal}
use Rattle.zst_model.specs.declared.states.item.Item.{Item}
use Rattle.zst_model.specs.pools.Soundness.{DatedUpTo}
use Rattle.zst_model.specs.sends.ReceivedRecords.{received}
use Rattle.zst_model.specs.states.DatedState.{DatedState}
use Rattle.zst_model.specs.states.State.{index_bound}
use Rattle.zst_tree.specs.Sets.{SetFits}
use Rattle.zst_tree.specs.declared.tree.ObjSet.{ObjSet}
use Rattle.zst_objset.specs.Answers.{Changes, LimitOnly, NotLimit, NotRedacted, stop_of}
use Rattle.zst_objset.specs.Damage.{AreTreesWithin, DamageFact, IfSetDamaged}
use Rattle.zst_objset.specs.SetChanges.{ChangesSet, ChangesTightSet, KeepsSet, SetHas, SetHasTight}
use Rattle.zst_objset.specs.Sets.{SetHolds}
use Rattle.zst_objset.specs.TightSets.{SetIsTight}
use Rattle.zst_objset.specs.declared.fault.ObjFault.{ObjFault}
use Rattle.zst_objset.specs.declared.fault.ObjFault.TheVariants as faults
use Rattle.zst_objset.proofs.LeafLaws.{look_on}
use Rattle.zst_apply.specs.AppliedRecords.{LimitOfIndex, RefusesRecord, received_all}
use Rattle.zst_apply.specs.Changed.{Changed}
use Rattle.zst_apply.specs.Damage.{apply_damage}
use Rattle.zst_apply.proofs.RecordAnswers.{all_applied, applies_as, for_record}
use Rattle.zst_apply.proofs.SetFaults.{told_before, within_looked}

-- no limit, or that of an index
pub no_limit : (result : Result (Unit {0}) ObjFault) → IfErr result NotLimit → IfErr result LimitOfIndex
no_limit (Ok done) is = tt
no_limit (Err (faults.CannotApply fault)) is = tt
no_limit (Err (faults.Redacted object block)) is = tt
no_limit (Err (faults.Limit which limit)) is = absurd is
no_limit (Err (faults.Block fault)) is = tt

pub of_index : (past : ℕ) (result : Result (Unit {0}) ObjFault) → IfErr result (LimitOnly quantities.Block index_bound past) → IfErr result LimitOfIndex
of_index past (Ok done) is = tt
of_index past (Err (faults.CannotApply fault)) is = tt
of_index past (Err (faults.Redacted object block)) is = tt
of_index past (Err (faults.Limit which limit)) is = (is.0, is.1)
of_index past (Err (faults.Block fault)) is = tt

-- a set that is as it was, or fits, fits
pub fits_then : (set made : ObjSet) (result : Result (Unit {0}) ObjFault) → OnErr result (made ≡ set) → OnOk result (SetFits made) → SetFits set → SetFits made
fits_then set made (Ok done) kept fit fits = fit
fits_then set made (Err fault) kept fit fits = subst SetFits (sym kept) fits

-- a call that only read, and is refused
pub refused_after : {number most block : ℕ} {old new : IoState} {set : ObjSet}
    (definition : ℕ → DatedState → Result DatedState Refusal) (fault : ObjFault) → Looks old new (stop_of {T = Unit {0}} (Err fault))
    → ((index : ℕ) (state : DatedState) → new.disk.honest → SetHolds (Has old.disk.seen old.space) set state → RefusesRecord index (definition index state) fault)
    → LimitOfIndex fault → NotRedacted fault → (new.disk.honest → IfSetDamaged {T = Unit {0}} (Err fault) (apply_damage (SparesTaken old.space old.disk.seen) old.disk.size set))
    → Changed number definition most block old new set set (Err fault)
refused_after definition fault looks refuses limits unredacted damaged = record {
  changed = refuses;
  tight = λ index state honest tight dated. refuses index state honest tight.holds;
  keeps = record { limits = limits; unredacted = unredacted; damaged = damaged; kept = refl; works = Works-looks looks };
  within = λ honest. tt;
  levels = λ fit. fit;
}

-- a call that changes a set keeps to what a record does, where its limits and its damage are a record's
pub keeps_by : {most block : ℕ} {old new : IoState} {set made : ObjSet} {Limits : ObjFault → Type 0} {damage : DamageFact} (result : Result (Unit {0}) ObjFault)
    → (IfErr result Limits → IfErr result LimitOfIndex) → (IfSetDamaged result damage → IfSetDamaged result (apply_damage (SparesTaken old.space old.disk.seen) old.disk.size set))
    → KeepsSet Limits damage most block old new set made result
    → KeepsSet LimitOfIndex (apply_damage (SparesTaken old.space old.disk.seen) old.disk.size set) most block old new set made result
keeps_by result limits told keeps = record { limits = limits keeps.limits; unredacted = keeps.unredacted; damaged = λ honest. told (keeps.damaged honest); kept = keeps.kept; works = keeps.works }

-- a call that answers what the item makes
module _ {number most block : ℕ} {old new : IoState} {set made : ObjSet} {Limits : ObjFault → Type 0} {damage : DamageFact} (item : Item) (makes : DatedState → Result DatedState Refusal) (result : Result (Unit {0}) ObjFault)
    (is : (index : ℕ) (state : DatedState) → new.disk.honest → SetHolds (Has old.disk.seen old.space) set state → received number index item state ≡ for_record index (makes state))
    (limits : IfErr result Limits → IfErr result LimitOfIndex) (told : IfSetDamaged result damage → IfSetDamaged result (apply_damage (SparesTaken old.space old.disk.seen) old.disk.size set)) where
  pub set_changed_by : ChangesSet SetHas makes Limits damage most block old new set made result
      → ((state : DatedState) → new.disk.honest → SetIsTight (Has old.disk.seen old.space) set state → DatedUpTo number state → Changes (SetIsTight (Has new.disk.seen new.space) made) (makes state) result)
      → (new.disk.honest → OnOk result (AreTreesWithin (SparesTaken old.space old.disk.seen) old.disk.size set (SparesTaken new.space new.disk.seen) made))
      → (SetFits set → SetFits made)
      → Changed number (λ index. received number index item) most block old new set made result
  set_changed_by changes tightly within levels = record {
    changed = λ index state honest holds. applies_as number index item state (makes state) (is index state honest holds) (SetHolds (Has new.disk.seen new.space) made) result (changes.changed state honest holds);
    tight = λ index state honest tight dated. applies_as number index item state (makes state) (is index state honest tight.holds) (SetIsTight (Has new.disk.seen new.space) made) result (tightly state honest tight dated);
    keeps = keeps_by result limits told changes.keeps;
    within = within;
    levels = levels;
  }

  pub changed_by : ChangesTightSet SetHas SetHasTight SetFits number makes Limits damage most block old new set made result
      → (new.disk.honest → OnOk result (AreTreesWithin (SparesTaken old.space old.disk.seen) old.disk.size set (SparesTaken new.space new.disk.seen) made))
      → Changed number (λ index. received number index item) most block old new set made result
  changed_by changes within = set_changed_by changes.set changes.tight within (fits_then set made result changes.set.keeps.kept changes.levels)

module _ {number most block : ℕ} {old new : IoState} {set made : ObjSet} where
  -- an item is all that a record says; what it may take is more
  pub record_changed : {fewer other : ℕ} (item : Item) (result : Result (Unit {0}) ObjFault) → Changed number (λ index. received number index item) fewer other old new set made result
      → Works most block old new (stop_of result)
      → Changed number (λ index. received_all number index (item ∷ [])) most block old new set made result
  record_changed item result did works = record {
    changed = λ index state honest holds. all_applied number index item state (SetHolds (Has new.disk.seen new.space) made) result (did.changed index state honest holds);
    tight = λ index state honest tight dated. all_applied number index item state (SetIsTight (Has new.disk.seen new.space) made) result (did.tight index state honest tight dated);
    keeps = record { limits = did.keeps.limits; unredacted = did.keeps.unredacted; damaged = did.keeps.damaged; kept = did.keeps.kept; works = works };
    within = did.within;
    levels = did.levels;
  }

  -- a call behind one that read
  pub changed_after : {mid : IoState} (definition : ℕ → DatedState → Result DatedState Refusal) (result : Result (Unit {0}) ObjFault) → Looks old mid None
      → Changed number definition most block mid new set made result → Changed number definition most block old new set made result
  changed_after definition result looks did = record {
    changed = λ index state honest holds. did.changed index state honest (look_on (λ (seen : List ℕ) (free : FreeSectors). SetHolds (Has seen free) set state) looks holds);
    tight = λ index state honest tight dated. did.tight index state honest (look_on (λ (seen : List ℕ) (free : FreeSectors). SetIsTight (Has seen free) set state) looks tight) dated;
    keeps = record {
      limits = did.keeps.limits;
      unredacted = did.keeps.unredacted;
      damaged = λ honest. told_before looks set result (did.keeps.damaged honest);
      kept = did.keeps.kept;
      works = Works-after looks did.keeps.works;
    };
    within = λ honest. within_looked looks (SparesTaken new.space new.disk.seen) set made result (did.within honest);
    levels = did.levels;
  }
