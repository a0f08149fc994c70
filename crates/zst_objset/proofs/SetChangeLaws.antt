-- A refusal changes no set, and takes no sectors.
use Rattle.std.specs.Prelude.{ℕ, List, Some, None, Result, Err}
use Rattle.std.proofs.Common.{◌≡◌, refl}
use Rattle.zst_block.specs.Blocks.{Has}
use Rattle.zst_block.specs.IoCalls.{Looks, Works}
use Rattle.zst_block.specs.IoStates.{IoState}
use Rattle.zst_block.specs.declared.fault.BlockFault.{BlockFault}
use Rattle.zst_block.specs.declared.fault.BlockFault.TheVariants.{Damaged}
use Rattle.zst_block.proofs.IoCallLemmas.{Looks-none, Works-looks}
use Rattle.zst_model.specs.declared.refusals.refusal.Refusal.{Refusal}
use Rattle.zst_model.specs.states.DatedState.{DatedState}
use Rattle.zst_tree.specs.Sets.{SetFits}
use Rattle.zst_tree.specs.Steps.{LooksAtMost}
use Rattle.zst_tree.specs.declared.tree.ObjSet.{ObjSet}
use Rattle.zst_objset.specs.Answers.{NotRedacted, Refuses, stop_of}
use Rattle.zst_objset.specs.Damage.{DamageFact, IfSetDamaged}
use Rattle.zst_objset.specs.SetChanges.{ChangesSet, ChangesTightSet, SetHas, SetHasTight}
use Rattle.zst_objset.specs.Sets.{SetHolds}
use Rattle.zst_objset.specs.declared.fault.ObjFault.{ObjFault}

module _ {most block : ℕ} {old new : IoState} {set : ObjSet} {Limits : ObjFault → Type 0} {damage : DamageFact} (definition : DatedState → Result DatedState Refusal) (fault : ObjFault)
    (refuses : (state : DatedState) → new.disk.honest → SetHolds (Has old.disk.seen old.space) set state → Refuses (definition state) fault) (limits : Limits fault) (unredacted : NotRedacted fault)
    (damaged : new.disk.honest → IfSetDamaged {T = Unit {0}} (Err fault) damage) (works : Works most block old new (stop_of {T = Unit {0}} (Err fault))) where
  -- the set stays as it was, and what is told is the definition's refusal, or a block's
  pub refused_set : ChangesSet SetHas definition Limits damage most block old new set set (Err fault)
  refused_set = record { changed = refuses; keeps = record { limits = limits; unredacted = unredacted; damaged = damaged; kept = refl; works = works } }

  -- the same of one that says what is tight
  pub refused : {number : ℕ} → ChangesTightSet SetHas SetHasTight SetFits number definition Limits damage most block old new set set (Err fault)
  refused = record { set = refused_set; tight = λ state honest tight dated. refuses state honest tight.holds; levels = tt }

-- a call that only read, and then tells that a block isn't of the layout
pub looks_told : {sector : ℕ} {stated found : List ℕ} {old new : IoState} (fault : BlockFault) → fault ≡ Damaged sector stated found → Looks old new None → Looks old new (Some fault)
looks_told fault is looks = rw is (record {
  reads = looks.reads;
  space = looks.space;
  never_full = λ need largest same. absurd (let e = same in cc);
  told = λ whole. absurd (cc whole);
  failed = looks.failed;
  cause = record { later = looks.cause.later; fault = λ same. absurd (let e = same in cc) };
  same = looks.same;
})

pub most_told : {most sector : ℕ} {stated found : List ℕ} {old new : IoState} (fault : BlockFault) → fault ≡ Damaged sector stated found → LooksAtMost most old new None → LooksAtMost most old new (Some fault)
most_told fault is looks = record { looks = looks_told fault is looks.looks; calls = looks.calls }

-- a call that does nothing, and tells that a block isn't of the layout
pub works_told : {most block sector : ℕ} {stated found : List ℕ} (io : IoState) (fault : BlockFault) → fault ≡ Damaged sector stated found → Works most block io io (Some fault)
works_told io fault is = Works-looks (looks_told fault is (Looks-none io))
