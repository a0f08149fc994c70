use Rattle.std.proofs.Common.{◌≡◌, inl, inr, ⊎_elim, ℕ, Ok, refl, subst, sym, arith}
use Rattle.zst_dnode.specs.declared.dnode.Dnode.{Dnode}
use Rattle.zst_dnode.specs.declared.slot.Slot.TheVariants.{There}
use Rattle.zst_objset.specs.TightSets.{IsTightSlot}
use Rattle.zst_objset.proofs.SpillLaws.{stops}
use Rattle.zst_objset.proofs.changes.put_there.Goals as goal

-- the slot of one dnode
there_same : (one other : Dnode) → There one ≡ There other → one ≡ other
there_same one other is = cc

pub returns-in-Ok-clause-puts : goal.returns-in-Ok-clause-puts
returns-in-Ok-clause-puts g c = record {
  keeps = record {
    limits = tt;
    unredacted = tt;
    damaged = λ honest. tt;
    kept = tt;
    works = c.in-Ok.ensures.makes.works;
  };
  within = c.in-Ok.ensures.makes.within;
  stands = λ honest dnode stands. ⊎_elim (λ stood. inl stood) (λ is. inr (sym (there_same c.args.dnode dnode is))) (c.in-Ok.ensures.makes.stands honest dnode stands);
  levels = c.in-Ok.ensures.levels;
}

pub returns-in-Err-clause-puts : goal.returns-in-Err-clause-puts
returns-in-Err-clause-puts g c = record {
  keeps = record {
    limits = tt;
    unredacted = tt;
    damaged = c.in-Err.ensures.makes.damaged;
    kept = refl;
    works = c.in-Err.ensures.makes.works;
  };
  within = λ honest. tt;
  stands = λ honest. tt;
  levels = tt;
}

pub returns-in-Ok-clause-changed : goal.returns-in-Ok-clause-changed
returns-in-Ok-clause-changed g c = λ before now honest holds puts. (now, refl, c.in-Ok.ensures.put before now honest holds puts)

pub returns-in-Err-clause-changed : goal.returns-in-Err-clause-changed
returns-in-Err-clause-changed g c = λ before now honest holds puts. stops (Ok now) now c.in-Err.fault refl (c.in-Err.ensures.put before now honest holds puts)

pub returns-in-Ok-clause-tight : goal.returns-in-Ok-clause-tight
returns-in-Ok-clause-tight g c = λ before now honest tight puts slot_tight rises. (
  now,
  refl,
  c.in-Ok.ensures.tight before now honest tight puts (λ k from below. subst (λ (n : ℕ). IsTightSlot now n (There c.args.dnode)) (omega (arith, from, below)) slot_tight) rises,
)

pub returns-in-Err-clause-tight : goal.returns-in-Err-clause-tight
returns-in-Err-clause-tight g c = λ before now honest tight puts slot_tight rises. returns-in-Err-clause-changed g c before now honest tight.holds puts

pub put_in_leaf-requires-clause-first : goal.put_in_leaf-requires-clause-first
put_in_leaf-requires-clause-first g c = c.requires.object.0

pub put_in_leaf-requires-clause-slot : goal.put_in_leaf-requires-clause-slot
put_in_leaf-requires-clause-slot g c = c.requires.dnode
