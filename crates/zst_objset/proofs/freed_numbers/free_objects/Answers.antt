use Rattle.zst_block.proofs.IoCallLemmas.{Looks-none, Works-looks, Works-more}
use Rattle.std.proofs.Common.{refl, arith}
use Rattle.zst_model.specs.states.State.{number_bound}
use Rattle.zst_objset.proofs.FreeLaws.{objects_freed_far, objects_freed_is}
use Rattle.zst_objset.proofs.SpillLaws.{stops}
use Rattle.zst_objset.proofs.SetChangeLaws.{refused_set}
use Rattle.zst_objset.proofs.freed_numbers.free_objects.Goals as goal

pub returns-then-saturating_add-gt-NUMBER_BOUND-clause-changes : goal.returns-then-saturating_add-gt-NUMBER_BOUND-clause-changes
unfolding number_bound
returns-then-saturating_add-gt-NUMBER_BOUND-clause-changes g c =
    refused_set _ _ (λ state honest holds. objects_freed_far c.args.number c.args.first c.args.count state (omega arith))
    (refl, refl, omega arith) tt (λ honest. tt) (Works-looks (Looks-none _))

pub returns-in-Ok-clause-changes : goal.returns-in-Ok-clause-changes
returns-in-Ok-clause-changes g c = record {
  changed = λ state honest holds.
      (_, objects_freed_is c.args.number c.args.first c.args.count state (omega arith), c.in-Ok.ensures.frees state honest holds);
  keeps = record {
    limits = tt;
    unredacted = tt;
    damaged = λ honest. tt;
    kept = tt;
    works = Works-more (omega arith) c.in-Ok.ensures.works;
  };
}

pub returns-in-Err-clause-changes : goal.returns-in-Err-clause-changes
returns-in-Err-clause-changes g c =
    refused_set _ _ (λ state honest holds.
    stops _ _ c.in-Err.fault (objects_freed_is c.args.number c.args.first c.args.count state (omega arith)) (c.in-Err.ensures.frees state honest holds))
    tt tt c.in-Err.ensures.damaged (Works-more (omega arith) c.in-Err.ensures.works)

pub returns-then-saturating_add-gt-NUMBER_BOUND-clause-tight : goal.returns-then-saturating_add-gt-NUMBER_BOUND-clause-tight
returns-then-saturating_add-gt-NUMBER_BOUND-clause-tight g c = λ state honest tight dated. objects_freed_far c.args.number c.args.first c.args.count state (omega arith)

pub returns-in-Ok-clause-tight : goal.returns-in-Ok-clause-tight
returns-in-Ok-clause-tight g c = λ state honest tight dated.
    (_, objects_freed_is c.args.number c.args.first c.args.count state (omega arith), c.in-Ok.ensures.tight state honest tight dated)

pub returns-in-Err-clause-tight : goal.returns-in-Err-clause-tight
returns-in-Err-clause-tight g c = λ state honest tight dated.
    stops _ _ c.in-Err.fault (objects_freed_is c.args.number c.args.first c.args.count state (omega arith)) (c.in-Err.ensures.frees state honest tight.holds)

pub returns-then-saturating_add-gt-NUMBER_BOUND-clause-trees : goal.returns-then-saturating_add-gt-NUMBER_BOUND-clause-trees
returns-then-saturating_add-gt-NUMBER_BOUND-clause-trees g c = λ honest. tt

pub returns-in-Ok-clause-trees : goal.returns-in-Ok-clause-trees
returns-in-Ok-clause-trees g c = c.in-Ok.ensures.trees

pub returns-in-Err-clause-trees : goal.returns-in-Err-clause-trees
returns-in-Err-clause-trees g c = λ honest. tt

pub returns-then-saturating_add-gt-NUMBER_BOUND-clause-levels : goal.returns-then-saturating_add-gt-NUMBER_BOUND-clause-levels
returns-then-saturating_add-gt-NUMBER_BOUND-clause-levels g c = λ fits. fits

pub free_range-requires-clause-first : goal.free_range-requires-clause-first
free_range-requires-clause-first g c = c.requires.first

pub returns-in-Ok-clause-levels : goal.returns-in-Ok-clause-levels
returns-in-Ok-clause-levels g c = c.in-Ok.ensures.levels

pub returns-in-Err-clause-levels : goal.returns-in-Err-clause-levels
returns-in-Err-clause-levels g c = λ fits. fits
