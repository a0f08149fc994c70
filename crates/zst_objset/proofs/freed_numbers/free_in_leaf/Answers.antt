use Rattle.zst_block.proofs.IoCallLemmas.{Looks-none, Works-looks}
use Rattle.zst_objset.proofs.FreeLaws.{freed_puts}
use Rattle.zst_objset.proofs.TightLaws.{freed_rises, freed_tight}
use Rattle.std.proofs.Common.{inl, subst, sym}
use Rattle.zst_objset.proofs.TreesWithin.{absent_stands}
use Rattle.zst_block.specs.IoStates.{blocks_of}
use Rattle.zst_objset.specs.TightSets.{SetIsTight}
use Rattle.zst_objset.proofs.FreeLaws.{freed-none}
use Rattle.zst_objset.proofs.freed_numbers.free_in_leaf.Goals as goal

pub returns-then-first-below-clause-makes : goal.returns-then-first-below-clause-makes
returns-then-first-below-clause-makes g c = record {
  damaged = λ honest. tt;
  within = λ honest sector stated found damaged. damaged;
  stands = λ honest dnode stands. inl stands;
  works = Works-looks (Looks-none _);
}

pub returns-clause-makes : goal.returns-clause-makes
returns-clause-makes g c =
    let makes = c.put_in_leaf.ensures.makes in
    record {
      damaged = makes.damaged;
      within = makes.within;
      stands = λ honest. absent_stands c.args.number _ c.args.set _ c.put_in_leaf.result (makes.stands honest);
      works = makes.works;
    }

pub returns-clause-frees : goal.returns-clause-frees
returns-clause-frees g c = λ state honest holds.
    c.put_in_leaf.ensures.put state _ honest holds (freed_puts c.args.number c.args.first c.args.below state _ holds.lawful holds.bounded)

pub returns-clause-tight : goal.returns-clause-tight
returns-clause-tight g c = λ state honest tight dated.
    let puts = freed_puts c.args.number c.args.first c.args.below state _ tight.holds.lawful tight.holds.bounded in
    c.put_in_leaf.ensures.tight state _ honest tight puts (freed_tight _ c.args.number c.args.first c.args.below state puts c.requires.first c.requires.bound) (freed_rises c.args.number c.args.first c.args.below state dated)

pub returns-then-first-below-clause-tight : goal.returns-then-first-below-clause-tight
returns-then-first-below-clause-tight g c = λ state honest tight dated.
    subst (SetIsTight (blocks_of c.args.io.now) c.args.set) (sym (freed-none c.args.number c.args.first c.args.below state c.if-first-below.true)) tight
