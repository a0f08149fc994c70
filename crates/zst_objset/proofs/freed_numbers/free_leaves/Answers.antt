use Rattle.std.proofs.Common.{◌*◌, ◌<◌, arith}
use Rattle.std.proofs.lemmas.Result.{err_from_is_err_and}
use Rattle.zst_block.specs.Ptr.{hole_of}
use Rattle.zst_block.proofs.BlocksLaws.{KeepsBlocks-fills}
use Rattle.zst_objset.proofs.FreeLaws.{freed_puts, Puts-holes, SetHolds-holes, with_holes}
use Rattle.std.proofs.Common.{inl, refl}
use Rattle.zst_objset.proofs.TreesWithin.{holes_stand}
use Rattle.zst_objset.proofs.DamageLaws.{changed_within, node_told, tall_told}
use Rattle.zst_objset.proofs.SetChangeLaws.{works_told}
use Rattle.zst_block.proofs.IoCallLemmas.{Looks-none, Works-looks}
use Rattle.zst_objset.proofs.TightLaws.{freed_rises, holes_tight}
use Rattle.std.proofs.Common.{subst, sym}
use Rattle.zst_block.specs.IoStates.{blocks_of}
use Rattle.zst_objset.specs.TightSets.{SetIsTight}
use Rattle.zst_objset.proofs.FreeLaws.{freed-none}
use Rattle.zst_objset.proofs.freed_numbers.free_leaves.Goals as goal

pub returns-then-first-below-clause-makes : goal.returns-then-first-below-clause-makes
returns-then-first-below-clause-makes g c = record {
  damaged = λ honest. tt;
  within = λ honest sector stated found damaged. damaged;
  stands = λ honest dnode stands. inl stands;
  works = Works-looks (Looks-none _);
}

pub returns-then-set-gt7-clause-makes : goal.returns-then-set-gt7-clause-makes
returns-then-set-gt7-clause-makes g c = record {
  damaged = λ honest. tall_told _ _ c.args.set _ c.of_layout.ensures (omega (arith, c.if-set-gt7.true));
  within = λ honest. tt;
  stands = λ honest. tt;
  works = works_told _ _ c.of_layout.ensures;
}

pub returns-in_err-punch-clause-makes : goal.returns-in_err-punch-clause-makes
returns-in_err-punch-clause-makes g c = record {
  damaged = λ honest.
      let p = err_from_is_err_and c.from_residual.result c.from_residual.ensures.1 in
      rw (p.1, p.2) (node_told _ _ c.args.set _ (c.in_err-punch.ensures.changes.damaged honest));
  within = λ honest.
      let p = err_from_is_err_and c.from_residual.result c.from_residual.ensures.1 in
      rw p.1 tt;
  stands = λ honest.
      let p = err_from_is_err_and c.from_residual.result c.from_residual.ensures.1 in
      rw p.1 tt;
  works =
      let p = err_from_is_err_and c.from_residual.result c.from_residual.ensures.1 in
      rw (p.1, p.2) c.in_err-punch.ensures.changes.works;
}

pub returns-clause-makes : goal.returns-clause-makes
returns-clause-makes g c = record {
  damaged = λ honest. tt;
  within = λ honest.
      let punched = c.in_ok-punch.ensures.changes in
      rw c.set_over.ensures.made (changed_within _ _ _ _ punched.works.fills c.args.set (record { tree = c.punch.new.self }) (hole_of c.args.number) punched.levels (λ sector stated found damaged. damaged.some refl) (punched.within honest));
  stands = λ honest.
      let punched = c.in_ok-punch.ensures.changes in
      rw c.set_over.ensures.made (holes_stand _ _ _ _ punched.works.fills c.args.set (record { tree = c.punch.new.self }) (hole_of c.args.number) refl (punched.within honest));
  works = c.in_ok-punch.ensures.changes.works;
}

pub returns-in_err-punch-clause-frees : goal.returns-in_err-punch-clause-frees
returns-in_err-punch-clause-frees g c = λ state honest holds.
    let hole = hole_of c.args.number in
    let p = err_from_is_err_and c.from_residual.result c.from_residual.ensures.1 in
    rw (p.1, p.2) (c.in_err-punch.ensures.changes.puts holds.map (with_holes holds.map c.args.first c.args.below hole) honest holds.tree (Puts-holes holds.map c.args.first c.args.below _ hole (omega arith)))

pub returns-clause-frees : goal.returns-clause-frees
returns-clause-frees g c = λ state honest holds.
    let hole = hole_of c.args.number in
    let punched = c.in_ok-punch.ensures.changes in
    rw c.set_over.ensures.made (SetHolds-holes _ _ (KeepsBlocks-fills _ _ _ _ punched.works.fills) c.args.set (record { tree = c.punch.new.self }) state _ c.args.first c.args.below c.args.number
    (freed_puts c.args.number (16 * c.args.first) (16 * c.args.below) state _ holds.lawful holds.bounded) holds punched.levels
    (punched.puts holds.map (with_holes holds.map c.args.first c.args.below hole) honest holds.tree (Puts-holes holds.map c.args.first c.args.below _ hole (omega arith))))

pub returns-clause-tight : goal.returns-clause-tight
returns-clause-tight g c = λ state honest tight dated.
    let hole = hole_of c.args.number in
    let punched = c.in_ok-punch.ensures.changes in
    let holds = tight.holds in
    let some : c.args.first < c.args.below = omega (arith, c.if-first-below.false, c.requires.order) in
    rw c.set_over.ensures.made (holes_tight _ _ _ _ (KeepsBlocks-fills _ _ _ _ punched.works.fills) c.args.set (record { tree = c.punch.new.self }) state _ c.args.first c.args.below c.args.number
    (freed_puts c.args.number (16 * c.args.first) (16 * c.args.below) state _ holds.lawful holds.bounded) tight punched.levels
    (punched.puts holds.map (with_holes holds.map c.args.first c.args.below hole) honest holds.tree (Puts-holes holds.map c.args.first c.args.below _ hole (omega arith)))
    c.requires.first some c.requires.bound (freed_rises c.args.number (16 * c.args.first) (16 * c.args.below) state dated) (λ number early date. c.in_ok-punch.ensures.dated number holds.map honest holds.tree early (λ more. date)))

pub returns-then-first-below-clause-tight : goal.returns-then-first-below-clause-tight
returns-then-first-below-clause-tight g c = λ state honest tight dated.
    subst (SetIsTight (blocks_of c.args.io.now) c.args.set) (sym (freed-none c.args.number (16 * c.args.first) (16 * c.args.below) state (omega (arith, c.if-first-below.true)))) tight

pub returns-then-first-below-clause-levels : goal.returns-then-first-below-clause-levels
returns-then-first-below-clause-levels g c = λ fits. fits

pub returns-then-set-gt7-clause-tight : goal.returns-then-set-gt7-clause-tight
returns-then-set-gt7-clause-tight g c = λ state honest tight dated. tt

pub returns-then-set-gt7-clause-levels : goal.returns-then-set-gt7-clause-levels
returns-then-set-gt7-clause-levels g c = λ fits. tt

pub returns-in_err-punch-clause-tight : goal.returns-in_err-punch-clause-tight
returns-in_err-punch-clause-tight g c = λ state honest tight dated.
    let p = err_from_is_err_and c.from_residual.result c.from_residual.ensures.1 in
    rw p.1 tt

pub returns-in_err-punch-clause-levels : goal.returns-in_err-punch-clause-levels
returns-in_err-punch-clause-levels g c = λ fits.
    let p = err_from_is_err_and c.from_residual.result c.from_residual.ensures.1 in
    rw p.1 tt

pub returns-clause-levels : goal.returns-clause-levels
returns-clause-levels g c = λ fits. c.set_over.ensures.fits
