use Rattle.std.proofs.Common.{◌*◌, ◌/◌, arith, subst}
use Rattle.std.proofs.lemmas.Result.{err_from_is_err_and}
use Rattle.zst_block.specs.IoStates.{blocks_of}
use Rattle.zst_block.proofs.IoCallLemmas.{Works-more, Works-then}
use Rattle.zst_model.specs.states.DatedState.{DatedState}
use Rattle.zst_tree.specs.Indices.{Delivers}
use Rattle.zst_objset.specs.Sets.{SetHolds}
use Rattle.zst_objset.proofs.FreeLaws.{freed-parts}
use Rattle.zst_objset.proofs.DamageLaws.{fault_within, result_within, set_within}
use Rattle.zst_objset.proofs.TightLaws.{freed_dated}
use Rattle.zst_objset.proofs.TreesWithin.{result_freed, result_then, trees_freed, trees_then}
use Rattle.std.specs.Prelude.{IfOk}
use Rattle.zst_objset.specs.TightSets.{SetIsTight}
use Rattle.zst_objset.proofs.freed_numbers.free_range.Goals as goal

pub returns-in_err-begun-clause-frees : goal.returns-in_err-begun-clause-frees
returns-in_err-begun-clause-frees g c = λ state honest holds.
    let p = err_from_is_err_and c.from_residual.result c.from_residual.ensures.1 in
    rw (p.1, p.2) (c.in_err-begun.ensures.frees state honest holds)

pub returns-in_err-made-clause-frees : goal.returns-in_err-made-clause-frees
returns-in_err-made-clause-frees g c = λ state honest holds.
    let p = err_from_is_err_and c.from_residual-in_err-made.result c.from_residual-in_err-made.ensures.1 in
    let begun = c.in_ok-begun.ensures.frees state (c.in_err-made.ensures.makes.works.fills.honest honest) holds in
    rw (p.1, p.2) (c.in_err-made.ensures.frees _ honest begun)

pub returns-in_err-made-clause-works : goal.returns-in_err-made-clause-works
returns-in_err-made-clause-works g c =
    let p = err_from_is_err_and c.from_residual-in_err-made.result c.from_residual-in_err-made.ensures.1 in
    rw (p.1, p.2) (Works-more (omega arith) (Works-then c.in_ok-begun.ensures.makes.works c.in_err-made.ensures.makes.works))

pub returns-clause-frees : goal.returns-clause-frees
returns-clause-frees g c = λ state honest holds.
    let was_made = c.free_in_leaf-3.ensures.makes.works.fills.honest honest in
    let begun = c.in_ok-begun.ensures.frees state (c.in_ok-made.ensures.makes.works.fills.honest was_made) holds in
    let made = c.in_ok-made.ensures.frees _ was_made begun in
    subst (λ (after : DatedState). Delivers (λ set. SetHolds (blocks_of c.free_in_leaf-3.new.io) set after) c.free_in_leaf-3.result)
    (freed-parts c.args.number c.args.first (16 * c.div_ceil-whole.result) (16 * (c.args.below / 16)) c.args.below state (omega arith) (omega arith) (omega arith))
    (c.free_in_leaf-3.ensures.frees _ honest made)

pub returns-clause-works : goal.returns-clause-works
returns-clause-works g c = Works-then (Works-then c.in_ok-begun.ensures.makes.works c.in_ok-made.ensures.makes.works) c.free_in_leaf-3.ensures.makes.works

pub returns-in_err-made-clause-damaged : goal.returns-in_err-made-clause-damaged
returns-in_err-made-clause-damaged g c = λ honest.
    let p = err_from_is_err_and c.from_residual-in_err-made.result c.from_residual-in_err-made.ensures.1 in
    let begun = c.in_ok-begun.ensures in
    rw (p.1, p.2) (fault_within _ _ _ c.args.set _ c.in_ok-begun.begun begun.makes.works.fills.size (begun.makes.within (c.in_err-made.ensures.makes.works.fills.honest honest)) _ (c.in_err-made.ensures.makes.damaged honest))

pub returns-clause-damaged : goal.returns-clause-damaged
returns-clause-damaged g c = λ honest.
    let begun = c.in_ok-begun.ensures in
    let made = c.in_ok-made.ensures in
    let was_made = c.free_in_leaf-3.ensures.makes.works.fills.honest honest in
    let filled = (Works-then begun.makes.works made.makes.works).fills in
    let within = set_within _ _ _ c.args.set _ c.in_ok-begun.begun _ c.in_ok-made.made begun.makes.works.fills.size (begun.makes.within (made.makes.works.fills.honest was_made)) (made.makes.within was_made) in
    result_within _ _ _ c.args.set _ c.in_ok-made.made filled.size within c.free_in_leaf-3.result (c.free_in_leaf-3.ensures.makes.damaged honest)

pub returns-clause-tight : goal.returns-clause-tight
returns-clause-tight g c = λ state honest tight dated.
    let was_made = c.free_in_leaf-3.ensures.makes.works.fills.honest honest in
    let begun = c.in_ok-begun.ensures.tight state (c.in_ok-made.ensures.makes.works.fills.honest was_made) tight dated in
    let begun_dated = freed_dated c.args.number c.args.first (16 * c.div_ceil-whole.result) state dated in
    let made = c.in_ok-made.ensures.tight _ was_made begun begun_dated in
    let made_dated = freed_dated c.args.number (16 * c.div_ceil-whole.result) (16 * (c.args.below / 16)) _ begun_dated in
    subst (λ (after : DatedState). IfOk c.free_in_leaf-3.result (λ set. SetIsTight (blocks_of c.free_in_leaf-3.new.io) set after))
    (freed-parts c.args.number c.args.first (16 * c.div_ceil-whole.result) (16 * (c.args.below / 16)) c.args.below state (omega arith) (omega arith) (omega arith))
    (c.free_in_leaf-3.ensures.tight _ honest made made_dated)

pub free_in_leaf-requires-clause-first : goal.free_in_leaf-requires-clause-first
free_in_leaf-requires-clause-first g c = c.requires.first

pub free_in_leaf-requires-clause-order : goal.free_in_leaf-requires-clause-order
free_in_leaf-requires-clause-order g c = c.requires.order

pub free_in_leaf-requires-clause-bound : goal.free_in_leaf-requires-clause-bound
free_in_leaf-requires-clause-bound g c = c.requires.bound

pub returns-then-last-whole-clause-frees : goal.returns-then-last-whole-clause-frees
returns-then-last-whole-clause-frees g c = c.free_in_leaf.ensures.frees

pub returns-then-last-whole-clause-tight : goal.returns-then-last-whole-clause-tight
returns-then-last-whole-clause-tight g c = c.free_in_leaf.ensures.tight

pub returns-then-last-whole-clause-damaged : goal.returns-then-last-whole-clause-damaged
returns-then-last-whole-clause-damaged g c = c.free_in_leaf.ensures.makes.damaged

pub returns-then-last-whole-clause-trees : goal.returns-then-last-whole-clause-trees
returns-then-last-whole-clause-trees g c = λ honest.
    let makes = c.free_in_leaf.ensures.makes in
    result_freed _ _ _ _ makes.works.fills c.args.set c.free_in_leaf.result (makes.within honest) (makes.stands honest)

pub returns-in_err-begun-clause-trees : goal.returns-in_err-begun-clause-trees
returns-in_err-begun-clause-trees g c = λ honest.
    let p = err_from_is_err_and c.from_residual.result c.from_residual.ensures.1 in
    rw p.1 tt

pub returns-in_err-made-clause-trees : goal.returns-in_err-made-clause-trees
returns-in_err-made-clause-trees g c = λ honest.
    let p = err_from_is_err_and c.from_residual-in_err-made.result c.from_residual-in_err-made.ensures.1 in
    rw p.1 tt

pub returns-clause-trees : goal.returns-clause-trees
returns-clause-trees g c = λ honest.
    let begun = c.in_ok-begun.ensures.makes in
    let made = c.in_ok-made.ensures.makes in
    let last = c.free_in_leaf-3.ensures.makes in
    let was_made = last.works.fills.honest honest in
    let was_begun = made.works.fills.honest was_made in
    let first = trees_freed _ _ _ _ begun.works.fills c.args.set c.in_ok-begun.begun (begun.within was_begun) (begun.stands was_begun) in
    let second = trees_freed _ _ _ _ made.works.fills c.in_ok-begun.begun c.in_ok-made.made (made.within was_made) (made.stands was_made) in
    let filled = (Works-then begun.works made.works).fills in
    result_then _ _ _ c.args.set _ c.in_ok-made.made _ filled.size (trees_then _ _ _ c.args.set _ c.in_ok-begun.begun _ c.in_ok-made.made begun.works.fills.size first second) c.free_in_leaf-3.result
    (result_freed _ _ _ _ last.works.fills c.in_ok-made.made c.free_in_leaf-3.result (last.within honest) (last.stands honest))

pub returns-then-last-whole-clause-levels : goal.returns-then-last-whole-clause-levels
returns-then-last-whole-clause-levels g c = c.free_in_leaf.ensures.levels

pub returns-then-last-whole-clause-works : goal.returns-then-last-whole-clause-works
returns-then-last-whole-clause-works g c = Works-more (omega arith) c.free_in_leaf.ensures.makes.works

pub free_in_leaf-requires-2-clause-first : goal.free_in_leaf-requires-2-clause-first
free_in_leaf-requires-2-clause-first g c = c.requires.first

pub returns-in_err-begun-clause-tight : goal.returns-in_err-begun-clause-tight
returns-in_err-begun-clause-tight g c = λ state honest tight dated.
    let p = err_from_is_err_and c.from_residual.result c.from_residual.ensures.1 in
    rw p.1 tt

pub returns-in_err-begun-clause-levels : goal.returns-in_err-begun-clause-levels
returns-in_err-begun-clause-levels g c = λ fits.
    let p = err_from_is_err_and c.from_residual.result c.from_residual.ensures.1 in
    rw p.1 tt

pub returns-in_err-begun-clause-damaged : goal.returns-in_err-begun-clause-damaged
returns-in_err-begun-clause-damaged g c = λ honest.
    let p = err_from_is_err_and c.from_residual.result c.from_residual.ensures.1 in
    rw (p.1, p.2) (c.in_err-begun.ensures.makes.damaged honest)

pub returns-in_err-begun-clause-works : goal.returns-in_err-begun-clause-works
returns-in_err-begun-clause-works g c =
    let p = err_from_is_err_and c.from_residual.result c.from_residual.ensures.1 in
    rw (p.1, p.2) (Works-more (omega arith) c.in_err-begun.ensures.makes.works)

pub returns-in_err-made-clause-tight : goal.returns-in_err-made-clause-tight
returns-in_err-made-clause-tight g c = λ state honest tight dated.
    let p = err_from_is_err_and c.from_residual-in_err-made.result c.from_residual-in_err-made.ensures.1 in
    rw p.1 tt

pub returns-in_err-made-clause-levels : goal.returns-in_err-made-clause-levels
returns-in_err-made-clause-levels g c = λ fits.
    let p = err_from_is_err_and c.from_residual-in_err-made.result c.from_residual-in_err-made.ensures.1 in
    rw p.1 tt

pub free_in_leaf-requires-3-clause-bound : goal.free_in_leaf-requires-3-clause-bound
free_in_leaf-requires-3-clause-bound g c = c.requires.bound
