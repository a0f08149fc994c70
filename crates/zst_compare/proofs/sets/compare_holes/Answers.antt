use Rattle.std.proofs.Common.{inl, refl, sym, arith}
use Rattle.zst_model.specs.states.State.{index_bound}
use Rattle.zst_objset.proofs.LeafLaws.{is_number_at}
use Rattle.zst_compare.proofs.Holes.{holes_kept, holes_other}
use Rattle.zst_compare.proofs.sets.compare_holes.Goals as goal

pub returns-then-later-earlier-clause-compared : goal.returns-then-later-earlier-clause-compared
returns-then-later-earlier-clause-compared c = λ number was now early held had. holes_kept number c.args.index c.args.below was now c.args.later.now c.args.earlier.now (sym c.if-later-earlier.true) held had

pub returns-clause-compared : goal.returns-clause-compared
unfolding index_bound
returns-clause-compared c = λ number was now early held had.
    let is = is_number_at c.max.result (omega arith) (omega arith) in
    (is, inl (refl, holes_other number c.args.index c.args.below c.max.result was now c.args.later.now c.args.earlier.now early (λ same. c.if-later-earlier.false (sym same)) is (omega arith) (omega arith) held had))
