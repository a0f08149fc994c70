use Rattle.zst_block.specs.IoStates.{blocks_of, disk_of}
use Rattle.zst_tree.specs.Damage.{IsSeen, SumsUp, TellsNode}
use Rattle.zst_traverse.proofs.Damage.{tree_told}
use Rattle.std.proofs.Common.{ℕ, ◌^◌, sym, ◌∙◌, subst, arith}
use Rattle.std.specs.Prelude.{Option}
use Rattle.std.proofs.lemmas.Result.{err_from_is_err_and}
use Rattle.zst_tree.specs.Indices.{TreeIs}
use Rattle.zst_tree.specs.declared.tree.Tree.{Tree}
use Rattle.zst_traverse.specs.Dates.{FindsLate}
use Rattle.zst_traverse.proofs.LateObjects.{date_shown, early_passed, index_shown}
use Rattle.zst_traverse.proofs.SlotDates.{tight_touched}
use Rattle.zst_tree.proofs.StepLooks.{InSteps-none}
use Rattle.zst_traverse.proofs.objects.judged.Goals as goal

pub returns-then-is_after : goal.returns-then-is_after
returns-then-is_after g c = record {
  shows = λ snap pairs honest there. date_shown _ _ snap c.args.source c.args.number c.args.dnode there c.requires.number.0 c.requires.number.1 (sym c.is_after.ensures ∙ c.if-is_after.true);
  goes_on = (omega arith, c.requires.number.1, c.requires.dnode);
  of_walk = λ set honest stands. record { stands = stands; damaged = tt };
  next = λ snap pairs honest there tight after. tt;
  looks = InSteps-none _ _;
}

pub returns-in_err-next_late-clause-shows : goal.returns-in_err-next_late-clause-shows
returns-in_err-next_late-clause-shows g c = λ snap pairs honest there.
    let p = err_from_is_err_and c.from_residual.result c.from_residual.ensures.1 in
    let tree = subst (λ (t : Tree). TreeIs (blocks_of c.args.io.now) t there.map) (sym c.tree_of.ensures) there.is.tree in
    rw (p.1, p.2) (c.in_err-next_late.ensures.late there.map honest tree)

pub returns-in-Some : goal.returns-in-Some
returns-in-Some g c = record {
  shows = λ snap pairs honest there.
      let tree = subst (λ (t : Tree). TreeIs (blocks_of c.args.io.now) t there.map) (sym c.tree_of.ensures) there.is.tree in
      index_shown _ _ snap c.args.source c.args.number c.args.dnode there c.requires.number.0 c.requires.number.1 c.in-Some.field-0
      (subst (λ (found : Option ℕ). FindsLate there.map c.args.source 0 (2 ^ 43) found) c.in-Some.is (c.in_ok-next_late.ensures.late there.map honest tree));
  goes_on = (omega arith, c.requires.number.1, c.requires.dnode);
  of_walk = λ set honest stands. record { stands = stands; damaged = tt };
  next = λ snap pairs honest there tight after. tt;
  looks = c.in_ok-next_late.ensures.looks;
}

pub returns-in-None : goal.returns-in-None
returns-in-None g c = record {
  shows = λ snap pairs honest there.
      let tree = subst (λ (t : Tree). TreeIs (blocks_of c.args.io.now) t there.map) (sym c.tree_of.ensures) there.is.tree in
      early_passed _ _ snap c.args.source c.args.number c.args.dnode there c.requires.number.0 c.requires.number.1 (sym c.is_after.ensures ∙ c.if-is_after.false)
      (subst (λ (found : Option ℕ). FindsLate there.map c.args.source 0 (2 ^ 43) found) c.in-None.is (c.in_ok-next_late.ensures.late there.map honest tree));
  goes_on = omega arith;
  of_walk = λ set honest stands. record { stands = tt; damaged = tt };
  next = λ snap pairs honest there tight late.
      let tree = subst (λ (t : Tree). TreeIs (blocks_of c.args.io.now) t there.map) (sym c.tree_of.ensures) there.is.tree in
      tight_touched _ _ snap c.args.source c.args.number c.args.dnode there tight late (sym c.is_after.ensures ∙ c.if-is_after.false)
      (subst (λ (found : Option ℕ). FindsLate there.map c.args.source 0 (2 ^ 43) found) c.in-None.is (c.in_ok-next_late.ensures.late there.map honest tree));
  looks = c.in_ok-next_late.ensures.looks;
}

pub returns-in_err-next_late-clause-goes_on : goal.returns-in_err-next_late-clause-goes_on
returns-in_err-next_late-clause-goes_on g c =
    let p = err_from_is_err_and c.from_residual.result c.from_residual.ensures.1 in
    rw p.1 tt

pub returns-in_err-next_late-clause-of_walk : goal.returns-in_err-next_late-clause-of_walk
returns-in_err-next_late-clause-of_walk g c = λ set honest stands.
    let p = err_from_is_err_and c.from_residual.result c.from_residual.ensures.1 in
    let fault = c.in_err-next_late.field-0.0 in
    let seen = IsSeen (disk_of c.args.io.now).seen in
    let size = (disk_of c.args.io.now).size in
    rw (p.1, p.2) (record {
      stands = tt;
      damaged = tree_told seen size set c.args.dnode stands fault (subst (λ (t : Tree). TellsNode seen size (SumsUp seen) t.levels t.root fault) c.tree_of.ensures (c.in_err-next_late.ensures.damaged honest));
    })

pub returns-in_err-next_late-clause-next : goal.returns-in_err-next_late-clause-next
returns-in_err-next_late-clause-next g c = λ snap pairs honest there tight after.
    let p = err_from_is_err_and c.from_residual.result c.from_residual.ensures.1 in
    rw p.1 tt

pub returns-in_err-next_late-clause-looks : goal.returns-in_err-next_late-clause-looks
returns-in_err-next_late-clause-looks g c =
    let p = err_from_is_err_and c.from_residual.result c.from_residual.ensures.1 in
    rw (p.1, p.2) c.in_err-next_late.ensures.looks
