use Rattle.std.proofs.Common.{ℕ, List, ap, arith, sym, ◌∙◌}
use Rattle.std.specs.Prelude.{Ok, Some}
use Rattle.std.proofs.lemmas.Result.{err_from_is_err_and}
use Rattle.zst_space.specs.FreeSectors.{FreeSectors}
use Rattle.zst_block.specs.Blocks.{Has}
use Rattle.zst_block.proofs.IoCallLemmas.{Looks-then}
use Rattle.zst_model.specs.sends.View.{View, view_of}
use Rattle.zst_objset.proofs.LeafLaws.{look_on}
use Rattle.zst_objset.specs.Damage.{IfDamage}
use Rattle.zst_send.specs.Subjects.{HoldsFor, IsTightFor, choice_for}
use Rattle.zst_traverse.specs.Damage.{IsDamagedCell}
use Rattle.zst_tree.specs.Damage.{IsSeen}
use Rattle.zst_tree.proofs.Damage.{seen_before}
use Rattle.zst_send.specs.WalkPositions.{ComesFirst}
use Rattle.zst_send.proofs.LookCosts.{joined_counts, look_ahead}
use Rattle.zst_send.proofs.ItemRuns.{RunComes, run_begins, run_ends, run_goes_on}
use Rattle.zst_send.specs.KnownPointers.{IsAmong}
use Rattle.zst_send.proofs.KnownPointers.{among_on, run_stands}
use Rattle.zst_send.proofs.walk.Walk.lengthened.Goals as goal

pub returns-in_err-next-clause-gives : goal.returns-in_err-next-clause-gives
returns-in_err-next-clause-gives g c = λ header snap left honest holds first.
    let p = err_from_is_err_and c.from_residual.result c.from_residual.ensures.1 in
    rw (p.1, p.2) (c.in_err-next.ensures.found header snap honest holds first.3)

pub loop-both-init : goal.loop-both-init
loop-both-init g c = record {
  comes = λ header snap left honest holds first.
      let view : View = view_of header snap (choice_for c.args.subject.now) in
      let on = look_on (λ (seen : List ℕ) (space : FreeSectors). ComesFirst (Has seen space) snap view left c.args.self.now.position (Some c.args.run)) c.in_ok-next.ensures.steps.looks first in
      run_begins _ snap view left c.args.self.now.position c.find.new.self c.args.run c.in_ok-next.next c.requires.run.0 on (c.in_ok-next.ensures.found header snap honest holds first.3);
  paid = λ header snap left honest tight first.
      let counted = c.in_ok-next.ensures.counted snap honest tight.tight.holds first.3 in
      let ahead = look_ahead snap c.find.new.self c.in_ok-next.next (λ none. c.in_ok-next.ensures.ends (ap Ok none)) counted in
      omega (arith, ahead, c.in_ok-next.ensures.few snap honest tight);
  stands = λ images among honest. c.in_ok-next.ensures.stands images among honest;
  walk = record { position = c.in_ok-next.ensures.position; held = c.requires.walk.held };
  run = c.requires.run.0;
  run_fits = c.requires.run.1;
  next = c.in_ok-next.ensures.steps.ranges;
  looks = c.in_ok-next.ensures.steps.looks;
}

pub returns-in_err-next-2-clause-gives : goal.returns-in_err-next-2-clause-gives
returns-in_err-next-2-clause-gives g c = λ header snap left honest holds first.
    let p = err_from_is_err_and c.from_residual-in_err-next-2.result c.from_residual-in_err-next-2.ensures.1 in
    let was = c.in_err-next-2.ensures.steps.looks.reads.honest honest in
    let on = look_on (λ (seen : List ℕ) (space : FreeSectors). HoldsFor (Has seen space) c.args.subject.now snap) c.loop-both.invariant.looks holds in
    let comes = c.loop-both.invariant.comes header snap left was holds first in
    rw (p.1, p.2) (c.in_err-next-2.ensures.found header snap honest on comes.of)

pub loop-both-preserved : goal.loop-both-preserved
loop-both-preserved g c = record {
  comes = λ header snap left honest holds first.
      let view : View = view_of header snap (choice_for c.args.subject.now) in
      let was = c.in_ok-next-2.ensures.steps.looks.reads.honest honest in
      let on = look_on (λ (seen : List ℕ) (space : FreeSectors). HoldsFor (Has seen space) c.args.subject.now snap) c.loop-both.invariant.looks holds in
      let comes = c.loop-both.invariant.comes header snap left was holds first in
      let moved = look_on (λ (seen : List ℕ) (space : FreeSectors). RunComes (Has seen space) snap view left c.loop-both.self.position c.loop-both.run c.loop-both.next) c.in_ok-next-2.ensures.steps.looks comes in
      run_goes_on _ c.held_goes_on.ensures snap view left c.loop-both.self.position c.find-in-Some.new.self c.loop-both.run c.in-Some.both c.loop-both.next c.in_ok-next-2.next c.loop-both.invariant.run
      (sym c.in-Some.ensures.joined) moved (c.in_ok-next-2.ensures.found header snap honest on comes.of);
  paid = λ header snap left honest tight first.
      let was = c.in_ok-next-2.ensures.steps.looks.reads.honest honest in
      let on = look_on (λ (seen : List ℕ) (space : FreeSectors). IsTightFor (Has seen space) c.args.subject.now snap) c.loop-both.invariant.looks tight in
      let comes = c.loop-both.invariant.comes header snap left was tight.tight.holds first in
      let counted = c.in_ok-next-2.ensures.counted snap honest on.tight.holds comes.of in
      let ahead = look_ahead snap c.find-in-Some.new.self c.in_ok-next-2.next (λ none. c.in_ok-next-2.ensures.ends (ap Ok none)) counted in
      let joins = joined_counts snap c.loop-both.run c.in-Some.both c.loop-both.next c.loop-both.invariant.run (sym c.in-Some.ensures.joined) in
      let paid = c.loop-both.invariant.paid header snap left was tight first in
      omega (arith, ahead, joins, paid, c.in_ok-next-2.ensures.few snap honest on);
  stands = λ images among honest. c.in_ok-next-2.ensures.stands images (among_on images _ _ c.loop-both.invariant.looks.reads.seen among) honest;
  walk = record { position = c.in_ok-next-2.ensures.position; held = c.loop-both.invariant.walk.held };
  run = c.in-Some.ensures.run;
  run_fits = c.in-Some.ensures.fits;
  next = c.in_ok-next-2.ensures.steps.ranges;
  looks = Looks-then c.loop-both.invariant.looks c.in_ok-next-2.ensures.steps.looks;
}

pub returns-clause-gives : goal.returns-clause-gives
returns-clause-gives g c = λ header snap left honest holds first.
    let comes = c.loop-both.invariant.comes header snap left honest holds first in
    run_ends _ c.held_goes_on.ensures snap (view_of header snap (choice_for c.args.subject.now)) left c.loop-both.self.position c.loop-both.run c.loop-both.next c.loop-both.invariant.run
    (sym c.joined.ensures.joined ∙ c.in_default.is) comes

pub returns-in_err-next-clause-stands : goal.returns-in_err-next-clause-stands
returns-in_err-next-clause-stands g c = λ images among honest.
    let p = err_from_is_err_and c.from_residual.result c.from_residual.ensures.1 in
    rw p.1 (tt, tt)

pub returns-in_err-next-2-clause-stands : goal.returns-in_err-next-2-clause-stands
returns-in_err-next-2-clause-stands g c = λ images among honest.
    let p = err_from_is_err_and c.from_residual-in_err-next-2.result c.from_residual-in_err-next-2.ensures.1 in
    rw p.1 (tt, tt)

pub returns-clause-stands : goal.returns-clause-stands
returns-clause-stands g c = λ images among honest.
    (c.loop-both.invariant.stands images among honest, run_stands (IsAmong images) c.args.subject.now.set c.loop-both.run c.loop-both.invariant.run)

pub returns-in_err-next-clause-few : goal.returns-in_err-next-clause-few
returns-in_err-next-clause-few g c = λ header snap left honest tight first.
    let p = err_from_is_err_and c.from_residual.result c.from_residual.ensures.1 in
    rw p.1 tt

pub returns-in_err-next-2-clause-few : goal.returns-in_err-next-2-clause-few
returns-in_err-next-2-clause-few g c = λ header snap left honest tight first.
    let p = err_from_is_err_and c.from_residual-in_err-next-2.result c.from_residual-in_err-next-2.ensures.1 in
    rw p.1 tt

pub returns-clause-few : goal.returns-clause-few
returns-clause-few g c = λ header snap left honest tight first. c.loop-both.invariant.paid header snap left honest tight first

pub returns-in_err-next-clause-steps : goal.returns-in_err-next-clause-steps
returns-in_err-next-clause-steps g c =
    let p = err_from_is_err_and c.from_residual.result c.from_residual.ensures.1 in
    let steps = c.in_err-next.ensures.steps in
    rw (p.1, p.2) (record { ranges = tt; damaged = λ honest. steps.damaged honest; looks = steps.looks })

pub returns-in_err-next-2-clause-steps : goal.returns-in_err-next-2-clause-steps
returns-in_err-next-2-clause-steps g c =
    let p = err_from_is_err_and c.from_residual-in_err-next-2.result c.from_residual-in_err-next-2.ensures.1 in
    let steps = c.in_err-next-2.ensures.steps in
    rw (p.1, p.2) (record {
      ranges = tt;
      damaged = λ honest. seen_before c.loop-both.invariant.looks (λ (seen : List ℕ) (size : ℕ). IfDamage c.in_err-next-2.field-0.0 (IsDamagedCell (IsSeen seen) size c.args.subject.now.set)) (steps.damaged honest);
      looks = Looks-then c.loop-both.invariant.looks steps.looks;
    })

pub returns-clause-steps : goal.returns-clause-steps
returns-clause-steps g c = record { ranges = c.loop-both.invariant.run_fits; damaged = λ honest. tt; looks = c.loop-both.invariant.looks }
