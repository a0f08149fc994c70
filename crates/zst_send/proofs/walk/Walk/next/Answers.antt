use Rattle.std.proofs.Common.{◌≡◌, ℕ, List, [], ap, arith, sym, ◌∙◌, refl, subst}
use Rattle.std.specs.Prelude.{Option, Some}
use Rattle.std.proofs.lemmas.Result.{err_from_is_err_and}
use Rattle.zst_space.specs.FreeSectors.{FreeSectors}
use Rattle.zst_block.specs.Blocks.{Has}
use Rattle.zst_block.specs.IoStates.{blocks_of}
use Rattle.zst_block.proofs.IoCallLemmas.{Looks-then}
use Rattle.zst_objset.specs.Damage.{IfDamage}
use Rattle.zst_model.specs.declared.states.item.Item.{Item}
use Rattle.zst_model.specs.sends.View.{View, view_of}
use Rattle.zst_objset.proofs.LeafLaws.{look_on}
use Rattle.zst_send.specs.Costs.{cells_next}
use Rattle.zst_send.specs.Subjects.{HoldsFor, IsTightFor, choice_for}
use Rattle.zst_traverse.specs.Damage.{IsDamagedCell}
use Rattle.zst_tree.specs.Damage.{IsSeen}
use Rattle.zst_tree.proofs.Damage.{seen_before}
use Rattle.zst_send.specs.DueItems.{AreHeld, DueFits}
use Rattle.zst_send.specs.WalkPositions.{ComesFirst, Gives, items_left}
use Rattle.zst_send.specs.declared.due_items.DueItems.{DueItems}
use Rattle.zst_send.proofs.LookCosts.{given_counts}
use Rattle.zst_send.proofs.ItemRuns.{gives_alone}
use Rattle.std.specs.Prelude.{IfSome}
use Rattle.zst_send.specs.KnownPointers.{DueStands, IsAmong}
use Rattle.zst_send.proofs.KnownPointers.{among_on, behind_stands}
use Rattle.zst_send.proofs.walk.Walk.next.Goals as goal

pub returns-in_err-due-clause-gives : goal.returns-in_err-due-clause-gives
returns-in_err-due-clause-gives g c = λ header snap held honest holds walk.
    let p = err_from_is_err_and c.from_residual.result c.from_residual.ensures.1 in
    rw (p.1, p.2) (c.in_err-due.ensures.goes header snap held honest holds walk)

pub returns-in_default-clause-gives : goal.returns-in_default-clause-gives
returns-in_default-clause-gives g c = λ header snap held honest holds walk.
    let has = blocks_of c.first.new.io in
    let view : View = view_of header snap (choice_for c.args.subject.now) in
    let first = subst (λ (d : Option DueItems). ComesFirst has snap view (items_left view c.args.self.now held) c.first.new.self.position d) c.in_default.is (c.in_ok-due.ensures.goes header snap held honest holds walk) in
    (first.0, record { held_are = subst (λ (h : Option DueItems). AreHeld has h []) (sym c.in_ok-due.ensures.held) refl; position_is = first.1 })

pub returns-in_err-lengthened-clause-gives : goal.returns-in_err-lengthened-clause-gives
returns-in_err-lengthened-clause-gives g c = λ header snap held honest holds walk.
    let has = blocks_of c.first.new.io in
    let view : View = view_of header snap (choice_for c.args.subject.now) in
    let left : List Item = items_left view c.args.self.now held in
    let p = err_from_is_err_and c.from_residual-in_err-lengthened.result c.from_residual-in_err-lengthened.ensures.1 in
    let was = c.in_err-lengthened.ensures.steps.looks.reads.honest honest in
    let on = look_on (λ (seen : List ℕ) (space : FreeSectors). HoldsFor (Has seen space) c.args.subject.now snap) c.in_ok-due.ensures.steps.looks holds in
    let first = subst (λ (d : Option DueItems). ComesFirst has snap view left c.first.new.self.position d) c.in-Some.is (c.in_ok-due.ensures.goes header snap held was holds walk) in
    rw (p.1, p.2) (c.in_err-lengthened.ensures.gives header snap left honest on first)

pub returns-then-is_run-clause-gives : goal.returns-then-is_run-clause-gives
returns-then-is_run-clause-gives g c = λ header snap held honest holds walk.
    let has = blocks_of c.first.new.io in
    let view : View = view_of header snap (choice_for c.args.subject.now) in
    let left : List Item = items_left view c.args.self.now held in
    let was = c.in_ok-lengthened.ensures.steps.looks.reads.honest honest in
    let on = look_on (λ (seen : List ℕ) (space : FreeSectors). HoldsFor (Has seen space) c.args.subject.now snap) c.in_ok-due.ensures.steps.looks holds in
    let first = subst (λ (d : Option DueItems). ComesFirst has snap view left c.first.new.self.position d) c.in-Some.is (c.in_ok-due.ensures.goes header snap held was holds walk) in
    c.in_ok-lengthened.ensures.gives header snap left honest on first

pub returns-clause-gives : goal.returns-clause-gives
returns-clause-gives g c = λ header snap held honest holds walk.
    let has = blocks_of c.first.new.io in
    let view : View = view_of header snap (choice_for c.args.subject.now) in
    let left : List Item = items_left view c.args.self.now held in
    let position = c.first.new.self.position in
    let first = subst (λ (d : Option DueItems). ComesFirst has snap view left position d) c.in-Some.is (c.in_ok-due.ensures.goes header snap held honest holds walk) in
    let alone = gives_alone has snap view left position c.in-Some.due (sym c.is_run.ensures ∙ c.if-is_run.false) first in
    subst (λ (h : Option DueItems). Gives has snap view left (record { position = position; held = h }) (Some c.in-Some.due)) (sym c.behind-self.ensures.behind) alone

pub returns-in_default-clause-stands : goal.returns-in_default-clause-stands
returns-in_default-clause-stands g c = λ images among honest was. ((c.in_ok-due.ensures.stands images among honest was).0, tt)

pub returns-in_err-due-clause-stands : goal.returns-in_err-due-clause-stands
returns-in_err-due-clause-stands g c = λ images among honest was.
    let p = err_from_is_err_and c.from_residual.result c.from_residual.ensures.1 in
    rw p.1 (tt, tt)

pub returns-in_err-lengthened-clause-stands : goal.returns-in_err-lengthened-clause-stands
returns-in_err-lengthened-clause-stands g c = λ images among honest was.
    let p = err_from_is_err_and c.from_residual-in_err-lengthened.result c.from_residual-in_err-lengthened.ensures.1 in
    rw p.1 (tt, tt)

pub returns-then-is_run-clause-stands : goal.returns-then-is_run-clause-stands
returns-then-is_run-clause-stands g c = λ images among honest was.
    c.in_ok-lengthened.ensures.stands images (among_on images _ _ c.in_ok-due.ensures.steps.looks.reads.seen among) honest

pub returns-clause-stands : goal.returns-clause-stands
returns-clause-stands g c = λ images among honest was.
    let first = c.in_ok-due.ensures.stands images among honest was in
    let due = subst (λ (d : Option DueItems). IfSome d (DueStands (IsAmong images) c.args.subject.now.set)) c.in-Some.is first.1 in
    (subst (λ (h : Option DueItems). IfSome h (DueStands (IsAmong images) c.args.subject.now.set)) (sym c.behind-self.ensures.behind) (behind_stands (IsAmong images) c.args.subject.now.set c.in-Some.due due), due)

pub returns-in_err-due-clause-few : goal.returns-in_err-due-clause-few
returns-in_err-due-clause-few g c = λ header snap held honest tight walk.
    let p = err_from_is_err_and c.from_residual.result c.from_residual.ensures.1 in
    rw p.1 tt

pub returns-in_default-clause-few : goal.returns-in_default-clause-few
returns-in_default-clause-few g c = λ header snap held honest tight walk.
    let ahead = c.in_ok-due.ensures.ahead snap honest tight walk.position_is in
    let none = ap (cells_next snap) c.in_default.is in
    let kept : cells_next snap c.first.new.self.held ≡ 0 = ap (cells_next snap) c.in_ok-due.ensures.held in
    omega (arith, ahead, none, kept)

pub returns-in_err-lengthened-clause-few : goal.returns-in_err-lengthened-clause-few
returns-in_err-lengthened-clause-few g c = λ header snap held honest tight walk.
    let p = err_from_is_err_and c.from_residual-in_err-lengthened.result c.from_residual-in_err-lengthened.ensures.1 in
    rw p.1 tt

pub returns-then-is_run-clause-few : goal.returns-then-is_run-clause-few
returns-then-is_run-clause-few g c = λ header snap held honest tight walk.
    let has = blocks_of c.first.new.io in
    let view : View = view_of header snap (choice_for c.args.subject.now) in
    let left : List Item = items_left view c.args.self.now held in
    let was = c.in_ok-lengthened.ensures.steps.looks.reads.honest honest in
    let on = look_on (λ (seen : List ℕ) (space : FreeSectors). IsTightFor (Has seen space) c.args.subject.now snap) c.in_ok-due.ensures.steps.looks tight in
    let first = subst (λ (d : Option DueItems). ComesFirst has snap view left c.first.new.self.position d) c.in-Some.is (c.in_ok-due.ensures.goes header snap held was tight.tight.holds walk) in
    let ahead = c.in_ok-due.ensures.ahead snap was tight walk.position_is in
    let found = ap (cells_next snap) c.in-Some.is in
    omega (arith, ahead, found, c.in_ok-lengthened.ensures.few header snap left honest on first)

pub returns-clause-few : goal.returns-clause-few
returns-clause-few g c = λ header snap held honest tight walk.
    let ahead = c.in_ok-due.ensures.ahead snap honest tight walk.position_is in
    let found = ap (cells_next snap) c.in-Some.is in
    let given = given_counts snap c.in-Some.due (sym c.is_run.ensures ∙ c.if-is_run.false) in
    let held : cells_next snap c.behind-self.result ≡ 0 = ap (cells_next snap) c.behind-self.ensures.behind ∙ given.1 in
    omega (arith, ahead, found, given.0, held)

pub returns-in_err-due-clause-steps : goal.returns-in_err-due-clause-steps
returns-in_err-due-clause-steps g c =
    let p = err_from_is_err_and c.from_residual.result c.from_residual.ensures.1 in
    rw (p.1, p.2) c.in_err-due.ensures.steps

pub returns-in_err-lengthened-clause-steps : goal.returns-in_err-lengthened-clause-steps
returns-in_err-lengthened-clause-steps g c =
    let p = err_from_is_err_and c.from_residual-in_err-lengthened.result c.from_residual-in_err-lengthened.ensures.1 in
    let first = c.in_ok-due.ensures.steps in
    let more = c.in_err-lengthened.ensures.steps in
    rw (p.1, p.2) (record {
      ranges = tt;
      damaged = λ honest. seen_before first.looks (λ (seen : List ℕ) (size : ℕ). IfDamage c.in_err-lengthened.field-0.0 (IsDamagedCell (IsSeen seen) size c.args.subject.now.set)) (more.damaged honest);
      looks = Looks-then first.looks more.looks;
    })

pub returns-then-is_run-clause-steps : goal.returns-then-is_run-clause-steps
returns-then-is_run-clause-steps g c =
    let more = c.in_ok-lengthened.ensures.steps in
    record { ranges = more.ranges; damaged = λ honest. tt; looks = Looks-then c.in_ok-due.ensures.steps.looks more.looks }

pub returns-clause-steps : goal.returns-clause-steps
returns-clause-steps g c = record {
  ranges = subst (λ (d : Option DueItems). IfSome d DueFits) c.in-Some.is c.in_ok-due.ensures.steps.ranges;
  damaged = λ honest. tt;
  looks = c.in_ok-due.ensures.steps.looks;
}

pub returns-in_default-clause-steps : goal.returns-in_default-clause-steps
returns-in_default-clause-steps g c = record { ranges = tt; damaged = λ honest. tt; looks = c.in_ok-due.ensures.steps.looks }

pub behind-self-requires : goal.behind-self-requires
behind-self-requires g c = subst (λ (d : Option DueItems). IfSome d DueFits) c.in-Some.is c.in_ok-due.ensures.steps.ranges

pub lengthened-requires : goal.lengthened-requires
lengthened-requires g c = record {
  walk = c.in_ok-due.ensures.walk;
  run = (sym c.is_run.ensures ∙ c.if-is_run.true, subst (λ (d : Option DueItems). IfSome d DueFits) c.in-Some.is c.in_ok-due.ensures.steps.ranges);
}
