use Rattle.std.proofs.Common.{◌≡◌, ℕ, ◌+◌, ◌*◌, ◌<◌, ◌≤◌, List, [], ◌++◌, ◌∙◌, ap, arith, min, refl, subst}
use Rattle.std.specs.Prelude.{Option, Some, None, Ok, Err, Result}
use Rattle.zst_block.specs.IoStates.{blocks_of}
use Rattle.zst_block.specs.declared.fault.BlockFault.{BlockFault}
use Rattle.zst_model.specs.declared.states.item.Item.{Item}
use Rattle.zst_model.specs.sends.Items.{joined}
use Rattle.zst_model.specs.sends.View.{View, view_of}
use Rattle.zst_model.specs.states.DatedState.{DatedState}
use Rattle.zst_send.specs.Subjects.{choice_for}
use Rattle.zst_tree.proofs.Results.{delivers_if}
use Rattle.zst_tree.specs.Indices.{Blocks}
use Rattle.zst_block.proofs.IoCallLemmas.{Looks-none}
use Rattle.zst_send.specs.DueItems.{AreHeld, DueFits}
use Rattle.zst_send.specs.WalkPositions.{ComesFirst, GoesTo, left_behind}
use Rattle.zst_send.specs.declared.due_items.DueItems.{DueItems}
use Rattle.zst_send.specs.declared.walk_position.WalkPosition.{WalkPosition}
use Rattle.std.specs.Prelude.{IfOk, IfSome, OnOk}
use Rattle.zst_send.specs.Costs.{cells_due, cells_next, ended, looks_ahead}
use Rattle.zst_send.specs.declared.walk.Walk.{Walk}
use Rattle.zst_send.proofs.LookCosts.{look_ahead}
use Rattle.zst_send.specs.KnownPointers.{DueStands, IsAmong}
use Rattle.zst_send.proofs.walk.Walk.first.Goals as goal

-- where nothing is held, what is found comes first
found_first : (has : Blocks) (snap : DatedState) (view : View) (held : List Item) (old new : WalkPosition) → held ≡ [] → (found : Option DueItems)
    → GoesTo has snap view old new found → ComesFirst has snap view (joined (held ++ left_behind view old)) new found
found_first has snap view held old new empty None (none, behind, of) = (ap (λ (l : List Item). joined (l ++ left_behind view old)) empty ∙ ap joined none, of)
found_first has snap view held old new empty (Some due) (items, are, goes, of) = (items, are, ap (λ (l : List Item). joined (l ++ left_behind view old)) empty ∙ goes, of)

pub returns-in-None-clause-goes : goal.returns-in-None-clause-goes
returns-in-None-clause-goes g c = λ header snap held honest holds walk.
    let empty : held ≡ [] = subst (λ (h : Option DueItems). AreHeld (blocks_of c.args.io.now) h held) c.in-None.is walk.held_are in
    delivers_if _ _ c.find.result (found_first _ snap (view_of header snap (choice_for c.args.subject.now)) held c.args.self.now.position c.find.new.self empty) (c.find.ensures.found header snap honest holds walk.position_is)

pub returns-in-Some-clause-stands : goal.returns-in-Some-clause-stands
returns-in-Some-clause-stands g c = λ images among honest was. (tt, subst (λ (h : Option DueItems). IfSome h (DueStands (IsAmong images) c.args.subject.now.set)) c.in-Some.is was)

-- what is so is so where a call succeeds
on_ok : {T : Type 0} (result : Result T BlockFault) (P : Type 0) → P → OnOk result P
on_ok (Ok value) P is = is
on_ok (Err fault) P is = tt

pub returns-in-None-clause-stands : goal.returns-in-None-clause-stands
returns-in-None-clause-stands g c = λ images among honest was. (on_ok c.find.result _ was, c.find.ensures.stands images among honest)

pub returns-in-Some-clause-ahead : goal.returns-in-Some-clause-ahead
returns-in-Some-clause-ahead g c = λ snap honest tight of.
    let same = subst (λ (h : Option DueItems). looks_ahead snap c.args.self.now ≡ min 1 (cells_next snap h) + ended c.args.self.now.position) c.in-Some.is refl in
    omega (arith, same)

-- what is found is a look ahead
found_ahead : (snap : DatedState) (old : Walk) (position : WalkPosition) (before after : ℕ) (result : Result (Option DueItems) BlockFault) → old.held ≡ None → after + 64 * ended old.position ≤ before + 64
    → (result ≡ Ok None → ended position ≡ 1) → IfOk result (λ found. IfSome found (λ due. 0 < cells_due snap due))
    → IfOk result (λ next. after + 64 * looks_ahead snap old ≤ before + 64 * (min 1 (cells_next snap next) + ended position))
found_ahead snap old position before after (Ok next) empty few ends counted =
    let ahead = look_ahead snap position next (λ none. ends (ap Ok none)) counted in
    let none : cells_next snap old.held ≡ 0 = ap (cells_next snap) empty in
    omega (arith, few, ahead, none)
found_ahead snap old position before after (Err fault) empty few ends counted = tt

pub returns-in-None-clause-ahead : goal.returns-in-None-clause-ahead
returns-in-None-clause-ahead g c = λ snap honest tight of.
    found_ahead snap c.args.self.now c.find.new.self _ _ c.find.result c.in-None.is (c.find.ensures.few snap honest tight) c.find.ensures.ends (c.find.ensures.counted snap honest tight.tight.holds of)

pub returns-in-Some-clause-steps : goal.returns-in-Some-clause-steps
returns-in-Some-clause-steps g c = record {
  ranges = subst (λ (h : Option DueItems). IfSome h DueFits) c.in-Some.is c.requires.walk.held;
  damaged = λ honest. tt;
  looks = Looks-none _;
}

pub returns-in-None-clause-steps : goal.returns-in-None-clause-steps
returns-in-None-clause-steps g c = c.find.ensures.steps
