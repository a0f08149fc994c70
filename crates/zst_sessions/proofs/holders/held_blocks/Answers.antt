use Rattle.std.proofs.Common.{Global, List, [], ◌∷◌, ◌++◌, Vec, ap, sym, ◌∙◌}
use Rattle.std.proofs.lemmas.List.{take_all}
use Rattle.zst_roots.specs.declared.held.HeldBlocks.{HeldBlocks}
use Rattle.zst_sessions.proofs.HeldSends.{held_more, held_same}
use Rattle.zst_sessions.specs.EngineSteps.{held_blocks}
use Rattle.zst_sessions.specs.declared.open_sessions.OpenSend.{OpenSend}
use Rattle.zst_sessions.proofs.holders.held_blocks.Goals as goal
use Rattle.zst_sessions.proofs.holders.held_blocks.Goals.{then-is_side+in_ok-push, else-is_side}

pub loop-one-preserved : goal.loop-one-preserved
loop-one-preserved c =
    let before = c.loop-one.held.items in
    let one = c.one-item.result in
    elim c.if-is_side.branch [
      | then-is_side+in_ok-push w ↦ ap (λ (v : Vec HeldBlocks Global). v.items) w.held-is ∙ w.in_ok-push.ensures.items ∙ ap (λ (blocks : HeldBlocks). before ++ blocks ∷ []) w.held.ensures
          ∙ held_more c.args.side c.args.sends.now c.loop-one.one-index one c.loop-one-test.true c.one-item.is before (sym c.is_side.ensures ∙ w.if-is_side.true) c.loop-one.invariant
      | else-is_side w ↦ ap (λ (v : Vec HeldBlocks Global). v.items) w.held-is
          ∙ held_same c.args.side c.args.sends.now c.loop-one.one-index one c.loop-one-test.true c.one-item.is before (sym c.is_side.ensures ∙ w.if-is_side.false) c.loop-one.invariant
    ]

pub returns : goal.returns
returns c = c.loop-one.invariant ∙ ap (λ (all : List OpenSend). held_blocks c.args.side all) (take_all c.loop-one.one-index c.args.sends.now c.loop-one-test.false)
