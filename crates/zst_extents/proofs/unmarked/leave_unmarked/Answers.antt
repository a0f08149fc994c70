use Rattle.std.proofs.Common.{rules, ◌≡◌, ◌+◌, length, ◌∙◌, ap, arith}
use Rattle.std.specs.Prelude.{Vec}
use Rattle.std.specs.declared.alloc.Global.{Global}
use Rattle.zst_space.specs.declared.space.Extent.{Extent}
use Rattle.zst_space.proofs.FreeSectorsLaws.{Rise-end}
use Rattle.zst_extents.specs.StoredExtents.{extent_blocks}
use Rattle.zst_extents.proofs.MarkedBlocks.{IsFullFor-first, IsFullFor-next, TakesRounds-next, TakesRounds-none, fault_passed}
use Rattle.zst_extents.proofs.unmarked.leave_unmarked.Goals as goal

pub returns-in_err-take_marked-clause-full : goal.returns-in_err-take_marked-clause-full
returns-in_err-take_marked-clause-full c =
    let inside = Rise-end 8 c.args.space.now.end c.args.space.now.free c.requires.space.extents in
    fault_passed (Vec Extent Global) (Unit {0}) _ _ c.from_residual.result c.in_err-take_marked.field-0.0 c.from_residual.ensures.1
    (λ full is. IsFullFor-first c.args.blocks c.args.marks.now c.args.space.now c.take_marked.new.space full inside is) c.in_err-take_marked.ensures.full

pub unmarked-requires-clause-order : goal.unmarked-requires-clause-order
unmarked-requires-clause-order c = omega (arith, Rise-end 8 c.args.space.now.end c.args.space.now.free c.requires.space.extents, c.end-end.ensures)

pub rounds-init : goal.rounds-init
rounds-init c =
    let inside = Rise-end 8 c.args.space.now.end c.args.space.now.free c.requires.space.extents in
    TakesRounds-none c.end-end.result c.args.blocks c.args.space.now c.take_marked.new.space c.args.marks.now c.take_marked.new.marks c.end-end.ensures inside c.in_ok-take_marked.ensures.taken

pub rounds-preserved : goal.rounds-preserved
rounds-preserved c =
    let extents = c.in_ok-extents in
    let long : c.len-in-rounds.result ≡ length extents.extents.items = search rules in
    TakesRounds-next c.end-end.result c.args.blocks c.rounds.taken c.args.space.now c.rounds.space c.args.marks.now c.rounds.marks extents.extents.items c.rounds.invariant (record { apart = extents.ensures.rise; are = extents.ensures.are })
    c.blocks_for-needed.result c.take_marked-in-rounds.new.space c.take_marked-in-rounds.new.marks (omega (arith, c.if-needed-taken.false)) (c.blocks_for-needed.ensures ∙ ap extent_blocks long) c.in_ok-take_marked-2.ensures.taken

pub returns-in_err-take_marked-2-clause-full : goal.returns-in_err-take_marked-2-clause-full
returns-in_err-take_marked-2-clause-full c =
    let extents = c.in_ok-extents in
    let long : c.len-in-rounds.result ≡ length extents.extents.items = search rules in
    fault_passed (Vec Extent Global) (Unit {0}) _ _ c.from_residual-in_err-take_marked-2.result c.in_err-take_marked-2.field-0.0 c.from_residual-in_err-take_marked-2.ensures.1
    (λ full is. IsFullFor-next c.end-end.result c.args.blocks c.rounds.taken c.args.space.now c.rounds.space c.args.marks.now c.rounds.marks extents.extents.items c.rounds.invariant (record { apart = extents.ensures.rise; are = extents.ensures.are })
    c.blocks_for-needed.result c.take_marked-in-rounds.new.space full (omega (arith, c.if-needed-taken.false)) (c.blocks_for-needed.ensures ∙ ap extent_blocks long) is) c.in_err-take_marked-2.ensures.full

pub returns-then-needed-taken-clause-enough : goal.returns-then-needed-taken-clause-enough
returns-then-needed-taken-clause-enough c =
    let inv = c.rounds.invariant in
    let long : c.len-in-rounds.result ≡ length c.in_ok-extents.extents.items = search rules in
    let needed = c.blocks_for-needed.ensures ∙ ap extent_blocks long in
    record {
      taken = c.args.blocks + c.rounds.taken;
      after = inv.rounds.after;
      takes = inv.rounds.takes;
      room_is = inv.rounds.room_is;
      enough = omega (arith, needed, c.if-needed-taken.true);
      most = inv.most;
      may_leave = inv.may_leave;
      few = omega (arith, inv.few);
    }
