use Rattle.std.proofs.Common.{zero-add, ◌∙◌}
use Rattle.zst_tree.proofs.TreeMaps.{none_changed}
use Rattle.zst_block.specs.Ptr.{hole_of}
use Rattle.zst_tree.proofs.ChangedTrees.{IsWithin-self}
use Rattle.zst_tree.proofs.writes.punch_end.Goals as goal

pub returns-then-first-span-clause-puts : goal.returns-then-first-span-clause-puts
returns-then-first-span-clause-puts g c = λ map put honest s changed. none_changed _ map put _ _ _ _ (c.if-first-span.true ∙ c.span_of-span.ensures) changed s

pub returns-clause-puts : goal.returns-clause-puts
returns-clause-puts g c = λ map put honest s changed.
    c.put_in.ensures.put 0 map put honest s (rw (c.hole.ensures, c.span_of-span.ensures) (simp zero-add changed))

pub returns-then-first-span-clause-within : goal.returns-then-first-span-clause-within
returns-then-first-span-clause-within g c = λ honest. IsWithin-self _ _ c.args.levels c.args.root (hole_of c.args.number)

pub returns-clause-within : goal.returns-clause-within
returns-clause-within g c = λ honest. rw c.hole.ensures at (c.put_in.ensures.within honest)
