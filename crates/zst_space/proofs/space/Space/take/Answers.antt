use Rattle.std.proofs.Common.{◌≡◌, ℕ, ◌+◌, ◌≤◌, sym, ◌∙◌, ap, subst, arith}
use Rattle.zst_space.proofs.FirstFit.{none_fits}
use Rattle.zst_space.proofs.TakenExtentLemmas.{takes, keeps}
use Rattle.zst_space.specs.FreeSectors.{FreeSectors, IsSpaceFrom}
use Rattle.zst_space.specs.TakenExtents.{Takes}
use Rattle.zst_space.proofs.space.Space.take.Goals as goal

pub pass_end-requires-clause-room : goal.pass_end-requires-clause-room
pass_end-requires-clause-room c = none_fits c.args.self.now c.args.count (sym c.fitting.ensures ∙ c.in-None.is) (omega arith) c.requires.end

pub returns-in-Some-clause-takes : goal.returns-in-Some-clause-takes
returns-in-Some-clause-takes c = rw (c.cut.ensures.first, c.cut.ensures.after) (takes c.args.self.now c.args.count c.requires (omega arith))

pub returns-in-Some-clause-kept : goal.returns-in-Some-clause-kept
returns-in-Some-clause-kept c = λ from is. rw c.cut.ensures.after (keeps from c.args.self.now c.args.count is (omega arith))

pub returns-in-None-clause-takes : goal.returns-in-None-clause-takes
returns-in-None-clause-takes c = rw (c.pass_end.ensures.first, c.pass_end.ensures.after) (takes c.args.self.now c.args.count c.requires (omega arith))

pub returns-in-None-clause-kept : goal.returns-in-None-clause-kept
returns-in-None-clause-kept c = λ from is. rw c.pass_end.ensures.after (keeps from c.args.self.now c.args.count is (omega arith))
