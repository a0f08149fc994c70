use Rattle.std.proofs.Common.{Bool, ap, sym, ◌∙◌}
use Rattle.zst_block.specs.Blocks.{Has}
use Rattle.zst_recv.specs.Stages.{kept_without}
use Rattle.zst_recv.proofs.FeedEnds.{left_rests, over_leaves}
use Rattle.zst_recv.proofs.recv.Recv.cut.Goals as goal

pub returns-clause-rests : goal.returns-clause-rests
returns-clause-rests g c = λ tight bound disk running image space stage text rested is.
    left_rests bound (Has image space) c.args.pool.now.kept.dir c.args.self.ask.target c.args.self.stage stage running (g.D.Disk.state disk) c.leave.new.pool.kept c.has_partial-held.result c.has_partial-held.ensures is.stands
    c.requires.recv.stage (c.leave.ensures.rests tight disk running rested)

pub returns-clause-leaves : goal.returns-clause-leaves
returns-clause-leaves g c = c.leave.ensures.kept ∙ ap (λ (held : Bool). kept_without held c.args.self.ask.target c.args.pool.now.kept) c.has_partial-held.ensures

pub returns-then-not-live-clause-leaves : goal.returns-then-not-live-clause-leaves
returns-then-not-live-clause-leaves g c = over_leaves c.args.self.stage c.args.self.ask.target c.args.pool.now.kept (sym c.live.ensures ∙ c.if-not-live.true)
