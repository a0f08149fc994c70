use Rattle.std.proofs.Common.{◌≡◌, ℕ, ◌+◌, ◌-◌, ◌≤◌, ◌<◌, List, cond, length, set, sym, ◌∙◌, ap, subst, arith, cond}
use Rattle.std.specs.List.{remove}
use Rattle.std.proofs.lemmas.Bool.{cond-true, cond-false, eq-eqb, ne_eqb}
use Rattle.zst_space.proofs.FirstFit.{cut_is, cut_inside, without_is, cut_whole, cut_part}
use Rattle.zst_space.specs.FreeSectors.{FreeSectors}
use Rattle.zst_space.specs.TakenExtents.{without}
use Rattle.zst_space.proofs.space.Space.cut.Goals as goal

pub overflow_add-extent : goal.overflow_add-extent
overflow_add-extent c =
    let s : FreeSectors = record { end = c.self.inside.end; sectors = c.self.inside.sectors; free = c.self.inside.free.items } in
    let fits = cut_is s c.args.count c.args.i c.index-extent.result.now c.index-extent.ensures (rw (← c.self.view_is) at c.requires.fits) in
    let inside = cut_inside s c.args.count c.args.i c.index-extent.result.now c.index-extent.ensures (rw (← c.self.view_is) at c.requires.space) (rw (← c.self.view_is) at c.requires.fits) in
    record { fits = omega (arith, fits.0, inside) }

pub overflow_sub-extent : goal.overflow_sub-extent
overflow_sub-extent c =
    let s : FreeSectors = record { end = c.self.inside.end; sectors = c.self.inside.sectors; free = c.self.inside.free.items } in
    (cut_is s c.args.count c.args.i c.index-extent.result.now c.index-extent.ensures (rw (← c.self.view_is) at c.requires.fits)).0

pub returns-then-extent-count-clause-first : goal.returns-then-extent-count-clause-first
returns-then-extent-count-clause-first c =
    let s : FreeSectors = record { end = c.self.inside.end; sectors = c.self.inside.sectors; free = c.self.inside.free.items } in
    let fits = cut_is s c.args.count c.args.i c.index-extent.result.now c.index-extent.ensures (rw (← c.self.view_is) at c.requires.fits) in
    rw (← c.self.view_is) (sym fits.1.first)

pub returns-then-extent-count-clause-after : goal.returns-then-extent-count-clause-after
returns-then-extent-count-clause-after c =
    let s : FreeSectors = record { end = c.self.inside.end; sectors = c.self.inside.sectors; free = c.self.inside.free.items } in
    let fits = cut_is s c.args.count c.args.i c.index-extent.result.now c.index-extent.ensures (rw (← c.self.view_is) at c.requires.fits) in
    rw (← c.self.view_is, c.remove.ensures.items) (cut_whole s c.args.count c.args.i c.index-extent.result.now fits.1 (sym c.if-extent-count.true))

pub returns-else-extent-count-clause-first : goal.returns-else-extent-count-clause-first
returns-else-extent-count-clause-first c =
    let s : FreeSectors = record { end = c.self.inside.end; sectors = c.self.inside.sectors; free = c.self.inside.free.items } in
    let fits = cut_is s c.args.count c.args.i c.index-extent.result.now c.index-extent.ensures (rw (← c.self.view_is) at c.requires.fits) in
    rw (← c.self.view_is) (sym fits.1.first)

pub returns-else-extent-count-clause-after : goal.returns-else-extent-count-clause-after
returns-else-extent-count-clause-after c =
    let s : FreeSectors = record { end = c.self.inside.end; sectors = c.self.inside.sectors; free = c.self.inside.free.items } in
    let fits = cut_is s c.args.count c.args.i c.index-extent.result.now c.index-extent.ensures (rw (← c.self.view_is) at c.requires.fits) in
    rw (← c.self.view_is) (cut_part s c.args.count c.args.i c.index-extent.result.now fits.1 (λ same. c.if-extent-count.false (sym same)))
