use Rattle.std.proofs.Common.{◌≡◌, ℕ, ◌+◌, ◌≤◌, sym, ◌∙◌, ap, subst, arith}
use Rattle.zst_space.proofs.FirstFit.{pass_is}
use Rattle.zst_space.specs.FreeSectors.{FreeSectors}
use Rattle.zst_space.proofs.space.Space.pass_end.Goals as goal

pub overflow_add-self : goal.overflow_add-self
overflow_add-self c = let fits = rw (← c.self.view_is) at c.requires.room in record { fits = omega (arith, fits) }

pub returns-clause-first : goal.returns-clause-first
returns-clause-first c =
    let s : FreeSectors = record { end = c.self.inside.end; sectors = c.self.inside.sectors; free = c.self.inside.free.items } in
    rw (← c.self.view_is) (sym (pass_is s c.args.count (rw (← c.self.view_is) at c.requires.none)).0)

pub returns-clause-after : goal.returns-clause-after
returns-clause-after c =
    let s : FreeSectors = record { end = c.self.inside.end; sectors = c.self.inside.sectors; free = c.self.inside.free.items } in
    rw (← c.self.view_is) (pass_is s c.args.count (rw (← c.self.view_is) at c.requires.none)).1
