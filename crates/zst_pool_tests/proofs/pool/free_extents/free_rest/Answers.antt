use Rattle.std.proofs.Common.{⊎_elim, refl, sym, ◌∙◌, ap, arith}
use Rattle.zst_uber.specs.declared.uber.Uber.{Uber}
use Rattle.zst_pool_tests.proofs.pool.free_extents.free_rest.Goals as goal

pub new-io-requires : goal.new-io-requires
new-io-requires c =
    let in_range = c.in_ok-body.ensures.ready.in_range in
    let end = ap (λ (u : Uber). u.end) (sym c.uber-uber.ensures) ∙ c.if-uber-ne-LEAF.false in
    rw (c.in_ok-space.ensures, c.uber-uber.ensures) (record {
      extents = record { end = in_range.end.1; extents = (omega arith, (omega arith, omega (arith, end))) };
      sectors = in_range.sectors;
    })

pub commit_unmarked-requires-clause-ready : goal.commit_unmarked-requires-clause-ready
commit_unmarked-requires-clause-ready c = rw c.new-io.ensures.disk c.in_ok-body.ensures.ready

pub commit_unmarked-requires-clause-space : goal.commit_unmarked-requires-clause-space
commit_unmarked-requires-clause-space c =
    let marks = c.in_ok-marks.ensures in
    rw (c.new-io.ensures.space, c.in_ok-space.ensures, c.uber-uber.ensures) (record {
      end = refl;
      sectors = refl;
      unmarked = λ sector free under.
          ⊎_elim
          (λ some. ⊎_elim (λ first. marks.before sector first.0 (omega (arith, first.1))) (λ rest. ⊎_elim (λ second. marks.behind sector second.0) (λ none. absurd none) rest) some)
          (λ past. absurd (omega (arith, past, under))) free;
    })
