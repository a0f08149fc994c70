use Rattle.std.proofs.Common.{refl, arith}
use Rattle.std.proofs.lemmas.Result.{err_from_is_err_and}
use Rattle.zst_traverse.proofs.Indices.{shorter_run}
use Rattle.zst_traverse.proofs.pairs.run_of.Goals as goal

pub returns-in_err-run-clause-run : goal.returns-in_err-run-clause-run
returns-in_err-run-clause-run g c = λ object date dates map withheld honest lawful shown read is.
    let p = err_from_is_err_and c.from_residual.result c.from_residual.ensures.1 in
    rw (p.1, p.2) (c.in_err-run.ensures.run object date dates map withheld honest lawful read is)

pub returns-clause-run : goal.returns-clause-run
returns-clause-run g c = λ object date dates map withheld honest lawful shown read is.
    let run = c.in_ok-run.ensures.run object date dates map withheld honest lawful read is in
    (shorter_run _ withheld object dates _ _ _ _ c.requires.turn.0 refl c.min.ensures refl refl run, omega (arith, c.min.ensures))

pub returns-in_err-run-clause-of_walk : goal.returns-in_err-run-clause-of_walk
returns-in_err-run-clause-of_walk g c = λ set honest stands.
    let p = err_from_is_err_and c.from_residual.result c.from_residual.ensures.1 in
    rw (p.1, p.2) (record { stands = tt; damaged = (c.in_err-run.ensures.of_walk set honest stands).damaged })

pub returns-clause-of_walk : goal.returns-clause-of_walk
returns-clause-of_walk g c = λ set honest stands. record { stands = (c.in_ok-run.ensures.of_walk set honest stands).stands; damaged = tt }
