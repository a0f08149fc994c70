use Rattle.std.proofs.Common.{refl}
use Rattle.std.proofs.lemmas.Result.{err_from_is_err_and}
use Rattle.zst_traverse.proofs.leaves.leaf_at.Goals as goal

pub returns-in_err-ptr : goal.returns-in_err-ptr
returns-in_err-ptr g c =
    let p = err_from_is_err_and c.from_residual.result c.from_residual.ensures.1 in
    rw (p.1, p.2) (record {
      shows = λ map honest is. c.in_err-ptr.ensures.shows map honest is;
      index = tt;
      range = tt;
      hangs = λ honest. tt;
      damaged = λ honest. c.in_err-ptr.ensures.damaged honest;
      looks = c.in_err-ptr.ensures.looks;
    })

pub returns : goal.returns
returns g c = record {
  shows = c.in_ok-ptr.ensures.shows;
  index = refl;
  range = c.in_ok-ptr.ensures.range;
  hangs = c.in_ok-ptr.ensures.hangs;
  damaged = λ honest. tt;
  looks = c.in_ok-ptr.ensures.looks;
}

pub get-requires-clause-levels : goal.get-requires-clause-levels
get-requires-clause-levels g c = c.requires.levels

pub get-requires-clause-index : goal.get-requires-clause-index
get-requires-clause-index g c = c.requires.index
