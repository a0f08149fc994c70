use Rattle.std.proofs.Common.{◌/◌, ◌%◌, ◌^◌, refl, ap, arith}
use Rattle.zst_reader.proofs.Places.{place-begun, place-later}
use Rattle.zst_reader.proofs.place.Place.after.Goals as goal

pub returns-then-self-ne0-clause-after : goal.returns-then-self-ne0-clause-after
returns-then-self-ne0-clause-after c = λ before is sum ahead.
    place-later c.args.self.now _ before c.args.held.now c.args.size (omega arith) c.requires.there.within refl sum refl refl ahead is

pub returns-clause-after : goal.returns-clause-after
returns-clause-after c = λ before is sum ahead.
    place-begun c.args.self.now _ before c.args.held.now c.args.size (omega arith) c.requires.there.header c.requires.there.within refl sum (ap (λ n. n / 4 % 2 ^ 30) c.le64.ensures) c.le64-2.ensures ahead is
