use Rattle.std.proofs.Common.{◌≡◌, ◌+◌, ◌^◌, ◌≤◌, length, refl, ap, ◌∙◌, arith, rules, length-append}
use Rattle.std.proofs.lemmas.Result.{err_from_is_err_and}
use Rattle.zst_reader.specs.Window.{items}
use Rattle.zst_reader.proofs.VerdictLemmas.{still-known}
use Rattle.zst_reader.proofs.StandsForLemmas.{pushed}
use Rattle.zst_reader.proofs.reader.Reader.fill.Goals as goal

pub invariant_of-self-2 : goal.invariant_of-self-2
invariant_of-self-2 g c =
    let mid = c.settle.new.self in
    let none = c.settle.ensures.taken in
    let t = c.in_ok-got.ensures.takes in
    let long : length (items c.read_from.new.self) ≡ length (items mid.window) + length t.got = ap length t.grown ∙ length-append (items mid.window) t.got in
    let count : length t.got ≡ c.in_ok-got.got = t.told.0 in
    let within : mid.pushed + c.in_ok-got.got ≤ 2 ^ 62 = search rules in
    record {
      inside = omega arith;
      counted = let counted = mid.counted in omega arith;
      bounded = within;
      numbered = mid.numbered;
      read = λ known. still-known mid.place mid.head (items mid.window) (items c.read_from.new.self) t.got mid.taken c.settle.ensures.taken t.grown (mid.read known);
    }

pub returns-in_err-got : goal.returns-in_err-got
returns-in_err-got g c =
    let t = c.in_err-got.ensures.takes in
    let e = c.settle.ensures in
    let p = err_from_is_err_and c.from_residual.result c.from_residual.ensures.1 in
    let none : length t.got ≡ 0 = ap length t.told in
    rw p.1 (record {
      got = t.got;
      consumed = t.consumed;
      pushes = record {
        pushed = omega (arith, e.pushed);
        handed = e.handed;
        mark = e.mark;
        stands = λ text handed stands. pushed c.args.self.now _ t.got text handed
            (record { place = e.place; handed = e.handed; mark = e.mark })
            (simp (e.taken, t.grown, e.items) refl) stands;
      };
      told = t.told;
      stays = tt;
      cause = record { later = t.cause.later; fault = t.cause.fault };
    })

pub returns : goal.returns
returns g c =
    let t = c.in_ok-got.ensures.takes in
    let e = c.settle.ensures in
    record {
      got = t.got;
      consumed = t.consumed;
      pushes = record {
        pushed = omega (arith, e.pushed, t.told.0);
        handed = e.handed;
        mark = e.mark;
        stands = λ text handed stands. pushed c.args.self.now _ t.got text handed
            (record { place = e.place; handed = e.handed; mark = e.mark })
            (simp (e.taken, t.grown, e.items) refl) stands;
      };
      told = t.told;
      stays = t.stays;
      cause = record { later = t.cause.later; fault = tt };
    }
