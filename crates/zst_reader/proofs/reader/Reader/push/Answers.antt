use Rattle.std.proofs.Common.{◌≡◌, ◌+◌, ◌^◌, ◌≤◌, length, take, refl, ap, ◌∙◌, arith, rules, length-append}
use Rattle.zst_reader.specs.Window.{items}
use Rattle.zst_reader.proofs.VerdictLemmas.{still-known}
use Rattle.zst_reader.proofs.StandsForLemmas.{pushed}
use Rattle.zst_reader.proofs.reader.Reader.push.Goals as goal

pub invariant_of-self : goal.invariant_of-self
invariant_of-self c =
    let mid = c.settle.new.self in
    let none = c.settle.ensures.taken in
    let piece = take c.min-count.result c.args.piece.now in
    let long : length (items c.append.new.self) ≡ length (items mid.window) + length piece = ap length c.append.ensures ∙ length-append (items mid.window) piece in
    let count : length piece ≡ c.min-count.result = search rules in
    let within : mid.pushed + c.min-count.result ≤ 2 ^ 62 = search rules in
    record {
      inside = omega arith;
      counted = let counted = mid.counted in omega arith;
      bounded = within;
      numbered = mid.numbered;
      read = λ known. still-known mid.place mid.head (items mid.window) (items c.append.new.self) _ mid.taken c.settle.ensures.taken c.append.ensures (mid.read known);
    }

pub returns : goal.returns
returns c = record {
  count = search rules;
  pushed = search rules;
  handed = search rules;
  mark = search rules;
  stands = λ text handed stands.
      let e = c.settle.ensures in
      pushed c.args.self.now _ (take c.min-count.result c.args.piece.now) text handed
      (record { place = e.place; handed = e.handed; mark = e.mark })
      (simp (e.taken, c.append.ensures, e.items) refl) stands;
}
