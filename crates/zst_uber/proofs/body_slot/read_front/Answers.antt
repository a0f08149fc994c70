use Rattle.std.proofs.Common.{◌≡◌, List, ℕ, ◌++◌, length, take, sym, ◌∙◌, ap, subst, arith}
use Rattle.std.proofs.lemmas.List.{length-take-le}
use Rattle.std.proofs.Math.Seq.{take-append_seam}
use Rattle.zst_outside.specs.Ranges.{bytes_at, length-bytes_at}
use Rattle.zst_uber.proofs.SlotsLaws.{front_is}
use Rattle.zst_uber.proofs.body_slot.read_front.Goals as goal

-- what was read stands in front of the rest
in_front : (count : ℕ) (into rest image : List ℕ) → length into ≡ count → into ≡ bytes_at image 0 count → take count (into ++ rest) ≡ bytes_at image 0 count
in_front count into rest image long is = ap (λ (n : ℕ). take n (into ++ rest)) (sym long) ∙ take-append_seam into rest ∙ is

pub returns-clause-bytes : goal.returns-clause-bytes
returns-clause-bytes g c = λ told.
    let seen = (g.D.Disk.state c.args.disk.now).seen in
    let size = g.met.D.Disk.seen_size c.args.disk.now in
    let count = c.min-count.result in
    let long : length (take count c.args.front.now) ≡ count = length-take-le count c.args.front.now (omega (arith, c.requires.long, c.min-count.ensures)) in
    let read : c.read.new.into ≡ bytes_at seen 0 count = c.in_ok-read.ensures.bytes told ∙ ap (λ (n : ℕ). bytes_at seen 0 n) long in
    in_front count c.read.new.into _ seen (ap (λ (l : List ℕ). length l) read ∙ length-bytes_at seen 0 count (omega (arith, size, c.bytes.ensures, c.min-count.ensures))) read
    ∙ front_is seen count (omega (arith, size, c.bytes.ensures, c.min-count.ensures))
