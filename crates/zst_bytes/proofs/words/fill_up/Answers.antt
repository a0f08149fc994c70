use Rattle.std.proofs.Common.{◌≡◌, length, arith, ap, ◌∙◌}
use Rattle.std.specs.Vec.{vec_len}
use Rattle.std.specs.Int.{next_multiple_of}
use Rattle.zst_bytes.specs.Fields.{zeros}
use Rattle.zst_bytes.proofs.Multiples.{filled}
use Rattle.zst_bytes.proofs.words.fill_up.Goals as goal

pub returns : goal.returns
unfolding zeros
returns c =
    let long : vec_len c.args.out.now ≡ length c.args.out.now.items = omega arith in
    let to : c.next_multiple_of.result ≡ next_multiple_of (vec_len c.args.out.now) c.args.size = c.next_multiple_of.ensures.value ∙ ap (λ n. next_multiple_of n c.args.size) c.len.ensures in
    filled c.resize.result c.args.out.now.items c.resize.new.self.items (vec_len c.args.out.now) c.args.size c.next_multiple_of.result long c.requires to c.resize.ensures.items
