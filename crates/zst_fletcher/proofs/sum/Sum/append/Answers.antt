use Rattle.std.proofs.Common.{◌∙◌, ap, ◌%◌, ◌^◌}
use Rattle.zst_fletcher.proofs.Triangles.{halved, sixth}
use Rattle.zst_fletcher.proofs.JoinedTexts.{sums_of-append}
use Rattle.zst_fletcher.proofs.sum.Sum.append.Goals as goal

pub returns : goal.returns
returns c = λ before after is js count.
    sums_of-append before after c.args.self.now c.args.later.now c.args.count _ _ is js count
    (c.triangle-third_weight.ensures ∙ ap (λ n. n % 2 ^ 64) (halved c.args.count))
    (c.pyramid-fourth_weight.ensures ∙ ap (λ n. n % 2 ^ 64) (sixth c.args.count))
