use Rattle.std.proofs.Common.{rules, ◌≡◌, refl, sym, ◌∙◌, ap, arith, true, false}
use Rattle.std.proofs.lemmas.List.{length-take-le}
use Rattle.zst_bytes.specs.Bytes.{bytes_at}
use Rattle.zst_fletcher.specs.WeightSum.{parts_of}
use Rattle.zst_uber.specs.declared.TheConstants.{VERSION}
use Rattle.zst_uber.proofs.Decoding.{none_is}
use Rattle.zst_uber.proofs.latest_body.decode.Goals as goal

pub slice_bounds-sum_of-end : goal.slice_bounds-sum_of-end
slice_bounds-sum_of-end c = sym (length-take-le 480 c.args.body.now (omega arith))

pub returns-else-is_body : goal.returns-else-is_body
unfolding bytes_at
returns-else-is_body c =
    let version : c.le32-version.result ≡ VERSION = search rules in (
      refl,
      sym c.le32-version.ensures ∙ version,
      c.parts.ensures ∙ ap parts_of c.get_sum.ensures.fields,
      c.parts-else-is_body.ensures ∙ ap parts_of c.sum_of.ensures,
      none_is c.args.size c.get-uber.result c.args.body.now c.get-uber.ensures.fields (λ both. let holds : c.is_body.result ≡ true = c.is_body.ensures.1 both in let fails : c.is_body.result ≡ false = c.if-is_body.false in cc),
    )

pub returns-then-version-ne-VERSION : goal.returns-then-version-ne-VERSION
returns-then-version-ne-VERSION c = search rules

pub returns-then-is_body : goal.returns-then-is_body
returns-then-is_body c = search rules
