use Rattle.std.proofs.Common.{refl, sym, ◌∙◌, arith}
use Rattle.std.proofs.lemmas.Bool.{true≢false}
use Rattle.zst_space.specs.declared.space.Extent.{Extent}
use Rattle.zst_extents.proofs.ApartExtents.{Apart-end, apart_follow, follow_last, follow_more, follow_stops}
use Rattle.zst_extents.proofs.order.are_apart.Goals as goal

abbrev none : Extent
none = record { first = 0; count = 0 }

pub returns-then-end-lt8 : goal.returns-then-end-lt8
returns-then-end-lt8 c = ((λ is. absurd (cc is)), (λ apart. absurd (omega (arith, Apart-end c.args.extents.now c.args.end apart, c.if-end-lt8.true))))

pub loop-extent-init : goal.loop-extent-init
loop-extent-init c = record { under = omega arith; apart = apart_follow c.args.extents.now c.args.end (omega arith) }

pub returns-then-not-follows : goal.returns-then-not-follows
returns-then-not-follows c =
    let inv = c.loop-extent.invariant in (
      (λ is. absurd (cc is)),
      (λ apart.
          absurd (follow_stops c.args.extents.now c.loop-extent.extent-index c.loop-extent.behind c.args.end none c.loop-extent-test.true (λ all. true≢false (sym (c.follows.ensures.1 all) ∙ c.if-not-follows.true)) (inv.apart.0 apart))),
    )

pub loop-extent-preserved : goal.loop-extent-preserved
loop-extent-preserved c =
    let inv = c.loop-extent.invariant in
    let follows = c.follows.ensures.0 c.if-not-follows.false in
    let more = follow_more c.args.extents.now c.loop-extent.extent-index c.loop-extent.behind c.args.end none c.loop-extent-test.true follows in
    record { under = follows.2; apart = ((λ apart. more.0 (inv.apart.0 apart)), (λ rest. inv.apart.1 (more.1 rest))) }

pub returns : goal.returns
returns c =
    let inv = c.loop-extent.invariant in (
      (λ is. inv.apart.1 (follow_last c.args.extents.now c.loop-extent.extent-index c.loop-extent.behind c.args.end c.loop-extent-test.false inv.under)),
      (λ apart. refl),
    )
