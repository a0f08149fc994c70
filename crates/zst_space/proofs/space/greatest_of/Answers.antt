use Rattle.std.proofs.Common.{◌≡◌, ℕ, suc, ◌+◌, ◌<◌, max, List, [], ◌∷◌, length, drop, get_or, drop-cons, add-one, refl, sym, ◌∙◌, ap, arith}
use Rattle.zst_space.specs.FreeSectors.{greatest}
use Rattle.zst_space.specs.declared.space.Extent.{Extent}
use Rattle.zst_space.proofs.space.greatest_of.Goals as goal

greatest-max : (extents : List Extent) (least count : ℕ) → greatest extents (max least count) ≡ max count (greatest extents least)
greatest-max [] least count = omega arith
greatest-max (e ∷ es) least count = omega (arith, greatest-max es least count)

one_more : (extents : List Extent) (i least : ℕ) (d : Extent) → i < length extents → greatest (drop (i + 1) extents) (max least (get_or extents i d).count) ≡ greatest (drop i extents) least
one_more extents i least d lt = rw (add-one i, drop-cons extents i d) (greatest-max (drop (suc i) extents) least (get_or extents i d).count)

pub loop-extent-preserved : goal.loop-extent-preserved
loop-extent-preserved c =
    rw c.max-largest.ensures (one_more c.args.extents.now c.loop-extent.extent-index c.loop-extent.largest (record { first = 0; count = 0 }) (omega arith) ∙ c.loop-extent.invariant)
