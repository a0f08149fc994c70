use Rattle.std.proofs.Common.{◌⊎◌, inl, inr, ℕ, ◌<◌, ◌≤◌, refl, arith}
use Rattle.zst_objset.proofs.SlotLaws.{put_next}
use Rattle.zst_objset.proofs.slots.put_slots.Goals as goal

pub loop-place-preserved : goal.loop-place-preserved
loop-place-preserved c =
    put_next c.args.slot.now c.put.new.into _ c.args.node.now c.loop-place.node _ c.args.from c.loop-place.place (omega arith) (omega arith) c.requires.fits refl c.put.ensures c.put_bytes.ensures.before c.put_bytes.ensures.bytes c.loop-place.invariant

beside : (s from below place : ℕ) → place ≤ below → (s < from) ⊎ (below ≤ s) → (s < from) ⊎ (place ≤ s)
beside s from below place end (inl before) = inl before
beside s from below place end (inr behind) = inr (omega arith)

pub returns-clause-kept : goal.returns-clause-kept
returns-clause-kept c = λ s small out. c.loop-place.invariant.kept s small (beside s c.args.from c.args.below c.loop-place.place (omega (arith, c.loop-place.auto.place-end c.requires.from)) out)

pub returns-clause-long : goal.returns-clause-long
returns-clause-long c = λ some. c.loop-place.invariant.long (omega (arith, c.loop-place-test.false))
