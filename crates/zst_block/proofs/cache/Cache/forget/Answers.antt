use Rattle.std.proofs.Common.{inl, refl}
use Rattle.zst_block.proofs.cache.Cache.forget.Goals as goal

pub returns-else-meets : goal.returns-else-meets
returns-else-meets c = record { apart = c.if-meets.ensures.0 refl; whole = λ all. refl; all_or_none = inl refl }
