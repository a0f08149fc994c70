use Rattle.std.proofs.Common.{◌∙◌, ℕ, List, inl, inr, nat_eq, ap, arith, length}
use Rattle.lru.specs.LruCache.{lru_cache, put_entries}
use Rattle.zst_block.proofs.Cached.{KeepsNone-none, whole}
use Rattle.zst_block.proofs.cache.keep_in.Goals as goal

pub returns-in-Ok-put : goal.returns-in-Ok-put
returns-in-Ok-put c =
    let long = ap length c.as_slice.ensures.bytes in
    let same = c.in-Ok.ensures ∙ c.put_bytes.ensures.bytes ∙ whole _ c.new-copy.result _ (omega (arith, long, c.as_slice.ensures.long, c.put_bytes.ensures.before)) ∙ c.as_slice.ensures.bytes in
    let blocks = c.args.blocks.now in
    inl (c.in-Ok-put.ensures.entries ∙ ap (λ (bytes : List ℕ). lru_cache (put_entries nat_eq blocks c.args.sector bytes) blocks.cap) same)

pub returns : goal.returns
returns c = inr (inl (c.in-Err.ensures.err, KeepsNone-none c.args.blocks.now.entries c.args.sector (λ some. cc (c.in-Err.ensures.succeeds some))))
