use Rattle.std.proofs.Common.{◌≡◌, ◌∙◌, ℕ, List, ap, inl, inr, nat_eq, refl, ⊎_elim}
use Rattle.lru.specs.LruCache.{LruCache, lru_cache, put_entries}
use Rattle.lru.proofs.Splits.{Contains-nil}
use Rattle.zst_block.proofs.cache.Cache.keep.Goals.{in-Some, in_default}
use Rattle.zst_block.proofs.cache.Cache.keep.Goals as goal

pub returns : goal.returns
returns c = elim c.match-self.branch [
  | in-Some w ↦
      let same = rw w.in-Some.is at c.self.view_is in
      let room : w.in-Some.blocks.cap ≡ 64 = rw w.in-Some.is at c.self.invariant in
      let entries = λ (blocks : LruCache ℕ (List ℕ)). blocks.entries in
      rw (w.self-inside-is, ← same) (⊎_elim (λ put.
      inl (ap entries put ∙ ap (λ (most : ℕ). put_entries nat_eq (lru_cache w.in-Some.blocks.entries most) c.args.sector c.args.node.now) room))
      (λ rest. ⊎_elim (λ none. inr (inl (ap entries none.0, none.1))) (λ empty. inr (inr (ap entries empty))) rest) w.keep_in.ensures)
  | in_default w ↦
      let none = rw w.in_default.is at c.self.view_is in
      rw (w.self-inside-is, w.in_default.is, ← none) (inr (inl (refl, λ bytes is. Contains-nil _ is)))
]
