-- Blocks that are taken in turn.
use Rattle.std.proofs.Common.{◌≡◌, ℕ, zero, suc, ◌+◌, refl, sym, ◌∙◌, ap, arith}
use Rattle.zst_space.specs.FreeSectors.{FreeSectors}
use Rattle.zst_space.specs.TakenExtents.{without, without_blocks}

pub blocks_none_taken : (space : FreeSectors) → without_blocks 0 space ≡ space
unfolding without_blocks
blocks_none_taken space = refl

blocks_suc_taken : (count : ℕ) (space : FreeSectors) → without_blocks (suc count) space ≡ without (without_blocks count space) 16
unfolding without_blocks
blocks_suc_taken count space = refl

-- some, and then more
pub blocks_then : (first more : ℕ) (space mid new : FreeSectors) → mid ≡ without_blocks first space → new ≡ without_blocks more mid → new ≡ without_blocks (first + more) space
blocks_then first more space mid new is after = after ∙ ap (without_blocks more) is ∙ go more
  where
    go : (n : ℕ) → without_blocks n (without_blocks first space) ≡ without_blocks (first + n) space
    go zero = blocks_none_taken _ ∙ ap (λ (k : ℕ). without_blocks k space) (omega arith)
    go (suc n) =
        let next : first + suc n ≡ suc (first + n) = omega arith in
        blocks_suc_taken n _ ∙ ap (λ (s : FreeSectors). without s 16) (go n) ∙ sym (blocks_suc_taken (first + n) space) ∙ ap (λ (k : ℕ). without_blocks k space) (sym next)

-- and the last one
pub blocks_last : (first all : ℕ) (space mid new : FreeSectors) → mid ≡ without_blocks first space → new ≡ without mid 16 → all ≡ first + 1 → new ≡ without_blocks all space
blocks_last first all space mid new is after count =
    let next : all ≡ suc first = omega (arith, count) in
    after ∙ ap (λ (s : FreeSectors). without s 16) is ∙ sym (blocks_suc_taken first space) ∙ ap (λ (k : ℕ). without_blocks k space) (sym next)

pub one_block : (all : ℕ) (space new : FreeSectors) → new ≡ without space 16 → all ≡ 1 → new ≡ without_blocks all space
one_block all space new after count = blocks_last 0 all space space new (sym (blocks_none_taken space)) after (omega (arith, count))
