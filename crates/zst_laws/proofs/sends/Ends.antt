-- Ends of objects, and tests over a range.
use Rattle.std.proofs.Common.{eq-eqb, inl, inr, ◌⊎◌, ◌≡◌, ℕ, zero, suc, pred, ◌<◌, ◌≤◌, Bool, true, false, cond, Option, Some, None, refl, sym, ap, ◌∙◌, arith, ◌==◌, nat_lt, ◌&&◌, if◌then◌else◌, length}
use Rattle.std.proofs.lemmas.Bool.{cases_eq, true≢false}
use Rattle.std.proofs.lemmas.Bool.Decides.{nat_tests}
use Rattle.zst_model.specs.states.State.{Block, Hole, Redacted, Data, Object, is_hole, past_last, Empty, block_content, content_at, BlockFits, IsObject, IsObjectOrNone}
use Rattle.zst_model.specs.states.AppliedItems.{within}
use Rattle.zst_laws.proofs.sends.Blocks.{kept}

hole_of : (b : Block) → is_hole b ≡ true → b ≡ Hole
hole_of Hole h = refl
hole_of Redacted h = absurd (cc)
hole_of (Data bytes) h = absurd (cc)

hole_step : (blocks : ℕ → Block) (n i : ℕ) (t : Bool) → is_hole (blocks n) ≡ t → cond t (past_last blocks n) (suc n) ≤ i → i < suc n → (past_last blocks n ≤ i → i < n → blocks i ≡ Hole) → blocks i ≡ Hole
hole_step blocks n i true e h l earlier = go (cases_eq i n)
  where
    go : (i ≡ n) ⊎ (i ≡ n → ⊥) → blocks i ≡ Hole
    go (inl s) = ap blocks s ∙ hole_of (blocks n) e
    go (inr s) = earlier h (omega arith)
hole_step blocks n i false e h l earlier = absurd (omega arith)

-- an index at or past the end is a hole
pub past_end : (blocks : ℕ → Block) (n i : ℕ) → past_last blocks n ≤ i → i < n → blocks i ≡ Hole
unfolding past_last
past_end blocks zero i h l = absurd (omega arith)
past_end blocks (suc n) i h l = hole_step blocks n i (is_hole (blocks n)) refl h l (past_end blocks n i)

-- the numbers that a pass goes over
pub number_range : (n k : ℕ) → within 1 (pred n) k ≡ (nat_lt 0 k && nat_lt k n)
number_range zero k = grind (arith, nat_tests)
number_range (suc n) k = grind (arith, nat_tests)

-- blocks of equal content are equal, and so are their sizes, but at holes
pub same_content : (size size' : ℕ) (x y : Block) → block_content size x ≡ block_content size' y → BlockFits size x → BlockFits size' y → (x ≡ y) × ((y ≡ Hole) ⊎ (size ≡ size'))
same_content size size' Hole Hole e f g = (refl, inl refl)
same_content size size' Hole Redacted e f g = absurd (cc)
same_content size size' Hole (Data b) e f g = absurd (cc)
same_content size size' Redacted Hole e f g = absurd (cc)
same_content size size' Redacted Redacted e f g = (refl, inr cc)
same_content size size' Redacted (Data b) e f g = absurd (cc)
same_content size size' (Data a) Hole e f g = absurd (cc)
same_content size size' (Data a) Redacted e f g = absurd (cc)
same_content size size' (Data a) (Data b) e f g = let same : a ≡ b = cc in (cc, inr (sym f.0 ∙ ap length same ∙ g.0))

no_content : (size : ℕ) (y : Block) → Empty ≡ block_content size y → y ≡ Hole
no_content size Hole e = refl
no_content size Redacted e = absurd (cc)
no_content size (Data b) e = absurd (cc)

-- what an OBJECT keeps is what the content says
pub kept_content : (object : Object) (base : Option Object) (i : ℕ) → content_at base i ≡ content_at (Some object) i → IsObjectOrNone base → IsObject object → kept object.attr base i ≡ object.blocks i
kept_content object None i e b o = sym (no_content object.attr.block_size (object.blocks i) e)
kept_content object (Some old) i e b o =
    let both = same_content old.attr.block_size object.attr.block_size (old.blocks i) (object.blocks i) e (b.fits i) (o.fits i) in
    go (old.attr.block_size == object.attr.block_size) refl both.0 both.1
  where
    go : (t : Bool) → (old.attr.block_size == object.attr.block_size) ≡ t → old.blocks i ≡ object.blocks i → (object.blocks i ≡ Hole) ⊎ (old.attr.block_size ≡ object.attr.block_size)
        → (if t then old.blocks else λ i. Hole) i ≡ object.blocks i
    go true e s h = s
    go false e s (inl h) = sym h
    go false e s (inr h) = absurd (true≢false (sym (eq-eqb _ _ h) ∙ e))
