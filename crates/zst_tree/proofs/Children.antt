-- The pointers of a block after some are put into it.
use Rattle.std.proofs.Common.{◌≡◌, ⊎_elim, ℕ, ◌+◌, ◌*◌, ◌<◌, ◌≤◌, List, length, ◌∙◌, refl, sym, ap, subst, arith}
use Rattle.zst_bytes.specs.Bytes.{bytes_at, written}
use Rattle.zst_bytes.proofs.BytesLaws.{length-written, written-same, written-above, written-below}
use Rattle.zst_block.specs.Ptr.{ptr_bytes, PtrFits}
use Rattle.zst_block.proofs.PtrLaws.{length-ptr_bytes, ptr_at-range, ptr_at-same}
use Rattle.zst_block.specs.declared.ptr.Ptr.{Ptr}
use Rattle.zst_tree.specs.Indices.{child}
use Rattle.zst_tree.specs.Changes.{HasChild, KeepsChild, PutsChild, FillsChildren}
use Rattle.zst_tree.proofs.Sides.{sides}

-- equal bytes have equal pointers
keeps : (old new : List ℕ) (k : ℕ) → length old ≡ 8192 → length new ≡ 8192 → k < 128 → bytes_at new (64 * k) 64 ≡ bytes_at old (64 * k) 64 → KeepsChild old new k
unfolding child
keeps old new k long_old long_new less is =
    let same = ptr_at-same new old (64 * k) (omega arith) (omega arith) is in
    record { child_is = same; spelled = λ spelled. is ∙ (spelled ∙ ap ptr_bytes (sym same)) }

has : (new : List ℕ) (k : ℕ) (ptr : Ptr) → length new ≡ 8192 → k < 128 → PtrFits ptr → bytes_at new (64 * k) 64 ≡ ptr_bytes ptr → HasChild new k ptr
unfolding child
has new k ptr long less fits is =
    let same = ptr_at-range new (64 * k) ptr (omega arith) fits is in
    record { child_is = same; spelled = is ∙ ap ptr_bytes (sym same) }

pub puts : (old : List ℕ) (place : ℕ) (ptr : Ptr) → length old ≡ 8192 → place < 128 → PtrFits ptr → PutsChild old (written (64 * place) 64 (ptr_bytes ptr) old) place ptr
puts old place ptr long less fits =
    let new = written (64 * place) 64 (ptr_bytes ptr) old in
    let wide = length-ptr_bytes ptr in
    let inside : 64 * place + 64 ≤ length old = omega arith in
    let long_new : length new ≡ 8192 = length-written (64 * place) 64 (ptr_bytes ptr) old wide inside ∙ long in
    record {
      long = long_new;
      here = has new place ptr long_new less fits (written-same (64 * place) 64 (ptr_bytes ptr) old wide inside);
      others = λ k below other. keeps old new k long long_new below
          (⊎_elim (λ before. written-above (64 * place) 64 (64 * k) 64 (ptr_bytes ptr) old wide inside (omega arith))
          (⊎_elim (λ same. absurd (other same)) (λ behind. written-below (64 * place) 64 (64 * k) 64 (ptr_bytes ptr) old wide inside (omega arith)))
          (sides k place));
    }

pub keeps_same : (bytes : List ℕ) (k : ℕ) → KeepsChild bytes bytes k
keeps_same bytes k = record { child_is = refl; spelled = λ is. is }

pub keeps_then : (old mid new : List ℕ) (k : ℕ) → KeepsChild old mid k → KeepsChild mid new k → KeepsChild old new k
keeps_then old mid new k one two = record { child_is = two.child_is ∙ one.child_is; spelled = λ is. two.spelled (one.spelled is) }

pub has_kept : (mid new : List ℕ) (k : ℕ) (ptr : Ptr) → HasChild mid k ptr → KeepsChild mid new k → HasChild new k ptr
has_kept mid new k ptr one two = record { child_is = two.child_is ∙ one.child_is; spelled = two.spelled one.spelled }

pub fills_none : (bytes : List ℕ) (from : ℕ) (ptr : Ptr) → FillsChildren bytes bytes from from ptr
fills_none bytes from ptr = record {
  inside = λ k from_on under. absurd (omega arith);
  before = λ k under. keeps_same bytes k;
  behind = λ k from_on under. keeps_same bytes k;
}

pub fills_more : (old mid new : List ℕ) (from place : ℕ) (ptr : Ptr) → from ≤ place → place < 128 → FillsChildren old mid from place ptr → PutsChild mid new place ptr → FillsChildren old new from (place + 1) ptr
fills_more old mid new from place ptr order less fills puts = record {
  inside = λ k from_on under. ⊎_elim
      (λ before. has_kept mid new k ptr (fills.inside k from_on before) (puts.others k (omega arith) (omega arith)))
      (⊎_elim (λ same. subst (λ (n : ℕ). HasChild new n ptr) (sym same) puts.here) (λ behind. absurd (omega arith)))
      (sides k place);
  before = λ k under. keeps_then old mid new k (fills.before k under) (puts.others k (omega arith) (omega arith));
  behind = λ k from_on under. keeps_then old mid new k (fills.behind k (omega arith) under) (puts.others k under (omega arith));
}
