-- The pointers of a node after a change, and what stands below them.
use Rattle.std.proofs.Common.{◌≡◌, ⊎_elim, ℕ, ◌+◌, ◌*◌, ◌<◌, ◌≤◌, List, length, true, sym, subst, arith}
use Rattle.std.proofs.Math.Nat.{mul-le-mul_right}
use Rattle.zst_block.specs.Ptr.{is_flat, is_lawful}
use Rattle.zst_block.specs.declared.ptr.Ptr.{Ptr}
use Rattle.zst_tree.specs.Indices.{Blocks, Map, span, child, IsSpelled, Same, Subtree, SameBeside}
use Rattle.zst_tree.specs.Changes.{HasChild, KeepsChild, PutsChild, FillsChildren, Parts}
use Rattle.zst_tree.proofs.Sides.{sides}
use Rattle.zst_tree.proofs.Children.{keeps_then, has_kept}
use Rattle.zst_tree.proofs.BuiltSubtrees.{whole_below, same_below}

-- two pointers were put into a node, and a leaf between them
pub record Mixed (old new : List ℕ) (low : ℕ) (new_low : Ptr) (high : ℕ) (new_high leaf : Ptr) : Type 0 where
  pub long : length new ≡ 8192
  pub at_low : HasChild new low new_low
  pub at_high : HasChild new high new_high
  pub between : (k : ℕ) → low < k → k < high → HasChild new k leaf
  pub before : (k : ℕ) → k < low → KeepsChild old new k
  pub behind : (k : ℕ) → high < k → k < 128 → KeepsChild old new k

pub mixes : (old one two new : List ℕ) (low : ℕ) (new_low : Ptr) (high : ℕ) (new_high leaf : Ptr) → low < high → high < 128 →
    PutsChild old one low new_low → FillsChildren one two (low + 1) high leaf → PutsChild two new high new_high → Mixed old new low new_low high new_high leaf
mixes old one two new low new_low high new_high leaf order less first fills second = record {
  long = second.long;
  at_low = has_kept two new low new_low (has_kept one two low new_low first.here (fills.before low (omega arith))) (second.others low (omega arith) (omega arith));
  at_high = second.here;
  between = λ k above under. has_kept two new k leaf (fills.inside k (omega arith) under) (second.others k (omega arith) (omega arith));
  before = λ k under. keeps_then old two new k (keeps_then old one two k (first.others k (omega arith) (omega arith)) (fills.before k (omega arith))) (second.others k (omega arith) (omega arith));
  behind = λ k above under. keeps_then old two new k (keeps_then old one two k (first.others k under (omega arith)) (fills.behind k (omega arith) under)) (second.others k under (omega arith));
}

left_of : (level base k place : ℕ) (i : ℕ) → k < place → i < (base + k * span level) + span level → i < base + place * span level
left_of level base k place i h under = let le : (k + 1) * span level ≤ place * span level = mul-le-mul_right (span level) (omega arith) in omega arith

right_of : (level base k place : ℕ) → place < k → (base + place * span level) + span level ≤ base + k * span level
right_of level base k place h = let le : (place + 1) * span level ≤ k * span level = mul-le-mul_right (span level) (omega arith) in omega arith

spelled_at : (new : List ℕ) (k place : ℕ) → k ≡ place → IsSpelled new place → IsSpelled new k
spelled_at new k place is spelled = subst (λ (n : ℕ). IsSpelled new n) (sym is) spelled

module _ (has : Blocks) (map put : Map) (level base above : ℕ) (edge : above ≡ base + 128 * span level) where
  at_child : (from : ℕ) (there here : Ptr) → here ≡ there → Subtree has level there from put → Subtree has level here from put
  at_child from there here e s = subst (λ (p : Ptr). Subtree has level p from put) (sym e) s

  -- a child that was put in place
  at_place : (new : List ℕ) (k place : ℕ) (made : Ptr) → k ≡ place → HasChild new place made → Subtree has level made (base + place * span level) put → Subtree has level (child new k) (base + k * span level) put
  at_place new k place made is here s = subst (λ (n : ℕ). Subtree has level (child new n) (base + n * span level) put) (sym is) (at_child (base + place * span level) made (child new place) here.child_is s)

  -- a child before what changes, and one behind it
  at_before : (old new : List ℕ) (k from below : ℕ) → KeepsChild old new k → Parts has level old base map → k < 128 → SameBeside map put base (base + from * span level) below above → k < from
      → Subtree has level (child new k) (base + k * span level) put
  at_before old new k from below keeps parts less beside h = at_child (base + k * span level) (child old k) (child new k) keeps.child_is
      (same_below has map put level (child old k) (base + k * span level) (λ i up under. beside.before i (omega arith) (left_of level base k from i h under)) (parts.below k less))

  at_behind : (old new : List ℕ) (k from place : ℕ) → KeepsChild old new k → Parts has level old base map → k < 128 → SameBeside map put base from ((base + place * span level) + span level) above → place < k
      → Subtree has level (child new k) (base + k * span level) put
  at_behind old new k from place keeps parts less beside h = at_child (base + k * span level) (child old k) (child new k) keeps.child_is
      (same_below has map put level (child old k) (base + k * span level)
      (λ i up under. beside.behind i (let le : (base + place * span level) + span level ≤ base + k * span level = right_of level base k place h in omega arith) (let lt_above : i < base + 128 * span level = left_of level base k 128 i less under in omega arith)) (parts.below k less))

  pub one_parts : (old new : List ℕ) (place : ℕ) (made : Ptr) → PutsChild old new place made → Parts has level old base map → Subtree has level made (base + place * span level) put →
      SameBeside map put base (base + place * span level) ((base + place * span level) + span level) above → Parts has level new base put
  one_parts old new place made puts parts s beside = record {
    pointers = record {
      long = puts.long;
      spelled = λ k less. ⊎_elim (λ h. (puts.others k less (omega arith)).spelled (parts.pointers.spelled k less))
          (⊎_elim (λ is. spelled_at new k place is puts.here.spelled) (λ h. (puts.others k less (omega arith)).spelled (parts.pointers.spelled k less))) (sides k place);
    };
    below = λ k less. ⊎_elim (λ h. at_before old new k place _ (puts.others k less (omega arith)) parts less beside h)
        (⊎_elim (λ is. at_place new k place made is puts.here s) (λ h. at_behind old new k _ place (puts.others k less (omega arith)) parts less beside h)) (sides k place);
  }

  pub mixed_parts : (old new : List ℕ) (low : ℕ) (new_low : Ptr) (high : ℕ) (new_high leaf : Ptr) → is_flat leaf ≡ true → is_lawful leaf ≡ true → Mixed old new low new_low high new_high leaf →
      Parts has level old base map → Subtree has level new_low (base + low * span level) put → Subtree has level new_high (base + high * span level) put →
      SameBeside map put base (base + low * span level) ((base + high * span level) + span level) above → Same put ((base + low * span level) + span level) (base + high * span level) leaf →
      Parts has level new base put
  mixed_parts old new low new_low high new_high leaf flat lawful mixed parts s_low s_high beside same = record {
    pointers = record {
      long = mixed.long;
      spelled = λ k less. ⊎_elim (λ h. (mixed.before k h).spelled (parts.pointers.spelled k less))
          (⊎_elim (λ is. spelled_at new k low is mixed.at_low.spelled)
          (λ g. ⊎_elim (λ h. (mixed.between k g h).spelled)
          (⊎_elim (λ is. spelled_at new k high is mixed.at_high.spelled) (λ h. (mixed.behind k h less).spelled (parts.pointers.spelled k less))) (sides k high))) (sides k low);
    };
    below = λ k less. ⊎_elim (λ h. at_before old new k low _ (mixed.before k h) parts less beside h)
        (⊎_elim (λ is. at_place new k low new_low is mixed.at_low s_low)
        (λ g. ⊎_elim (λ h. between k g h)
        (⊎_elim (λ is. at_place new k high new_high is mixed.at_high s_high) (λ h. at_behind old new k _ high (mixed.behind k h less) parts less beside h)) (sides k high))) (sides k low);
  }
    where
      between : (k : ℕ) → low < k → k < high → Subtree has level (child new k) (base + k * span level) put
      between k g h = at_child (base + k * span level) leaf (child new k) (mixed.between k g h).child_is
          (whole_below has put level leaf (base + k * span level) lawful flat
          (record { is = λ i up under. same.is i (let le : (base + low * span level) + span level ≤ base + k * span level = right_of level base k low g in omega arith) (left_of level base k high i h under) }))
