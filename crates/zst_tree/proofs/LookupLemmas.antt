-- What a look-up finds, from the leaf up.
use Rattle.std.proofs.Common.{◌≡◌, inl, inr, ℕ, zero, suc, ◌+◌, ◌-◌, ◌*◌, ◌/◌, ◌%◌, ◌^◌, ◌<◌, ◌≤◌, List, true, refl, sym, ◌∙◌, ap, subst, arith}
use Rattle.std.proofs.Math.Nat.{mul-le-mul_right}
use Rattle.std.proofs.lemmas.Nat.{div-mul-add, mod-mul-add}
use Rattle.std.proofs.lemmas.Bool.{false≢true, cases_lt}
use Rattle.zst_space.specs.FreeSectors.{FreeSectors}
use Rattle.zst_block.specs.Blocks.{Has}
use Rattle.zst_block.specs.Ptr.{is_flat}
use Rattle.zst_block.specs.declared.ptr.Ptr.{Ptr}
use Rattle.zst_tree.specs.Indices.{Blocks, Map, Subtree, Same, TreeIs, IsNode, child, span}
use Rattle.zst_tree.specs.Lookups.{Finds, FindsIn, Shows}
use Rattle.zst_tree.specs.declared.tree.Tree.{Tree}
use Rattle.zst_tree.proofs.SubtreeCases.{node_flat}
use Rattle.zst_tree.proofs.Span.{span-pos, span-over, span_zero, digit-below}

module _ (has : Blocks) where
  finds_zero : (ptr : Ptr) (offset : ℕ) → Finds has 0 ptr offset (ptr, 1)
  unfolding Finds
  finds_zero ptr offset = refl

  pub finds_leaf : (level : ℕ) (ptr : Ptr) (offset : ℕ) → level ≡ 0 → Finds has level ptr offset (ptr, 1)
  finds_leaf level ptr offset is = subst (λ (n : ℕ). Finds has n ptr offset (ptr, 1)) (sym is) (finds_zero ptr offset)

  flat_suc : (level : ℕ) (ptr : Ptr) (offset : ℕ) → is_flat ptr ≡ true → Finds has (suc level) ptr offset (ptr, span (suc level) - offset)
  unfolding Finds
  flat_suc level ptr offset flat = inl (flat, refl)

  pub finds_flat : (level : ℕ) (ptr : Ptr) (offset : ℕ) → 0 < level → is_flat ptr ≡ true → Finds has level ptr offset (ptr, span level - offset)
  finds_flat zero ptr offset some flat = absurd (omega arith)
  finds_flat (suc level) ptr offset some flat = flat_suc level ptr offset flat

  child_suc : (level : ℕ) (ptr : Ptr) (offset k rest : ℕ) (bytes : List ℕ) (found : Ptr × ℕ) → IsNode has (suc level) ptr bytes → rest < span level → k * span level + rest ≡ offset
      → Finds has level (child bytes k) rest found → Finds has (suc level) ptr offset found
  unfolding Finds
  child_suc level ptr offset k rest bytes found node under is below =
      let which : offset / span level ≡ k = ap (λ (n : ℕ). n / span level) (sym is) ∙ div-mul-add k (span level) rest under in
      let over : offset % span level ≡ rest = ap (λ (n : ℕ). n % span level) (sym is) ∙ mod-mul-add k (span level) rest under in
      inr (bytes, node, rw (which, over) below)

  -- what is found below a child is found
  pub finds_child : (level : ℕ) (ptr : Ptr) (offset k rest : ℕ) (bytes : List ℕ) (found : Ptr × ℕ) → 0 < level → IsNode has level ptr bytes → rest < span (level - 1) → k * span (level - 1) + rest ≡ offset
      → Finds has (level - 1) (child bytes k) rest found → Finds has level ptr offset found
  finds_child zero ptr offset k rest bytes found some node under is below = absurd (omega arith)
  finds_child (suc level) ptr offset k rest bytes found some node under is below =
      let same : suc level - 1 ≡ level = omega arith in
      child_suc level ptr offset k rest bytes found node (rw same at under) (rw same at is) (rw same at below)

-- what is left of a child's span is left of its parent's
pub left_of_child : (level offset k rest count : ℕ) → 0 < level → k < 128 → k * span (level - 1) + rest ≡ offset → rest + count ≤ span (level - 1) → offset + count ≤ span level
left_of_child level offset k rest count some less is le =
    let most : (k + 1) * span (level - 1) ≤ 128 * span (level - 1) = mul-le-mul_right (span (level - 1)) (omega arith) in
    omega (arith, span-over level some)

-- the image has one block for a pointer
has_one : (image : List ℕ) (space : FreeSectors) (ptr : Ptr) (one other : List ℕ) → Has image space ptr one → Has image space ptr other → one ≡ other
has_one image space ptr one other first second = sym first.block.bytes_are ∙ second.block.bytes_are

-- each index that a look-up tells has the pointer
pub record ShowsBelow (map : Map) (from : ℕ) (shown : Ptr × ℕ) : Type 0 where
  pub some : 0 < shown.1
  pub same : (index : ℕ) → from ≤ index → index < from + shown.1 → map index ≡ shown.0

module _ (image : List ℕ) (space : FreeSectors) (map : Map) where
  shows_flat : (ptr : Ptr) (level base offset : ℕ) (found : Ptr × ℕ) → offset < span level → found ≡ (ptr, span level - offset) → Same map base (base + span level) ptr → ShowsBelow map (base + offset) found
  shows_flat ptr level base offset found under is same = subst (λ (f : Ptr × ℕ). ShowsBelow map (base + offset) f) (sym is)
      (record { some = omega arith; same = λ index from below. same.is index (omega arith) (omega arith) })

  pub shows_below : (level : ℕ) (ptr : Ptr) (base offset : ℕ) (found : Ptr × ℕ) → offset < span level → Subtree (Has image space) level ptr base map → Finds (Has image space) level ptr offset found → ShowsBelow map (base + offset) found
  unfolding Subtree Finds
  shows_below zero ptr base offset found under stands finds = subst (λ (f : Ptr × ℕ). ShowsBelow map (base + offset) f) (sym finds)
      (record { some = omega arith; same = λ index from below. let same : index ≡ base = omega (arith, span_zero) in ap map same ∙ stands.1 })
  shows_below (suc level) ptr base offset found under (inl stands) (inl finds) = shows_flat ptr (suc level) base offset found under finds.1 stands.2
  shows_below (suc level) ptr base offset found under (inl stands) (inr finds) = absurd (false≢true (sym (node_flat (Has image space) (suc level) ptr finds.0 finds.1) ∙ stands.1))
  shows_below (suc level) ptr base offset found under (inr stands) (inl finds) = absurd (false≢true (sym (node_flat (Has image space) (suc level) ptr stands.0 stands.1) ∙ finds.0))
  shows_below (suc level) ptr base offset found under (inr stands) (inr finds) =
      let k = offset / span level in
      let rest = offset % span level in
      let some = span-pos level in
      let parts : k * span level + rest ≡ offset = omega arith in
      let one_up : suc level - 1 ≡ level = omega arith in
      let less : k < 128 = rw one_up at (digit-below (suc level) offset (omega arith) under) in
      let same : stands.0 ≡ finds.0 = has_one image space ptr stands.0 finds.0 stands.1.there finds.1.there in
      let below : Subtree (Has image space) level (child finds.0 k) (base + k * span level) map = subst (λ (bytes : List ℕ). Subtree (Has image space) level (child bytes k) (base + k * span level) map) same (stands.2 k less) in
      let here : base + k * span level + rest ≡ base + offset = omega arith in
      subst (λ (n : ℕ). ShowsBelow map n found) here (shows_below level (child finds.0 k) (base + k * span level) rest found (omega arith) below finds.2)

-- what a look-up in a tree finds shows what the tree holds
pub shows_in : (image : List ℕ) (space : FreeSectors) (tree : Tree) (map : Map) (index : ℕ) (found : Ptr × ℕ) → index < 2 ^ 44 → TreeIs (Has image space) tree map → FindsIn (Has image space) tree index found → Shows map index found
shows_in image space tree map index found small is finds = elim (cases_lt index (span tree.levels)) [
  | inl inside ↦ (
      let shows = shows_below image space is.whole tree.levels tree.root 0 index found inside is.stands.below (finds.inside inside) in
      record { some = shows.some; same = λ i from below bound. is.agrees i bound ∙ shows.same i (omega arith) (omega arith) })
  | inr past ↦ (
      let told = finds.past past in
      subst (λ (f : Ptr × ℕ). Shows map index f) (sym told)
      (record { some = omega arith; same = λ i from below bound. is.agrees i bound ∙ is.stands.past i (omega arith) }))
]
