-- What stands below equal pointers is the same.
use Rattle.std.proofs.Common.{◌≡◌, inl, inr, ⊎_elim, ℕ, zero, suc, ◌+◌, ◌-◌, ◌*◌, ◌/◌, ◌<◌, ◌≤◌, ◌==◌, ◌&&◌, true, List, sym, ◌∙◌, subst, arith}
use Rattle.std.proofs.Math.Nat.{mul-le-mul_right}
use Rattle.std.proofs.lemmas.Bool.{cases_lt, false≢true}
use Rattle.std.proofs.lemmas.Grind.{common_steps}
use Rattle.zst_space.specs.FreeSectors.{FreeSectors}
use Rattle.zst_block.specs.Blocks.{Has}
use Rattle.zst_block.specs.Ptr.{is_flat}
use Rattle.zst_block.specs.declared.ptr.Ptr.{Ptr}
use Rattle.zst_tree.specs.Changes.{Parts}
use Rattle.zst_tree.specs.Indices.{Blocks, Map, Subtree, TreeIs, child, span}
use Rattle.zst_tree.specs.declared.tree.Tree.{Tree}
use Rattle.zst_tree.proofs.BuiltSubtrees.{whole_below}
use Rattle.zst_tree.proofs.Span.{digit-below, span-over, span-pos, span-suc, span_zero}
use Rattle.zst_tree.proofs.SubtreeCases.{flat_below, lawful_below, node_flat}
use Rattle.zst_objset.proofs.OneState.{TreeIs-one, find}
use Rattle.zst_compare.specs.Contents.{Alike}

-- an image has one block at a pointer
pub Has-one : (image : List ℕ) (space : FreeSectors) (ptr : Ptr) (a b : List ℕ) → Has image space ptr a → Has image space ptr b → a ≡ b
Has-one image space ptr a b first second = sym first.block.bytes_are ∙ second.block.bytes_are

module _ (has : Blocks) (one : (ptr : Ptr) (a b : List ℕ) → has ptr a → has ptr b → a ≡ b) where
  -- below one pointer stands one map
  pub subtree_one : (level : ℕ) (ptr : Ptr) (base : ℕ) (m n : Map) → Subtree has level ptr base m → Subtree has level ptr base n → (j : ℕ) → base ≤ j → j < base + span level → m j ≡ n j
  unfolding Subtree
  subtree_one zero ptr base m n first second j from under =
      let same : j ≡ base = omega (arith, from, under, span_zero) in rw same (first.1 ∙ sym second.1)
  subtree_one (suc level) ptr base m n (inl first) (inl second) j from under = first.2.is j from under ∙ sym (second.2.is j from under)
  subtree_one (suc level) ptr base m n (inl first) (inr second) j from under = absurd (false≢true (sym (node_flat has (suc level) ptr second.0 second.1) ∙ first.1))
  subtree_one (suc level) ptr base m n (inr first) (inl second) j from under = absurd (false≢true (sym (node_flat has (suc level) ptr first.0 first.1) ∙ second.1))
  subtree_one (suc level) ptr base m n (inr first) (inr second) j from under =
      let same = one ptr first.0 second.0 first.1.there second.1.there in
      let up : span (suc level) ≡ 128 * span level = span-suc level in
      let place = find (span level) base j 128 from (omega (arith, under, up)) in
      let k = place.0 in
      subtree_one level (child first.0 k) (base + k * span level) m n (first.2 k place.1)
      (subst (λ (bytes : List ℕ). Subtree has level (child bytes k) (base + k * span level) n) (sym same) (second.2 k place.1)) j place.2 place.3

  -- so below two that are equal
  pub alike_below : (level : ℕ) (later earlier : Ptr) (base from reached : ℕ) (m n : Map) → later ≡ earlier → base ≤ from → reached ≤ base + span level
      → Subtree has level later base m → Subtree has level earlier base n → Alike m n from reached
  alike_below level later earlier base from reached m n same over within first second = record {
    same = λ j start under small. subtree_one level later base m n first (subst (λ (p : Ptr). Subtree has level p base n) (sym same) second) j (omega (arith, over, start)) (omega (arith, under, within));
  }

  -- and below children that two nodes share
  pub alike_children : (level base from first upto : ℕ) (node other : List ℕ) (m n : Map) → first * span level ≤ from - base → base ≤ from → upto ≤ 128
      → ((k : ℕ) → first ≤ k → k < upto → child node k ≡ child other k)
      → Parts has level node base m → Parts has level other base n → Alike m n from (base + upto * span level)
  alike_children level base from first upto node other m n begins over few shared parts others = record {
    same = λ j start under small.
        let place = find (span level) base j upto (omega (arith, over, start)) under in
        let k = place.0 in
        let less : k < 128 = omega (arith, place.1, few) in
        let late : first ≤ k = ⊎_elim (λ (before : k < first).
        let most : (k + 1) * span level ≤ first * span level = mul-le-mul_right (span level) (omega (arith, before)) in
        absurd (omega (arith, most, begins, start, over, place.3)))
        (λ (is : first ≤ k). is) (cases_lt k first) in
        subtree_one level (child node k) (base + k * span level) m n (parts.below k less)
        (subst (λ (p : Ptr). Subtree has level p (base + k * span level) n) (sym (shared k late place.1)) (others.below k less)) j place.2 place.3;
  }

  -- equal trees have one map
  pub alike_trees : (later earlier : Tree) (index reached : ℕ) (m n : Map) → later ≡ earlier → TreeIs has later m → TreeIs has earlier n → Alike m n index reached
  alike_trees later earlier index reached m n same first second = record {
    same = λ j start under small. TreeIs-one has one later m n first (subst (λ (t : Tree). TreeIs has t n) (sym same) second) j small;
  }

  -- what two trees share below pointers of one level
  pub alike_in : (later earlier : Tree) (index reached level : ℕ) (m n : Map) (first : TreeIs has later m) (second : TreeIs has earlier n) → Alike first.whole second.whole index reached → Alike m n index reached
  alike_in later earlier index reached level m n first second alike = record {
    same = λ j start under small. first.agrees j small ∙ alike.same j start under small ∙ sym (second.agrees j small);
  }

-- nothing is between
pub alike_none : (m n : Map) (from : ℕ) → Alike m n from from
alike_none m n from = record { same = λ j start under small. absurd (omega (arith, start, under)) }

-- one range, and that behind it
pub alike_then : (m n : Map) (from mid below : ℕ) → Alike m n from mid → Alike m n mid below → Alike m n from below
alike_then m n from mid below first second = record {
  same = λ j start under small. ⊎_elim (λ (before : j < mid). first.same j start before small) (λ (behind : mid ≤ j). second.same j behind under small) (cases_lt j mid);
}

span_add : (low more : ℕ) → span low ≤ span (low + more)
span_add low zero = let same : low + 0 ≡ low = omega arith in subst (λ (n : ℕ). span low ≤ span n) (sym same) (omega arith)
span_add low (suc more) = let up : low + suc more ≡ suc (low + more) = omega arith in
    let over : span (suc (low + more)) ≡ 128 * span (low + more) = span-suc (low + more) in
    subst (λ (n : ℕ). span low ≤ span n) (sym up) (omega (arith, over, span_add low more))

-- a higher pointer spans more
pub span_more : (low high : ℕ) → low ≤ high → span low ≤ span high
span_more low high less = let up : low + (high - low) ≡ high = omega (arith, less) in subst (λ (n : ℕ). span low ≤ span n) up (span_add low (high - low))

-- a pointer that stands for all below it does so at a lower level
pub flat_lower : (has : Blocks) (level lower : ℕ) (ptr : Ptr) (base : ℕ) (map : Map) → lower ≤ level → is_flat ptr ≡ true → Subtree has level ptr base map → Subtree has lower ptr base map
flat_lower has level lower ptr base map less flat stands = ⊎_elim
    (λ (under : lower < level).
    let same = flat_below has level ptr base map (omega (arith, under)) flat stands in
    whole_below has map lower ptr base (lawful_below has level ptr base map stands) flat (record { is = λ j start inside. same.is j start (omega (arith, inside, span_more lower level less)) }))
    (λ (over : level ≤ lower). let same : level ≡ lower = omega (arith, over, less) in subst (λ (n : ℕ). Subtree has n ptr base map) same stands)
    (cases_lt lower level)

-- pointers whose fields are the same are one
pub ptr_same : (p q : Ptr) → true ≡ ((p.kind == q.kind) && ((p.level == q.level) && ((p.length == q.length) && ((p.sector == q.sector)
    && ((p.number == q.number) && ((p.sum.a == q.sum.a) && ((p.sum.b == q.sum.b) && ((p.sum.c == q.sum.c) && (p.sum.d == q.sum.d)))))))))
    → p ≡ q
ptr_same p q same = grind (arith, common_steps)

-- so are trees
pub tree_same : (s t : Tree) → true ≡ ((s.levels == t.levels) && ((s.past == t.past) && ((s.root.kind == t.root.kind) && ((s.root.level == t.root.level) && ((s.root.length == t.root.length) && ((s.root.sector == t.root.sector)
    && ((s.root.number == t.root.number) && ((s.root.sum.a == t.root.sum.a) && ((s.root.sum.b == t.root.sum.b) && ((s.root.sum.c == t.root.sum.c) && (s.root.sum.d == t.root.sum.d)))))))))))
    → s ≡ t
tree_same s t same = grind (arith, common_steps)

-- the child below which an offset stands, by what the children before it and it itself span
pub record StandsAt (level offset place : ℕ) : Type 0 where
  pub under : place < 128
  pub begins : place * span (level - 1) ≤ offset
  pub ends : offset < place * span (level - 1) + span (level - 1)

-- the quotient by what one child spans is that child
pub stands_at : (level offset part : ℕ) → 0 < level → offset < span level → part ≡ span (level - 1) → StandsAt level offset (offset / part)
stands_at level offset part some less is =
    let more : 0 < span (level - 1) = span-pos (level - 1) in
    rw is (record { under = digit-below level offset some less; begins = omega arith; ends = omega arith })

-- so is each number that is the quotient
pub stands_here : (level offset part place : ℕ) → 0 < level → offset < span level → part ≡ span (level - 1) → offset / part ≤ place → place ≤ offset / part → StandsAt level offset place
stands_here level offset part place some less is over under =
    let same : offset / part ≡ place = omega (arith, over, under) in subst (StandsAt level offset) same (stands_at level offset part some less is)

-- the first children span no more than all
pub upto_within : (level count : ℕ) → 0 < level → count ≤ 128 → count * span (level - 1) ≤ span level
upto_within level count some few = let most : count * span (level - 1) ≤ 128 * span (level - 1) = mul-le-mul_right (span (level - 1)) few in omega (arith, most, span-over level some)

-- one child more spans its part more
pub part_within : (level place : ℕ) → 0 < level → place < 128 → place * span (level - 1) + span (level - 1) ≤ span level
part_within level place some less = omega (arith, upto_within level (place + 1) some (omega (arith, less)))

-- what lies behind a child lies past its part
pub past_child : (level offset first place : ℕ) → StandsAt level offset first → first < place → offset < place * span (level - 1)
past_child level offset first place at late =
    let most : (first + 1) * span (level - 1) ≤ place * span (level - 1) = mul-le-mul_right (span (level - 1)) (omega (arith, late)) in
    omega (arith, most, at.ends)
