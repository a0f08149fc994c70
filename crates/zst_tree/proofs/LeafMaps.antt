-- A map with leaves, and the trees that stand for it.
use Rattle.std.proofs.Common.{◌≡◌, ◌≢◌, ⊎_elim, ℕ, zero, suc, ◌+◌, ◌-◌, ◌*◌, ◌%◌, length, drop, get_or, ap, ◌^◌, ◌<◌, ◌≤◌, List, [], ◌∷◌, refl, ◌∙◌, sym, subst, arith}
use Rattle.std.proofs.lemmas.Bool.{cases_lt}
use Rattle.std.proofs.lemmas.List.{drop_more}
use Rattle.std.proofs.lemmas.List.Elements.{All-get_or}
use Rattle.std.proofs.lemmas.Bool.Decides.{nat_tests}
use Rattle.std.specs.Prelude.{All}
use Rattle.zst_block.specs.Ptr.{hole_of}
use Rattle.zst_block.specs.declared.ptr.Ptr.{Ptr}
use Rattle.zst_tree.specs.declared.leaf_puts.Leaf.{Leaf}
use Rattle.zst_tree.specs.Indices.{Blocks, Map, SameBeside, Subtree, TreeIs, span}
use Rattle.zst_tree.specs.Changes.{Parts, PutsChild}
use Rattle.zst_tree.specs.Leaves.{IsOf, with_leaf, with_leaves}
use Rattle.zst_tree.proofs.BuiltSubtrees.{one_below}
use Rattle.zst_tree.proofs.ChangedNodes.{one_parts}
use Rattle.zst_tree.proofs.Span.{span_zero, span-over}
use Rattle.zst_tree.proofs.TreeDates.{AllUpTo}

pub here : (map : Map) (leaf : Leaf) (i : ℕ) → i ≡ leaf.index → with_leaf map leaf i ≡ leaf.ptr
unfolding with_leaf
here map leaf i is = grind (arith, nat_tests)

pub elsewhere : (map : Map) (leaf : Leaf) (i : ℕ) → i ≢ leaf.index → with_leaf map leaf i ≡ map i
unfolding with_leaf
elsewhere map leaf i is = grind (arith, nat_tests)

pub with_more : (map : Map) (leaf : Leaf) (rest : List Leaf) → with_leaves map (leaf ∷ rest) ≡ with_leaves (with_leaf map leaf) rest
unfolding with_leaves
with_more map leaf rest = refl

pub with_none : (map : Map) → with_leaves map [] ≡ map
unfolding with_leaves
with_none map = refl

-- what all of a list are the first is, and all behind it
first_of : (P : Leaf → Type 0) (leaf : Leaf) (rest : List Leaf) → All P (leaf ∷ rest) → P leaf
first_of P leaf rest all = all 0 leaf (omega arith)

rest_of : (P : Leaf → Type 0) (leaf : Leaf) (rest : List Leaf) → All P (leaf ∷ rest) → All P rest
rest_of P leaf rest all = λ k d less. all (suc k) d (omega arith)

-- where an index stands in its group
in_group : (index group : ℕ) → 128 * group ≤ index → index < 128 * group + 128 → index ≡ 128 * group + index % 128
in_group index group from below = omega arith

-- before and behind the group each index is as it was
pub before : (group : ℕ) (map : Map) (leaves : List Leaf) (i : ℕ) → All (IsOf group) leaves → i < 128 * group → with_leaves map leaves i ≡ map i
unfolding with_leaves
before group map [] i all under = refl
before group map (leaf ∷ rest) i all under = before group (with_leaf map leaf) rest i (rest_of (IsOf group) leaf rest all) under ∙ elsewhere map leaf i (omega (arith, (first_of (IsOf group) leaf rest all).from))

pub behind : (group : ℕ) (map : Map) (leaves : List Leaf) (i : ℕ) → All (IsOf group) leaves → 128 * group + 128 ≤ i → with_leaves map leaves i ≡ map i
unfolding with_leaves
behind group map [] i all over = refl
behind group map (leaf ∷ rest) i all over = behind group (with_leaf map leaf) rest i (rest_of (IsOf group) leaf rest all) over ∙ elsewhere map leaf i (omega (arith, (first_of (IsOf group) leaf rest all).below))

-- two maps that agree at an index agree there with the leaves
pub alike : (one two : Map) (leaves : List Leaf) (i : ℕ) → one i ≡ two i → with_leaves one leaves i ≡ with_leaves two leaves i
unfolding with_leaves
alike one two [] i same = same
alike one two (leaf ∷ rest) i same = alike (with_leaf one leaf) (with_leaf two leaf) rest i (with_alike one two leaf i same)
  where
    with_alike : (one two : Map) (leaf : Leaf) (i : ℕ) → one i ≡ two i → with_leaf one leaf i ≡ with_leaf two leaf i
    with_alike one two leaf i same = ⊎_elim
        (λ under. elsewhere one leaf i (omega arith) ∙ (same ∙ sym (elsewhere two leaf i (omega arith))))
        (λ over. ⊎_elim
        (λ behind. elsewhere one leaf i (omega arith) ∙ (same ∙ sym (elsewhere two leaf i (omega arith))))
        (λ at. here one leaf i (omega arith) ∙ sym (here two leaf i (omega arith))) (cases_lt leaf.index i)) (cases_lt i leaf.index)

-- no date is later than those of the map and of the leaves
pub dated : (bound : ℕ) (map : Map) (leaves : List Leaf) → All (λ leaf. leaf.ptr.number ≤ bound) leaves → AllUpTo bound map → AllUpTo bound (with_leaves map leaves)
unfolding with_leaves
dated bound map [] early all = all
dated bound map (leaf ∷ rest) early all = dated bound (with_leaf map leaf) rest (rest_of (λ l. l.ptr.number ≤ bound) leaf rest early) (one bound map leaf (first_of (λ l. l.ptr.number ≤ bound) leaf rest early) all)
  where
    one : (bound : ℕ) (map : Map) (leaf : Leaf) → leaf.ptr.number ≤ bound → AllUpTo bound map → AllUpTo bound (with_leaf map leaf)
    one bound map leaf early all i = ⊎_elim
        (λ under. subst (λ (p : Ptr). p.number ≤ bound) (sym (elsewhere map leaf i (omega arith))) (all i))
        (λ over. ⊎_elim
        (λ behind. subst (λ (p : Ptr). p.number ≤ bound) (sym (elsewhere map leaf i (omega arith))) (all i))
        (λ at. subst (λ (p : Ptr). p.number ≤ bound) (sym (here map leaf i (omega arith))) early) (cases_lt leaf.index i)) (cases_lt i leaf.index)

-- beside a range that has the whole group each index is as it was
pub beside : (group : ℕ) (map : Map) (leaves : List Leaf) (base from below above : ℕ) → All (IsOf group) leaves → from ≤ 128 * group → 128 * group + 128 ≤ below → SameBeside map (with_leaves map leaves) base from below above
beside group map leaves base from below above all first last = record {
  before = λ i u l. before group map leaves i all (omega arith);
  behind = λ i u l. behind group map leaves i all (omega arith);
}

module _ (has : Blocks) where
  -- one leaf more in the node above it
  pub leaf_parts : (old new : List ℕ) (group place : ℕ) (map : Map) (leaf : Leaf) → IsOf group leaf → leaf.index ≡ 128 * group + place → PutsChild old new place leaf.ptr
      → Parts has 0 old (128 * group) map → Parts has 0 new (128 * group) (with_leaf map leaf)
  leaf_parts old new group place map leaf of at puts parts =
      let place_is : 128 * group + place * span 0 ≡ leaf.index = rw span_zero (omega (arith, at)) in
      let end_is : (128 * group + place * span 0) + span 0 ≡ leaf.index + 1 = rw span_zero (omega (arith, at)) in
      one_parts has map (with_leaf map leaf) 0 (128 * group) (128 * group + 128 * span 0) refl old new place leaf.ptr puts parts
      (one_below has (with_leaf map leaf) 0 leaf.ptr (128 * group + place * span 0) refl of.lawful (here map leaf (128 * group + place * span 0) place_is))
      (record {
        before = λ i u l. elsewhere map leaf i (omega (arith, place_is, l));
        behind = λ i u l. elsewhere map leaf i (omega (arith, end_is, u));
      })

  -- what a tree holds whose root stands for more
  pub leaves_hold : (levels past : ℕ) (root : Ptr) (whole map : Map) (group : ℕ) (leaves : List Leaf) → All (IsOf group) leaves → 128 * group + 128 ≤ span levels
      → ((index : ℕ) → span levels ≤ index → whole index ≡ hole_of past) → ((index : ℕ) → index < 2 ^ 44 → map index ≡ whole index) → Subtree has levels root 0 (with_leaves whole leaves)
      → TreeIs has (record { levels = levels; past = past; root = root }) (with_leaves map leaves)
  leaves_hold levels past root whole map group leaves all le past_is agrees s = record {
    whole = with_leaves whole leaves;
    stands = record { below = s; past = λ i u. behind group whole leaves i all (omega arith) ∙ past_is i u };
    agrees = λ i lt. alike map whole leaves i (agrees i lt);
  }

  -- one leaf of a list more
  pub put_more : (group : ℕ) (leaves : List Leaf) (k : ℕ) (d : Leaf) (old new : List ℕ) (map so_far : Map) → k < length leaves → All (IsOf group) leaves → PutsChild old new ((get_or leaves k d).index % 128) (get_or leaves k d).ptr
      → with_leaves so_far (drop k leaves) ≡ with_leaves map leaves → Parts has 0 old (128 * group) so_far
      → (later : Map) × (with_leaves later (drop (k + 1) leaves) ≡ with_leaves map leaves) × Parts has 0 new (128 * group) later
  put_more group leaves k d old new map so_far less all puts is parts =
      let leaf = get_or leaves k d in
      let of = All-get_or (IsOf group) leaves k d less all in (
        with_leaf so_far leaf,
        sym (with_more so_far leaf (drop (k + 1) leaves)) ∙ (ap (with_leaves so_far) (sym (drop_more leaves k d less)) ∙ is),
        leaf_parts old new group (leaf.index % 128) so_far leaf of (in_group leaf.index group of.from of.below) puts parts,
      )

  -- a node of the first level, whose base is that of the group
  pub first_parts : (level part base group : ℕ) (map put : Map) (old new : List ℕ) → level ≡ 1 → part < span (level - 1) → base + 128 * part ≡ 128 * group
      → (Parts has 0 old (128 * group) map → Parts has 0 new (128 * group) put) → Parts has (level - 1) old base map → Parts has (level - 1) new base put
  first_parts level part base group map put old new one less at puts parts =
      let zero : level - 1 ≡ 0 = omega arith in
      let none : part < span 0 = subst (λ (n : ℕ). part < span n) zero less in
      let base_is : base ≡ 128 * group = omega (arith, none, span_zero) in
      let P : ℕ → ℕ → List ℕ → Map → Type 0 = λ n b bytes m. Parts has n bytes b m in
      let before : Parts has 0 old (128 * group) map = subst (λ (n : ℕ). Parts has n old (128 * group) map) zero (subst (λ (b : ℕ). Parts has (level - 1) old b map) base_is parts) in
      subst (λ (b : ℕ). Parts has (level - 1) new b put) (sym base_is) (subst (λ (n : ℕ). Parts has n new (128 * group) put) (sym zero) (puts before))

-- the child below which a group stands, and where it stands there
pub part_at : (level base part child rest group : ℕ) → 0 < level - 1 → child * span (level - 1 - 1) + rest ≡ part → base + 128 * part ≡ 128 * group → (base + child * span (level - 1)) + 128 * rest ≡ 128 * group
part_at level base part child rest group inner sum at = rw (span-over (level - 1) inner) (omega arith)

pub part_ends : (level base child rest group : ℕ) → 0 < level - 1 → rest < span (level - 1 - 1) → (base + child * span (level - 1)) + 128 * rest ≡ 128 * group → 128 * group + 128 ≤ (base + child * span (level - 1)) + span (level - 1)
part_ends level base child rest group inner less at = omega (arith, span-over (level - 1) inner)

-- a tree with a whole group has a level
pub has_level : (levels group : ℕ) → 128 * group + 128 ≤ span levels → 0 < levels
has_level zero group le = absurd (omega (arith, span_zero))
has_level (suc levels) group le = omega arith

pub part_below : (levels group : ℕ) → 128 * group + 128 ≤ span levels → group < span (levels - 1)
part_below levels group le = omega (arith, span-over levels (has_level levels group le))
