-- The map of a whole tree, grown and changed.
use Rattle.std.proofs.Common.{◌≡◌, ⊎_elim, ℕ, zero, suc, ◌+◌, ◌-◌, ◌*◌, ◌^◌, ◌<◌, ◌≤◌, ◌&&◌, if◌then◌else◌, nat_le, nat_lt, List, refl, ◌∙◌, sym, subst, add-one, arith}
use Rattle.std.proofs.Math.Nat.{mul-le-mul_right}
use Rattle.std.proofs.lemmas.Bool.{cases_lt}
use Rattle.std.proofs.lemmas.Bool.Decides.{nat_tests}
use Rattle.zst_block.specs.Ptr.{hole_of}
use Rattle.zst_block.specs.declared.ptr.Ptr.{Ptr}
use Rattle.zst_tree.specs.declared.tree.Tree.{Tree}
use Rattle.zst_tree.specs.Indices.{Blocks, Map, span, child, IsSpelled, Same, Subtree, Stands, TreeIs, Changed, Puts}
use Rattle.zst_tree.specs.Changes.{PutsChild, FillsChildren, Parts}
use Rattle.zst_tree.proofs.Sides.{sides}
use Rattle.zst_tree.proofs.Span.{span-suc}
use Rattle.zst_tree.proofs.BuiltSubtrees.{whole_below, same_below}

-- the map with this leaf from here to there
pub over : Map → ℕ → ℕ → Ptr → Map
over map from below leaf i = if nat_le from i && nat_lt i below then leaf else map i

pub over_in : (map : Map) (from below : ℕ) (leaf : Ptr) (i : ℕ) → from ≤ i → i < below → over map from below leaf i ≡ leaf
unfolding over
over_in map from below leaf i u l = grind (arith, nat_tests)

pub over_before : (map : Map) (from below : ℕ) (leaf : Ptr) (i : ℕ) → i < from → over map from below leaf i ≡ map i
unfolding over
over_before map from below leaf i h = grind (arith, nat_tests)

pub over_behind : (map : Map) (from below : ℕ) (leaf : Ptr) (i : ℕ) → below ≤ i → over map from below leaf i ≡ map i
unfolding over
over_behind map from below leaf i h = grind (arith, nat_tests)

pub over_changed : (map : Map) (base from below above : ℕ) (leaf : Ptr) → Changed map (over map from below leaf) base from below above leaf
over_changed map base from below above leaf = record {
  inside = record { is = λ i u l. over_in map from below leaf i u l };
  beside = record { before = λ i u l. over_before map from below leaf i l; behind = λ i u l. over_behind map from below leaf i u };
}

-- the map with this leaf from here on
pub over_on : Map → ℕ → Ptr → Map
over_on map from leaf i = if nat_le from i then leaf else map i

pub over_on-in : (map : Map) (from : ℕ) (leaf : Ptr) (i : ℕ) → from ≤ i → over_on map from leaf i ≡ leaf
unfolding over_on
over_on-in map from leaf i u = grind (arith, nat_tests)

pub over_on-before : (map : Map) (from : ℕ) (leaf : Ptr) (i : ℕ) → i < from → over_on map from leaf i ≡ map i
unfolding over_on
over_on-before map from leaf i h = grind (arith, nat_tests)

pub over_on-changed : (map : Map) (base from above : ℕ) (leaf : Ptr) → Changed map (over_on map from leaf) base from above above leaf
over_on-changed map base from above leaf = record {
  inside = record { is = λ i u l. over_on-in map from leaf i u };
  beside = record { before = λ i u l. over_on-before map from leaf i l; behind = λ i u l. absurd (omega arith) };
}

module _ (has : Blocks) where
  -- a root one level up
  pub raised_parts : (map : Map) (level : ℕ) (old one new : List ℕ) (root hole : Ptr) (past : ℕ) → hole ≡ hole_of past → FillsChildren old one 0 128 hole → PutsChild one new 0 root →
      Subtree has level root 0 map → Same map (span level) (span (level + 1)) (hole_of past) → Parts has level new 0 map
  raised_parts map level old one new root hole past is fills puts s same = record {
    pointers = record {
      long = puts.long;
      spelled = λ k less. ⊎_elim (λ h. absurd (omega arith)) (⊎_elim (λ e. subst (λ (n : ℕ). IsSpelled new n) (sym e) puts.here.spelled) (λ h. (puts.others k less (omega arith)).spelled (fills.inside k (omega arith) less).spelled)) (sides k 0);
    };
    below = at;
  }
    where
      at : (k : ℕ) → k < 128 → Subtree has level (child new k) (0 + k * span level) map
      at zero less =
          let z : 0 ≡ 0 + 0 * span level = omega arith in
          subst (λ (p : Ptr). Subtree has level p (0 + 0 * span level) map) (sym puts.here.child_is) (subst (λ (n : ℕ). Subtree has level root n map) z s)
      at (suc k) less =
          let m : (suc k + 1) * span level ≤ 128 * span level = mul-le-mul_right (span level) (omega arith) in
          let n : 1 * span level ≤ suc k * span level = mul-le-mul_right (span level) (omega arith) in
          let up : span (level + 1) ≡ 128 * span level = rw add-one (span-suc level) in
          subst (λ (p : Ptr). Subtree has level p (0 + suc k * span level) map) (sym ((puts.others (suc k) less (omega arith)).child_is ∙ ((fills.inside (suc k) (omega arith) less).child_is ∙ is)))
          (whole_below has map level (hole_of past) (0 + suc k * span level) refl refl (record { is = λ i u l. same.is i (omega arith) (omega arith) }))

  -- the root of a taller tree
  pub grown_parts : (tree : Tree) (whole : Map) (old one new : List ℕ) (hole : Ptr) → hole ≡ hole_of tree.past → FillsChildren old one 0 128 hole → PutsChild one new 0 tree.root →
      Stands has tree whole → Parts has (tree.levels + 1 - 1) new 0 whole
  grown_parts tree whole old one new hole is fills puts stands =
      let down : tree.levels ≡ tree.levels + 1 - 1 = omega arith in
      subst (λ (n : ℕ). Parts has n new 0 whole) down
      (raised_parts whole tree.levels old one new tree.root hole tree.past is fills puts stands.below (record { is = λ i u l. stands.past i u }))

  -- a taller tree stands for the same map
  pub taller_stands : (tree : Tree) (whole : Map) (root : Ptr) → ((index : ℕ) → span tree.levels ≤ index → whole index ≡ hole_of tree.past) → Subtree has (tree.levels + 1) root 0 whole →
      Stands has (record { levels = tree.levels + 1; past = tree.past; root = root }) whole
  taller_stands tree whole root past s = record { below = s; past = λ i u. past i (let up : span (tree.levels + 1) ≡ 128 * span tree.levels = rw add-one (span-suc tree.levels) in omega arith) }

  -- what the changed tree holds
  pub range_holds : (levels past : ℕ) (root : Ptr) (whole map put : Map) (first below : ℕ) (leaf : Ptr) → below ≤ span levels → ((index : ℕ) → span levels ≤ index → whole index ≡ hole_of past) →
      ((index : ℕ) → index < 2 ^ 44 → map index ≡ whole index) → Puts map put first below leaf → Subtree has levels root 0 (over whole first below leaf) →
      TreeIs has (record { levels = levels; past = past; root = root }) put
  range_holds levels past root whole map put first below leaf le behind agrees puts s = record {
    whole = over whole first below leaf;
    stands = record { below = s; past = λ i u. over_behind whole first below leaf i (omega arith) ∙ behind i u };
    agrees = λ i lt. ⊎_elim
        (λ h. puts.beside.before i (omega arith) h ∙ (agrees i lt ∙ sym (over_before whole first below leaf i h)))
        (λ u. ⊎_elim
        (λ l. puts.inside.is i u l ∙ sym (over_in whole first below leaf i u l))
        (λ b. puts.beside.behind i b lt ∙ (agrees i lt ∙ sym (over_behind whole first below leaf i b))) (cases_lt i below)) (cases_lt i first);
  }

  pub tail_holds : (levels : ℕ) (root : Ptr) (whole map put : Map) (first number : ℕ) → first ≤ span levels →
      ((index : ℕ) → index < 2 ^ 44 → map index ≡ whole index) → Puts map put first (2 ^ 44) (hole_of number) → Subtree has levels root 0 (over_on whole first (hole_of number)) →
      TreeIs has (record { levels = levels; past = number; root = root }) put
  tail_holds levels root whole map put first number le agrees puts s = record {
    whole = over_on whole first (hole_of number);
    stands = record { below = s; past = λ i u. over_on-in whole first (hole_of number) i (omega arith) };
    agrees = λ i lt. ⊎_elim
        (λ h. puts.beside.before i (omega arith) h ∙ (agrees i lt ∙ sym (over_on-before whole first (hole_of number) i h)))
        (λ u. puts.inside.is i u lt ∙ sym (over_on-in whole first (hole_of number) i u)) (cases_lt i first);
  }

  -- an empty range changes nothing
  pub none_changed : (map put : Map) (level : ℕ) (root : Ptr) (first : ℕ) (leaf : Ptr) → first ≡ span level → Changed map put 0 first (span level) (span level) leaf → Subtree has level root 0 map → Subtree has level root 0 put
  none_changed map put level root first leaf e changed s = same_below has map put level root 0 (λ i u l. changed.beside.before i u (omega arith)) s

  -- a range of no indices changes nothing
  pub none_put : (tree : Tree) (map put : Map) (first : ℕ) (leaf : Ptr) → Puts map put first (first + 0) leaf → TreeIs has tree map → TreeIs has tree put
  none_put tree map put first leaf puts is = record {
    whole = is.whole;
    stands = is.stands;
    agrees = λ i lt. ⊎_elim (λ h. puts.beside.before i (omega arith) h ∙ is.agrees i lt) (λ u. puts.beside.behind i (omega arith) lt ∙ is.agrees i lt) (cases_lt i first);
  }
