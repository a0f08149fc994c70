-- What has nothing present, and where the last present index stands.
use Rattle.std.proofs.Common.{◌≡◌, inl, inr, ⊎_elim, ℕ, zero, suc, ◌+◌, ◌-◌, ◌*◌, ◌/◌, ◌<◌, ◌≤◌, List, Option, None, Some, MatchOption, Bool, true, false, ◌||◌, if◌then◌else◌, refl, ◌∙◌, sym, ap, subst, arith}
use Rattle.std.proofs.Math.Nat.{mul-le-mul_right}
use Rattle.std.proofs.lemmas.Bool.{cases_lt, false≢true}
use Rattle.zst_block.specs.Ptr.{is_present}
use Rattle.zst_block.specs.declared.ptr.Ptr.{Ptr}
use Rattle.zst_tree.specs.PresentIndices.{Empty, IsLast, HasPresent, ReachesEarlier}
use Rattle.zst_tree.specs.Indices.{Blocks, Map, Subtree, child, any_present, kind_over, span}
use Rattle.zst_tree.specs.Changes.{Parts}
use Rattle.zst_tree.specs.PathAnswer.{nearer_of}
use Rattle.zst_tree.specs.declared.path_answer.Branch.{Branch}
use Rattle.zst_tree.specs.declared.path_answer.PathAnswer.{PathAnswer}
use Rattle.zst_tree.specs.declared.path_answer.PathAnswer.TheVariants.{Nothing, Here, There}
use Rattle.zst_tree.proofs.QuietRanges.{digit_between}
use Rattle.zst_tree.proofs.Span.{span-pos, span-suc, span-over, span_zero}

-- a node has something present where one of its pointers has
pub present_over : (ptr : Ptr) (bytes : List ℕ) → ptr.kind ≡ kind_over bytes → is_present ptr ≡ any_present bytes 128
present_over ptr bytes is = by_kind (any_present bytes 128) is
  where
    by_kind : (b : Bool) → ptr.kind ≡ (if b then 3 else 4) → is_present ptr ≡ b
    by_kind true kind = rw kind refl
    by_kind false kind = rw kind refl

front : (a b : Bool) → (a || b) ≡ false → a ≡ false
front true b e = e
front false b e = refl

back : (a b : Bool) → (a || b) ≡ false → b ≡ false
back true b e = absurd (false≢true (sym e))
back false b e = e

neither : (a b : Bool) → a ≡ false → b ≡ false → (a || b) ≡ false
neither true b e f = e
neither false b e f = f

pub none_present : (bytes : List ℕ) (count k : ℕ) → any_present bytes count ≡ false → k < count → is_present (child bytes k) ≡ false
unfolding any_present
none_present bytes zero k none less = absurd (omega arith)
none_present bytes (suc count) k none less = elim (cases_lt k count) [
  | inl below ↦ none_present bytes count k (back (is_present (child bytes count)) (any_present bytes count) none) below
  | inr last ↦ (
      let same : k ≡ count = omega arith in
      rw same (front (is_present (child bytes count)) (any_present bytes count) none))
]

pub all_absent : (bytes : List ℕ) (count : ℕ) → ((k : ℕ) → k < count → is_present (child bytes k) ≡ false) → any_present bytes count ≡ false
unfolding any_present
all_absent bytes zero each = refl
all_absent bytes (suc count) each = neither (is_present (child bytes count)) (any_present bytes count) (each count (omega arith)) (all_absent bytes count (λ k less. each k (omega arith)))

-- a node with something present has a child with something present
pub some_present : (ptr : Ptr) (bytes : List ℕ) → ptr.kind ≡ kind_over bytes → is_present ptr ≡ true → ((k : ℕ) → k < 128 → is_present (child bytes k) ≡ false) → ⊥
some_present ptr bytes is present absent = false≢true (sym (all_absent bytes 128 absent) ∙ sym (present_over ptr bytes is) ∙ present)

module _ (map : Map) where
  at_absent : (i : ℕ) (ptr : Ptr) → map i ≡ ptr → is_present ptr ≡ false → is_present (map i) ≡ false
  at_absent i ptr is absent = subst (λ (p : Ptr). is_present p ≡ false) (sym is) absent

  pub at_present : (i : ℕ) (ptr : Ptr) → map i ≡ ptr → is_present ptr ≡ true → is_present (map i) ≡ true
  at_present i ptr is present = subst (λ (p : Ptr). is_present p ≡ true) (sym is) present

  pub empty_parts : (level base a b : ℕ) → ((j : ℕ) → a ≤ j → j < b → Empty map (base + j * span level) ((base + j * span level) + span level)) → Empty map (base + a * span level) (base + b * span level)
  empty_parts level base a b each = record {
    absent = λ i u l.
        let d = digit_between (span level) base a b i (span-pos level) u l in
        (each ((i - base) / span level) d.0 d.1).absent i d.2 d.3;
  }

  pub last_leaf : (level base found : ℕ) → found + 1 ≡ base + span level → is_present (map found) ≡ true → IsLast map base (base + span level) found
  last_leaf level base found is present = record { from_on = omega (arith, span-pos level); under = omega arith; present = present; empty = record { absent = λ i u l. absurd (omega arith) } }

  module _ (has : Blocks) where
    pub empty_below : (level : ℕ) (ptr : Ptr) (base : ℕ) → is_present ptr ≡ false → Subtree has level ptr base map → Empty map base (base + span level)
    unfolding Subtree
    empty_below zero ptr base absent stands = record { absent = λ i u l. let same : i ≡ base = omega (arith, span_zero) in at_absent i ptr (ap map same ∙ stands.1) absent }
    empty_below (suc level) ptr base absent (inl flat) = record { absent = λ i u l. at_absent i ptr (flat.2.is i u l) absent }
    empty_below (suc level) ptr base absent (inr (bytes, node, below)) =
        let none : any_present bytes 128 ≡ false = sym (present_over ptr bytes node.kind_is) ∙ absent in
        let parts : Empty map (base + 0 * span level) (base + 128 * span level) =
        empty_parts level base 0 128 (λ j u less. empty_below level (child bytes j) (base + j * span level) (none_present bytes 128 j none less) (below j less)) in
        record { absent = λ i u l. parts.absent i (omega arith) (omega (arith, span-suc level)) }

    pub children_empty : (level base a b : ℕ) (bytes : List ℕ) → 0 < level → b ≤ 128 → Parts has (level - 1) bytes base map → ((k : ℕ) → a ≤ k → k < b → is_present (child bytes k) ≡ false)
        → Empty map (base + a * span (level - 1)) (base + b * span (level - 1))
    children_empty level base a b bytes some le parts absent = empty_parts (level - 1) base a b (λ j u less. empty_below (level - 1) (child bytes j) (base + j * span (level - 1)) (absent j u less) (parts.below j (omega arith)))

    pub earlier_none : (level base below : ℕ) (bytes : List ℕ) → 0 < level → below ≤ 128 → Parts has (level - 1) bytes base map → ((k : ℕ) → k < below → is_present (child bytes k) ≡ false)
        → Empty map base (base + below * span (level - 1))
    earlier_none level base below bytes some le parts absent =
        let before : Empty map (base + 0 * span (level - 1)) (base + below * span (level - 1)) = children_empty level base 0 below bytes some le parts (λ k u less. absent k less) in
        record { absent = λ i u l. before.absent i (omega arith) l }

    pub earlier_some : (level base below k start : ℕ) (bytes : List ℕ) (ptr : Ptr) → 0 < level → below ≤ 128 → k < below → Parts has (level - 1) bytes base map
        → ((j : ℕ) → k + 1 ≤ j → j < below → is_present (child bytes j) ≡ false) → ptr ≡ child bytes k → start ≡ base + k * span (level - 1) → is_present (child bytes k) ≡ true
        → HasPresent has map (level - 1) base (base + below * span (level - 1)) (record { level = level - 1; ptr = ptr; base = start })
    earlier_some level base below k start bytes ptr some le less parts absent same at present =
        let most : (k + 1) * span (level - 1) ≤ below * span (level - 1) = mul-le-mul_right (span (level - 1)) (omega arith) in
        let behind : Empty map (base + (k + 1) * span (level - 1)) (base + below * span (level - 1)) = children_empty level base (k + 1) below bytes some le parts absent in
        record {
          lower = omega arith;
          from_on = omega arith;
          under = omega arith;
          present = subst (λ (p : Ptr). is_present p ≡ true) (sym same) present;
          empty = record { absent = λ i u l. behind.absent i (omega arith) l };
          stands = subst (λ (p : Ptr). Subtree has (level - 1) p start map) (sym same) (subst (λ (b : ℕ). Subtree has (level - 1) (child bytes k) b map) (sym at) (parts.below k (omega arith)));
        }

    -- what the path below a child shows, or else what is before the child
    pub earlier_nearer : (level base k rest offset start : ℕ) (reach : PathAnswer) (before : Option Branch) → 0 < level → k < 128 → rest < span (level - 1) → k * span (level - 1) + rest ≡ offset → start ≡ base + k * span (level - 1)
        → ReachesEarlier has map (level - 1 - 1) start (start + rest + 1) reach
        → MatchOption before (Empty map base (base + k * span (level - 1))) (HasPresent has map (level - 1) base (base + k * span (level - 1)))
        → ReachesEarlier has map (level - 1) base (base + offset + 1) (nearer_of reach before)
    earlier_nearer level base k rest offset start Nothing None some less under is at a b = record {
      absent = λ i u l.
          ⊎_elim (λ w. b.absent i u (omega arith)) (λ w. a.absent i w (omega arith)) (cases_lt i start);
    }
    earlier_nearer level base k rest offset start Nothing (Some beside) some less under is at a b = record {
      lower = b.lower;
      from_on = b.from_on;
      under = omega (arith, b.under);
      present = b.present;
      empty = record { absent = λ i u l. ⊎_elim (λ w. b.empty.absent i u (omega arith)) (λ w. a.absent i w (omega arith)) (cases_lt i start) };
      stands = b.stands;
    }
    earlier_nearer level base k rest offset start (Here index) before some less under is at a b = (omega (arith, a.0), omega (arith, a.1), a.2)
    earlier_nearer level base k rest offset start (There beside) before some less under is at a b = record {
      lower = omega (arith, a.lower);
      from_on = omega (arith, a.from_on);
      under = omega (arith, a.under);
      present = a.present;
      empty = record { absent = λ i u l. a.empty.absent i u (omega arith) };
      stands = a.stands;
    }

    pub last_under : (level base k found : ℕ) (bytes : List ℕ) → 0 < level → k < 128 → Parts has (level - 1) bytes base map → ((j : ℕ) → k + 1 ≤ j → j < 128 → is_present (child bytes j) ≡ false)
        → IsLast map (base + k * span (level - 1)) ((base + k * span (level - 1)) + span (level - 1)) found → IsLast map base (base + span level) found
    last_under level base k found bytes some less parts absent last =
        let behind : Empty map (base + (k + 1) * span (level - 1)) (base + 128 * span (level - 1)) = children_empty level base (k + 1) 128 bytes some (omega arith) parts absent in
        let most : (k + 1) * span (level - 1) ≤ 128 * span (level - 1) = mul-le-mul_right (span (level - 1)) (omega arith) in
        record {
          from_on = omega (arith, last.from_on);
          under = omega (arith, last.under, span-over level some);
          present = last.present;
          empty = record { absent = λ i u l. ⊎_elim (λ w. last.empty.absent i u w) (λ w. behind.absent i (omega arith) (omega (arith, span-over level some))) (cases_lt i ((base + k * span (level - 1)) + span (level - 1))) };
        }
