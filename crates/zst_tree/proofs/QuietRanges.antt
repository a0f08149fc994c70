-- What isn't dated after a number, and where the first later index stands.
use Rattle.std.proofs.Common.{◌≡◌, inl, inr, ⊎_elim, ℕ, zero, suc, ◌+◌, ◌-◌, ◌*◌, ◌/◌, ◌%◌, ◌<◌, ◌≤◌, ◌==◌, false, List, Option, None, Some, MatchOption, true, refl, ◌∙◌, sym, ap, subst, arith}
use Rattle.std.proofs.Math.Nat.{mul-le-mul_right}
use Rattle.std.proofs.lemmas.Bool.{cases_lt, ne_eqb}
use Rattle.zst_block.specs.Ptr.{is_flat}
use Rattle.zst_block.specs.declared.ptr.Ptr.{Ptr}
use Rattle.zst_tree.specs.Indices.{Blocks, Map, Subtree, child, greatest, span}
use Rattle.zst_tree.specs.LateIndices.{Quiet, IsFirst, HasLater, ReachesLater}
use Rattle.zst_tree.specs.Changes.{Parts}
use Rattle.zst_tree.specs.PathAnswer.{nearer_of, stands_throughout}
use Rattle.zst_tree.specs.declared.path_answer.Branch.{Branch}
use Rattle.zst_tree.specs.declared.path_answer.PathAnswer.{PathAnswer}
use Rattle.zst_tree.specs.declared.path_answer.PathAnswer.TheVariants.{Nothing, Here, There}
use Rattle.zst_tree.proofs.SubtreeCases.{leaf_below, flat_below}
use Rattle.zst_tree.proofs.Span.{span-pos, span-suc, span-over, span_zero}

-- the greatest number bounds each, and none bounds it but those that bound each
pub greatest-bounds : (bytes : List ℕ) (count k : ℕ) → k < count → (child bytes k).number ≤ greatest bytes count
unfolding greatest
greatest-bounds bytes zero k less = absurd (omega arith)
greatest-bounds bytes (suc count) k less = elim (cases_lt k count) [
  | inl below ↦ omega (arith, greatest-bounds bytes count k below)
  | inr last ↦ (
      let same : k ≡ count = omega arith in
      rw same (omega arith))
]

pub greatest-least : (bytes : List ℕ) (count number : ℕ) → ((k : ℕ) → k < count → (child bytes k).number ≤ number) → greatest bytes count ≤ number
unfolding greatest
greatest-least bytes zero number each = omega arith
greatest-least bytes (suc count) number each = omega (arith, each count (omega arith), greatest-least bytes count number (λ k less. each k (omega arith)))

-- a node with a late number has a child with one
pub some_late : (number : ℕ) (ptr : Ptr) (bytes : List ℕ) → ptr.number ≡ greatest bytes 128 → number < ptr.number → ((k : ℕ) → 0 ≤ k → k < 128 → (child bytes k).number ≤ number) → ⊥
some_late number ptr bytes is late early = omega (arith, is, greatest-least bytes 128 number (λ k less. early k (omega arith) less))

pub quiet_join : (map : Map) (from middle below number : ℕ) → Quiet map from middle number → Quiet map middle below number → Quiet map from below number
quiet_join map from middle below number first second = record { early = λ i u l. ⊎_elim (λ h. first.early i u h) (λ h. second.early i h l) (cases_lt i middle) }

-- where an index stands among parts
pub digit_between : (part base a b i : ℕ) → 0 < part → base + a * part ≤ i → i < base + b * part
    → (a ≤ (i - base) / part) × ((i - base) / part < b) × (base + (i - base) / part * part ≤ i) × (i < (base + (i - base) / part * part) + part)
digit_between part base a b i some low high =
    let j : ℕ = (i - base) / part in
    let r : ℕ = (i - base) % part in
    let is : j * part + r ≡ i - base = omega arith in
    let under : r < part = omega arith in (
      ⊎_elim (λ w. let m : (j + 1) * part ≤ a * part = mul-le-mul_right part (omega arith) in absurd (omega arith)) (λ w. w) (cases_lt j a),
      ⊎_elim (λ w. w) (λ w. let m : b * part ≤ j * part = mul-le-mul_right part w in absurd (omega arith)) (cases_lt j b),
      omega arith,
      omega arith,
    )

-- the pointer of an index where one stands for it
module _ (has : Blocks) (map : Map) where
  here_leaf : (level : ℕ) (ptr : Ptr) (base offset : ℕ) → level ≡ 0 → offset < span level → Subtree has level ptr base map → map (base + offset) ≡ ptr
  here_leaf level ptr base offset is under stands =
      let first : offset < span 0 = subst (λ (n : ℕ). offset < span n) is under in
      let same : base + offset ≡ base = omega (arith, span_zero) in
      ap map same ∙ leaf_below has ptr base map (subst (λ (n : ℕ). Subtree has n ptr base map) is stands)

  here_flat : (level : ℕ) (ptr : Ptr) (base offset : ℕ) → 0 < level → is_flat ptr ≡ true → offset < span level → Subtree has level ptr base map → map (base + offset) ≡ ptr
  here_flat level ptr base offset some flat under stands = (flat_below has level ptr base map some flat stands).is (base + offset) (omega arith) (omega arith)

  pub here : (level : ℕ) (ptr : Ptr) (base offset : ℕ) → stands_throughout level ptr ≡ true → offset < span level → Subtree has level ptr base map → map (base + offset) ≡ ptr
  here zero ptr base offset is under stands = here_leaf zero ptr base offset refl under stands
  here (suc level) ptr base offset is under stands =
      let above : ((suc level) == 0) ≡ false = ne_eqb (suc level) 0 (λ same. omega arith) in here_flat (suc level) ptr base offset (omega arith) (rw above at is) under stands

module _ (map : Map) (number : ℕ) where
  pub quiet_parts : (level base a b : ℕ) → ((j : ℕ) → a ≤ j → j < b → Quiet map (base + j * span level) ((base + j * span level) + span level) number) → Quiet map (base + a * span level) (base + b * span level) number
  quiet_parts level base a b each = record {
    early = λ i u l.
        let d = digit_between (span level) base a b i (span-pos level) u l in
        (each ((i - base) / span level) d.0 d.1).early i d.2 d.3;
  }

  at_early : (i : ℕ) (ptr : Ptr) → map i ≡ ptr → ptr.number ≤ number → (map i).number ≤ number
  at_early i ptr is early = subst (λ (p : Ptr). p.number ≤ number) (sym is) early

  pub at_late : (i : ℕ) (ptr : Ptr) → map i ≡ ptr → number < ptr.number → number < (map i).number
  at_late i ptr is late = subst (λ (p : Ptr). number < p.number) (sym is) late

  pub first_here : (level : ℕ) (ptr : Ptr) (base : ℕ) → map (base + 0) ≡ ptr → number < ptr.number → IsFirst map base (base + span level) number base
  first_here level ptr base is late =
      let same : base ≡ base + 0 = omega arith in
      record { from_on = omega arith; under = omega (arith, span-pos level); late = at_late base ptr (ap map same ∙ is) late; quiet = record { early = λ i u l. absurd (omega arith) } }

  module _ (has : Blocks) where
    -- nothing below a pointer is later than its number
    pub quiet_below : (level : ℕ) (ptr : Ptr) (base : ℕ) → ptr.number ≤ number → Subtree has level ptr base map → Quiet map base (base + span level) number
    unfolding Subtree
    quiet_below zero ptr base early stands = record { early = λ i u l. let same : i ≡ base = omega (arith, span_zero) in at_early i ptr (ap map same ∙ stands.1) early }
    quiet_below (suc level) ptr base early (inl flat) = record { early = λ i u l. at_early i ptr (flat.2.is i u l) early }
    quiet_below (suc level) ptr base early (inr (bytes, node, below)) =
        let parts : Quiet map (base + 0 * span level) (base + 128 * span level) number =
        quiet_parts level base 0 128 (λ j u less. quiet_below level (child bytes j) (base + j * span level) (omega (arith, greatest-bounds bytes 128 j less, node.number_is)) (below j less)) in
        record { early = λ i u l. parts.early i (omega arith) (omega (arith, span-suc level)) }

    pub children_quiet : (level base a b : ℕ) (bytes : List ℕ) → 0 < level → b ≤ 128 → Parts has (level - 1) bytes base map → ((k : ℕ) → a ≤ k → k < b → (child bytes k).number ≤ number)
        → Quiet map (base + a * span (level - 1)) (base + b * span (level - 1)) number
    children_quiet level base a b bytes some le parts early = quiet_parts (level - 1) base a b (λ j u less. quiet_below (level - 1) (child bytes j) (base + j * span (level - 1)) (early j u less) (parts.below j (omega arith)))

    pub first_child : (level base k found : ℕ) (bytes : List ℕ) → 0 < level → k < 128 → Parts has (level - 1) bytes base map → ((j : ℕ) → 0 ≤ j → j < k → (child bytes j).number ≤ number)
        → IsFirst map (base + k * span (level - 1)) ((base + k * span (level - 1)) + span (level - 1)) number found → IsFirst map base (base + span level) number found
    first_child level base k found bytes some less parts early first =
        let before : Quiet map (base + 0 * span (level - 1)) (base + k * span (level - 1)) number = children_quiet level base 0 k bytes some (omega arith) parts early in
        let front : Quiet map base (base + k * span (level - 1)) number = record { early = λ i u l. before.early i (omega arith) l } in
        let most : (k + 1) * span (level - 1) ≤ 128 * span (level - 1) = mul-le-mul_right (span (level - 1)) (omega arith) in
        record { from_on = omega (arith, first.from_on); under = omega (arith, first.under, span-over level some); late = first.late; quiet = quiet_join map base (base + k * span (level - 1)) found number front first.quiet }

    pub later_none : (level base from : ℕ) (bytes : List ℕ) → 0 < level → Parts has (level - 1) bytes base map → ((k : ℕ) → from ≤ k → k < 128 → (child bytes k).number ≤ number)
        → Quiet map (base + from * span (level - 1)) (base + span level) number
    later_none level base from bytes some parts early =
        let behind : Quiet map (base + from * span (level - 1)) (base + 128 * span (level - 1)) number = children_quiet level base from 128 bytes some (omega arith) parts early in
        record { early = λ i u l. behind.early i u (omega (arith, span-over level some)) }

    pub later_some : (level base from k start : ℕ) (bytes : List ℕ) (ptr : Ptr) → 0 < level → from ≤ k → k < 128 → Parts has (level - 1) bytes base map
        → ((j : ℕ) → from ≤ j → j < k → (child bytes j).number ≤ number) → ptr ≡ child bytes k → start ≡ base + k * span (level - 1) → number < (child bytes k).number
        → HasLater has map (level - 1) (base + from * span (level - 1)) (base + span level) number (record { level = level - 1; ptr = ptr; base = start })
    later_some level base from k start bytes ptr some order less parts early same at late =
        let most : (k + 1) * span (level - 1) ≤ 128 * span (level - 1) = mul-le-mul_right (span (level - 1)) (omega arith) in
        let least : from * span (level - 1) ≤ k * span (level - 1) = mul-le-mul_right (span (level - 1)) order in
        let before : Quiet map (base + from * span (level - 1)) (base + k * span (level - 1)) number = children_quiet level base from k bytes some (omega arith) parts early in
        record {
          lower = omega arith;
          from_on = omega arith;
          under = omega (arith, span-over level some);
          late = subst (λ (p : Ptr). number < p.number) (sym same) late;
          quiet = record { early = λ i u l. before.early i u (omega arith) };
          stands = subst (λ (p : Ptr). Subtree has (level - 1) p start map) (sym same) (subst (λ (b : ℕ). Subtree has (level - 1) (child bytes k) b map) (sym at) (parts.below k less));
        }

    -- what the path below a child shows, or else what is behind the child
    pub later_nearer : (level base k rest offset start : ℕ) (reach : PathAnswer) (behind : Option Branch) → 0 < level → k < 128 → rest < span (level - 1) → k * span (level - 1) + rest ≡ offset → start ≡ base + k * span (level - 1)
        → ReachesLater has map (level - 1 - 1) (start + rest) (start + span (level - 1)) number reach
        → MatchOption behind (Quiet map (base + (k + 1) * span (level - 1)) (base + span level) number) (HasLater has map (level - 1) (base + (k + 1) * span (level - 1)) (base + span level) number)
        → ReachesLater has map (level - 1) (base + offset) (base + span level) number (nearer_of reach behind)
    later_nearer level base k rest offset start Nothing None some less under is at a b = record {
      early = λ i u l.
          ⊎_elim (λ w. a.early i (omega arith) (omega arith)) (λ w. b.early i w l) (cases_lt i (base + (k + 1) * span (level - 1)));
    }
    later_nearer level base k rest offset start Nothing (Some beside) some less under is at a b = record {
      lower = b.lower;
      from_on = omega (arith, b.from_on);
      under = b.under;
      late = b.late;
      quiet = record { early = λ i u l. ⊎_elim (λ w. a.early i (omega arith) (omega arith)) (λ w. b.quiet.early i w l) (cases_lt i (base + (k + 1) * span (level - 1))) };
      stands = b.stands;
    }
    later_nearer level base k rest offset start (Here index) behind some less under is at a b =
        let most : (k + 1) * span (level - 1) ≤ 128 * span (level - 1) = mul-le-mul_right (span (level - 1)) (omega arith) in
        (omega (arith, a.0), omega (arith, span-over level some), a.2)
    later_nearer level base k rest offset start (There beside) behind some less under is at a b =
        let most : (k + 1) * span (level - 1) ≤ 128 * span (level - 1) = mul-le-mul_right (span (level - 1)) (omega arith) in
        record {
          lower = omega (arith, a.lower);
          from_on = omega (arith, a.from_on);
          under = omega (arith, a.under, span-over level some);
          late = a.late;
          quiet = record { early = λ i u l. a.quiet.early i (omega arith) l };
          stands = a.stands;
        }
