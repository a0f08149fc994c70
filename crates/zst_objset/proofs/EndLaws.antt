-- The end of an object whose indices of a range have another block.
use Rattle.std.specs.Prelude.{Some, None}
use Rattle.std.proofs.Common.{◌≡◌, ◌⊎◌, inl, inr, ℕ, zero, suc, ◌+◌, ◌<◌, ◌≤◌, Bool, true, false, refl, sym, ap, ◌∙◌, arith, subst, if◌then◌else◌, max}
use Rattle.std.proofs.lemmas.Bool.{cases_lt, true≢false}
use Rattle.zst_block.specs.Ptr.{is_present}
use Rattle.zst_block.specs.declared.ptr.Ptr.{Ptr}
use Rattle.zst_model.specs.states.AppliedItems.{within}
use Rattle.zst_model.specs.states.State.{Block, Hole, Redacted, Data, Object, end_of, index_bound, is_hole, past_last}
use Rattle.zst_tree.specs.PresentIndices.{FindsLast}
use Rattle.zst_tree.specs.Indices.{Blocks, Map}
use Rattle.zst_dnode.specs.declared.dnode.Dnode.{Dnode}
use Rattle.zst_objset.specs.Dnodes.{BlockIs, ObjectIs}
use Rattle.zst_objset.specs.Ranges.{put_range, with_range}
use Rattle.zst_objset.proofs.RangeIndices.{put_range-inside, put_range-outside}

-- below a bound all from the end on are holes, and the index before it isn't one
record IsEnd (blocks : ℕ → Block) (bound end : ℕ) : Type 0 where
  bounded : end ≤ bound
  holes : (i : ℕ) → end ≤ i → i < bound → is_hole (blocks i) ≡ true
  last : (i : ℕ) → end ≡ suc i → is_hole (blocks i) ≡ false

module _ (blocks : ℕ → Block) where
  step : (bound end : ℕ) (hole : Bool) → is_hole (blocks bound) ≡ hole → IsEnd blocks bound end → IsEnd blocks (suc bound) (if hole then end else suc bound)
  step bound end true test is = record {
    bounded = omega (arith, is.bounded);
    holes = λ i from under. elim (cases_lt i bound) [
      | inl below ↦ is.holes i from below
      | inr over ↦ let same : i ≡ bound = omega (arith, over, under) in ap (λ n. is_hole (blocks n)) same ∙ test
    ];
    last = is.last;
  }
  step bound end false test is = record {
    bounded = omega arith;
    holes = λ i from under. absurd (omega (arith, from, under));
    last = λ i same. let bound_is : i ≡ bound = omega (arith, same) in ap (λ n. is_hole (blocks n)) bound_is ∙ test;
  }

  -- the end of the definition is that
  IsEnd-past_last : (bound : ℕ) → IsEnd blocks bound (past_last blocks bound)
  unfolding past_last
  IsEnd-past_last zero = record { bounded = omega arith; holes = λ i from under. absurd (omega (arith, under)); last = λ i same. absurd (omega (arith, same)) }
  IsEnd-past_last (suc bound) = step bound (past_last blocks bound) (is_hole (blocks bound)) refl (IsEnd-past_last bound)

  -- and there is only one
  IsEnd-one : (bound a b : ℕ) → IsEnd blocks bound a → IsEnd blocks bound b → a ≡ b
  IsEnd-one bound zero zero first second = refl
  IsEnd-one bound zero (suc b) first second = absurd (true≢false (sym (first.holes b (omega arith) (omega (arith, second.bounded))) ∙ second.last b refl))
  IsEnd-one bound (suc a) zero first second = absurd (true≢false (sym (second.holes a (omega arith) (omega (arith, first.bounded))) ∙ first.last a refl))
  IsEnd-one bound (suc a) (suc b) first second = elim (cases_lt a b) [
    | inl less ↦ absurd (true≢false (sym (first.holes b (omega (arith, less)) (omega (arith, second.bounded))) ∙ second.last b refl))
    | inr more ↦ elim (cases_lt b a) [
      | inl less ↦ absurd (true≢false (sym (second.holes a (omega (arith, less)) (omega (arith, first.bounded))) ∙ first.last a refl))
      | inr same ↦ omega (arith, more, same)
    ]
  ]

-- a pointer is present where it stands for no hole
present_hole : (has : Blocks) (ptr : Ptr) (block : Block) → BlockIs has ptr block → is_present ptr ≡ false → is_hole block ≡ true
present_hole has ptr Hole is absent = refl
present_hole has ptr Redacted is absent = let present : is_present ptr ≡ true = rw is refl in absurd (true≢false (sym present ∙ absent))
present_hole has ptr (Data bytes) is absent = let present : is_present ptr ≡ true = rw is.0 refl in absurd (true≢false (sym present ∙ absent))

hole_absent : (has : Blocks) (ptr : Ptr) (block : Block) → BlockIs has ptr block → is_present ptr ≡ true → is_hole block ≡ false
hole_absent has ptr Hole is present = let absent : is_present ptr ≡ false = rw is refl in absurd (true≢false (sym present ∙ absent))
hole_absent has ptr Redacted is present = refl
hole_absent has ptr (Data bytes) is present = refl

-- a range of holes leaves the end where it ends elsewhere
IsEnd-kept : (blocks : ℕ → Block) (bound end first count : ℕ) → (end ≤ first) ⊎ (first + count < end) → IsEnd blocks bound end → IsEnd (put_range first count Hole blocks) bound end
IsEnd-kept blocks bound end first count away is = record {
  bounded = is.bounded;
  holes = λ i from under. hole i (within first count i) refl (is.holes i from under);
  last = λ i same. ap is_hole (put_range-outside first count Hole blocks i (beside i same away)) ∙ is.last i same;
}
  where
    hole : (i : ℕ) (t : Bool) → within first count i ≡ t → is_hole (blocks i) ≡ true → is_hole (put_range first count Hole blocks i) ≡ true
    hole i true test was = rw test refl
    hole i false test was = rw test was

    beside : (i : ℕ) → end ≡ suc i → (end ≤ first) ⊎ (first + count < end) → (i < first) ⊎ (first + count ≤ i)
    beside i same (inl before) = inl (omega (arith, same, before))
    beside i same (inr behind) = inr (omega (arith, same, behind))

-- where it ends in the range, it is the end of what is before it
module _ (has : Blocks) (map : Map) (blocks : ℕ → Block) (bound end first count : ℕ) (are : (i : ℕ) → i < bound → BlockIs has (map i) (blocks i)) (starts : first < end) (ends : end ≤ first + count) (is : IsEnd blocks bound end) where
  ends_before : (found : ℕ) → found ≤ first → ((i : ℕ) → found ≤ i → i < first → is_present (map i) ≡ false) → ((i : ℕ) → found ≡ suc i → is_present (map i) ≡ true) → IsEnd (put_range first count Hole blocks) bound found
  ends_before found before absent last = record {
    bounded = omega (arith, before, starts, is.bounded);
    holes = holes;
    last = λ i same.
        ap is_hole (put_range-outside first count Hole blocks i (inl (omega (arith, same, before))))
        ∙ hole_absent has (map i) (blocks i) (are i (omega (arith, same, before, starts, is.bounded))) (last i same);
  }
    where
      holes : (i : ℕ) → found ≤ i → i < bound → is_hole (put_range first count Hole blocks i) ≡ true
      holes i from under = elim (cases_lt i first) [
        | inl less ↦ ap is_hole (put_range-outside first count Hole blocks i (inl less)) ∙ present_hole has (map i) (blocks i) (are i under) (absent i from less)
        | inr more ↦ elim (cases_lt i (first + count)) [
          | inl less ↦ ap is_hole (put_range-inside first count Hole blocks i more less)
          | inr over ↦ ap is_hole (put_range-outside first count Hole blocks i (inr over)) ∙ is.holes i (omega (arith, ends, over)) under
        ]
      ]

  IsEnd-none : FindsLast map 0 first None → IsEnd (put_range first count Hole blocks) bound 0
  IsEnd-none empty = ends_before 0 (omega arith) (λ i from less. empty.absent i from less) (λ i same. absurd (omega (arith, same)))

  IsEnd-last : (last : ℕ) → FindsLast map 0 first (Some last) → IsEnd (put_range first count Hole blocks) bound (last + 1)
  IsEnd-last last found = ends_before (last + 1) (omega (arith, found.under)) (λ i from less. found.empty.absent i from less)
      (λ i same. let last_is : last ≡ i = omega (arith, same) in ap (λ n. is_present (map n)) (sym last_is) ∙ found.present)

-- a range of redacted blocks ends an object no earlier than the range
IsEnd-redacted : (blocks : ℕ → Block) (bound end first count : ℕ) → 0 < count → first + count ≤ bound → IsEnd blocks bound end → IsEnd (put_range first count Redacted blocks) bound (max end (first + count))
IsEnd-redacted blocks bound end first count some range is = record {
  bounded = omega (arith, is.bounded, range);
  holes = λ i from under. ap is_hole (put_range-outside first count Redacted blocks i (inr (omega (arith, from)))) ∙ is.holes i (omega (arith, from)) under;
  last = λ i same. elim (cases_lt i (first + count)) [
    | inl less ↦ ap is_hole (put_range-inside first count Redacted blocks i (omega (arith, same, some)) less)
    | inr over ↦ ap is_hole (put_range-outside first count Redacted blocks i (inr over)) ∙ is.last i (omega (arith, same, over))
  ];
}

-- and one of no indices leaves it
IsEnd-unchanged : (blocks : ℕ → Block) (bound end first count : ℕ) (block : Block) → count ≡ 0 → IsEnd blocks bound end → IsEnd (put_range first count block blocks) bound end
IsEnd-unchanged blocks bound end first count block none is = record {
  bounded = is.bounded;
  holes = λ i from under. ap is_hole (same i) ∙ is.holes i from under;
  last = λ i e. ap is_hole (same i) ∙ is.last i e;
}
  where
    same : (i : ℕ) → put_range first count block blocks i ≡ blocks i
    same i = elim (cases_lt i first) [
      | inl less ↦ put_range-outside first count block blocks i (inl less)
      | inr more ↦ put_range-outside first count block blocks i (inr (omega (arith, none, more)))
    ]

-- the same of an object
is_end : (object : Object) (end : ℕ) → end ≡ end_of object → IsEnd object.blocks index_bound end
is_end object end is = subst (λ (n : ℕ). IsEnd object.blocks index_bound n) (sym is) (IsEnd-past_last object.blocks index_bound)

end_is : (object : Object) (end : ℕ) → IsEnd object.blocks index_bound end → end ≡ end_of object
end_is object end is = IsEnd-one object.blocks index_bound end (end_of object) is (IsEnd-past_last object.blocks index_bound)

pub end_redacted : (object : Object) (end first count : ℕ) → 0 < count → first + count ≤ index_bound → end ≡ end_of object → max end (first + count) ≡ end_of (with_range first count Redacted object)
end_redacted object end first count some range is = end_is (with_range first count Redacted object) _ (IsEnd-redacted object.blocks index_bound end first count some range (is_end object end is))

pub end_unchanged : (object : Object) (end first count : ℕ) (block : Block) → count ≡ 0 → end ≡ end_of object → end ≡ end_of (with_range first count block object)
end_unchanged object end first count block none is = end_is (with_range first count block object) end (IsEnd-unchanged object.blocks index_bound end first count block none (is_end object end is))

module _ (has : Blocks) (dnode : Dnode) (object : Object) (date : ℕ) (dates : ℕ → ℕ) (map : Map) (first count : ℕ) (is : ObjectIs has dnode object date dates map) where
  pub end_kept : (dnode.end ≤ first) ⊎ (first + count < dnode.end) → dnode.end ≡ end_of (with_range first count Hole object)
  end_kept away = end_is (with_range first count Hole object) dnode.end (IsEnd-kept object.blocks index_bound dnode.end first count away (is_end object dnode.end is.end_is))

  pub end_none : first < dnode.end → dnode.end ≤ first + count → FindsLast map 0 first None → 0 ≡ end_of (with_range first count Hole object)
  end_none some ends empty = end_is (with_range first count Hole object) 0 (IsEnd-none has map object.blocks index_bound dnode.end first count is.blocks some ends (is_end object dnode.end is.end_is) empty)

  pub end_last : (last : ℕ) → first < dnode.end → dnode.end ≤ first + count → FindsLast map 0 first (Some last) → last + 1 ≡ end_of (with_range first count Hole object)
  end_last last some ends found = end_is (with_range first count Hole object) (last + 1) (IsEnd-last has map object.blocks index_bound dnode.end first count is.blocks some ends (is_end object dnode.end is.end_is) last found)

-- an end is at most the bound, and at most 1 where each index over 0 is a hole
pub end_bounded : (object : Object) → end_of object ≤ index_bound
end_bounded object = (IsEnd-past_last object.blocks index_bound).bounded

pub end_odd : (object : Object) → ((i : ℕ) → 0 < i → object.blocks i ≡ Hole) → end_of object ≤ 1
end_odd object holes = go (end_of object) (IsEnd-past_last object.blocks index_bound)
  where
    go : (end : ℕ) → IsEnd object.blocks index_bound end → end ≤ 1
    go zero is = omega arith
    go (suc last) is = elim (cases_lt 0 last) [
      | inl some ↦ absurd (true≢false (sym (ap is_hole (holes last some)) ∙ is.last last refl))
      | inr none ↦ omega (arith, none)
    ]
