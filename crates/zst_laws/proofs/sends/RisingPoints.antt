-- The items of a send from a point never lead back.
use Rattle.std.proofs.Common.{append-nil, inl, inr, ◌⊎◌, subst, ◌≡◌, ℕ, zero, suc, pred, ◌+◌, ◌*◌, ◌<◌, ◌≤◌, Bool, true, false, List, [], ◌∷◌, ◌++◌, length, flat_map, map, Option, Some, None, refl, sym, ap, ◌∙◌, arith, ◌==◌, nat_lt, nat_le, if◌then◌else◌, eq-eqb, ne_eqb, All}
use Rattle.std.proofs.lemmas.Bool.{cases_lt, cases_eq, cases_order, cond-true, cond-false, lt-ltb, le-ltb, leb-true, and_from}
use Rattle.std.proofs.lemmas.List.Elements.{All-nil, All-cons, All-head, All-tail, All-append}
use Rattle.zst_model.specs.states.State.{Block, Hole, Redacted, Data, number_bound, is_number}
use Rattle.zst_model.specs.declared.states.attr.Attr.{Attr}
use Rattle.zst_model.specs.declared.sends.header.Point.{Point}
use Rattle.zst_model.specs.declared.states.item.Change.{Change}
use Rattle.zst_model.specs.declared.states.item.Change.TheVariants.{Spill}
use Rattle.zst_model.specs.declared.states.item.Item.{Item}
use Rattle.zst_model.specs.declared.states.item.Item.TheVariants.{FreeObjects, At}
use Rattle.zst_model.specs.sends.View.{View, ObjectView, Shown, Left, Gone, There}
use Rattle.zst_model.specs.sends.Items.{opening, put_change, spill_change, tail_change, block_change, block_changes, change_at, items_at, number_items, rising, single_items}
use Rattle.zst_model.specs.sends.Points.{point_after, point_of}
use Rattle.zst_model.proofs.EmptyLists.{nothing_left}
use Rattle.zst_laws.specs.ResumedSends.{IsAtOrAfter, PointsRise}
use Rattle.zst_laws.proofs.sends.Numbers.{offset_at}
use Rattle.zst_laws.proofs.sends.CutBlocks.{map_part, none_or_all, part, parted_in, parted_past, point_of-append}
use Rattle.zst_laws.proofs.sends.CutSends.{all_numbers, front_of, next_uncut}

module _ (point : Point) (a : ℕ) where
  -- from here the changes of a number go on: at or after the point, and at that number where the point is
  record IsAheadOf (q : Point) : Type 0 where
    after : IsAtOrAfter point q
    own : a ≡ point.object → q.object ≡ a

  -- a change of the number leads on
  abbrev LeadsOn : Change → Type 0
  LeadsOn change = (q : Point) → IsAheadOf q → IsAheadOf (point_after q (At a change))

  changes_lead : (first more : List Change) (q : Point) → All LeadsOn (first ++ more) → IsAheadOf q → IsAheadOf (point_of q (map (At a) first))
  changes_lead [] more q all h = h
  changes_lead (change ∷ first) more q all h =
      changes_lead first more (point_after q (At a change)) (All-tail LeadsOn change (first ++ more) all) (All-head LeadsOn change (first ++ more) all q h)

  module _ (l : point.object ≤ a) where
    put_leads : (shown : ObjectView) → LeadsOn (put_change shown)
    put_leads shown q h = go (cases_eq a q.object)
      where
        later : (a ≡ q.object → ⊥) → (a ≡ point.object) ⊎ ((a < point.object) ⊎ (point.object < a)) → point.object < a
        later d (inl e) = absurd (d (sym (h.own e)))
        later d (inr (inl m)) = absurd (omega arith)
        later d (inr (inr m)) = m

        go : (a ≡ q.object) ⊎ (a ≡ q.object → ⊥) → IsAheadOf (if a == q.object then q else record { object = a; offset = 0 })
        go (inl e) = subst IsAheadOf (sym (cond-true (a == q.object) _ _ (eq-eqb a q.object e))) h
        go (inr d) = subst IsAheadOf (sym (cond-false (a == q.object) _ _ (ne_eqb a q.object d))) (record {
          after = inl (later d (cases_order a point.object));
          own = λ e. absurd (d (sym (h.own e)));
        })

    spill_leads : (spill : Option (List ℕ)) → All LeadsOn (spill_change spill)
    spill_leads None = All-nil LeadsOn
    spill_leads (Some bytes) = All-cons LeadsOn (Spill bytes) [] (λ q h. h) (All-nil LeadsOn)

    tail_leads : (shown : ObjectView) → LeadsOn (tail_change shown)
    tail_leads shown q h = h

    opening_leads : (shown : ObjectView) → All LeadsOn (opening shown)
    opening_leads shown =
        All-cons LeadsOn (put_change shown) _ (put_leads shown)
        (All-append LeadsOn (spill_change shown.attr.spill) _ (spill_leads shown.attr.spill) (All-cons LeadsOn (tail_change shown) [] (tail_leads shown) (All-nil LeadsOn)))

    -- past an offset that is at or after the number's own
    past : (offset length : ℕ) → offset_at point a ≤ offset → IsAheadOf (record { object = a; offset = offset + length })
    past offset length far = record { after = go (cases_order a point.object); own = λ e. refl }
      where
        go : (a ≡ point.object) ⊎ ((a < point.object) ⊎ (point.object < a)) → IsAtOrAfter point (record { object = a; offset = offset + length })
        go (inl e) =
            let own : offset_at point a ≡ point.offset = cond-true (a == point.object) point.offset 0 (eq-eqb a point.object e) in
            inr (sym e, omega (arith, own))
        go (inr (inl m)) = absurd (omega arith)
        go (inr (inr m)) = inl m

    block_leads : (attr : Attr) (i : ℕ) (block : Option Block) → offset_at point a ≤ i * attr.block_size → All LeadsOn (block_change attr i block)
    block_leads attr i None far = All-nil LeadsOn
    block_leads attr i (Some Hole) far = All-cons LeadsOn _ [] (λ q h. past (i * attr.block_size) attr.block_size far) (All-nil LeadsOn)
    block_leads attr i (Some Redacted) far = All-cons LeadsOn _ [] (λ q h. past (i * attr.block_size) attr.block_size far) (All-nil LeadsOn)
    block_leads attr i (Some (Data bytes)) far = All-cons LeadsOn _ [] (λ q h. past (i * attr.block_size) (length bytes) far) (All-nil LeadsOn)

    index_leads : (shown : ObjectView) (i : ℕ) → All LeadsOn (change_at shown (offset_at point a) i)
    index_leads shown i = go (nat_le (offset_at point a) (i * shown.attr.block_size)) refl
      where
        go : (t : Bool) → nat_le (offset_at point a) (i * shown.attr.block_size) ≡ t → All LeadsOn (if t then block_change shown.attr i (shown.blocks i) else [])
        go true e = block_leads shown.attr i (shown.blocks i) (leb-true _ _ e)
        go false e = All-nil LeadsOn

    blocks_lead : (shown : ObjectView) (n i : ℕ) → All LeadsOn (flat_map (change_at shown (offset_at point a)) (rising i n))
    unfolding rising
    blocks_lead shown zero i = All-nil LeadsOn
    blocks_lead shown (suc n) i = All-append LeadsOn (change_at shown (offset_at point a) i) _ (index_leads shown i) (blocks_lead shown n (suc i))

    object_leads : (shown : ObjectView) → All LeadsOn (opening shown ++ block_changes shown (offset_at point a))
    object_leads shown = All-append LeadsOn (opening shown) _ (opening_leads shown) (blocks_lead shown shown.end 0)

    gone_leads : (items rest : List Item) (q : Point) → is_number a ≡ true → items ++ rest ≡ FreeObjects a 1 ∷ [] → IsAtOrAfter point q → IsAtOrAfter point (point_of q items)
    gone_leads items rest q n e h = go (none_or_all items rest (FreeObjects a 1 ∷ []) (omega arith) e)
      where
        go : (items ≡ []) ⊎ (items ≡ FreeObjects a 1 ∷ []) → IsAtOrAfter point (point_of q items)
        go (inl s) = subst (λ is. IsAtOrAfter point (point_of q is)) (sym s) h
        go (inr s) = subst (λ is. IsAtOrAfter point (point_of q is)) (sym s) (inl (omega (arith, next_uncut a n)))

    there_leads : (shown : ObjectView) (items rest : List Item) (q : Point) → items ++ rest ≡ map (At a) (opening shown ++ block_changes shown (offset_at point a)) → IsAheadOf q → IsAtOrAfter point (point_of q items)
    there_leads shown items rest q e h =
        let parts = map_part (At a) items rest (opening shown ++ block_changes shown (offset_at point a)) e in
        let all : All LeadsOn (parts.0 ++ parts.1) = subst (All LeadsOn) (sym parts.3) (object_leads shown) in
        subst (λ is. IsAtOrAfter point (point_of q is)) (sym parts.2) (changes_lead parts.0 parts.1 q all h).after

module _ (view : View) (point : Point) where
  -- below the point's number nothing has moved it, and it never goes back
  record Risen (a : ℕ) (q : Point) : Type 0 where
    after : IsAtOrAfter point q
    waits : a ≤ point.object → q ≡ point

  one_rises : (a : ℕ) (items rest : List Item) (q : Point) → is_number a ≡ true → items ++ rest ≡ items_at view point a → Risen a q → IsAtOrAfter point (point_of q items)
  one_rises a items rest q n e h = go (cases_lt a point.object)
    where
      nothing : items ++ rest ≡ [] → IsAtOrAfter point (point_of q items)
      nothing f = subst (λ is. IsAtOrAfter point (point_of q is)) (sym (nothing_left items rest f)) h.after

      ahead : IsAheadOf point a q
      ahead = record { after = h.after; own = λ e. ap (λ r. r.object) (h.waits (omega arith)) ∙ sym e }

      seen : (shown : Shown) → point.object ≤ a → items ++ rest ≡ number_items a (offset_at point a) shown → IsAtOrAfter point (point_of q items)
      seen Left l f = nothing f
      seen Gone l f = gone_leads point a l items rest q n f h.after
      seen (There shown) l f = there_leads point a l shown items rest q f ahead

      go : (a < point.object) ⊎ (point.object ≤ a) → IsAtOrAfter point (point_of q items)
      go (inl l) = nothing (e ∙ cond-true (nat_lt a point.object) _ _ (lt-ltb _ _ l))
      go (inr l) = seen (view.shown a) l (e ∙ cond-false (nat_lt a point.object) _ _ (le-ltb _ _ l))

  next_rises : (a : ℕ) (q : Point) → is_number a ≡ true → Risen a q → Risen (suc a) (point_of q (items_at view point a))
  next_rises a q n h = record {
    after = one_rises a (items_at view point a) [] q n (append-nil (items_at view point a)) h;
    waits = λ l. ap (point_of q) (cond-true (nat_lt a point.object) _ _ (lt-ltb _ _ l)) ∙ h.waits (omega arith);
  }

  numbers_rise : (n a : ℕ) (items rest : List Item) (q : Point) → 0 < a → a + n ≡ number_bound → items ++ rest ≡ flat_map (items_at view point) (rising a n) → Risen a q → IsAtOrAfter point (point_of q items)
  unfolding rising
  numbers_rise zero a items rest q pos n e h = subst (λ is. IsAtOrAfter point (point_of q is)) (sym (nothing_left items rest e)) h.after
  numbers_rise (suc m) a items rest q pos n e h =
      go (part items rest (items_at view point a) (flat_map (items_at view point) (rising (suc a) m)) e)
      (λ more later. numbers_rise m (suc a) more rest (point_of q (items_at view point a)) (omega arith) (omega arith) later (next_rises a q is h))
    where
      is : is_number a ≡ true
      is = let l : a < number_bound = omega arith in and_from (nat_lt 0 a) (nat_lt a number_bound) (lt-ltb _ _ pos) (lt-ltb _ _ l)

      go : parted_in items (items_at view point a) ⊎ parted_past items rest (items_at view point a) (flat_map (items_at view point) (rising (suc a) m))
          → ((more : List Item) → more ++ rest ≡ flat_map (items_at view point) (rising (suc a) m) → IsAtOrAfter point (point_of (point_of q (items_at view point a)) more))
          → IsAtOrAfter point (point_of q items)
      go (inl (more, s)) deeper = one_rises a items more q is s h
      go (inr (more, s, t)) deeper = subst (IsAtOrAfter point) (sym (ap (point_of q) s ∙ point_of-append (items_at view point a) more q)) (deeper more t)

  singles_rise : (items rest : List Item) → items ++ rest ≡ single_items view point → IsAtOrAfter point (point_of point items)
  unfolding single_items
  singles_rise items rest e = numbers_rise (pred number_bound) 1 items rest point (omega arith) all_numbers e (record { after = inr (refl, omega arith); waits = λ l. refl })

pub points_rise : PointsRise
points_rise view point done rest v e =
    let front = front_of (single_items view point) done rest e in
    subst (IsAtOrAfter point) (sym (front.points point)) (singles_rise view point front.first front.later front.splits)
