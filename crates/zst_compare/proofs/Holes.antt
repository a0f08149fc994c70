-- Runs of holes in place of leaves, compared by their dates.
use Rattle.std.proofs.Common.{◌≡◌, ℕ, ◌+◌, ◌*◌, ◌/◌, ◌%◌, ◌<◌, ◌≤◌, true, sym, ◌∙◌, ap, subst, arith}
use Rattle.zst_block.specs.declared.ptr.Ptr.{Ptr}
use Rattle.zst_model.specs.states.State.{attr_at, content_at, is_number}
use Rattle.zst_model.specs.states.DatedState.{DatedState}
use Rattle.zst_tree.specs.Indices.{Blocks}
use Rattle.zst_tree.specs.Lookups.{Shows}
use Rattle.zst_tree.specs.declared.tree.ObjSet.{ObjSet}
use Rattle.zst_objset.specs.Dnodes.{IsAbsent}
use Rattle.zst_objset.specs.Sets.{LeafIs, SetHolds}
use Rattle.zst_objset.proofs.LeafLaws.{hole_of_leaf}
use Rattle.zst_objset.proofs.OneState.{small}
use Rattle.zst_compare.specs.Agreement.{AgreeBetween, AgreesAt, AreHoles, NumberOther}

-- a number of such a leaf is absent since the date of the hole
absent_at : (snap : DatedState) (index below k : ℕ) (ptr : Ptr) → AreHoles snap index below ptr → is_number k ≡ true → 16 * index ≤ k → k < 16 * below → IsAbsent snap k ptr.number
absent_at snap index below k ptr holes number start under =
    let split : 16 * (k / 16) + k % 16 ≡ k = omega arith in
    subst (λ (n : ℕ). IsAbsent snap n ptr.number) split
    ((holes (k / 16) (omega (arith, start)) (omega (arith, under)) (small k number)).absent (k % 16) (omega arith) (subst (λ (n : ℕ). is_number n ≡ true) (sym split) number))

-- an absent number is kept where its date is
pub absent_kept : (number : ℕ) (was now : DatedState) (k was_date now_date : ℕ) → was_date ≡ now_date → IsAbsent was k was_date → IsAbsent now k now_date → AgreesAt number was now k
absent_kept number was now k was_date now_date date first second = record {
  number_kept = λ dated. (ap attr_at (first.none ∙ sym second.none), first.date_is ∙ (date ∙ sym second.date_is));
  indices_kept = λ i small dated. (ap (λ found. content_at found i) (first.none ∙ sym second.none), first.dates i small ∙ (date ∙ sym (second.dates i small)));
}

-- one that is absent since another date isn't, where the later date isn't after the number
pub absent_other : (number : ℕ) (was now : DatedState) (k was_date now_date : ℕ) → now_date ≤ number → (was_date ≡ now_date → ⊥) → IsAbsent was k was_date → IsAbsent now k now_date → NumberOther number was now k
absent_other number was now k was_date now_date early other first second = record {
  dated = omega (arith, second.date_is, early);
  other = λ both. other (sym first.date_is ∙ (both.1 ∙ second.date_is));
}

-- an absent number that is dated after the number is kept
pub absent_late : (number : ℕ) (was now : DatedState) (k date : ℕ) → number < date → IsAbsent now k date → AgreesAt number was now k
absent_late number was now k date late absent = record {
  number_kept = λ dated. absurd (omega (arith, late, dated, absent.date_is));
  indices_kept = λ i small dated. absurd (omega (arith, late, dated, absent.dates i small));
}

pub holes_kept : (number index below : ℕ) (was now : DatedState) (later earlier : Ptr) → earlier.number ≡ later.number → AreHoles now index below later → AreHoles was index below earlier
    → AgreeBetween number was now (16 * index) (16 * below)
holes_kept number index below was now later earlier date first second = λ k is start under.
    absent_kept number was now k earlier.number later.number date (absent_at was index below k earlier second is start under) (absent_at now index below k later first is start under)

pub holes_late : (number index below : ℕ) (was now : DatedState) (later : Ptr) → number < later.number → AreHoles now index below later → AgreeBetween number was now (16 * index) (16 * below)
holes_late number index below was now later late first = λ k is start under.
    absent_late number was now k later.number late (absent_at now index below k later first is start under)

pub holes_other : (number index below k : ℕ) (was now : DatedState) (later earlier : Ptr) → later.number ≤ number → (earlier.number ≡ later.number → ⊥) → is_number k ≡ true → 16 * index ≤ k → k < 16 * below
    → AreHoles now index below later → AreHoles was index below earlier → NumberOther number was now k
holes_other number index below k was now later earlier early other is start under first second =
    absent_other number was now k earlier.number later.number early other (absent_at was index below k earlier second is start under) (absent_at now index below k later first is start under)

-- what a run of holes in a set shows
pub holes_shown : (has : Blocks) (set : ObjSet) (state : DatedState) (holds : SetHolds has set state) (index count below : ℕ) (ptr : Ptr) → ptr.kind ≡ 0 → below ≤ index + count
    → Shows holds.map index (ptr, count) → AreHoles state index below ptr
holes_shown has set state holds index count below ptr hole within shows = λ j start under small.
    hole_of_leaf has state j ptr (subst (LeafIs has state j) (shows.same j start (omega (arith, under, within)) small) (holds.leaves j small)) hole
