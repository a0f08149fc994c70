-- What a run of equal pointers shows of the contents of two objects.
use Rattle.std.proofs.Common.{◌≡◌, ℕ, ◌+◌, ◌^◌, ◌<◌, ◌≤◌, sym, ◌∙◌, ap, subst, arith}
use Rattle.zst_block.specs.declared.ptr.Ptr.{Ptr}
use Rattle.zst_model.specs.states.State.{Content, index_bound}
use Rattle.zst_tree.specs.Indices.{Blocks}
use Rattle.zst_tree.specs.Lookups.{Shows}
use Rattle.zst_compare.specs.Agreement.{IsOther}
use Rattle.zst_compare.specs.Contents.{AreKept, ContentIs, HasContents}
use Rattle.zst_compare.specs.declared.trees.Indices.{Indices}

small_tree : (i : ℕ) → i < index_bound → i < 2 ^ 44
unfolding index_bound
small_tree i less = omega (arith, less)

-- the content of the first index of a run is that of its pointer
pub content_in : (has : Blocks) (indices : Indices) (contents : ℕ → Content) (dates : ℕ → ℕ) (is : HasContents has indices contents dates) (p : Ptr) (count index : ℕ)
    → index < index_bound → Shows is.map index (p, count) → ContentIs has indices.size p (contents index)
content_in has indices contents dates is p count index small shows =
    subst (λ (r : Ptr). ContentIs has indices.size r (contents index)) (shows.same index (omega arith) (omega (arith, shows.some)) (small_tree index small)) (is.contents_are index small)

module _ (has : Blocks) (number : ℕ) (later earlier : Indices) (now was : ℕ → Content) (now_dates was_dates : ℕ → ℕ)
    (first : HasContents has later now now_dates) (second : HasContents has earlier was was_dates) where
  -- the date of an index in a run is that of its pointer
  date_in : (p : Ptr) (count index i : ℕ) → Shows first.map index (p, count) → index ≤ i → i < index + count → i < index_bound → now_dates i ≡ p.number
  date_in p count index i shows start under small = sym (first.dates_are i small) ∙ ap (λ (q : Ptr). q.number) (shows.same i start under (small_tree i small))

  -- a run that is dated after the number is kept
  pub late_kept : (p : Ptr) (count index : ℕ) → number < p.number → Shows first.map index (p, count) → AreKept number was was_dates now now_dates index (index + count)
  late_kept p count index late shows = λ i start under small dated.
      let is = date_in p count index i shows start under small in absurd (omega (arith, late, is, dated))

  -- a run of two pointers of one date and one content is
  pub run_kept : (p q : Ptr) (count run index below : ℕ) → below ≤ index + count → below ≤ index + run → q.number ≡ p.number
      → ((a b : Content) → ContentIs has later.size p a → ContentIs has earlier.size q b → b ≡ a)
      → Shows first.map index (p, count) → Shows second.map index (q, run) → AreKept number was was_dates now now_dates index below
  run_kept p q count run index below short brief date same shows others = λ i start under small dated.
      let one = shows.same i start (omega (arith, under, short)) (small_tree i small) in
      let other = others.same i start (omega (arith, under, brief)) (small_tree i small) in
      let content = subst (λ (r : Ptr). ContentIs has later.size r (now i)) one (first.contents_are i small) in
      let old = subst (λ (r : Ptr). ContentIs has earlier.size r (was i)) other (second.contents_are i small) in
      let was_date : was_dates i ≡ q.number = sym (second.dates_are i small) ∙ ap (λ (r : Ptr). r.number) other in
      (same (now i) (was i) content old, was_date ∙ (date ∙ sym (date_in p count index i shows start (omega (arith, under, short)) small)))

  -- where the dates or the contents are others, the first index isn't
  pub run_other : (p q : Ptr) (count run index : ℕ) → index < index_bound → p.number ≤ number
      → ((a b : Content) → ContentIs has later.size p a → ContentIs has earlier.size q b → b ≡ a → q.number ≡ p.number → ⊥)
      → Shows first.map index (p, count) → Shows second.map index (q, run) → IsOther number (was index) (was_dates index) (now index) (now_dates index)
  run_other p q count run index small early other shows others =
      let one = shows.same index (omega arith) (omega (arith, shows.some)) (small_tree index small) in
      let two = others.same index (omega arith) (omega (arith, others.some)) (small_tree index small) in
      let content = subst (λ (r : Ptr). ContentIs has later.size r (now index)) one (first.contents_are index small) in
      let old = subst (λ (r : Ptr). ContentIs has earlier.size r (was index)) two (second.contents_are index small) in
      let now_date : now_dates index ≡ p.number = sym (first.dates_are index small) ∙ ap (λ (r : Ptr). r.number) one in
      let was_date : was_dates index ≡ q.number = sym (second.dates_are index small) ∙ ap (λ (r : Ptr). r.number) two in
      record { dated = omega (arith, now_date, early); other = λ both. other (now index) (was index) content old both.0 (sym was_date ∙ (both.1 ∙ now_date)) }
