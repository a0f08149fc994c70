-- What the indices of a slot's number have, and when two contents are the same.
use Rattle.std.proofs.Common.{◌≡◌, ◌≢◌, ⊎_elim, ℕ, ◌<◌, ◌≤◌, List, length, refl, sym, ◌∙◌, ap, subst, arith}
use Rattle.std.proofs.lemmas.Bool.{cases_lt}
use Rattle.zst_block.specs.Ptr.{hole_of}
use Rattle.zst_block.specs.declared.ptr.Ptr.{Ptr}
use Rattle.zst_dnode.specs.declared.dnode.Dnode.{Dnode}
use Rattle.zst_dnode.specs.declared.slot.Slot.TheVariants.{Absent}
use Rattle.zst_model.specs.states.State.{Block, Hole, Redacted, Data, BlockFits, Content, Empty, BytesOf, RedactedOf, IsObject, IsObjectOrNone, IsState, block_content, content_at, index_bound}
use Rattle.zst_model.specs.states.DatedState.{DatedState}
use Rattle.zst_objset.specs.Dnodes.{BlockIs, IsAbsent, IsThere}
use Rattle.zst_tree.specs.Indices.{Blocks, Subtree}
use Rattle.zst_compare.specs.Contents.{Alike, AreKept, ContentIs, HasContents, indices_at, indices_in}
use Rattle.zst_compare.specs.declared.trees.Indices.{Indices}

content_is : (has : Blocks) (size : ℕ) (ptr : Ptr) (block : Block) → BlockIs has ptr block → BlockFits size block → ContentIs has size ptr (block_content size block)
content_is has size ptr Hole is fits = is
content_is has size ptr Redacted is fits = (is, refl)
content_is has size ptr (Data bytes) is fits = (is.0, is.1, fits.0)

-- the indices of an object have its contents
pub contents_there : (has : Blocks) (snap : DatedState) (k : ℕ) (dnode : Dnode) → IsState snap.state → IsThere has snap k dnode → HasContents has (indices_in dnode) (content_at (snap.state k)) (snap.index_date k)
contents_there has snap k dnode lawful there =
    let object : IsObject there.object = subst IsObjectOrNone there.there (lawful.objects k) in
    record {
      map = there.map;
      tree = there.is.tree;
      contents_are = λ i less. rw (there.there, there.is.size_is) (content_is has there.object.attr.block_size (there.map i) (there.object.blocks i) (there.is.blocks i less) (object.fits i));
      dates_are = there.is.index_dates;
    }

hole_zero : (has : Blocks) (date : ℕ) → Subtree has 0 (hole_of date) 0 (λ i. hole_of date)
unfolding Subtree
hole_zero has date = (refl, refl)

-- those of an absent number are holes of its date
pub contents_absent : (has : Blocks) (snap : DatedState) (k date : ℕ) → IsAbsent snap k date → HasContents has (indices_at (Absent date)) (content_at (snap.state k)) (snap.index_date k)
contents_absent has snap k date absent = record {
  map = λ i. hole_of date;
  tree = record {
    whole = λ i. hole_of date;
    stands = record { below = hole_zero has date; past = λ index over. refl };
    agrees = λ index small. refl;
  };
  contents_are = λ i less. rw absent.none refl;
  dates_are = λ i less. sym (absent.dates i less);
}

-- the kind of the pointers that stand for a content
abbrev kind_of : Content → ℕ
kind_of Empty = 0
kind_of (BytesOf bytes) = 1
kind_of (RedactedOf size) = 2

kind_is : (has : Blocks) (size : ℕ) (ptr : Ptr) (content : Content) → ContentIs has size ptr content → ptr.kind ≡ kind_of content
kind_is has size ptr Empty is = is
kind_is has size ptr (BytesOf bytes) is = is.0
kind_is has size ptr (RedactedOf bytes) is = is.0

module _ (has : Blocks) (now_size was_size : ℕ) (later earlier : Ptr) where
  -- pointers of two kinds stand for two contents
  pub other_kind : (now was : Content) → later.kind ≢ earlier.kind → ContentIs has now_size later now → ContentIs has was_size earlier was → was ≡ now → ⊥
  other_kind now was other first second same =
      other (kind_is has now_size later now first ∙ (sym (ap kind_of same) ∙ sym (kind_is has was_size earlier was second)))

  -- holes stand for one
  pub both_holes : (now was : Content) → later.kind ≡ 0 → earlier.kind ≡ 0 → ContentIs has now_size later now → ContentIs has was_size earlier was → was ≡ now
  both_holes Empty Empty hole other first second = refl
  both_holes Empty (BytesOf was) hole other first second = absurd (omega (arith, other, second.0))
  both_holes Empty (RedactedOf was) hole other first second = absurd (omega (arith, other, second.0))
  both_holes (BytesOf now) was hole other first second = absurd (omega (arith, hole, first.0))
  both_holes (RedactedOf now) was hole other first second = absurd (omega (arith, hole, first.0))

  -- what isn't a hole is another content in an object with blocks of another size
  pub other_size : (now was : Content) → now_size ≢ was_size → (later.kind ≡ 0 → ⊥) → ContentIs has now_size later now → ContentIs has was_size earlier was → was ≡ now → ⊥
  other_size Empty was other some first second same = some first
  other_size (BytesOf now) Empty other some first second same = absurd (cc)
  other_size (BytesOf now) (BytesOf was) other some first second same = other (sym first.2 ∙ (ap length_of (sym same) ∙ second.2))
    where
      length_of : Content → ℕ
      length_of Empty = 0
      length_of (BytesOf bytes) = length bytes
      length_of (RedactedOf bytes) = bytes
  other_size (BytesOf now) (RedactedOf was) other some first second same = absurd (cc)
  other_size (RedactedOf now) Empty other some first second same = absurd (cc)
  other_size (RedactedOf now) (BytesOf was) other some first second same = absurd (cc)
  other_size (RedactedOf now) (RedactedOf was) other some first second same = other (sym first.1 ∙ (size_is (sym same) ∙ second.1))
    where
      size_of : Content → ℕ
      size_of Empty = 0
      size_of (BytesOf bytes) = 0
      size_of (RedactedOf bytes) = bytes

      size_is : RedactedOf now ≡ RedactedOf was → now ≡ was
      size_is same = ap size_of same

  -- redacted blocks of one size have one content
  pub both_redacted : (now was : Content) → now_size ≡ was_size → later.kind ≡ 2 → earlier.kind ≡ 2 → ContentIs has now_size later now → ContentIs has was_size earlier was → was ≡ now
  both_redacted (RedactedOf now) (RedactedOf was) same kind other first second = ap RedactedOf (second.1 ∙ (sym same ∙ sym first.1))
  both_redacted (RedactedOf now) Empty same kind other first second = absurd (omega (arith, other, second))
  both_redacted (RedactedOf now) (BytesOf was) same kind other first second = absurd (omega (arith, other, second.0))
  both_redacted Empty was same kind other first second = absurd (omega (arith, kind, first))
  both_redacted (BytesOf now) was same kind other first second = absurd (omega (arith, kind, first.0))

-- what two maps share is kept
pub alike_kept : (has : Blocks) (number : ℕ) (later earlier : Indices) (now was : ℕ → Content) (now_dates was_dates : ℕ → ℕ) (first : HasContents has later now now_dates) (second : HasContents has earlier was was_dates) (from below i : ℕ)
    → Alike first.map second.map from below → from ≤ i → i < below → i < index_bound → was_dates i ≡ now_dates i
unfolding index_bound
alike_kept has number later earlier now was now_dates was_dates first second from below i alike start under small =
    sym (second.dates_are i small) ∙ (ap (λ (p : Ptr). p.number) (sym (alike.same i start under (omega (arith, small)))) ∙ first.dates_are i small)

-- one range that is kept, and that behind it
pub kept_then : (number : ℕ) (was : ℕ → Content) (was_dates : ℕ → ℕ) (now : ℕ → Content) (now_dates : ℕ → ℕ) (from mid below : ℕ)
    → AreKept number was was_dates now now_dates from mid → AreKept number was was_dates now now_dates mid below → AreKept number was was_dates now now_dates from below
kept_then number was was_dates now now_dates from mid below first second = λ i start under small.
    ⊎_elim (λ (before : i < mid). first i start before small) (λ (behind : mid ≤ i). second i behind under small) (cases_lt i mid)

-- a pointer stands for one content of an object with blocks of one size
content_one : (has : Blocks) → ((ptr : Ptr) (a b : List ℕ) → has ptr a → has ptr b → a ≡ b) → (size : ℕ) (ptr : Ptr) (now was : Content) → ContentIs has size ptr now → ContentIs has size ptr was → was ≡ now
content_one has one size ptr Empty Empty first second = refl
content_one has one size ptr Empty (BytesOf was) first second = absurd (omega (arith, first, second.0))
content_one has one size ptr Empty (RedactedOf was) first second = absurd (omega (arith, first, second.0))
content_one has one size ptr (BytesOf now) Empty first second = absurd (omega (arith, first.0, second))
content_one has one size ptr (BytesOf now) (BytesOf was) first second = ap BytesOf (one ptr was now second.1 first.1)
content_one has one size ptr (BytesOf now) (RedactedOf was) first second = absurd (omega (arith, first.0, second.0))
content_one has one size ptr (RedactedOf now) Empty first second = absurd (omega (arith, first.0, second))
content_one has one size ptr (RedactedOf now) (BytesOf was) first second = absurd (omega (arith, first.0, second.0))
content_one has one size ptr (RedactedOf now) (RedactedOf was) first second = ap RedactedOf (second.1 ∙ sym first.1)

-- what two objects with blocks of one size share is kept
pub shared_kept : (has : Blocks) → ((ptr : Ptr) (a b : List ℕ) → has ptr a → has ptr b → a ≡ b) → (number : ℕ) (later earlier : Indices) (now was : ℕ → Content) (now_dates was_dates : ℕ → ℕ)
    (first : HasContents has later now now_dates) (second : HasContents has earlier was was_dates) (from below : ℕ) → later.size ≡ earlier.size → Alike first.map second.map from below → AreKept number was was_dates now now_dates from below
unfolding index_bound
shared_kept has one number later earlier now was now_dates was_dates first second from below size alike = λ i start under small dated.
    let same : first.map i ≡ second.map i = alike.same i start under (omega (arith, small)) in
    let sized = subst (λ (n : ℕ). ContentIs has n (second.map i) (was i)) (sym size) (second.contents_are i small) in (
      content_one has one later.size (first.map i) (now i) (was i) (first.contents_are i small) (subst (λ (p : Ptr). ContentIs has later.size p (was i)) (sym same) sized),
      alike_kept has number later earlier now was now_dates was_dates first second from below i alike start under small,
    )
