-- Bookmarks in the order of their names stand in the order of their datasets too.
use Rattle.std.proofs.Common.{inl, inr, subst, ◌≡◌, ℕ, ◌<◌, true, List, [], ◌∷◌, ◌++◌, get_or, refl, sym, arith}
use Rattle.std.specs.declared.cmp.Ordering.{Ordering}
use Rattle.std.specs.declared.cmp.Ordering.TheVariants.{Less, Equal, Greater}
use Rattle.std.specs.Ordering.{nat_cmp, is_lt, ordering_then}
use Rattle.std.specs.Cmp.Lexicographic.{slice_cmp}
use Rattle.std.specs.List.{All, AllPairs, AllByRecursion}
use Rattle.std.proofs.lemmas.Bool.{true≢false, false_from_ne_true}
use Rattle.std.proofs.lemmas.Bool.Decides.{eqb_tells, nat_tests}
use Rattle.std.proofs.lemmas.List.Elements.{recursion_from_All}
use Rattle.zst_names.specs.Names.{is_component_byte, IsBookmark, IsComponent, IsDataset, component_of, dataset_of, parts}
use Rattle.zst_names.proofs.MarkedNames.{joined, plain_onto, plain_parts, IsPlain}
use Rattle.zst_model.specs.pools.Pool.{is_before}
use Rattle.zst_model.proofs.OrderLaws.{before_trans, not_before_itself}
use Rattle.zst_dir.specs.Rows.{IsBookmarkRow}
use Rattle.zst_dir.specs.declared.rows.Bookmark.{Bookmark}
use Rattle.zst_listing.proofs.RangeLaws.{InOrder}

-- a byte of a component comes behind the mark of a bookmark
above_mark : (byte : ℕ) → is_component_byte byte ≡ true → 35 < byte
unfolding is_component_byte
above_mark byte h = grind (arith, nat_tests)

-- and so does each byte of a dataset's name
abbrev pub AreAbove : List ℕ → Type 0
AreAbove text = AllByRecursion (λ byte. 35 < byte) text

plain_above : (text : List ℕ) → AllByRecursion IsPlain (parts text) → AreAbove text
plain_above [] h = tt
plain_above (byte ∷ text) h = elim (eqb_tells byte 47) [
  | inl e ↦ (omega (arith, e.1), plain_above text (rw e.0 at h).1)
  | inr e ↦
      let plain = plain_onto byte (parts text) (rw e.0 at h) in
      (above_mark byte plain.0, plain_above text plain.1)
]

pub dataset_above : (text : List ℕ) → IsDataset text → AreAbove text
dataset_above text h = plain_above text (plain_parts (parts text) (recursion_from_All IsComponent (parts text) h.components))

first_less : (a b : ℕ) → a < b → nat_cmp a b ≡ Less
first_less a b h = grind (arith, nat_tests)

-- with a dataset's name in front the mark and more, a name that stands before another does so still
pub before_marked : (name other component last : List ℕ) → AreAbove other → is_before name other ≡ true → is_before (name ++ 35 ∷ component) (other ++ 35 ∷ last) ≡ true
before_marked [] [] component last above h = absurd (true≢false (sym h))
before_marked [] (byte ∷ other) component last above h = rw (first_less 35 byte above.0) refl
before_marked (byte ∷ name) [] component last above h = absurd (true≢false (sym h))
before_marked (byte ∷ name) (first ∷ other) component last above h =
    go (nat_cmp byte first) refl h (before_marked name other component last above.1)
  where
    go : (o : Ordering) → nat_cmp byte first ≡ o → is_lt (ordering_then o (slice_cmp nat_cmp name other)) ≡ true
        → (is_before name other ≡ true → is_before (name ++ 35 ∷ component) (other ++ 35 ∷ last) ≡ true)
        → is_before ((byte ∷ name) ++ 35 ∷ component) ((first ∷ other) ++ 35 ∷ last) ≡ true
    go Less e h rest = rw e refl
    go Equal e h rest = rw e (rest h)
    go Greater e h rest = absurd (true≢false (sym h))

-- a bookmark's name is its parts, and the bytes of its dataset's name come behind the mark
whole : (name : List ℕ) → IsBookmark name → name ≡ dataset_of 35 name ++ 35 ∷ component_of 35 name
whole name h = joined 35 name h.1

pub before_by_dataset : (name other : List ℕ) → IsBookmark name → IsBookmark other → is_before (dataset_of 35 name) (dataset_of 35 other) ≡ true → is_before name other ≡ true
before_by_dataset name other is_name is_other h =
    let marked = before_marked (dataset_of 35 name) (dataset_of 35 other) (component_of 35 name) (component_of 35 other) (dataset_above (dataset_of 35 other) is_other.0) h in
    subst (λ n. is_before n other ≡ true) (sym (whole name is_name)) (subst (λ n. is_before (dataset_of 35 name ++ 35 ∷ component_of 35 name) n ≡ true) (sym (whole other is_other)) marked)

-- bookmarks by name stand in the order of their datasets
pub bookmarks-in_order : (rows : List Bookmark) → All IsBookmarkRow rows → AllPairs (λ a b. is_before a.name b.name ≡ true) rows → InOrder (λ row. dataset_of 35 row.name) rows
bookmarks-in_order rows are rises i j d below inside =
    let at : ℕ → List ℕ = λ k. (get_or rows k d).name in
    let first : IsBookmark (at i) = (are i d (omega (arith, below, inside))).name in
    let second : IsBookmark (at j) = (are j d inside).name in
    false_from_ne_true (is_before (dataset_of 35 (at j)) (dataset_of 35 (at i)))
    (λ back. not_before_itself (at i) (before_trans (at i) (at j) (at i) (rises i j d below inside) (before_by_dataset (at j) (at i) second first back)))
