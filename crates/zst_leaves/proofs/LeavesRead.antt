-- What a read of leaves shows.
use Rattle.std.specs.Prelude.{All, Err}
use Rattle.std.proofs.Common.{◌≡◌, inl, inr, ℕ, zero, suc, ◌-◌, ◌*◌, ◌<◌, ◌≤◌, List, [], ◌∷◌, ◌++◌, length, take, drop, refl, sym, ◌∙◌, ap, subst, arith, length-append, take-append-drop}
use Rattle.std.proofs.lemmas.List.{drop_at, length-take-le, take_all, take_at}
use Rattle.std.proofs.lemmas.List.Elements.{All-head, All-replicate, All-tail}
use Rattle.zst_bytes.specs.Fields.{zeros}
use Rattle.zst_bytes.proofs.FieldsLaws.{length-zeros}
use Rattle.zst_space.specs.FreeSectors.{FreeSectors}
use Rattle.zst_block.specs.Blocks.{IsBlock, Has}
use Rattle.zst_block.specs.ReadAnswers.{GivesBlock}
use Rattle.zst_block.specs.declared.fault.BlockFault.{BlockFault}
use Rattle.zst_block.specs.declared.fault.BlockFault.TheVariants.{Full, Damaged, DiskFault}
use Rattle.zst_block.specs.declared.ptr.Ptr.{Ptr}
use Rattle.zst_tree.specs.Indices.{Blocks, IsNoDamage, child}
use Rattle.zst_leaves.specs.Leaves.{Appends, HasLeaves, IsLeaf, LeavesBelow, bytes_below, part}
use Rattle.zst_leaves.proofs.LeavesLaws.{LeavesBelow-grows, leaf_below, none_of}
use Rattle.zst_leaves.proofs.TextParts.{length-part, parts_same}
use Rattle.zst_tree.proofs.Span.{span-suc}

-- a block that is there isn't damaged
pub block_fault : (bytes read : List ℕ) (fault : BlockFault) → GivesBlock bytes read (Err fault) → IsNoDamage fault
block_fault bytes read (Full need largest) given = tt
block_fault bytes read (Damaged sector stated found) given = given
block_fault bytes read DiskFault given = tt

-- a leaf is a block of 8,192 bytes
pub leaf_long : (text : List ℕ) → length text ≤ 8192 → length (text ++ zeros (8192 - length text)) ≡ 8192
leaf_long text room = omega (arith, length-append text (zeros (8192 - length text)), length-zeros (8192 - length text))

all_zeros : (count : ℕ) → All (λ byte. byte ≡ 0) (zeros count)
unfolding zeros
all_zeros count = All-replicate (λ byte. byte ≡ 0) count 0 refl

-- a leaf has zeros behind its text
pub behind_leaf : (text node rest : List ℕ) (count : ℕ) → length text ≡ count → node ≡ text ++ zeros (8192 - length text) → rest ≡ drop count node → All (λ byte. byte ≡ 0) rest
behind_leaf text node rest count long is last =
    let behind : rest ≡ zeros (8192 - length text) = last ∙ ap (drop count) is ∙ drop_at text (zeros (8192 - length text)) count long in
    subst (λ (l : List ℕ). All (λ byte. byte ≡ 0) l) (sym behind) (all_zeros (8192 - length text))

zeros_all : (bytes : List ℕ) → All (λ byte. byte ≡ 0) bytes → bytes ≡ zeros (length bytes)
unfolding zeros
zeros_all [] all = refl
zeros_all (byte ∷ bytes) all = ap (λ (b : ℕ). b ∷ bytes) (All-head (λ b. b ≡ 0) byte bytes all) ∙ ap (λ (l : List ℕ). 0 ∷ l) (zeros_all bytes (All-tail (λ b. b ≡ 0) byte bytes all))

-- the front of a block with zeros behind it is the text of a leaf
pub leaf_read : (has : Blocks) (ptr : Ptr) (count : ℕ) (node front rest old new : List ℕ) → length node ≡ 8192 → 0 < count → count ≤ 8192 → has ptr node → ptr.kind ≡ 1 → ptr.level ≡ 0
    → front ≡ take count node → rest ≡ drop count node → All (λ byte. byte ≡ 0) rest → new ≡ old ++ front → Appends has 0 ptr count old new
leaf_read has ptr count node front rest old new wide some room block kind level front_is rest_is all new_is =
    let long : length front ≡ count = ap length front_is ∙ length-take-le count node (omega arith) in
    let parted : node ≡ front ++ rest = sym (take-append-drop count node) ∙ ap (λ (l : List ℕ). l ++ drop count node) (sym front_is) ∙ ap (λ (l : List ℕ). front ++ l) (sym rest_is) in
    let fill : length rest ≡ 8192 - length front = omega (arith, ap length parted, length-append front rest) in
    let filled : node ≡ front ++ zeros (8192 - length front) = parted ∙ ap (λ (l : List ℕ). front ++ l) (zeros_all rest all ∙ ap zeros fill) in
    record {
      text = front;
      long_is = long;
      new_is = new_is;
      below = leaf_below has 0 ptr front refl (omega arith)
          (record { there = subst (λ (bytes : List ℕ). has ptr bytes) filled block; kind_is = kind; level_is = level });
    }

-- a pointer names one block
one_block : (image : List ℕ) (ptr : Ptr) (one other : List ℕ) → IsBlock image ptr one → IsBlock image ptr other → one ≡ other
one_block image ptr one other first second = sym first.bytes_are ∙ second.bytes_are

one_leaf : (image : List ℕ) (ptr : Ptr) (one other : List ℕ) → length one ≡ length other → IsLeaf (IsBlock image) ptr one → IsLeaf (IsBlock image) ptr other → one ≡ other
one_leaf image ptr one other long first second =
    let same = one_block image ptr (one ++ zeros (8192 - length one)) (other ++ zeros (8192 - length other)) first.there second.there in
    sym (take_at one (zeros (8192 - length one)) (length one) refl) ∙ ap (take (length one)) same ∙ take_at other (zeros (8192 - length other)) (length one) (sym long)

-- below a pointer stands one text of a length
pub LeavesBelow-only : (image : List ℕ) (level : ℕ) (ptr : Ptr) (one other : List ℕ) → length one ≡ length other → length one ≤ bytes_below level → LeavesBelow (IsBlock image) level ptr one → LeavesBelow (IsBlock image) level ptr other
    → one ≡ other
unfolding LeavesBelow
LeavesBelow-only image zero ptr one other long room (inl first) second = first.0 ∙ sym (none_of other (sym long ∙ ap length first.0))
LeavesBelow-only image zero ptr one other long room (inr first) (inl second) = absurd (omega (arith, first.0, ap length second.0))
LeavesBelow-only image zero ptr one other long room (inr first) (inr second) = one_leaf image ptr one other long first.1 second.1
LeavesBelow-only image (suc level) ptr one other long room (inl first) second = first.0 ∙ sym (none_of other (sym long ∙ ap length first.0))
LeavesBelow-only image (suc level) ptr one other long room (inr first) (inl second) = absurd (omega (arith, first.0, ap length second.0))
LeavesBelow-only image (suc level) ptr one other long room (inr (any, (node, over, parts))) (inr (some, (again, same_over, same_parts))) =
    let size = bytes_below level in
    let same : again ≡ node = one_block image ptr again node same_over.there over.there in
    let each : (k : ℕ) → k < 128 → part size one k ≡ part size other k = λ k less.
    let first = length-part size one k in
    let second = length-part size other k in
    LeavesBelow-only image level (child node k) (part size one k) (part size other k) (omega (arith, first, second, long)) (omega (arith, first)) (parts k less)
    (subst (λ (bytes : List ℕ). LeavesBelow (IsBlock image) level (child bytes k) (part size other k)) same (same_parts k less)) in
    let front = parts_same size one other 128 each in
    sym (take_all (128 * size) one (omega (arith, span-suc level))) ∙ front ∙ take_all (128 * size) other (omega (arith, span-suc level, long))

-- and below a root
pub HasLeaves-only : (image : List ℕ) (space : FreeSectors) (levels : ℕ) (root : Ptr) (one other : List ℕ) → length one ≡ length other → HasLeaves (Has image space) levels root one → HasLeaves (Has image space) levels root other → one ≡ other
HasLeaves-only image space levels root one other long first second =
    let blocks : (text : List ℕ) → HasLeaves (Has image space) levels root text → LeavesBelow (IsBlock image) levels root text = λ text is. LeavesBelow-grows (Has image space) (IsBlock image) (λ ptr bytes has. has.block) levels root text is.below in
    LeavesBelow-only image levels root one other long first.least.enough (blocks one first) (blocks other second)
