-- What stands in leaves by a body stands before the body's end, and also where the sectors behind that alone are free.
use Rattle.std.specs.Prelude.{IfSome}
use Rattle.std.proofs.Common.{◌≡◌, inl, inr, ℕ, zero, suc, ◌-◌, ◌≤◌, List, length, Option, Some, None, arith, length-append}
use Rattle.zst_bytes.specs.Fields.{zeros}
use Rattle.zst_bytes.proofs.FieldsLaws.{length-zeros}
use Rattle.zst_space.specs.FreeSectors.{FreeSectors}
use Rattle.zst_block.specs.Blocks.{Has}
use Rattle.zst_block.specs.declared.ptr.Ptr.{Ptr}
use Rattle.zst_block.proofs.BlocksLaws.{Has-fewer}
use Rattle.zst_tree.specs.Indices.{Blocks, child, span}
use Rattle.zst_leaves.specs.Leaves.{BlocksBefore, HasLeaves, LeavesBelow, bytes_below, part}
use Rattle.zst_leaves.proofs.BlocksBeforeEnd.{Has-stands}
use Rattle.zst_leaves.proofs.LeavesLaws.{HasLeaves-grows}
use Rattle.zst_leaves.proofs.TextParts.{length-part}
use Rattle.zst_extents.specs.StoredExtents.{HasExtents, extent_bytes}
use Rattle.zst_dir.specs.Rows.{Rows}
use Rattle.zst_dir.specs.Spelling.{dir_bytes}
use Rattle.zst_list.proofs.ListGrowth.{HasList-grows}
use Rattle.zst_objset.proofs.SetGrowth.{SetHolds-grows}
use Rattle.zst_model.specs.pools.Pool.{Pool}
use Rattle.zst_model.specs.pools.Pool as plain
use Rattle.zst_model.specs.sends.Headers.{Sent, choice_of}
use Rattle.zst_plan.specs.Plans.{bookmark_source}
use Rattle.zst_image.specs.Bodies.{Body, behind_end, free_by}
use Rattle.zst_image.specs.Reads.{HasDir}
use Rattle.zst_image.proofs.Extents.{behind_end-fewer}
use Rattle.zst_send.specs.Openings.{HasListOf, HoldsSource, StandsSent, redacted_source}
use Rattle.zst_send.proofs.SetsBut.{but_grows}

-- ---- leaves

-- the block is there, and has 8,192 bytes
abbrev Long : Blocks → Blocks
Long has = λ ptr bytes. has ptr bytes × (length bytes ≡ 8192)

-- each block of a text in leaves has so many
long_below : (has : Blocks) (level : ℕ) (ptr : Ptr) (text : List ℕ) → length text ≤ bytes_below level → LeavesBelow has level ptr text → LeavesBelow (Long has) level ptr text
unfolding LeavesBelow span
long_below has zero ptr text enough (inl hole) = inl hole
long_below has zero ptr text enough (inr leaf) =
    let filled = length-append text (zeros (8192 - length text)) in
    let rest = length-zeros (8192 - length text) in
    inr (leaf.0, record { there = (leaf.1.there, omega (arith, filled, rest, enough)); kind_is = leaf.1.kind_is; level_is = leaf.1.level_is })
long_below has (suc level) ptr text enough (inl hole) = inl hole
long_below has (suc level) ptr text enough (inr over) =
    let node = over.1.0 in
    let is = over.1.1 in
    inr (
      over.0,
      (
        node,
        record { there = (is.there, is.long); long = is.long; kind_is = is.kind_is; level_is = is.level_is },
        λ k less. let few = length-part (bytes_below level) text k in long_below has level (child node k) (part (bytes_below level) text k) (omega (arith, few)) (over.1.2 k less),
      ),
    )

-- so each of them stands before the end
leaves_stand : (image : List ℕ) (space : FreeSectors) (levels : ℕ) (root : Ptr) (text : List ℕ) → HasLeaves (Has image space) levels root text → HasLeaves (BlocksBefore space.end image) levels root text
leaves_stand image space levels root text is =
    let long : HasLeaves (Long (Has image space)) levels root text = record { some = is.some; least = is.least; below = long_below (Has image space) levels root text is.least.enough is.below } in
    HasLeaves-grows (Long (Has image space)) (BlocksBefore space.end image) (λ ptr bytes has. (has.0.block, Has-stands image space ptr bytes has.0 has.1)) levels root text long

-- the extents and the directory of a body do
pub extents_stand : (image : List ℕ) (body : Body) → HasExtents (Has image (free_by body)) body.uber.free_levels body.uber.free_root body.uber.free_count body.free
    → HasExtents (BlocksBefore body.uber.end image) body.uber.free_levels body.uber.free_root body.uber.free_count body.free
extents_stand image body is =
    record { count_is = is.count_is; none = is.none; leaves = λ some. leaves_stand image (free_by body) body.uber.free_levels body.uber.free_root (extent_bytes body.free) (is.leaves some) }

pub dir_stands : (image : List ℕ) (body : Body) (rows : Rows) → HasDir (Has image (free_by body)) body.uber rows → HasDir (BlocksBefore body.uber.end image) body.uber rows
dir_stands image body rows is =
    record { directory = is.directory; count_is = is.count_is; leaves = leaves_stand image (free_by body) body.uber.dir_levels body.uber.dir_root (dir_bytes rows) is.leaves }

-- ---- what a send needs

if_some : {A : Type 0} (Is Weaker : A → Type 0) → ((a : A) → Is a → Weaker a) → (option : Option A) → IfSome option Is → IfSome option Weaker
if_some Is Weaker weaker None is = tt
if_some Is Weaker weaker (Some a) is = weaker a is

-- it stands over more blocks too
sent_grows : (has more : Blocks) → ((ptr : Ptr) (bytes : List ℕ) → has ptr bytes → more ptr bytes) → (rows : Rows) (pool : Pool) (sent : Sent) → StandsSent has rows pool sent → StandsSent more rows pool sent
sent_grows has more up rows pool sent is =
    let lists : (bookmark : plain.Bookmark) → HasListOf has rows pool bookmark → HasListOf more rows pool bookmark =
    λ bookmark lists row alike. HasList-grows has more up row.levels row.root row.runs bookmark.runs (lists row alike) in
    record {
      set = λ row alike. but_grows has more up (choice_of sent).redact row.objects sent.snapshot.objects (is.set row alike);
      source_set =
          if_some (HoldsSource has rows pool) (HoldsSource more rows pool) (λ snapshot holds row alike. SetHolds-grows has more up row.objects snapshot.objects (holds row alike)) (redacted_source sent.source) is.source_set;
      source = if_some (HasListOf has rows pool) (HasListOf more rows pool) lists (bookmark_source sent.source) is.source;
      redaction = if_some (HasListOf has rows pool) (HasListOf more rows pool) lists sent.redaction is.redaction;
    }

-- and so where the sectors behind the end alone are free
pub sent_behind : (image : List ℕ) (body : Body) (rows : Rows) (pool : Pool) (sent : Sent) → StandsSent (Has image (free_by body)) rows pool sent → StandsSent (Has image (behind_end body.uber)) rows pool sent
sent_behind image body rows pool sent is =
    let up : (ptr : Ptr) (bytes : List ℕ) → Has image (free_by body) ptr bytes → Has image (behind_end body.uber) ptr bytes =
    λ ptr bytes has. Has-fewer image (free_by body) (behind_end body.uber) ptr bytes (behind_end-fewer body) has in
    sent_grows (Has image (free_by body)) (Has image (behind_end body.uber)) up rows pool sent is
