-- An image by whose latest body, free extents and directory a pool is named is opened by these, whatever its object sets hold.
use Rattle.std.specs.Prelude.{◌^◌, ◌<◌}
use Rattle.std.proofs.Common.{◌≡◌, ⊎_elim, ℕ, List, length, Some, None, Result, Ok, Err, refl, sym, ap, ◌∙◌, subst, arith}
use Rattle.zst_outside.specs.Images.{DiskState}
use Rattle.zst_bytes.specs.Bytes.{number_at}
use Rattle.zst_space.specs.FreeSectors.{FreeSectors}
use Rattle.zst_space.specs.declared.space.Extent.{Extent}
use Rattle.zst_marks.specs.Marks.{Apart}
use Rattle.zst_block.specs.Blocks.{Has}
use Rattle.zst_block.specs.declared.ptr.Ptr.{Ptr}
use Rattle.zst_leaves.specs.Leaves.{BlocksBefore, HasLeaves}
use Rattle.zst_extents.specs.StoredExtents.{HasExtents}
use Rattle.zst_uber.specs.Body.{InRange, IsBody, body_bytes, uber_at}
use Rattle.zst_uber.specs.Slots.{latest}
use Rattle.zst_uber.specs.declared.uber.Uber.{Uber}
use Rattle.zst_uber.proofs.BodyLaws.{uber_at-body_bytes}
use Rattle.zst_model.specs.pools.Pool.{Pool}
use Rattle.zst_dir.specs.Rows.{Rows}
use Rattle.zst_dir.specs.Spelling.{IsDir, dir_bytes}
use Rattle.zst_image.specs.Bodies.{Body, behind_end}
use Rattle.zst_image.specs.OpenAnswers.{GivesPool, IsOpened, OpenAnswers}
use Rattle.zst_image.specs.Reads.{HasDir, kept_rows}
use Rattle.zst_image.specs.declared.open_fault.OpenFault.{OpenFault}
use Rattle.zst_image.specs.declared.open_fault.OpenFault.TheVariants as opens
use Rattle.zst_image.specs.declared.pool_state.PoolState.{PoolState}
use Rattle.zst_image.proofs.OnePool.{ExtentsAreOne, same_body}
use Rattle.zst_image.proofs.OpenAnswers.{dir_before, dir_there, extents_before, extents_there}
use Rattle.zst_run.specs.declared.send.SendRequest.{SendRequest}
use Rattle.zst_run.specs.Sends.{ReadsForAs}
use Rattle.zst_run.proofs.StandingBlocks.{dir_stands, extents_stand}

-- in the leaves below a root stands one text of a length
abbrev pub OneText : Type 0
OneText =
    (image : List ℕ) (space : FreeSectors) (levels : ℕ) (root : Ptr) (text other : List ℕ) → length text ≡ length other
    → HasLeaves (Has image space) levels root text → HasLeaves (Has image space) levels root other → text ≡ other

-- bytes are those of one directory
abbrev pub OneDirectory : Type 0
OneDirectory = (rows others : Rows) (bytes : List ℕ) → length bytes < 2 ^ 64 → IsDir rows bytes → IsDir others bytes → rows ≡ others

-- what stands below the roots of a body is one
pub record AreOne : Type 0 where
  pub text : OneText
  pub extents : ExtentsAreOne
  pub directory : OneDirectory

module _ (one : AreOne) (here : DiskState) (long : length here.seen ≡ here.size) (request : SendRequest) (body : Body) (rows : Rows) (pool : Pool)
    (reads : ReadsForAs request body rows pool here.seen) where
  is_body : IsBody here.size body.uber (body_bytes body.uber)
  is_body = record { spelled = refl; fits = reads.fits; in_range = subst (λ (size : ℕ). InRange size body.uber) long reads.in_range }

  -- its latest body is that of this body
  same_bytes : (bytes : List ℕ) → latest here.seen ≡ Some bytes → bytes ≡ body_bytes body.uber
  same_bytes bytes there = let both : Some bytes ≡ Some (body_bytes body.uber) = sym there ∙ reads.stands in cc both

  one_uber : (other : Uber) (bytes : List ℕ) → latest here.seen ≡ Some bytes → IsBody here.size other bytes → other ≡ body.uber
  one_uber other bytes there is =
      let same : body_bytes other ≡ body_bytes body.uber = sym is.spelled ∙ same_bytes bytes there in
      sym (uber_at-body_bytes other is.fits) ∙ ap uber_at same ∙ uber_at-body_bytes body.uber reads.fits

  -- and its free extents are these
  one_free : (free : List Extent) → Apart 8 free body.uber.end
      → HasExtents (BlocksBefore body.uber.end here.seen) body.uber.free_levels body.uber.free_root body.uber.free_count free → free ≡ body.free
  one_free free apart again =
      let uber = body.uber in
      sym
      (one.extents here.seen (behind_end uber) uber.free_levels uber.free_root uber.free_count uber.end body.free free (omega (arith, reads.fits.end)) reads.apart apart
      (extents_there body uber here.seen here.seen refl refl reads.extents) (extents_before uber free here.seen here.seen refl again))

  -- and its directory has these rows
  one_rows : (others : Rows) → HasDir (BlocksBefore body.uber.end here.seen) body.uber others → rows ≡ others
  one_rows others again =
      let uber = body.uber in
      let first = dir_there body uber rows here.seen here.seen refl refl reads.directory in
      let second = dir_before uber others here.seen here.seen refl again in
      let same = one.text here.seen (behind_end uber) uber.dir_levels uber.dir_root (dir_bytes rows) (dir_bytes others) (sym first.count_is ∙ second.count_is) first.leaves second.leaves in
      one.directory rows others (dir_bytes rows) (omega (arith, reads.fits.trees.dir_bytes, first.count_is)) first.directory (subst (λ (bytes : List ℕ). IsDir others bytes) (sym same) second.directory)

  -- what was opened is this body
  opened_body : (other : Body) (bytes : List ℕ) (others : Rows) → latest here.seen ≡ Some bytes → IsOpened here bytes other others → other ≡ body
  opened_body other bytes others there is =
      let same = one_uber other.uber bytes there is.is_body in
      same_body other body same
      (one_free other.free (subst (λ (u : Uber). Apart 8 other.free u.end) same is.apart)
      (subst (λ (u : Uber). HasExtents (BlocksBefore u.end here.seen) u.free_levels u.free_root u.free_count other.free) same is.extents))

  opened_rows : (other : Body) (bytes : List ℕ) (others : Rows) → latest here.seen ≡ Some bytes → IsOpened here bytes other others → rows ≡ others
  opened_rows other bytes others there is =
      one_rows others (subst (λ (u : Uber). HasDir (BlocksBefore u.end here.seen) u others) (one_uber other.uber bytes there is.is_body) is.directory)

  -- it can be opened by this body, its extents and these rows
  is_opened : (uber : Uber) (bytes : List ℕ) → uber ≡ body.uber → bytes ≡ body_bytes body.uber → IsOpened here bytes (record { uber = uber; free = body.free }) rows
  is_opened uber bytes same are = subst (λ (u : Uber). IsOpened here bytes (record { uber = u; free = body.free }) rows) (sym same) (record {
    is_body = subst (λ (b : List ℕ). IsBody here.size body.uber b) (sym are) is_body;
    extents = extents_stand here.seen body reads.extents;
    apart = reads.apart;
    directory = dir_stands here.seen body rows reads.directory;
  })

  version : number_at (body_bytes body.uber) 8 4 ≡ body.uber.version
  version = ap (λ (u : Uber). u.version) (uber_at-body_bytes body.uber reads.fits)

  -- so opening gives them, unless the disk or the memory fails
  pub gives_pool : (answer : Result PoolState OpenFault) → OpenAnswers here answer → GivesPool body rows answer
  gives_pool (Ok kept) is = (opened_body kept.body is.0 is.1 is.2 is.3, is.4 ∙ ap kept_rows (sym (opened_rows kept.body is.0 is.1 is.2 is.3)))
  gives_pool (Err (opens.Damaged sector stated found)) is =
      absurd (⊎_elim
      (λ told. told.no_body body.uber (subst (λ (bytes : List ℕ). IsBody here.size body.uber bytes) (sym (same_bytes told.body told.there)) is_body))
      (λ dir. dir.no_dir body.free rows (is_opened dir.uber dir.body (one_uber dir.uber dir.body dir.there dir.is_body) (same_bytes dir.body dir.there)))
      is)
  gives_pool (Err opens.NoPool) is = absurd (let both : None ≡ Some (body_bytes body.uber) = sym is ∙ reads.stands in cc both)
  gives_pool (Err (opens.BadVersion number)) is =
      absurd (is.3 (is.2 ∙ ap (λ (bytes : List ℕ). number_at bytes 8 4) (same_bytes is.0 is.1) ∙ version ∙ reads.in_range.version))
  gives_pool (Err opens.DiskFault) is = tt
  gives_pool (Err opens.OutOfMemory) is = tt
