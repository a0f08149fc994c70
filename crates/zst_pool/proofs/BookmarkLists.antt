-- What the row of a bookmark tells of its list.
use Rattle.std.specs.Prelude.{Result, Ok, Err, IfErr}
use Rattle.std.proofs.Common.{◌≡◌, ℕ, List, Option, Some, None, option_map, refl, sym, ap, subst}
use Rattle.std.specs.Result.{IsErrAnd}
use Rattle.std.specs.Str.{bytes_eq}
use Rattle.zst_block.specs.declared.fault.BlockFault.{BlockFault}
use Rattle.zst_block.specs.declared.fault.BlockFault.TheVariants.{Full, Damaged, DiskFault}
use Rattle.zst_tree.specs.declared.or_memory.OrMemory.{OrMemory}
use Rattle.zst_tree.specs.declared.or_memory.OrMemory.TheVariants.{Fault, Memory}
use Rattle.zst_list.specs.StoredLists.{HasList, TellsList}
use Rattle.zst_model.specs.fields.Lists.{Runs}
use Rattle.zst_model.specs.declared.refusals.subjects.AbsentSubject.TheVariants as missing
use Rattle.zst_model.specs.declared.refusals.subjects.Name.TheVariants as names
use Rattle.zst_model.specs.declared.refusals.plan_fault.PlanFault.TheVariants as plans
use Rattle.zst_model.specs.pools.Pool.{Pool, bookmark_named}
use Rattle.zst_model.specs.pools.Pool as plain
use Rattle.zst_tree.specs.Indices.{Blocks}
use Rattle.zst_dir.specs.Rows.{Rows}
use Rattle.zst_dir.specs.declared.rows.Bookmark.{Bookmark}
use Rattle.zst_image.specs.Reads.{BookmarkIs, RunsBy}
use Rattle.zst_pool.specs.Faults.{of_block, or_memory}
use Rattle.zst_pool.specs.Lists.{GivesList, GivesListed, TellsRow, list_by, row_named}
use Rattle.zst_pool.specs.declared.fault.PoolFault.{PoolFault}
use Rattle.zst_pool.specs.declared.fault.PoolFault.TheVariants as faults
use Rattle.zst_dir.proofs.Matches.{FoundAlike, found-Match}

pub option_map-same : {A : Type 0} (o : Option A) → option_map (λ x. x) o ≡ o
option_map-same None = refl
option_map-same (Some x) = refl

-- what the read of a list tells as damaged, the pool tells of its row
pub row_told : (end : ℕ) (image : List ℕ) (size : ℕ) (row : Bookmark) (result : Result (Option Runs) PoolFault) (fault : OrMemory BlockFault) → IsErrAnd result (λ made. made ≡ or_memory of_block fault)
    → TellsList {T = Runs} end image size row.levels row.root row.runs (Err fault) → IfErr result (TellsRow end image size row)
row_told end image size row (Ok list) fault is told = tt
row_told end image size row (Err made) (Fault (Damaged at was are)) is told = λ sector stated found same.
    let one : Damaged at was are ≡ Damaged sector stated found = cc (is, same) in
    subst (λ (f : BlockFault). TellsList {T = Runs} end image size row.levels row.root row.runs (Err (Fault f))) one told
row_told end image size row (Err made) (Fault (Full need largest)) is told = λ sector stated found same. absurd (cc (is, same))
row_told end image size row (Err made) (Fault DiskFault) is told = λ sector stated found same. absurd (cc (is, same))
row_told end image size row (Err made) Memory is told = λ sector stated found same. absurd (cc (is, same))

module _ (has : Blocks) where
  -- where the rows stand for a pool, the row of a bookmark stands for its bookmark, or both are missing
  pub bookmark_alike : {bound : Option ℕ} (rows : Rows) (pool : Pool) (name : List ℕ) → RunsBy bound has rows pool → FoundAlike (BookmarkIs has) (row_named name rows) (bookmark_named name pool)
  bookmark_alike rows pool name are =
      found-Match (BookmarkIs has) (λ b. bytes_eq b.name name) (λ b. bytes_eq b.name name) (λ x y is. ap (λ n. bytes_eq n name) (sym is.named.name)) rows.bookmarks pool.bookmarks are.bookmarks

  pub given_none : (name : List ℕ) (bookmark : Option plain.Bookmark) (result : Result (Option Runs) PoolFault) → FoundAlike (BookmarkIs has) None bookmark
      → result ≡ Err (faults.Plan (plans.NoSuch (missing.Named (names.Bookmark name)))) → GivesList name bookmark result
  given_none name None result alike is = is
  given_none name (Some bookmark) result alike is = absurd alike

  pub given_some : (name : List ℕ) (row : Bookmark) (bookmark : Option plain.Bookmark) (result : Result (Option Runs) PoolFault) → FoundAlike (BookmarkIs has) (Some row) bookmark
      → ((runs : Runs) → HasList has row.levels row.root row.runs runs → GivesListed (list_by row.redact runs) result) → GivesList name bookmark result
  given_some name row None result alike given = absurd alike
  given_some name row (Some bookmark) result alike given =
      subst (λ (guids : List ℕ). GivesListed (list_by guids bookmark.runs) result) (sym alike.named.redact) (given bookmark.runs alike.list)
