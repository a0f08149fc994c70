-- The plan of what was found.
use Rattle.std.proofs.Common.{◌≡◌, ℕ, Option, Some, None, sym, subst}
use Rattle.zst_dir.specs.Rows.{Rows}
use Rattle.zst_model.specs.pools.Ancestry as plain
use Rattle.zst_model.specs.pools.Pool.{Pool}
use Rattle.zst_plan.specs.Places.{FindAlike, StandsAt}
use Rattle.zst_plan.specs.Plans.{IsFrom}
use Rattle.zst_plan.specs.Sources.{IsSource, NamesSource}
use Rattle.zst_plan.specs.declared.plan.SendPlan.{SendPlan}
use Rattle.zst_plan.specs.declared.source.Source.{Source}

module _ (rows : Rows) (pool : Pool) where
  -- a full send's is from nothing
  pub from_none : (plan : SendPlan) → plan.from_snap ≡ None → plan.book_f ≡ None → plan.from_number ≡ None → plan.from_guid ≡ 0 → IsFrom rows pool plan None
  from_none plan snapshot bookmark number guid = record {
    snapshot = subst (λ (o : Option ℕ). FindAlike (StandsAt rows.snapshots pool.snapshots) o None) (sym snapshot) tt;
    bookmark = subst (λ (o : Option ℕ). FindAlike (StandsAt rows.bookmarks pool.bookmarks) o None) (sym bookmark) tt;
    number = number;
    guid = guid;
  }

  -- the rows that are sources name them
  pub names_alike : (found : Option Source) (source : Option plain.Source) → FindAlike (IsSource rows pool) found source → FindAlike NamesSource found source
  names_alike None None alike = tt
  names_alike None (Some source) alike = absurd alike
  names_alike (Some row) None alike = absurd alike
  names_alike (Some row) (Some source) alike = alike.0
