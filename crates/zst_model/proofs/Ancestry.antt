-- What stands before what.
use Rattle.std.proofs.Common.{ℕ, List, Option, None}
use Rattle.zst_model.specs.pools.Ancestry.{Source, StandsBefore, Earlier, AtOrigin, BeforeOrigin}
use Rattle.zst_model.specs.pools.Pool.{Pool}

-- what stands before a snapshot of a dataset stands before the dataset's head
pub stands_before_head : (pool : Pool) (source : Source) (name : List ℕ) (bound : Option ℕ) → StandsBefore pool source name bound → StandsBefore pool source name None
stands_before_head pool source name bound (Earlier _ _ same below) = Earlier name None same tt
stands_before_head pool source name bound (AtOrigin _ _ origin is marks) = AtOrigin name None origin is marks
stands_before_head pool source name bound (BeforeOrigin _ _ origin is before) = BeforeOrigin name None origin is before
