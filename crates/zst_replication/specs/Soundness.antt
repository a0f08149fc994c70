-- What a receive makes of a sound pool.
use Rattle.std.specs.Prelude.{ℕ, List}
use Rattle.zst_names.specs.Names.{IsDataset}
use Rattle.zst_model.specs.pools.KeptPool.{kept_of}
use Rattle.zst_model.specs.pools.Pool.{Pool, IsPool}
use Rattle.zst_model.specs.pools.Soundness.{Sound}
use Rattle.zst_laws.specs.RedactionLists.{AreListed, HaveNewGuids, HaveOwnGuids}
use Rattle.zst_plan.specs.declared.receive.RecvAsk.{RecvAsk}
use Rattle.zst_recv.specs.Feeds.{receives}
use Rattle.zst_recv.specs.ReceiveSteps.{pool_of}

-- Whatever is read, and however it is cut into pieces, a receive into a target with a dataset's name leaves a sound pool sound: the one that
-- runs, and what the image keeps of it.
abbrev pub ReceivesKeepSound : Type 0
ReceivesKeepSound =
    (ask : RecvAsk) (pool : Pool) (pieces : List (List ℕ))
    → IsDataset ask.target → IsPool pool → Sound pool
    → Sound (pool_of (receives ask pool pieces)) × Sound (kept_of (pool_of (receives ask pool pieces)))

-- Whatever is read, what the redaction bookmarks of a sound pool list stays so through a receive, as long as no two of its snapshots have one guid, and
-- the new snapshot's guid is none that a redaction bookmark has: in the pool that runs, and in what the image keeps of it.
abbrev pub ReceivesKeepLists : Type 0
ReceivesKeepLists =
    (ask : RecvAsk) (pool : Pool) (pieces : List (List ℕ))
    → IsDataset ask.target → IsPool pool → Sound pool → HaveOwnGuids pool → HaveNewGuids pool (pool_of (receives ask pool pieces)) → AreListed pool
    → AreListed (pool_of (receives ask pool pieces)) × AreListed (kept_of (pool_of (receives ask pool pieces)))
