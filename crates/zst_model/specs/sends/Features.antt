-- The features that a stream may have: bits of `drr_versioninfo` (zfs_ioctl.h).
use Rattle.std.specs.Prelude.{ℕ, ◌^◌}

-- a stream that may have SPILL records (DMU_BACKUP_FEATURE_SA_SPILL)
unfoldable pub sa_spill : ℕ
sa_spill = 2 ^ 2

-- a stream that was asked for by a token (DMU_BACKUP_FEATURE_RESUMING)
unfoldable pub resuming : ℕ
resuming = 2 ^ 20

-- a stream that may have REDACT records (DMU_BACKUP_FEATURE_REDACTED)
unfoldable pub redacts : ℕ
redacts = 2 ^ 21
