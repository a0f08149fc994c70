-- The token that goes on with a receive.
use Rattle.std.specs.Prelude.{ℕ, ◌^◌, ◌==◌, not, bit_and}
use Rattle.zst_model.specs.declared.sends.header.Header.{Header}
use Rattle.zst_model.specs.declared.sends.header.Point.{Point}
use Rattle.zst_token.specs.declared.token.Token.{Token}

-- a stream that may have blocks over 131,072 bytes (DMU_BACKUP_FEATURE_LARGE_BLOCKS of zfs_ioctl.h)
abbrev pub large_blocks : ℕ
large_blocks = 2 ^ 19

-- The token of a partial state with this header, whose stream goes on at this point (receive_resume_token of zfsprops(7)): that of the
-- same two guids and the same redaction guids, with large blocks where the stream may have them.
unfoldable pub token_for : Header → Point → Token
token_for header point = record {
  large = not (bit_and header.features large_blocks == 0);
  to = header.to;
  from = header.from;
  point = point;
  redact = header.redact;
  from_redact = header.from_redact;
}
