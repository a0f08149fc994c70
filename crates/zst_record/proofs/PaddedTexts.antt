-- A text that is written over zeros.
use Rattle.std.proofs.Common.{◌≡◌, ℕ, ◌+◌, List, ◌++◌, length, replicate, ap, arith}
use Rattle.std.proofs.lemmas.List.{drop-replicate}
use Rattle.zst_bytes.specs.Bytes.{written}
use Rattle.zst_record.specs.Table.{padded}

pub written-padded : (width : ℕ) (bytes : List ℕ) → written 0 (length bytes) bytes (replicate width 0) ≡ padded width bytes
unfolding written padded
written-padded width bytes =
    let all : 0 + length bytes ≡ length bytes = omega arith in
    rw all (ap (λ (t : List ℕ). bytes ++ t) (drop-replicate {X = ℕ} (length bytes) width 0))
