use Rattle.std.proofs.Common.{◌≡◌, ℕ, List, ◌++◌, length}
use Rattle.zst_bytes.specs.Words.{word, words_bytes}
use Rattle.zst_model.specs.fields.Guids.{IsGuidSet}
use Rattle.zst_dir.proofs.ReadFronts.{Stands}
use Rattle.zst_dir.proofs.fields.read_guids.Given as goal

abbrev pub invariant-loop : goal.invariant-loop
invariant-loop l = record {
  at : l.counter ≡ length l.guids;
  guids : IsGuidSet l.guids;
  stands : (value rest : List ℕ) → IsGuidSet value → l.fn.cursor ≡ words_bytes value ++ rest → (l.count ≡ length value) × Stands word value rest l.guids l.cursor;
}
