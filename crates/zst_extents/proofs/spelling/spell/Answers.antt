use Rattle.std.proofs.Common.{◌++◌, List, ℕ, sym, ◌∙◌, ap, arith}
use Rattle.std.proofs.lemmas.List.{append-nil, drop_all}
use Rattle.zst_extents.specs.StoredExtents.{extent_bytes}
use Rattle.zst_extents.proofs.Spelled.{bytes_none, spelled_more}
use Rattle.zst_extents.proofs.spelling.spell.Goals as goal

pub loop-extent-preserved : goal.loop-extent-preserved
loop-extent-preserved c =
    rw (c.in_ok-push_word-2.ensures, c.in_ok-push_word.ensures)
    (spelled_more c.loop-extent.bytes.items c.args.extents.now c.loop-extent.extent-index (record { first = 0; count = 0 }) (omega arith) ∙ c.loop-extent.invariant)

pub returns : goal.returns
returns c =
    sym (append-nil c.loop-extent.bytes.items) ∙ ap (λ (b : List ℕ). c.loop-extent.bytes.items ++ b) (sym bytes_none ∙ ap extent_bytes (sym (drop_all c.loop-extent.extent-index c.args.extents.now (omega arith)))) ∙ c.loop-extent.invariant
