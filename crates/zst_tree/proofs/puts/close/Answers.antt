use Rattle.std.proofs.lemmas.Result.{err_from_is_err_and}
use Rattle.std.proofs.Common.{◌-◌, List, ℕ, ap, refl, sym, ◌∙◌}
use Rattle.zst_block.specs.declared.ptr.Ptr.{Ptr}
use Rattle.zst_tree.proofs.BuiltSubtrees.{closes, has_kind, Parts-grows}
use Rattle.zst_tree.specs.Indices.{greatest, kind_over}
use Rattle.zst_tree.proofs.ChangedTrees.{block_same}
use Rattle.zst_tree.proofs.SubtreeCases.{kept_works, kind_three_or_four}
use Rattle.zst_tree.proofs.puts.close.Goals as goal

pub returns-clause-whole : goal.returns-clause-whole
returns-clause-whole g c = λ base map parts.
    let saved = c.in_ok-ptr.ensures in
    let kept = kept_works saved.works in
    closes _ map c.args.level base c.args.io.now.node _ c.requires.inner (has_kind _ _ c.in_ok-ptr.ptr _ _ saved.wrote)
    (ap (λ (p : Ptr). p.level) saved.pointer) c.summary_of-summary.ensures.kind (ap (λ (p : Ptr). p.number) saved.pointer ∙ c.summary_of-summary.ensures.number)
    (Parts-grows _ _ kept (c.args.level - 1) c.args.io.now.node base map parts)

pub returns-clause-wrote : goal.returns-clause-wrote
returns-clause-wrote g c = has_kind _ _ c.in_ok-ptr.ptr _ _ c.in_ok-ptr.ensures.wrote

pub returns-clause-names : goal.returns-clause-names
returns-clause-names g c =
    let saved = c.in_ok-ptr.ensures.pointer in
    record {
      kind = kind_three_or_four c.args.io.now.node _ c.summary_of-summary.ensures.kind;
      level_is = ap (λ (p : Ptr). p.level) saved;
      length_is = ap (λ (p : Ptr). p.length) saved;
    }

pub returns-clause-sums : goal.returns-clause-sums
returns-clause-sums g c =
    let saved = c.in_ok-ptr.ensures in
    let pointer = saved.pointer in
    let kind = c.summary_of-summary.ensures.kind in
    let number = ap (λ (p : Ptr). p.number) pointer ∙ c.summary_of-summary.ensures.number in
    let there = has_kind _ _ c.in_ok-ptr.ptr _ c.summary_of-summary.result.kind saved.wrote in
    let same = block_same _ _ _ refl _ _ there in
    record {
      names = record {
        kind = kind_three_or_four c.args.io.now.node _ kind;
        level_is = ap (λ (p : Ptr). p.level) pointer;
        length_is = ap (λ (p : Ptr). p.length) pointer;
      };
      kind_is = λ bytes may. kind ∙ ap (λ (b : List ℕ). kind_over b) (sym (same bytes may));
      number_is = λ bytes may. number ∙ ap (λ (b : List ℕ). greatest b 128) (sym (same bytes may));
    }

pub returns-in_err-ptr-clause-sums : goal.returns-in_err-ptr-clause-sums
returns-in_err-ptr-clause-sums g c =
    let p = err_from_is_err_and c.from_residual.result c.from_residual.ensures.1 in
    rw p.1 tt

pub returns-in_err-ptr-clause-wrote : goal.returns-in_err-ptr-clause-wrote
returns-in_err-ptr-clause-wrote g c =
    let p = err_from_is_err_and c.from_residual.result c.from_residual.ensures.1 in
    rw p.1 tt

pub returns-in_err-ptr-clause-names : goal.returns-in_err-ptr-clause-names
returns-in_err-ptr-clause-names g c =
    let p = err_from_is_err_and c.from_residual.result c.from_residual.ensures.1 in
    rw p.1 tt

pub returns-in_err-ptr-clause-works : goal.returns-in_err-ptr-clause-works
returns-in_err-ptr-clause-works g c =
    let p = err_from_is_err_and c.from_residual.result c.from_residual.ensures.1 in
    rw (p.1, p.2) c.in_err-ptr.ensures.works

pub returns-clause-works : goal.returns-clause-works
returns-clause-works g c = c.in_ok-ptr.ensures.works
