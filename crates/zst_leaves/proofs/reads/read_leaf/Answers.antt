use Rattle.std.proofs.Common.{◌≡◌, ◌-◌, ◌++◌, length, true, false, inl, inr, refl, ◌∙◌, ap, arith, drop, take}
use Rattle.std.proofs.lemmas.Result.{err_from_is_err_and}
use Rattle.zst_bytes.specs.Fields.{zeros}
use Rattle.zst_leaves.proofs.DamageLemmas.{TellsPtr-more, alike_told, told_here}
use Rattle.zst_leaves.proofs.LeavesLaws.{leaf_of}
use Rattle.zst_leaves.proofs.LeavesRead.{behind_leaf, block_fault, leaf_long, leaf_read}
use Rattle.zst_leaves.proofs.reads.read_leaf.Goals as goal

pub returns-in_err-load_named-clause-there : goal.returns-in_err-load_named-clause-there
returns-in_err-load_named-clause-there g c = λ leaf honest below long.
    let is = leaf_of _ 0 c.args.ptr leaf refl (omega arith) below in
    let wide = leaf_long leaf (omega arith) in
    let p = err_from_is_err_and c.from_residual.result c.from_residual.ensures.1 in
    rw (p.1, p.2) (block_fault (leaf ++ zeros (8192 - length leaf)) c.load_named.new.io.node c.in_err-load_named.field-0.0 (c.in_err-load_named.ensures.there (leaf ++ zeros (8192 - length leaf)) honest is.kind_is is.level_is is.there wide))

pub returns-then-not-are_zeros-clause-there : goal.returns-then-not-are_zeros-clause-there
returns-then-not-are_zeros-clause-there g c = λ leaf honest below long.
    let is = leaf_of _ 0 c.args.ptr leaf refl (omega arith) below in
    let wide = leaf_long leaf (omega arith) in
    let same : c.as_slice.result.now ≡ leaf ++ zeros (8192 - length leaf) = c.as_slice.ensures.bytes ∙ c.in_ok-load_named.ensures.there (leaf ++ zeros (8192 - length leaf)) honest is.kind_is is.level_is is.there wide in
    let holds : c.are_zeros.result ≡ true = c.are_zeros.ensures.1 (behind_leaf leaf c.as_slice.result.now _ c.args.count long same c.split_at.ensures.back) in
    let fails : c.are_zeros.result ≡ false = c.if-not-are_zeros.true in
    absurd (cc)

pub returns-clause-only : goal.returns-clause-only
returns-clause-only g c = λ honest.
    leaf_read _ c.args.ptr c.args.count c.load_named.new.io.node _ _ c.args.text.now.items _ c.in_ok-load_named.ensures.long c.requires.some c.requires.room (c.in_ok-load_named.ensures.block honest) c.in_ok-load_named.ensures.kind c.in_ok-load_named.ensures.level
    (c.split_at.ensures.front ∙ ap (take c.args.count) c.as_slice.ensures.bytes) (c.split_at.ensures.back ∙ ap (drop c.args.count) c.as_slice.ensures.bytes) (c.are_zeros.ensures.0 c.if-not-are_zeros.false) c.in_ok-extend_from_slice.ensures.items

pub returns-in_err-load_named-clause-damaged : goal.returns-in_err-load_named-clause-damaged
returns-in_err-load_named-clause-damaged g c = λ honest.
    let p = err_from_is_err_and c.from_residual.result c.from_residual.ensures.1 in
    rw (p.1, p.2) (told_here _ _ _ 0 c.args.ptr c.args.count c.in_err-load_named.field-0.0
    (TellsPtr-more _ _ _ _ _ (λ other. inr (inl (c.requires.some, refl, inl other))) _ (c.in_err-load_named.ensures.damaged honest)))

pub returns-then-not-are_zeros-clause-damaged : goal.returns-then-not-are_zeros-clause-damaged
returns-then-not-are_zeros-clause-damaged g c = λ honest.
    let rest_is = c.split_at.ensures.back ∙ ap (drop c.args.count) c.as_slice.ensures.bytes in
    let fails : c.are_zeros.result ≡ false = c.if-not-are_zeros.true in
    told_here _ _ _ 0 c.args.ptr c.args.count c.of_layout.result (alike_told _ _ _ c.args.ptr c.of_layout.result c.of_layout.ensures
    (inr (inl (
      c.requires.some,
      refl,
      inr (record {
        bytes = c.load_named.new.io.node;
        block = (c.in_ok-load_named.ensures.block honest).0;
        more = λ zeros. let holds : c.are_zeros.result ≡ true = c.are_zeros.ensures.1 (rw rest_is zeros) in absurd (cc);
      }),
    ))))
