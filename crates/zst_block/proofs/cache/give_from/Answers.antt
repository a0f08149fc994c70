use Rattle.std.proofs.Common.{◌∙◌, nat_eq, sym, ap, arith, length}
use Rattle.std.proofs.lemmas.Bool.{eqb-true}
use Rattle.lru.proofs.CallerLemmas.{Contains-lookup}
use Rattle.zst_block.proofs.Cached.{KeepsNone-lookup, whole}
use Rattle.zst_block.proofs.cache.give_from.Goals as goal

pub returns-in-Some-clause-given : goal.returns-in-Some-clause-given
returns-in-Some-clause-given c = λ yes.
    let long = ap length c.as_slice.ensures.bytes in
    let same = c.put_bytes.ensures.bytes ∙ whole _ c.args.into.now _ (omega (arith, long, c.as_slice.ensures.long, c.put_bytes.ensures.before)) ∙ c.as_slice.ensures.bytes in
    let found = Contains-lookup (nat_eq c.args.sector) c.args.blocks.now.entries c.in-Some.node.now (sym c.in-Some.ensures.value) in
    let key = eqb-true c.args.sector found.0 found.2 in
    rw (same, key) found.1

pub returns-in-None-clause-missed : goal.returns-in-None-clause-missed
returns-in-None-clause-missed c = λ no. KeepsNone-lookup c.args.blocks.now.entries c.args.sector (sym c.in-None.ensures.value)
