use Rattle.std.proofs.Common.{◌≡◌, ◌++◌, ap, ◌∙◌, arith, Some}
use Rattle.zst_bytes.specs.Words.{word}
use Rattle.zst_block.specs.Ptr.{ptr_bytes}
use Rattle.zst_tree.proofs.SetBytes.{set_parts, set_of_parts}
use Rattle.zst_tree.proofs.words.read_set.Goals as goal

pub returns-in_err-levels-clause-exact : goal.returns-in_err-levels-clause-exact
returns-in_err-levels-clause-exact c = λ set rest fits is.
    absurd (cc (c.in_err-levels.ensures.exact set.tree.levels (word set.tree.past ++ (ptr_bytes set.tree.root ++ rest)) (omega (arith, fits.levels)) (is ∙ set_parts set rest)).0)

pub returns-in_err-past-clause-exact : goal.returns-in_err-past-clause-exact
returns-in_err-past-clause-exact c = λ set rest fits is.
    let levels = c.in_ok-levels.ensures.exact set.tree.levels (word set.tree.past ++ (ptr_bytes set.tree.root ++ rest)) (omega (arith, fits.levels)) (is ∙ set_parts set rest) in
    absurd (cc (c.in_err-past.ensures.exact set.tree.past (ptr_bytes set.tree.root ++ rest) fits.past levels.1).0)

pub returns-in_err-root-clause-exact : goal.returns-in_err-root-clause-exact
returns-in_err-root-clause-exact c = λ set rest fits is.
    let levels = c.in_ok-levels.ensures.exact set.tree.levels (word set.tree.past ++ (ptr_bytes set.tree.root ++ rest)) (omega (arith, fits.levels)) (is ∙ set_parts set rest) in
    let past = c.in_ok-past.ensures.exact set.tree.past (ptr_bytes set.tree.root ++ rest) fits.past levels.1 in
    absurd (cc (c.in_err-root.ensures.exact set.tree.root rest fits.root past.1).0)

pub returns-then-levels-gt7-clause-exact : goal.returns-then-levels-gt7-clause-exact
returns-then-levels-gt7-clause-exact c = λ set rest fits is.
    let levels = c.in_ok-levels.ensures.exact set.tree.levels (word set.tree.past ++ (ptr_bytes set.tree.root ++ rest)) (omega (arith, fits.levels)) (is ∙ set_parts set rest) in
    let same : c.in_ok-levels.levels ≡ set.tree.levels = cc levels.0 in
    absurd (omega (arith, fits.levels))

pub returns-clause-exact : goal.returns-clause-exact
returns-clause-exact c = λ set rest fits is.
    let levels = c.in_ok-levels.ensures.exact set.tree.levels (word set.tree.past ++ (ptr_bytes set.tree.root ++ rest)) (omega (arith, fits.levels)) (is ∙ set_parts set rest) in
    let past = c.in_ok-past.ensures.exact set.tree.past (ptr_bytes set.tree.root ++ rest) fits.past levels.1 in
    let root = c.in_ok-root.ensures.exact set.tree.root rest fits.root past.1 in
    let same_levels : c.in_ok-levels.levels ≡ set.tree.levels = cc levels.0 in
    let same_past : c.in_ok-past.past ≡ set.tree.past = cc past.0 in
    let same_root : c.in_ok-root.root ≡ set.tree.root = cc root.0 in
    (ap Some (set_of_parts set c.in_ok-levels.levels c.in_ok-past.past c.in_ok-root.root same_levels same_past same_root), root.1)
