use Rattle.std.proofs.Common.{ℕ, List, ◌++◌, ap, drop, length, replicate, ◌∙◌}
use Rattle.std.proofs.lemmas.List.{drop-replicate}
use Rattle.zst_objset.proofs.allocation.bonus_field.Goals as goal

pub returns : goal.returns
returns c =
    let bonus = c.args.bonus.now in
    ap (λ (bytes : List ℕ). bytes ++ drop (length bonus) (replicate 320 0)) c.copy_from_slice.ensures.after ∙ ap (λ (rest : List ℕ). bonus ++ rest) (drop-replicate {X = ℕ} (length bonus) 320 0)
