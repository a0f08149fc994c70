-- A pool that an image reads as keeps all of its partial states.
use Rattle.std.proofs.Common.{◌≡◌, ◌∙◌, ℕ, true, List, [], ◌∷◌, filter, All, Bool}
use Rattle.std.proofs.lemmas.List.Elements.{All-cons, All-head, All-nil, All-tail, filter_passes}
use Rattle.zst_block.specs.Blocks.{Has}
use Rattle.zst_model.specs.pools.KeptPool.{KeepsAll}
use Rattle.zst_model.specs.pools.Pool.{Pool}
use Rattle.zst_model.specs.pools.Pool as plain
use Rattle.zst_dir.specs.Rows.{Rows}
use Rattle.zst_dir.specs.declared.rows.Partial.{Partial}
use Rattle.zst_dir.specs.RowNames.{Match}
use Rattle.zst_image.specs.Bodies.{Body, free_by}
use Rattle.zst_image.specs.Reads.{PartialIs, ReadsAs, bound_of}

-- what matches elements of one fact is of another
Match-all : {A B : Type 0} (Is : A → B → Type 0) (P : A → Type 0) (Q : B → Type 0) → ((x : A) (y : B) → P x → Is x y → Q y) → (xs : List A) (ys : List B) → All P xs → Match Is xs ys → All Q ys
Match-all Is P Q gives [] [] all m = All-nil Q
Match-all Is P Q gives [] (y ∷ ys) all m = absurd m
Match-all Is P Q gives (x ∷ xs) [] all m = absurd m
Match-all Is P Q gives (x ∷ xs) (y ∷ ys) all m = All-cons Q y ys (gives x y (All-head P x xs all) m.0) (Match-all Is P Q gives xs ys (All-tail P x xs all) m.1)

pub images_keep : {tight : Bool} (body : Body) (rows : Rows) (pool : Pool) (image : List ℕ) → ReadsAs tight body rows pool image → KeepsAll pool
images_keep {tight = tight} body rows pool image is =
    let is_kept = λ (row : Partial). row.keep in
    Match-all (PartialIs (bound_of tight pool.number) (Has image (free_by body))) (λ row. row.keep ≡ true) (λ (partial : plain.Partial). partial.keep ≡ true) (λ row partial kept stands. stands.named.keep ∙ kept)
    (filter is_kept rows.partials) pool.partials (filter_passes is_kept rows.partials) is.described.rows_are.partials
