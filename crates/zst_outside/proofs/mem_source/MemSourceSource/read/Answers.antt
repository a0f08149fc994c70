use Rattle.std.proofs.Common.{◌++◌, ◌∙◌, ℕ, List, ap, sym, take, length, arith, length-drop, take-add}
use Rattle.std.proofs.lemmas.Bool.{le-leb}
use Rattle.zst_outside.proofs.mem_source.MemSourceSource.read.Goals as goal

pub returns-clause-bytes : goal.returns-clause-bytes
returns-clause-bytes c =
    let place = c.args.self.now.place in
    let bytes = c.args.self.now.bytes.items in
    let n = c.copy_front-count.result in
    let given = c.copy_front-count.ensures.front ∙ ap (λ (l : List ℕ). take n l) c.left.ensures.bytes in (
      take-add place n bytes ∙ ap (λ (l : List ℕ). take place bytes ++ l) (sym given),
      λ none room. le-leb _ _ (omega (arith, none, room, c.copy_front-count.ensures.count, ap length c.left.ensures.bytes, length-drop place bytes, c.args.self.now.gives_some, c.args.self.now.inside, c.copy_front-count.auto.into)),
    )
