use Rattle.std.proofs.Common.{◌≡◌, ◌<◌, ◌∷◌, ◌++◌, refl, sym, ap, ◌∙◌, subst, append_assoc}
use Rattle.std.proofs.lemmas.Bool.{ltb-true}
use Rattle.zst_names.specs.Names.{IsDataset, IsComponent, dataset_of, component_of}
use Rattle.zst_names.proofs.MarkedNames.{IsJoined, join_is_name}
use Rattle.zst_names.proofs.marked_name.MarkedName.of.Given.{Over}
use Rattle.zst_names.proofs.marked_name.MarkedName.of.Goals as goal

-- what the three calls have written
written : (g : Over) (c : goal.After-push_str-2 g) → c.push_str-2.new.self.bytes ≡ c.args.dataset.now ++ g.M.Mark.byte ∷ c.args.component.now
written g c =
    let one_byte : c.from.result < 128 = subst (λ n. n < 128) (sym (c.from.ensures ∙ c.byte.ensures)) (ltb-true g.M.Mark.byte 128 g.met.M.Mark.is_mark.ascii) in
    rw (c.push_str-2.ensures.bytes, c.push.ensures.ascii one_byte, c.push_str.ensures.bytes, c.new-name.ensures, c.text.ensures.same, c.from.ensures, c.byte.ensures, append_assoc) refl

-- its parts
parts_of : (g : Over) (c : goal.After-push_str-2 g) → IsJoined g.M.Mark.byte c.args.dataset.now c.args.component.now
parts_of g c = join_is_name g.M.Mark.byte c.args.dataset.now c.args.component.now g.met.M.Mark.is_mark c.text.ensures.name

pub invariant_of-result : goal.invariant_of-result
invariant_of-result g c = (
  subst IsDataset (sym (ap (λ text. dataset_of g.M.Mark.byte text) (written g c) ∙ (parts_of g c).dataset_back)) c.text.ensures.name,
  subst IsComponent (sym (ap (λ text. component_of g.M.Mark.byte text) (written g c) ∙ (parts_of g c).component_back)) c.requires,
)

pub returns-clause-dataset : goal.returns-clause-dataset
returns-clause-dataset g c = ap (λ text. dataset_of g.M.Mark.byte text) (written g c) ∙ (parts_of g c).dataset_back

pub returns-clause-component : goal.returns-clause-component
returns-clause-component g c = ap (λ text. component_of g.M.Mark.byte text) (written g c) ∙ (parts_of g c).component_back
