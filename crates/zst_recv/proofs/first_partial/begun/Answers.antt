use Rattle.std.proofs.Common.{refl, sym, ◌∙◌}
use Rattle.zst_recv.proofs.FirstPartials.{component_is}
use Rattle.zst_recv.proofs.first_partial.begun.Goals as goal

pub returns-clause-begun : goal.returns-clause-begun
returns-clause-begun c = λ bound image space running component found runs alike named.
    let name = c.args.name.now in
    record {
      named = record {
        target = sym c.duplicate.ensures;
        component = component_is name c.args.ask.now.target component c.text-name.ensures.parts c.requires.name named ∙ sym c.component.ensures.same ∙ sym c.as_bytes.ensures.value ∙ sym c.new.ensures.same;
        keep = refl;
        header = sym c.duplicate-2.ensures;
        base = c.name_of.ensures.named bound image space running found.snapshot runs alike;
        point = refl;
      };
      objects = c.objects_of.ensures.held bound image space running found.snapshot runs alike;
    }

pub returns-clause-base : goal.returns-clause-base
returns-clause-base c = c.objects_of.ensures.base
