use Rattle.std.proofs.Common.{sym, ap, ◌∙◌, append_assoc}
use Rattle.std.specs.Prelude.{decimal}
use Rattle.std.proofs.lemmas.List.{append-nil}
use Rattle.zst_listing.proofs.objects.object_line.Goals as goal

pub returns : goal.returns
returns c =
    let told = simp append_assoc at c.in_ok-line.ensures.ok in
    rw (append-nil (decimal c.args.dnode.now.end), sym c.in_ok-spill.ensures)
    (c.new.ensures ∙ ap (λ v. v.items) c.into_bytes.ensures.value ∙ told)
