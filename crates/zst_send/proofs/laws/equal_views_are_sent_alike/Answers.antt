use Rattle.std.proofs.Common.{◌≡◌, ℕ, ◌++◌, length, take, drop, sym, ap, ◌∙◌}
use Rattle.std.proofs.Math.Seq.{drop-append_seam, take-append_seam}
use Rattle.zst_model.specs.sends.View.{View, header_from}
use Rattle.zst_record.specs.Payload.{stated_point}
use Rattle.zst_stream.specs.Records.{view_text}
use Rattle.zst_send.specs.Sends.{SameViewsSameRest}
use Rattle.zst_send.proofs.laws.equal_views_are_sent_alike.Goals as goal

-- the header is in the view, and the text from a start on is what they make
same_rest : SameViewsSameRest
same_rest sent also start views =
    ap (λ (view : View). view_text (header_from view.header start) (record { header = header_from view.header start; shown = view.shown }) (stated_point start)) views

pub returns-clause-alike : goal.returns-clause-alike
returns-clause-alike c = λ one other sent also start image others space elsewhere given left told behind views long here there.
    let texts : given ++ left ≡ told ++ behind = here.text ∙ same_rest sent also start views ∙ sym there.text in (
      sym (take-append_seam given left) ∙ ap (take (length given)) texts ∙ ap (λ (n : ℕ). take n (told ++ behind)) long ∙ take-append_seam told behind,
      sym (drop-append_seam given left) ∙ ap (drop (length given)) texts ∙ ap (λ (n : ℕ). drop n (told ++ behind)) long ∙ drop-append_seam told behind,
    )

pub returns-clause-rest : goal.returns-clause-rest
returns-clause-rest c = same_rest
