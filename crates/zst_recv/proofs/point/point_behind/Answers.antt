use Rattle.std.proofs.Common.{ℕ, ◌+◌, ◌-◌, ◌^◌, ◌≡◌, min, sym, ap, ◌∙◌, subst, arith}
use Rattle.zst_model.specs.declared.sends.header.Point.{Point}
use Rattle.zst_model.specs.sends.Points.{point_of}
use Rattle.zst_model.specs.states.State.{number_bound}
use Rattle.zst_record.specs.declared.head.Head.{Head}
use Rattle.zst_stream.specs.Items.{items_by}
use Rattle.zst_recv.proofs.point.point_behind.Goals as goal

-- what is cut at the largest number of 64 bits is cut again
cut : (n : ℕ) → min (min n (2 ^ 64 - 1)) (2 ^ 48) ≡ min n number_bound
unfolding number_bound
cut n = omega arith

pub returns-in-FreeObjects : goal.returns-in-FreeObjects
returns-in-FreeObjects c = λ flags payload fits len.
    let object : ℕ = c.in-FreeObjects.first + c.in-FreeObjects.count in
    let same : c.min.result ≡ min object number_bound = c.min.ensures ∙ ap (λ (n : ℕ). min n (2 ^ 48)) c.saturating_add.ensures ∙ cut object in
    let at : ℕ → Point = λ o. record { object = o; offset = 0 } in
    subst (λ (h : Head). at c.min.result ≡ point_of c.args.point (items_by flags payload h)) (sym c.in-FreeObjects.is) (ap at same)
