-- Events that are fit.
use Rattle.std.proofs.Common.{List, [], ◌∷◌, ◌++◌}
use Rattle.std.proofs.lemmas.List.Elements.{All-cons, All-head, All-nil, All-tail}
use Rattle.zst_script.specs.declared.event.Event.{Event}
use Rattle.zst_interleaving.specs.LawfulWorlds.{AreFit, IsFitFor}

-- those of a front
pub front_fit : (run more : List Event) → AreFit (run ++ more) → AreFit run
front_fit [] more fit = All-nil IsFitFor
front_fit (event ∷ run) more fit = All-cons IsFitFor event run (All-head IsFitFor event (run ++ more) fit) (front_fit run more (All-tail IsFitFor event (run ++ more) fit))

-- and those behind it
pub rest_fit : (run more : List Event) → AreFit (run ++ more) → AreFit more
rest_fit [] more fit = fit
rest_fit (event ∷ run) more fit = rest_fit run more (All-tail IsFitFor event (run ++ more) fit)
