-- Extents that are taken in turn: none, one, and more behind them.
use Rattle.std.proofs.Common.{◌≡◌, ℕ, ◌≤◌, List, [], ◌∷◌, ◌++◌, refl, sym, ◌∙◌, ap, subst}
use Rattle.zst_space.specs.FreeSectors.{FreeSectors, largest_of}
use Rattle.zst_space.specs.TakenExtents.{FitInTurn, TakenInTurn, without, without_each}

pub none_in_turn : {IsSize : ℕ → Type 0} → (space : FreeSectors) → TakenInTurn IsSize space space
none_in_turn space = record { counts = []; fit = tt; left = refl }

pub one_in_turn : {IsSize : ℕ → Type 0} → (old new : FreeSectors) (count : ℕ) → IsSize count → count ≤ largest_of old → new ≡ without old count → TakenInTurn IsSize old new
one_in_turn old new count size fits is = record { counts = count ∷ []; fit = (size, fits, tt); left = is }

each_then : (first more : List ℕ) (space : FreeSectors) → without_each (first ++ more) space ≡ without_each more (without_each first space)
each_then [] more space = refl
each_then (count ∷ first) more space = each_then first more (without space count)

fit_then : (IsSize : ℕ → Type 0) (first more : List ℕ) (space : FreeSectors) → FitInTurn IsSize first space → FitInTurn IsSize more (without_each first space) → FitInTurn IsSize (first ++ more) space
fit_then IsSize [] more space one two = two
fit_then IsSize (count ∷ first) more space one two = (one.0, one.1, fit_then IsSize first more (without space count) one.2 two)

pub then_in_turn : {IsSize : ℕ → Type 0} → (old mid new : FreeSectors) → TakenInTurn IsSize old mid → TakenInTurn IsSize mid new → TakenInTurn IsSize old new
then_in_turn {IsSize} old mid new one two = record {
  counts = one.counts ++ two.counts;
  fit = fit_then IsSize one.counts two.counts old one.fit (subst (λ (space : FreeSectors). FitInTurn IsSize two.counts space) one.left two.fit);
  left = two.left ∙ ap (λ (space : FreeSectors). without_each two.counts space) one.left ∙ sym (each_then one.counts two.counts old);
}

fit_wider : (IsSize IsOther : ℕ → Type 0) (counts : List ℕ) (space : FreeSectors) → ((count : ℕ) → IsSize count → IsOther count) → FitInTurn IsSize counts space → FitInTurn IsOther counts space
fit_wider IsSize IsOther [] space wider fit = tt
fit_wider IsSize IsOther (count ∷ counts) space wider fit = (wider count fit.0, fit.1, fit_wider IsSize IsOther counts (without space count) wider fit.2)

-- of such sizes, where those are other ones too
pub wider_in_turn : {IsSize IsOther : ℕ → Type 0} → (old new : FreeSectors) → ((count : ℕ) → IsSize count → IsOther count) → TakenInTurn IsSize old new → TakenInTurn IsOther old new
wider_in_turn {IsSize} {IsOther} old new wider taken = record { counts = taken.counts; fit = fit_wider IsSize IsOther taken.counts old wider taken.fit; left = taken.left }
