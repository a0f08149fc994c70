-- There is one count of the numbers that are such.
use Rattle.std.proofs.Common.{ℕ, ◌≤◌, arith}
use Rattle.std.proofs.lemmas.Bool.{eqb-true}
use Rattle.std.proofs.lemmas.Bool.Decides.{Decides-eqb}
use Rattle.std.proofs.lemmas.Cmp.{nat_eq_equiv}
use Rattle.std.proofs.lemmas.Map.Made.{length-le_from_is_member, IsDistinct-from_AllPairs}
use Rattle.std.proofs.lemmas.Map.Views.{Contains-from_any, list_any-from_Contains}
use Rattle.zst_count.specs.FirstSectors.{Counts, CountIsOne}

-- none counts more than another
counts_le : (is : ℕ → Type 0) (a b : ℕ) → Counts is a → Counts is b → a ≤ b
counts_le is a b first second =
    let less = length-le_from_is_member nat_eq_equiv first.numbers second.numbers (IsDistinct-from_AllPairs Decides-eqb first.numbers first.once)
    (λ q there. list_any-from_Contains nat_eq_equiv q second.numbers ((second.exact q).1 ((first.exact q).0 (Contains-from_any eqb-true q first.numbers there)))) in
    let n = first.long in
    let m = second.long in omega (arith, less, n, m)

pub count_is_one : CountIsOne
count_is_one image uber rows a b first second =
    let up = counts_le _ a b first second in
    let down = counts_le _ b a second first in omega (arith, up, down)
