-- Four texts, appended with blanks between them.
use Rattle.std.proofs.Common.{◌≡◌, ℕ, List, [], ◌∷◌, ◌++◌, ◌∙◌, append_assoc}
use Rattle.std.proofs.lemmas.List.{append-nil}

pub appended : (old a b c d s1 s2 s3 s4 s5 s6 s7 : List ℕ)
    → s1 ≡ old ++ a → s2 ≡ s1 ++ 32 ∷ [] → s3 ≡ s2 ++ b → s4 ≡ s3 ++ 32 ∷ [] → s5 ≡ s4 ++ c → s6 ≡ s5 ++ 32 ∷ [] → s7 ≡ s6 ++ d
    → s7 ≡ old ++ (a ++ 32 ∷ (b ++ 32 ∷ (c ++ 32 ∷ (d ++ []))))
appended old a b c d s1 s2 s3 s4 s5 s6 s7 e1 e2 e3 e4 e5 e6 e7 =
    rw (e7, e6, e5, e4, e3, e2, e1, append-nil d) (
    append_assoc _ (32 ∷ []) d ∙ append_assoc _ c (32 ∷ d) ∙ append_assoc _ (32 ∷ []) (c ++ 32 ∷ d) ∙ append_assoc _ b (32 ∷ (c ++ 32 ∷ d))
    ∙ append_assoc _ (32 ∷ []) (b ++ 32 ∷ (c ++ 32 ∷ d)) ∙ append_assoc old a (32 ∷ (b ++ 32 ∷ (c ++ 32 ∷ d))))
