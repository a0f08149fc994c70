use Rattle.zst_check.proofs.lists.differing_from.Given as goal

abbrev pub ghosts-differing_pair : goal.ghosts-differing_pair
ghosts-differing_pair g a = record { name = a.blank.name; parts = a.blank.parts }
