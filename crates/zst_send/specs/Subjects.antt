-- What a send is of: the set of its snapshot, and what of it is included.
use Rattle.zst_model.specs.fields.Lists.{has_pair}
use Rattle.zst_model.specs.sends.Inclusion.{Choice}
use Rattle.zst_model.specs.states.DatedState.{DatedState}
use Rattle.zst_objset.specs.Dnodes.{outside}
use Rattle.zst_objset.specs.Sets.{SetHoldsBut}
use Rattle.zst_objset.specs.TightSets.{SetIsTightIn}
use Rattle.zst_traverse.specs.Cells.{choice_with}
use Rattle.zst_traverse.specs.ListedNumbers.{AreIncluded}
use Rattle.zst_tree.specs.Indices.{Blocks}
use Rattle.zst_send.specs.declared.subject.Subject.{Subject}

-- what is included: all that is dated after the source, or is in the source's list or in that of the pairs to redact
abbrev pub choice_for : Subject → Choice
choice_for subject = choice_with subject.source subject.listed subject.redact

-- its set holds this dated state but for the bytes of the pairs to redact, whose blocks aren't read and may be damaged
abbrev pub HoldsFor : Blocks → Subject → DatedState → Type 0
HoldsFor has subject snap = SetHoldsBut has (has_pair subject.redact) subject.set snap

-- 64 calls are enough for a look: the slots of its set are tight, and each number of which a list has a pair is included
pub record IsTightFor (has : Blocks) (subject : Subject) (snap : DatedState) : Type 0 where
  pub tight : SetIsTightIn has (outside (has_pair subject.redact) has) subject.set snap
  pub included : AreIncluded snap (choice_for subject) subject.listed subject.redact
