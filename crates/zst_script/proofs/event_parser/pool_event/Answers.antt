use Rattle.std.proofs.Common.{List, map, string_bytes, String, Global, subst}
use Rattle.zst_script.specs.EventWords.{BeginWith, verb_word}
use Rattle.zst_script.specs.declared.words.Verb.{Verb}
use Rattle.zst_script.proofs.event_parser.pool_event.Goals as goal

pub command_event-requires-clause-command : goal.command_event-requires-clause-command
command_event-requires-clause-command c =
    subst (λ (words : List (String Global)). (verb : Verb) → BeginWith (verb_word verb) (map string_bytes words) → ⊥) c.as_slice.ensures.value c.in-None.ensures
