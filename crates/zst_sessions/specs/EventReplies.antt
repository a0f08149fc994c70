-- The lines of a reply.
use Rattle.std.specs.Prelude.{ℕ, ◌++◌, List, [], ◌∷◌, codes, Result, Ok, Err}
use Rattle.zst_model.specs.declared.refusals.refusal.Refusal.{Refusal}
use Rattle.zst_check.specs.Checks.{report_line}
use Rattle.zst_model.specs.pools.AnswerLines.{ok_line, word}
use Rattle.zst_model.specs.refusals.Texts.{guid_text}
use Rattle.zst_sessions.specs.declared.event_reply.EventReply.{EventReply}
use Rattle.zst_sessions.specs.declared.event_reply.EventReply.TheVariants.{Lines, Token, Opened, Pumped, Dropped, Closed, Checked}
use Rattle.zst_sessions.specs.declared.event_reply.Standing.{Standing}
use Rattle.zst_sessions.specs.declared.event_reply.Standing.TheVariants.{Point, Done}
use Rattle.zst_sessions.specs.Moves.{Answer, took}
use Rattle.zst_token.specs.Spelling.{token_text}

-- where a receive stands: its point, or the guid of the snapshot that it made
abbrev pub standing_text : Standing → List ℕ
standing_text (Point point) = codes " point" ++ (word point.object ++ word point.offset)
standing_text (Done guid) = codes " done " ++ guid_text guid

-- the lines of a reply
abbrev pub reply_lines : EventReply → List (List ℕ)
reply_lines (Lines lines) = lines
reply_lines (Token token) = token_text token ∷ []
reply_lines (Opened number) = ok_line number ∷ []
reply_lines (Pumped taken applied standing) = (took taken ++ (codes " applied" ++ (word applied ++ standing_text standing))) ∷ []
reply_lines (Dropped taken) = took taken ∷ []
reply_lines Closed = codes "ok" ∷ []
reply_lines (Checked report) = report_line report ∷ []

-- an answer as its lines, or its refusal
abbrev pub answer_of : Result EventReply Refusal → Answer
answer_of (Ok reply) = Ok (reply_lines reply)
answer_of (Err refusal) = Err refusal
