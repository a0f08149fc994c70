use Rattle.zst_replication.proofs.TextTokens as text_tokens
use Rattle.zst_replication.proofs.feed_laws.texts_have_tokens.Goals as goal

pub returns : goal.returns
returns c = record {
  texts = text_tokens.texts_have_tokens c.pieces_are_applied.ensures c.tokens_are_of_kept.ensures.agree;
  views = text_tokens.views_have_tokens c.pieces_are_applied.ensures c.tokens_are_of_kept.ensures.agree c.equal_views_are_sent_alike.ensures.rest;
}
