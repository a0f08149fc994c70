use Rattle.zst_interleaving.proofs.laws.grounds_stand.Goals as goal

pub returns : goal.returns
returns c = record {
  exact = c.send_is_exact.ensures;
  views = c.snapshot_has_view.ensures;
  starts = c.start_stands.ensures;
  cuts = c.cut_stands.ensures;
  resumes = c.resume_is_exact.ensures;
  rises = c.points_rise.ensures;
  applied = c.received_is_state.ensures.applied;
  fronts = c.fronts_agree.ensures;
  streams = c.view_is_a_stream.ensures;
  reads = c.view_is_read.ensures;
  images = c.image_is_read.ensures;
  covered = c.covers_are_pieces.ensures;
}
