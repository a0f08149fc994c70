use Rattle.std.proofs.Common.{ℕ, List, sym, subst, ⊎_elim, ◌∙◌}
use Rattle.zst_file.specs.FileHistory.{fitted-same, length-fitted}
use Rattle.zst_file.specs.FileDisk.{size_of}
use Rattle.zst_image.specs.Reads.{Reads}
use Rattle.zst_run.proofs.file_runs.run_on_files.Goals as goal

pub returns-clause-reads : goal.returns-clause-reads
returns-clause-reads g c = λ tight pool long reads.
    let size = size_of c.args.here.now in
    let held = g.F.Start.held in
    rw c.requires.fresh (subst (λ (l : List ℕ). Reads tight pool l) (sym (fitted-same size held long)) reads)

pub returns-clause-images : goal.returns-clause-images
returns-clause-images g c = λ tight pool long reads left.
    let size = size_of c.args.here.now in
    let held = g.F.Start.held in
    rw c.requires.fresh (λ image may. ⊎_elim
    (λ rests. subst (λ (l : List ℕ). Reads tight pool l) (sym rests) (subst (λ (l : List ℕ). Reads tight pool l) (sym (fitted-same size held long)) reads))
    (λ other. left image (other.0 ∙ length-fitted size held ∙ sym long) other.1)
    may)

pub returns-clause-reads_there : goal.returns-clause-reads_there
returns-clause-reads_there g c = λ tight pool long reads.
    let size = size_of c.args.there.now in
    let held = g.G.Start.held in
    rw c.requires.fresh_there (subst (λ (l : List ℕ). Reads tight pool l) (sym (fitted-same size held long)) reads)

pub returns-clause-images_there : goal.returns-clause-images_there
returns-clause-images_there g c = λ tight pool long reads left.
    let size = size_of c.args.there.now in
    let held = g.G.Start.held in
    rw c.requires.fresh_there (λ image may. ⊎_elim
    (λ rests. subst (λ (l : List ℕ). Reads tight pool l) (sym rests) (subst (λ (l : List ℕ). Reads tight pool l) (sym (fitted-same size held long)) reads))
    (λ other. left image (other.0 ∙ length-fitted size held ∙ sym long) other.1)
    may)
