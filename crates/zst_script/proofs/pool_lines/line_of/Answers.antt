use Rattle.std.proofs.Common.{map, string_bytes}
use Rattle.zst_line.specs.declared.line.LineFault.TheVariants as faults
use Rattle.zst_script.proofs.LineEvents.{no_line}
use Rattle.zst_script.proofs.LineNames.{names_fit}
use Rattle.zst_script.proofs.pool_lines.line_of.Goals as goal

pub returns-in-Ok-clause-names : goal.returns-in-Ok-clause-names
returns-in-Ok-clause-names c = names_fit c.in-Ok.line (map string_bytes c.args.words.now) c.in-Ok.ensures

pub returns-in-Err-Usage-clause-line : goal.returns-in-Err-Usage-clause-line
returns-in-Err-Usage-clause-line c = no_line (map string_bytes c.args.words.now) (faults.Usage c.in-Err-Usage.field-0-0) (rw c.in-Err-Usage.field-0-is at c.in-Err-Usage.ensures) (λ e. cc e)

pub returns-in-Err-BadName-clause-line : goal.returns-in-Err-BadName-clause-line
returns-in-Err-BadName-clause-line c = no_line (map string_bytes c.args.words.now) (faults.BadName c.in-Err-BadName.field-0-0) (rw c.in-Err-BadName.field-0-is at c.in-Err-BadName.ensures) (λ e. cc e)

pub returns-in-Err-BadToken-clause-line : goal.returns-in-Err-BadToken-clause-line
returns-in-Err-BadToken-clause-line c = no_line (map string_bytes c.args.words.now) (faults.BadToken c.in-Err-BadToken.field-0-0) (rw c.in-Err-BadToken.field-0-is at c.in-Err-BadToken.ensures) (λ e. cc e)
