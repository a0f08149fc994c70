use Rattle.zst_objset.proofs.ranges.range_changed.Goals as goal

pub punched-requires-clause-dnode : goal.punched-requires-clause-dnode
punched-requires-clause-dnode g c = c.requires.dnode

pub punched-requires-clause-range : goal.punched-requires-clause-range
punched-requires-clause-range g c = c.requires.range

pub returns-in-Punch-clause-made : goal.returns-in-Punch-clause-made
returns-in-Punch-clause-made g c = rw c.in-Punch.is c.punched.ensures.made

pub returns-in-Punch-clause-tight : goal.returns-in-Punch-clause-tight
returns-in-Punch-clause-tight g c = rw c.in-Punch.is c.punched.ensures.tight

pub returns-in-Punch-clause-damaged : goal.returns-in-Punch-clause-damaged
returns-in-Punch-clause-damaged g c = rw c.in-Punch.is c.punched.ensures.damaged

pub returns-in-Punch-clause-fits : goal.returns-in-Punch-clause-fits
returns-in-Punch-clause-fits g c = c.punched.ensures.fits

pub returns-in-Punch-clause-trees : goal.returns-in-Punch-clause-trees
returns-in-Punch-clause-trees g c = c.punched.ensures.trees

pub returns-in-Punch-clause-works : goal.returns-in-Punch-clause-works
returns-in-Punch-clause-works g c = c.punched.ensures.works

pub redacted-requires-clause-dnode : goal.redacted-requires-clause-dnode
redacted-requires-clause-dnode g c = c.requires.dnode

pub redacted-requires-clause-range : goal.redacted-requires-clause-range
redacted-requires-clause-range g c = c.requires.range

pub returns-in-Redact-clause-made : goal.returns-in-Redact-clause-made
returns-in-Redact-clause-made g c = rw c.in-Redact.is c.redacted.ensures.made

pub returns-in-Redact-clause-tight : goal.returns-in-Redact-clause-tight
returns-in-Redact-clause-tight g c = rw c.in-Redact.is c.redacted.ensures.tight

pub returns-in-Redact-clause-damaged : goal.returns-in-Redact-clause-damaged
returns-in-Redact-clause-damaged g c = rw c.in-Redact.is c.redacted.ensures.damaged

pub returns-in-Redact-clause-fits : goal.returns-in-Redact-clause-fits
returns-in-Redact-clause-fits g c = c.redacted.ensures.fits

pub returns-in-Redact-clause-trees : goal.returns-in-Redact-clause-trees
returns-in-Redact-clause-trees g c = c.redacted.ensures.trees

pub returns-in-Redact-clause-works : goal.returns-in-Redact-clause-works
returns-in-Redact-clause-works g c = c.redacted.ensures.works

pub redacted-requires-clause-checked : goal.redacted-requires-clause-checked
redacted-requires-clause-checked g c = rw c.in-Redact.is at c.requires.checked
