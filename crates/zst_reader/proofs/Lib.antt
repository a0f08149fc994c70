mod Windows
mod VerdictLemmas
mod Places
mod ReadingSteps
mod StandsForLemmas
