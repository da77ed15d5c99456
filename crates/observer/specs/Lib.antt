pub mod Mode
pub mod Observed
pub mod Kind
-- Not to be believed but proved: the lemmas by which the impl of `PatternKind` shows its duties, which can cite no file of proofs/.
pub mod Duty
pub mod Modes
