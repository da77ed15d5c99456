pub mod Proper
pub mod Earlier
pub mod Kind
pub mod Exact
pub mod Made
pub mod System
-- Not to be believed but proved: the lemmas by which the impl of `PatternKind` shows its duties, which can cite no file of proofs/.
pub mod Duty
pub mod Limits
pub mod Stepping
pub mod Injective
pub mod Firing
pub mod Ranges
pub mod Numbering
pub mod Placing
pub mod Covering
pub mod Opening
