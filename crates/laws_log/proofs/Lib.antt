-- Demand 3 holds of a machine that obeys the laws; what it is to be struck; and why a reply had no live request.
pub mod Strike
pub mod Asked
pub mod Why
