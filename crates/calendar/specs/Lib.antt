-- The definitions that the contracts of `calendar` cite, and the statements that its laws prove.
pub mod Lowest
pub mod Calendar
pub mod Loads
pub mod Plan
pub mod Numbers
pub mod PlanNumbers
