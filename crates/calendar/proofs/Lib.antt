-- Laws that belong to no one function.
pub mod Search
pub mod Searching
pub mod Minutes
pub mod Repeats
pub mod Adding
pub mod Passing
pub mod Loaded
pub mod Placing
pub mod Checking
pub mod Numbers
pub mod PlanNumbers
pub mod Plans
pub mod Example
pub mod Determined
pub mod Fitted
