-- The tables: the starred cases, those of the rules' other edges, and what is written and read byte by byte.
pub mod All
pub mod Table
pub mod Rules
pub mod Written
