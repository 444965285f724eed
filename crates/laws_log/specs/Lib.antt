-- Logs, machines, and what demand 3 and No. 3 say about them.
pub mod Log
pub mod Machine
pub mod Demand
pub mod Why
