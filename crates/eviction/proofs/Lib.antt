-- Callers of this crate will want Step: one eviction in the model's words.
mod Looking
mod Seats
mod SweepLoop
mod Turning
mod Demand
pub mod Step
mod Rooms
mod Written
mod EvictLoop
mod OneMore
