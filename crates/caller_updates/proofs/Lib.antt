mod Heads
mod Writing
