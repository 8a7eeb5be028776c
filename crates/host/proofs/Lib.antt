mod Bytes
mod Entering
mod Outcomes
mod Unique
