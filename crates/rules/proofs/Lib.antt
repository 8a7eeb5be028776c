pub mod Chosen
mod Filled
mod Made
mod Products
mod Stored
