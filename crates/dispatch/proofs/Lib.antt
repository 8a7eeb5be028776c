mod Asked
mod Boards
mod Delays
mod Foremost
mod Held
mod Outside
mod Ticks
