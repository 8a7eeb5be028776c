mod Heard
mod Printed
mod Starts
mod WorkedScript
