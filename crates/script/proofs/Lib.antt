mod Ends
mod Naming
mod Noted
mod RecordLaw
mod Stretches
