mod Small
mod Captured
mod Decoded
mod Heard
mod Labels
mod Round
mod Passed
mod Worked
