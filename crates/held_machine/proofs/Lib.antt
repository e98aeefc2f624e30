mod AsBox
mod Held
mod Steps
