mod Came
mod Streams
