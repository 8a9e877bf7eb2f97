pub mod Frame
pub mod Numbers
pub mod Stream
