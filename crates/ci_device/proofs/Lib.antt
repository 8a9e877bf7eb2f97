mod Left
mod Moments
