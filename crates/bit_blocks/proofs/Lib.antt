mod Bits
mod Known
mod Places
mod Showing
