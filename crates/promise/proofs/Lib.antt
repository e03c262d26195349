mod Piecewise
mod Refusing
mod Accepts
mod Undisturbed
