mod Fits
mod OwnsAlong
mod Known
