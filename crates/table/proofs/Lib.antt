mod Splits
mod Prefixes
mod Same
mod Equal
mod Unique
mod Places
mod Laws
mod Longer
