mod Unused
mod Word6
mod Deciding
mod Recovery
