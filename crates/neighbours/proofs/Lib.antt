pub mod Firsts
pub mod Gathering
pub mod Marking
