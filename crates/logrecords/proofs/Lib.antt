pub mod Opening
pub mod Standing
pub mod Walking
pub mod Main
