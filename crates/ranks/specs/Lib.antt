pub mod InnerRanks
