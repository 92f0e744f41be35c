pub mod InnerStrike
