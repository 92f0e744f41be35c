pub mod InnerRing
pub mod InnerMeeting
