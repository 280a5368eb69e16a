pub mod Marks
pub mod Courses
pub mod Noted
pub mod Stepped
pub mod Carried
