pub mod Lines
pub mod Descriptions
pub mod Readers
pub mod Tables
pub mod Written
