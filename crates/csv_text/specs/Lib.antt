-- Lines and fields of a text, as RFC 4180 and the GTFS reference have them.
pub mod There
pub mod Part
pub mod Texts
pub mod Lines
pub mod Fields
pub mod Read
