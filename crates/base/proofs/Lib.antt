-- Their laws, and those of a choice by a test.
pub mod Choice
pub mod First
pub mod Halving
pub mod All
pub mod Tab
pub mod Bits
pub mod Each
pub mod Distinct
pub mod Below
pub mod Put
