-- Each theorem with a hypothesis on the tables, the order or the query is applied here to words that meet it.
pub mod Turned
pub mod Computed
pub mod N1
pub mod N9
