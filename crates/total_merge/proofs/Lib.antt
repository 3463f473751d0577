pub mod EntryLists
pub mod FourFields
pub mod GroupTotals
pub mod HeldTotals
pub mod MergedTables
pub mod OneReading
pub mod OtherOrders
pub mod SumLaws
