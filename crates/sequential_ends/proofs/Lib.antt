mod WordLists
mod Packing
mod LayerPoints
mod KeptOrders
mod RowLists
mod EveryEnd
