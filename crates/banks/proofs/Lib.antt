-- Laws of bank conflicts. Assumes nothing.
pub mod Order
pub mod Stamps
pub mod Costing
pub mod Distance
pub mod Memory
pub mod Near
