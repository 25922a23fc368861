pub mod Parts
pub mod Decimal
pub mod Printed
pub mod ReadBack
